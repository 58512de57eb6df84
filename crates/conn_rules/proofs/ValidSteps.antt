-- SPDX-License-Identifier: MIT OR Apache-2.0
-- The steps of which rows consist keep the invariant.
use Rattle.conn_rules.proofs.Prelude.{cond_both, ◌≡◌, ℕ, suc, ◌+◌, ◌≤◌, Bool, true, false, ◌&&◌, List, [], ◌∷◌, ◌++◌, length, refl, sym}
use Rattle.conn_rules.proofs.Prelude.{◌∙◌, subst, arith, eqb, Option, Some, None, true≢false, IsLayer3, EQUIPMENT_FAILURE, Change}
use Rattle.conn_rules.proofs.Prelude.{Assignment, Channel, Sapi, Three, TenureHold, chain_count, put_in, HoldState, count, ◌<◌, ltb-true}
use Rattle.conn_rules.proofs.Prelude.{ltb-false, lit<, DOWN_LIMIT, DRAIN_LIMIT, UP_LIMIT, Drain, ShortMessageLink, Down, Asked, Up, Stage}
use Rattle.conn_rules.proofs.Prelude.{Active, Preparing, Changing, Draining, State, WaitConfirm, Live, Closed, Removed, Target, Connection}
use Rattle.conn_rules.proofs.Prelude.{enter, emptied, new_connection, FirstIsEmpty, OldestDrains, DrainTime, IsAskedFor, IsValidStage, IsValidState}
use Rattle.conn_rules.proofs.Prelude.{IsValid, OfRow, ChainState}
use Rattle.conn_rules.specs.declared.state.Clearing.{Clearing}
use Rattle.conn_rules.specs.Steps.{Row, failing, may_begin, begin, after_waiting, begin_waiting, hold_down, hold_short_message, short_message, link_for, link_up, link_down, hold_up, relay_held}
use Rattle.conn_rules.specs.Table.{row_if}
use Rattle.conn_rules.proofs.ValidParts.{ValidDown, valid_down_new, valid_down_put, valid_down_without, ValidUp, valid_up_new, valid_up_put, valid_up_cleared, first_is_empty_cleared, length-put_in, length-first_cleared, nothing}

-- a row that fits where a test holds
pub of_row_row_if : (P : Row → Type 0) (test : Bool) (r : Row) → (test ≡ true → P r) → OfRow P (row_if test r)
of_row_row_if P true r holds = holds refl
of_row_row_if P false r holds = tt

-- ---- the holds alone

pub record Holds (s : Connection) : Type 0 where
  pub down : ValidDown s.down
  pub up : ValidUp s.up

pub holds_of : (s : Connection) → IsValid s → Holds s
holds_of s valid = record {
  down = record { limit = valid.down_limit; within = valid.down_within; zero = valid.down_zero; three = valid.down_three };
  up = record { limit = valid.up_limit; within = valid.up_within; each = valid.up_messages };
}

valid_of : (s : Connection) →
    IsValidState s.state s.draining s.down s.up.tenures s.link s.waits →
    ValidDown s.down →
    ValidUp s.up →
    DrainTime s.draining s.drained →
    IsValid s
valid_of s state down up time = record {
  state = state;
  down_limit = down.limit;
  up_limit = up.limit;
  down_within = down.within;
  up_within = up.within;
  down_zero = down.zero;
  down_three = down.three;
  up_messages = up.each;
  drain_time = time;
}

-- ---- states that aren't live

pub IsValid-new : (number : ℕ) (channel : Channel) (request : _) (delay : ℕ) → IsValid (new_connection number channel request delay)
IsValid-new number channel request delay =
    valid_of (new_connection number channel request delay)
    (record { none_drains = refl; none_handed = refl; one_tenure = refl; none_waits = refl }, refl)
    (valid_down_new DOWN_LIMIT refl) (valid_up_new UP_LIMIT refl) refl

pub valid_removed : (s : Connection) → Holds s → IsValid (emptied Removed s)
valid_removed s holds =
    valid_of (emptied Removed s) (record { none_drains = refl; none_handed = refl; one_tenure = refl; none_waits = refl })
    (valid_down_new s.down.limit holds.down.limit) (valid_up_new s.up.limit holds.up.limit) refl

pub valid_closed : (clearing : Clearing) (s : Connection) → Holds s → IsValid (emptied (Closed clearing) s)
valid_closed clearing s holds =
    valid_of (emptied (Closed clearing) s) (record { none_drains = refl; none_handed = refl; one_tenure = refl; none_waits = refl })
    (valid_down_new s.down.limit holds.down.limit) (valid_up_new s.up.limit holds.up.limit) refl

pub valid_failing : (state : State) (s : Connection) (cause : ℕ) → Holds s → IsValid (failing state s cause).next
valid_failing (Live reference stage) s cause holds = valid_closed _ s holds
valid_failing _ s cause holds = valid_closed _ s holds

-- another state, of which the same is true
pub valid_enter : (state : State) (s : Connection) →
    IsValidState state s.draining s.down s.up.tenures s.link s.waits →
    IsValid s →
    IsValid (enter state s)
valid_enter state s by valid = valid_of (enter state s) by (holds_of s valid).down (holds_of s valid).up valid.drain_time

-- the state, where it is known
pub by_state : (state : State) (s : Connection) →
    s.state ≡ state →
    IsValid s →
    IsValidState state s.draining s.down s.up.tenures s.link s.waits
by_state state s is valid = subst (λ (state : State). IsValidState state s.draining s.down s.up.tenures s.link s.waits) is valid.state

-- ---- live connections: what doesn't depend on the stage

pub record IsAlive (draining : List Drain) (drained : ℕ) (hold : HoldState) (chain : ChainState) : Type 0 where
  pub each : length chain.tenures ≡ length draining + 1
  pub first : FirstIsEmpty chain.tenures
  pub oldest : OldestDrains draining
  pub time : DrainTime draining drained
  pub down : ValidDown hold
  pub up : ValidUp chain

pub with_hold : {draining : List Drain} {drained : ℕ} {hold new : HoldState} {chain : ChainState} →
    IsAlive draining drained hold chain →
    ValidDown new →
    IsAlive draining drained new chain
with_hold is_alive down = record { each = is_alive.each; first = is_alive.first; oldest = is_alive.oldest; time = is_alive.time; down = down; up = is_alive.up }

with_chain : {draining : List Drain} {drained : ℕ} {hold : HoldState} {chain new : ChainState} →
    IsAlive draining drained hold chain →
    length new.tenures ≡ length chain.tenures →
    FirstIsEmpty new.tenures →
    ValidUp new →
    IsAlive draining drained hold new
with_chain is_alive same first up = record { each = same ∙ is_alive.each; first = first; oldest = is_alive.oldest; time = is_alive.time; down = is_alive.down; up = up }

abbrev pub AliveIn : Connection → Type 0
AliveIn s = IsAlive s.draining s.drained s.down s.up

pub alive : (reference : ℕ) (stage : Stage) (s : Connection) → s.state ≡ Live reference stage → IsValid s → AliveIn s
alive reference stage s is valid =
    let live = by_state (Live reference stage) s is valid in
    let holds = holds_of s valid in
    record { each = live.a_tenure_each; first = live.first; oldest = live.oldest; time = valid.drain_time; down = holds.down; up = holds.up }

pub in_stage : (reference : ℕ) (stage : Stage) (s : Connection) →
    s.state ≡ Live reference stage →
    IsValid s →
    IsValidStage stage s.draining s.down s.link s.waits
in_stage reference stage s is valid = (by_state (Live reference stage) s is valid).valid

pub valid_live : (reference : ℕ) (stage : Stage) (s : Connection) →
    s.state ≡ Live reference stage →
    AliveIn s →
    IsValidStage stage s.draining s.down s.link s.waits →
    IsValid s
valid_live reference stage s is is_alive valid =
    valid_of s (subst (λ (state : State). IsValidState state s.draining s.down s.up.tenures s.link s.waits) (sym is)
    (record { a_tenure_each = is_alive.each; first = is_alive.first; oldest = is_alive.oldest; valid = valid }))
    is_alive.down is_alive.up is_alive.time

-- ---- a change begins

-- a stage whose request may wait where it could begin, until the row's end
abbrev pub ValidBut : Stage → List Drain → HoldState → ShortMessageLink → Type 0
ValidBut Active draining down link = (draining ≡ []) × (down.zero ≡ []) × IsAskedFor link down.three
ValidBut (Preparing target) draining down link = (length draining < DRAIN_LIMIT) × (down.zero ≡ []) × IsAskedFor link down.three
ValidBut (Changing target) draining down link = (length draining < DRAIN_LIMIT) × (link ≡ Down)
ValidBut Draining draining down link = (1 ≤ length draining) × (length draining ≤ DRAIN_LIMIT) × (down.zero ≡ []) × IsAskedFor link down.three

pub valid_but_of : (stage : Stage) (draining : List Drain) (down : HoldState) (link : ShortMessageLink) (waits : Bool) →
    IsValidStage stage draining down link waits →
    ValidBut stage draining down link
valid_but_of Active draining down link waits valid = (valid.0, valid.1, valid.2)
valid_but_of Draining draining down link waits valid = (valid.0, valid.1, valid.2, valid.3)
valid_but_of _ draining down link waits valid = valid

-- nothing waits
valid_in_free : (stage : Stage) (draining : List Drain) (down : HoldState) (link : ShortMessageLink) →
    ValidBut stage draining down link →
    IsValidStage stage draining down link false
valid_in_free Active draining down link valid = (valid.0, valid.1, valid.2, refl)
valid_in_free Draining draining down link valid = (valid.0, valid.1, valid.2, valid.3, λ waits. absurd (true≢false (sym waits)))
valid_in_free _ draining down link valid = valid

-- what waits may not begin
pub valid_in_waiting : (stage : Stage) (draining : List Drain) (down : HoldState) (link : ShortMessageLink) →
    may_begin stage draining ≡ false →
    ValidBut stage draining down link →
    IsValidStage stage draining down link true
valid_in_waiting Active draining down link full valid = absurd (true≢false full)
valid_in_waiting Draining draining down link full valid =
    let three = ltb-false (length draining) DRAIN_LIMIT full in
    let most = valid.1 in
    (valid.0, valid.1, valid.2, valid.3, λ waits. omega arith)
valid_in_waiting _ draining down link full valid = valid

-- a change begins
valid_in_preparing : (stage : Stage) (target : Target) (draining : List Drain) (down : HoldState) (link : ShortMessageLink) (waits : Bool) →
    may_begin stage draining ≡ true →
    ValidBut stage draining down link →
    IsValidStage (Preparing target) draining down link waits
valid_in_preparing Active target draining down link waits may valid = (subst (λ (ds : List Drain). length ds < DRAIN_LIMIT) (sym valid.0) (lit< tt), valid.1, valid.2)
valid_in_preparing Draining target draining down link waits may valid = (ltb-true (length draining) DRAIN_LIMIT may, valid.2, valid.3)
valid_in_preparing _ target draining down link waits may valid = absurd (true≢false (sym may))

pub valid_begin : (reference : ℕ) (stage : Stage) (change : Change) (offer : Option Channel) (s : Connection) →
    AliveIn s →
    may_begin stage s.draining ≡ true →
    ValidBut stage s.draining s.down s.link →
    IsValid s →
    IsValid (begin reference change offer s).next
valid_begin reference stage change (Some channel) s is_alive may but valid =
    let target : Target = record { change = change; channel = channel } in
    valid_live reference (Preparing target) (enter (Live reference (Preparing target)) s) refl is_alive (valid_in_preparing stage target s.draining s.down s.link s.waits may but)
valid_begin reference stage change None s is_alive may but valid = valid

-- the request that waits begins, where it may
pub valid_begin_waiting : (reference : ℕ) (stage : Stage) (offer : Option Channel) (s : Connection) →
    s.state ≡ Live reference stage →
    AliveIn s →
    ValidBut stage s.draining s.down s.link →
    IsValid (begin_waiting stage reference offer s).next
valid_begin_waiting reference stage offer s is is_alive but =
    after s.waits (may_begin stage s.draining) refl refl
  where
    waiting : (waits : Bool) → IsValidStage stage s.draining s.down s.link waits → IsValid (record s { waits = waits })
    waiting waits valid = valid_live reference stage (record s { waits = waits }) is is_alive valid

    after : (waits may : Bool) →
        s.waits ≡ waits →
        may_begin stage s.draining ≡ may →
        IsValid (after_waiting (waits && may) reference offer s)
    after true true is_waiting may =
        valid_begin reference stage Assignment offer (record s { waits = false }) is_alive may but (waiting false (valid_in_free stage s.draining s.down s.link but))
    after true false is_waiting may =
        subst (λ (waits : Bool). IsValid (record s { waits = waits })) (sym is_waiting) (waiting true (valid_in_waiting stage s.draining s.down s.link may but))
    after false _ is_waiting may =
        subst (λ (waits : Bool). IsValid (record s { waits = waits })) (sym is_waiting) (waiting false (valid_in_free stage s.draining s.down s.link but))

-- ---- the links

-- no channel changes
abbrev pub IsStill : Stage → Type 0
IsStill (Changing target) = ⊥
IsStill _ = Unit {0}

is_asked_for_nothing : (link : ShortMessageLink) → IsAskedFor link []
is_asked_for_nothing Asked = tt
is_asked_for_nothing _ = refl

pub is_asked_for_for : (link : ShortMessageLink) (three : List (List ℕ)) → IsAskedFor (link_for three link) three
is_asked_for_for link [] = is_asked_for_nothing link
is_asked_for_for link (first ∷ rest) = tt

valid_in_link : (stage : Stage) (draining : List Drain) (down : HoldState) (link new : ShortMessageLink) (three : List (List ℕ)) (waits : Bool) →
    IsStill stage →
    IsAskedFor new three →
    IsValidStage stage draining down link waits →
    IsValidStage stage draining (record down { three = three }) new waits
valid_in_link Active draining down link new three waits still asked valid = (valid.0, valid.1, asked, valid.3)
valid_in_link (Preparing target) draining down link new three waits still asked valid = (valid.0, valid.1, asked)
valid_in_link (Changing target) draining down link new three waits still asked valid = absurd still
valid_in_link Draining draining down link new three waits still asked valid = (valid.0, valid.1, valid.2, asked, valid.4)

pub asked_for : (stage : Stage) (draining : List Drain) (down : HoldState) (link : ShortMessageLink) (waits : Bool) →
    IsStill stage →
    IsValidStage stage draining down link waits →
    IsAskedFor link down.three
asked_for (Changing target) draining down link waits still valid = absurd still
asked_for Draining draining down link waits still valid = valid.3
asked_for _ draining down link waits still valid = valid.2

pub none_held : (stage : Stage) (draining : List Drain) (down : HoldState) (link : ShortMessageLink) (waits : Bool) →
    IsStill stage →
    IsValidStage stage draining down link waits →
    down.zero ≡ []
none_held (Changing target) draining down link waits still valid = absurd still
none_held Draining draining down link waits still valid = valid.2
none_held _ draining down link waits still valid = valid.1

pub valid_link_up : (reference : ℕ) (stage : Stage) (s : Connection) →
    IsStill stage →
    s.state ≡ Live reference stage →
    IsValid s →
    IsValid (link_up s).next
valid_link_up reference stage s still is valid =
    let is_alive = alive reference stage s is valid in
    valid_live reference stage (link_up s).next is (with_hold is_alive (valid_down_without Three s.down is_alive.down))
    (valid_in_link stage s.draining s.down s.link Up [] s.waits still refl (in_stage reference stage s is valid))

pub valid_link_down : (reference : ℕ) (stage : Stage) (link : ShortMessageLink) (s : Connection) →
    s.link ≡ link →
    IsStill stage →
    s.state ≡ Live reference stage →
    IsValid s →
    IsValid (link_down link reference s).next
valid_link_down reference stage Asked s was still is valid =
    let is_alive = alive reference stage s is valid in
    valid_live reference stage (link_down Asked reference s).next is (with_hold is_alive (valid_down_without Three s.down is_alive.down))
    (valid_in_link stage s.draining s.down s.link Down [] s.waits still refl (in_stage reference stage s is valid))
valid_link_down reference stage Down s was still is valid =
    let valid_stage = in_stage reference stage s is valid in
    let asked = asked_for stage s.draining s.down s.link s.waits still valid_stage in
    valid_live reference stage (link_down Down reference s).next is (alive reference stage s is valid)
    (valid_in_link stage s.draining s.down s.link Down s.down.three s.waits still (subst (λ (link : ShortMessageLink). IsAskedFor link s.down.three) was asked) valid_stage)
valid_link_down reference stage Up s was still is valid =
    let valid_stage = in_stage reference stage s is valid in
    let asked = asked_for stage s.draining s.down s.link s.waits still valid_stage in
    valid_live reference stage (link_down Up reference s).next is (alive reference stage s is valid)
    (valid_in_link stage s.draining s.down s.link Down s.down.three s.waits still (subst (λ (link : ShortMessageLink). IsAskedFor link s.down.three) was asked) valid_stage)

-- ---- messages are held

-- of the switch, while a channel changes
pub valid_hold_down : (reference : ℕ) (target : Target) (sapi : Sapi) (message : List ℕ) (s : Connection) →
    s.state ≡ Live reference (Changing target) →
    IsLayer3 message →
    IsValid s →
    IsValid (hold_down (Live reference (Changing target)) sapi message s).next
valid_hold_down reference target sapi message s is carried valid =
    let is_alive = alive reference (Changing target) s is valid in
    cond_both (eqb (count s.down) s.down.limit) _ _ (λ (r : Row). IsValid r.next)
    (λ full. valid_failing (Live reference (Changing target)) s EQUIPMENT_FAILURE (holds_of s valid))
    (λ room. valid_live reference (Changing target) _ is (with_hold is_alive (valid_down_put sapi message s.down is_alive.down room carried)) (in_stage reference (Changing target) s is valid))

-- of the switch, for a link that isn't up
valid_hold_short : (reference : ℕ) (stage : Stage) (message : List ℕ) (s : Connection) →
    IsStill stage →
    s.state ≡ Live reference stage →
    IsLayer3 message →
    IsValid s →
    IsValid (hold_short_message (Live reference stage) message s).next
valid_hold_short reference stage message s still is carried valid =
    let is_alive = alive reference stage s is valid in
    cond_both (eqb (count s.down) s.down.limit) _ _ (λ (r : Row). IsValid r.next)
    (λ full. valid_failing (Live reference stage) s EQUIPMENT_FAILURE (holds_of s valid))
    (λ room. valid_live reference stage _ is (with_hold is_alive (valid_down_put Three message s.down is_alive.down room carried))
    (valid_in_link stage s.draining s.down s.link Asked (s.down.three ++ message ∷ []) s.waits still tt (in_stage reference stage s is valid)))

pub valid_short_message : (reference : ℕ) (stage : Stage) (link : ShortMessageLink) (message : List ℕ) (s : Connection) →
    IsStill stage →
    s.state ≡ Live reference stage →
    IsLayer3 message →
    IsValid s →
    IsValid (short_message (Live reference stage) link message s).next
valid_short_message reference stage Up message s still is carried valid = valid
valid_short_message reference stage _ message s still is carried valid = valid_hold_short reference stage message s still is carried valid

-- of the mobile
first_is_empty_put_in : (place : ℕ) (sapi : Sapi) (message : List ℕ) (ts : List TenureHold) →
    FirstIsEmpty ts →
    FirstIsEmpty (put_in (suc place) sapi message ts)
first_is_empty_put_in place sapi message [] first = first
first_is_empty_put_in place sapi message (t ∷ ts) first = first

pub valid_hold_up : (reference : ℕ) (stage : Stage) (place : ℕ) (sapi : Sapi) (message : List ℕ) (s : Connection) →
    s.state ≡ Live reference stage →
    IsLayer3 message →
    IsValid s →
    IsValid (hold_up (Live reference stage) (suc place) sapi message s).next
valid_hold_up reference stage place sapi message s is carried valid =
    let is_alive = alive reference stage s is valid in
    cond_both (eqb (chain_count s.up) s.up.limit) _ _ (λ (r : Row). IsValid r.next)
    (λ full. valid_failing (Live reference stage) s EQUIPMENT_FAILURE (holds_of s valid))
    (λ room. valid_live reference stage _ is
    (with_chain is_alive (length-put_in (suc place) sapi message s.up.tenures) (first_is_empty_put_in place sapi message s.up.tenures is_alive.first) (valid_up_put (suc place) sapi message s.up is_alive.up room carried))
    (in_stage reference stage s is valid))

-- the first messages wait for the switch
pub valid_hold_first : (sapi : Sapi) (message : List ℕ) (s : Connection) →
    s.state ≡ WaitConfirm →
    IsLayer3 message →
    IsValid s →
    IsValid (hold_up WaitConfirm 0 sapi message s).next
valid_hold_first sapi message s is carried valid =
    let awaits = by_state WaitConfirm s is valid in
    let holds = holds_of s valid in
    cond_both (eqb (chain_count s.up) s.up.limit) _ _ (λ (r : Row). IsValid r.next)
    (λ full. valid_failing WaitConfirm s EQUIPMENT_FAILURE holds)
    (λ room. valid_of _
    (subst (λ (state : State). IsValidState state s.draining s.down (put_in 0 sapi message s.up.tenures) s.link s.waits) (sym is)
    (record { none_drains = awaits.none_drains; none_handed = awaits.none_handed; one_tenure = length-put_in 0 sapi message s.up.tenures ∙ awaits.one_tenure; down_link = awaits.down_link; none_waits = awaits.none_waits }))
    holds.down (valid_up_put 0 sapi message s.up holds.up room carried) valid.drain_time)

-- the switch confirms the connection: they are relayed
pub valid_confirmed : (reference : ℕ) (s : Connection) →
    s.state ≡ WaitConfirm →
    IsValid s →
    IsValid (relay_held reference (enter (Live reference Active) s)).next
valid_confirmed reference s is valid =
    let awaits = by_state WaitConfirm s is valid in
    let holds = holds_of s valid in
    let none = awaits.none_handed in
    valid_live reference Active _ refl
    (record {
      each = length-first_cleared s.up.tenures ∙ awaits.one_tenure ∙ rw awaits.none_drains refl;
      first = first_is_empty_cleared s.up.tenures awaits.one_tenure;
      oldest = rw awaits.none_drains tt;
      time = valid.drain_time;
      down = holds.down;
      up = valid_up_cleared s.up holds.up;
    })
    (awaits.none_drains, nothing s.down.zero (omega arith), subst (λ (link : ShortMessageLink). IsAskedFor link s.down.three) (sym awaits.down_link) (nothing s.down.three (omega arith)), awaits.none_waits)
