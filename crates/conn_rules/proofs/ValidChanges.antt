-- SPDX-License-Identifier: MIT OR Apache-2.0
-- The invariant is kept when a change ends, and when old channels leave.
use Rattle.conn_rules.proofs.Prelude.{cond_both, ◌≡◌, ℕ, ◌+◌, ◌≤◌, false, List, [], ◌∷◌, ◌++◌, length, refl, ◌∙◌, arith, Option, Change}
use Rattle.conn_rules.proofs.Prelude.{Channel, Zero, empty_tenure, HoldState, with_messages, ◌<◌, le_trans, length-append, DRAIN_LIMIT}
use Rattle.conn_rules.proofs.Prelude.{Drain, ShortMessageLink, Stage, Active, Preparing, Changing, Draining, Live, Target, Connection}
use Rattle.conn_rules.proofs.Prelude.{enter, FirstIsEmpty, DrainTime, IsAskedFor, IsValid}
use Rattle.conn_rules.specs.Steps.{Row, begin_waiting, resting_stage, resting, moved, hand_held, ask_for_held, link_for, relay_held, done_at, leave, settled, settled_stage, shifted}
use Rattle.conn_rules.specs.Table.{complete, failure, release}
use Rattle.conn_rules.proofs.ValidParts.{ValidDown, valid_down_without, ValidUp, valid_up_ended, valid_up_begun, first_is_empty_begun, oldest_drains_more, drain_time_more, first_is_empty_ended, drain_time_anew, drain_time_done_at, length-ended, length-done_at, nothing}
use Rattle.conn_rules.proofs.ValidSteps.{AliveIn, alive, in_stage, ValidBut, valid_but_of, valid_begin_waiting, is_asked_for_for, with_hold}

-- ---- the change ends

valid_but_resting : (draining : List Drain) (down : HoldState) (link : ShortMessageLink) →
    length draining < DRAIN_LIMIT →
    down.zero ≡ [] →
    IsAskedFor link down.three →
    ValidBut (resting_stage draining) draining down link
valid_but_resting [] down link few none asked = (refl, none, asked)
valid_but_resting (d ∷ ds) down link few none asked = (omega arith, omega arith, none, asked)

-- the target can't be had
pub valid_nack : (reference : ℕ) (target : Target) (offer : Option Channel) (s : Connection) →
    s.state ≡ Live reference (Preparing target) →
    IsValid s →
    IsValid (begin_waiting (resting_stage s.draining) reference offer (resting reference s)).next
valid_nack reference target offer s is valid =
    let valid_stage = in_stage reference (Preparing target) s is valid in
    valid_begin_waiting reference (resting_stage s.draining) offer (resting reference s) refl (alive reference (Preparing target) s is valid)
    (valid_but_resting s.draining s.down s.link valid_stage.0 valid_stage.1 valid_stage.2)

-- the mobile is back
pub valid_failure : (reference : ℕ) (target : Target) (change : Change) (channel : Channel) (cause : ℕ) (offer : Option Channel) (s : Connection) →
    s.state ≡ Live reference (Changing target) →
    IsValid s →
    IsValid (failure reference change channel cause offer s).next
valid_failure reference target change channel cause offer s is valid =
    let is_alive = alive reference (Changing target) s is valid in
    let valid_stage = in_stage reference (Changing target) s is valid in
    valid_begin_waiting reference (resting_stage s.draining) offer (ask_for_held (hand_held Zero (resting reference s)).next).next refl
    (with_hold is_alive (valid_down_without Zero s.down is_alive.down))
    (valid_but_resting s.draining (with_messages s.down Zero []) (link_for s.down.three s.link) valid_stage.0 refl (is_asked_for_for s.link s.down.three))

-- the target serves, and the channel that served drains
pub valid_complete : (reference : ℕ) (target : Target) (change : Change) (channel : Channel) (cause : ℕ) (offer : Option Channel) (s : Connection) →
    s.state ≡ Live reference (Changing target) →
    IsValid s →
    IsValid (complete reference change channel cause offer s).next
valid_complete reference target change channel cause offer s is valid =
    let is_alive = alive reference (Changing target) s is valid in
    let valid_stage = in_stage reference (Changing target) s is valid in
    let each = is_alive.each in
    let few = valid_stage.0 in
    let old : Drain = record { channel = s.serving; is_done = false } in
    let more : length (s.draining ++ old ∷ []) ≡ length s.draining + 1 = length-append s.draining (old ∷ []) in
    let tenures : length (s.up.tenures ++ empty_tenure ∷ []) ≡ length s.up.tenures + 1 = length-append s.up.tenures (empty_tenure ∷ []) in
    valid_begin_waiting reference Draining offer (ask_for_held (hand_held Zero (moved reference channel s)).next).next refl
    (record {
      each = omega arith;
      first = first_is_empty_begun s.up.tenures is_alive.first;
      oldest = oldest_drains_more s.draining old is_alive.oldest refl;
      time = drain_time_more s.draining old s.drained;
      down = valid_down_without Zero s.down is_alive.down;
      up = valid_up_begun s.up is_alive.up;
    })
    (omega arith, omega arith, refl, is_asked_for_for s.link s.down.three)

-- ---- old channels leave

-- what is left when the oldest ones that are done left
record IsLeft (channels : ℕ) (s left : Connection) : Type 0 where
  pub state : left.state ≡ s.state
  pub link : left.link ≡ s.link
  pub hold : left.down ≡ s.down
  pub fewer : length left.draining ≤ channels
  pub is_alive : AliveIn left

is_left_more : {s t left : Connection} {channels more : ℕ} →
    t.state ≡ s.state →
    t.link ≡ s.link →
    t.down ≡ s.down →
    channels ≤ more →
    IsLeft channels t left →
    IsLeft more s left
is_left_more state link hold few left = record {
  state = left.state ∙ state;
  link = left.link ∙ link;
  hold = left.hold ∙ hold;
  fewer = le_trans left.fewer few;
  is_alive = left.is_alive;
}

is_left_leave : (reference : ℕ) (ds : List Drain) (s : Connection) →
    length s.up.tenures ≡ length ds + 1 →
    FirstIsEmpty s.up.tenures →
    DrainTime ds s.drained →
    ValidDown s.down →
    ValidUp s.up →
    IsLeft (length ds) s (leave reference ds s).next
is_left_leave reference [] s each first time down up =
    record { state = refl; link = refl; hold = refl; fewer = omega arith; is_alive = record { each = each; first = first; oldest = tt; time = time; down = down; up = up } }
is_left_leave reference (d ∷ ds) s each first time down up =
    cond_both d.is_done _ _ (λ (r : Row). IsLeft (length (d ∷ ds)) s r.next)
    (λ done. is_left_more {t = next} refl refl refl (omega arith)
    (is_left_leave reference ds next (length-ended s.up.tenures (length ds) (each ∙ omega arith)) (first_is_empty_ended s.up.tenures (length ds) (each ∙ omega arith)) (drain_time_anew ds) down (valid_up_ended s.up up)))
    (λ drains. record { state = refl; link = refl; hold = refl; fewer = omega arith; is_alive = record { each = each; first = first; oldest = drains; time = tt; down = down; up = up } })
  where
    next : Connection
    next = (relay_held reference (shifted ds s)).next

-- Draining without an old channel is Active
valid_but_settled : (stage : Stage) (before after : List Drain) (down : HoldState) (link : ShortMessageLink) →
    length after ≤ length before →
    ValidBut stage before down link →
    ValidBut (settled_stage stage after) after down link
valid_but_settled Active before after down link few valid = (nothing after (let none : length before ≡ 0 = rw valid.0 refl in omega arith), valid.1, valid.2)
valid_but_settled (Preparing target) before after down link few valid = (let fewer = valid.0 in omega arith, valid.1, valid.2)
valid_but_settled (Changing target) before after down link few valid = (let fewer = valid.0 in omega arith, valid.1)
valid_but_settled Draining before [] down link few valid = (refl, valid.2, valid.3)
valid_but_settled Draining before (d ∷ ds) down link few valid = (omega arith, le_trans few valid.1, valid.2, valid.3)

-- the waiting request begins behind what settled
abbrev rests_then_begins : ℕ → Stage → Option Channel → List Drain → Connection → Connection
rests_then_begins reference stage offer ds left =
    (begin_waiting (settled_stage stage (settled reference stage ds left).draining) reference offer (settled reference stage ds left)).next

valid_settled : (reference : ℕ) (stage : Stage) (offer : Option Channel) (ds : List Drain) (left : Connection) →
    left.draining ≡ ds →
    left.state ≡ Live reference stage →
    AliveIn left →
    ValidBut (settled_stage stage left.draining) left.draining left.down left.link →
    IsValid (rests_then_begins reference stage offer ds left)
valid_settled reference Active offer ds left are is is_alive but = valid_begin_waiting reference Active offer left is is_alive but
valid_settled reference (Preparing target) offer ds left are is is_alive but = valid_begin_waiting reference (Preparing target) offer left is is_alive but
valid_settled reference (Changing target) offer ds left are is is_alive but = valid_begin_waiting reference (Changing target) offer left is is_alive but
valid_settled reference Draining offer [] left are is is_alive but =
    valid_begin_waiting reference (settled_stage Draining left.draining) offer (enter (Live reference Active) left)
    (rw are refl) is_alive but
valid_settled reference Draining offer (d ∷ ds) left are is is_alive but =
    valid_begin_waiting reference (settled_stage Draining left.draining) offer left (rw are is) is_alive but

pub valid_release : (reference : ℕ) (stage : Stage) (place : ℕ) (offer : Option Channel) (s : Connection) →
    s.state ≡ Live reference stage →
    IsValid s →
    IsValid (release reference stage place offer s).next
valid_release reference stage place offer s is valid =
    let is_alive = alive reference stage s is valid in
    let same : length (done_at place s.draining) ≡ length s.draining = length-done_at place s.draining in
    let left : IsLeft (length (done_at place s.draining)) s (leave reference (done_at place s.draining) s).next =
    is_left_leave reference (done_at place s.draining) s (rw same is_alive.each) is_alive.first (drain_time_done_at place s.draining s.drained is_alive.time) is_alive.down is_alive.up in
    let fewer = left.fewer in
    let but : ValidBut stage s.draining s.down s.link = valid_but_of stage s.draining s.down s.link s.waits (in_stage reference stage s is valid) in
    valid_settled reference stage offer (leave reference (done_at place s.draining) s).next.draining (leave reference (done_at place s.draining) s).next refl (left.state ∙ is) left.is_alive
    (valid_but_settled stage s.draining _ _ _ (omega arith) (rw (left.hold, left.link) but))
