-- SPDX-License-Identifier: MIT OR Apache-2.0
-- Facts about each connection of the controller, kept by every step.
use Rattle.controller_model.proofs.Prelude.{◌≡◌, ℕ, ◌==◌, ◌≤◌, Bool, true, false, if◌then◌else◌, List, [], ◌∷◌, fold, Option, Some, None}
use Rattle.controller_model.proofs.Prelude.{refl, sym, subst, ap, ◌∙◌, inl, inr, arith, true≢false, cases_Bool, cond-true, cond-false}
use Rattle.controller_model.proofs.Prelude.{eq-eqb, Message, SWITCH_LINK, Input, Drain, State, Removed, Connection, IsCarried, IsValid, Row}
use Rattle.controller_model.proofs.Prelude.{OfRow, on_switch_down, after_pass, What, Parameters, IsValid-new, DrainTime, drained_after, Acts}
use Rattle.controller_model.proofs.Prelude.{IsAged, passed, Brought, IsBrought, IsTimer, if_held, brought_by, brought_with, brought_in}
use Rattle.controller_model.proofs.Prelude.{kept_in, ages, rests, opens, takes_row, nothing, of_frame, reports, breaks, passes}
use Rattle.controller_model.proofs.Prelude.{connection_of}
use Rattle.controller_model.proofs.Prelude.{IsNumbered, is_link_up, Step, Take, Tick, Word, OnChannel, OnConnection, Controller, is_up}
use Rattle.controller_model.proofs.Prelude.{channel_state, holder, new_controller, break_of, step, word_of}
use Rattle.conn_rules.proofs.ValidTable.{IsValid-row}
use Rattle.conn_rules.specs.declared.input.Input.TheVariants as inputs
use Rattle.conn_rules.specs.Table.{row_of}
use Rattle.controller_model.proofs.LifeLaws.Beside.{step_keeps_rest, links_with, links_after, other_link}
use Rattle.controller_model.proofs.LifeLaws.Readings.{IsCarriedBy, word_carried}
use Rattle.controller_model.proofs.LifeLaws.Turns.{step_does, step_numbered}
use Rattle.ruled_relay.specs.declared.item.What.TheVariants as whats

-- ---- time passes

drain_time : (ms : ℕ) (draining : List Drain) (drained : ℕ) →
    DrainTime draining drained →
    DrainTime draining (drained_after ms draining drained)
drain_time ms [] drained time = time
drain_time ms (d ∷ ds) drained time = tt

pub pass_valid : (ms : ℕ) (s : Connection) → IsValid s → IsValid (after_pass ms s)
pass_valid ms s valid = record {
  state = valid.state;
  down_limit = valid.down_limit;
  up_limit = valid.up_limit;
  down_within = valid.down_within;
  up_within = valid.up_within;
  down_zero = valid.down_zero;
  down_three = valid.down_three;
  up_messages = valid.up_messages;
  drain_time = drain_time ms s.draining s.drained valid.drain_time;
}

-- what a time keeps, all times keep
pub aged_keeps : (P : Connection → Type 0) →
    ((ms : ℕ) (s : Connection) → P s → P (after_pass ms s)) →
    (s : Connection) (times : List ℕ) →
    P s →
    P (fold passed s times)
aged_keeps P keeps s [] holds = holds
aged_keeps P keeps s (ms ∷ times) holds = aged_keeps P keeps (after_pass ms s) times (keeps ms s holds)

pub aged_holds : (P : Connection → Type 0) →
    ((ms : ℕ) (s : Connection) → P s → P (after_pass ms s)) →
    (old s : Connection) →
    IsAged old s →
    P old →
    P s
aged_holds P keeps old s aged holds = subst P (sym aged.1) (aged_keeps P keeps old aged.0 holds)

-- ---- what is brought

pub IsCarriedIn : Brought → Type 0
IsCarriedIn (of_frame input) = IsCarried input
IsCarriedIn _ = Unit {0}

held_carried : (number : ℕ) (o : Option ℕ) (input : Input) → IsCarried input → IsCarriedIn (if_held number o input)
unfolding IsCarriedIn
held_carried number None input carried = tt
held_carried number (Some holder) input carried = elim (cases_Bool (holder == number)) [
  | inl hit ↦ subst IsCarriedIn (sym (cond-true _ (of_frame input) nothing hit)) carried
  | inr miss ↦ subst IsCarriedIn (sym (cond-false _ (of_frame input) nothing miss)) tt
]

by_carried : (c : Controller) (number : ℕ) (word : Word) → IsCarriedBy word → IsCarriedIn (brought_by c number word)
unfolding IsCarriedIn
by_carried c number (OnChannel at input) carried = held_carried number (holder (channel_state c at)) input carried
by_carried c number (OnConnection destination input) carried = held_carried number (Some destination) input carried
by_carried c number _ carried = tt

with_carried : (up : Bool) (c : Controller) (number source : ℕ) (what : What) →
    IsCarriedIn (if up then brought_with c number source what else nothing)
unfolding IsCarriedIn
with_carried true c number source (whats.Frame frame) = by_carried c number (word_of source frame) (word_carried source frame)
with_carried true c number source whats.Down = tt
with_carried false c number source what = tt

pub in_carried : (c : Controller) (number : ℕ) (s : Step) → IsCarriedIn (brought_in c number s)
unfolding IsCarriedIn
in_carried c number (Take item) = with_carried (is_up c item.source) c number item.source item.what
in_carried c number (Tick ms) = tt

pub timer_carried : (input : Input) → IsTimer input → IsCarried input
timer_carried inputs.Expiry timer = tt
timer_carried inputs.DrainExpiry timer = tt
timer_carried _ timer = absurd timer

abbrev pub IsLinkBreak : Input → Type 0
IsLinkBreak inputs.SwitchDown = Unit {0}
IsLinkBreak (inputs.StationDown station) = Unit {0}
IsLinkBreak _ = ⊥

pub break_carried : (input : Input) → IsLinkBreak input → IsCarried input
break_carried inputs.SwitchDown is = tt
break_carried (inputs.StationDown station) is = tt
break_carried _ is = absurd is

pub own_carried : (source : ℕ) → IsLinkBreak (break_of source)
own_carried source = elim (cases_Bool (source == SWITCH_LINK)) [
  | inl switch ↦ subst IsLinkBreak (sym (cond-true _ inputs.SwitchDown (inputs.StationDown source) switch)) tt
  | inr station ↦ subst IsLinkBreak (sym (cond-false _ inputs.SwitchDown (inputs.StationDown source) station)) tt
]

-- a break is one of a link
unfoldable pub IsBreak : Brought → Type 0
IsBreak (breaks input) = IsLinkBreak input
IsBreak _ = Unit {0}

with_break : (up : Bool) (c : Controller) (number source : ℕ) (what : What) →
    IsBreak (if up then brought_with c number source what else nothing)
unfolding IsBreak
with_break true c number source (whats.Frame frame) = by (word_of source frame)
  where
    held : (o : Option ℕ) (input : Input) → IsBreak (if_held number o input)
    held None input = tt
    held (Some holder) input = elim (cases_Bool (holder == number)) [
      | inl hit ↦ subst IsBreak (sym (cond-true _ (of_frame input) nothing hit)) tt
      | inr miss ↦ subst IsBreak (sym (cond-false _ (of_frame input) nothing miss)) tt
    ]

    by : (word : Word) → IsBreak (brought_by c number word)
    by (OnChannel at input) = held (holder (channel_state c at)) input
    by (OnConnection destination input) = held (Some destination) input
    by _ = tt
with_break true c number source whats.Down = own_carried source
with_break false c number source what = tt

pub in_break : (c : Controller) (number : ℕ) (s : Step) → IsBreak (brought_in c number s)
unfolding IsBreak
in_break c number (Take item) = with_break (is_up c item.source) c number item.source item.what
in_break c number (Tick ms) = tt

brought_carried : (brought : Brought) (input : Input) → IsCarriedIn brought → IsBreak brought → IsBrought brought input → IsCarried input
unfolding IsCarriedIn IsBreak
brought_carried nothing input carried own is = absurd is
brought_carried (of_frame arrived) input carried own is = subst IsCarried (sym is) carried
brought_carried reports input carried own is = subst IsCarried (sym is) tt
brought_carried (breaks arrived) input carried own is = subst IsCarried (sym is) (break_carried arrived own)
brought_carried passes input carried own is = timer_carried input is

-- ---- a connection that is there

unfoldable pub IsPresent : State → Type 0
IsPresent Removed = ⊥
IsPresent _ = Unit {0}

unfoldable pub IsFine : Option Connection → Type 0
IsFine None = Unit {0}
IsFine (Some s) = IsPresent s.state × IsValid s

kept_fine : (state : State) (s : Connection) → s.state ≡ state → IsValid s → IsFine (kept_in state s)
unfolding IsFine IsPresent
kept_fine Removed s is valid = tt
kept_fine _ s is valid = (subst IsPresent (sym is) tt, valid)

FinePart : Connection → Type 0
FinePart s = IsPresent s.state × IsValid s

pub fine_old : (before : Option Connection) (old s : Connection) →
    before ≡ Some old →
    IsAged old s →
    IsFine before →
    IsPresent s.state × IsValid s
unfolding IsFine FinePart
fine_old before old s is aged fine = aged_holds (λ (c : Connection). IsPresent c.state × IsValid c) (λ ms c holds. (holds.0, pass_valid ms c holds.1)) old s aged (subst IsFine is fine)

pub fine_after : (number next : ℕ) (up : Bool) (brought : Brought) (before after : Option Connection) (put : List Message) →
    Acts number next up brought before put after →
    IsCarriedIn brought →
    IsBreak brought →
    IsFine before →
    IsFine after
unfolding IsFine IsPresent
fine_after number next up brought before after put (rests silent same none) carried own fine = subst IsFine (sym same) fine
fine_after number next up brought before after put (ages old s is_time is aged silent same) carried own fine = subst IsFine (sym same) (fine_old before old s is aged fine)
fine_after number next up brought before after put (opens begins is_up channel request delay is_nothing is put_is same) carried own fine = subst IsFine (sym same) (tt, IsValid-new number channel request delay)
fine_after number next up brought before after put (takes_row old s input offer r is aged by fits put_is same) carried own fine =
    let valid : IsValid r.next = subst (OfRow (λ (q : Row). IsValid q.next)) fits (IsValid-row s input offer (fine_old before old s is aged fine).1 (brought_carried brought input carried own by)) in
    subst IsFine (sym same) (kept_fine r.next.state r.next refl valid)

-- ---- the link of the switch

-- where the switch's link breaks, a connection is removed
pub row_is : (q r : Row) → (let o : Option Row = Some q in o) ≡ Some r → q ≡ r
row_is q r is = cc

removed_by : (state : State) (s : Connection) (r : Row) → on_switch_down state s ≡ Some r → r.next.state ≡ Removed
removed_by Removed s r is = absurd cc
removed_by _ s r is = ap (λ (q : Row). q.next.state) (sym (row_is _ r is))

pub never_none : (state : State) (s : Connection) → IsPresent state → on_switch_down state s ≡ None → ⊥
unfolding IsPresent
never_none Removed s there is = there
never_none _ s there is = absurd cc

pub gone_after : (number next : ℕ) (up : Bool) (before after : Option Connection) (put : List Message) →
    Acts number next up (breaks inputs.SwitchDown) before put after →
    IsFine before →
    after ≡ None
unfolding row_of
gone_after number next up None after put (rests silent same none) fine = same
gone_after number next up (Some s) after put (rests silent same none) fine = absurd (never_none s.state s (fine_old (Some s) s s refl ([], refl) fine).0 none.1)
gone_after number next up before after put (ages old s is_time is aged silent same) fine = absurd cc
gone_after number next up before after put (opens begins linked_up channel request delay is_nothing none_before put_is same) fine = absurd cc
gone_after number next up before after put (takes_row old s input offer r is aged by fits put_is same) fine =
    let gone : r.next.state ≡ Removed = removed_by s.state s r (subst (λ (i : Input). row_of s i offer ≡ Some r) by fits) in
    same ∙ ap (λ (state : State). kept_in state r.next) gone

-- a connection is there only while the link of the switch is up
unfoldable pub IsLinked : Bool → Option Connection → Type 0
IsLinked up None = Unit {0}
IsLinked up (Some s) = up ≡ true

some_linked : (up : Bool) (o : Option Connection) → up ≡ true → IsLinked up o
unfolding IsLinked
some_linked up None is = tt
some_linked up (Some s) is = is

linked_from : (up : Bool) (before after : Option Connection) (old : Connection) → before ≡ Some old → IsLinked up before → IsLinked up after
unfolding IsLinked
linked_from up before after old is linked = some_linked up after (subst (IsLinked up) is linked)

linked_after : (number next : ℕ) (up : Bool) (brought : Brought) (before after : Option Connection) (put : List Message) →
    Acts number next up brought before put after →
    IsLinked up before →
    IsLinked up after
linked_after number next up brought before after put (rests silent same none) linked = subst (IsLinked up) (sym same) linked
linked_after number next up brought before after put (ages old s is_time is aged silent same) linked = linked_from up before after old is linked
linked_after number next up brought before after put (opens begins linked_up channel request delay is_nothing none_before put_is same) linked = some_linked up after linked_up
linked_after number next up brought before after put (takes_row old s input offer r is aged by fits put_is same) linked = linked_from up before after old is linked

-- ---- a controller, for one connection

pub record Fits (number : ℕ) (c : Controller) : Type 0 where
  pub numbered : IsNumbered c
  pub fine : IsFine (connection_of c number)
  pub linked : IsLinked (is_up c SWITCH_LINK) (connection_of c number)

none_linked : (up : Bool) (o : Option Connection) → o ≡ None → IsLinked up o
unfolding IsLinked
none_linked up o is = subst (IsLinked up) (sym is) tt

linked_with : (number : ℕ) (up : Bool) (source : ℕ) (what : What) (c : Controller) (put : List Message) (after : Option Connection) →
    Acts number c.next_number (is_up c SWITCH_LINK) (if up then brought_with c number source what else nothing) (connection_of c number) put after →
    IsFine (connection_of c number) →
    IsLinked (is_up c SWITCH_LINK) (connection_of c number) →
    IsLinked (is_link_up (links_with up source what c) SWITCH_LINK) after
linked_with number true source (whats.Frame frame) c put after acts fine linked = linked_after number c.next_number (is_up c SWITCH_LINK) _ (connection_of c number) after put acts linked
linked_with number true source whats.Down c put after acts fine linked = elim (cases_Bool (source == SWITCH_LINK)) [
  | inl switch ↦
      let is : break_of source ≡ inputs.SwitchDown = cond-true _ inputs.SwitchDown (inputs.StationDown source) switch in
      none_linked (is_link_up (links_with true source whats.Down c) SWITCH_LINK) after (gone_after number c.next_number (is_up c SWITCH_LINK) (connection_of c number) after put (subst (λ (i : Input). Acts number c.next_number (is_up c SWITCH_LINK) (breaks i) (connection_of c number) put after) is acts) fine)
  | inr station ↦
      subst (λ (up : Bool). IsLinked up after) (sym (other_link c.links source SWITCH_LINK (λ same. absurd (true≢false (sym (eq-eqb source SWITCH_LINK (sym same)) ∙ station)))))
      (linked_after number c.next_number (is_up c SWITCH_LINK) (breaks (break_of source)) (connection_of c number) after put acts linked)
]
linked_with number false source (whats.Frame frame) c put after acts fine linked = linked_after number c.next_number (is_up c SWITCH_LINK) nothing (connection_of c number) after put acts linked
linked_with number false source whats.Down c put after acts fine linked = linked_after number c.next_number (is_up c SWITCH_LINK) nothing (connection_of c number) after put acts linked

linked_step : (number : ℕ) (s : Step) (c : Controller) (put : List Message) (after : Option Connection) →
    Acts number c.next_number (is_up c SWITCH_LINK) (brought_in c number s) (connection_of c number) put after →
    IsFine (connection_of c number) →
    IsLinked (is_up c SWITCH_LINK) (connection_of c number) →
    IsLinked (is_link_up (links_after c s) SWITCH_LINK) after
linked_step number (Take item) c put after acts fine linked = linked_with number (is_up c item.source) item.source item.what c put after acts fine linked
linked_step number (Tick ms) c put after acts fine linked = linked_after number c.next_number (is_up c SWITCH_LINK) passes (connection_of c number) after put acts linked

pub step_fits : (number : ℕ) (c : Controller) (s : Step) → 1 ≤ number → Fits number c → Fits number (step c s).next
step_fits number c s from_one fits =
    let does = step_does number c s from_one fits.numbered in
    let after : Option Connection = connection_of (step c s).next number in
    record {
      numbered = step_numbered c s fits.numbered;
      fine = fine_after number c.next_number (is_up c SWITCH_LINK) (brought_in c number s) (connection_of c number) after does.put does.acts (in_carried c number s) (in_break c number s) fits.fine;
      linked = subst (λ (links : List Bool). IsLinked (is_link_up links SWITCH_LINK) after) (sym (step_keeps_rest c s).links_are) (linked_step number s c does.put after does.acts fits.fine fits.linked);
    }

pub new_fits : (number : ℕ) (p : Parameters) → Fits number (new_controller p)
unfolding IsFine IsLinked
new_fits number p = record { numbered = record { rising = tt; below = tt; above = tt; next = omega arith }; fine = tt; linked = tt }
