-- SPDX-License-Identifier: MIT OR Apache-2.0
-- The messages received by a step's word are those of the input that the step brings.
use Rattle.controller_model.proofs.Prelude.{◌≡◌, ◌⊎◌, ℕ, ◌==◌, ◌&&◌, ◌||◌, Bool, true, false, if◌then◌else◌, List, Option, Some, None, refl}
use Rattle.controller_model.proofs.Prelude.{sym, subst, ap, ◌∙◌, inl, inr, cases_Bool, cond-true, cond-false, list_any, Place, Message}
use Rattle.controller_model.proofs.Prelude.{SWITCH_LINK, Input, What, or_left, or_right, Brought, IsBrought, IsTimer, brought_by}
use Rattle.controller_model.proofs.Prelude.{brought_in, brought_with, if_held, nothing, of_frame, word_by, word_in, ServedTenure}
use Rattle.controller_model.proofs.Prelude.{after_input}
use Rattle.controller_model.proofs.Prelude.{after_word, Step, Take, Tick, Word, Nothing, OnChannel, Reports, OnConnection, Controller}
use Rattle.controller_model.proofs.Prelude.{channel_state, holder, is_up, break_of, word_of}
use Rattle.conn_rules.specs.declared.input.Input.TheVariants as inputs
use Rattle.controller_model.specs.LifeLaws.Handing.{answers_by, begins_by, breaks_switch, is_clear, is_command, is_down, on_channel}
use Rattle.controller_model.proofs.LifeLaws.HandingTable.{EndsBy}
use Rattle.controller_model.proofs.LifeLaws.Sources.{IsAtPlace, IsFrom, IsOfSwitch, word_from}
use Rattle.ruled_relay.specs.declared.item.What.TheVariants as whats

-- ---- where an input is from

-- none of a station's
abbrev pub IsElsewhere : Input → Type 0
IsElsewhere (inputs.ActivationAck at) = ⊥
IsElsewhere (inputs.ActivationNack at) = ⊥
IsElsewhere (inputs.EstablishIndication at sapi message) = ⊥
IsElsewhere (inputs.EstablishConfirm at sapi) = ⊥
IsElsewhere (inputs.ReleaseIndication at sapi) = ⊥
IsElsewhere (inputs.ErrorIndication at sapi) = ⊥
IsElsewhere (inputs.ConnectionFailure at) = ⊥
IsElsewhere (inputs.Dtap at sapi message) = ⊥
IsElsewhere (inputs.Complete at change cause) = ⊥
IsElsewhere (inputs.Failure at change cause) = ⊥
IsElsewhere (inputs.ReleaseAck at) = ⊥
IsElsewhere _ = Unit {0}

abbrev pub IsSwitchDown : Input → Type 0
IsSwitchDown inputs.SwitchDown = Unit {0}
IsSwitchDown _ = ⊥

abbrev pub NoChannel : Word → Type 0
NoChannel (OnChannel at input) = ⊥
NoChannel _ = Unit {0}

-- it arrived on a channel; or it is none of a station's, and where it is the break of the switch's
-- link that link breaks
abbrev pub SaysInput : Word → Bool → Input → Type 0
SaysInput word broken input = ((at : Place) × (word ≡ OnChannel at input) × IsAtPlace at input) ⊎ (NoChannel word × IsElsewhere input × (IsSwitchDown input → broken ≡ true))

timer_elsewhere : (input : Input) → IsTimer input → IsElsewhere input × (IsSwitchDown input → ⊥)
timer_elsewhere inputs.Expiry timer = (tt, λ down. down)
timer_elsewhere inputs.DrainExpiry timer = (tt, λ down. down)
timer_elsewhere _ timer = absurd timer

switch_elsewhere : (input : Input) → IsOfSwitch input → IsElsewhere input × (IsSwitchDown input → ⊥)
switch_elsewhere (inputs.ConnectionConfirm source) of = (tt, λ down. down)
switch_elsewhere inputs.ConnectionRefused of = (tt, λ down. down)
switch_elsewhere (inputs.Released source) of = (tt, λ down. down)
switch_elsewhere (inputs.Downlink sapi message) of = (tt, λ down. down)
switch_elsewhere (inputs.AssignmentRequest is_speech) of = (tt, λ down. down)
switch_elsewhere inputs.CipherModeCommand of = (tt, λ down. down)
switch_elsewhere inputs.ClearCommand of = (tt, λ down. down)
switch_elsewhere _ of = absurd of

held_is : (number : ℕ) (o : Option ℕ) (arrived input : Input) → IsBrought (if_held number o arrived) input → input ≡ arrived
held_is number None arrived input brought = absurd brought
held_is number (Some holder) arrived input brought = elim (cases_Bool (holder == number)) [
  | inl hit ↦ subst (λ (b : Brought). IsBrought b input) (cond-true _ (of_frame arrived) nothing hit) brought
  | inr miss ↦ absurd (subst (λ (b : Brought). IsBrought b input) (cond-false _ (of_frame arrived) nothing miss) brought)
]

word_says : (c : Controller) (number source : ℕ) (word : Word) (broken : Bool) →
    IsFrom source word →
    (input : Input) →
    IsBrought (brought_by c number word) input →
    SaysInput word broken input
word_says c number source (OnChannel at arrived) broken from input brought =
    let is = held_is number (holder (channel_state c at)) arrived input brought in
    inl (at, ap (OnChannel at) (sym is), subst (IsAtPlace at) (sym is) from.1)
word_says c number source (OnConnection destination arrived) broken from input brought =
    let is = held_is number (Some destination) arrived input brought in
    let other = switch_elsewhere arrived from.1 in
    inr (tt, subst IsElsewhere (sym is) other.0, λ down. absurd (other.1 (subst IsSwitchDown is down)))
word_says c number source (Reports at of report) broken from input brought =
    inr (tt, subst IsElsewhere (sym brought) tt, λ down. absurd (subst IsSwitchDown brought down))
word_says c number source _ broken from input brought = absurd brought

break_says : (source : ℕ) (input : Input) → input ≡ break_of source → SaysInput Nothing ((source == SWITCH_LINK) && true) input
break_says source input is = elim (cases_Bool (source == SWITCH_LINK)) [
  | inl hit ↦
      let down : input ≡ inputs.SwitchDown = is ∙ cond-true _ inputs.SwitchDown (inputs.StationDown source) hit in
      inr (tt, subst IsElsewhere (sym down) tt, λ so. ap (λ (b : Bool). b && true) hit)
  | inr miss ↦
      let down : input ≡ inputs.StationDown source = is ∙ cond-false _ inputs.SwitchDown (inputs.StationDown source) miss in
      inr (tt, subst IsElsewhere (sym down) tt, λ so. absurd (subst IsSwitchDown down so))
]

item_says : (up : Bool) (c : Controller) (number source : ℕ) (what : What) (input : Input) →
    IsBrought (if up then brought_with c number source what else nothing) input →
    SaysInput (word_by source what) ((source == SWITCH_LINK) && is_down what) input
item_says true c number source (whats.Frame frame) input brought = word_says c number source (word_of source frame) ((source == SWITCH_LINK) && false) (word_from source frame) input brought
item_says true c number source whats.Down input brought = break_says source input brought
item_says false c number source what input brought = absurd brought

pub step_says_input : (c : Controller) (number : ℕ) (s : Step) (input : Input) →
    IsBrought (brought_in c number s) input →
    SaysInput (word_in s) (breaks_switch s) input
step_says_input c number (Take item) input brought = item_says (is_up c item.source) c number item.source item.what input brought
step_says_input c number (Tick ms) input brought = let other = timer_elsewhere input brought in inr (tt, other.0, λ down. absurd (other.1 down))

-- ---- what begins a change, and what ends it

begins_none : (input : Input) (put : List Message) → IsElsewhere input → begins_by input put ≡ false
begins_none (inputs.ActivationAck at) put other = absurd other
begins_none _ put other = refl

off_channel : (test : Input → List Message → Bool) (word : Word) (put : List Message) → NoChannel word → on_channel test word put ≡ false
off_channel test (OnChannel at input) put none = absurd none
off_channel test _ put none = refl

pub begins_is : (word : Word) (broken : Bool) (input : Input) (put : List Message) →
    SaysInput word broken input →
    on_channel begins_by word put ≡ begins_by input put
begins_is word broken input put (inl arrived) = ap (λ (w : Word). on_channel begins_by w put) arrived.1
begins_is word broken input put (inr other) = off_channel begins_by word put other.0 ∙ sym (begins_none input put other.1)

-- no COMMAND, no change
pub begins_only : (word : Word) (put : List Message) → list_any is_command put ≡ false → on_channel begins_by word put ≡ false
begins_only (OnChannel at (inputs.ActivationAck place)) put none = none
begins_only _ put none = refl

answered : (word : Word) (broken : Bool) (input : Input) (put : List Message) →
    SaysInput word broken input →
    (IsElsewhere input → ⊥) →
    answers_by input put ≡ true →
    (on_channel answers_by word put || (list_any is_clear put || broken)) ≡ true
answered word broken input put (inl arrived) here is = or_left _ _ (ap (λ (w : Word). on_channel answers_by w put) arrived.1 ∙ is)
answered word broken input put (inr other) here is = absurd (here other.1)

cleared : (word : Word) (broken : Bool) (put : List Message) →
    list_any is_clear put ≡ true →
    (on_channel answers_by word put || (list_any is_clear put || broken)) ≡ true
cleared word broken put is = or_right _ _ (or_left _ _ is)

broke : (word : Word) (broken : Bool) (put : List Message) →
    SaysInput word broken inputs.SwitchDown →
    (on_channel answers_by word put || (list_any is_clear put || broken)) ≡ true
broke word broken put (inl arrived) = absurd arrived.2
broke word broken put (inr other) = or_right _ _ (or_right _ _ (other.2 tt))

pub ends_is : (word : Word) (broken : Bool) (input : Input) (put : List Message) →
    SaysInput word broken input →
    EndsBy input put →
    (on_channel answers_by word put || (list_any is_clear put || broken)) ≡ true
ends_is word broken (inputs.Complete at change cause) put says is = answered word broken (inputs.Complete at change cause) put says (λ other. other) is
ends_is word broken (inputs.Failure at change cause) put says is = answered word broken (inputs.Failure at change cause) put says (λ other. other) is
ends_is word broken inputs.SwitchDown put says is = broke word broken put says
ends_is word broken _ put says is = cleared word broken put is

-- ---- the tenures

none_tenures : (input : Input) (put : List Message) (ts : List ServedTenure) → IsElsewhere input → ts ≡ after_input input put ts
none_tenures (inputs.EstablishIndication at sapi message) put ts other = absurd other
none_tenures (inputs.Complete at change cause) put ts other = absurd other
none_tenures (inputs.Dtap at sapi message) put ts other = absurd other
none_tenures (inputs.ReleaseAck at) put ts other = absurd other
none_tenures _ put ts other = refl

off_tenures : (word : Word) (put : List Message) (ts : List ServedTenure) → NoChannel word → after_word word put ts ≡ ts
off_tenures (OnChannel at input) put ts none = absurd none
off_tenures _ put ts none = refl

pub tenures_are : (word : Word) (broken : Bool) (input : Input) (put : List Message) (ts : List ServedTenure) →
    SaysInput word broken input →
    after_word word put ts ≡ after_input input put ts
tenures_are word broken input put ts (inl arrived) = ap (λ (w : Word). after_word w put ts) arrived.1
tenures_are word broken input put ts (inr other) = off_tenures word put ts other.0 ∙ none_tenures input put ts other.1
