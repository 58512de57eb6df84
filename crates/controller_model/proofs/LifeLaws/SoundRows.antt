-- SPDX-License-Identifier: MIT OR Apache-2.0
-- Messages of every row can be written, and are read as they were put.
use Rattle.controller_model.proofs.Prelude.{Option, Some, AllByRecursion, IsLayer3, option_to_list, Channel, IsSound, Input}
use Rattle.controller_model.proofs.Prelude.{WasAsked, State, Live, Closed, Connection, IsCarried, Row, OfRow, target_in, IsReference}
use Rattle.controller_model.proofs.Prelude.{Brings, Enters, HasReference, Kinds, Parts, Puts, any_cause, row_puts, IsHeldTenure, row_of}
use Rattle.conn_rules.specs.declared.input.Input.TheVariants as inputs
use Rattle.controller_model.proofs.LifeLaws.SoundMessages.{IsSoundChannel, sound_activation, sound_assignment_failure, sound_cipher_reject, sound_clear_complete, sound_clear_request, sound_assigned, sound_command, sound_establish, sound_handing, sound_immediate, sound_initial, sound_performed, sound_reject, sound_relaying, sound_release_command, sound_rf_release}

-- the switch's reference, where it is known
unfoldable pub Refers : State → Type 0
Refers (Live reference stage) = IsReference reference
Refers (Closed (WasAsked reference)) = IsReference reference
Refers _ = Unit {0}

-- an input's reference
abbrev pub RefersBy : Input → Type 0
RefersBy (inputs.ConnectionConfirm source) = IsReference source
RefersBy (inputs.Released source) = IsReference source
RefersBy _ = Unit {0}

-- the reference after the row is one, and its messages are sound
abbrev pub IsSoundRow : Row → Type 0
IsSoundRow r = Refers r.next.state × AllByRecursion IsSound r.outs

-- what a connection holds are messages, on a sound channel
pub record IsSoundIn (s : Connection) : Type 0 where
  pub serving : IsSoundChannel s.serving
  pub zero : AllByRecursion IsLayer3 s.down.zero
  pub three : AllByRecursion IsLayer3 s.down.three
  pub up : AllByRecursion IsHeldTenure s.up.tenures
  pub refers : Refers s.state

-- of what sound messages are made
abbrev sound_kinds : Kinds
sound_kinds = record { channel = IsSoundChannel; reference = IsReference; cause = λ cause. Unit {0}; layer3 = IsLayer3; clears = Unit {0} }

sound : (s : Connection) → IsSoundChannel s.serving → Puts sound_kinds IsSound s
sound s serving = record {
  assigns = sound_immediate s.serving s.request s.delay;
  commands = λ change target. sound_command s.serving change target serving;
  activates = sound_activation;
  establishes = sound_establish;
  dismisses = sound_release_command;
  releases = sound_rf_release;
  hands = sound_handing;
  opens = λ initial layer3 few. sound_initial s.serving initial serving layer3 few;
  relays = sound_relaying;
  completes = sound_assigned;
  performs = sound_performed;
  fails = sound_assignment_failure;
  rejects = sound_reject;
  refuses = sound_cipher_reject;
  asks = λ reference cause is small. sound_clear_request reference cause is;
  clears = λ reference is may. sound_clear_complete reference is;
  answers = λ source is. (tt, is);
}

refers : Enters sound_kinds (λ state request. Refers state)
unfolding Refers
refers = record {
  establishes = λ before request is. tt;
  confirms = λ before request is. tt;
  once_live = λ before request reference stage is own. own;
  due = λ before request cause is small. tt;
  asks = λ before request reference is own. own;
  clears = λ before request is. tt;
  removes = λ before request is. tt;
}

has_reference : (state : State) → Refers state → HasReference sound_kinds state
unfolding Refers
has_reference (Live reference stage) is = is
has_reference (Closed (WasAsked reference)) is = is
has_reference _ is = tt

brings : (input : Input) → IsCarried input → RefersBy input → Brings sound_kinds input
brings (inputs.EstablishIndication at sapi (Some initial)) carried by = (carried, tt)
brings (inputs.Dtap at sapi message) carried by = carried
brings (inputs.Downlink sapi message) carried by = carried
brings (inputs.ConnectionConfirm source) carried by = by
brings (inputs.Released source) carried by = by
brings _ carried by = tt

pub row_sound : (s : Connection) (input : Input) (offer : Option Channel) →
    IsSoundIn s →
    AllByRecursion IsSoundChannel (target_in s.state) →
    AllByRecursion IsSoundChannel (option_to_list offer) →
    IsCarried input →
    RefersBy input →
    OfRow IsSoundRow (row_of s input offer)
row_sound s input offer k targets offered carried by =
    let parts : Parts sound_kinds s offer = record {
      state = record { target = targets; own = has_reference s.state k.refers; due = any_cause sound_kinds (λ cause. tt) s.state };
      serving = k.serving;
      offered = offered;
      zero = k.zero;
      three = k.three;
      up = k.up;
      causes = (tt, tt, tt);
    } in
    row_puts sound_kinds IsSound (λ state request. Refers state) s offer (sound s k.serving) refers parts k.refers input (brings input carried by)
