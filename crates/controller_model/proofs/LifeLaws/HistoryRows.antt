-- SPDX-License-Identifier: MIT OR Apache-2.0
-- The history of a connection, and the messages handed and relayed in it, at literal values.
use Rattle.controller_model.proofs.Prelude.{◌≡◌, ℕ, true, List, [], ◌∷◌, ◌++◌, Some, None, refl, ap, arith, Message, outs_of, hex}
use Rattle.controller_model.proofs.Prelude.{channel_release, rf_channel_release, Asked, Closed, Connection, relayed, Three, Zero}
use Rattle.controller_model.proofs.Prelude.{ConservesDownlink, DownlinkIsConserved, Switched, switched, IsHistory, Moment, all_messages}
use Rattle.controller_model.proofs.Prelude.{connection_of, word_in, UplinkIsConserved, joined, service, Step, Take, Tick, Nothing}
use Rattle.controller_model.proofs.Prelude.{OnChannel, Turn, new_controller, place_at, turn}
use Rattle.conn_rules.specs.declared.input.Input.TheVariants as inputs
use Rattle.controller_model.proofs.LifeLaws.OwnRows.{busy, entry, other, out_for, own}
use Rattle.controller_model.proofs.LifeLaws.UsedRows.{channel, connection}
use Rattle.controller_model.proofs.Lives.{down, from_station, usual_settings}
use Rattle.controller_model.proofs.OnLiterals.{on_literals}

-- ---- what a step says

a_frame_says : word_in (from_station 1 (hex "08 33 01 0a")) ≡ OnChannel (place_at 1 0x0a) (inputs.ReleaseAck (place_at 1 0x0a))
unfolding on_literals
a_frame_says = refl

a_break_says_nothing : word_in (down 1) ≡ Nothing
a_break_says_nothing = refl

time_says_nothing : word_in (Tick 5) ≡ Nothing
time_says_nothing = refl

-- ---- a connection

the_first : connection_of busy 7 ≡ Some own
the_first = refl

the_second : connection_of busy 8 ≡ Some other
the_second = refl

no_other : connection_of busy 9 ≡ None
no_other = refl

-- ---- the history of 7, which the break of the switch's link ends

abbrev moment : Step → List Message → Moment
moment s put = record { taken = s; messages = put }

abbrev ends : ℕ → List Message
ends number = channel_release (channel 1 number) 1 ∷ rf_channel_release (channel 1 number) ∷ []

abbrev source_of : Step → ℕ
source_of (Take item) = item.source
source_of (Tick ms) = ms

each_step : IsHistory 7 busy (Tick 1 ∷ down 0 ∷ down 0 ∷ []) (moment (Tick 1) [] ∷ moment (down 0) (ends 0x41) ∷ moment (down 0) [] ∷ [])
unfolding on_literals
each_step = (refl, refl, (refl, refl, (refl, refl, tt)))

of_8_the_frames_of_8 : IsHistory 8 busy (down 0 ∷ []) (moment (down 0) (ends 0x49) ∷ [])
unfolding on_literals
of_8_the_frames_of_8 = (refl, refl, tt)

not_after_another_step : IsHistory 7 busy (Tick 1 ∷ []) (moment (Tick 2) [] ∷ []) → ⊥
not_after_another_step history = let same : 2 ≡ 1 = ap source_of history.0 in absurd (omega (arith, same))

not_without_its_frames : IsHistory 7 busy (down 0 ∷ []) (moment (down 0) [] ∷ []) → ⊥
unfolding on_literals
not_without_its_frames history = absurd (cc history.1)

not_with_frames_of_no_step : IsHistory 7 busy (Tick 1 ∷ []) (moment (Tick 1) (ends 0x41) ∷ []) → ⊥
unfolding on_literals
not_with_frames_of_no_step history = absurd (cc history.1)

not_again : IsHistory 7 busy (down 0 ∷ down 0 ∷ []) (moment (down 0) (ends 0x41) ∷ moment (down 0) (ends 0x41) ∷ []) → ⊥
unfolding on_literals
not_again history = absurd (cc history.2.1)

of_no_step : IsHistory 7 busy [] []
of_no_step = tt

not_too_short : IsHistory 7 busy (Tick 1 ∷ []) [] → ⊥
not_too_short history = history

not_too_long : IsHistory 7 busy [] (moment (Tick 1) [] ∷ []) → ⊥
not_too_long history = history

-- ---- what was handed, then what is held, is what arrived

abbrev first : List ℕ
first = hex "05 01"

abbrev second : List ℕ
second = hex "03 02"

abbrev arrived : List (List ℕ) → List (List ℕ) → Switched
arrived received handed = record { requested = true; confirmed = true; arrived = received; received = received; handed = handed }

-- a message of radio resource management is held with them
abbrev holding : Connection
holding = record own { down = record { limit = 32; zero = hex "06 12" ∷ second ∷ []; three = hex "09 03" ∷ [] } }

conserves : ConservesDownlink (arrived (first ∷ second ∷ []) (first ∷ [])) Zero (Some holding)
conserves is = refl

conserves_on_sapi_3 : ConservesDownlink (arrived (first ∷ hex "09 03" ∷ []) (first ∷ [])) Three (Some holding)
conserves_on_sapi_3 is = refl

not_in_another_order : ConservesDownlink (arrived (second ∷ first ∷ []) (first ∷ [])) Zero (Some holding) → ⊥
not_in_another_order same = absurd (cc (same tt))

not_with_one_lost : ConservesDownlink (arrived (first ∷ second ∷ []) []) Zero (Some holding) → ⊥
not_with_one_lost same = absurd (cc (same tt))

not_with_one_more : ConservesDownlink (arrived (first ∷ []) (first ∷ [])) Zero (Some holding) → ⊥
not_with_one_more same = absurd (cc (same tt))

not_once_closed : ConservesDownlink (arrived (first ∷ []) []) Zero (Some (connection (Closed (Asked 5))))
not_once_closed is = absurd is

not_of_none : ConservesDownlink (arrived (first ∷ []) []) Zero None
not_of_none = tt

-- ---- the laws, where nothing arrived

abbrev at_first : Turn
at_first = turn [] (new_controller usual_settings)

-- nothing arrived, and connection 7 holds something
abbrev held_for_it : Connection → Turn
held_for_it s = turn [] (record busy { entries = entry s ∷ [] })

downlink_at_first : DownlinkIsConserved 7 usual_settings [] at_first
unfolding on_literals
downlink_at_first = record { moments = []; history = tt; frames = refl; downlink = λ sapi. tt; in_order = λ sapi. tt; read = λ allowed octets sapi. refl }

handed_is_in_the_history : DownlinkIsConserved 7 usual_settings [] (turn (out_for 7 ∷ []) at_first.next) → ⊥
handed_is_in_the_history kept = by kept.moments kept.history kept.frames where
  by : (moments : List Moment) →
      IsHistory 7 (new_controller usual_settings) [] moments →
      out_for 7 ∷ [] ≡ outs_of 7 (all_messages moments) →
      ⊥
  by [] history frames = absurd (cc frames)
  by (m ∷ ms) history frames = history

held_is_what_came : DownlinkIsConserved 7 usual_settings [] (held_for_it holding) → ⊥
held_is_what_came kept = by kept.moments kept.history (kept.downlink Three) where
  by : (moments : List Moment) →
      IsHistory 7 (new_controller usual_settings) [] moments →
      ConservesDownlink (switched 7 Three moments) Three (Some holding) →
      ⊥
  by [] history same = absurd (cc (same tt))
  by (m ∷ ms) history same = history

uplink_at_first : UplinkIsConserved 7 usual_settings [] at_first
unfolding on_literals
uplink_at_first = record { moments = []; history = tt; frames = refl; uplink = λ is sapi. absurd is; read = λ octets is sapi. absurd is }

relayed_is_in_the_history : UplinkIsConserved 7 usual_settings [] (turn (out_for 7 ∷ []) at_first.next) → ⊥
relayed_is_in_the_history kept = by kept.moments kept.history kept.frames where
  by : (moments : List Moment) →
      IsHistory 7 (new_controller usual_settings) [] moments →
      out_for 7 ∷ [] ≡ outs_of 7 (all_messages moments) →
      ⊥
  by [] history frames = absurd (cc frames)
  by (m ∷ ms) history frames = history

-- connection 7 holds a message of its mobile
abbrev holding_up : Connection
holding_up = record own { up = record { limit = 16; tenures = record { zero = []; three = first ∷ [] } ∷ [] } }

held_up_is_what_came : UplinkIsConserved 7 usual_settings [] (held_for_it holding_up) → ⊥
held_up_is_what_came kept = by kept.moments kept.history (kept.uplink tt Three) where
  by : (moments : List Moment) →
      IsHistory 7 (new_controller usual_settings) [] moments →
      relayed Three (all_messages moments) ++ first ∷ [] ≡ joined Three (service moments) →
      ⊥
  by [] history same = absurd (cc same)
  by (m ∷ ms) history same = history
