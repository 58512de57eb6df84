-- SPDX-License-Identifier: MIT OR Apache-2.0
-- Steps that hand and relay nothing, at literal values.
use Rattle.controller_model.proofs.Prelude.{◌≡◌, ℕ, ◌<◌, List, [], ◌∷◌, ◌++◌, set, Some, None, refl, sym, arith, true≢false, Assignment, hex}
use Rattle.controller_model.proofs.Prelude.{Handover, Message, outs_of, access_activation, channel_release, handing, rf_channel_release}
use Rattle.controller_model.proofs.Prelude.{clear_complete, clear_request, complete_layer3, relaying, release_complete, Asked, Complete}
use Rattle.controller_model.proofs.Prelude.{Due, Active, Changing, Draining, Preparing, State, Closed, Live, Removed, WaitActivation}
use Rattle.controller_model.proofs.Prelude.{WaitConfirm, WaitEstablish, relayed, Sapi, Three, Zero, handed, AllAreRead, AllKeepSilence}
use Rattle.controller_model.proofs.Prelude.{AreHandedToServing, HasNoStream, IsAway, IsThere, KeepsSilence, OnlyReleasesAfter, SilenceIsKept}
use Rattle.controller_model.proofs.Prelude.{IsSilentThrough, IsHistory, Moment, all_messages, messages_on, InUse, Step, Tick, Controller}
use Rattle.controller_model.proofs.Prelude.{free_channels, new_controller, turn, step, forwarded, handed_in}
use Rattle.controller_model.proofs.LifeLaws.OwnRows.{busy, channels, other, out_for, own, with_channels}
use Rattle.controller_model.proofs.LifeLaws.UsedRows.{channel, connection}
use Rattle.controller_model.proofs.Lives.{from_station, from_switch, usual_settings}
use Rattle.controller_model.proofs.OnLiterals.{on_literals}
use Rattle.controller_model.specs.Life.{life}

-- ---- a connection that is open

there_before_access : IsThere (Some (connection WaitActivation))
there_before_access = tt

there_before_the_mobile : IsThere (Some (connection WaitEstablish))
there_before_the_mobile = tt

there_before_the_switch : IsThere (Some (connection WaitConfirm))
there_before_the_switch = tt

there_in_active : IsThere (Some (connection (Live 5 Active)))
there_in_active = tt

there_in_draining : IsThere (Some (connection (Live 5 Draining)))
there_in_draining = tt

there_while_changing : IsThere (Some (connection (Live 5 (Changing (record { change = Handover; channel = channel 2 0x43 })))))
there_while_changing = tt

not_there_before_its_clear : IsThere (Some (connection (Closed (Due 1)))) → ⊥
not_there_before_its_clear there = there

not_there_once_asked : IsThere (Some (connection (Closed (Asked 5)))) → ⊥
not_there_once_asked there = there

not_there_once_cleared : IsThere (Some (connection (Closed Complete))) → ⊥
not_there_once_cleared there = there

not_there_once_removed : IsThere (Some (connection Removed)) → ⊥
not_there_once_removed there = there

not_there_where_none_is : IsThere None → ⊥
not_there_where_none_is there = there

-- ---- a mobile that was commanded to another channel

away_by_assignment : IsAway (Some (connection (Live 5 (Changing (record { change = Assignment; channel = channel 1 0x09 })))))
away_by_assignment = tt

away_by_handover : IsAway (Some (connection (Live 5 (Changing (record { change = Handover; channel = channel 2 0x43 })))))
away_by_handover = tt

-- not before the command, nor after its answer
not_away_before_the_command : IsAway (Some (connection (Live 5 (Preparing (record { change = Handover; channel = channel 2 0x43 }))))) → ⊥
not_away_before_the_command away = away

not_away_in_active : IsAway (Some (connection (Live 5 Active))) → ⊥
not_away_in_active away = away

not_away_in_draining : IsAway (Some (connection (Live 5 Draining))) → ⊥
not_away_in_draining away = away

not_away_before_the_switch : IsAway (Some (connection WaitConfirm)) → ⊥
not_away_before_the_switch away = away

not_away_where_none_is : IsAway None → ⊥
not_away_where_none_is away = away

-- ---- nothing is handed or relayed

-- CHANNEL RELEASE, RF CHANNEL RELEASE and CLEAR REQUEST
abbrev ends : List Message
ends = channel_release (channel 1 0x41) 1 ∷ rf_channel_release (channel 1 0x41) ∷ clear_request 5 0x20 ∷ []

has_none : HasNoStream ends
has_none = record { relays = relays; hands = hands } where
  relays : (sapi : Sapi) → relayed sapi ends ≡ []
  relays Zero = refl
  relays Three = refl

  hands : (sapi : Sapi) → handed sapi ends ≡ []
  hands Zero = refl
  hands Three = refl

not_with_a_message_of_the_mobile : HasNoStream (ends ++ relaying 5 (channel 1 0x41) Zero (hex "05 08") ∷ []) → ⊥
not_with_a_message_of_the_mobile none = absurd (cc (none.relays Zero))

not_with_one_of_sapi_3 : HasNoStream (relaying 5 (channel 1 0x41) Three (hex "09 01") ∷ ends) → ⊥
not_with_one_of_sapi_3 none = absurd (cc (none.relays Three))

not_with_the_initial_message : HasNoStream (complete_layer3 (channel 1 0x41) (hex "05 24") ∷ []) → ⊥
not_with_the_initial_message none = absurd (cc (none.relays Zero))

not_with_a_message_of_the_switch : HasNoStream (ends ++ handing (channel 1 0x41) Zero (hex "05 08") ∷ []) → ⊥
not_with_a_message_of_the_switch none = absurd (cc (none.hands Zero))

not_with_one_of_the_switch_on_sapi_3 : HasNoStream (handing (channel 1 0x41) Three (hex "09 01") ∷ ends) → ⊥
not_with_one_of_the_switch_on_sapi_3 none = absurd (cc (none.hands Three))

-- ---- to the channel that serves

to_the_serving_channel : AreHandedToServing (Some own) (handing (channel 1 0x41) Zero (hex "05 08")
    ∷ handing (channel 1 0x41) Three (hex "09 01") ∷ [])
to_the_serving_channel = ((λ is_dtap. (refl, refl)), ((λ is_dtap. (refl, refl)), tt))

not_to_another_channel : AreHandedToServing (Some own) (handing (channel 1 0x41) Zero (hex "05 08")
    ∷ handing (channel 1 0x49) Zero (hex "05 08") ∷ []) → ⊥
not_to_another_channel claim = let same : 0x49 ≡ 0x41 = (claim.1.0 refl).1 in absurd (omega (arith, same))

not_at_another_station : AreHandedToServing (Some own) (handing (channel 2 0x41) Three (hex "09 01") ∷ []) → ⊥
not_at_another_station claim = let same : 2 ≡ 1 = (claim.0 refl).0 in absurd (omega (arith, same))

-- a message of radio resource management isn't handed
release_anywhere : AreHandedToServing (Some own) (channel_release (channel 2 0x49) 0 ∷ rf_channel_release (channel 2 0x49) ∷ [])
release_anywhere = ((λ is_dtap. absurd (true≢false (sym is_dtap))), (tt, tt))

to_serving_of_none : AreHandedToServing None ends
to_serving_of_none Zero = refl
to_serving_of_none Three = refl

not_where_none_serves : AreHandedToServing None (handing (channel 1 0x41) Three (hex "09 01") ∷ []) → ⊥
not_where_none_serves claim = absurd (cc (claim Three))

-- ---- after CLEAR COMPLETE

only_releases : OnlyReleasesAfter (Some (connection (Closed Complete))) (release_complete 5 ∷ release_complete 5 ∷ [])
only_releases = (tt, (tt, tt))

nothing_else_is_put : OnlyReleasesAfter (Some (connection (Closed Complete))) (release_complete 5 ∷ clear_complete 5 ∷ []) → ⊥
nothing_else_is_put only = only.1.0

no_channel_is_released : OnlyReleasesAfter (Some (connection (Closed Complete))) (rf_channel_release (channel 1 0x41) ∷ []) → ⊥
no_channel_is_released only = only.0

clears_when_asked : OnlyReleasesAfter (Some (connection (Closed (Asked 5)))) (clear_complete 5 ∷ [])
clears_when_asked = tt

asks_when_due : OnlyReleasesAfter (Some (connection (Closed (Due 1)))) (clear_request 5 1 ∷ [])
asks_when_due = tt

nothing_is_put_of_none : OnlyReleasesAfter None []
nothing_is_put_of_none = refl

no_release_is_put_of_none : OnlyReleasesAfter None (release_complete 5 ∷ []) → ⊥
no_release_is_put_of_none only = absurd (cc only)

-- ---- what a step puts

-- of connection 7
abbrev in_state : State → Controller
in_state state = with_channels channels (record own { state = state } ∷ other ∷ [])

-- its mobile is commanded to 43 of station 2
abbrev away : Controller
away = record (in_state (Live 5 (Changing (record { change = Handover; channel = channel 2 0x43 })))) { channels = free_channels ∷ channels ∷ set free_channels 0x43 (InUse 7) ∷ [] }

-- DTAP and CLEAR COMMAND of the switch, HANDOVER COMPLETE of the mobile, DTAP of the mobile on each
-- SAPI
abbrev sends : Step
sends = from_switch (hex "06 00 00 07 00 01 05 01 00 02 05 08")

abbrev clears : Step
clears = from_switch (hex "06 00 00 07 00 01 06 00 04 20 04 01 09")

abbrev arrives : Step
arrives = from_station 2 (hex "03 02 01 43 02 00 0b 00 03 06 2c 00")

abbrev speaks : Step
speaks = from_station 1 (hex "03 02 01 41 02 00 0b 00 02 03 45")

abbrev sends_short_message : Step
sends_short_message = from_station 1 (hex "03 02 01 41 02 03 0b 00 02 09 01")

abbrev hands : ℕ → ℕ → Message
hands station number = handing (channel station number) Zero (hex "05 08")

nothing_while_away : KeepsSilence 7 away sends []
unfolding on_literals
nothing_while_away = record {
  away = λ is sapi. refl;
  serving = tt;
  over = λ closed. record { relays = λ sapi. refl; hands = λ sapi. refl };
  remains_away = λ low closed is. closed tt;
  cleared = λ low. tt;
}

not_while_away : KeepsSilence 7 away sends (hands 1 0x41 ∷ []) → ⊥
unfolding on_literals
not_while_away keeps = absurd (cc (keeps.away tt Zero))

-- the channel that serves after the step
not_to_the_old_channel : KeepsSilence 7 away arrives (hands 1 0x41 ∷ []) → ⊥
unfolding on_literals
not_to_the_old_channel keeps = let same : 1 ≡ 2 = (keeps.serving.0 refl).0 in absurd (omega (arith, same))

not_to_another : KeepsSilence 7 busy sends (hands 1 0x49 ∷ []) → ⊥
unfolding on_literals
not_to_another keeps = let same : 0x49 ≡ 0x41 = (keeps.serving.0 refl).1 in absurd (omega (arith, same))

not_with_the_clear : KeepsSilence 7 busy clears (relaying 5 (channel 1 0x41) Zero (hex "05 08") ∷ []) → ⊥
unfolding on_literals
not_with_the_clear keeps = absurd (cc ((keeps.over (λ is. is)).relays Zero))

not_after_the_clear : KeepsSilence 7 (in_state (Closed Complete)) (Tick 1) (hands 1 0x41 ∷ []) → ⊥
unfolding on_literals
not_after_the_clear keeps = absurd (cc ((keeps.over (λ is. is)).hands Zero))

-- a connection that isn't there yet may begin
may_begin : KeepsSilence 9 busy (from_station 2 (hex "0c 13 01 88 13 7f 01 02 11 05")) (access_activation (channel 2 0x41) ∷ [])
unfolding on_literals
may_begin = record {
  away = λ is sapi. absurd is;
  serving = (tt, tt);
  over = λ closed. absurd (closed tt);
  remains_away = λ low closed is. let below : 9 < 9 = low in absurd (omega (arith, below));
  cleared = λ low. let below : 9 < 9 = low in absurd (omega (arith, below));
}

not_after_clear_complete : KeepsSilence 7 (in_state (Closed Complete)) (Tick 1) (clear_complete 5 ∷ []) → ⊥
not_after_clear_complete keeps = (keeps.cleared (omega arith)).0

not_of_a_removed_one : KeepsSilence 7 (with_channels channels (other ∷ [])) (Tick 1) (release_complete 5 ∷ []) → ⊥
not_of_a_removed_one keeps = absurd (cc (keeps.cleared (omega arith)))

-- ---- step by step

abbrev moment : Step → List Message → Moment
moment s put = record { taken = s; messages = put }

of_no_step : AllKeepSilence 7 busy []
of_no_step = tt

-- each one after those before it
not_after_a_clear : AllKeepSilence 7 busy (moment clears [] ∷ moment (Tick 1) (hands 1 0x41 ∷ []) ∷ []) → ⊥
unfolding on_literals
not_after_a_clear all = absurd (cc ((all.1.0.over (λ is. is)).hands Zero))

before_a_clear : AllKeepSilence 7 busy (moment sends (hands 1 0x41 ∷ []) ∷ [])
unfolding on_literals
before_a_clear = (
  record {
    away = λ is sapi. absurd is;
    serving = ((λ is_dtap. (refl, refl)), tt);
    over = λ closed. absurd (closed tt);
    remains_away = λ low closed is. closed tt;
    cleared = λ low. tt;
  },
  tt,
)

-- ---- what is read from the frames

reads_each_message : AllAreRead 7 busy (moment sends (hands 1 0x41 ∷ [])
    ∷ moment speaks (relaying 5 (channel 1 0x41) Zero (hex "03 45") ∷ []) ∷ [])
unfolding on_literals
reads_each_message = (first, (second, tt)) where
  first : (sapi : Sapi) →
      (messages_on sapi (forwarded (step busy sends).outs 7) ≡ relayed sapi (hands 1 0x41 ∷ [])) × (handed_in (step busy sends).outs 7 sapi ≡ handed sapi (hands 1 0x41 ∷ []))
  first Zero = (refl, refl)
  first Three = (refl, refl)

  second : (sapi : Sapi) → (messages_on sapi (forwarded (step busy speaks).outs 7)
      ≡ relayed sapi (relaying 5 (channel 1 0x41) Zero (hex "03 45") ∷ [])) × (handed_in (step busy speaks).outs 7 sapi
      ≡ handed sapi (relaying 5 (channel 1 0x41) Zero (hex "03 45") ∷ []))
  second Zero = (refl, refl)
  second Three = (refl, refl)

not_without_what_was_handed : AllAreRead 7 busy (moment sends [] ∷ []) → ⊥
unfolding on_literals
not_without_what_was_handed all = absurd (cc (all.0 Zero).1)

not_without_what_was_relayed : AllAreRead 7 busy (moment (Tick 1) [] ∷ moment speaks [] ∷ []) → ⊥
unfolding on_literals
not_without_what_was_relayed all = absurd (cc (all.1.0 Zero).0)

not_on_the_other_sapi : AllAreRead 7 busy (moment sends_short_message (relaying 5 (channel 1 0x41) Zero (hex "09 01") ∷ []) ∷ []) → ⊥
unfolding on_literals
not_on_the_other_sapi all = absurd (cc (all.0 Three).0)

-- ---- over a list of steps

remains_silent : IsSilentThrough 7 (in_state (Closed (Asked 5))) (Tick 1 ∷ clears ∷ [])
unfolding on_literals
remains_silent = record { moments = moment (Tick 1) [] ∷ moment clears (clear_complete 5 ∷ []) ∷ []; history = (refl, refl, (refl, refl, tt)); silent = (none, (completes, tt)) } where
  none : HasNoStream []
  none = record { relays = λ sapi. refl; hands = λ sapi. refl }

  relays : (sapi : Sapi) → relayed sapi (clear_complete 5 ∷ []) ≡ []
  relays Zero = refl
  relays Three = refl

  completes : HasNoStream (clear_complete 5 ∷ [])
  completes = record { relays = relays; hands = λ sapi. refl }

kept_at_first : SilenceIsKept 7 usual_settings [] (life usual_settings [])
unfolding life
kept_at_first = record { moments = []; history = tt; frames = refl; silent = tt; read = λ allowed octets. tt }

-- the frames are those of the messages, all of them
not_with_other_frames : SilenceIsKept 7 usual_settings [] (turn (out_for 7 ∷ []) busy) → ⊥
not_with_other_frames kept = by kept.moments kept.history kept.frames where
  by : (moments : List Moment) →
      IsHistory 7 (new_controller usual_settings) [] moments →
      out_for 7 ∷ [] ≡ outs_of 7 (all_messages moments) →
      ⊥
  by [] history frames = absurd (cc frames)
  by (m ∷ ms) history frames = history
