-- SPDX-License-Identifier: MIT OR Apache-2.0
-- The table against literal rows: lives of a connection with number 1 over cells 1 and 2, octet by
-- octet.
use Rattle.conn_rules.proofs.Prelude.{◌≡◌, ℕ, Bool, true, false, List, [], ◌∷◌, ◌++◌, map, Option, Some, None, refl, Assignment, Handover, hex}
use Rattle.conn_rules.proofs.Prelude.{Zero, Three, replicate, Input, Due, Complete, Active, Preparing, Draining, WaitConfirm, Live, Closed}
use Rattle.conn_rules.proofs.Prelude.{Removed, Connection}
use Rattle.conn_messages.specs.Out.{out_of}
use Rattle.conn_rules.specs.declared.input.Input.TheVariants as inputs
use Rattle.conn_rules.specs.declared.state.Clearing.TheVariants.{Asked}
use Rattle.conn_rules.specs.Steps.{Row}
use Rattle.conn_rules.specs.Table.{row_of}
use Rattle.conn_rules.proofs.Lives.{put, Turn, turn, played, after, cell_1, cell_2, again, on_1, on_2, request, fresh, active, unconfirmed, preparing, changing, handing_over, handed_over, two_drain, three_drain}
use Rattle.rsl_codec.specs.RslText.{rsl_element_text}

-- ---- access and establishment

opens : played fresh (turn (inputs.ActivationAck (on_1 0x41)) None
    ∷ turn (inputs.EstablishIndication (on_1 0x41) Zero (Some (hex "05 24 71"))) None
    ∷ turn (inputs.ConnectionConfirm 0x800001) None ∷ [])
    ≡ Some (put 1 (hex "0c 16 01 90 2b 17 2d 06 3f 00 41 20 14 7f 01 02 05 00 2b 2b 2b 2b 2b 2b 2b 2b 2b 2b 2b") ∷ [])
    ∷ Some (put 0 (hex "01 00 00 01 02 02 04 02 42 fe 0f 12 00 10 57 05 08 00 00 f1 10 00 01 00 01 17 03 05 24 71 00") ∷ [])
    ∷ Some [] ∷ []
unfolding row_of out_of rsl_element_text
opens = refl

is_active : (active).state ≡ Live 0x800001 Active
unfolding row_of
is_active = refl

refuses_the_channel : played fresh (turn (inputs.ActivationNack (on_1 0x41)) None ∷ [])
    ≡ Some [] ∷ []
unfolding row_of out_of rsl_element_text
refuses_the_channel = refl

is_gone_without_channel : (after fresh (turn (inputs.ActivationNack (on_1 0x41)) None ∷ [])).state ≡ Removed
unfolding row_of
is_gone_without_channel = refl

-- an initial message of 113 octets is passed on, one of 114 drops the channel
abbrev established : List ℕ → Turn
established initial = turn (inputs.EstablishIndication (on_1 0x41) Zero (Some initial)) None

passes_113 : (after fresh (turn (inputs.ActivationAck (on_1 0x41)) None ∷ established (replicate 113 0x05) ∷ [])).state ≡ WaitConfirm
unfolding row_of
passes_113 = refl

drops_114 : played fresh (turn (inputs.ActivationAck (on_1 0x41)) None ∷ established (replicate 114 0x05) ∷ [])
    ≡ Some (put 1 (hex "0c 16 01 90 2b 17 2d 06 3f 00 41 20 14 7f 01 02 05 00 2b 2b 2b 2b 2b 2b 2b 2b 2b 2b 2b") ∷ [])
    ∷ Some (put 1 (hex "08 2e 01 41") ∷ []) ∷ []
unfolding row_of out_of rsl_element_text
drops_114 = refl

abbrev waiting_for_mobile : Connection
waiting_for_mobile = after fresh (turn (inputs.ActivationAck (on_1 0x41)) None ∷ [])

drops_without_message : played waiting_for_mobile (turn (inputs.EstablishIndication (on_1 0x41) Zero None) None ∷ [])
    ≡ Some (put 1 (hex "08 2e 01 41") ∷ []) ∷ []
unfolding row_of out_of rsl_element_text
drops_without_message = refl

drops_at_dtap : played waiting_for_mobile (turn (inputs.Dtap (on_1 0x41) Zero (hex "03 45")) None ∷ [])
    ≡ Some (put 1 (hex "08 2e 01 41") ∷ []) ∷ []
unfolding row_of out_of rsl_element_text
drops_at_dtap = refl

drops_at_release : played waiting_for_mobile (turn (inputs.ReleaseIndication (on_1 0x41) Zero) None ∷ [])
    ≡ Some (put 1 (hex "08 2e 01 41") ∷ []) ∷ []
unfolding row_of out_of rsl_element_text
drops_at_release = refl

drops_at_failure : played waiting_for_mobile (turn (inputs.ConnectionFailure (on_1 0x41)) None ∷ [])
    ≡ Some (put 1 (hex "08 2e 01 41") ∷ []) ∷ []
unfolding row_of out_of rsl_element_text
drops_at_failure = refl

drops_at_expiry : played waiting_for_mobile (turn inputs.Expiry None ∷ [])
    ≡ Some (put 1 (hex "08 2e 01 41") ∷ []) ∷ []
unfolding row_of out_of rsl_element_text
drops_at_expiry = refl

drops_for_the_switch : played waiting_for_mobile (turn inputs.SwitchDown None ∷ [])
    ≡ Some (put 1 (hex "08 2e 01 41") ∷ []) ∷ []
unfolding row_of out_of rsl_element_text
drops_for_the_switch = refl

gives_up_with_its_station : played waiting_for_mobile (turn (inputs.StationDown 1) None ∷ [])
    ≡ Some [] ∷ []
unfolding row_of out_of rsl_element_text
gives_up_with_its_station = refl

remains_without_another_station : played waiting_for_mobile (turn (inputs.StationDown 2) None ∷ [])
    ≡ None ∷ []
unfolding row_of out_of rsl_element_text
remains_without_another_station = refl

dismisses_when_refused : played unconfirmed (turn inputs.ConnectionRefused None ∷ [])
    ≡ Some (put 1 (hex "03 01 01 41 02 00 0b 00 03 06 0d 01") ∷ put 1 (hex "08 2e 01 41") ∷ []) ∷ []
unfolding row_of out_of rsl_element_text
dismisses_when_refused = refl

-- before CC sixteen messages are held
abbrev sixteen_held : Connection
sixteen_held = after unconfirmed (replicate 16 (turn (inputs.Dtap (on_1 0x41) Zero (hex "03 45")) None))

holds_sixteen : played unconfirmed (replicate 16 (turn (inputs.Dtap (on_1 0x41) Zero (hex "03 45")) None)) ≡ replicate 16 (Some [])
unfolding row_of
holds_sixteen = refl

fails_at_the_seventeenth : played sixteen_held (turn (inputs.Dtap (on_1 0x41) Zero (hex "03 45")) None
    ∷ turn (inputs.ConnectionConfirm 0x800001) None
    ∷ turn (inputs.ConnectionConfirm 0x800001) None
    ∷ turn inputs.ClearCommand None
    ∷ turn inputs.ClearCommand None ∷ [])
    ≡ Some (put 1 (hex "03 01 01 41 02 00 0b 00 03 06 0d 01") ∷ put 1 (hex "08 2e 01 41") ∷ [])
    ∷ Some (put 0 (hex "06 80 00 01 00 01 06 00 04 22 04 01 20") ∷ [])
    ∷ None
    ∷ Some (put 0 (hex "06 80 00 01 00 01 03 00 01 21") ∷ [])
    ∷ None ∷ []
unfolding row_of out_of rsl_element_text
fails_at_the_seventeenth = refl

relays_what_was_held : played unconfirmed (turn (inputs.Dtap (on_1 0x41) Three (hex "09 01")) None
    ∷ turn (inputs.Dtap (on_1 0x41) Zero (hex "03 45")) None
    ∷ turn (inputs.ConnectionConfirm 0x800001) None ∷ [])
    ≡ Some []
    ∷ Some []
    ∷ Some (put 0 (hex "06 80 00 01 00 01 05 01 00 02 03 45") ∷ put 0 (hex "06 80 00 01 00 01 05 01 83 02 09 01") ∷ []) ∷ []
unfolding row_of out_of rsl_element_text
relays_what_was_held = refl

-- ---- ends before and after the switch confirms

fails_at_release_before_it_is_confirmed : played unconfirmed (turn (inputs.ReleaseIndication (on_1 0x41) Zero) None
    ∷ turn (inputs.ConnectionConfirm 0x800001) None ∷ [])
    ≡ Some (put 1 (hex "03 01 01 41 02 00 0b 00 03 06 0d 01") ∷ put 1 (hex "08 2e 01 41") ∷ [])
    ∷ Some (put 0 (hex "06 80 00 01 00 01 06 00 04 22 04 01 01") ∷ []) ∷ []
unfolding row_of out_of rsl_element_text
fails_at_release_before_it_is_confirmed = refl

fails_at_connection_failure_before_it_is_confirmed : played unconfirmed (turn (inputs.ConnectionFailure (on_1 0x41)) None
    ∷ turn (inputs.ConnectionConfirm 0x800001) None ∷ [])
    ≡ Some (put 1 (hex "03 01 01 41 02 00 0b 00 03 06 0d 01") ∷ put 1 (hex "08 2e 01 41") ∷ [])
    ∷ Some (put 0 (hex "06 80 00 01 00 01 06 00 04 22 04 01 01") ∷ []) ∷ []
unfolding row_of out_of rsl_element_text
fails_at_connection_failure_before_it_is_confirmed = refl

fails_with_its_station_before_it_is_confirmed : played unconfirmed (turn (inputs.StationDown 1) None
    ∷ turn (inputs.ConnectionConfirm 0x800001) None ∷ [])
    ≡ Some []
    ∷ Some (put 0 (hex "06 80 00 01 00 01 06 00 04 22 04 01 20") ∷ []) ∷ []
unfolding row_of out_of rsl_element_text
fails_with_its_station_before_it_is_confirmed = refl

gives_up_a_channel_that_is_not_active_with_its_station : played fresh (turn (inputs.StationDown 1) None ∷ [])
    ≡ Some [] ∷ []
unfolding row_of out_of rsl_element_text
gives_up_a_channel_that_is_not_active_with_its_station = refl

is_gone_with_its_station : (after fresh (turn (inputs.StationDown 1) None ∷ [])).state ≡ Removed
unfolding row_of
is_gone_with_its_station = refl

is_gone_when_dropped : (after fresh (turn inputs.Expiry None ∷ [])).state ≡ Removed
unfolding row_of
is_gone_when_dropped = refl

is_gone_when_refused : (after unconfirmed (turn inputs.ConnectionRefused None ∷ [])).state ≡ Removed
unfolding row_of
is_gone_when_refused = refl

is_gone_when_refused_in_closed : (after unconfirmed (turn (inputs.ConnectionFailure (on_1 0x41)) None ∷ turn inputs.ConnectionRefused None ∷ [])).state ≡ Removed
unfolding row_of
is_gone_when_refused_in_closed = refl

is_gone_when_released : (after active (turn (inputs.Released 0x800001) None ∷ [])).state ≡ Removed
unfolding row_of
is_gone_when_released = refl

is_gone_when_released_in_closed : (after active (turn inputs.ClearCommand None ∷ turn (inputs.Released 0x800001) None ∷ [])).state ≡ Removed
unfolding row_of
is_gone_when_released_in_closed = refl

is_gone_with_the_switch : (after active (turn inputs.SwitchDown None ∷ [])).state ≡ Removed
unfolding row_of
is_gone_with_the_switch = refl

is_gone_with_the_switch_in_closed : (after active (turn inputs.ClearCommand None ∷ turn inputs.SwitchDown None ∷ [])).state ≡ Removed
unfolding row_of
is_gone_with_the_switch_in_closed = refl

is_due_before_it_is_confirmed : (after unconfirmed (turn (inputs.ConnectionFailure (on_1 0x41)) None ∷ [])).state ≡ Closed (Due 0x01)
unfolding row_of
is_due_before_it_is_confirmed = refl

was_asked_once_it_is_confirmed : (after unconfirmed (turn (inputs.ConnectionFailure (on_1 0x41)) None ∷ turn (inputs.ConnectionConfirm 0x800001) None ∷ [])).state ≡ Closed (Asked 0x800001)
unfolding row_of
was_asked_once_it_is_confirmed = refl

is_complete_after_a_clear : (after active (turn inputs.ClearCommand None ∷ [])).state ≡ Closed Complete
unfolding row_of
is_complete_after_a_clear = refl

-- ---- both ways, and clear

relays : played active (turn (inputs.Dtap (on_1 0x41) Zero (hex "03 45")) None
    ∷ turn (inputs.Downlink Zero (hex "83 02")) None ∷ [])
    ≡ Some (put 0 (hex "06 80 00 01 00 01 05 01 00 02 03 45") ∷ [])
    ∷ Some (put 1 (hex "03 01 01 41 02 00 0b 00 02 83 02") ∷ []) ∷ []
unfolding row_of out_of rsl_element_text
relays = refl

clears_in_active : played active (turn inputs.ClearCommand None
    ∷ turn (inputs.Dtap (on_1 0x41) Zero (hex "03 45")) None
    ∷ turn (inputs.Released 0x800001) None ∷ [])
    ≡ Some (put 1 (hex "03 01 01 41 02 00 0b 00 03 06 0d 00") ∷ put 1 (hex "08 2e 01 41")
    ∷ put 0 (hex "06 80 00 01 00 01 03 00 01 21") ∷ [])
    ∷ None
    ∷ Some (put 0 (hex "05 80 00 01 00 00 01") ∷ []) ∷ []
unfolding row_of out_of rsl_element_text
clears_in_active = refl

is_released : played active (turn (inputs.Released 0x800001) None ∷ [])
    ≡ Some (put 1 (hex "03 01 01 41 02 00 0b 00 03 06 0d 01") ∷ put 1 (hex "08 2e 01 41") ∷ put 0 (hex "05 80 00 01 00 00 01") ∷ []) ∷ []
unfolding row_of out_of rsl_element_text
is_released = refl

rejects_ciphering : played active (turn inputs.CipherModeCommand None ∷ [])
    ≡ Some (put 0 (hex "06 80 00 01 00 01 06 00 04 59 04 01 40") ∷ []) ∷ []
unfolding row_of out_of rsl_element_text
rejects_ciphering = refl

fails_at_release : played active (turn (inputs.ReleaseIndication (on_1 0x41) Zero) None ∷ [])
    ≡ Some (put 0 (hex "06 80 00 01 00 01 06 00 04 22 04 01 01") ∷ put 1 (hex "03 01 01 41 02 00 0b 00 03 06 0d 01")
    ∷ put 1 (hex "08 2e 01 41") ∷ []) ∷ []
unfolding row_of out_of rsl_element_text
fails_at_release = refl

fails_at_connection_failure : played active (turn (inputs.ConnectionFailure (on_1 0x41)) None ∷ [])
    ≡ Some (put 0 (hex "06 80 00 01 00 01 06 00 04 22 04 01 01") ∷ put 1 (hex "03 01 01 41 02 00 0b 00 03 06 0d 01")
    ∷ put 1 (hex "08 2e 01 41") ∷ []) ∷ []
unfolding row_of out_of rsl_element_text
fails_at_connection_failure = refl

ends_with_the_switch : played active (turn inputs.SwitchDown None ∷ [])
    ≡ Some (put 1 (hex "03 01 01 41 02 00 0b 00 03 06 0d 01") ∷ put 1 (hex "08 2e 01 41") ∷ []) ∷ []
unfolding row_of out_of rsl_element_text
ends_with_the_switch = refl

fails_with_its_station : played active (turn (inputs.StationDown 1) None ∷ [])
    ≡ Some (put 0 (hex "06 80 00 01 00 01 06 00 04 22 04 01 20") ∷ []) ∷ []
unfolding row_of out_of rsl_element_text
fails_with_its_station = refl

-- ---- assignment

answers_without_speech : played active (turn (inputs.AssignmentRequest false) (Some (cell_1 0x0a)) ∷ [])
    ≡ Some (put 0 (hex "06 80 00 01 00 01 06 00 04 03 04 01 25") ∷ []) ∷ []
unfolding row_of out_of rsl_element_text
answers_without_speech = refl

answers_without_channel : played active (turn request None ∷ [])
    ≡ Some (put 0 (hex "06 80 00 01 00 01 06 00 04 03 04 01 21") ∷ []) ∷ []
unfolding row_of out_of rsl_element_text
answers_without_channel = refl

commands : played active (turn request (Some (cell_1 0x0a))
    ∷ turn (inputs.ActivationAck (on_1 0x0a)) None ∷ [])
    ≡ Some (put 1 (hex "08 21 01 0a 03 01 06 04 00 01 08 01") ∷ [])
    ∷ Some (put 1 (hex "03 01 01 41 02 00 0b 00 06 06 2e 0a 20 14 00") ∷ []) ∷ []
unfolding row_of out_of rsl_element_text
commands = refl

is_refused : played preparing (turn (inputs.ActivationNack (on_1 0x0a)) None ∷ [])
    ≡ Some (put 0 (hex "06 80 00 01 00 01 06 00 04 03 04 01 20") ∷ []) ∷ []
unfolding row_of out_of rsl_element_text
is_refused = refl

is_active_when_refused : (after preparing (turn (inputs.ActivationNack (on_1 0x0a)) None ∷ [])).state ≡ Live 0x800001 Active
unfolding row_of
is_active_when_refused = refl

waits_behind_an_assignment : played preparing (turn request None
    ∷ turn request None
    ∷ turn (inputs.ActivationAck (on_1 0x0a)) None
    ∷ turn (inputs.Complete (on_1 0x0a) Assignment (record { 0 = 0 })) None
    ∷ turn (inputs.ReleaseAck (on_1 0x41)) None ∷ [])
    ≡ Some []
    ∷ Some (put 0 (hex "06 80 00 01 00 01 06 00 04 03 04 01 60") ∷ [])
    ∷ Some (put 1 (hex "03 01 01 41 02 00 0b 00 06 06 2e 0a 20 14 00") ∷ [])
    ∷ Some (put 0 (hex "06 80 00 01 00 01 05 00 03 02 15 00") ∷ put 1 (hex "08 2e 01 41")
    ∷ put 0 (hex "06 80 00 01 00 01 06 00 04 03 04 01 21") ∷ [])
    ∷ Some [] ∷ []
unfolding row_of out_of rsl_element_text
waits_behind_an_assignment = refl

is_active_again : (after changing (turn (inputs.Complete (on_1 0x0a) Assignment (record { 0 = 0 })) None ∷ turn (inputs.ReleaseAck (on_1 0x41)) None ∷ [])).state ≡ Live 0x800001 Active
unfolding row_of
is_active_again = refl

returns : played changing (turn (inputs.Failure (on_1 0x41) Assignment (record { 0 = 3 })) None ∷ [])
    ≡ Some (put 0 (hex "06 80 00 01 00 01 08 00 06 03 04 01 0a 15 03") ∷ put 1 (hex "08 2e 01 0a") ∷ []) ∷ []
unfolding row_of out_of rsl_element_text
returns = refl

is_active_on_return : (after changing (turn (inputs.Failure (on_1 0x41) Assignment (record { 0 = 3 })) None ∷ [])).state ≡ Live 0x800001 Active
unfolding row_of
is_active_on_return = refl

changes_too_long : played changing (turn inputs.Expiry None ∷ [])
    ≡ Some (put 0 (hex "06 80 00 01 00 01 06 00 04 22 04 01 00") ∷ put 1 (hex "03 01 01 41 02 00 0b 00 03 06 0d 01")
    ∷ put 1 (hex "08 2e 01 41") ∷ put 1 (hex "08 2e 01 0a") ∷ []) ∷ []
unfolding row_of out_of rsl_element_text
changes_too_long = refl

prepares_too_long : played preparing (turn inputs.Expiry None ∷ [])
    ≡ Some (put 0 (hex "06 80 00 01 00 01 06 00 04 22 04 01 00") ∷ put 1 (hex "03 01 01 41 02 00 0b 00 03 06 0d 01")
    ∷ put 1 (hex "08 2e 01 41") ∷ put 1 (hex "08 2e 01 0a") ∷ []) ∷ []
unfolding row_of out_of rsl_element_text
prepares_too_long = refl

fails_at_dtap_of_the_target : played changing (turn (inputs.Dtap (on_1 0x0a) Zero (hex "03 45")) None ∷ [])
    ≡ Some (put 0 (hex "06 80 00 01 00 01 06 00 04 22 04 01 20") ∷ put 1 (hex "03 01 01 41 02 00 0b 00 03 06 0d 01")
    ∷ put 1 (hex "08 2e 01 41") ∷ put 1 (hex "08 2e 01 0a") ∷ []) ∷ []
unfolding row_of out_of rsl_element_text
fails_at_dtap_of_the_target = refl

looks_at_place_and_kind : played changing (turn (inputs.Complete (on_1 0x0a) Handover (record { 0 = 0 })) None
    ∷ turn (inputs.Complete (on_1 0x41) Assignment (record { 0 = 0 })) None
    ∷ turn (inputs.Complete (on_2 0x0a) Assignment (record { 0 = 0 })) None
    ∷ turn (inputs.Failure (on_1 0x41) Handover (record { 0 = 3 })) None
    ∷ turn (inputs.Failure (on_1 0x0a) Assignment (record { 0 = 3 })) None
    ∷ turn (inputs.Dtap (on_1 0x0a) Three (hex "09 01")) None ∷ [])
    ≡ None
    ∷ None
    ∷ None
    ∷ None
    ∷ None
    ∷ None ∷ []
unfolding row_of out_of rsl_element_text
looks_at_place_and_kind = refl

-- 32 messages are held while the channel changes
abbrev thirty_two_held : Connection
thirty_two_held = after changing (replicate 32 (turn (inputs.Downlink Zero (hex "83 02")) None))

holds_thirty_two : played changing (replicate 32 (turn (inputs.Downlink Zero (hex "83 02")) None)) ≡ replicate 32 (Some [])
unfolding row_of
holds_thirty_two = refl

hands_thirty_two : played thirty_two_held (turn (inputs.Complete (on_1 0x0a) Assignment (record { 0 = 0 })) None ∷ [])
    ≡ Some (put 0 (hex "06 80 00 01 00 01 05 00 03 02 15 00") ∷ put 1 (hex "08 2e 01 41")
    ∷ replicate 32 (put 1 (hex "03 01 01 0a 02 00 0b 00 02 83 02"))) ∷ []
unfolding row_of out_of rsl_element_text
hands_thirty_two = refl

fails_at_the_thirty_third : played thirty_two_held (turn (inputs.Downlink Three (hex "09 01")) None ∷ [])
    ≡ Some (put 0 (hex "06 80 00 01 00 01 06 00 04 22 04 01 20") ∷ put 1 (hex "03 01 01 41 02 00 0b 00 03 06 0d 01")
    ∷ put 1 (hex "08 2e 01 41") ∷ put 1 (hex "08 2e 01 0a") ∷ []) ∷ []
unfolding row_of out_of rsl_element_text
fails_at_the_thirty_third = refl

-- ---- SAPI 3

rejects_short_message : played active (turn (inputs.Downlink Three (hex "09 01")) None
    ∷ turn (inputs.ReleaseIndication (on_1 0x41) Three) None
    ∷ turn (inputs.EstablishIndication (on_1 0x41) Three None) None
    ∷ turn (inputs.Downlink Three (hex "09 02")) None
    ∷ turn (inputs.Downlink Zero (hex "83 02")) None ∷ [])
    ≡ Some (put 1 (hex "02 04 01 41 02 03") ∷ [])
    ∷ Some (put 0 (hex "06 80 00 01 00 01 08 00 06 25 18 83 04 01 25") ∷ [])
    ∷ Some []
    ∷ Some (put 1 (hex "03 01 01 41 02 03 0b 00 02 09 02") ∷ [])
    ∷ Some (put 1 (hex "03 01 01 41 02 00 0b 00 02 83 02") ∷ []) ∷ []
unfolding row_of out_of rsl_element_text
rejects_short_message = refl

hands_short_messages : played active (turn (inputs.EstablishConfirm (on_1 0x41) Three) None
    ∷ turn (inputs.Downlink Three (hex "09 01")) None
    ∷ turn (inputs.Downlink Three (hex "09 02")) None
    ∷ turn (inputs.EstablishConfirm (on_1 0x41) Three) None
    ∷ turn (inputs.ErrorIndication (on_1 0x41) Three) None
    ∷ turn (inputs.Downlink Three (hex "09 03")) None
    ∷ turn (inputs.ErrorIndication (on_1 0x41) Three) None ∷ [])
    ≡ None
    ∷ Some (put 1 (hex "02 04 01 41 02 03") ∷ [])
    ∷ Some []
    ∷ Some (put 1 (hex "03 01 01 41 02 03 0b 00 02 09 01") ∷ put 1 (hex "03 01 01 41 02 03 0b 00 02 09 02") ∷ [])
    ∷ Some []
    ∷ Some (put 1 (hex "02 04 01 41 02 03") ∷ [])
    ∷ Some (put 0 (hex "06 80 00 01 00 01 08 00 06 25 18 83 04 01 25") ∷ []) ∷ []
unfolding row_of out_of rsl_element_text
hands_short_messages = refl

asks_again_after_a_change : played changing (turn (inputs.Downlink Three (hex "09 01")) None
    ∷ turn (inputs.Complete (on_1 0x0a) Assignment (record { 0 = 0 })) None
    ∷ turn (inputs.EstablishConfirm (on_1 0x0a) Three) None ∷ [])
    ≡ Some []
    ∷ Some (put 0 (hex "06 80 00 01 00 01 05 00 03 02 15 00") ∷ put 1 (hex "08 2e 01 41") ∷ put 1 (hex "02 04 01 0a 02 43") ∷ [])
    ∷ Some (put 1 (hex "03 01 01 0a 02 43 0b 00 02 09 01") ∷ []) ∷ []
unfolding row_of out_of rsl_element_text
asks_again_after_a_change = refl

rejects_after_a_change : played changing (turn (inputs.Downlink Three (hex "09 01")) None
    ∷ turn (inputs.Complete (on_1 0x0a) Assignment (record { 0 = 0 })) None
    ∷ turn (inputs.ReleaseIndication (on_1 0x0a) Three) None ∷ [])
    ≡ Some []
    ∷ Some (put 0 (hex "06 80 00 01 00 01 05 00 03 02 15 00") ∷ put 1 (hex "08 2e 01 41") ∷ put 1 (hex "02 04 01 0a 02 43") ∷ [])
    ∷ Some (put 0 (hex "06 80 00 01 00 01 08 00 06 25 18 c3 04 01 25") ∷ []) ∷ []
unfolding row_of out_of rsl_element_text
rejects_after_a_change = refl

relays_short_messages : played active (turn (inputs.Dtap (on_1 0x41) Three (hex "09 01")) None ∷ [])
    ≡ Some (put 0 (hex "06 80 00 01 00 01 05 01 83 02 09 01") ∷ []) ∷ []
unfolding row_of out_of rsl_element_text
relays_short_messages = refl

-- SAPI 3 holds 32 messages too while its link is asked for
fails_at_the_thirty_third_short_message : played (after active (replicate 32 (turn (inputs.Downlink Three (hex "09 01")) None))) (turn (inputs.Downlink Three (hex "09 01")) None ∷ [])
    ≡ Some (put 0 (hex "06 80 00 01 00 01 06 00 04 22 04 01 20") ∷ put 1 (hex "03 01 01 41 02 00 0b 00 03 06 0d 01")
    ∷ put 1 (hex "08 2e 01 41") ∷ []) ∷ []
unfolding row_of out_of rsl_element_text
fails_at_the_thirty_third_short_message = refl

-- ---- handover

moves : played active (turn inputs.Move (Some (cell_2 0x41))
    ∷ turn (inputs.ActivationAck (on_2 0x41)) None ∷ [])
    ≡ Some (put 2 (hex "08 21 01 41 03 02 06 04 00 03 01 00 09 00") ∷ [])
    ∷ Some (put 1 (hex "03 01 01 41 02 00 0b 00 09 06 2b 12 1e 41 40 1e 00 00") ∷ []) ∷ []
unfolding row_of out_of rsl_element_text
moves = refl

remains_without_offer : played active (turn inputs.Move None ∷ [])
    ≡ Some [] ∷ []
unfolding row_of out_of rsl_element_text
remains_without_offer = refl

is_active_without_offer : (after active (turn inputs.Move None ∷ [])).state ≡ Live 0x800001 Active
unfolding row_of
is_active_without_offer = refl

is_handed_over : played handing_over (turn (inputs.Complete (on_2 0x41) Handover (record { 0 = 0 })) None
    ∷ turn (inputs.Dtap (on_2 0x41) Zero (hex "03 8f")) None
    ∷ turn (inputs.Dtap (on_1 0x41) Zero (hex "03 45")) None
    ∷ turn (inputs.ReleaseAck (on_1 0x41)) None ∷ [])
    ≡ Some (put 0 (hex "06 80 00 01 00 01 10 00 0e 17 04 01 0c 05 08 00 00 f1 10 00 01 00 02") ∷ put 1 (hex "08 2e 01 41") ∷ [])
    ∷ Some []
    ∷ Some (put 0 (hex "06 80 00 01 00 01 05 01 00 02 03 45") ∷ [])
    ∷ Some (put 0 (hex "06 80 00 01 00 01 05 01 00 02 03 8f") ∷ []) ∷ []
unfolding row_of out_of rsl_element_text
is_handed_over = refl

returns_from_handover : played handing_over (turn (inputs.Downlink Zero (hex "83 02")) None
    ∷ turn (inputs.Failure (on_1 0x41) Handover (record { 0 = 3 })) None ∷ [])
    ≡ Some []
    ∷ Some (put 2 (hex "08 2e 01 41") ∷ put 1 (hex "03 01 01 41 02 00 0b 00 02 83 02") ∷ []) ∷ []
unfolding row_of out_of rsl_element_text
returns_from_handover = refl

is_refused_a_handover : played (after active (turn inputs.Move (Some (cell_2 0x41)) ∷ [])) (turn (inputs.ActivationNack (on_2 0x41)) None ∷ [])
    ≡ Some [] ∷ []
unfolding row_of out_of rsl_element_text
is_refused_a_handover = refl

breaks_while_the_old_channel_drains : played handed_over (turn (inputs.Dtap (on_2 0x41) Zero (hex "03 45")) None
    ∷ turn (inputs.StationDown 1) None ∷ [])
    ≡ Some []
    ∷ Some (put 0 (hex "06 80 00 01 00 01 06 00 04 22 04 01 20") ∷ put 2 (hex "03 01 01 41 02 00 0b 00 03 06 0d 01")
    ∷ put 2 (hex "08 2e 01 41") ∷ []) ∷ []
unfolding row_of out_of rsl_element_text
breaks_while_the_old_channel_drains = refl

breaks_at_the_serving_station : played handing_over (turn (inputs.StationDown 1) None ∷ [])
    ≡ Some (put 0 (hex "06 80 00 01 00 01 06 00 04 22 04 01 20") ∷ put 2 (hex "08 2e 01 41") ∷ []) ∷ []
unfolding row_of out_of rsl_element_text
breaks_at_the_serving_station = refl

breaks_at_the_target : played handing_over (turn (inputs.StationDown 2) None ∷ [])
    ≡ Some (put 0 (hex "06 80 00 01 00 01 06 00 04 22 04 01 20") ∷ put 1 (hex "03 01 01 41 02 00 0b 00 03 06 0d 01")
    ∷ put 1 (hex "08 2e 01 41") ∷ []) ∷ []
unfolding row_of out_of rsl_element_text
breaks_at_the_target = refl

drains_too_long : played handed_over (turn inputs.Expiry None
    ∷ turn inputs.DrainExpiry None ∷ [])
    ≡ None
    ∷ Some (put 0 (hex "06 80 00 01 00 01 06 00 04 22 04 01 20") ∷ put 2 (hex "03 01 01 41 02 00 0b 00 03 06 0d 01")
    ∷ put 2 (hex "08 2e 01 41") ∷ []) ∷ []
unfolding row_of out_of rsl_element_text
drains_too_long = refl

clears_in_changing : played handing_over (turn inputs.ClearCommand None
    ∷ turn (inputs.Dtap (on_1 0x41) Zero (hex "03 45")) None
    ∷ turn (inputs.Dtap (on_2 0x41) Zero (hex "03 45")) None
    ∷ turn (inputs.Released 0x800001) None ∷ [])
    ≡ Some (put 1 (hex "03 01 01 41 02 00 0b 00 03 06 0d 00") ∷ put 1 (hex "08 2e 01 41") ∷ put 2 (hex "08 2e 01 41")
    ∷ put 0 (hex "06 80 00 01 00 01 03 00 01 21") ∷ [])
    ∷ None
    ∷ None
    ∷ Some (put 0 (hex "05 80 00 01 00 00 01") ∷ []) ∷ []
unfolding row_of out_of rsl_element_text
clears_in_changing = refl

begins_the_waiting_request : played handing_over (turn request None
    ∷ turn request None
    ∷ turn (inputs.Complete (on_2 0x41) Handover (record { 0 = 0 })) (Some (cell_2 0x0a))
    ∷ turn (inputs.ReleaseAck (on_1 0x41)) None ∷ [])
    ≡ Some []
    ∷ Some (put 0 (hex "06 80 00 01 00 01 06 00 04 03 04 01 60") ∷ [])
    ∷ Some (put 0 (hex "06 80 00 01 00 01 10 00 0e 17 04 01 0c 05 08 00 00 f1 10 00 01 00 02") ∷ put 1 (hex "08 2e 01 41")
    ∷ put 2 (hex "08 21 01 0a 03 01 06 04 00 01 08 01") ∷ [])
    ∷ Some [] ∷ []
unfolding row_of out_of rsl_element_text
begins_the_waiting_request = refl

is_preparing_while_it_drains : (after handing_over (turn request None ∷ turn (inputs.Complete (on_2 0x41) Handover (record { 0 = 0 })) (Some (cell_2 0x0a)) ∷ [])).state ≡ Live 0x800001 (Preparing (record { change = Assignment; channel = cell_2 0x0a }))
unfolding row_of
is_preparing_while_it_drains = refl

answers_the_waiting_request : played handing_over (turn request None
    ∷ turn (inputs.Complete (on_2 0x41) Handover (record { 0 = 0 })) None
    ∷ turn (inputs.ReleaseAck (on_1 0x41)) None ∷ [])
    ≡ Some []
    ∷ Some (put 0 (hex "06 80 00 01 00 01 10 00 0e 17 04 01 0c 05 08 00 00 f1 10 00 01 00 02") ∷ put 1 (hex "08 2e 01 41")
    ∷ put 0 (hex "06 80 00 01 00 01 06 00 04 03 04 01 21") ∷ [])
    ∷ Some [] ∷ []
unfolding row_of out_of rsl_element_text
answers_the_waiting_request = refl

-- ---- chains of old channels

drains_two : played handed_over (turn inputs.Move (Some (again (cell_1 0x49)))
    ∷ turn (inputs.ActivationAck (on_1 0x49)) None
    ∷ turn (inputs.Complete (on_1 0x49) Handover (record { 0 = 0 })) None
    ∷ turn (inputs.Dtap (on_1 0x49) Zero (hex "03 8f")) None
    ∷ turn (inputs.Dtap (on_2 0x41) Zero (hex "03 45")) None
    ∷ turn (inputs.ReleaseAck (on_2 0x41)) None
    ∷ turn (inputs.ReleaseAck (on_1 0x41)) None ∷ [])
    ≡ Some (put 1 (hex "08 21 01 49 03 02 06 04 00 03 01 00 09 01") ∷ [])
    ∷ Some (put 2 (hex "03 01 01 41 02 00 0b 00 09 06 2b 09 14 49 20 14 01 00") ∷ [])
    ∷ Some (put 0 (hex "06 80 00 01 00 01 10 00 0e 17 04 01 0c 05 08 00 00 f1 10 00 01 00 01") ∷ put 2 (hex "08 2e 01 41") ∷ [])
    ∷ Some []
    ∷ Some []
    ∷ Some []
    ∷ Some (put 0 (hex "06 80 00 01 00 01 05 01 00 02 03 45") ∷ put 0 (hex "06 80 00 01 00 01 05 01 00 02 03 8f") ∷ []) ∷ []
unfolding row_of out_of rsl_element_text
drains_two = refl

is_active_behind_two : (after two_drain (turn (inputs.ReleaseAck (on_2 0x41)) None ∷ turn (inputs.ReleaseAck (on_1 0x41)) None ∷ [])).state ≡ Live 0x800001 Active
unfolding row_of
is_active_behind_two = refl

drains_three : played two_drain (turn request (Some (cell_1 0x0a))
    ∷ turn (inputs.ActivationAck (on_1 0x0a)) None
    ∷ turn (inputs.Complete (on_1 0x0a) Assignment (record { 0 = 0 })) None
    ∷ turn inputs.Move (Some (cell_2 0x0a))
    ∷ turn request None
    ∷ turn request None
    ∷ turn (inputs.ReleaseAck (on_1 0x49)) None
    ∷ turn (inputs.ReleaseAck (on_1 0x41)) None
    ∷ turn (inputs.ReleaseAck (on_2 0x41)) None ∷ [])
    ≡ Some (put 1 (hex "08 21 01 0a 03 01 06 04 00 01 08 01") ∷ [])
    ∷ Some (put 1 (hex "03 01 01 49 02 00 0b 00 06 06 2e 0a 20 14 00") ∷ [])
    ∷ Some (put 0 (hex "06 80 00 01 00 01 05 00 03 02 15 00") ∷ put 1 (hex "08 2e 01 49") ∷ [])
    ∷ None
    ∷ Some []
    ∷ Some (put 0 (hex "06 80 00 01 00 01 06 00 04 03 04 01 60") ∷ [])
    ∷ Some []
    ∷ Some (put 0 (hex "06 80 00 01 00 01 06 00 04 03 04 01 21") ∷ [])
    ∷ Some [] ∷ []
unfolding row_of out_of rsl_element_text
drains_three = refl

is_active_behind_three : (after three_drain (turn (inputs.ReleaseAck (on_1 0x49)) None ∷ turn (inputs.ReleaseAck (on_1 0x41)) None ∷ turn (inputs.ReleaseAck (on_2 0x41)) None ∷ [])).state ≡ Live 0x800001 Active
unfolding row_of
is_active_behind_three = refl

-- the limit of sixteen is for all tenures together
abbrev eight_in_each : Connection
eight_in_each = after two_drain (replicate 8 (turn (inputs.Dtap (on_2 0x41) Zero (hex "03 45")) None) ++ replicate 8 (turn (inputs.Dtap (on_1 0x49) Zero (hex "03 45")) None))

holds_eight_in_each : played two_drain (replicate 8 (turn (inputs.Dtap (on_2 0x41) Zero (hex "03 45")) None) ++ replicate 8 (turn (inputs.Dtap (on_1 0x49) Zero (hex "03 45")) None))
    ≡ replicate 16 (Some [])
unfolding row_of out_of
holds_eight_in_each = refl

fails_at_the_seventeenth_of_either : played eight_in_each (turn (inputs.Dtap (on_1 0x49) Zero (hex "03 45")) None ∷ [])
    ≡ Some (put 0 (hex "06 80 00 01 00 01 06 00 04 22 04 01 20") ∷ put 1 (hex "03 01 01 49 02 00 0b 00 03 06 0d 01")
    ∷ put 1 (hex "08 2e 01 49") ∷ []) ∷ []
unfolding row_of out_of rsl_element_text
fails_at_the_seventeenth_of_either = refl

fails_at_the_seventeenth_of_the_other : played eight_in_each (turn (inputs.Dtap (on_2 0x41) Zero (hex "03 45")) None ∷ [])
    ≡ Some (put 0 (hex "06 80 00 01 00 01 06 00 04 22 04 01 20") ∷ put 1 (hex "03 01 01 49 02 00 0b 00 03 06 0d 01")
    ∷ put 1 (hex "08 2e 01 49") ∷ []) ∷ []
unfolding row_of out_of rsl_element_text
fails_at_the_seventeenth_of_the_other = refl

relays_the_oldest_beside_a_full_hold : played eight_in_each (turn (inputs.Dtap (on_1 0x41) Zero (hex "03 05")) None ∷ [])
    ≡ Some (put 0 (hex "06 80 00 01 00 01 05 01 00 02 03 05") ∷ []) ∷ []
unfolding row_of out_of rsl_element_text
relays_the_oldest_beside_a_full_hold = refl

drains_the_next_too_long : played two_drain (turn (inputs.ReleaseAck (on_1 0x41)) None
    ∷ turn inputs.DrainExpiry None ∷ [])
    ≡ Some []
    ∷ Some (put 0 (hex "06 80 00 01 00 01 06 00 04 22 04 01 20") ∷ put 1 (hex "03 01 01 49 02 00 0b 00 03 06 0d 01")
    ∷ put 1 (hex "08 2e 01 49") ∷ []) ∷ []
unfolding row_of out_of rsl_element_text
drains_the_next_too_long = refl

prepares_too_long_beside : played two_drain (turn request (Some (cell_1 0x0a))
    ∷ turn inputs.Expiry None ∷ [])
    ≡ Some (put 1 (hex "08 21 01 0a 03 01 06 04 00 01 08 01") ∷ [])
    ∷ Some (put 0 (hex "06 80 00 01 00 01 06 00 04 22 04 01 00") ∷ put 1 (hex "03 01 01 49 02 00 0b 00 03 06 0d 01")
    ∷ put 1 (hex "08 2e 01 49") ∷ put 1 (hex "08 2e 01 0a") ∷ []) ∷ []
unfolding row_of out_of rsl_element_text
prepares_too_long_beside = refl

drains_too_long_in_preparing : played two_drain (turn request (Some (cell_1 0x0a))
    ∷ turn inputs.DrainExpiry None ∷ [])
    ≡ Some (put 1 (hex "08 21 01 0a 03 01 06 04 00 01 08 01") ∷ [])
    ∷ Some (put 0 (hex "06 80 00 01 00 01 06 00 04 22 04 01 20") ∷ put 1 (hex "03 01 01 49 02 00 0b 00 03 06 0d 01")
    ∷ put 1 (hex "08 2e 01 49") ∷ put 1 (hex "08 2e 01 0a") ∷ []) ∷ []
unfolding row_of out_of rsl_element_text
drains_too_long_in_preparing = refl

breaks_at_an_old_station : played two_drain (turn (inputs.StationDown 2) None ∷ [])
    ≡ Some (put 0 (hex "06 80 00 01 00 01 06 00 04 22 04 01 20") ∷ put 1 (hex "03 01 01 49 02 00 0b 00 03 06 0d 01")
    ∷ put 1 (hex "08 2e 01 49") ∷ []) ∷ []
unfolding row_of out_of rsl_element_text
breaks_at_an_old_station = refl

looks_at_no_break_of_a_done_channel : played two_drain (turn (inputs.ReleaseAck (on_2 0x41)) None
    ∷ turn (inputs.StationDown 2) None
    ∷ turn (inputs.ReleaseAck (on_2 0x41)) None
    ∷ turn (inputs.Dtap (on_2 0x41) Zero (hex "03 45")) None ∷ [])
    ≡ Some []
    ∷ None
    ∷ None
    ∷ None ∷ []
unfolding row_of out_of rsl_element_text
looks_at_no_break_of_a_done_channel = refl

relays_each_hold_in_turn : played two_drain (turn (inputs.Dtap (on_1 0x49) Zero (hex "03 46")) None
    ∷ turn (inputs.Dtap (on_2 0x41) Zero (hex "03 45")) None
    ∷ turn (inputs.ReleaseAck (on_1 0x41)) None
    ∷ turn (inputs.Dtap (on_2 0x41) Zero (hex "03 47")) None
    ∷ turn (inputs.ReleaseAck (on_2 0x41)) None ∷ [])
    ≡ Some []
    ∷ Some []
    ∷ Some (put 0 (hex "06 80 00 01 00 01 05 01 00 02 03 45") ∷ [])
    ∷ Some (put 0 (hex "06 80 00 01 00 01 05 01 00 02 03 47") ∷ [])
    ∷ Some (put 0 (hex "06 80 00 01 00 01 05 01 00 02 03 46") ∷ []) ∷ []
unfolding row_of out_of rsl_element_text
relays_each_hold_in_turn = refl

rests_in_draining_when_refused : played two_drain (turn request (Some (cell_1 0x0a))
    ∷ turn (inputs.ActivationNack (on_1 0x0a)) None ∷ [])
    ≡ Some (put 1 (hex "08 21 01 0a 03 01 06 04 00 01 08 01") ∷ [])
    ∷ Some (put 0 (hex "06 80 00 01 00 01 06 00 04 03 04 01 20") ∷ []) ∷ []
unfolding row_of out_of rsl_element_text
rests_in_draining_when_refused = refl

is_draining_when_refused : (after two_drain (turn request (Some (cell_1 0x0a)) ∷ turn (inputs.ActivationNack (on_1 0x0a)) None ∷ [])).state ≡ Live 0x800001 Draining
unfolding row_of
is_draining_when_refused = refl

-- ---- which rows fit

abbrev all_inputs : List Input
all_inputs =
    inputs.ActivationAck (on_1 0x41)
    ∷ inputs.ActivationNack (on_1 0x41)
    ∷ inputs.ActivationAck (on_2 0x41)
    ∷ inputs.ActivationNack (on_2 0x41)
    ∷ inputs.EstablishIndication (on_1 0x41) Zero None
    ∷ inputs.EstablishIndication (on_1 0x41) Three None
    ∷ inputs.EstablishConfirm (on_1 0x41) Zero
    ∷ inputs.EstablishConfirm (on_1 0x41) Three
    ∷ inputs.ReleaseIndication (on_1 0x41) Zero
    ∷ inputs.ReleaseIndication (on_1 0x41) Three
    ∷ inputs.ErrorIndication (on_1 0x41) Zero
    ∷ inputs.ErrorIndication (on_1 0x41) Three
    ∷ inputs.ConnectionFailure (on_1 0x41)
    ∷ inputs.Dtap (on_1 0x41) Zero (hex "03 45")
    ∷ inputs.Dtap (on_1 0x41) Three (hex "09 01")
    ∷ inputs.Dtap (on_2 0x49) Zero (hex "03 45")
    ∷ inputs.Complete (on_2 0x41) Handover (record { 0 = 0 })
    ∷ inputs.Failure (on_1 0x41) Handover (record { 0 = 3 })
    ∷ inputs.ReleaseAck (on_1 0x41)
    ∷ inputs.Move
    ∷ inputs.ConnectionConfirm 0x800001
    ∷ inputs.ConnectionRefused
    ∷ inputs.Released 0x800001
    ∷ inputs.Downlink Zero (hex "83 02")
    ∷ inputs.Downlink Three (hex "09 01")
    ∷ request
    ∷ inputs.AssignmentRequest false
    ∷ inputs.CipherModeCommand
    ∷ inputs.ClearCommand
    ∷ inputs.Expiry
    ∷ inputs.DrainExpiry
    ∷ inputs.StationDown 1
    ∷ inputs.StationDown 3
    ∷ inputs.SwitchDown ∷ []

abbrev is_fit : Option Row → Bool
is_fit None = false
is_fit (Some r) = true

abbrev fits : Connection → List Bool
fits s = map (λ input. is_fit (row_of s input None)) all_inputs

fits_before_activation : fits fresh
    ≡ true ∷ true ∷ false ∷ false ∷ false ∷ false ∷ false ∷ false ∷ false ∷ false ∷ false ∷ false ∷ false ∷ false ∷ false ∷ false ∷ false ∷ false ∷ false ∷ false ∷ false ∷ false ∷ false ∷ false ∷ false ∷ false ∷ false ∷ false ∷ false ∷ true ∷ false ∷ true ∷ false ∷ true ∷ []
unfolding row_of
fits_before_activation = refl

fits_before_the_mobile : fits waiting_for_mobile
    ≡ false ∷ false ∷ false ∷ false ∷ true ∷ false ∷ false ∷ false ∷ true ∷ false ∷ false ∷ false ∷ true ∷ true ∷ false ∷ false ∷ false ∷ false ∷ false ∷ false ∷ false ∷ false ∷ false ∷ false ∷ false ∷ false ∷ false ∷ false ∷ false ∷ true ∷ false ∷ true ∷ false ∷ true ∷ []
unfolding row_of
fits_before_the_mobile = refl

fits_before_the_switch : fits unconfirmed
    ≡ false ∷ false ∷ false ∷ false ∷ false ∷ false ∷ false ∷ false ∷ true ∷ false ∷ false ∷ false ∷ true ∷ true ∷ true ∷ false ∷ false ∷ false ∷ false ∷ false ∷ true ∷ true ∷ true ∷ false ∷ false ∷ false ∷ false ∷ false ∷ false ∷ false ∷ false ∷ true ∷ false ∷ true ∷ []
unfolding row_of
fits_before_the_switch = refl

fits_in_active : fits active
    ≡ false ∷ false ∷ false ∷ false ∷ false ∷ true ∷ false ∷ false ∷ true ∷ true ∷ false ∷ true ∷ true ∷ true ∷ true ∷ false ∷ false ∷ false ∷ false ∷ true ∷ false ∷ false ∷ true ∷ true ∷ true ∷ true ∷ true ∷ true ∷ true ∷ false ∷ false ∷ true ∷ false ∷ true ∷ []
unfolding row_of
fits_in_active = refl

fits_in_preparing : fits (after active (turn inputs.Move (Some (cell_2 0x41)) ∷ []))
    ≡ false ∷ false ∷ true ∷ true ∷ false ∷ true ∷ false ∷ false ∷ true ∷ true ∷ false ∷ true ∷ true ∷ true ∷ true ∷ false ∷ false ∷ false ∷ false ∷ false ∷ false ∷ false ∷ true ∷ true ∷ true ∷ true ∷ true ∷ true ∷ true ∷ true ∷ false ∷ true ∷ false ∷ true ∷ []
unfolding row_of
fits_in_preparing = refl

fits_in_changing : fits handing_over
    ≡ false ∷ false ∷ false ∷ false ∷ false ∷ false ∷ false ∷ false ∷ false ∷ false ∷ false ∷ false ∷ false ∷ true ∷ true ∷ false ∷ true ∷ true ∷ false ∷ false ∷ false ∷ false ∷ true ∷ true ∷ true ∷ true ∷ true ∷ true ∷ true ∷ true ∷ false ∷ true ∷ false ∷ true ∷ []
unfolding row_of
fits_in_changing = refl

fits_in_draining : fits handed_over
    ≡ false ∷ false ∷ false ∷ false ∷ false ∷ false ∷ false ∷ false ∷ false ∷ false ∷ false ∷ false ∷ false ∷ true ∷ true ∷ false ∷ false ∷ false ∷ true ∷ true ∷ false ∷ false ∷ true ∷ true ∷ true ∷ true ∷ true ∷ true ∷ true ∷ false ∷ true ∷ true ∷ false ∷ true ∷ []
unfolding row_of
fits_in_draining = refl

fits_where_a_request_is_due : fits (after sixteen_held (turn (inputs.Dtap (on_1 0x41) Zero (hex "03 45")) None ∷ []))
    ≡ false ∷ false ∷ false ∷ false ∷ false ∷ false ∷ false ∷ false ∷ false ∷ false ∷ false ∷ false ∷ false ∷ false ∷ false ∷ false ∷ false ∷ false ∷ false ∷ false ∷ true ∷ true ∷ true ∷ false ∷ false ∷ false ∷ false ∷ false ∷ false ∷ false ∷ false ∷ false ∷ false ∷ true ∷ []
unfolding row_of
fits_where_a_request_is_due = refl

fits_where_it_was_asked : fits (after active (turn (inputs.ConnectionFailure (on_1 0x41)) None ∷ []))
    ≡ false ∷ false ∷ false ∷ false ∷ false ∷ false ∷ false ∷ false ∷ false ∷ false ∷ false ∷ false ∷ false ∷ false ∷ false ∷ false ∷ false ∷ false ∷ false ∷ false ∷ false ∷ false ∷ true ∷ false ∷ false ∷ false ∷ false ∷ false ∷ true ∷ false ∷ false ∷ false ∷ false ∷ true ∷ []
unfolding row_of
fits_where_it_was_asked = refl

fits_after_clear_complete : fits (after active (turn inputs.ClearCommand None ∷ []))
    ≡ false ∷ false ∷ false ∷ false ∷ false ∷ false ∷ false ∷ false ∷ false ∷ false ∷ false ∷ false ∷ false ∷ false ∷ false ∷ false ∷ false ∷ false ∷ false ∷ false ∷ false ∷ false ∷ true ∷ false ∷ false ∷ false ∷ false ∷ false ∷ false ∷ false ∷ false ∷ false ∷ false ∷ true ∷ []
unfolding row_of
fits_after_clear_complete = refl

fits_when_removed : fits (after active (turn inputs.SwitchDown None ∷ []))
    ≡ false ∷ false ∷ false ∷ false ∷ false ∷ false ∷ false ∷ false ∷ false ∷ false ∷ false ∷ false ∷ false ∷ false ∷ false ∷ false ∷ false ∷ false ∷ false ∷ false ∷ false ∷ false ∷ false ∷ false ∷ false ∷ false ∷ false ∷ false ∷ false ∷ false ∷ false ∷ false ∷ false ∷ false ∷ []
unfolding row_of
fits_when_removed = refl
