-- SPDX-License-Identifier: MIT OR Apache-2.0
-- The rows of Preparing: alone, and while old channels drain.
use Rattle.conn_rules.proofs.CaseRows.{in_state, NoneFit, links_on, dtap_on, changes_on, activations_on, all_on, answers, AreRows, case}
use Rattle.conn_rules.proofs.CaseRows.{offered, live, with_texts, in_stage, ended, target, drains, is_done, held_up, tenure, empty, call}
use Rattle.conn_rules.proofs.CaseRows.{text, relay, clear_request, clear_complete, assignment_failure, sapi_n_reject, cipher_mode_reject}
use Rattle.conn_rules.proofs.CaseRows.{release_complete, hand, establish_request, channel_release, rf_channel_release, activation}
use Rattle.conn_rules.proofs.Prelude.{Live, ℕ, true, false, List, [], ◌∷◌, ◌++◌, replicate, Some, None, refl, Zero, Three, hex}
use Rattle.conn_rules.proofs.Prelude.{Connection, Place, Input, Assignment, Handover, Active, Preparing, Changing, Draining, Closed}
use Rattle.conn_rules.proofs.Prelude.{Removed, WasAsked, Complete, Stage, Down, Asked, Up}
use Rattle.conn_messages.specs.Out.{out_of}
use Rattle.conn_rules.specs.declared.input.Input.TheVariants as inputs
use Rattle.conn_rules.specs.Table.{row_of}
use Rattle.conn_rules.proofs.Lives.{Put, put, cell_1, cell_2, again, on_1, on_2, request}
use Rattle.rsl_codec.specs.RslText.{rsl_element_text}

-- two short messages wait for their link
abbrev pub two_texts : List (List ℕ)
two_texts = text 4 ∷ text 5 ∷ []

-- ---- none drains: 41 of cell 1 serves, and 0A of cell 1 or 41 of cell 2 is the target

abbrev pub assigning : Connection
assigning = with_texts Asked two_texts (live (Preparing (target Assignment (cell_1 0x0a))) (cell_1 0x41))

abbrev pub moving : Connection
moving = with_texts Asked two_texts (live (Preparing (target Handover (cell_2 0x41))) (cell_1 0x41))

abbrev pub waiting : Connection → Connection
waiting s = record s { waits = true }

-- the mobile is commanded: the link of SAPI 3 is down, what is held for it is kept,
-- and so is a request
acknowledged : AreRows (
    case assigning (inputs.ActivationAck (on_1 0x0a)) (put 1 (hex "03 01 01 41 02 00 0b 00 06 06 2e 0a 20 14 00") ∷ [])
    (with_texts Down two_texts (in_stage (Changing (target Assignment (cell_1 0x0a))) assigning))
    ∷ case (waiting assigning) (inputs.ActivationAck (on_1 0x0a)) (put 1 (hex "03 01 01 41 02 00 0b 00 06 06 2e 0a 20 14 00") ∷ [])
    (with_texts Down two_texts (in_stage (Changing (target Assignment (cell_1 0x0a))) (waiting assigning)))
    ∷ case (with_texts Up [] moving) (inputs.ActivationAck (on_2 0x41))
    (put 1 (hex "03 01 01 41 02 00 0b 00 09 06 2b 12 1e 41 40 1e 00 00") ∷ [])
    (with_texts Down [] (in_stage (Changing (target Handover (cell_2 0x41))) moving))
    ∷ [])
unfolding row_of out_of rsl_element_text
acknowledged = refl

-- the target can't be had: Active, and then the request that waits
refused : AreRows (
    case assigning (inputs.ActivationNack (on_1 0x0a)) (assignment_failure 0x20 ∷ []) (in_stage Active assigning)
    ∷ offered (cell_1 0x0b) assigning (inputs.ActivationNack (on_1 0x0a)) (assignment_failure 0x20 ∷ []) (in_stage Active assigning)
    ∷ offered (cell_1 0x0b) (waiting assigning) (inputs.ActivationNack (on_1 0x0a))
    (assignment_failure 0x20 ∷ activation 1 0x0b ∷ [])
    (in_stage (Preparing (target Assignment (cell_1 0x0b))) assigning)
    ∷ case (waiting assigning) (inputs.ActivationNack (on_1 0x0a)) (assignment_failure 0x20 ∷ assignment_failure 0x21 ∷ [])
    (in_stage Active assigning)
    ∷ case moving (inputs.ActivationNack (on_2 0x41)) [] (in_stage Active moving)
    ∷ offered (cell_1 0x0b) (waiting moving) (inputs.ActivationNack (on_2 0x41)) (activation 1 0x0b ∷ [])
    (in_stage (Preparing (target Assignment (cell_1 0x0b))) moving)
    ∷ case (waiting moving) (inputs.ActivationNack (on_2 0x41)) (assignment_failure 0x21 ∷ []) (in_stage Active moving)
    ∷ [])
unfolding row_of out_of rsl_element_text
refused = refl

-- both ways as in Active
both_ways : AreRows (
    case assigning (inputs.Downlink Zero (call 1)) (hand 1 0x41 0x00 (call 1) ∷ []) assigning
    ∷ case assigning (inputs.Downlink Three (text 6)) [] (with_texts Asked (text 4 ∷ text 5 ∷ text 6 ∷ []) assigning)
    ∷ case (with_texts Down [] assigning) (inputs.Downlink Three (text 6)) (establish_request 1 0x41 0x03 ∷ [])
    (with_texts Asked (text 6 ∷ []) assigning)
    ∷ case (with_texts Up [] assigning) (inputs.Downlink Three (text 6)) (hand 1 0x41 0x03 (text 6) ∷ []) (with_texts Up [] assigning)
    ∷ case (with_texts Asked (replicate 31 (text 1)) assigning) (inputs.Downlink Three (text 6)) []
    (with_texts Asked (replicate 31 (text 1) ++ text 6 ∷ []) assigning)
    ∷ case (with_texts Asked (replicate 32 (text 1)) assigning) (inputs.Downlink Three (text 6))
    (clear_request 0x20 ∷ channel_release 1 0x41 0x01 ∷ rf_channel_release 1 0x41 ∷ rf_channel_release 1 0x0a ∷ [])
    (ended (Closed (WasAsked 0x800001)) assigning)
    ∷ case assigning (inputs.Dtap (on_1 0x41) Zero (call 1)) (relay 0x00 (call 1) ∷ []) assigning
    ∷ case (waiting moving) (inputs.Dtap (on_1 0x41) Three (text 1)) (relay 0x83 (text 1) ∷ []) (waiting moving)
    ∷ [])
unfolding row_of out_of rsl_element_text
both_ways = refl

links_of_the_mobile : AreRows (
    case assigning (inputs.EstablishConfirm (on_1 0x41) Three) (hand 1 0x41 0x03 (text 4) ∷ hand 1 0x41 0x03 (text 5) ∷ [])
    (with_texts Up [] assigning)
    ∷ case moving (inputs.EstablishIndication (on_1 0x41) Three None)
    (hand 1 0x41 0x03 (text 4) ∷ hand 1 0x41 0x03 (text 5) ∷ []) (with_texts Up [] moving)
    ∷ case assigning (inputs.ReleaseIndication (on_1 0x41) Three) (sapi_n_reject 0x83 ∷ []) (with_texts Down [] assigning)
    ∷ case moving (inputs.ErrorIndication (on_1 0x41) Three) (sapi_n_reject 0x83 ∷ []) (with_texts Down [] moving)
    ∷ case (with_texts Up [] moving) (inputs.ReleaseIndication (on_1 0x41) Three) [] (with_texts Down [] moving)
    ∷ case (waiting assigning) (inputs.ReleaseIndication (on_1 0x41) Zero)
    (clear_request 0x01 ∷ channel_release 1 0x41 0x01 ∷ rf_channel_release 1 0x41 ∷ rf_channel_release 1 0x0a ∷ [])
    (ended (Closed (WasAsked 0x800001)) assigning)
    ∷ case (waiting moving) (inputs.ConnectionFailure (on_1 0x41))
    (clear_request 0x01 ∷ channel_release 1 0x41 0x01 ∷ rf_channel_release 1 0x41 ∷ rf_channel_release 2 0x41 ∷ [])
    (ended (Closed (WasAsked 0x800001)) moving)
    ∷ [])
unfolding row_of out_of rsl_element_text
links_of_the_mobile = refl

requests : AreRows (
    offered (cell_1 0x0b) assigning request [] (waiting assigning)
    ∷ case moving request [] (waiting moving)
    ∷ offered (cell_1 0x0b) (waiting assigning) request (assignment_failure 0x60 ∷ []) (waiting assigning)
    ∷ case moving (inputs.AssignmentRequest false) (assignment_failure 0x25 ∷ []) moving
    ∷ case (waiting moving) (inputs.AssignmentRequest false) (assignment_failure 0x25 ∷ []) (waiting moving)
    ∷ case (waiting moving) inputs.CipherModeCommand (cipher_mode_reject ∷ []) (waiting moving)
    ∷ [])
unfolding row_of out_of rsl_element_text
requests = refl

-- the serving channel is released, and then the target
ends : AreRows (
    case (waiting assigning) inputs.ClearCommand
    (channel_release 1 0x41 0x00 ∷ rf_channel_release 1 0x41 ∷ rf_channel_release 1 0x0a ∷ clear_complete ∷ [])
    (ended (Closed Complete) assigning)
    ∷ case (waiting moving) (inputs.Released 0x800077)
    (channel_release 1 0x41 0x01 ∷ rf_channel_release 1 0x41 ∷ rf_channel_release 2 0x41 ∷ release_complete 0x77 ∷ [])
    (ended Removed moving)
    ∷ case (waiting moving) inputs.SwitchDown
    (channel_release 1 0x41 0x01 ∷ rf_channel_release 1 0x41 ∷ rf_channel_release 2 0x41 ∷ []) (ended Removed moving)
    ∷ case (waiting moving) inputs.Expiry
    (clear_request 0x00 ∷ channel_release 1 0x41 0x01 ∷ rf_channel_release 1 0x41 ∷ rf_channel_release 2 0x41 ∷ [])
    (ended (Closed (WasAsked 0x800001)) moving)
    -- both channels are of the station
    ∷ case (waiting assigning) (inputs.StationDown 1) (clear_request 0x20 ∷ []) (ended (Closed (WasAsked 0x800001)) assigning)
    ∷ case (waiting moving) (inputs.StationDown 1) (clear_request 0x20 ∷ rf_channel_release 2 0x41 ∷ [])
    (ended (Closed (WasAsked 0x800001)) moving)
    ∷ case (waiting moving) (inputs.StationDown 2)
    (clear_request 0x20 ∷ channel_release 1 0x41 0x01 ∷ rf_channel_release 1 0x41 ∷ []) (ended (Closed (WasAsked 0x800001)) moving)
    ∷ [])
unfolding row_of out_of rsl_element_text
ends = refl

-- ---- two drain, 41 and 0B of cell 1; 0A of cell 2 serves. A message of each SAPI is held of 0B and of 0A

abbrev pub chained : Stage → Connection
chained stage = record (with_texts Asked two_texts (live stage (cell_2 0x0a))) {
  draining = drains (cell_1 0x41) ∷ drains (cell_1 0x0b) ∷ [];
  up = held_up (empty ∷ tenure (call 2 ∷ []) (text 2 ∷ []) ∷ tenure (call 3 ∷ []) (text 3 ∷ []) ∷ []);
  drained = 1500;
}

-- back to cell 1, or to another channel of cell 2
abbrev pub moves_on : Connection
moves_on = chained (Preparing (target Handover (again (cell_1 0x0a))))

abbrev pub assigns : Connection
assigns = chained (Preparing (target Assignment (cell_2 0x0b)))

-- the drain time runs on
acknowledged_beside : AreRows (
    case (waiting moves_on) (inputs.ActivationAck (on_1 0x0a)) (put 2 (hex "03 01 01 0a 02 00 0b 00 09 06 2b 09 14 0a 20 14 01 00") ∷ [])
    (with_texts Down two_texts (in_stage (Changing (target Handover (again (cell_1 0x0a)))) (waiting moves_on)))
    ∷ case assigns (inputs.ActivationAck (on_2 0x0b)) (put 2 (hex "03 01 01 0a 02 00 0b 00 06 06 2e 0b 40 1e 00") ∷ [])
    (with_texts Down two_texts (in_stage (Changing (target Assignment (cell_2 0x0b))) assigns))
    ∷ [])
unfolding row_of out_of rsl_element_text
acknowledged_beside = refl

-- Draining, and then the request that waits, since two drain
refused_beside : AreRows (
    case moves_on (inputs.ActivationNack (on_1 0x0a)) [] (in_stage Draining moves_on)
    ∷ case assigns (inputs.ActivationNack (on_2 0x0b)) (assignment_failure 0x20 ∷ []) (in_stage Draining assigns)
    ∷ offered (cell_2 0x0b) (waiting moves_on) (inputs.ActivationNack (on_1 0x0a)) (activation 2 0x0b ∷ [])
    (in_stage (Preparing (target Assignment (cell_2 0x0b))) moves_on)
    ∷ case (waiting moves_on) (inputs.ActivationNack (on_1 0x0a)) (assignment_failure 0x21 ∷ []) (in_stage Draining moves_on)
    ∷ offered (cell_2 0x0b) (waiting assigns) (inputs.ActivationNack (on_2 0x0b)) (assignment_failure 0x20 ∷ activation 2 0x0b ∷ [])
    (in_stage (Preparing (target Assignment (cell_2 0x0b))) assigns)
    ∷ [])
unfolding row_of out_of rsl_element_text
refused_beside = refl

both_ways_beside : AreRows (
    case moves_on (inputs.Downlink Zero (call 9)) (hand 2 0x0a 0x00 (call 9) ∷ []) moves_on
    ∷ case moves_on (inputs.Downlink Three (text 9)) [] (with_texts Asked (text 4 ∷ text 5 ∷ text 9 ∷ []) moves_on)
    ∷ case (with_texts Down [] moves_on) (inputs.Downlink Three (text 9)) (establish_request 2 0x0a 0x43 ∷ [])
    (with_texts Asked (text 9 ∷ []) moves_on)
    ∷ case (with_texts Up [] moves_on) (inputs.Downlink Three (text 9)) (hand 2 0x0a 0x43 (text 9) ∷ []) (with_texts Up [] moves_on)
    ∷ case moves_on (inputs.Dtap (on_1 0x41) Zero (call 9)) (relay 0x00 (call 9) ∷ []) moves_on
    ∷ case moves_on (inputs.Dtap (on_1 0x41) Three (text 9)) (relay 0x83 (text 9) ∷ []) moves_on
    ∷ case moves_on (inputs.Dtap (on_1 0x0b) Zero (call 9)) []
    (record moves_on
    { up = held_up (empty ∷ tenure (call 2 ∷ call 9 ∷ []) (text 2 ∷ []) ∷ tenure (call 3 ∷ []) (text 3 ∷ []) ∷ []) })
    ∷ case moves_on (inputs.Dtap (on_1 0x0b) Three (text 9)) []
    (record moves_on
    { up = held_up (empty ∷ tenure (call 2 ∷ []) (text 2 ∷ text 9 ∷ []) ∷ tenure (call 3 ∷ []) (text 3 ∷ []) ∷ []) })
    ∷ case moves_on (inputs.Dtap (on_2 0x0a) Zero (call 9)) []
    (record moves_on
    { up = held_up (empty ∷ tenure (call 2 ∷ []) (text 2 ∷ []) ∷ tenure (call 3 ∷ call 9 ∷ []) (text 3 ∷ []) ∷ []) })
    ∷ case moves_on (inputs.Dtap (on_2 0x0a) Three (text 9)) []
    (record moves_on
    { up = held_up (empty ∷ tenure (call 2 ∷ []) (text 2 ∷ []) ∷ tenure (call 3 ∷ []) (text 3 ∷ text 9 ∷ []) ∷ []) })
    ∷ [])
unfolding row_of out_of rsl_element_text
both_ways_beside = refl

-- sixteen are held over all tenures and both SAPIs
abbrev sixteen : Connection
sixteen =
    record moves_on {
      up = held_up
          (empty ∷ tenure (replicate 4 (call 2)) (replicate 4 (text 2)) ∷ tenure (replicate 4 (call 3)) (replicate 4 (text 3)) ∷ []);
    }

abbrev failed_there : List Put
failed_there = clear_request 0x20 ∷ channel_release 2 0x0a 0x01 ∷ rf_channel_release 2 0x0a ∷ rf_channel_release 1 0x0a ∷ []

one_too_many : AreRows (
    case sixteen (inputs.Dtap (on_1 0x0b) Zero (call 9)) failed_there (ended (Closed (WasAsked 0x800001)) moves_on)
    ∷ case sixteen (inputs.Dtap (on_1 0x0b) Three (text 9)) failed_there (ended (Closed (WasAsked 0x800001)) moves_on)
    ∷ case sixteen (inputs.Dtap (on_2 0x0a) Zero (call 9)) failed_there (ended (Closed (WasAsked 0x800001)) moves_on)
    ∷ case sixteen (inputs.Dtap (on_2 0x0a) Three (text 9)) failed_there (ended (Closed (WasAsked 0x800001)) moves_on)
    ∷ case sixteen (inputs.Dtap (on_1 0x41) Zero (call 9)) (relay 0x00 (call 9) ∷ []) sixteen
    ∷ [])
unfolding row_of out_of rsl_element_text
one_too_many = refl

links_beside : AreRows (
    case moves_on (inputs.EstablishConfirm (on_2 0x0a) Three) (hand 2 0x0a 0x43 (text 4) ∷ hand 2 0x0a 0x43 (text 5) ∷ [])
    (with_texts Up [] moves_on)
    ∷ case moves_on (inputs.EstablishIndication (on_2 0x0a) Three None)
    (hand 2 0x0a 0x43 (text 4) ∷ hand 2 0x0a 0x43 (text 5) ∷ []) (with_texts Up [] moves_on)
    ∷ case moves_on (inputs.ReleaseIndication (on_2 0x0a) Three) (sapi_n_reject 0xc3 ∷ []) (with_texts Down [] moves_on)
    ∷ case moves_on (inputs.ErrorIndication (on_2 0x0a) Three) (sapi_n_reject 0xc3 ∷ []) (with_texts Down [] moves_on)
    ∷ case (waiting moves_on) (inputs.ReleaseIndication (on_2 0x0a) Zero)
    (clear_request 0x01 ∷ channel_release 2 0x0a 0x01 ∷ rf_channel_release 2 0x0a ∷ rf_channel_release 1 0x0a ∷ [])
    (ended (Closed (WasAsked 0x800001)) moves_on)
    ∷ case (waiting assigns) (inputs.ConnectionFailure (on_2 0x0a))
    (clear_request 0x01 ∷ channel_release 2 0x0a 0x01 ∷ rf_channel_release 2 0x0a ∷ rf_channel_release 2 0x0b ∷ [])
    (ended (Closed (WasAsked 0x800001)) assigns)
    ∷ [])
unfolding row_of out_of rsl_element_text
links_beside = refl

-- an old channel leaves: what is held of the next is relayed as of that one's kind, and nothing begins
released_beside : AreRows (
    offered (cell_2 0x0b) (waiting moves_on) (inputs.ReleaseAck (on_1 0x41)) (relay 0x00 (call 2) ∷ relay 0xc3 (text 2) ∷ [])
    (record (waiting moves_on)
    { draining = drains (cell_1 0x0b) ∷ []; up = held_up (empty ∷ tenure (call 3 ∷ []) (text 3 ∷ []) ∷ []); drained = 0 })
    ∷ case moves_on (inputs.ReleaseAck (on_1 0x0b)) []
    (record moves_on { draining = drains (cell_1 0x41) ∷ is_done (cell_1 0x0b) ∷ [] })
    ∷ offered (cell_2 0x0b) (record (waiting moves_on) { draining = drains (cell_1 0x41) ∷ is_done (cell_1 0x0b) ∷ [] })
    (inputs.ReleaseAck (on_1 0x41))
    (relay 0x00 (call 2) ∷ relay 0xc3 (text 2) ∷ relay 0x00 (call 3) ∷ relay 0xc3 (text 3) ∷ [])
    (record (waiting moves_on) { draining = []; up = held_up (empty ∷ []); drained = 0 })
    ∷ [])
unfolding row_of out_of rsl_element_text
released_beside = refl

requests_beside : AreRows (
    offered (cell_2 0x0b) moves_on request [] (waiting moves_on)
    ∷ offered (cell_2 0x0b) (waiting moves_on) request (assignment_failure 0x60 ∷ []) (waiting moves_on)
    ∷ case (waiting moves_on) (inputs.AssignmentRequest false) (assignment_failure 0x25 ∷ []) (waiting moves_on)
    ∷ case (waiting moves_on) inputs.CipherModeCommand (cipher_mode_reject ∷ []) (waiting moves_on)
    ∷ [])
unfolding row_of out_of rsl_element_text
requests_beside = refl

-- old channels had their releases
ends_beside : AreRows (
    case (waiting moves_on) inputs.ClearCommand
    (channel_release 2 0x0a 0x00 ∷ rf_channel_release 2 0x0a ∷ rf_channel_release 1 0x0a ∷ clear_complete ∷ [])
    (ended (Closed Complete) moves_on)
    ∷ case (waiting moves_on) (inputs.Released 0x800077)
    (channel_release 2 0x0a 0x01 ∷ rf_channel_release 2 0x0a ∷ rf_channel_release 1 0x0a ∷ release_complete 0x77 ∷ [])
    (ended Removed moves_on)
    ∷ case (waiting moves_on) inputs.SwitchDown
    (channel_release 2 0x0a 0x01 ∷ rf_channel_release 2 0x0a ∷ rf_channel_release 1 0x0a ∷ []) (ended Removed moves_on)
    ∷ case (waiting moves_on) inputs.Expiry
    (clear_request 0x00 ∷ channel_release 2 0x0a 0x01 ∷ rf_channel_release 2 0x0a ∷ rf_channel_release 1 0x0a ∷ [])
    (ended (Closed (WasAsked 0x800001)) moves_on)
    ∷ case (waiting moves_on) inputs.DrainExpiry failed_there (ended (Closed (WasAsked 0x800001)) moves_on)
    -- the station of the serving channel; of the target and the old ones; of the old ones alone
    ∷ case (waiting moves_on) (inputs.StationDown 2) (clear_request 0x20 ∷ rf_channel_release 1 0x0a ∷ [])
    (ended (Closed (WasAsked 0x800001)) moves_on)
    ∷ case (waiting moves_on) (inputs.StationDown 1)
    (clear_request 0x20 ∷ channel_release 2 0x0a 0x01 ∷ rf_channel_release 2 0x0a ∷ []) (ended (Closed (WasAsked 0x800001)) moves_on)
    ∷ case (waiting assigns) (inputs.StationDown 1)
    (clear_request 0x20 ∷ channel_release 2 0x0a 0x01 ∷ rf_channel_release 2 0x0a ∷ rf_channel_release 2 0x0b ∷ [])
    (ended (Closed (WasAsked 0x800001)) assigns)
    ∷ [])
unfolding row_of out_of rsl_element_text
ends_beside = refl

-- ---- a switch that calls the connection 80000f; a request waits

abbrev other : Connection
other = record (waiting assigning) { state = Live 0x80000f (Preparing (target Assignment (cell_1 0x0a))) }

another_reference : AreRows (
    case other (inputs.ActivationAck (on_1 0x0a)) (put 1 (hex "03 01 01 41 02 00 0b 00 06 06 2e 0a 20 14 00") ∷ [])
    (with_texts Down two_texts (in_state (Live 0x80000f (Changing (target Assignment (cell_1 0x0a)))) other))
    ∷ case other (inputs.ActivationNack (on_1 0x0a))
    (put 0 (hex "06 80 00 0f 00 01 06 00 04 03 04 01 20") ∷ put 0 (hex "06 80 00 0f 00 01 06 00 04 03 04 01 21") ∷ [])
    (in_state (Live 0x80000f Active) assigning)
    ∷ offered (cell_1 0x0b) other (inputs.ActivationNack (on_1 0x0a))
    (put 0 (hex "06 80 00 0f 00 01 06 00 04 03 04 01 20") ∷ activation 1 0x0b ∷ [])
    (in_state (Live 0x80000f (Preparing (target Assignment (cell_1 0x0b)))) assigning)
    ∷ case other request (put 0 (hex "06 80 00 0f 00 01 06 00 04 03 04 01 60") ∷ []) other
    ∷ case other (inputs.AssignmentRequest false) (put 0 (hex "06 80 00 0f 00 01 06 00 04 03 04 01 25") ∷ []) other
    ∷ case other inputs.Expiry
    (put 0 (hex "06 80 00 0f 00 01 06 00 04 22 04 01 00") ∷ channel_release 1 0x41 0x01 ∷ rf_channel_release 1 0x41
    ∷ rf_channel_release 1 0x0a ∷ [])
    (ended (Closed (WasAsked 0x80000f)) assigning)
    ∷ [])
unfolding row_of out_of rsl_element_text
another_reference = refl

-- ---- nothing else has a row, whatever is offered

-- of a serving channel
abbrev of_no_serving : Place → List Input
of_no_serving at =
    activations_on at ++ inputs.EstablishIndication at Zero (Some (call 1)) ∷ inputs.EstablishConfirm at Zero
    ∷ inputs.ErrorIndication at Zero
    ∷ changes_on at ++ inputs.ReleaseAck at ∷ []

-- of a target
abbrev of_no_target : Place → List Input
of_no_target at = links_on at ++ dtap_on at ++ changes_on at ++ inputs.ReleaseAck at ∷ []

-- of an old channel
abbrev of_no_old : Place → List Input
of_no_old at = activations_on at ++ links_on at ++ changes_on at

none_alone : NoneFit (waiting assigning) (Some (cell_1 0x0b)) (
    of_no_serving (on_1 0x41) ++ of_no_target (on_1 0x0a) ++ all_on (on_2 0x41) ++ all_on (on_2 0x0a) ++ all_on (on_1 0x0b)
    ++ answers ++ inputs.Move ∷ inputs.DrainExpiry ∷ inputs.StationDown 2 ∷ [])
unfolding row_of
none_alone = refl

none_unasked : NoneFit (with_texts Up [] assigning) (Some (cell_1 0x0b)) (inputs.EstablishConfirm (on_1 0x41) Three ∷ [])
unfolding row_of
none_unasked = refl

none_beside : NoneFit (waiting moves_on) (Some (cell_1 0x0c)) (
    of_no_serving (on_2 0x0a) ++ of_no_target (on_1 0x0a) ++ of_no_old (on_1 0x41) ++ of_no_old (on_1 0x0b) ++ all_on (on_2 0x0b)
    ++ all_on (on_2 0x41)
    ++ answers ++ inputs.Move ∷ inputs.StationDown 3 ∷ [])
unfolding row_of
none_beside = refl

-- a channel that is done isn't looked at, nor its station
abbrev done : Connection
done = record moves_on { draining = drains (cell_1 0x41) ∷ is_done (cell_2 0x0c) ∷ [] }

none_of_a_done_one : NoneFit done (Some (cell_1 0x0c)) (all_on (on_2 0x0c))
unfolding row_of
none_of_a_done_one = refl

abbrev done_elsewhere : Connection
done_elsewhere = record assigns { draining = drains (cell_2 0x41) ∷ is_done (cell_1 0x0b) ∷ [] }

none_at_the_station_of_a_done_one : NoneFit done_elsewhere (Some (cell_1 0x0c)) (all_on (on_1 0x0b) ++ inputs.StationDown 1 ∷ [])
unfolding row_of
none_at_the_station_of_a_done_one = refl
