-- SPDX-License-Identifier: MIT OR Apache-2.0
-- The rows of Changing: alone, and while old channels drain.
use Rattle.conn_rules.proofs.CaseRows.{in_state, NoneFit, complete, failure, links_on, changes_on, activations_on, all_on, answers}
use Rattle.conn_rules.proofs.CaseRows.{AreRows, case, offered, live, with_texts, in_stage, ended, target, drains, is_done, held, held_up}
use Rattle.conn_rules.proofs.CaseRows.{tenure, empty, call, text, relay, clear_request, clear_complete, assignment_failure, reversion}
use Rattle.conn_rules.proofs.CaseRows.{assignment_complete, handover_performed, cipher_mode_reject, release_complete, hand}
use Rattle.conn_rules.proofs.CaseRows.{establish_request, channel_release, rf_channel_release, activation}
use Rattle.conn_rules.proofs.Prelude.{Live, hex, ℕ, true, false, List, [], ◌∷◌, ◌++◌, replicate, Some, refl, Zero, Three}
use Rattle.conn_rules.proofs.Prelude.{Connection, Place, Change, Input, Assignment, Handover, Active, Preparing, Changing, Draining}
use Rattle.conn_rules.proofs.Prelude.{Closed, Removed, WasAsked, Complete, TenureHold, Down, Asked}
use Rattle.conn_rules.proofs.Lives.{put, Put, cell_1, cell_2, again, on_1, on_2, request}
use Rattle.conn_messages.specs.Out.{out_of}
use Rattle.conn_rules.specs.declared.input.Input.TheVariants as inputs
use Rattle.conn_rules.specs.Table.{row_of}
use Rattle.rsl_codec.specs.RslText.{rsl_element_text}

abbrev pub waiting : Connection → Connection
waiting s = record s { waits = true }

abbrev pub holding : List (List ℕ) → List (List ℕ) → Connection → Connection
holding calls texts s = record s { down = held calls texts }

-- two messages of each SAPI are held
abbrev two_calls : List (List ℕ)
two_calls = call 6 ∷ call 7 ∷ []

abbrev pub two_texts : List (List ℕ)
two_texts = text 4 ∷ text 5 ∷ []

-- ---- none drains: 41 of cell 1 serves, and 0A of cell 1 or 41 of cell 2 is the target

abbrev pub assigning : Connection
assigning = holding two_calls two_texts (live (Changing (target Assignment (cell_1 0x0a))) (cell_1 0x41))

abbrev pub moving : Connection
moving = holding two_calls two_texts (live (Changing (target Handover (cell_2 0x41))) (cell_1 0x41))

-- the target serves, and the other drains
abbrev assigned : Connection
assigned = record (in_stage Draining assigning) {
  serving = cell_1 0x0a;
  link = Asked;
  draining = drains (cell_1 0x41) ∷ [];
  down = held [] two_texts;
  up = held_up (empty ∷ empty ∷ []);
}

abbrev moved : Connection
moved = record assigned { serving = cell_2 0x41 }

abbrev assigned_puts : List Put
assigned_puts = assignment_complete 0x05 ∷ rf_channel_release 1 0x41 ∷ hand 1 0x0a 0x00 (call 6) ∷ hand 1 0x0a 0x00 (call 7)
    ∷ establish_request 1 0x0a 0x43 ∷ []

abbrev moved_puts : List Put
moved_puts = handover_performed 2 ∷ rf_channel_release 1 0x41 ∷ hand 2 0x41 0x00 (call 6) ∷ hand 2 0x41 0x00 (call 7)
    ∷ establish_request 2 0x41 0x03 ∷ []

-- the waiting request begins last
completed : AreRows (
    case assigning (inputs.Complete (on_1 0x0a) Assignment (record { 0 = 5 })) assigned_puts assigned
    ∷ offered (cell_1 0x0b) assigning (inputs.Complete (on_1 0x0a) Assignment (record { 0 = 5 })) assigned_puts assigned
    ∷ offered (cell_1 0x0b) (waiting assigning) (inputs.Complete (on_1 0x0a) Assignment (record { 0 = 5 }))
    (assigned_puts ++ activation 1 0x0b ∷ [])
    (in_stage (Preparing (target Assignment (cell_1 0x0b))) assigned)
    ∷ case (waiting assigning) (inputs.Complete (on_1 0x0a) Assignment (record { 0 = 5 }))
    (assigned_puts ++ assignment_failure 0x21 ∷ []) assigned
    ∷ case moving (inputs.Complete (on_2 0x41) Handover (record { 0 = 5 })) moved_puts moved
    ∷ offered (cell_2 0x0b) (waiting moving) (inputs.Complete (on_2 0x41) Handover (record { 0 = 0 }))
    (moved_puts ++ activation 2 0x0b ∷ [])
    (in_stage (Preparing (target Assignment (cell_2 0x0b))) moved)
    ∷ case (waiting moving) (inputs.Complete (on_2 0x41) Handover (record { 0 = 0 })) (moved_puts ++ assignment_failure 0x21 ∷ [])
    moved
    -- the link is asked for only where a short message is held
    ∷ case (holding two_calls [] assigning) (inputs.Complete (on_1 0x0a) Assignment (record { 0 = 0 }))
    (assignment_complete 0x00 ∷ rf_channel_release 1 0x41 ∷ hand 1 0x0a 0x00 (call 6) ∷ hand 1 0x0a 0x00 (call 7) ∷ [])
    (with_texts Down [] assigned)
    ∷ case (holding [] (text 4 ∷ []) moving) (inputs.Complete (on_2 0x41) Handover (record { 0 = 0 }))
    (handover_performed 2 ∷ rf_channel_release 1 0x41 ∷ establish_request 2 0x41 0x03 ∷ []) (with_texts Asked (text 4 ∷ []) moved)
    ∷ [])
unfolding row_of out_of rsl_element_text
completed = refl

-- the mobile is back: Active, and then the request that waits
abbrev returned : Connection → Connection
returned s = record (in_stage Active s) { link = Asked; down = held [] two_texts }

abbrev returned_puts : List Put
returned_puts = hand 1 0x41 0x00 (call 6) ∷ hand 1 0x41 0x00 (call 7) ∷ establish_request 1 0x41 0x03 ∷ []

failed : AreRows (
    case assigning (inputs.Failure (on_1 0x41) Assignment (record { 0 = 3 }))
    (reversion 0x03 ∷ rf_channel_release 1 0x0a ∷ returned_puts) (returned assigning)
    ∷ offered (cell_1 0x0b) (waiting assigning) (inputs.Failure (on_1 0x41) Assignment (record { 0 = 3 }))
    (reversion 0x03 ∷ rf_channel_release 1 0x0a ∷ returned_puts ++ activation 1 0x0b ∷ [])
    (in_stage (Preparing (target Assignment (cell_1 0x0b))) (returned assigning))
    ∷ case (waiting assigning) (inputs.Failure (on_1 0x41) Assignment (record { 0 = 3 }))
    (reversion 0x03 ∷ rf_channel_release 1 0x0a ∷ returned_puts ++ assignment_failure 0x21 ∷ []) (returned assigning)
    ∷ case moving (inputs.Failure (on_1 0x41) Handover (record { 0 = 3 })) (rf_channel_release 2 0x41 ∷ returned_puts)
    (returned moving)
    ∷ offered (cell_1 0x0b) (waiting moving) (inputs.Failure (on_1 0x41) Handover (record { 0 = 3 }))
    (rf_channel_release 2 0x41 ∷ returned_puts ++ activation 1 0x0b ∷ [])
    (in_stage (Preparing (target Assignment (cell_1 0x0b))) (returned moving))
    ∷ case (waiting moving) (inputs.Failure (on_1 0x41) Handover (record { 0 = 3 }))
    (rf_channel_release 2 0x41 ∷ returned_puts ++ assignment_failure 0x21 ∷ []) (returned moving)
    ∷ case (holding two_calls [] moving) (inputs.Failure (on_1 0x41) Handover (record { 0 = 3 }))
    (rf_channel_release 2 0x41 ∷ hand 1 0x41 0x00 (call 6) ∷ hand 1 0x41 0x00 (call 7) ∷ []) (with_texts Down [] (returned moving))
    ∷ [])
unfolding row_of out_of rsl_element_text
failed = refl

-- the switch's messages are held, 32 over both SAPIs; the mobile's are relayed, and
-- on the target none may arrive
abbrev failed_here : List Put
failed_here = clear_request 0x20 ∷ channel_release 1 0x41 0x01 ∷ rf_channel_release 1 0x41 ∷ rf_channel_release 1 0x0a ∷ []

both_ways : AreRows (
    case (waiting assigning) (inputs.Downlink Zero (call 8)) []
    (holding (call 6 ∷ call 7 ∷ call 8 ∷ []) two_texts (waiting assigning))
    ∷ case assigning (inputs.Downlink Three (text 8)) [] (holding two_calls (text 4 ∷ text 5 ∷ text 8 ∷ []) assigning)
    ∷ case (holding (replicate 20 (call 1)) (replicate 11 (text 1)) assigning) (inputs.Downlink Zero (call 2)) []
    (holding (replicate 20 (call 1) ++ call 2 ∷ []) (replicate 11 (text 1)) assigning)
    ∷ case (holding (replicate 20 (call 1)) (replicate 11 (text 1)) assigning) (inputs.Downlink Three (text 2)) []
    (holding (replicate 20 (call 1)) (replicate 11 (text 1) ++ text 2 ∷ []) assigning)
    ∷ case (holding (replicate 20 (call 1)) (replicate 12 (text 1)) assigning) (inputs.Downlink Zero (call 2)) failed_here
    (ended (Closed (WasAsked 0x800001)) assigning)
    ∷ case (holding (replicate 20 (call 1)) (replicate 12 (text 1)) assigning) (inputs.Downlink Three (text 2)) failed_here
    (ended (Closed (WasAsked 0x800001)) assigning)
    ∷ case assigning (inputs.Dtap (on_1 0x41) Zero (call 1)) (relay 0x00 (call 1) ∷ []) assigning
    ∷ case moving (inputs.Dtap (on_1 0x41) Three (text 1)) (relay 0x83 (text 1) ∷ []) moving
    ∷ case (waiting assigning) (inputs.Dtap (on_1 0x0a) Zero (call 1)) failed_here (ended (Closed (WasAsked 0x800001)) assigning)
    ∷ [])
unfolding row_of out_of rsl_element_text
both_ways = refl

requests : AreRows (
    offered (cell_1 0x0b) assigning request [] (waiting assigning)
    ∷ offered (cell_1 0x0b) (waiting assigning) request (assignment_failure 0x60 ∷ []) (waiting assigning)
    ∷ case moving (inputs.AssignmentRequest false) (assignment_failure 0x25 ∷ []) moving
    ∷ case (waiting moving) (inputs.AssignmentRequest false) (assignment_failure 0x25 ∷ []) (waiting moving)
    ∷ case (waiting moving) inputs.CipherModeCommand (cipher_mode_reject ∷ []) (waiting moving)
    ∷ [])
unfolding row_of out_of rsl_element_text
requests = refl

ends : AreRows (
    case (waiting assigning) inputs.ClearCommand
    (channel_release 1 0x41 0x00 ∷ rf_channel_release 1 0x41 ∷ rf_channel_release 1 0x0a ∷ clear_complete ∷ [])
    (ended (Closed Complete) assigning)
    ∷ case (waiting moving) (inputs.Released 0x800001)
    (channel_release 1 0x41 0x01 ∷ rf_channel_release 1 0x41 ∷ rf_channel_release 2 0x41 ∷ release_complete 0x01 ∷ [])
    (ended Removed moving)
    ∷ case (waiting moving) (inputs.Released 0x800077)
    (channel_release 1 0x41 0x01 ∷ rf_channel_release 1 0x41 ∷ rf_channel_release 2 0x41 ∷ release_complete 0x77 ∷ [])
    (ended Removed moving)
    ∷ case (waiting moving) inputs.SwitchDown
    (channel_release 1 0x41 0x01 ∷ rf_channel_release 1 0x41 ∷ rf_channel_release 2 0x41 ∷ []) (ended Removed moving)
    ∷ case (waiting moving) inputs.Expiry
    (clear_request 0x00 ∷ channel_release 1 0x41 0x01 ∷ rf_channel_release 1 0x41 ∷ rf_channel_release 2 0x41 ∷ [])
    (ended (Closed (WasAsked 0x800001)) moving)
    -- both channels are of the station
    ∷ case (waiting assigning) (inputs.StationDown 1) (clear_request 0x20 ∷ []) (ended (Closed (WasAsked 0x800001)) assigning)
    ∷ case (waiting moving) (inputs.StationDown 1) (clear_request 0x20 ∷ rf_channel_release 2 0x41 ∷ [])
    (ended (Closed (WasAsked 0x800001)) moving)
    ∷ case (waiting moving) (inputs.StationDown 2)
    (clear_request 0x20 ∷ channel_release 1 0x41 0x01 ∷ rf_channel_release 1 0x41 ∷ []) (ended (Closed (WasAsked 0x800001)) moving)
    ∷ [])
unfolding row_of out_of rsl_element_text
ends = refl

-- ---- two drain, 41 and 0B of cell 1; 0A of cell 2 serves, and 0A of cell 1 or 0B of cell 2 is the target. A message of
-- each SAPI is held of 0B of cell 1 and of 0A

abbrev held_of_both : List TenureHold
held_of_both = empty ∷ tenure (call 2 ∷ []) (text 2 ∷ []) ∷ tenure (call 3 ∷ []) (text 3 ∷ []) ∷ []

abbrev pub moves_on : Connection
moves_on = record (holding two_calls two_texts (live (Changing (target Handover (again (cell_1 0x0a)))) (cell_2 0x0a))) {
  draining = drains (cell_1 0x41) ∷ drains (cell_1 0x0b) ∷ [];
  up = held_up held_of_both;
  drained = 1500;
}

abbrev pub assigns : Connection
assigns = record (in_stage (Changing (target Assignment (cell_2 0x0b))) moves_on) { waited = 700 }

-- one drains
abbrev pub moves_behind_one : Connection
moves_behind_one =
    record moves_on { draining = drains (cell_1 0x0b) ∷ []; up = held_up (empty ∷ tenure (call 3 ∷ []) (text 3 ∷ []) ∷ []) }

abbrev moved_behind_one : Connection
moved_behind_one = record (in_stage Draining moves_behind_one) {
  serving = again (cell_1 0x0a);
  link = Asked;
  draining = drains (cell_1 0x0b) ∷ drains (cell_2 0x0a) ∷ [];
  down = held [] two_texts;
  up = held_up (empty ∷ tenure (call 3 ∷ []) (text 3 ∷ []) ∷ empty ∷ []);
}

abbrev moved_beside_puts : List Put
moved_beside_puts = handover_performed 1 ∷ rf_channel_release 2 0x0a ∷ hand 1 0x0a 0x00 (call 6) ∷ hand 1 0x0a 0x00 (call 7)
    ∷ establish_request 1 0x0a 0x43 ∷ []

abbrev moved_behind_two : Connection → Connection
moved_behind_two s = record (in_stage Draining s) {
  serving = again (cell_1 0x0a);
  link = Asked;
  draining = s.draining ++ drains (cell_2 0x0a) ∷ [];
  down = held [] two_texts;
  up = held_up (empty ∷ tenure (call 2 ∷ []) (text 2 ∷ []) ∷ tenure (call 3 ∷ []) (text 3 ∷ []) ∷ empty ∷ []);
}

-- with three the request still waits, also where one of them is done; the drain time runs on
completed_beside : AreRows (
    case moves_on (inputs.Complete (on_1 0x0a) Handover (record { 0 = 0 })) moved_beside_puts (moved_behind_two moves_on)
    ∷ offered (cell_1 0x12) (waiting moves_on) (inputs.Complete (on_1 0x0a) Handover (record { 0 = 0 })) moved_beside_puts
    (waiting (moved_behind_two moves_on))
    ∷ case (waiting moves_on) (inputs.Complete (on_1 0x0a) Handover (record { 0 = 0 })) moved_beside_puts
    (waiting (moved_behind_two moves_on))
    ∷ offered (cell_1 0x12) (record (waiting moves_on) { draining = drains (cell_1 0x41) ∷ is_done (cell_1 0x0b) ∷ [] })
    (inputs.Complete (on_1 0x0a) Handover (record { 0 = 0 })) moved_beside_puts
    (waiting (moved_behind_two (record moves_on { draining = drains (cell_1 0x41) ∷ is_done (cell_1 0x0b) ∷ [] })))
    ∷ offered (cell_1 0x0c) (waiting moves_behind_one) (inputs.Complete (on_1 0x0a) Handover (record { 0 = 0 }))
    (moved_beside_puts ++ activation 1 0x0c ∷ []) (in_stage (Preparing (target Assignment (cell_1 0x0c))) moved_behind_one)
    ∷ case (waiting moves_behind_one) (inputs.Complete (on_1 0x0a) Handover (record { 0 = 0 }))
    (moved_beside_puts ++ assignment_failure 0x21 ∷ []) moved_behind_one
    ∷ case assigns (inputs.Complete (on_2 0x0b) Assignment (record { 0 = 1 }))
    (assignment_complete 0x01 ∷ rf_channel_release 2 0x0a ∷ hand 2 0x0b 0x00 (call 6) ∷ hand 2 0x0b 0x00 (call 7)
    ∷ establish_request 2 0x0b 0x43 ∷ [])
    (record (moved_behind_two assigns) { serving = cell_2 0x0b })
    ∷ [])
unfolding row_of out_of rsl_element_text
completed_beside = refl

-- Draining, and then the request that waits, since two drain
abbrev returned_beside : Connection
returned_beside = record (in_stage Draining moves_on) { link = Asked; down = held [] two_texts }

abbrev returned_beside_puts : List Put
returned_beside_puts = hand 2 0x0a 0x00 (call 6) ∷ hand 2 0x0a 0x00 (call 7) ∷ establish_request 2 0x0a 0x43 ∷ []

failed_beside : AreRows (
    case moves_on (inputs.Failure (on_2 0x0a) Handover (record { 0 = 3 })) (rf_channel_release 1 0x0a ∷ returned_beside_puts)
    returned_beside
    ∷ offered (cell_2 0x0c) (waiting moves_on) (inputs.Failure (on_2 0x0a) Handover (record { 0 = 3 }))
    (rf_channel_release 1 0x0a ∷ returned_beside_puts ++ activation 2 0x0c ∷ [])
    (in_stage (Preparing (target Assignment (cell_2 0x0c))) returned_beside)
    ∷ case (waiting moves_on) (inputs.Failure (on_2 0x0a) Handover (record { 0 = 3 }))
    (rf_channel_release 1 0x0a ∷ returned_beside_puts ++ assignment_failure 0x21 ∷ []) returned_beside
    ∷ case assigns (inputs.Failure (on_2 0x0a) Assignment (record { 0 = 1 }))
    (reversion 0x01 ∷ rf_channel_release 2 0x0b ∷ returned_beside_puts) returned_beside
    ∷ offered (cell_2 0x0c) (waiting assigns) (inputs.Failure (on_2 0x0a) Assignment (record { 0 = 1 }))
    (reversion 0x01 ∷ rf_channel_release 2 0x0b ∷ returned_beside_puts ++ activation 2 0x0c ∷ [])
    (in_stage (Preparing (target Assignment (cell_2 0x0c))) returned_beside)
    ∷ [])
unfolding row_of out_of rsl_element_text
failed_beside = refl

abbrev failed_there : List Put
failed_there = clear_request 0x20 ∷ channel_release 2 0x0a 0x01 ∷ rf_channel_release 2 0x0a ∷ rf_channel_release 1 0x0a ∷ []

both_ways_beside : AreRows (
    case moves_on (inputs.Downlink Zero (call 9)) [] (holding (call 6 ∷ call 7 ∷ call 9 ∷ []) two_texts moves_on)
    ∷ case moves_on (inputs.Downlink Three (text 9)) [] (holding two_calls (text 4 ∷ text 5 ∷ text 9 ∷ []) moves_on)
    ∷ case moves_on (inputs.Dtap (on_1 0x41) Zero (call 9)) (relay 0x00 (call 9) ∷ []) moves_on
    ∷ case moves_on (inputs.Dtap (on_1 0x41) Three (text 9)) (relay 0x83 (text 9) ∷ []) moves_on
    ∷ case moves_on (inputs.Dtap (on_1 0x0b) Zero (call 9)) []
    (record moves_on
    { up = held_up (empty ∷ tenure (call 2 ∷ call 9 ∷ []) (text 2 ∷ []) ∷ tenure (call 3 ∷ []) (text 3 ∷ []) ∷ []) })
    ∷ case moves_on (inputs.Dtap (on_1 0x0b) Three (text 9)) []
    (record moves_on
    { up = held_up (empty ∷ tenure (call 2 ∷ []) (text 2 ∷ text 9 ∷ []) ∷ tenure (call 3 ∷ []) (text 3 ∷ []) ∷ []) })
    ∷ case moves_on (inputs.Dtap (on_2 0x0a) Zero (call 9)) []
    (record moves_on
    { up = held_up (empty ∷ tenure (call 2 ∷ []) (text 2 ∷ []) ∷ tenure (call 3 ∷ call 9 ∷ []) (text 3 ∷ []) ∷ []) })
    ∷ case moves_on (inputs.Dtap (on_2 0x0a) Three (text 9)) []
    (record moves_on
    { up = held_up (empty ∷ tenure (call 2 ∷ []) (text 2 ∷ []) ∷ tenure (call 3 ∷ []) (text 3 ∷ text 9 ∷ []) ∷ []) })
    ∷ case (waiting moves_on) (inputs.Dtap (on_1 0x0a) Zero (call 9)) failed_there (ended (Closed (WasAsked 0x800001)) moves_on)
    ∷ [])
unfolding row_of out_of rsl_element_text
both_ways_beside = refl

-- sixteen are held over all tenures and both SAPIs
abbrev sixteen : Connection
sixteen =
    record moves_on {
      up = held_up
          (empty ∷ tenure (replicate 4 (call 2)) (replicate 4 (text 2)) ∷ tenure (replicate 4 (call 3)) (replicate 4 (text 3)) ∷ []);
    }

one_too_many : AreRows (
    case sixteen (inputs.Dtap (on_1 0x0b) Zero (call 9)) failed_there (ended (Closed (WasAsked 0x800001)) moves_on)
    ∷ case sixteen (inputs.Dtap (on_1 0x0b) Three (text 9)) failed_there (ended (Closed (WasAsked 0x800001)) moves_on)
    ∷ case sixteen (inputs.Dtap (on_2 0x0a) Zero (call 9)) failed_there (ended (Closed (WasAsked 0x800001)) moves_on)
    ∷ case sixteen (inputs.Dtap (on_2 0x0a) Three (text 9)) failed_there (ended (Closed (WasAsked 0x800001)) moves_on)
    ∷ case sixteen (inputs.Dtap (on_1 0x41) Zero (call 9)) (relay 0x00 (call 9) ∷ []) sixteen
    ∷ [])
unfolding row_of out_of rsl_element_text
one_too_many = refl

-- an old channel leaves: the change continues, and nothing else begins
released_beside : AreRows (
    offered (cell_2 0x0c) (waiting moves_on) (inputs.ReleaseAck (on_1 0x41)) (relay 0x00 (call 2) ∷ relay 0xc3 (text 2) ∷ [])
    (record (waiting moves_on)
    { draining = drains (cell_1 0x0b) ∷ []; up = held_up (empty ∷ tenure (call 3 ∷ []) (text 3 ∷ []) ∷ []); drained = 0 })
    ∷ case moves_on (inputs.ReleaseAck (on_1 0x0b)) []
    (record moves_on { draining = drains (cell_1 0x41) ∷ is_done (cell_1 0x0b) ∷ [] })
    ∷ offered (cell_2 0x0c) (record (waiting moves_on) { draining = drains (cell_1 0x41) ∷ is_done (cell_1 0x0b) ∷ [] })
    (inputs.ReleaseAck (on_1 0x41))
    (relay 0x00 (call 2) ∷ relay 0xc3 (text 2) ∷ relay 0x00 (call 3) ∷ relay 0xc3 (text 3) ∷ [])
    (record (waiting moves_on) { draining = []; up = held_up (empty ∷ []); drained = 0 })
    ∷ [])
unfolding row_of out_of rsl_element_text
released_beside = refl

-- old channels had their releases
ends_beside : AreRows (
    case (waiting moves_on) inputs.ClearCommand
    (channel_release 2 0x0a 0x00 ∷ rf_channel_release 2 0x0a ∷ rf_channel_release 1 0x0a ∷ clear_complete ∷ [])
    (ended (Closed Complete) moves_on)
    ∷ case (waiting moves_on) (inputs.Released 0x800077)
    (channel_release 2 0x0a 0x01 ∷ rf_channel_release 2 0x0a ∷ rf_channel_release 1 0x0a ∷ release_complete 0x77 ∷ [])
    (ended Removed moves_on)
    ∷ case (waiting moves_on) inputs.SwitchDown
    (channel_release 2 0x0a 0x01 ∷ rf_channel_release 2 0x0a ∷ rf_channel_release 1 0x0a ∷ []) (ended Removed moves_on)
    ∷ case (waiting moves_on) inputs.Expiry
    (clear_request 0x00 ∷ channel_release 2 0x0a 0x01 ∷ rf_channel_release 2 0x0a ∷ rf_channel_release 1 0x0a ∷ [])
    (ended (Closed (WasAsked 0x800001)) moves_on)
    ∷ case (waiting moves_on) inputs.DrainExpiry failed_there (ended (Closed (WasAsked 0x800001)) moves_on)
    -- the station of the serving channel; of the target and the old ones; of the old ones alone
    ∷ case (waiting moves_on) (inputs.StationDown 2) (clear_request 0x20 ∷ rf_channel_release 1 0x0a ∷ [])
    (ended (Closed (WasAsked 0x800001)) moves_on)
    ∷ case (waiting moves_on) (inputs.StationDown 1)
    (clear_request 0x20 ∷ channel_release 2 0x0a 0x01 ∷ rf_channel_release 2 0x0a ∷ []) (ended (Closed (WasAsked 0x800001)) moves_on)
    ∷ case (waiting assigns) (inputs.StationDown 1)
    (clear_request 0x20 ∷ channel_release 2 0x0a 0x01 ∷ rf_channel_release 2 0x0a ∷ rf_channel_release 2 0x0b ∷ [])
    (ended (Closed (WasAsked 0x800001)) assigns)
    ∷ [])
unfolding row_of out_of rsl_element_text
ends_beside = refl

-- ---- a switch that calls the connection 80000f; a request waits

abbrev other : Connection
other = record (waiting moving) { state = Live 0x80000f (Changing (target Handover (cell_2 0x41))) }

another_reference : AreRows (
    case other (inputs.Complete (on_2 0x41) Handover (record { 0 = 0 }))
    (put 0 (hex "06 80 00 0f 00 01 10 00 0e 17 04 01 0c 05 08 00 00 f1 10 00 01 00 02") ∷ rf_channel_release 1 0x41
    ∷ hand 2 0x41 0x00 (call 6)
    ∷ hand 2 0x41 0x00 (call 7) ∷ establish_request 2 0x41 0x03 ∷ put 0 (hex "06 80 00 0f 00 01 06 00 04 03 04 01 21") ∷ [])
    (record moved { state = Live 0x80000f Draining })
    ∷ case other (inputs.Failure (on_1 0x41) Handover (record { 0 = 0 }))
    (rf_channel_release 2 0x41 ∷ returned_puts ++ put 0 (hex "06 80 00 0f 00 01 06 00 04 03 04 01 21") ∷ [])
    (in_state (Live 0x80000f Active) (returned moving))
    ∷ case (record assigning { state = Live 0x80000f (Changing (target Assignment (cell_1 0x0a))) })
    (inputs.Failure (on_1 0x41) Assignment (record { 0 = 3 }))
    (put 0 (hex "06 80 00 0f 00 01 08 00 06 03 04 01 0a 15 03") ∷ rf_channel_release 1 0x0a ∷ returned_puts)
    (in_state (Live 0x80000f Active) (returned assigning))
    ∷ case other (inputs.Dtap (on_2 0x41) Zero (call 1))
    (put 0 (hex "06 80 00 0f 00 01 06 00 04 22 04 01 20") ∷ channel_release 1 0x41 0x01 ∷ rf_channel_release 1 0x41
    ∷ rf_channel_release 2 0x41 ∷ [])
    (ended (Closed (WasAsked 0x80000f)) moving)
    ∷ [])
unfolding row_of out_of rsl_element_text
another_reference = refl

-- ---- nothing else has a row, whatever is offered: the links of the serving channel aren't looked at

-- of a serving channel, and of the target, while this change is under way
abbrev of_no_serving : Place → Change → List Input
of_no_serving at other =
    activations_on at ++ links_on at ++ complete at Assignment ∷ complete at Handover ∷ failure at other ∷ inputs.ReleaseAck at
    ∷ []

abbrev of_no_target : Place → Change → List Input
of_no_target at other =
    activations_on at ++ links_on at ++ inputs.Dtap at Three (text 9) ∷ complete at other ∷ failure at Assignment
    ∷ failure at Handover
    ∷ inputs.ReleaseAck at ∷ []

abbrev of_no_old : Place → List Input
of_no_old at = activations_on at ++ links_on at ++ changes_on at

none_alone : NoneFit (waiting assigning) (Some (cell_1 0x0b)) (
    of_no_serving (on_1 0x41) Handover ++ of_no_target (on_1 0x0a) Handover ++ all_on (on_2 0x41) ++ all_on (on_2 0x0a)
    ++ all_on (on_1 0x0b)
    ++ answers ++ inputs.Move ∷ inputs.DrainExpiry ∷ inputs.StationDown 2 ∷ [])
unfolding row_of
none_alone = refl

none_beside : NoneFit (waiting moves_on) (Some (cell_1 0x0c)) (
    of_no_serving (on_2 0x0a) Assignment ++ of_no_target (on_1 0x0a) Assignment ++ of_no_old (on_1 0x41) ++ of_no_old (on_1 0x0b)
    ++ all_on (on_2 0x0b) ++ all_on (on_2 0x41) ++ answers ++ inputs.Move ∷ inputs.StationDown 3 ∷ [])
unfolding row_of
none_beside = refl

-- a channel that is done isn't looked at, nor its station
abbrev done_elsewhere : Connection
done_elsewhere = record assigns { draining = drains (cell_2 0x41) ∷ is_done (cell_1 0x0b) ∷ [] }

none_at_the_station_of_a_done_one : NoneFit done_elsewhere (Some (cell_1 0x0c)) (all_on (on_1 0x0b) ++ inputs.StationDown 1 ∷ [])
unfolding row_of
none_at_the_station_of_a_done_one = refl
