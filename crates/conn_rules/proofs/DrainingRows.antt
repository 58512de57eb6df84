-- SPDX-License-Identifier: MIT OR Apache-2.0
-- The rows of Draining, with one, two and three old channels, done ones among them.
use Rattle.conn_rules.proofs.CaseRows.{in_state, NoneFit, links_on, changes_on, activations_on, all_on, answers, AreRows, case, offered}
use Rattle.conn_rules.proofs.CaseRows.{live, with_texts, in_stage, ended, target, drains, is_done, held_up, tenure, empty, call, text}
use Rattle.conn_rules.proofs.CaseRows.{relay, clear_request, clear_complete, assignment_failure, sapi_n_reject, cipher_mode_reject}
use Rattle.conn_rules.proofs.CaseRows.{release_complete, hand, establish_request, channel_release, rf_channel_release, activation}
use Rattle.conn_rules.proofs.Prelude.{Live, ℕ, true, false, List, [], ◌∷◌, ◌++◌, replicate, Some, None, refl, Zero, Three, hex}
use Rattle.conn_rules.proofs.Prelude.{Connection, Place, Input, Assignment, Handover, Active, Preparing, Draining, Closed, Removed, TenureHold}
use Rattle.conn_rules.proofs.Prelude.{WasAsked, Complete, Drain, Down, Asked, Up}
use Rattle.conn_messages.specs.Out.{out_of}
use Rattle.conn_rules.specs.declared.input.Input.TheVariants as inputs
use Rattle.conn_rules.specs.Table.{row_of}
use Rattle.conn_rules.proofs.Lives.{Put, put, cell_1, cell_2, again, on_1, on_2, request}
use Rattle.rsl_codec.specs.RslText.{rsl_element_text}

abbrev pub waiting : Connection → Connection
waiting s = record s { waits = true }

abbrev pub two_texts : List (List ℕ)
two_texts = text 4 ∷ text 5 ∷ []

-- these drain, the oldest first
abbrev old : List Drain → Connection → Connection
old channels s = record s { draining = channels }

-- ---- 0A of cell 2 serves. One drains, 0B of cell 1, or two, 41 of cell 1 before it. A message of each SAPI is held of 0A,
-- and of 0B where 41 drains; two short messages wait for their link

abbrev pub one : Connection
one = record (with_texts Asked two_texts (live Draining (cell_2 0x0a))) {
  draining = drains (cell_1 0x0b) ∷ [];
  up = held_up (empty ∷ tenure (call 3 ∷ []) (text 3 ∷ []) ∷ []);
  drained = 1500;
}

abbrev pub two : Connection
two = record one {
  draining = drains (cell_1 0x41) ∷ drains (cell_1 0x0b) ∷ [];
  up = held_up (empty ∷ tenure (call 2 ∷ []) (text 2 ∷ []) ∷ tenure (call 3 ∷ []) (text 3 ∷ []) ∷ []);
}

-- the younger one is done
abbrev pub two_one_done : Connection
two_one_done = old (drains (cell_1 0x41) ∷ is_done (cell_1 0x0b) ∷ []) two

-- none drains any more
abbrev rested : Connection
rested = record (in_stage Active one) { draining = []; up = held_up (empty ∷ []); drained = 0 }

-- ---- three drain, 41 and 0B of cell 1 and 0A of cell 2; 0A of cell 1 serves. A message of each SAPI is held of each but 41

abbrev held_of_three : List TenureHold
held_of_three =
    empty ∷ tenure (call 2 ∷ []) (text 2 ∷ []) ∷ tenure (call 3 ∷ []) (text 3 ∷ []) ∷ tenure (call 4 ∷ []) (text 4 ∷ [])
    ∷ []

abbrev pub three : Connection
three = record (with_texts Asked two_texts (live Draining (cell_1 0x0a))) {
  draining = drains (cell_1 0x41) ∷ drains (cell_1 0x0b) ∷ drains (cell_2 0x0a) ∷ [];
  up = held_up held_of_three;
  drained = 1500;
}

abbrev three_one_done : Connection
three_one_done = old (drains (cell_1 0x41) ∷ is_done (cell_1 0x0b) ∷ drains (cell_2 0x0a) ∷ []) three

abbrev pub three_two_done : Connection
three_two_done = old (drains (cell_1 0x41) ∷ is_done (cell_1 0x0b) ∷ is_done (cell_2 0x0a) ∷ []) three

abbrev three_last_done : Connection
three_last_done = old (drains (cell_1 0x41) ∷ drains (cell_1 0x0b) ∷ is_done (cell_2 0x0a) ∷ []) three

-- ---- old channels leave

released_of_one : AreRows (
    case one (inputs.ReleaseAck (on_1 0x0b)) (relay 0x00 (call 3) ∷ relay 0xc3 (text 3) ∷ []) rested
    -- an SDCCH serves
    ∷ case (record one { serving = cell_2 0x41 }) (inputs.ReleaseAck (on_1 0x0b)) (relay 0x00 (call 3) ∷ relay 0x83 (text 3) ∷ [])
    (record rested { serving = cell_2 0x41 })
    ∷ case (record one { up = held_up (empty ∷ empty ∷ []) }) (inputs.ReleaseAck (on_1 0x0b)) [] rested
    -- nothing begins that doesn't wait
    ∷ offered (cell_2 0x0b) one (inputs.ReleaseAck (on_1 0x0b)) (relay 0x00 (call 3) ∷ relay 0xc3 (text 3) ∷ []) rested
    ∷ [])
unfolding row_of out_of rsl_element_text
released_of_one = refl

-- the timer of Draining runs on, and the drain time begins anew with another oldest channel
released_of_two : AreRows (
    case two (inputs.ReleaseAck (on_1 0x41)) (relay 0x00 (call 2) ∷ relay 0xc3 (text 2) ∷ []) (record one { drained = 0 })
    ∷ case two (inputs.ReleaseAck (on_1 0x0b)) [] two_one_done
    ∷ case two_one_done (inputs.ReleaseAck (on_1 0x41))
    (relay 0x00 (call 2) ∷ relay 0xc3 (text 2) ∷ relay 0x00 (call 3) ∷ relay 0xc3 (text 3) ∷ []) rested
    -- each SAPI in its order
    ∷ case (record two { up = held_up (empty ∷ tenure (call 2 ∷ call 5 ∷ []) (text 2 ∷ text 5 ∷ []) ∷ empty ∷ []) })
    (inputs.ReleaseAck (on_1 0x41)) (relay 0x00 (call 2) ∷ relay 0x00 (call 5) ∷ relay 0xc3 (text 2) ∷ relay 0xc3 (text 5) ∷ [])
    (record one { up = held_up (empty ∷ empty ∷ []); drained = 0 })
    -- the second is an SDCCH too
    ∷ case (old (drains (cell_1 0x41) ∷ drains (cell_2 0x41) ∷ []) two) (inputs.ReleaseAck (on_1 0x41))
    (relay 0x00 (call 2) ∷ relay 0x83 (text 2) ∷ [])
    (record (old (drains (cell_2 0x41) ∷ []) one) { drained = 0 })
    ∷ case (old (drains (cell_1 0x41) ∷ is_done (cell_2 0x41) ∷ []) two) (inputs.ReleaseAck (on_1 0x41))
    (relay 0x00 (call 2) ∷ relay 0x83 (text 2) ∷ relay 0x00 (call 3) ∷ relay 0xc3 (text 3) ∷ []) rested
    ∷ [])
unfolding row_of out_of rsl_element_text
released_of_two = refl

-- with three a request waits until one has left
abbrev two_left : Connection
two_left = record three {
  draining = drains (cell_1 0x0b) ∷ drains (cell_2 0x0a) ∷ [];
  up = held_up (empty ∷ tenure (call 3 ∷ []) (text 3 ∷ []) ∷ tenure (call 4 ∷ []) (text 4 ∷ []) ∷ []);
  drained = 0;
}

abbrev one_left : Connection
one_left =
    record three
    { draining = drains (cell_2 0x0a) ∷ []; up = held_up (empty ∷ tenure (call 4 ∷ []) (text 4 ∷ []) ∷ []); drained = 0 }

abbrev none_left : Connection
none_left = record (in_stage Active three) { draining = []; up = held_up (empty ∷ []); drained = 0 }

released_of_three : AreRows (
    case three (inputs.ReleaseAck (on_1 0x41)) (relay 0x00 (call 2) ∷ relay 0xc3 (text 2) ∷ []) two_left
    ∷ offered (cell_1 0x0c) three (inputs.ReleaseAck (on_1 0x41)) (relay 0x00 (call 2) ∷ relay 0xc3 (text 2) ∷ []) two_left
    ∷ offered (cell_1 0x0c) (waiting three) (inputs.ReleaseAck (on_1 0x0b)) [] (waiting three_one_done)
    ∷ offered (cell_1 0x0c) (waiting three) (inputs.ReleaseAck (on_2 0x0a)) [] (waiting three_last_done)
    ∷ offered (cell_1 0x0c) (waiting three_one_done) (inputs.ReleaseAck (on_2 0x0a)) [] (waiting three_two_done)
    ∷ offered (cell_1 0x0c) (waiting three) (inputs.ReleaseAck (on_1 0x41))
    (relay 0x00 (call 2) ∷ relay 0xc3 (text 2) ∷ activation 1 0x0c ∷ [])
    (in_stage (Preparing (target Assignment (cell_1 0x0c))) two_left)
    ∷ case (waiting three) (inputs.ReleaseAck (on_1 0x41))
    (relay 0x00 (call 2) ∷ relay 0xc3 (text 2) ∷ assignment_failure 0x21 ∷ []) two_left
    ∷ offered (cell_1 0x0c) (waiting three_one_done) (inputs.ReleaseAck (on_1 0x41))
    (relay 0x00 (call 2) ∷ relay 0xc3 (text 2) ∷ relay 0x00 (call 3) ∷ relay 0xc3 (text 3) ∷ activation 1 0x0c ∷ [])
    (in_stage (Preparing (target Assignment (cell_1 0x0c))) one_left)
    ∷ case (waiting three_one_done) (inputs.ReleaseAck (on_1 0x41))
    (relay 0x00 (call 2) ∷ relay 0xc3 (text 2) ∷ relay 0x00 (call 3) ∷ relay 0xc3 (text 3) ∷ assignment_failure 0x21 ∷ [])
    one_left
    ∷ case three_two_done (inputs.ReleaseAck (on_1 0x41))
    (relay 0x00 (call 2) ∷ relay 0xc3 (text 2) ∷ relay 0x00 (call 3) ∷ relay 0xc3 (text 3) ∷ relay 0x00 (call 4)
    ∷ relay 0xc3 (text 4) ∷ []) none_left
    ∷ offered (cell_1 0x0c) (waiting three_two_done) (inputs.ReleaseAck (on_1 0x41))
    (relay 0x00 (call 2) ∷ relay 0xc3 (text 2) ∷ relay 0x00 (call 3) ∷ relay 0xc3 (text 3) ∷ relay 0x00 (call 4)
    ∷ relay 0xc3 (text 4) ∷ activation 1 0x0c ∷ [])
    (in_stage (Preparing (target Assignment (cell_1 0x0c))) none_left)
    ∷ case (waiting three_two_done) (inputs.ReleaseAck (on_1 0x41))
    (relay 0x00 (call 2) ∷ relay 0xc3 (text 2) ∷ relay 0x00 (call 3) ∷ relay 0xc3 (text 3) ∷ relay 0x00 (call 4)
    ∷ relay 0xc3 (text 4)
    ∷ assignment_failure 0x21 ∷ []) none_left
    ∷ case three_last_done (inputs.ReleaseAck (on_1 0x41)) (relay 0x00 (call 2) ∷ relay 0xc3 (text 2) ∷ [])
    (old (drains (cell_1 0x0b) ∷ is_done (cell_2 0x0a) ∷ []) two_left)
    ∷ [])
unfolding row_of out_of rsl_element_text
released_of_three = refl

-- ---- both ways

messages_of_the_switch : AreRows (
    case two (inputs.Downlink Zero (call 9)) (hand 2 0x0a 0x00 (call 9) ∷ []) two
    ∷ case (waiting three) (inputs.Downlink Zero (call 9)) (hand 1 0x0a 0x00 (call 9) ∷ []) (waiting three)
    ∷ case two (inputs.Downlink Three (text 9)) [] (with_texts Asked (text 4 ∷ text 5 ∷ text 9 ∷ []) two)
    ∷ case (with_texts Down [] two) (inputs.Downlink Three (text 9)) (establish_request 2 0x0a 0x43 ∷ [])
    (with_texts Asked (text 9 ∷ []) two)
    ∷ case (with_texts Up [] two) (inputs.Downlink Three (text 9)) (hand 2 0x0a 0x43 (text 9) ∷ []) (with_texts Up [] two)
    ∷ case (with_texts Asked (replicate 31 (text 1)) two) (inputs.Downlink Three (text 9)) []
    (with_texts Asked (replicate 31 (text 1) ++ text 9 ∷ []) two)
    ∷ case (waiting (with_texts Asked (replicate 32 (text 1)) three)) (inputs.Downlink Three (text 9))
    (clear_request 0x20 ∷ channel_release 1 0x0a 0x01 ∷ rf_channel_release 1 0x0a ∷ []) (ended (Closed (WasAsked 0x800001)) three)
    ∷ [])
unfolding row_of out_of rsl_element_text
messages_of_the_switch = refl

abbrev with_held : List (List ℕ) → List (List ℕ) → List (List ℕ) → List (List ℕ) → List (List ℕ) → List (List ℕ)
    → Connection → Connection
with_held calls_2 texts_2 calls_3 texts_3 calls_4 texts_4 s =
    record s { up = held_up (empty ∷ tenure calls_2 texts_2 ∷ tenure calls_3 texts_3 ∷ tenure calls_4 texts_4 ∷ []) }

-- relayed of the oldest, held of each other
messages_of_the_mobile : AreRows (
    case one (inputs.Dtap (on_1 0x0b) Zero (call 9)) (relay 0x00 (call 9) ∷ []) one
    ∷ case one (inputs.Dtap (on_1 0x0b) Three (text 9)) (relay 0xc3 (text 9) ∷ []) one
    ∷ case one (inputs.Dtap (on_2 0x0a) Zero (call 9)) []
    (record one { up = held_up (empty ∷ tenure (call 3 ∷ call 9 ∷ []) (text 3 ∷ []) ∷ []) })
    ∷ case one (inputs.Dtap (on_2 0x0a) Three (text 9)) []
    (record one { up = held_up (empty ∷ tenure (call 3 ∷ []) (text 3 ∷ text 9 ∷ []) ∷ []) })
    ∷ case two (inputs.Dtap (on_1 0x41) Zero (call 9)) (relay 0x00 (call 9) ∷ []) two
    ∷ case two (inputs.Dtap (on_1 0x41) Three (text 9)) (relay 0x83 (text 9) ∷ []) two
    ∷ case three (inputs.Dtap (on_1 0x41) Three (text 9)) (relay 0x83 (text 9) ∷ []) three
    ∷ case three (inputs.Dtap (on_1 0x0b) Zero (call 9)) []
    (with_held (call 2 ∷ call 9 ∷ []) (text 2 ∷ []) (call 3 ∷ []) (text 3 ∷ []) (call 4 ∷ []) (text 4 ∷ []) three)
    ∷ case three (inputs.Dtap (on_1 0x0b) Three (text 9)) []
    (with_held (call 2 ∷ []) (text 2 ∷ text 9 ∷ []) (call 3 ∷ []) (text 3 ∷ []) (call 4 ∷ []) (text 4 ∷ []) three)
    ∷ case three (inputs.Dtap (on_2 0x0a) Zero (call 9)) []
    (with_held (call 2 ∷ []) (text 2 ∷ []) (call 3 ∷ call 9 ∷ []) (text 3 ∷ []) (call 4 ∷ []) (text 4 ∷ []) three)
    ∷ case three (inputs.Dtap (on_2 0x0a) Three (text 9)) []
    (with_held (call 2 ∷ []) (text 2 ∷ []) (call 3 ∷ []) (text 3 ∷ text 9 ∷ []) (call 4 ∷ []) (text 4 ∷ []) three)
    ∷ case (waiting three) (inputs.Dtap (on_1 0x0a) Zero (call 9)) []
    (waiting (with_held (call 2 ∷ []) (text 2 ∷ []) (call 3 ∷ []) (text 3 ∷ []) (call 4 ∷ call 9 ∷ []) (text 4 ∷ []) three))
    ∷ case (waiting three) (inputs.Dtap (on_1 0x0a) Three (text 9)) []
    (waiting (with_held (call 2 ∷ []) (text 2 ∷ []) (call 3 ∷ []) (text 3 ∷ []) (call 4 ∷ []) (text 4 ∷ text 9 ∷ []) three))
    ∷ [])
unfolding row_of out_of rsl_element_text
messages_of_the_mobile = refl

-- sixteen are held over all tenures and both SAPIs
abbrev fifteen : Connection
fifteen =
    with_held (replicate 3 (call 2)) (replicate 2 (text 2)) (replicate 3 (call 3)) (replicate 2 (text 3)) (replicate 3 (call 4))
    (replicate 2 (text 4)) three

abbrev sixteen : Connection
sixteen =
    with_held (replicate 3 (call 2)) (replicate 2 (text 2)) (replicate 3 (call 3)) (replicate 2 (text 3)) (replicate 3 (call 4))
    (replicate 3 (text 4)) three

abbrev failed : List Put
failed = clear_request 0x20 ∷ channel_release 1 0x0a 0x01 ∷ rf_channel_release 1 0x0a ∷ []

one_too_many : AreRows (
    case fifteen (inputs.Dtap (on_1 0x0a) Three (text 4)) [] sixteen
    ∷ case (waiting sixteen) (inputs.Dtap (on_1 0x0b) Zero (call 9)) failed (ended (Closed (WasAsked 0x800001)) three)
    ∷ case (waiting sixteen) (inputs.Dtap (on_2 0x0a) Three (text 9)) failed (ended (Closed (WasAsked 0x800001)) three)
    ∷ case (waiting sixteen) (inputs.Dtap (on_1 0x0a) Zero (call 9)) failed (ended (Closed (WasAsked 0x800001)) three)
    ∷ case (waiting sixteen) (inputs.Dtap (on_1 0x0a) Three (text 9)) failed (ended (Closed (WasAsked 0x800001)) three)
    ∷ case (waiting sixteen) (inputs.Dtap (on_1 0x41) Three (text 9)) (relay 0x83 (text 9) ∷ []) (waiting sixteen)
    ∷ [])
unfolding row_of out_of rsl_element_text
one_too_many = refl

-- ---- the links of the mobile

links : AreRows (
    case two (inputs.EstablishConfirm (on_2 0x0a) Three) (hand 2 0x0a 0x43 (text 4) ∷ hand 2 0x0a 0x43 (text 5) ∷ [])
    (with_texts Up [] two)
    ∷ case (waiting three) (inputs.EstablishIndication (on_1 0x0a) Three None)
    (hand 1 0x0a 0x43 (text 4) ∷ hand 1 0x0a 0x43 (text 5) ∷ []) (with_texts Up [] (waiting three))
    ∷ case two (inputs.ReleaseIndication (on_2 0x0a) Three) (sapi_n_reject 0xc3 ∷ []) (with_texts Down [] two)
    ∷ case (record two { serving = cell_2 0x41 }) (inputs.ReleaseIndication (on_2 0x41) Three) (sapi_n_reject 0x83 ∷ [])
    (with_texts Down [] (record two { serving = cell_2 0x41 }))
    ∷ case (waiting three) (inputs.ErrorIndication (on_1 0x0a) Three) (sapi_n_reject 0xc3 ∷ []) (with_texts Down [] (waiting three))
    ∷ case (with_texts Up [] two) (inputs.ErrorIndication (on_2 0x0a) Three) [] (with_texts Down [] two)
    ∷ case two (inputs.ReleaseIndication (on_2 0x0a) Zero)
    (clear_request 0x01 ∷ channel_release 2 0x0a 0x01 ∷ rf_channel_release 2 0x0a ∷ []) (ended (Closed (WasAsked 0x800001)) two)
    ∷ case (waiting three) (inputs.ConnectionFailure (on_1 0x0a))
    (clear_request 0x01 ∷ channel_release 1 0x0a 0x01 ∷ rf_channel_release 1 0x0a ∷ []) (ended (Closed (WasAsked 0x800001)) three)
    ∷ [])
unfolding row_of out_of rsl_element_text
links = refl

-- ---- changes begin with one or two, a done one counted; with three a request waits. The drain time runs on

changes_begin : AreRows (
    offered (again (cell_1 0x0a)) one inputs.Move (put 1 (hex "08 21 01 0a 03 02 06 04 00 01 08 01 09 01") ∷ [])
    (in_stage (Preparing (target Handover (again (cell_1 0x0a)))) one)
    ∷ offered (again (cell_1 0x0a)) two inputs.Move (put 1 (hex "08 21 01 0a 03 02 06 04 00 01 08 01 09 01") ∷ [])
    (in_stage (Preparing (target Handover (again (cell_1 0x0a)))) two)
    ∷ offered (cell_1 0x0b) two_one_done inputs.Move (put 1 (hex "08 21 01 0b 03 02 06 04 00 01 08 01 09 00") ∷ [])
    (in_stage (Preparing (target Handover (cell_1 0x0b))) two_one_done)
    ∷ case two inputs.Move [] two
    ∷ offered (cell_2 0x0b) one request (activation 2 0x0b ∷ []) (in_stage (Preparing (target Assignment (cell_2 0x0b))) one)
    ∷ offered (cell_2 0x0b) two request (activation 2 0x0b ∷ []) (in_stage (Preparing (target Assignment (cell_2 0x0b))) two)
    ∷ offered (cell_2 0x0b) two_one_done request (activation 2 0x0b ∷ [])
    (in_stage (Preparing (target Assignment (cell_2 0x0b))) two_one_done)
    ∷ case two request (assignment_failure 0x21 ∷ []) two
    ∷ offered (cell_1 0x0c) three request [] (waiting three)
    ∷ offered (cell_1 0x0c) three_two_done request [] (waiting three_two_done)
    ∷ offered (cell_1 0x0c) (waiting three) request (assignment_failure 0x60 ∷ []) (waiting three)
    ∷ offered (cell_2 0x0b) two (inputs.AssignmentRequest false) (assignment_failure 0x25 ∷ []) two
    ∷ offered (cell_1 0x0c) three (inputs.AssignmentRequest false) (assignment_failure 0x25 ∷ []) three
    ∷ case (waiting three) (inputs.AssignmentRequest false) (assignment_failure 0x25 ∷ []) (waiting three)
    ∷ case (waiting three) inputs.CipherModeCommand (cipher_mode_reject ∷ []) (waiting three)
    ∷ [])
unfolding row_of out_of rsl_element_text
changes_begin = refl

-- ---- ends: old channels had their releases

ends : AreRows (
    case (waiting three) inputs.ClearCommand
    (channel_release 1 0x0a 0x00 ∷ rf_channel_release 1 0x0a ∷ clear_complete ∷ []) (ended (Closed Complete) three)
    ∷ case (waiting three) (inputs.Released 0x800001)
    (channel_release 1 0x0a 0x01 ∷ rf_channel_release 1 0x0a ∷ release_complete 0x01 ∷ []) (ended Removed three)
    ∷ case two (inputs.Released 0x800077) (channel_release 2 0x0a 0x01 ∷ rf_channel_release 2 0x0a ∷ release_complete 0x77 ∷ [])
    (ended Removed two)
    ∷ case (waiting three) inputs.SwitchDown (channel_release 1 0x0a 0x01 ∷ rf_channel_release 1 0x0a ∷ []) (ended Removed three)
    ∷ case one inputs.DrainExpiry (clear_request 0x20 ∷ channel_release 2 0x0a 0x01 ∷ rf_channel_release 2 0x0a ∷ [])
    (ended (Closed (WasAsked 0x800001)) one)
    ∷ case (waiting three_two_done) inputs.DrainExpiry failed (ended (Closed (WasAsked 0x800001)) three)
    -- the station of the serving channel alone, of old ones alone, of both, and of one that isn't done beside one that is
    ∷ case one (inputs.StationDown 2) (clear_request 0x20 ∷ []) (ended (Closed (WasAsked 0x800001)) one)
    ∷ case one (inputs.StationDown 1) (clear_request 0x20 ∷ channel_release 2 0x0a 0x01 ∷ rf_channel_release 2 0x0a ∷ [])
    (ended (Closed (WasAsked 0x800001)) one)
    ∷ case (waiting three) (inputs.StationDown 1) (clear_request 0x20 ∷ []) (ended (Closed (WasAsked 0x800001)) three)
    ∷ case (waiting three) (inputs.StationDown 2) failed (ended (Closed (WasAsked 0x800001)) three)
    ∷ case two_one_done (inputs.StationDown 1) (clear_request 0x20 ∷ channel_release 2 0x0a 0x01 ∷ rf_channel_release 2 0x0a ∷ [])
    (ended (Closed (WasAsked 0x800001)) two)
    ∷ [])
unfolding row_of out_of rsl_element_text
ends = refl

-- ---- 0B of cell 1 is in use again: it is done, and it serves, or drains as the youngest

abbrev pub serves_again : Connection
serves_again = record three_one_done { serving = cell_1 0x0b }

abbrev pub drains_again : Connection
drains_again = old (drains (cell_1 0x41) ∷ is_done (cell_1 0x0b) ∷ drains (cell_1 0x0b) ∷ []) three

in_use_again : AreRows (
    case serves_again (inputs.Dtap (on_1 0x0b) Zero (call 9)) []
    (with_held (call 2 ∷ []) (text 2 ∷ []) (call 3 ∷ []) (text 3 ∷ []) (call 4 ∷ call 9 ∷ []) (text 4 ∷ []) serves_again)
    ∷ case serves_again (inputs.ConnectionFailure (on_1 0x0b))
    (clear_request 0x01 ∷ channel_release 1 0x0b 0x01 ∷ rf_channel_release 1 0x0b ∷ [])
    (ended (Closed (WasAsked 0x800001)) serves_again)
    ∷ case drains_again (inputs.Dtap (on_1 0x0b) Three (text 9)) []
    (with_held (call 2 ∷ []) (text 2 ∷ []) (call 3 ∷ []) (text 3 ∷ text 9 ∷ []) (call 4 ∷ []) (text 4 ∷ []) drains_again)
    ∷ case drains_again (inputs.ReleaseAck (on_1 0x0b)) []
    (old (drains (cell_1 0x41) ∷ is_done (cell_1 0x0b) ∷ is_done (cell_1 0x0b) ∷ []) three)
    ∷ case drains_again (inputs.ReleaseAck (on_1 0x41))
    (relay 0x00 (call 2) ∷ relay 0xc3 (text 2) ∷ relay 0x00 (call 3) ∷ relay 0xc3 (text 3) ∷ [])
    (record three
    { draining = drains (cell_1 0x0b) ∷ []; up = held_up (empty ∷ tenure (call 4 ∷ []) (text 4 ∷ []) ∷ []); drained = 0 })
    ∷ [])
unfolding row_of out_of rsl_element_text
in_use_again = refl

-- ---- a switch that calls the connection 80000f

abbrev other : Connection → Connection
other s = record s { state = Live 0x80000f Draining }

another_reference : AreRows (
    case (other one) (inputs.ReleaseAck (on_1 0x0b))
    (put 0 (hex "06 80 00 0f 00 01 05 01 00 02 03 03") ∷ put 0 (hex "06 80 00 0f 00 01 05 01 c3 02 09 03") ∷ [])
    (record rested { state = Live 0x80000f Active })
    ∷ case (other (waiting three)) (inputs.ReleaseAck (on_1 0x41))
    (put 0 (hex "06 80 00 0f 00 01 05 01 00 02 03 02") ∷ put 0 (hex "06 80 00 0f 00 01 05 01 c3 02 09 02")
    ∷ put 0 (hex "06 80 00 0f 00 01 06 00 04 03 04 01 21") ∷ []) (other two_left)
    ∷ offered (cell_1 0x0c) (other (waiting three)) (inputs.ReleaseAck (on_1 0x41))
    (put 0 (hex "06 80 00 0f 00 01 05 01 00 02 03 02") ∷ put 0 (hex "06 80 00 0f 00 01 05 01 c3 02 09 02") ∷ activation 1 0x0c
    ∷ [])
    (in_state (Live 0x80000f (Preparing (target Assignment (cell_1 0x0c)))) two_left)
    ∷ case (other two) inputs.DrainExpiry
    (put 0 (hex "06 80 00 0f 00 01 06 00 04 22 04 01 20") ∷ channel_release 2 0x0a 0x01 ∷ rf_channel_release 2 0x0a ∷ [])
    (ended (Closed (WasAsked 0x80000f)) two)
    ∷ [])
unfolding row_of out_of rsl_element_text
another_reference = refl

-- ---- nothing else has a row, whatever is offered

abbrev of_no_serving : Place → List Input
of_no_serving at =
    activations_on at ++ inputs.EstablishIndication at Zero (Some (call 1)) ∷ inputs.EstablishConfirm at Zero
    ∷ inputs.ErrorIndication at Zero
    ∷ changes_on at ++ inputs.ReleaseAck at ∷ []

abbrev of_no_old : Place → List Input
of_no_old at = activations_on at ++ links_on at ++ changes_on at

none_beside_one : NoneFit one (Some (cell_1 0x0c)) (
    of_no_serving (on_2 0x0a) ++ of_no_old (on_1 0x0b) ++ all_on (on_1 0x0a) ++ all_on (on_2 0x0b)
    ++ answers ++ inputs.Expiry ∷ inputs.StationDown 3 ∷ [])
unfolding row_of
none_beside_one = refl

none_unasked : NoneFit (with_texts Down [] one) (Some (cell_1 0x0c)) (inputs.EstablishConfirm (on_2 0x0a) Three ∷ [])
unfolding row_of
none_unasked = refl

-- with three nothing begins by a report
none_beside_three : NoneFit (waiting three) (Some (cell_1 0x0c)) (
    of_no_serving (on_1 0x0a) ++ of_no_old (on_1 0x41) ++ of_no_old (on_1 0x0b) ++ of_no_old (on_2 0x0a) ++ all_on (on_2 0x41)
    ++ all_on (on_2 0x0b)
    ++ answers ++ inputs.Move ∷ inputs.Expiry ∷ inputs.StationDown 3 ∷ [])
unfolding row_of
none_beside_three = refl

none_beside_done_ones : NoneFit three_two_done (Some (cell_1 0x0c)) (
    all_on (on_1 0x0b) ++ all_on (on_2 0x0a) ++ answers ++ inputs.Move ∷ inputs.Expiry ∷ inputs.StationDown 2 ∷ [])
unfolding row_of
none_beside_done_ones = refl

none_at_the_station_of_a_done_one : NoneFit (old (drains (cell_2 0x41) ∷ is_done (cell_1 0x0b) ∷ []) two) (Some (cell_1 0x0c)) (
    all_on (on_1 0x0b) ++ inputs.StationDown 1 ∷ [])
unfolding row_of
none_at_the_station_of_a_done_one = refl

none_of_a_release_before : NoneFit serves_again (Some (cell_1 0x0c)) (inputs.ReleaseAck (on_1 0x0b) ∷ [])
unfolding row_of
none_of_a_release_before = refl
