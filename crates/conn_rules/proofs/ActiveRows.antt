-- SPDX-License-Identifier: MIT OR Apache-2.0
-- The rows of Active, on an SDCCH and on a TCH, with the link of SAPI 3 down, asked for and up.
use Rattle.conn_rules.proofs.Prelude.{ℕ, false, List, [], ◌∷◌, ◌++◌, replicate, Some, None, refl, Zero, Three, hex, Connection}
use Rattle.conn_rules.proofs.Prelude.{Input, Assignment, Handover, Active, Preparing, Live, Closed, Removed, WasAsked, Complete}
use Rattle.conn_rules.proofs.Prelude.{ShortMessageLink, Down, Asked, Up}
use Rattle.conn_messages.specs.Out.{out_of}
use Rattle.conn_rules.specs.declared.input.Input.TheVariants as inputs
use Rattle.conn_rules.specs.Table.{row_of}
use Rattle.conn_rules.proofs.CaseRows.{NoneFit, changes_on, activations_on, all_on, answers, AreRows, case, offered, connection, live}
use Rattle.conn_rules.proofs.CaseRows.{with_texts, in_stage, ended, target, call, text, relay, clear_request, clear_complete}
use Rattle.conn_rules.proofs.CaseRows.{assignment_failure, sapi_n_reject, cipher_mode_reject, release_complete, hand, establish_request}
use Rattle.conn_rules.proofs.CaseRows.{channel_release, rf_channel_release, activation}
use Rattle.conn_rules.proofs.Lives.{put, cell_1, cell_2, again, on_1, on_2, request}
use Rattle.rsl_codec.specs.RslText.{rsl_element_text}

-- on 41, an SDCCH, with these short messages held; on 0A, a TCH
abbrev signalling : ShortMessageLink → List (List ℕ) → Connection
signalling link texts = with_texts link texts (live Active (cell_1 0x41))

abbrev speaking : ShortMessageLink → List (List ℕ) → Connection
speaking link texts = with_texts link texts (live Active (cell_1 0x0a))

-- two short messages wait for their link
abbrev pub two_texts : List (List ℕ)
two_texts = text 1 ∷ text 2 ∷ []

abbrev pub asked : Connection
asked = signalling Asked two_texts

-- ---- both ways

messages_of_the_switch : AreRows (
    case asked (inputs.Downlink Zero (call 1)) (hand 1 0x41 0x00 (call 1) ∷ []) asked
    ∷ case (speaking Up []) (inputs.Downlink Zero (call 1)) (hand 1 0x0a 0x00 (call 1) ∷ []) (speaking Up [])
    ∷ case (signalling Down []) (inputs.Downlink Three (text 1)) (establish_request 1 0x41 0x03 ∷ [])
    (signalling Asked (text 1 ∷ []))
    ∷ case (speaking Down []) (inputs.Downlink Three (text 1)) (establish_request 1 0x0a 0x43 ∷ []) (speaking Asked (text 1 ∷ []))
    ∷ case asked (inputs.Downlink Three (text 3)) [] (signalling Asked (text 1 ∷ text 2 ∷ text 3 ∷ []))
    ∷ case (signalling Up []) (inputs.Downlink Three (text 1)) (hand 1 0x41 0x03 (text 1) ∷ []) (signalling Up [])
    ∷ case (speaking Up []) (inputs.Downlink Three (text 1)) (hand 1 0x0a 0x43 (text 1) ∷ []) (speaking Up [])
    -- 32 are held
    ∷ case (signalling Asked (replicate 31 (text 1))) (inputs.Downlink Three (text 2)) []
    (signalling Asked (replicate 31 (text 1) ++ text 2 ∷ []))
    ∷ case (signalling Asked (replicate 32 (text 1))) (inputs.Downlink Three (text 2))
    (clear_request 0x20 ∷ channel_release 1 0x41 0x01 ∷ rf_channel_release 1 0x41 ∷ []) (ended (Closed (WasAsked 0x800001)) asked)
    ∷ case (signalling Asked (replicate 32 (text 1))) (inputs.Downlink Zero (call 2)) (hand 1 0x41 0x00 (call 2) ∷ [])
    (signalling Asked (replicate 32 (text 1)))
    ∷ [])
unfolding row_of out_of rsl_element_text
messages_of_the_switch = refl

messages_of_the_mobile : AreRows (
    case asked (inputs.Dtap (on_1 0x41) Zero (call 1)) (relay 0x00 (call 1) ∷ []) asked
    ∷ case asked (inputs.Dtap (on_1 0x41) Three (text 3)) (relay 0x83 (text 3) ∷ []) asked
    ∷ case (speaking Down []) (inputs.Dtap (on_1 0x0a) Zero (call 1)) (relay 0x00 (call 1) ∷ []) (speaking Down [])
    ∷ case (speaking Down []) (inputs.Dtap (on_1 0x0a) Three (text 3)) (relay 0xc3 (text 3) ∷ []) (speaking Down [])
    ∷ [])
unfolding row_of out_of rsl_element_text
messages_of_the_mobile = refl

-- ---- the links of the mobile

short_message_links : AreRows (
    case asked (inputs.EstablishConfirm (on_1 0x41) Three) (hand 1 0x41 0x03 (text 1) ∷ hand 1 0x41 0x03 (text 2) ∷ [])
    (signalling Up [])
    ∷ case (speaking Asked two_texts) (inputs.EstablishConfirm (on_1 0x0a) Three)
    (hand 1 0x0a 0x43 (text 1) ∷ hand 1 0x0a 0x43 (text 2) ∷ []) (speaking Up [])
    ∷ case asked (inputs.EstablishIndication (on_1 0x41) Three None) (hand 1 0x41 0x03 (text 1) ∷ hand 1 0x41 0x03 (text 2) ∷ [])
    (signalling Up [])
    ∷ case asked (inputs.EstablishIndication (on_1 0x41) Three (Some (text 7)))
    (hand 1 0x41 0x03 (text 1) ∷ hand 1 0x41 0x03 (text 2) ∷ []) (signalling Up [])
    ∷ case (signalling Down []) (inputs.EstablishIndication (on_1 0x41) Three None) [] (signalling Up [])
    ∷ case (signalling Up []) (inputs.EstablishIndication (on_1 0x41) Three None) [] (signalling Up [])
    ∷ case asked (inputs.ReleaseIndication (on_1 0x41) Three) (sapi_n_reject 0x83 ∷ []) (signalling Down [])
    ∷ case asked (inputs.ErrorIndication (on_1 0x41) Three) (sapi_n_reject 0x83 ∷ []) (signalling Down [])
    ∷ case (speaking Asked two_texts) (inputs.ReleaseIndication (on_1 0x0a) Three) (sapi_n_reject 0xc3 ∷ []) (speaking Down [])
    ∷ case (speaking Asked two_texts) (inputs.ErrorIndication (on_1 0x0a) Three) (sapi_n_reject 0xc3 ∷ []) (speaking Down [])
    ∷ case (signalling Up []) (inputs.ReleaseIndication (on_1 0x41) Three) [] (signalling Down [])
    ∷ case (signalling Up []) (inputs.ErrorIndication (on_1 0x41) Three) [] (signalling Down [])
    ∷ case (signalling Down []) (inputs.ReleaseIndication (on_1 0x41) Three) [] (signalling Down [])
    ∷ case (signalling Down []) (inputs.ErrorIndication (on_1 0x41) Three) [] (signalling Down [])
    ∷ case asked (inputs.ReleaseIndication (on_1 0x41) Zero)
    (clear_request 0x01 ∷ channel_release 1 0x41 0x01 ∷ rf_channel_release 1 0x41 ∷ []) (ended (Closed (WasAsked 0x800001)) asked)
    ∷ case asked (inputs.ConnectionFailure (on_1 0x41))
    (clear_request 0x01 ∷ channel_release 1 0x41 0x01 ∷ rf_channel_release 1 0x41 ∷ []) (ended (Closed (WasAsked 0x800001)) asked)
    ∷ [])
unfolding row_of out_of rsl_element_text
short_message_links = refl

-- ---- changes begin: the short messages remain held, and their link is as it was

changes_begin : AreRows (
    offered (cell_2 0x41) asked inputs.Move (put 2 (hex "08 21 01 41 03 02 06 04 00 03 01 00 09 00") ∷ [])
    (in_stage (Preparing (target Handover (cell_2 0x41))) asked)
    ∷ offered (again (cell_2 0x0a)) (speaking Up []) inputs.Move (put 2 (hex "08 21 01 0a 03 02 06 04 00 01 08 01 09 01") ∷ [])
    (in_stage (Preparing (target Handover (again (cell_2 0x0a)))) (speaking Up []))
    ∷ offered (cell_2 0x12) (speaking Up []) inputs.Move (put 2 (hex "08 21 01 12 03 02 06 04 00 01 09 01 09 00") ∷ [])
    (in_stage (Preparing (target Handover (cell_2 0x12))) (speaking Up []))
    ∷ case asked inputs.Move [] asked
    ∷ offered (cell_1 0x0a) asked request (activation 1 0x0a ∷ []) (in_stage (Preparing (target Assignment (cell_1 0x0a))) asked)
    ∷ offered (cell_1 0x12) asked request (put 1 (hex "08 21 01 12 03 01 06 04 00 01 09 01") ∷ [])
    (in_stage (Preparing (target Assignment (cell_1 0x12))) asked)
    ∷ case asked request (assignment_failure 0x21 ∷ []) asked
    ∷ offered (cell_1 0x0a) asked (inputs.AssignmentRequest false) (assignment_failure 0x25 ∷ []) asked
    ∷ case asked (inputs.AssignmentRequest false) (assignment_failure 0x25 ∷ []) asked
    ∷ case asked inputs.CipherModeCommand (cipher_mode_reject ∷ []) asked
    ∷ [])
unfolding row_of out_of rsl_element_text
changes_begin = refl

-- ---- ends

ends : AreRows (
    case asked inputs.ClearCommand
    (channel_release 1 0x41 0x00 ∷ rf_channel_release 1 0x41 ∷ clear_complete ∷ []) (ended (Closed Complete) asked)
    ∷ case asked (inputs.Released 0x800001)
    (channel_release 1 0x41 0x01 ∷ rf_channel_release 1 0x41 ∷ release_complete 0x01 ∷ []) (ended Removed asked)
    ∷ case asked (inputs.Released 0x800077)
    (channel_release 1 0x41 0x01 ∷ rf_channel_release 1 0x41 ∷ release_complete 0x77 ∷ []) (ended Removed asked)
    ∷ case asked (inputs.StationDown 1) (clear_request 0x20 ∷ []) (ended (Closed (WasAsked 0x800001)) asked)
    ∷ case asked inputs.SwitchDown (channel_release 1 0x41 0x01 ∷ rf_channel_release 1 0x41 ∷ []) (ended Removed asked)
    ∷ [])
unfolding row_of out_of rsl_element_text
ends = refl

-- ---- a switch that calls the connection 80000f

abbrev other : Connection
other = with_texts Asked two_texts (connection (Live 0x80000f Active) (cell_1 0x41))

another_reference : AreRows (
    case other (inputs.Dtap (on_1 0x41) Zero (call 1)) (put 0 (hex "06 80 00 0f 00 01 05 01 00 02 03 01") ∷ []) other
    ∷ case other (inputs.ReleaseIndication (on_1 0x41) Three) (put 0 (hex "06 80 00 0f 00 01 08 00 06 25 18 83 04 01 25") ∷ [])
    (record other { link = Down; down = record { limit = 32; zero = []; three = [] } })
    ∷ case other (inputs.StationDown 1) (put 0 (hex "06 80 00 0f 00 01 06 00 04 22 04 01 20") ∷ [])
    (ended (Closed (WasAsked 0x80000f)) other)
    ∷ case other inputs.ClearCommand
    (channel_release 1 0x41 0x00 ∷ rf_channel_release 1 0x41 ∷ put 0 (hex "06 80 00 0f 00 01 03 00 01 21") ∷ [])
    (ended (Closed Complete) other)
    ∷ case other inputs.CipherModeCommand (put 0 (hex "06 80 00 0f 00 01 06 00 04 59 04 01 40") ∷ []) other
    ∷ case other request (put 0 (hex "06 80 00 0f 00 01 06 00 04 03 04 01 21") ∷ []) other
    ∷ offered (cell_2 0x41) other inputs.Move (put 2 (hex "08 21 01 41 03 02 06 04 00 03 01 00 09 00") ∷ [])
    (record other { state = Live 0x80000f (Preparing (target Handover (cell_2 0x41))); waited = 0 })
    ∷ [])
unfolding row_of out_of rsl_element_text
another_reference = refl

-- ---- nothing else has a row, whatever is offered

abbrev of_no_active : List Input
of_no_active =
    activations_on (on_1 0x41) ++ inputs.EstablishIndication (on_1 0x41) Zero (Some (call 1)) ∷ inputs.EstablishConfirm (on_1 0x41) Zero
    ∷ inputs.ErrorIndication (on_1 0x41) Zero ∷ changes_on (on_1 0x41) ++ inputs.ReleaseAck (on_1 0x41) ∷ all_on (on_1 0x49)
    ++ all_on (on_2 0x41)
    ++ answers ++ inputs.Expiry ∷ inputs.DrainExpiry ∷ inputs.StationDown 2 ∷ []

none_else : NoneFit asked (Some (cell_1 0x0a)) of_no_active
unfolding row_of
none_else = refl

-- a link that wasn't asked for isn't confirmed
none_unasked : NoneFit (signalling Down []) (Some (cell_1 0x0a)) (inputs.EstablishConfirm (on_1 0x41) Three ∷ of_no_active)
unfolding row_of
none_unasked = refl

none_while_up : NoneFit (signalling Up []) (Some (cell_1 0x0a)) (inputs.EstablishConfirm (on_1 0x41) Three ∷ of_no_active)
unfolding row_of
none_while_up = refl
