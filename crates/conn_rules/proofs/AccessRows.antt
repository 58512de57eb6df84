-- SPDX-License-Identifier: MIT OR Apache-2.0
-- The rows before the switch confirms a connection, and those of a closed one.
use Rattle.conn_rules.proofs.Prelude.{ℕ, List, [], ◌∷◌, ◌++◌, replicate, Some, None, refl, Zero, Three, hex, Connection}
use Rattle.conn_rules.proofs.Prelude.{Active, Live, Input, State, WaitActivation, WaitEstablish, WaitConfirm, Closed, Removed, Due}
use Rattle.conn_rules.proofs.Prelude.{WasAsked, Complete}
use Rattle.conn_messages.specs.Out.{out_of}
use Rattle.conn_rules.specs.declared.input.Input.TheVariants as inputs
use Rattle.conn_rules.specs.Table.{row_of}
use Rattle.conn_rules.proofs.CaseRows.{NoneFit, links_on, dtap_on, changes_on, activations_on, all_on, commands, answers, AreRows, case}
use Rattle.conn_rules.proofs.CaseRows.{connection, in_state, ended, held_up, tenure, call, text, relay, clear_request, clear_complete}
use Rattle.conn_rules.proofs.CaseRows.{release_complete, channel_release, rf_channel_release}
use Rattle.conn_rules.proofs.Lives.{Put, put, cell_1, cell_2, on_1, on_2}
use Rattle.rsl_codec.specs.RslText.{rsl_element_text}

-- ---- WaitActivation

abbrev pub access : Connection
access = connection WaitActivation (cell_1 0x41)

before_activation : AreRows (
    case access (inputs.ActivationAck (on_1 0x41))
    (put 1 (hex "0c 16 01 90 2b 17 2d 06 3f 00 41 20 14 7f 01 02 05 00 2b 2b 2b 2b 2b 2b 2b 2b 2b 2b 2b") ∷ [])
    (in_state WaitEstablish access)
    ∷ case (connection WaitActivation (cell_2 0x49)) (inputs.ActivationAck (on_2 0x49))
    (put 2 (hex "0c 16 01 90 2b 17 2d 06 3f 00 49 40 1e 7f 01 02 05 00 2b 2b 2b 2b 2b 2b 2b 2b 2b 2b 2b") ∷ [])
    (in_state WaitEstablish (connection WaitActivation (cell_2 0x49)))
    -- the access delay is the timing advance, 3F at most
    ∷ case (record access { delay = 63 }) (inputs.ActivationAck (on_1 0x41))
    (put 1 (hex "0c 16 01 90 2b 17 2d 06 3f 00 41 20 14 7f 01 02 3f 00 2b 2b 2b 2b 2b 2b 2b 2b 2b 2b 2b") ∷ [])
    (record access { state = WaitEstablish; delay = 63; waited = 0 })
    ∷ case (record access { delay = 64 }) (inputs.ActivationAck (on_1 0x41))
    (put 1 (hex "0c 16 01 90 2b 17 2d 06 3f 00 41 20 14 7f 01 02 3f 00 2b 2b 2b 2b 2b 2b 2b 2b 2b 2b 2b") ∷ [])
    (record access { state = WaitEstablish; delay = 64; waited = 0 })
    ∷ case access (inputs.ActivationNack (on_1 0x41)) [] (ended Removed access)
    ∷ case access inputs.Expiry (rf_channel_release 1 0x41 ∷ []) (ended Removed access)
    ∷ case access (inputs.StationDown 1) [] (ended Removed access)
    ∷ case access inputs.SwitchDown (rf_channel_release 1 0x41 ∷ []) (ended Removed access)
    ∷ [])
unfolding row_of out_of rsl_element_text
before_activation = refl

-- ---- WaitEstablish

abbrev channel_given : Connection
channel_given = connection WaitEstablish (cell_1 0x41)

before_the_mobile : AreRows (
    case channel_given (inputs.EstablishIndication (on_1 0x41) Zero (Some (hex "05 24 71")))
    (put 0 (hex "01 00 00 01 02 02 04 02 42 fe 0f 12 00 10 57 05 08 00 00 f1 10 00 01 00 01 17 03 05 24 71 00") ∷ [])
    (in_state WaitConfirm channel_given)
    -- of connection 012345, on 49 of cell 2
    ∷ case (record (connection WaitEstablish (cell_2 0x49)) { number = 0x012345 })
    (inputs.EstablishIndication (on_2 0x49) Zero (Some (hex "05")))
    (put 0 (hex "01 01 23 45 02 02 04 02 42 fe 0f 10 00 0e 57 05 08 00 00 f1 10 00 01 00 02 17 01 05 00") ∷ [])
    (record (connection WaitConfirm (cell_2 0x49)) { number = 0x012345; waited = 0 })
    -- 113 octets are passed on, 114 aren't
    ∷ case channel_given (inputs.EstablishIndication (on_1 0x41) Zero (Some (replicate 113 0x05)))
    (put 0 (hex "01 00 00 01 02 02 04 02 42 fe 0f 80 00 7e 57 05 08 00 00 f1 10 00 01 00 01 17 71" ++ replicate 113 0x05 ++ 0x00 ∷ [])
    ∷ [])
    (in_state WaitConfirm channel_given)
    ∷ case channel_given (inputs.EstablishIndication (on_1 0x41) Zero (Some (replicate 114 0x05))) (rf_channel_release 1 0x41 ∷ [])
    (ended Removed channel_given)
    ∷ case channel_given (inputs.EstablishIndication (on_1 0x41) Zero None) (rf_channel_release 1 0x41 ∷ [])
    (ended Removed channel_given)
    ∷ case channel_given (inputs.Dtap (on_1 0x41) Zero (call 1)) (rf_channel_release 1 0x41 ∷ []) (ended Removed channel_given)
    ∷ case channel_given (inputs.ReleaseIndication (on_1 0x41) Zero) (rf_channel_release 1 0x41 ∷ []) (ended Removed channel_given)
    ∷ case channel_given (inputs.ConnectionFailure (on_1 0x41)) (rf_channel_release 1 0x41 ∷ []) (ended Removed channel_given)
    ∷ case channel_given inputs.Expiry (rf_channel_release 1 0x41 ∷ []) (ended Removed channel_given)
    ∷ case channel_given (inputs.StationDown 1) [] (ended Removed channel_given)
    ∷ case channel_given inputs.SwitchDown (rf_channel_release 1 0x41 ∷ []) (ended Removed channel_given)
    ∷ [])
unfolding row_of out_of rsl_element_text
before_the_mobile = refl

-- ---- WaitConfirm: two messages of SAPI 0 are held, and one of SAPI 3

abbrev asking : List (List ℕ) → List (List ℕ) → Connection
asking calls texts = record (connection WaitConfirm (cell_1 0x41)) { up = held_up (tenure calls texts ∷ []) }

abbrev pub opened : Connection
opened = asking (call 1 ∷ call 2 ∷ []) (text 1 ∷ [])

-- the mobile is dismissed with 01, and the channel released
abbrev dismissed : List Put
dismissed = channel_release 1 0x41 0x01 ∷ rf_channel_release 1 0x41 ∷ []

before_the_switch : AreRows (
    case opened (inputs.ConnectionConfirm 0x800001)
    (relay 0x00 (call 1) ∷ relay 0x00 (call 2) ∷ relay 0x83 (text 1) ∷ []) (in_state (Live 0x800001 Active) (asking [] []))
    -- the reference is the one that the switch gives
    ∷ case (asking (call 1 ∷ []) []) (inputs.ConnectionConfirm 0x80000f)
    (put 0 (hex "06 80 00 0f 00 01 05 01 00 02 03 01") ∷ []) (in_state (Live 0x80000f Active) (asking [] []))
    ∷ case (asking [] []) (inputs.ConnectionConfirm 0x800001) [] (in_state (Live 0x800001 Active) (asking [] []))
    ∷ case opened (inputs.Dtap (on_1 0x41) Zero (call 3)) [] (asking (call 1 ∷ call 2 ∷ call 3 ∷ []) (text 1 ∷ []))
    ∷ case opened (inputs.Dtap (on_1 0x41) Three (text 3)) [] (asking (call 1 ∷ call 2 ∷ []) (text 1 ∷ text 3 ∷ []))
    -- sixteen are held, over both SAPIs
    ∷ case (asking (replicate 9 (call 1)) (replicate 6 (text 1))) (inputs.Dtap (on_1 0x41) Three (text 2)) []
    (asking (replicate 9 (call 1)) (replicate 6 (text 1) ++ text 2 ∷ []))
    ∷ case (asking (replicate 9 (call 1)) (replicate 7 (text 1))) (inputs.Dtap (on_1 0x41) Zero (call 2)) dismissed
    (ended (Closed (Due 0x20)) opened)
    ∷ case (asking (replicate 9 (call 1)) (replicate 7 (text 1))) (inputs.Dtap (on_1 0x41) Three (text 2)) dismissed
    (ended (Closed (Due 0x20)) opened)
    ∷ case opened inputs.ConnectionRefused dismissed (ended Removed opened)
    ∷ case opened (inputs.Released 0x800001) (dismissed ++ release_complete 0x01 ∷ []) (ended Removed opened)
    ∷ case opened (inputs.Released 0x800077) (dismissed ++ release_complete 0x77 ∷ []) (ended Removed opened)
    ∷ case opened (inputs.ReleaseIndication (on_1 0x41) Zero) dismissed (ended (Closed (Due 0x01)) opened)
    ∷ case opened (inputs.ConnectionFailure (on_1 0x41)) dismissed (ended (Closed (Due 0x01)) opened)
    ∷ case opened (inputs.StationDown 1) [] (ended (Closed (Due 0x20)) opened)
    ∷ case opened inputs.SwitchDown dismissed (ended Removed opened)
    ∷ [])
unfolding row_of out_of rsl_element_text
before_the_switch = refl

-- ---- Closed

abbrev closed : State → Connection
closed state = record (connection state (cell_1 0x41)) { waited = 0 }

once_closed : AreRows (
    -- the CLEAR REQUEST that is due, with its cause, to the reference that the switch gives
    case (closed (Closed (Due 0x20))) (inputs.ConnectionConfirm 0x800001) (clear_request 0x20 ∷ []) (closed (Closed (WasAsked 0x800001)))
    ∷ case (closed (Closed (Due 0x01))) (inputs.ConnectionConfirm 0x80000f)
    (put 0 (hex "06 80 00 0f 00 01 06 00 04 22 04 01 01") ∷ []) (closed (Closed (WasAsked 0x80000f)))
    ∷ case (closed (Closed (Due 0x20))) inputs.ConnectionRefused [] (closed Removed)
    ∷ case (closed (Closed (Due 0x20))) (inputs.Released 0x800077) (release_complete 0x77 ∷ []) (closed Removed)
    ∷ case (closed (Closed (Due 0x20))) inputs.SwitchDown [] (closed Removed)
    ∷ case (closed (Closed (WasAsked 0x800001))) inputs.ClearCommand (clear_complete ∷ []) (closed (Closed Complete))
    ∷ case (closed (Closed (WasAsked 0x80000f))) inputs.ClearCommand (put 0 (hex "06 80 00 0f 00 01 03 00 01 21") ∷ [])
    (closed (Closed Complete))
    ∷ case (closed (Closed (WasAsked 0x800001))) (inputs.Released 0x800001) (release_complete 0x01 ∷ []) (closed Removed)
    ∷ case (closed (Closed (WasAsked 0x800001))) (inputs.Released 0x800077) (release_complete 0x77 ∷ []) (closed Removed)
    ∷ case (closed (Closed (WasAsked 0x800001))) inputs.SwitchDown [] (closed Removed)
    ∷ case (closed (Closed Complete)) (inputs.Released 0x800001) (release_complete 0x01 ∷ []) (closed Removed)
    ∷ case (closed (Closed Complete)) (inputs.Released 0x800077) (release_complete 0x77 ∷ []) (closed Removed)
    ∷ case (closed (Closed Complete)) inputs.SwitchDown [] (closed Removed)
    -- no timer runs in Closed; CC and CLEAR COMMAND enter it anew
    ∷ case (record (closed (Closed (Due 0x20))) { waited = 700 }) (inputs.ConnectionConfirm 0x800001) (clear_request 0x20 ∷ [])
    (closed (Closed (WasAsked 0x800001)))
    ∷ case (record (closed (Closed (WasAsked 0x800001))) { waited = 700 }) inputs.ClearCommand (clear_complete ∷ [])
    (closed (Closed Complete))
    -- RLC from connection 012345
    ∷ case (record (closed (Closed Complete)) { number = 0x012345 }) (inputs.Released 0x800077)
    (put 0 (hex "05 80 00 77 01 23 45") ∷ []) (record (closed Removed) { number = 0x012345 })
    ∷ [])
unfolding row_of out_of rsl_element_text
once_closed = refl

-- ---- nothing else has a row, whatever is offered

none_before_activation : NoneFit access (Some (cell_1 0x0a)) (
    links_on (on_1 0x41) ++ dtap_on (on_1 0x41) ++ changes_on (on_1 0x41) ++ inputs.ReleaseAck (on_1 0x41) ∷ all_on (on_1 0x49)
    ++ all_on (on_2 0x41)
    ++ commands ++ answers ++ inputs.Released 0x800001 ∷ inputs.ClearCommand ∷ inputs.Move ∷ inputs.DrainExpiry
    ∷ inputs.StationDown 2 ∷ [])
unfolding row_of
none_before_activation = refl

none_before_the_mobile : NoneFit channel_given (Some (cell_1 0x0a)) (
    activations_on (on_1 0x41) ++ inputs.EstablishIndication (on_1 0x41) Three (Some (call 1)) ∷ inputs.EstablishConfirm (on_1 0x41) Zero
    ∷ inputs.EstablishConfirm (on_1 0x41) Three ∷ inputs.ReleaseIndication (on_1 0x41) Three
    ∷ inputs.ErrorIndication (on_1 0x41) Zero
    ∷ inputs.ErrorIndication (on_1 0x41) Three ∷ inputs.Dtap (on_1 0x41) Three (text 1) ∷ changes_on (on_1 0x41)
    ++ inputs.ReleaseAck (on_1 0x41)
    ∷ all_on (on_1 0x49) ++ all_on (on_2 0x41)
    ++ commands ++ answers ++ inputs.Released 0x800001 ∷ inputs.ClearCommand ∷ inputs.Move ∷ inputs.DrainExpiry
    ∷ inputs.StationDown 2 ∷ [])
unfolding row_of
none_before_the_mobile = refl

-- the switch has no reference yet with which it could send a message
none_before_the_switch : NoneFit opened (Some (cell_1 0x0a)) (
    activations_on (on_1 0x41) ++ inputs.EstablishIndication (on_1 0x41) Zero (Some (call 1))
    ∷ inputs.EstablishIndication (on_1 0x41) Three None
    ∷ inputs.EstablishConfirm (on_1 0x41) Zero ∷ inputs.EstablishConfirm (on_1 0x41) Three
    ∷ inputs.ReleaseIndication (on_1 0x41) Three
    ∷ inputs.ErrorIndication (on_1 0x41) Zero ∷ inputs.ErrorIndication (on_1 0x41) Three ∷ changes_on (on_1 0x41)
    ++ inputs.ReleaseAck (on_1 0x41)
    ∷ all_on (on_1 0x49) ++ all_on (on_2 0x41)
    ++ commands ++ inputs.ClearCommand ∷ inputs.Move ∷ inputs.Expiry ∷ inputs.DrainExpiry ∷ inputs.StationDown 2 ∷ [])
unfolding row_of
none_before_the_switch = refl

abbrev of_no_closed : List Input
of_no_closed =
    all_on (on_1 0x41) ++ all_on (on_2 0x41) ++ commands ++ inputs.Move ∷ inputs.Expiry ∷ inputs.DrainExpiry ∷ inputs.StationDown 1
    ∷ inputs.StationDown 2 ∷ []

none_where_a_request_is_due : NoneFit (closed (Closed (Due 0x20))) (Some (cell_1 0x0a)) (inputs.ClearCommand ∷ of_no_closed)
unfolding row_of
none_where_a_request_is_due = refl

none_where_it_was_asked : NoneFit (closed (Closed (WasAsked 0x800001))) (Some (cell_1 0x0a)) (answers ++ of_no_closed)
unfolding row_of
none_where_it_was_asked = refl

none_once_clear_is_complete : NoneFit (closed (Closed Complete)) (Some (cell_1 0x0a)) (inputs.ClearCommand ∷ answers ++ of_no_closed)
unfolding row_of
none_once_clear_is_complete = refl

none_once_removed : NoneFit (closed Removed) (Some (cell_1 0x0a))
    (inputs.ClearCommand ∷ inputs.Released 0x800001 ∷ inputs.SwitchDown ∷ answers ++ of_no_closed)
unfolding row_of
none_once_removed = refl
