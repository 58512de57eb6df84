-- SPDX-License-Identifier: MIT OR Apache-2.0
-- What the switch end does with literal messages.
use Rattle.std.proofs.Common.{◌≡◌, ℕ, true, false, true≢false, List, [], ◌∷◌, ◌++◌, length, map, Some, None, refl}
use Rattle.std.specs.List.{flat_map}
use Rattle.octets.proofs.Hex.{hex}
use Rattle.octets.specs.Front.{octet_at}
use Rattle.octets.specs.Walk.{walk}
use Rattle.dtap_codec.specs.Number.{count_of}
use Rattle.dtap_codec.specs.declared.number.Modulus.TheVariants.{Two}
use Rattle.dtap_codec.specs.declared.sapi.Sapi.TheVariants.{Zero, Three}
use Rattle.nsd_filter.specs.AcceptedList.{accepted_list, not_of_the_flow}
use Rattle.bssmap_codec.specs.declared.bssap.Bssap.TheVariants.{Transfer}
use Rattle.bssmap_codec.specs.declared.fault.InterfaceFault.TheVariants.{MissingElement, UnknownType}
use Rattle.bssmap_codec.specs.declared.fault.InterfaceFault.TheVariants.{Memory as OutOfMemory}
use Rattle.bssmap_codec.specs.declared.sccp.Sccp.{Sccp}
use Rattle.bssmap_codec.specs.declared.sccp.Sccp.TheVariants.{ConnectionRequest, ConnectionConfirm, ConnectionRefused, Released, ReleaseComplete, DataForm1}
use Rattle.bssmap_codec.specs.BssapReading.{elements_of, breaks_off, needed_value, layer3_at, cause_at, complete_layer3_at, message_at, management_at, transfer_at, bssap_reading}
use Rattle.bssmap_codec.specs.BssmapType.{bssmap_type}
use Rattle.msc_end.specs.declared.connection.Connection.{Connection}
use Rattle.msc_end.specs.declared.connection.Stage.{Stage}
use Rattle.msc_end.specs.declared.connection.Stage.TheVariants.{Open, Clearing, Ended}
use Rattle.msc_end.specs.declared.fault.MscFault.TheVariants.{NoConnection, Closed}
use Rattle.msc_end.specs.Refusal.{send_fault, MayWantMemory}
use Rattle.msc_end.specs.Switch.{after, after_clear, assignment_request, clear_command, connection_of, connections_after, connections_after_clear, data_forms_on, dlci_for, has_gap_on, replies, with_stage}
use Rattle.msc_end.specs.SwitchState.{SwitchState}

-- ---- messages of the base station controller

abbrev initial : List ℕ
initial = hex "05 24 71"

-- COMPLETE LAYER 3 INFORMATION with the initial message
abbrev request : Sccp
request = ConnectionRequest 0x010203 (Some (hex "00 10 57 05 08 00 00 f1 10 00 01 00 01 17 03 05 24 71"))

-- DTAP on the first connection
abbrev uplink : List ℕ → Sccp
uplink message = DataForm1 0x800001 (0x01 ∷ 0x80 ∷ length message ∷ message)

abbrev clear_request : Sccp
clear_request = DataForm1 0x800001 (hex "00 04 22 04 01 20")

abbrev clear_complete : Sccp
clear_complete = DataForm1 0x800001 (hex "00 01 21")

-- a switch end with a connection at this stage, on which these messages were taken
abbrev switch_at : Stage → List (List ℕ) → SwitchState
switch_at stage messages = record { modulus = 4; connections = record { peer = 0x010203; number = 0x800001; stage = stage; reception = record { modulus = 4; taken = messages } } ∷ [] }

abbrev new_switch : SwitchState
new_switch = record { modulus = 4; connections = [] }

abbrev other : Connection
other = record { peer = 0x040506; number = 0x800002; stage = Open; reception = record { modulus = 4; taken = [] } }

-- ---- connection requests

first_request : after new_switch request ≡ switch_at Open (initial ∷ [])
unfolding bssap_reading octet_at management_at transfer_at bssmap_type message_at breaks_off elements_of walk needed_value layer3_at cause_at complete_layer3_at
first_request = refl

first_request_confirmed : replies [] request ≡ ConnectionConfirm 0x010203 0x800001 ∷ []
first_request_confirmed = refl

request_without_data : after new_switch (ConnectionRequest 0x010203 None) ≡ switch_at Open []
request_without_data = refl

request_with_another_message : after new_switch (ConnectionRequest 0x010203 (Some (hex "00 01 21"))) ≡ switch_at Open []
unfolding bssap_reading octet_at management_at transfer_at bssmap_type message_at breaks_off elements_of walk needed_value layer3_at cause_at complete_layer3_at
request_with_another_message = refl

request_with_dtap : after new_switch (ConnectionRequest 0x010203 (Some (hex "01 00 02 05 24"))) ≡ switch_at Open []
unfolding bssap_reading octet_at management_at transfer_at bssmap_type message_at breaks_off elements_of walk needed_value layer3_at cause_at complete_layer3_at
request_with_dtap = refl

request_that_is_not_read : after new_switch (ConnectionRequest 0x010203 (Some (hex "02"))) ≡ switch_at Open []
unfolding bssap_reading octet_at management_at transfer_at bssmap_type message_at breaks_off elements_of walk needed_value layer3_at cause_at complete_layer3_at
request_that_is_not_read = refl

second_request : (after (switch_at Open []) (ConnectionRequest 0x040506 None)).connections ≡ (switch_at Open []).connections ++ other ∷ []
second_request = refl

second_request_confirmed : replies (switch_at Open []).connections (ConnectionRequest 0x040506 None) ≡ ConnectionConfirm 0x040506 0x800002 ∷ []
second_request_confirmed = refl

last_request_confirmed : (connections : List Connection) →
    length connections ≡ 0x7ffffe →
    replies connections (ConnectionRequest 0x040506 None) ≡ ConnectionConfirm 0x040506 0xffffff ∷ []
last_request_confirmed connections count = rw count refl

request_beyond_the_last_refused : (connections : List Connection) →
    length connections ≡ 0x7fffff →
    replies connections (ConnectionRequest 0x040506 None) ≡ ConnectionRefused 0x040506 ∷ []
request_beyond_the_last_refused connections count = rw count refl

request_beyond_the_last : (connections : List Connection) →
    length connections ≡ 0x7fffff →
    connections_after 4 connections (ConnectionRequest 0x040506 None) ≡ connections
request_beyond_the_last connections count = rw count refl

-- ---- data

uplink_taken : after (switch_at Open (initial ∷ [])) (uplink (hex "03 45")) ≡ switch_at Open (initial ∷ hex "03 45" ∷ [])
unfolding bssap_reading octet_at management_at transfer_at bssmap_type message_at breaks_off elements_of walk needed_value layer3_at cause_at complete_layer3_at
uplink_taken = refl

uplink_unanswered : replies (switch_at Open (initial ∷ [])).connections (uplink (hex "03 45")) ≡ []
unfolding bssap_reading octet_at management_at transfer_at bssmap_type message_at breaks_off elements_of walk needed_value layer3_at cause_at complete_layer3_at
uplink_unanswered = refl

uplink_taken_in_clearing : after (switch_at Clearing (initial ∷ [])) (uplink (hex "03 45"))
    ≡ switch_at Clearing (initial ∷ hex "03 45" ∷ [])
unfolding bssap_reading octet_at management_at transfer_at bssmap_type message_at breaks_off elements_of walk needed_value layer3_at cause_at complete_layer3_at
uplink_taken_in_clearing = refl

uplink_after_the_end : after (switch_at Ended (initial ∷ [])) (uplink (hex "03 45")) ≡ switch_at Ended (initial ∷ [])
unfolding bssap_reading octet_at management_at transfer_at bssmap_type message_at breaks_off elements_of walk needed_value layer3_at cause_at complete_layer3_at
uplink_after_the_end = refl

clear_request_clears : after (switch_at Open (initial ∷ [])) clear_request ≡ switch_at Clearing (initial ∷ [])
unfolding bssap_reading octet_at management_at transfer_at bssmap_type message_at breaks_off elements_of walk needed_value layer3_at cause_at complete_layer3_at
clear_request_clears = refl

-- with its own cause
clear_request_answered : replies (switch_at Open (initial ∷ [])).connections clear_request
    ≡ DataForm1 0x010203 (hex "00 04 20 04 01 20") ∷ []
unfolding bssap_reading octet_at management_at transfer_at bssmap_type message_at breaks_off elements_of walk needed_value layer3_at cause_at complete_layer3_at
clear_request_answered = refl

clear_request_answered_again : replies (switch_at Clearing (initial ∷ [])).connections clear_request
    ≡ DataForm1 0x010203 (hex "00 04 20 04 01 20") ∷ []
unfolding bssap_reading octet_at management_at transfer_at bssmap_type message_at breaks_off elements_of walk needed_value layer3_at cause_at complete_layer3_at
clear_request_answered_again = refl

clear_complete_ends : after (switch_at Clearing (initial ∷ [])) clear_complete ≡ switch_at Ended (initial ∷ [])
unfolding bssap_reading octet_at management_at transfer_at bssmap_type message_at breaks_off elements_of walk needed_value layer3_at cause_at complete_layer3_at
clear_complete_ends = refl

clear_complete_answered : replies (switch_at Clearing (initial ∷ [])).connections clear_complete ≡ Released 0x010203 0x800001 ∷ []
unfolding bssap_reading octet_at management_at transfer_at bssmap_type message_at breaks_off elements_of walk needed_value layer3_at cause_at complete_layer3_at
clear_complete_answered = refl

clear_complete_ends_an_open_connection : after (switch_at Open (initial ∷ [])) clear_complete ≡ switch_at Ended (initial ∷ [])
unfolding bssap_reading octet_at management_at transfer_at bssmap_type message_at breaks_off elements_of walk needed_value layer3_at cause_at complete_layer3_at
clear_complete_ends_an_open_connection = refl

clear_complete_again : replies (switch_at Ended (initial ∷ [])).connections clear_complete ≡ []
unfolding bssap_reading octet_at management_at transfer_at bssmap_type message_at breaks_off elements_of walk needed_value layer3_at cause_at complete_layer3_at
clear_complete_again = refl

clear_request_after_the_end : replies (switch_at Ended (initial ∷ [])).connections clear_request ≡ []
unfolding bssap_reading octet_at management_at transfer_at bssmap_type message_at breaks_off elements_of walk needed_value layer3_at cause_at complete_layer3_at
clear_request_after_the_end = refl

another_message_of_bssmap : after (switch_at Open (initial ∷ [])) (DataForm1 0x800001 (hex "00 01 53")) ≡ switch_at Open (initial ∷ [])
unfolding bssap_reading octet_at management_at transfer_at bssmap_type message_at breaks_off elements_of walk needed_value layer3_at cause_at complete_layer3_at
another_message_of_bssmap = refl

another_message_of_bssmap_unanswered : replies (switch_at Open (initial ∷ [])).connections (DataForm1 0x800001 (hex "00 01 53")) ≡ []
unfolding bssap_reading octet_at management_at transfer_at bssmap_type message_at breaks_off elements_of walk needed_value layer3_at cause_at complete_layer3_at
another_message_of_bssmap_unanswered = refl

data_that_are_not_read : after (switch_at Open (initial ∷ [])) (DataForm1 0x800001 (hex "01 02 01 05")) ≡ switch_at Open (initial ∷ [])
unfolding bssap_reading octet_at management_at transfer_at bssmap_type message_at breaks_off elements_of walk needed_value layer3_at cause_at complete_layer3_at
data_that_are_not_read = refl

connection_before_the_first : after (switch_at Open (initial ∷ [])) (DataForm1 0x800000 (hex "00 01 21")) ≡ switch_at Open (initial ∷ [])
unfolding bssap_reading octet_at management_at transfer_at bssmap_type message_at breaks_off elements_of walk needed_value layer3_at cause_at complete_layer3_at
connection_before_the_first = refl

connection_before_the_first_unanswered : replies (switch_at Open (initial ∷ [])).connections (DataForm1 0x800000 (hex "00 01 21")) ≡ []
unfolding bssap_reading octet_at management_at transfer_at bssmap_type message_at breaks_off elements_of walk needed_value layer3_at cause_at complete_layer3_at
connection_before_the_first_unanswered = refl

connection_of_the_other_end : after (switch_at Open (initial ∷ [])) (DataForm1 0x000001 (hex "00 01 21")) ≡ switch_at Open (initial ∷ [])
unfolding bssap_reading octet_at management_at transfer_at bssmap_type message_at breaks_off elements_of walk needed_value layer3_at cause_at complete_layer3_at
connection_of_the_other_end = refl

connection_of_the_other_end_unanswered : replies (switch_at Open (initial ∷ [])).connections (DataForm1 0x000001 (hex "00 01 21")) ≡ []
unfolding bssap_reading octet_at management_at transfer_at bssmap_type message_at breaks_off elements_of walk needed_value layer3_at cause_at complete_layer3_at
connection_of_the_other_end_unanswered = refl

connection_behind_the_last : after (switch_at Open (initial ∷ [])) (DataForm1 0x800002 (hex "00 01 21")) ≡ switch_at Open (initial ∷ [])
unfolding bssap_reading octet_at management_at transfer_at bssmap_type message_at breaks_off elements_of walk needed_value layer3_at cause_at complete_layer3_at
connection_behind_the_last = refl

connection_behind_the_last_unanswered : replies (switch_at Open (initial ∷ [])).connections (DataForm1 0x800002 (hex "00 01 21")) ≡ []
unfolding bssap_reading octet_at management_at transfer_at bssmap_type message_at breaks_off elements_of walk needed_value layer3_at cause_at complete_layer3_at
connection_behind_the_last_unanswered = refl

second_connection_alone : connections_after 4 ((switch_at Open (initial ∷ [])).connections ++ other ∷ []) (DataForm1 0x800002 (hex "00 01 21"))
    ≡ (switch_at Open (initial ∷ [])).connections ++ with_stage other Ended ∷ []
unfolding bssap_reading octet_at management_at transfer_at bssmap_type message_at breaks_off elements_of walk needed_value layer3_at cause_at complete_layer3_at
second_connection_alone = refl

second_connection_released : replies ((switch_at Open (initial ∷ [])).connections ++ other ∷ []) (DataForm1 0x800002 (hex "00 01 21"))
    ≡ Released 0x040506 0x800002 ∷ []
unfolding bssap_reading octet_at management_at transfer_at bssmap_type message_at breaks_off elements_of walk needed_value layer3_at cause_at complete_layer3_at
second_connection_released = refl

confirm_changes_nothing : after (switch_at Open (initial ∷ [])) (ConnectionConfirm 0x800001 0x010203) ≡ switch_at Open (initial ∷ [])
confirm_changes_nothing = refl

confirm_unanswered : replies (switch_at Open (initial ∷ [])).connections (ConnectionConfirm 0x800001 0x010203) ≡ []
confirm_unanswered = refl

refusal_changes_nothing : after (switch_at Open (initial ∷ [])) (ConnectionRefused 0x800001) ≡ switch_at Open (initial ∷ [])
refusal_changes_nothing = refl

refusal_unanswered : replies (switch_at Open (initial ∷ [])).connections (ConnectionRefused 0x800001) ≡ []
refusal_unanswered = refl

release_changes_nothing : after (switch_at Open (initial ∷ [])) (Released 0x800001 0x010203) ≡ switch_at Open (initial ∷ [])
release_changes_nothing = refl

release_unanswered : replies (switch_at Open (initial ∷ [])).connections (Released 0x800001 0x010203) ≡ []
release_unanswered = refl

release_complete_changes_nothing : after (switch_at Open (initial ∷ [])) (ReleaseComplete 0x800001 0x010203) ≡ switch_at Open (initial ∷ [])
release_complete_changes_nothing = refl

release_complete_unanswered : replies (switch_at Open (initial ∷ [])).connections (ReleaseComplete 0x800001 0x010203) ≡ []
release_complete_unanswered = refl

-- ---- what is sent of the switch's own accord

dtap_of_sapi_0 : data_forms_on (connection_of (switch_at Open (initial ∷ [])).connections 1) (Transfer (dlci_for Zero) (hex "83 02"))
    ≡ DataForm1 0x010203 (hex "01 00 02 83 02") ∷ []
dtap_of_sapi_0 = refl

dtap_of_sapi_3 : data_forms_on (connection_of (switch_at Open (initial ∷ [])).connections 1) (Transfer (dlci_for Three) (hex "09 01"))
    ≡ DataForm1 0x010203 (hex "01 03 02 09 01") ∷ []
dtap_of_sapi_3 = refl

assignment_sent : data_forms_on (connection_of (switch_at Open (initial ∷ [])).connections 1) assignment_request
    ≡ DataForm1 0x010203 (hex "00 06 01 0b 03 01 08 01") ∷ []
assignment_sent = refl

clear_sent : data_forms_on (connection_of (switch_at Open (initial ∷ [])).connections 1) clear_command
    ≡ DataForm1 0x010203 (hex "00 04 20 04 01 09") ∷ []
clear_sent = refl

cleared_state : after_clear (switch_at Open (initial ∷ [])) 1 ≡ switch_at Clearing (initial ∷ [])
cleared_state = refl

second_connection_cleared : connections_after_clear ((switch_at Open (initial ∷ [])).connections ++ other ∷ []) 2 (Some other) ≡ (switch_at Open (initial ∷ [])).connections ++ with_stage other Clearing ∷ []
second_connection_cleared = refl

open_connection_sends : send_fault (connection_of (switch_at Open (initial ∷ [])).connections 1) ≡ None
open_connection_sends = refl

connection_in_clearing_is_closed : send_fault (connection_of (switch_at Clearing (initial ∷ [])).connections 1) ≡ Some Closed
connection_in_clearing_is_closed = refl

ended_connection_is_closed : send_fault (connection_of (switch_at Ended (initial ∷ [])).connections 1) ≡ Some Closed
ended_connection_is_closed = refl

no_connection_0 : send_fault (connection_of (switch_at Open (initial ∷ [])).connections 0) ≡ Some NoConnection
no_connection_0 = refl

no_connection_2 : send_fault (connection_of (switch_at Open (initial ∷ [])).connections 2) ≡ Some NoConnection
no_connection_2 = refl

-- ---- what is accepted

-- the messages taken after these uplink messages
abbrev switch_after : SwitchState → List (List ℕ) → SwitchState
switch_after switch [] = switch
switch_after switch (message ∷ messages) = switch_after (after switch (uplink message)) messages

abbrev taken_of : SwitchState → List (List ℕ)
taken_of switch = flat_map (λ c. c.reception.taken) switch.connections

repeated_message_taken : taken_of (switch_after (switch_at Open (initial ∷ [])) (hex "03 45" ∷ hex "03 45"
    ∷ hex "03 45" ∷ []))
    ≡ (hex "05 24 71" ∷ hex "03 45" ∷ hex "03 45" ∷ hex "03 45" ∷ [])
unfolding bssap_reading octet_at management_at transfer_at bssmap_type message_at breaks_off elements_of walk needed_value layer3_at cause_at complete_layer3_at
repeated_message_taken = refl

repeated_message_accepted_once : accepted_list 4 (taken_of (switch_after (switch_at Open (initial ∷ [])) (hex "03 45"
    ∷ hex "03 45" ∷ hex "03 45" ∷ [])))
    ≡ (hex "05 24 71" ∷ hex "03 05" ∷ [])
unfolding bssap_reading octet_at management_at transfer_at bssmap_type message_at breaks_off elements_of walk needed_value layer3_at cause_at complete_layer3_at
repeated_message_accepted_once = refl

numbers_run_on : accepted_list 4 (taken_of (switch_after (switch_at Open (initial ∷ [])) (hex "03 45"
    ∷ hex "03 8f" ∷ [])))
    ≡ (hex "05 24 71" ∷ hex "03 05" ∷ hex "03 0f" ∷ [])
unfolding bssap_reading octet_at management_at transfer_at bssmap_type message_at breaks_off elements_of walk needed_value layer3_at cause_at complete_layer3_at
numbers_run_on = refl

nothing_accepted_behind_a_gap : accepted_list 4 (taken_of (switch_after (switch_at Open (initial ∷ [])) (hex "03 85"
    ∷ hex "03 45" ∷ [])))
    ≡ (hex "05 24 71" ∷ [])
unfolding bssap_reading octet_at management_at transfer_at bssmap_type message_at breaks_off elements_of walk needed_value layer3_at cause_at complete_layer3_at
nothing_accepted_behind_a_gap = refl

numbers_begin_again_after_the_last : accepted_list 4 (taken_of (switch_after (switch_at Open []) (hex "03 01"
    ∷ hex "03 41" ∷ hex "03 81" ∷ hex "03 c1" ∷ hex "03 01" ∷ hex "03 41" ∷ [])))
    ≡ (hex "03 01" ∷ hex "03 01" ∷ hex "03 01" ∷ hex "03 01" ∷ hex "03 01" ∷ hex "03 01" ∷ [])
unfolding bssap_reading octet_at management_at transfer_at bssmap_type message_at breaks_off elements_of walk needed_value layer3_at cause_at complete_layer3_at
numbers_begin_again_after_the_last = refl

-- modulo 2
abbrev switch_of_two : SwitchState
switch_of_two = record { modulus = count_of Two; connections = record { peer = 0x010203; number = 0x800001; stage = Open; reception = record { modulus = count_of Two; taken = initial ∷ [] } } ∷ [] }

repeated_message_of_two : map (λ c. accepted_list c.reception.modulus c.reception.taken) (switch_after switch_of_two (hex "03 45"
    ∷ hex "03 45" ∷ hex "03 0f" ∷ [])).connections
    ≡ (hex "05 24 71" ∷ hex "03 05" ∷ hex "03 0f" ∷ []) ∷ []
unfolding bssap_reading octet_at management_at transfer_at bssmap_type message_at breaks_off elements_of walk needed_value layer3_at cause_at complete_layer3_at
repeated_message_of_two = refl

initial_message_without_number : accepted_list 4 (taken_of (switch_after (switch_at Open (hex "06 27 71" ∷ [])) (hex "03 05" ∷ [])))
    ≡ (hex "03 05" ∷ [])
unfolding bssap_reading octet_at management_at transfer_at bssmap_type message_at breaks_off elements_of walk needed_value layer3_at cause_at complete_layer3_at
initial_message_without_number = refl

unnumbered_message : not_of_the_flow (taken_of (switch_after (switch_at Open (hex "06 27 71" ∷ [])) (hex "03 05" ∷ [])))
    ≡ (hex "06 27 71" ∷ [])
unfolding bssap_reading octet_at management_at transfer_at bssmap_type message_at breaks_off elements_of walk needed_value layer3_at cause_at complete_layer3_at
unnumbered_message = refl

-- ---- a gap in the flow

no_gap_where_there_is_no_connection : has_gap_on (switch_at Open (initial ∷ hex "03 85" ∷ [])) 0 ≡ None
no_gap_where_there_is_no_connection = refl

no_gap_behind_the_last_connection : has_gap_on (switch_at Open (initial ∷ hex "03 85" ∷ [])) 2 ≡ None
no_gap_behind_the_last_connection = refl

no_gap_where_nothing_is_taken : has_gap_on (switch_at Open []) 1 ≡ Some false
no_gap_where_nothing_is_taken = refl

-- messages that are accepted: numbers 1 and 2
no_gap_in_order : has_gap_on (switch_after (switch_at Open (initial ∷ [])) (hex "03 45" ∷ hex "03 8f" ∷ [])) 1 ≡ Some false
unfolding bssap_reading octet_at management_at transfer_at bssmap_type message_at breaks_off elements_of walk needed_value layer3_at cause_at complete_layer3_at
no_gap_in_order = refl

-- number 1 twice
no_gap_at_a_duplicate : has_gap_on (switch_after (switch_at Open (initial ∷ [])) (hex "03 45" ∷ hex "03 45" ∷ [])) 1 ≡ Some false
unfolding bssap_reading octet_at management_at transfer_at bssmap_type message_at breaks_off elements_of walk needed_value layer3_at cause_at complete_layer3_at
no_gap_at_a_duplicate = refl

-- number 2, where 1 is the next
a_gap : has_gap_on (switch_after (switch_at Open (initial ∷ [])) (hex "03 85" ∷ [])) 1 ≡ Some true
unfolding bssap_reading octet_at management_at transfer_at bssmap_type message_at breaks_off elements_of walk needed_value layer3_at cause_at complete_layer3_at
a_gap = refl

a_gap_behind_accepted_messages : has_gap_on (switch_after (switch_at Open (initial ∷ [])) (hex "03 45" ∷ hex "03 c5" ∷ [])) 1 ≡ Some true
unfolding bssap_reading octet_at management_at transfer_at bssmap_type message_at breaks_off elements_of walk needed_value layer3_at cause_at complete_layer3_at
a_gap_behind_accepted_messages = refl

a_gap_remains : has_gap_on (switch_after (switch_at Open (initial ∷ [])) (hex "03 85" ∷ hex "03 45" ∷ [])) 1 ≡ Some true
unfolding bssap_reading octet_at management_at transfer_at bssmap_type message_at breaks_off elements_of walk needed_value layer3_at cause_at complete_layer3_at
a_gap_remains = refl

no_gap_at_a_message_without_number : has_gap_on (switch_after (switch_at Open (initial ∷ [])) (hex "09 01" ∷ hex "03 45" ∷ [])) 1 ≡ Some false
unfolding bssap_reading octet_at management_at transfer_at bssmap_type message_at breaks_off elements_of walk needed_value layer3_at cause_at complete_layer3_at
no_gap_at_a_message_without_number = refl

-- of each connection its own: none on the first, one on the second
abbrev two_flows : SwitchState
two_flows = record {
  modulus = 4;
  connections =
      (switch_at Open (initial ∷ hex "03 45" ∷ [])).connections
      ++ record other { reception = record { modulus = 4; taken = initial ∷ hex "03 85" ∷ [] } } ∷ [];
}

gap_of_each : map (has_gap_on two_flows) (1 ∷ 2 ∷ 3 ∷ []) ≡ Some false ∷ Some true ∷ None ∷ []
gap_of_each = refl

-- ---- messages that may want memory

abbrev live : List Connection
live = (switch_at Open (initial ∷ [])).connections

a_request_wants : MayWantMemory [] request × MayWantMemory live (ConnectionRequest 0x010203 None)
a_request_wants = (tt, tt)

dtap_wants : MayWantMemory live (uplink (hex "03 45"))
unfolding bssap_reading octet_at management_at transfer_at bssmap_type message_at breaks_off elements_of walk needed_value layer3_at cause_at complete_layer3_at
dtap_wants = (refl, tt)

dtap_in_clearing_wants : MayWantMemory (switch_at Clearing (initial ∷ [])).connections (uplink (hex "03 45"))
unfolding bssap_reading octet_at management_at transfer_at bssmap_type message_at breaks_off elements_of walk needed_value layer3_at cause_at complete_layer3_at
dtap_in_clearing_wants = (refl, tt)

clear_request_wants : MayWantMemory live clear_request
unfolding bssap_reading octet_at management_at transfer_at bssmap_type message_at breaks_off elements_of walk needed_value layer3_at cause_at complete_layer3_at
clear_request_wants = (refl, tt)

clear_complete_wants : MayWantMemory live clear_complete
unfolding bssap_reading octet_at management_at transfer_at bssmap_type message_at breaks_off elements_of walk needed_value layer3_at cause_at complete_layer3_at
clear_complete_wants = (refl, tt)

-- nothing changes, and nothing is asked for
after_the_end_nothing_is_wanted : MayWantMemory (switch_at Ended (initial ∷ [])).connections (uplink (hex "03 45")) → ⊥
unfolding bssap_reading octet_at management_at transfer_at bssmap_type message_at breaks_off elements_of walk needed_value layer3_at cause_at complete_layer3_at
after_the_end_nothing_is_wanted h = true≢false h.0

clear_complete_again_wants_nothing : MayWantMemory (switch_at Ended (initial ∷ [])).connections clear_complete → ⊥
unfolding bssap_reading octet_at management_at transfer_at bssmap_type message_at breaks_off elements_of walk needed_value layer3_at cause_at complete_layer3_at
clear_complete_again_wants_nothing h = true≢false h.0

no_connection_0_wants : MayWantMemory live (DataForm1 0x800000 (hex "00 01 21")) → ⊥
unfolding bssap_reading octet_at management_at transfer_at bssmap_type message_at breaks_off elements_of walk needed_value layer3_at cause_at complete_layer3_at
no_connection_0_wants h = h

no_connection_2_wants : MayWantMemory live (DataForm1 0x800002 (hex "00 01 21")) → ⊥
unfolding bssap_reading octet_at management_at transfer_at bssmap_type message_at breaks_off elements_of walk needed_value layer3_at cause_at complete_layer3_at
no_connection_2_wants h = h

no_connection_of_the_other_end_wants : MayWantMemory live (DataForm1 0x000001 (hex "00 01 21")) → ⊥
unfolding bssap_reading octet_at management_at transfer_at bssmap_type message_at breaks_off elements_of walk needed_value layer3_at cause_at complete_layer3_at
no_connection_of_the_other_end_wants h = h

-- DTAP of SAPI 1, and CLEAR REQUEST without a cause
data_of_an_unknown_link_want_nothing : MayWantMemory live (DataForm1 0x800001 (hex "01 02 01 05")) → ⊥
unfolding bssap_reading octet_at management_at transfer_at bssmap_type message_at breaks_off elements_of walk needed_value layer3_at cause_at complete_layer3_at
data_of_an_unknown_link_want_nothing h = let same : UnknownType ≡ OutOfMemory = h.1 in cc

data_without_their_cause_want_nothing : MayWantMemory live (DataForm1 0x800001 (hex "00 01 22")) → ⊥
unfolding bssap_reading octet_at management_at transfer_at bssmap_type message_at breaks_off elements_of walk needed_value layer3_at cause_at complete_layer3_at
data_without_their_cause_want_nothing h = let same : MissingElement 0x04 ≡ OutOfMemory = h.1 in cc

confirm_wants_nothing : MayWantMemory live (ConnectionConfirm 0x800001 0x010203) → ⊥
confirm_wants_nothing h = h

refusal_wants_nothing : MayWantMemory live (ConnectionRefused 0x800001) → ⊥
refusal_wants_nothing h = h

release_wants_nothing : MayWantMemory live (Released 0x800001 0x010203) → ⊥
release_wants_nothing h = h

release_complete_wants_nothing : MayWantMemory live (ReleaseComplete 0x800001 0x010203) → ⊥
release_complete_wants_nothing h = h
