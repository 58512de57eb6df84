-- SPDX-License-Identifier: MIT OR Apache-2.0
-- Definitions against literal messages: which may be sent, what each call does, and a short life of
-- a mobile.
use Rattle.std.proofs.Common.{◌≡◌, ℕ, true, false, List, [], ◌∷◌, replicate, Some, None, Ok, Err, refl, arith}
use Rattle.octets.proofs.Hex.{hex}
use Rattle.dtap_codec.specs.Number.{count_of}
use Rattle.dtap_codec.specs.declared.number.Modulus.TheVariants.{Two}
use Rattle.dtap_codec.specs.declared.sapi.Sapi.TheVariants.{Zero, Three}
use Rattle.link_model.specs.declared.air_link.Air.TheVariants.{Empty, Given, Reached}
use Rattle.mobile_end.specs.declared.fault.MobileFault.TheVariants.{NotConnected, BadMessage}
use Rattle.mobile_end.specs.declared.mobile_end.Place.TheVariants.{OnChannel, Moving}
use Rattle.mobile_end.specs.declared.mobile_end.Stage.TheVariants.{New, Connected}
use Rattle.mobile_end.specs.Control.{is_control, without_control}
use Rattle.mobile_end.specs.DataLinkState.{DataLinkState}
use Rattle.mobile_end.specs.DataLink.{waits, lent_message, after_lending, after_acknowledgement, after_resume, after_repeat}
use Rattle.mobile_end.specs.Lawful.{is_initial, is_sendable}
use Rattle.mobile_end.specs.MobileState.{MobileState}
use Rattle.mobile_end.specs.Mobile.{new_mobile, idle_link, after_connect, refusal_of_connect, after_queue, refusal_of_send, frame_answer, after_frame, is_acknowledged, after_acked, after_leave, after_arrival}
use Rattle.mobile_end.specs.Calls.{Call, after_calls, taken_by_calls, taken_on_three_by_calls, establishments}
use Rattle.mobile_end.specs.Calls.Call.{connects, sends, frames, acknowledges, leaves, arrives, gives_up}
use Rattle.mobile_end.specs.OneRepeat.{OneRepeat}
use Rattle.mobile_end.specs.OneRepeat.OneRepeat.{over as ended, carries_on, repeats}
use Rattle.mobile_end.specs.Unacknowledged.{acknowledgements, RepeatsUnacknowledged}
use Rattle.mobile_end.specs.Unacknowledged.RepeatsUnacknowledged.{over as none_left, next as one_by_one}
use Rattle.mobile_end.specs.RunsToEnd.{RunsToEnd}
use Rattle.dtap_codec.specs.Places.{Carries, Rise}
use Rattle.dtap_codec.specs.Places.Rise.{over, next, again}

-- ---- what may be sent

nothing_is_sent : is_sendable Zero [] ≡ false
nothing_is_sent = refl

one_octet : is_sendable Zero (hex "08") ≡ true
one_octet = refl

call_control_of_one_octet : is_sendable Zero (hex "03") ≡ false
call_control_of_one_octet = refl

mobility_management_of_one_octet : is_sendable Zero (hex "05") ≡ false
mobility_management_of_one_octet = refl

supplementary_services_of_one_octet : is_sendable Zero (hex "0b") ≡ false
supplementary_services_of_one_octet = refl

call_control : is_sendable Zero (hex "83 3f") ≡ true
call_control = refl

mobility_management : is_sendable Zero (hex "05 24 71") ≡ true
mobility_management = refl

supplementary_services : is_sendable Zero (hex "0b 3b") ≡ true
supplementary_services = refl

call_control_with_number : is_sendable Zero (hex "03 45") ≡ false
call_control_with_number = refl

mobility_management_with_number : is_sendable Zero (hex "05 a4") ≡ false
mobility_management_with_number = refl

supplementary_services_with_number : is_sendable Zero (hex "0b c0") ≡ false
supplementary_services_with_number = refl

radio_resource : is_sendable Zero (hex "06 27") ≡ false
radio_resource = refl

radio_resource_on_sapi_three : is_sendable Three (hex "06 27") ≡ false
radio_resource_on_sapi_three = refl

short_message_on_sapi_zero : is_sendable Zero (hex "09 01") ≡ false
short_message_on_sapi_zero = refl

-- short messages have no number
short_message : is_sendable Three (hex "09 c1") ≡ true
short_message = refl

short_message_of_one_octet : is_sendable Three (hex "29") ≡ true
short_message_of_one_octet = refl

call_control_on_sapi_three : is_sendable Three (hex "03 05") ≡ false
call_control_on_sapi_three = refl

longest : is_sendable Zero (0x03 ∷ 0x05 ∷ replicate 249 0xff) ≡ true
longest = refl

longer : is_sendable Zero (0x03 ∷ 0x05 ∷ replicate 250 0xff) ≡ false
longer = refl

longest_short_message : is_sendable Three (0x09 ∷ replicate 250 0xff) ≡ true
longest_short_message = refl

longer_short_message : is_sendable Three (0x09 ∷ replicate 251 0xff) ≡ false
longer_short_message = refl

-- ---- with what a connection begins

nothing_is_initial : is_initial [] ≡ false
nothing_is_initial = refl

service_request : is_initial (hex "05 24 71") ≡ true
service_request = refl

service_request_with_number : is_initial (hex "05 64 71") ≡ false
service_request_with_number = refl

initial_of_one_octet : is_initial (hex "05") ≡ false
initial_of_one_octet = refl

paging_response : is_initial (hex "06 27 71") ≡ true
paging_response = refl

radio_resource_of_one_octet : is_initial (hex "06") ≡ true
radio_resource_of_one_octet = refl

initial_call_control : is_initial (hex "03 05") ≡ false
initial_call_control = refl

initial_short_message : is_initial (hex "09 01") ≡ false
initial_short_message = refl

initial_supplementary_services : is_initial (hex "0b 3b") ≡ false
initial_supplementary_services = refl

longest_initial : is_initial (0x05 ∷ 0x24 ∷ replicate 111 0xff) ≡ true
longest_initial = refl

longer_initial : is_initial (0x05 ∷ 0x24 ∷ replicate 112 0xff) ≡ false
longer_initial = refl

longest_paging_response : is_initial (0x06 ∷ 0x27 ∷ replicate 111 0xff) ≡ true
longest_paging_response = refl

longer_paging_response : is_initial (0x06 ∷ 0x27 ∷ replicate 112 0xff) ≡ false
longer_paging_response = refl

-- ---- radio resource messages

complete_is_control : is_control (hex "06 29 00") ≡ true
complete_is_control = refl

control_with_high_bits : is_control (hex "16") ≡ true
control_with_high_bits = refl

nothing_is_no_control : is_control [] ≡ false
nothing_is_no_control = refl

control_left_out : without_control (hex "03 05" ∷ hex "06 29 00" ∷ hex "05 24" ∷ []) ≡ hex "03 05" ∷ hex "05 24" ∷ []
control_left_out = refl

-- ---- a data link

abbrev link : List (List ℕ) → DataLinkState
link waiting = record { waiting = waiting; air = Empty }

waits_behind : waits (link (hex "03 05" ∷ [])) (hex "03 4f") ≡ link (hex "03 05" ∷ hex "03 4f" ∷ [])
waits_behind = refl

first_is_lent : lent_message (link (hex "03 05" ∷ hex "03 4f" ∷ [])) ≡ Some (hex "03 05")
first_is_lent = refl

after_the_first : after_lending (link (hex "03 05" ∷ hex "03 4f" ∷ [])) ≡ record { waiting = hex "03 4f" ∷ []; air = Reached (hex "03 05") }
after_the_first = refl

lent_once : lent_message (record { waiting = hex "03 4f" ∷ []; air = Reached (hex "03 05") }) ≡ None
lent_once = refl

free_again : after_acknowledgement (record { waiting = hex "03 4f" ∷ []; air = Reached (hex "03 05") }) ≡ link (hex "03 4f" ∷ [])
free_again = refl

not_free_before : after_acknowledgement (record { waiting = []; air = Given (hex "03 05") })
    ≡ record { waiting = []; air = Given (hex "03 05") }
not_free_before = refl

resumes_with_control : after_resume (record { waiting = hex "06 27" ∷ hex "03 4f" ∷ []; air = Reached (hex "03 05") }) (hex "06 29 00") ≡
    record { waiting = hex "03 05" ∷ hex "03 4f" ∷ []; air = Given (hex "06 29 00") }
resumes_with_control = refl

drops_earlier_control : after_resume (record { waiting = hex "03 4f" ∷ []; air = Given (hex "06 28 03") }) (hex "06 29 00") ≡
    record { waiting = hex "03 4f" ∷ []; air = Given (hex "06 29 00") }
drops_earlier_control = refl

repeats_in_air : after_repeat (record { waiting = hex "09 04" ∷ []; air = Reached (hex "09 01") })
    ≡ record { waiting = hex "09 04" ∷ []; air = Given (hex "09 01") }
repeats_in_air = refl

nothing_to_repeat : after_repeat (link (hex "09 04" ∷ [])) ≡ link (hex "09 04" ∷ [])
nothing_to_repeat = refl

-- ---- the calls of a mobile: its place, two messages sent, and its data links

abbrev mobile : DataLinkState → DataLinkState → MobileState
mobile zero three = record {
  modulus = 4;
  stage = Connected;
  place = OnChannel;
  sent = hex "05 24" ∷ hex "03 05"
      ∷ [];
  zero = zero;
  three = three;
}

abbrev moving : DataLinkState → DataLinkState → MobileState
moving zero three = record (mobile zero three) { place = Moving }

abbrev reached_zero : DataLinkState
reached_zero = record { waiting = hex "0b 7b" ∷ []; air = Reached (hex "03 45") }

abbrev reached_three : DataLinkState
reached_three = record { waiting = []; air = Reached (hex "09 01") }

never_sent : new_mobile 4 ≡ record { modulus = 4; stage = New; place = OnChannel; sent = []; zero = record { waiting = []; air = Empty }; three = record { waiting = []; air = Empty } }
never_sent = refl

connects_without_message : after_connect (new_mobile 4) None ≡ record (new_mobile 4) { stage = Connected }
connects_without_message = refl

connects_with_service_request : after_connect (new_mobile 4) (Some (hex "05 24 71")) ≡
    record (new_mobile 4) { stage = Connected; sent = hex "05 24 71" ∷ []; zero = link (hex "05 24 71" ∷ []) }
connects_with_service_request = refl

connects_with_paging_response : after_connect (new_mobile 4) (Some (hex "06 27 71"))
    ≡ record (new_mobile 4) { stage = Connected; zero = link (hex "06 27 71" ∷ []) }
connects_with_paging_response = refl

no_message_is_refused_not : refusal_of_connect None ≡ None
no_message_is_refused_not = refl

service_request_is_refused_not : refusal_of_connect (Some (hex "05 24 71")) ≡ None
service_request_is_refused_not = refl

initial_is_refused : refusal_of_connect (Some (hex "03 05")) ≡ Some BadMessage
initial_is_refused = refl

numbered_by_place : after_queue (mobile idle_link idle_link) Zero (hex "03 0f") ≡
    record (mobile (link (hex "03 8f" ∷ [])) idle_link) { sent = hex "05 24" ∷ hex "03 05" ∷ hex "03 0f" ∷ [] }
numbered_by_place = refl

not_of_the_flow : after_queue (mobile idle_link idle_link) Zero (hex "08 0f") ≡ mobile (link (hex "08 0f" ∷ [])) idle_link
not_of_the_flow = refl

short_message_waits : after_queue (mobile idle_link idle_link) Three (hex "09 0f") ≡ mobile idle_link (link (hex "09 0f" ∷ []))
short_message_waits = refl

not_connected_first : refusal_of_send (new_mobile 4) Zero [] ≡ Some NotConnected
not_connected_first = refl

bad_message : refusal_of_send (mobile idle_link idle_link) Zero (hex "06 27") ≡ Some BadMessage
bad_message = refl

accepted : refusal_of_send (moving idle_link idle_link) Zero (hex "03 0f") ≡ None
accepted = refl

frame_before_connect : frame_answer (new_mobile 4) Zero ≡ Err NotConnected
frame_before_connect = refl

frame_between_channels : frame_answer (moving (link (hex "03 45" ∷ [])) idle_link) Zero ≡ Ok None
frame_between_channels = refl

state_between_channels : after_frame (moving (link (hex "03 45" ∷ [])) idle_link) Zero ≡ moving (link (hex "03 45" ∷ [])) idle_link
state_between_channels = refl

frame_of_sapi_zero : frame_answer (mobile (link (hex "03 45" ∷ [])) (link (hex "09 01" ∷ []))) Zero ≡ Ok (Some (hex "03 45"))
frame_of_sapi_zero = refl

frame_of_sapi_three : frame_answer (mobile (link (hex "03 45" ∷ [])) (link (hex "09 01" ∷ []))) Three ≡ Ok (Some (hex "09 01"))
frame_of_sapi_three = refl

frame_taken_on_sapi_three : after_frame (mobile reached_zero (link (hex "09 01" ∷ []))) Three ≡ mobile reached_zero reached_three
frame_taken_on_sapi_three = refl

frame_comes_once : frame_answer (mobile reached_zero idle_link) Zero ≡ Ok None
frame_comes_once = refl

acknowledged_on_sapi_zero : is_acknowledged (mobile reached_zero idle_link) Zero ≡ true
acknowledged_on_sapi_zero = refl

nothing_on_sapi_three : is_acknowledged (mobile reached_zero idle_link) Three ≡ false
nothing_on_sapi_three = refl

not_between_channels : is_acknowledged (moving reached_zero reached_three) Zero ≡ false
not_between_channels = refl

free_on_sapi_zero : after_acked (mobile reached_zero reached_three) Zero ≡ mobile (link (hex "0b 7b" ∷ [])) reached_three
free_on_sapi_zero = refl

kept_between_channels : after_acked (moving reached_zero reached_three) Zero ≡ moving reached_zero reached_three
kept_between_channels = refl

left : after_leave (mobile reached_zero reached_three) ≡ moving reached_zero reached_three
left = refl

arrived : after_arrival (moving reached_zero reached_three) (hex "06 2c 00") ≡
    mobile (record {
      waiting = hex "03 45" ∷ hex "0b 7b"
          ∷ [];
      air = Given (hex "06 2c 00");
    }) (record { waiting = []; air = Given (hex "09 01") })
arrived = refl

-- ---- lives of a mobile

-- it takes a message, arrives on another channel, takes it again there and another one, and returns
abbrev life : List Call
life =
    connects None ∷ sends Zero (hex "03 05") ∷ frames Zero ∷ leaves ∷ frames Zero
    ∷ arrives (hex "06 29 00") ∷ frames Zero ∷ acknowledges Zero ∷ frames Zero ∷ acknowledges Zero
    ∷ sends Zero (hex "03 0f") ∷ frames Zero ∷ leaves
    ∷ gives_up (hex "06 28 03") ∷ frames Zero ∷ acknowledges Zero ∷ frames Zero ∷ []

taken_in_life : taken_by_calls (new_mobile 4) life ≡
    hex "03 05" ∷ hex "06 29 00" ∷ hex "03 05" ∷ hex "03 4f" ∷ hex "06 28 03" ∷ hex "03 4f" ∷ []
taken_in_life = refl

sent_in_life : (after_calls (new_mobile 4) life).sent ≡ hex "03 05" ∷ hex "03 0f" ∷ []
sent_in_life = refl

establishments_of_life : establishments (new_mobile 4) [] life ≡
    (hex "03 05" ∷ [])
    ∷ (hex "06 29 00" ∷ hex "03 05" ∷ hex "03 4f" ∷ [])
    ∷ (hex "06 28 03" ∷ hex "03 4f" ∷ []) ∷ []
establishments_of_life = refl

each_repeats_the_last : OneRepeat 4 (hex "03 05" ∷ hex "03 0f" ∷ []) 0
    ((hex "03 05" ∷ []) ∷ (hex "06 29 00" ∷ hex "03 05" ∷ hex "03 4f" ∷ []) ∷ (hex "06 28 03" ∷ hex "03 4f" ∷ []) ∷ [])
each_repeats_the_last =
    repeats {p = 0} (omega arith) (record { begins = omega arith; ends = omega arith; taken = refl })
    (repeats {p = 1} (omega arith) (record { begins = omega arith; ends = omega arith; taken = refl })
    (carries_on {e = 2} (record { begins = omega arith; ends = omega arith; taken = refl }) (ended 2)))

acknowledged_in_life : acknowledgements (new_mobile 4) [] life ≡
    [] ∷ (hex "06 29 00" ∷ hex "03 05" ∷ []) ∷ (hex "06 28 03" ∷ []) ∷ []
acknowledged_in_life = refl

each_begins_unacknowledged : RepeatsUnacknowledged 4 (hex "03 05" ∷ hex "03 0f" ∷ []) 0
    ((hex "03 05" ∷ []) ∷ (hex "06 29 00" ∷ hex "03 05" ∷ hex "03 4f" ∷ []) ∷ (hex "06 28 03" ∷ hex "03 4f" ∷ []) ∷ [])
    ([] ∷ (hex "06 29 00" ∷ hex "03 05" ∷ []) ∷ (hex "06 28 03" ∷ []) ∷ [])
each_begins_unacknowledged =
    one_by_one {e = 1} {a = 0} (record { begins = omega arith; ends = omega arith; taken = refl }) (record { begins = omega arith; ends = omega arith; taken = refl }) (omega arith) (omega arith)
    (one_by_one {e = 2} {a = 1} (record { begins = omega arith; ends = omega arith; taken = refl }) (record { begins = omega arith; ends = omega arith; taken = refl }) (omega arith) (omega arith)
    (one_by_one {e = 2} {a = 1} (record { begins = omega arith; ends = omega arith; taken = refl }) (record { begins = omega arith; ends = omega arith; taken = refl }) (omega arith) (omega arith)
    (none_left 1)))

taken_behind_service_request : taken_by_calls (new_mobile 4) (connects (Some (hex "05 24 71"))
    ∷ sends Zero (hex "03 05") ∷ frames Zero ∷ acknowledges Zero ∷ frames Zero ∷ []) ≡
    hex "05 24 71" ∷ hex "03 45" ∷ []
taken_behind_service_request = refl

taken_behind_paging_response : taken_by_calls (new_mobile 4) (connects (Some (hex "06 27 71"))
    ∷ sends Zero (hex "03 05") ∷ frames Zero ∷ acknowledges Zero ∷ frames Zero ∷ []) ≡
    hex "06 27 71" ∷ hex "03 05" ∷ []
taken_behind_paging_response = refl

-- a short message is taken on SAPI 3, also again on another channel, and the rest on SAPI 0
abbrev life_on_both : List Call
life_on_both =
    connects None ∷ sends Three (hex "09 01") ∷ sends Zero (hex "03 05") ∷ sends Three (hex "03 0f") ∷ frames Three ∷ frames Zero ∷ leaves
    ∷ acknowledges Three ∷ arrives (hex "06 29 00") ∷ frames Three ∷ frames Zero ∷ acknowledges Three ∷ frames Three ∷ []

taken_on_three : taken_on_three_by_calls (new_mobile 4) life_on_both ≡ hex "09 01" ∷ hex "09 01" ∷ []
taken_on_three = refl

taken_on_zero : taken_by_calls (new_mobile 4) life_on_both ≡ hex "03 05" ∷ hex "06 29 00" ∷ []
taken_on_zero = refl

numbers_go_round : (after_calls (new_mobile 4) (connects None ∷ replicate 6 (sends Zero (hex "03 01")))).zero.waiting ≡
    hex "03 01" ∷ hex "03 41" ∷ hex "03 81" ∷ hex "03 c1" ∷ hex "03 01" ∷ hex "03 41" ∷ []
numbers_go_round = refl

numbers_of_two_go_round : (after_calls (new_mobile (count_of Two)) (connects None ∷ replicate 4 (sends Zero (hex "03 01")))).zero.waiting ≡
    hex "03 01" ∷ hex "03 41" ∷ hex "03 01" ∷ hex "03 41" ∷ []
numbers_of_two_go_round = refl

refused_calls : after_calls (new_mobile 4) (sends Zero (hex "03 05") ∷ connects (Some (hex "03 05"))
    ∷ arrives (hex "06 29 00") ∷ frames Zero ∷ [])
    ≡ new_mobile 4
refused_calls = refl

second_connect : after_calls (new_mobile 4) (connects None ∷ connects (Some (hex "05 24")) ∷ [])
    ≡ record (new_mobile 4) { stage = Connected }
second_connect = refl

-- ---- a link that continues

abbrev two_messages : List (List ℕ)
two_messages = hex "05 24" ∷ hex "03 05" ∷ []

place_0 : Carries 4 two_messages 0 (hex "05 24")
place_0 = record { message = hex "05 24"; is_sent = refl; is_clear = record { is_flow = refl; cleared = refl }; carries = refl }

place_1 : Carries 4 two_messages 1 (hex "03 45")
place_1 = record { message = hex "03 05"; is_sent = refl; is_clear = record { is_flow = refl; cleared = refl }; carries = refl }

-- the station took the first message, which is sent again on another channel; the second one waits
link_in_the_middle : RunsToEnd 4 two_messages (hex "05 24" ∷ []) (record { waiting = hex "03 45" ∷ []; air = Reached (hex "05 24") })
link_in_the_middle = record { now = next place_0 (next place_1 (over 2)); anew = next place_0 (again refl place_0 (next place_1 (over 2))) }

-- a link that gives nothing more doesn't go on to the end of the sent list
link_too_short : RunsToEnd 4 two_messages [] (record { waiting = []; air = Empty }) → ⊥
link_too_short going = none going.now
  where
    none : Rise 4 two_messages 0 [] 2 → ⊥
    none rise = elim rise [ ]
