-- SPDX-License-Identifier: MIT OR Apache-2.0
-- Rows: for which N(SD) the mobile is blamed.
use Rattle.std.proofs.Common.{◌≡◌, ℕ, List, [], ◌∷◌, ◌++◌, Option, Some, None, option_map, refl}
use Rattle.octets.proofs.Hex.{hex}
use Rattle.conn_messages.specs.declared.channel.Change.TheVariants.{Handover}
use Rattle.dtap_codec.specs.declared.sapi.Sapi.TheVariants.{Zero, Three}
use Rattle.run_judge.specs.declared.fault.Fault.TheVariants as faults
use Rattle.run_judge.specs.declared.flow.Order.TheVariants.{Faulty}
use Rattle.run_judge.specs.declared.said.Said.{Said}
use Rattle.run_judge.specs.declared.said.Said.TheVariants as says
use Rattle.run_judge.specs.Judging.{Judging, after_all, after_hole, new_judging}
use Rattle.run_judge.proofs.Lives.{first, second, numbered_from, life, up_of, due, initial, one, two, three, begins, commanded, moved}

-- ---- the mobile's numbers, in messages that come on the first channel and are passed on
abbrev mobile_of : ℕ → Judging → Option (Option ℕ)
mobile_of reference j = option_map (λ c. c.mobile) (j.connections reference)

abbrev sends : List ℕ → List Said
sends message = says.Brings first Zero message ∷ says.Passes 90 Zero message ∷ []

-- frames 1 to 4, and two frames for each message
abbrev sends_all : List (List ℕ) → List Said
sends_all [] = []
sends_all (message ∷ messages) = sends message ++ sends_all messages

abbrev mobile_behind : List (List ℕ) → Option (Option ℕ)
mobile_behind messages = mobile_of 7 (life (begins first initial 7 90 ++ sends_all messages))

-- messages with the number 0, and with the number 1 and other octets; one of short messages
abbrev zero : List ℕ
zero = hex "03 05"

abbrev another_one : List ℕ
another_one = hex "03 4f"

abbrev short_message : List ℕ
short_message = hex "09 c1"

numbers_in_order : mobile_behind (one ∷ two ∷ three ∷ zero ∷ another_one ∷ []) ≡ Some None
numbers_in_order = refl

has_no_number : mobile_behind (short_message ∷ one ∷ short_message ∷ two ∷ []) ≡ Some None
has_no_number = refl

leaves_out_a_number : mobile_behind (two ∷ []) ≡ Some (Some 6)
leaves_out_a_number = refl

leaves_out_two_numbers : mobile_behind (one ∷ zero ∷ []) ≡ Some (Some 8)
leaves_out_two_numbers = refl

-- its last message it may repeat
repeats_its_last_message : mobile_behind (one ∷ one ∷ one ∷ two ∷ []) ≡ Some None
repeats_its_last_message = refl

repeats_its_initial_message : mobile_behind (initial ∷ one ∷ []) ≡ Some None
repeats_its_initial_message = refl

-- but no other one, nor may another message have the same number
repeats_the_last_but_one : mobile_behind (one ∷ two ∷ one ∷ []) ≡ Some (Some 10)
repeats_the_last_but_one = refl

repeats_behind_a_short_message : mobile_behind (one ∷ short_message ∷ one ∷ []) ≡ Some (Some 10)
repeats_behind_a_short_message = refl

gives_a_number_twice : mobile_behind (one ∷ another_one ∷ []) ≡ Some (Some 8)
gives_a_number_twice = refl

gives_the_initial_number_twice : mobile_behind (zero ∷ []) ≡ Some (Some 6)
gives_the_initial_number_twice = refl

-- the first fault stays
numbers_wrongly_twice : mobile_behind (two ∷ one ∷ another_one ∷ []) ≡ Some (Some 6)
numbers_wrongly_twice = refl

-- modulo 2
numbers_modulo_2 : mobile_of 7 (after_all (new_judging 2 []) (numbered_from 1 (begins first initial 7 90 ++ sends_all (one ∷ two ∷ three ∷ [])))) ≡ Some None
numbers_modulo_2 = refl

gives_a_number_twice_modulo_2 : mobile_of 7 (after_all (new_judging 2 []) (numbered_from 1 (begins first initial 7 90 ++ sends_all (one ∷ three ∷ [])))) ≡ Some (Some 8)
gives_a_number_twice_modulo_2 = refl

-- of SAPI 3
wrong_on_sapi_3 : mobile_of 7 (life (begins first initial 7 90 ++ says.Brings first Three two ∷ says.Passes 90 Three two ∷ [])) ≡ Some (Some 6)
wrong_on_sapi_3 = refl

right_on_sapi_3 : mobile_of 7 (life (begins first initial 7 90 ++ says.Brings first Three one ∷ says.Passes 90 Three one ∷ [])) ≡ Some None
right_on_sapi_3 = refl

-- of the other SAPI it isn't the last message
repeats_on_sapi_3 : mobile_of 7 (life (begins first initial 7 90 ++ sends one ++ says.Brings first Three one ∷ says.Passes 90 Three one ∷ [])) ≡ Some (Some 8)
repeats_on_sapi_3 = refl

-- what the controller lost, overtook, doubled or made up isn't the mobile's fault
lost_by_controller : mobile_of 7 (life (moved ++ says.Passes 90 Zero three ∷ says.Passes 90 Zero two ∷ [])) ≡ Some None
lost_by_controller = refl

doubled_by_controller : mobile_of 7 (life (begins first initial 7 90 ++ sends_all (one ∷ two ∷ []) ++ says.Passes 90 Zero one ∷ [])) ≡ Some None
doubled_by_controller = refl

made_up_by_controller : mobile_of 7 (life (begins first initial 7 90 ++ says.Passes 90 Zero one ∷ sends one)) ≡ Some None
made_up_by_controller = refl

-- behind the controller's fault none of the mobile's is seen, and one before it stays
behind_the_controllers : mobile_of 7 (life (begins first initial 7 90 ++ sends one ++ says.Passes 90 Zero one ∷ sends three)) ≡ Some None
behind_the_controllers = refl

before_the_controllers : mobile_of 7 (life (begins first initial 7 90 ++ sends two ++ says.Passes 90 Zero two ∷ [])) ≡ Some (Some 6)
before_the_controllers = refl

-- the message before it comes on the old channel later still: it was lost
abbrev before_it_comes : List Said
before_it_comes = commanded ++ says.Completes second Handover ∷ says.Brings second Zero three ∷ says.Passes 90 Zero three ∷ []

blamed_before_it_comes : mobile_of 7 (life (before_it_comes ++ says.Brings first Zero two ∷ [])) ≡ Some (Some 11)
blamed_before_it_comes = refl

lost_when_it_comes : up_of 7 (life (before_it_comes ++ says.Brings first Zero two ∷ [])) ≡ Some (Faulty (faults.Lost (due 0 two 12) 11))
lost_when_it_comes = refl

-- a late copy of a message that was passed on, which may be passed on too
copy_at_once : mobile_of 7 (life (commanded ++ says.Completes second Handover ∷ says.Brings second Zero two ∷ says.Passes 90 Zero two ∷ says.Brings first Zero two ∷ says.Passes 90 Zero two ∷ [])) ≡ Some None
copy_at_once = refl

copy_behind_another : mobile_of 7 (life (commanded ++ says.Completes second Handover ∷ says.Brings second Zero two ∷ says.Passes 90 Zero two ∷ says.Brings second Zero three ∷ says.Passes 90 Zero three ∷ says.Brings first Zero two ∷ says.Passes 90 Zero two ∷ [])) ≡ Some (Some 15)
copy_behind_another = refl

-- nothing is seen behind a hole, nor behind CLEAR COMPLETE
numbers_behind_hole : mobile_of 7 (after_all (after_hole 5 (life (begins first initial 7 90))) (numbered_from 5 (sends two))) ≡ Some None
numbers_behind_hole = refl

numbers_behind_clear : mobile_of 7 (life (begins first initial 7 90 ++ says.Brings first Zero two ∷ says.Clears 90 ∷ says.Passes 90 Zero two ∷ [])) ≡ Some None
numbers_behind_clear = refl

-- the initial message has the number 0, by the frame of the CR
abbrev mobile_begun_by : List ℕ → Option (Option ℕ)
mobile_begun_by message = mobile_of 7 (life (begins first message 7 90))

begins_with_0 : mobile_begun_by (hex "05 24 01") ≡ Some None
begins_with_0 = refl

begins_with_1 : mobile_begun_by (hex "05 64 01") ≡ Some (Some 3)
begins_with_1 = refl

begins_with_3 : mobile_begun_by (hex "05 e4 01") ≡ Some (Some 3)
begins_with_3 = refl

begins_without_number : mobile_begun_by (hex "06 64 01") ≡ Some None
begins_without_number = refl

-- nobody saw a mobile send it
begins_nowhere_with_1 : mobile_of 7 (life (says.Establishes first initial ∷ says.Requests 7 one ∷ [])) ≡ Some None
begins_nowhere_with_1 = refl
