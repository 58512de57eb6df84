-- SPDX-License-Identifier: MIT OR Apache-2.0
-- The definitions at literal octets. The table has an identifier of each format: 01 with a value of
-- one octet, 0B with two length octets, 1A with one.
use Rattle.std.proofs.Common.{◌≡◌, ℕ, List, [], ◌∷◌, map, length, replicate, true, false, Option, Some, None, Result, Ok, Err, inl, inr, refl, arith}
use Rattle.octets.proofs.Hex.{hex, octets_in}
use Rattle.octets.specs.declared.element.Entry.{Entry}
use Rattle.octets.specs.declared.element.Format.TheVariants.{Tv, Tlv, TlvE}
use Rattle.octets.specs.declared.limits.TheConstants.{LENGTH_LIMIT, MESSAGE_LIMIT}
use Rattle.octets.specs.Answer.{Gives}
use Rattle.octets.specs.Causes.{first_that_holds}
use Rattle.octets.specs.Element.{element}
use Rattle.octets.specs.Field.{field, fields_text, are_distinct}
use Rattle.octets.specs.Front.{octet_at, split_at, counted_at, counted_text}
use Rattle.octets.specs.Refusal.{first_refusal, RefusesBy}
use Rattle.octets.specs.Walk.{walk, finding, first_of}

abbrev table : List Entry
table = record { id = 0x01; format = Tv 1 } ∷ record { id = 0x0b; format = TlvE } ∷ record { id = 0x1a; format = Tlv } ∷ []

-- ---- the walk

each_format : walk table (hex "01 41 0b 00 02 03 45 1a 01 60") ≡
    finding (element 0x01 (hex "41") ∷ element 0x0b (hex "03 45") ∷ element 0x1a (hex "60") ∷ []) false
unfolding walk
each_format = refl

value_cut : walk table (hex "01 41 1a 02 60") ≡ finding (element 0x01 (hex "41") ∷ []) true
unfolding walk
value_cut = refl

length_cut : walk table (hex "0b 00") ≡ finding [] true
unfolding walk
length_cut = refl

identifier_alone : walk table (hex "01") ≡ finding [] true
unfolding walk
identifier_alone = refl

-- the high octet of a length is first: 258 octets are said to follow
long_length : walk table (hex "0b 01 02 03") ≡ finding [] true
unfolding walk
long_length = refl

stops_at_unknown : walk table (hex "1a 00 02 01 41") ≡ finding (element 0x1a [] ∷ []) false
unfolding walk
stops_at_unknown = refl

nothing : walk table [] ≡ finding [] false
unfolding walk
nothing = refl

first_of_two : first_of 0x01 (element 0x0b (hex "07") ∷ element 0x01 (hex "41") ∷ element 0x01 (hex "42") ∷ []) ≡ Some (hex "41")
first_of_two = refl

none_found : first_of 0x02 (element 0x0b (hex "02") ∷ []) ≡ None
none_found = refl

-- ---- fields

written : fields_text table (field 0x1a (Some (hex "60 61")) ∷ field 0x01 None
    ∷ field 0x0b (Some (hex "03")) ∷ field 0x01 (Some (hex "41")) ∷ []) ≡
    hex "1a 02 60 61 0b 00 01 03 01 41"
written = refl

apart : are_distinct (field 0x1a None ∷ field 0x01 None ∷ []) ≡ true
apart = refl

alike : are_distinct (field 0x1a None ∷ field 0x01 None ∷ field 0x1a (Some []) ∷ []) ≡ false
alike = refl

-- ---- fronts, with a fault

abbrev fault : ℕ
fault = 7

abbrev refused : {A : Type 0} → Result A ℕ
refused = Err fault

one_octet : octet_at fault (hex "05 24") ≡ Ok (0x05, hex "24")
unfolding octet_at
one_octet = refl

no_octet : octet_at fault [] ≡ refused
unfolding octet_at
no_octet = refl

all_of_two : split_at fault 2 (hex "05 24") ≡ Ok (hex "05 24", [])
all_of_two = refl

one_of_two : split_at fault 1 (hex "05 24") ≡ Ok (hex "05", hex "24")
one_of_two = refl

three_of_two : split_at fault 3 (hex "05 24") ≡ refused
three_of_two = refl

counted_two : counted_at fault (hex "02 05 24 71") ≡ Ok (hex "05 24", hex "71")
unfolding counted_at octet_at
counted_two = refl

counted_cut : counted_at fault (hex "02 05") ≡ refused
unfolding counted_at octet_at
counted_cut = refl

counted_text_of_two : counted_text (hex "05 24") ≡ hex "02 05 24"
counted_text_of_two = refl

-- ---- limits

message_limit : MESSAGE_LIMIT ≡ 251
message_limit = refl

length_limit : LENGTH_LIMIT ≡ 255
length_limit = refl

-- ---- refusals

earlier : first_refusal {F = ℕ} (Some 1) (Some 2) ≡ Some 1
earlier = refl

later : first_refusal {F = ℕ} None (Some 2) ≡ Some 2
later = refl

first_cause : first_that_holds {F = ℕ} ((false, 1) ∷ (true, 2) ∷ (true, 3) ∷ []) ≡ Some 2
first_cause = refl

no_cause : first_that_holds {F = ℕ} ((false, 1) ∷ (false, 2) ∷ []) ≡ None
no_cause = refl

-- ---- what a call answers, against what octets are read as: 0 is want of memory, 7 and 8 are faults

abbrev memory : ℕ
memory = 0

-- a call that gives octets, and a reading of how many there are
abbrev gives : Result (List ℕ) ℕ → Result ℕ ℕ → Type 0
gives = Gives memory length

gives_what_is_read : gives (Ok (hex "05 24")) (Ok 2)
gives_what_is_read = refl

gives_another : gives (Ok (hex "05 24")) (Ok 3) → ⊥
gives_another is = absurd (cc is)

gives_what_is_refused : gives (Ok (hex "05 24")) (Err 7) → ⊥
gives_what_is_refused is = absurd (cc is)

gives_where_memory_is_the_fault : gives (Ok (hex "05 24")) (Err memory) → ⊥
gives_where_memory_is_the_fault is = absurd (cc is)

gives_the_fault : gives (Err 7) (Err 7)
gives_the_fault = inl refl

gives_another_fault : gives (Err 7) (Err 8) → ⊥
gives_another_fault (inl is) = absurd (cc is)
gives_another_fault (inr is) = omega (arith, is.0)

gives_a_fault_of_what_is_read : gives (Err 7) (Ok 2) → ⊥
gives_a_fault_of_what_is_read (inl is) = absurd (cc is)
gives_a_fault_of_what_is_read (inr is) = omega (arith, is.0)

runs_out_where_it_is_read : gives (Err memory) (Ok 2)
runs_out_where_it_is_read = inr (refl, refl)

runs_out_where_it_is_refused : gives (Err memory) (Err 7) → ⊥
runs_out_where_it_is_refused (inl is) = absurd (cc is)
runs_out_where_it_is_refused (inr is) = absurd (cc is.1)

-- ---- what a call answers, against its first cause of refusal

abbrev refuses_by : Result (List ℕ) ℕ → Option ℕ → Type 0
refuses_by = RefusesBy memory

answers_without_cause : refuses_by (Ok (hex "05")) None
answers_without_cause = refl

answers_with_a_cause : refuses_by (Ok (hex "05")) (Some 7) → ⊥
answers_with_a_cause is = absurd (cc is)

refuses_by_the_first : refuses_by (Err 7) (Some 7)
refuses_by_the_first = inl refl

refuses_by_another : refuses_by (Err 7) (Some 8) → ⊥
refuses_by_another (inl is) = absurd (cc is)
refuses_by_another (inr is) = omega (arith, is.0)

refuses_without_cause : refuses_by (Err 7) None → ⊥
refuses_without_cause (inl is) = absurd (cc is)
refuses_without_cause (inr is) = omega (arith, is.0)

runs_out_without_cause : refuses_by (Err memory) None
runs_out_without_cause = inr (refl, refl)

runs_out_before_a_cause : refuses_by (Err memory) (Some 7) → ⊥
runs_out_before_a_cause (inl is) = absurd (cc is)
runs_out_before_a_cause (inr is) = absurd (cc is.1)

-- ---- octets as text

apart_by_spaces : hex "0c 16 01 90" ≡ hex "0c 16 01 90"
apart_by_spaces = refl

without_spaces : hex "0c160190" ≡ hex " 0c16  01 90 "
without_spaces = refl

no_text : hex "" ≡ []
no_text = refl

each_digit : hex "01 23 45 67 89 ab cd ef" ≡ hex "01 23 45 67 89 ab cd ef"
each_digit = refl

upper_case : hex "AB CD EF Ab cD" ≡ hex "ab cd ef ab cd"
upper_case = refl

a_digit_alone : map octets_in ("0" ∷ "0c1" ∷ "0c 1" ∷ "0 c1" ∷ "0 c" ∷ []) ≡ replicate 5 None
a_digit_alone = refl

no_digits : map octets_in ("0/" ∷ "0:" ∷ "@0" ∷ "G0" ∷ "0`" ∷ "0c g0" ∷ "0x" ∷ "0,0" ∷ []) ≡ replicate 8 None
no_digits = refl
