-- SPDX-License-Identifier: MIT OR Apache-2.0
-- Definitions against literal numbers and octets.
use Rattle.std.proofs.Common.{◌≡◌, ◌≢◌, ℕ, ◌+◌, ◌%◌, ◌<◌, ◌==◌, Bool, true, false, cond, List, [], ◌∷◌, map, Option, Some, None, refl, arith}
use Rattle.std.proofs.lemmas.Bool.{eqb-false}
use Rattle.octets.proofs.Hex.{hex}
use Rattle.dtap_codec.specs.Number.{count_of}
use Rattle.dtap_codec.specs.declared.number.Modulus.TheVariants.{Two}
use Rattle.nsd_filter.specs.declared.verdict.Verdict.{Verdict}
use Rattle.nsd_filter.specs.declared.verdict.Verdict.TheVariants.{Accept, Duplicate, Gap}
use Rattle.nsd_filter.specs.AcceptedList.{accepted_list, progress, delivery_by, not_of_the_flow}
use Rattle.nsd_filter.specs.Filter.{IsStateOf}
use Rattle.nsd_filter.specs.Judgement.{judgement, progress_after}

-- ---- the verdicts on the numbers 0 to 3

abbrev verdicts : Option ℕ → List Verdict
verdicts progress = map (judgement 4 progress) (0 ∷ 1 ∷ 2 ∷ 3 ∷ [])

at_first : verdicts (Some 0) ≡ Accept ∷ Gap ∷ Gap ∷ Duplicate ∷ []
at_first = refl

after_one : verdicts (Some 1) ≡ Duplicate ∷ Accept ∷ Gap ∷ Gap ∷ []
after_one = refl

after_two : verdicts (Some 2) ≡ Gap ∷ Duplicate ∷ Accept ∷ Gap ∷ []
after_two = refl

after_seven : verdicts (Some 7) ≡ Gap ∷ Gap ∷ Duplicate ∷ Accept ∷ []
after_seven = refl

after_a_gap : verdicts None ≡ Gap ∷ Gap ∷ Gap ∷ Gap ∷ []
after_a_gap = refl

-- ---- the progress of the flow then

accepts_one_more : progress_after 4 (Some 7) 3 ≡ Some 8
accepts_one_more = refl

drops_duplicate : progress_after 4 (Some 7) 2 ≡ Some 7
drops_duplicate = refl

ends_at_gap : progress_after 4 (Some 7) 1 ≡ None
ends_at_gap = refl

stays_at_gap : progress_after 4 None 0 ≡ None
stays_at_gap = refl

next_number : IsStateOf (record { modulus = 4; expected = Some 3 }) (Some 7)
next_number = refl

no_number : IsStateOf (record { modulus = 4; expected = None }) None
no_number = refl

-- ---- modulo 2: no number shows a gap

abbrev verdicts_of_two : Option ℕ → List Verdict
verdicts_of_two progress = map (judgement (count_of Two) progress) (0 ∷ 1 ∷ [])

two_at_first : verdicts_of_two (Some 0) ≡ Accept ∷ Duplicate ∷ []
two_at_first = refl

two_after_one : verdicts_of_two (Some 1) ≡ Duplicate ∷ Accept ∷ []
two_after_one = refl

two_after_eight : verdicts_of_two (Some 8) ≡ Accept ∷ Duplicate ∷ []
two_after_eight = refl

-- the verdicts on numbers that follow one another
abbrev in_turn : ℕ → Option ℕ → List ℕ → List Verdict
in_turn m progress [] = []
in_turn m progress (number ∷ numbers) = judgement m progress number ∷ in_turn m (progress_after m progress number) numbers

two_in_turn : in_turn (count_of Two) (Some 0) (1 ∷ 0 ∷ 0 ∷ 1 ∷ []) ≡ Duplicate ∷ Accept ∷ Duplicate ∷ Accept ∷ []
two_in_turn = refl

by_tests : (a d : Bool) (accepted number : ℕ) → number < 2 → (number == accepted % 2) ≡ a → (number == (accepted + 1) % 2) ≡ d →
    cond a Accept (cond d Duplicate Gap) ≢ Gap
by_tests true d accepted number within next before = λ e. absurd cc
by_tests false true accepted number within next before = λ e. absurd cc
by_tests false false accepted number within next before =
    let not_next : number ≢ accepted % 2 = eqb-false number (accepted % 2) next in
    let not_before : number ≢ (accepted + 1) % 2 = eqb-false number ((accepted + 1) % 2) before in
    absurd (omega arith)

two_has_no_gap : (accepted number : ℕ) → number < count_of Two → judgement (count_of Two) (Some accepted) number ≢ Gap
two_has_no_gap accepted number within =
    by_tests (number == accepted % 2) (number == (accepted + 1) % 2) accepted number within refl refl

-- ---- the accepted list, with a message that isn't of the flow and one that arrived twice

abbrev taken : List (List ℕ)
taken = hex "06 27 71" ∷ hex "05 24 71" ∷ hex "03 45" ∷ hex "03 45" ∷ []

accepted_of_taken : accepted_list 4 taken ≡ hex "05 24 71" ∷ hex "03 05" ∷ []
accepted_of_taken = refl

progress_of_taken : progress 4 taken ≡ Some 2
progress_of_taken = refl

unnumbered_of_taken : not_of_the_flow taken ≡ hex "06 27 71" ∷ []
unnumbered_of_taken = refl

-- one octet has no number, whatever its protocol, and neither has none
unnumbered_of_one_octet : not_of_the_flow (hex "08" ∷ hex "03" ∷ [] ∷ hex "05 24" ∷ hex "09 01 02" ∷ [])
    ≡ hex "08" ∷ hex "03" ∷ [] ∷ hex "09 01 02" ∷ []
unnumbered_of_one_octet = refl

-- number 2 where 1 is due: nothing more is accepted, neither it nor what follows
abbrev with_gap : List (List ℕ)
with_gap = hex "05 24 71" ∷ hex "03 85" ∷ hex "03 45" ∷ []

accepted_before_gap : accepted_list 4 with_gap ≡ hex "05 24 71" ∷ []
accepted_before_gap = refl

no_progress_past_gap : progress 4 with_gap ≡ None
no_progress_past_gap = refl

-- number 0 follows 3
abbrev round : List (List ℕ)
round = hex "05 01" ∷ hex "03 42" ∷ hex "0b 83" ∷ hex "05 c4" ∷ hex "03 05" ∷ []

accepted_of_round : accepted_list 4 round ≡ hex "05 01" ∷ hex "03 02" ∷ hex "0b 03" ∷ hex "05 04" ∷ hex "03 05" ∷ []
accepted_of_round = refl

-- modulo 2 in a message that arrived twice; bit 8 isn't looked at
accepted_of_two : accepted_list (count_of Two) (hex "05 24 71" ∷ hex "03 45" ∷ hex "03 c5" ∷ hex "03 8f" ∷ [])
    ≡ hex "05 24 71" ∷ hex "03 05" ∷ hex "03 0f" ∷ []
accepted_of_two = refl

deliveries : map (λ verdict. delivery_by verdict (hex "03 05")) (Accept ∷ Duplicate ∷ Gap ∷ []) ≡ (hex "03 05" ∷ []) ∷ [] ∷ [] ∷ []
deliveries = refl
