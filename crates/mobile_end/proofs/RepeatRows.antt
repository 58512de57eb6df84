-- SPDX-License-Identifier: MIT OR Apache-2.0
-- The rule on repeats refuses a mobile that skips the unacknowledged message.
use Rattle.std.proofs.Common.{◌≡◌, ℕ, ◌-◌, zero, suc, List, [], ◌∷◌, filter, get_or, refl, subst, ap, arith, take}
use Rattle.dtap_codec.specs.Message.{is_flow_message}
use Rattle.dtap_codec.specs.Places.{with_numbers_from}
use Rattle.octets.proofs.Hex.{hex}
use Rattle.mobile_end.specs.OneRepeat.{IsSlice}
use Rattle.mobile_end.specs.Unacknowledged.{RepeatsUnacknowledged}
use Rattle.mobile_end.specs.Unacknowledged.RepeatsUnacknowledged.{next}

abbrev sent : List (List ℕ)
sent = hex "03 05" ∷ hex "03 0f" ∷ []

none_is_some : {x : List ℕ} {xs : List (List ℕ)} → [] ≡ x ∷ xs → ⊥
none_is_some is = absurd cc

some_is_none : {x : List ℕ} {xs : List (List ℕ)} → x ∷ xs ≡ [] → ⊥
some_is_none is = absurd cc

same_first : {x y : List ℕ} {xs ys : List (List ℕ)} → x ∷ xs ≡ y ∷ ys → x ≡ y
same_first is = cc

-- a slice from place 0 on, by its count
counted : (e : ℕ) (xs : List (List ℕ)) → IsSlice 4 sent 0 e xs → filter is_flow_message xs ≡ with_numbers_from 4 0 (take e sent)
counted e xs slice =
    let same : e - 0 ≡ e = omega arith in
    subst (λ (n : ℕ). filter is_flow_message xs ≡ with_numbers_from 4 0 (take n sent)) same slice.taken

-- that of no message is empty, and none begins with number 1
none_acknowledged : (a : ℕ) → IsSlice 4 sent 0 a [] → a ≡ 0
none_acknowledged zero slice = refl
none_acknowledged (suc a) slice = absurd (none_is_some (counted (suc a) [] slice))

not_the_second : (e : ℕ) → IsSlice 4 sent 0 e (hex "03 4f" ∷ []) → ⊥
not_the_second zero slice = some_is_none slice.taken
not_the_second (suc e) slice =
    let octet : 79 ≡ 5 = ap (λ (message : List ℕ). get_or message 1 0) (same_first (counted (suc e) (hex "03 4f" ∷ []) slice)) in
    omega (arith, octet)

passed_over : RepeatsUnacknowledged 4 sent 0 ((hex "03 05" ∷ []) ∷ (hex "03 4f" ∷ []) ∷ []) ([] ∷ [] ∷ []) → ⊥
passed_over (next {a = a} first none le short (next {e = e} second other le_too short_too rest)) =
    not_the_second e (subst (λ (b : ℕ). IsSlice 4 sent b e (hex "03 4f" ∷ [])) (none_acknowledged a none) second)
