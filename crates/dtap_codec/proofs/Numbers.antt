-- SPDX-License-Identifier: MIT OR Apache-2.0
-- Lemmas on the send sequence number, over plain lists.
use Rattle.std.proofs.Common.{◌≡◌, ℕ, ◌+◌, ◌*◌, ◌/◌, ◌%◌, ◌<◌, ◌≤◌, true, false, Some, None, List, [], ◌∷◌, ◌++◌, length, refl, ap, ◌∙◌, arith}
use Rattle.std.proofs.Math.Nat.{mod-eq_of_lt}
use Rattle.std.proofs.lemmas.Bool.{cond-true, cond-false}
use Rattle.dtap_codec.specs.Message.{is_flow_message, is_flow_protocol}
use Rattle.dtap_codec.specs.Number.{count_of, number_in, with_number, without_number}
use Rattle.dtap_codec.specs.declared.number.Modulus.{Modulus}
use Rattle.dtap_codec.specs.declared.number.Modulus.TheVariants.{Four, Two}
use Rattle.dtap_codec.specs.Places.{with_numbers_from, IsClear, AreClear}

-- the number has no part in what a message is
pub is_flow_with_number : (n : ℕ) (message : List ℕ) → is_flow_message (with_number n message) ≡ is_flow_message message
is_flow_with_number n [] = refl
is_flow_with_number n (first ∷ []) = refl
is_flow_with_number n (first ∷ second ∷ rest) = refl

-- clearing forgets the number that was written
pub without_number-with_number : (n : ℕ) (message : List ℕ) → without_number (with_number n message) ≡ without_number message
without_number-with_number n [] = refl
without_number-with_number n (first ∷ []) = refl
without_number-with_number n (first ∷ second ∷ rest) =
    let low : (second % 64 + 64 * n) % 64 ≡ second % 64 = omega arith in
    ap (λ (low : ℕ). first ∷ (low + 64 * 0) ∷ rest) low

-- the number that was written is read
pub number_in-with_number : (m n : ℕ) (message : List ℕ) → n < m → is_flow_message message ≡ true →
    number_in m (with_number n message) ≡ Some n
number_in-with_number m n [] lt flow = cc
number_in-with_number m n (first ∷ []) lt flow = cc
number_in-with_number m n (first ∷ second ∷ rest) lt flow =
    let high : (second % 64 + 64 * n) / 64 ≡ n = omega arith in
    cond-true (is_flow_protocol (first % 16)) _ None flow ∙ ap (λ (high : ℕ). Some (high % m)) high ∙ ap Some (mod-eq_of_lt lt)

-- a message that isn't of the flow has no number
pub number_in-other : (m : ℕ) (message : List ℕ) → is_flow_message message ≡ false → number_in m message ≡ None
number_in-other m [] other = refl
number_in-other m (first ∷ []) other = refl
number_in-other m (first ∷ second ∷ rest) other = cond-false (is_flow_protocol (first % 16)) _ None other

-- the numbers of two lists, one behind the other
pub with_numbers_from-append : (m k : ℕ) (xs ys : List (List ℕ)) →
    with_numbers_from m k (xs ++ ys) ≡ with_numbers_from m k xs ++ with_numbers_from m (k + length xs) ys
with_numbers_from-append m k [] ys = ap (λ (n : ℕ). with_numbers_from m n ys) (omega arith)
with_numbers_from-append m k (x ∷ xs) ys =
    let place : k + 1 + length xs ≡ k + length (x ∷ xs) = omega arith in
    ap (λ (more : List (List ℕ)). with_number (k % m) x ∷ more) (with_numbers_from-append m (k + 1) xs ys ∙ ap (λ (n : ℕ). with_numbers_from m (k + 1) xs ++ with_numbers_from m n ys) place)

-- one more message, cleared and of the flow
pub AreClear-push : (xs : List (List ℕ)) (y : List ℕ) → AreClear xs → IsClear y → AreClear (xs ++ y ∷ [])
AreClear-push [] y clear one = (one, tt)
AreClear-push (x ∷ xs) y clear one = (clear.0, AreClear-push xs y clear.1 one)

-- there are at least two numbers
pub count_of-two : (modulus : Modulus) → 2 ≤ count_of modulus
count_of-two Four = omega arith
count_of-two Two = omega arith
