-- SPDX-License-Identifier: MIT OR Apache-2.0
-- The first set bit from a position on is the first set bit of the word shifted down by it.
use Rattle.std.proofs.Common.{◌≡◌, ℕ, ◌+◌, ◌-◌, ◌/◌, ◌%◌, ◌^◌, ◌<◌, ◌≤◌, sym, ap, ◌∙◌, arith}
use Rattle.std.specs.Int.{bit_at, trailing_zeros, w64}
use Rattle.std.proofs.lemmas.Nat.{shr-shr, shr_le}
use Rattle.std.proofs.lemmas.Nat.Bits.{bit_at-zero, bit_at-trailing_zeros, bit_at_above}
use Rattle.ruled_relay.specs.Signs.{HasNoneBetween, HasNoneSet, IsFirstSet}

bit_at_shifted : (word from place : ℕ) → bit_at (word / 2 ^ from) place ≡ bit_at word (from + place)
bit_at_shifted word from place = ap (λ n. n % 2) (shr-shr word from place)

-- where the shifted word has no bit below a place, the word has none between
none_between : (word from to : ℕ) → ((place : ℕ) → place < to → bit_at (word / 2 ^ from) place ≡ 0) → HasNoneBetween from (from + to) word
none_between word from to none place least below =
    let is : from + (place - from) ≡ place = omega arith in
    ap (λ p. bit_at word p) (sym is) ∙ sym (bit_at_shifted word from (place - from)) ∙ none (place - from) (omega arith)

pub has_none_set : (word from : ℕ) → word / 2 ^ from ≡ 0 → HasNoneSet from word
has_none_set word from gone place least below =
    none_between word from 64 (λ at small. ap (λ n. bit_at n at) gone ∙ bit_at-zero at) place least (omega arith)

within_word : (word place : ℕ) → word < 2 ^ 64 → bit_at word place ≡ 1 → place < 64
within_word word place fits one = let h : 64 ≤ place → 0 ≡ 1 = (λ far. sym (bit_at_above word 64 place fits far) ∙ one) in grind (arith, h)

pub is_first_set : (word from : ℕ) →
    word < 2 ^ 64 →
    0 < word / 2 ^ from →
    IsFirstSet from word (from + trailing_zeros w64 (word / 2 ^ from))
is_first_set word from fits some =
    let rest = word / 2 ^ from in
    let zeros = bit_at-trailing_zeros w64 rest some (omega (arith, shr_le word from)) in
    let one = sym (bit_at_shifted word from (trailing_zeros w64 rest)) ∙ zeros.1 in
    (omega arith, within_word word (from + trailing_zeros w64 rest) fits one, one, none_between word from (trailing_zeros w64 rest) zeros.2)
