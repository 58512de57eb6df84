-- SPDX-License-Identifier: MIT OR Apache-2.0
-- The words that are octets in hexadecimal digits, and the octets that they write.
use Rattle.std.proofs.Common.{◌≡◌, ℕ, ◌+◌, ◌*◌, ◌<◌, ◌%◌, Bool, true, false, ◌&&◌, Option, Some, None, Result, Ok, Err, List, [], ◌∷◌, ◌++◌, length, take, slice_index, bit_or, refl, sym, ap, ◌∙◌, arith, inl, inr, is_some, unwrap_or, nat_eq, nat_lt}
use Rattle.std.specs.List.{AllPass, list_all}
use Rattle.std.specs.Result.{result_ok}
use Rattle.std.proofs.lemmas.Bool.{cases_Bool, cases_lt, cond-false, cond-true, eqb-true, le-ltb, lt-ltb}
use Rattle.std.proofs.lemmas.List.{append-nil}
use Rattle.std.proofs.lemmas.List.Elements.{All-head, All-tail}
use Rattle.std.proofs.lemmas.List.Folds.{list_all_more}
use Rattle.std.proofs.lemmas.List.Sums.{AllPass-from_list_all, list_all-from_AllPass}
use Rattle.std.proofs.lemmas.Nat.{le_or_l, le_or_r, or_lt}
use Rattle.hex.specs.Hex.{decode_of, decode_pairs, hex_digit_value, is_hex_digit, pair_value}
use Rattle.hex.specs.declared.error.FromHexError.{FromHexError}
use Rattle.hex.proofs.HexLemmas.{decode_of-digits, decode_of-even, decode_of-ok}
use Rattle.hex.proofs.Pairs.{cons_byte, decode_pairs-ok_pair}
use Rattle.program_base.specs.Words.{octets_in}

decoded_by : (word : List ℕ) (answer : Result (List ℕ) FromHexError) →
    decode_of word ≡ answer →
    length word % 2 ≡ 0 →
    is_some (result_ok answer) ≡ list_all is_hex_digit word
decoded_by word (Ok octets) is even = sym (list_all-from_AllPass is_hex_digit word (decode_of-ok word octets is).1)
decoded_by word (Err fault) is even =
    elim (cases_Bool (list_all is_hex_digit word)) [
      | inl digits ↦ let read = decode_of-digits word even (AllPass-from_list_all is_hex_digit word digits) in let again = read.1 in absurd cc
      | inr others ↦ sym others
    ]

-- an even number of digits, and some
pub is_some-octets_in : (word : List ℕ) →
    nat_eq (length word) 0 ≡ false →
    nat_eq (length word % 2) 0 ≡ true →
    is_some (octets_in word) ≡ list_all is_hex_digit word
is_some-octets_in word some even =
    ap is_some (cond-false (nat_eq (length word) 0) None (result_ok (decode_of word)) some)
    ∙ decoded_by word (decode_of word) refl (eqb-true (length word % 2) 0 even)

-- ---- the octets of digits

-- what pairs of digits write
abbrev pub octets_of : List ℕ → List ℕ
octets_of [] = []
octets_of (digit ∷ []) = []
octets_of (high ∷ low ∷ digits) = (16 * unwrap_or (hex_digit_value high) 16 + unwrap_or (hex_digit_value low) 16) ∷ octets_of digits

-- the fact of `AllPass is_hex_digit`
abbrev digit_holds : ℕ → Type 0
digit_holds digit = is_hex_digit digit ≡ true

-- a digit has a value
value_of_some : (value : Option ℕ) → is_some value ≡ true → (v : ℕ) × (value ≡ Some v)
value_of_some None is = absurd cc
value_of_some (Some v) is = (v, refl)

some_value : (digit : ℕ) → is_hex_digit digit ≡ true → (v : ℕ) × (hex_digit_value digit ≡ Some v)
some_value digit is = value_of_some (hex_digit_value digit) is

-- what pairs of digits decode to, whichever their place
pairs_decode : (i : ℕ) (digits : List ℕ) →
    length digits % 2 ≡ 0 →
    AllPass is_hex_digit digits →
    decode_pairs i digits ≡ Ok (octets_of digits)
unfolding decode_pairs
pairs_decode i [] even are = refl
pairs_decode i (digit ∷ []) even are = absurd (omega arith)
pairs_decode i (high ∷ low ∷ digits) even are =
    let behind = All-tail digit_holds high (low ∷ digits) are in
    let first = some_value high (All-head digit_holds high (low ∷ digits) are) in
    let second = some_value low (All-head digit_holds low digits behind) in
    let later = pairs_decode (i + 2) digits (omega arith) (All-tail digit_holds low digits behind) in
    let pair : pair_value high low i ≡ Ok (first.0 * 16 + second.0) = rw (first.1, second.1) refl in
    let octet : first.0 * 16 + second.0 ≡ 16 * unwrap_or (hex_digit_value high) 16 + unwrap_or (hex_digit_value low) 16 = rw (first.1, second.1) (omega arith) in
    decode_pairs-ok_pair i high low (first.0 * 16 + second.0) digits pair ∙ ap (cons_byte (first.0 * 16 + second.0)) later
    ∙ ap (λ (o : ℕ). Ok (o ∷ octets_of digits)) octet

-- a word that is octets is so many digits, and its octets are those
octets_decoded : (word : List ℕ) (answer : Result (List ℕ) FromHexError) → decode_of word ≡ answer → is_some (result_ok answer) ≡ true
    → (decode_of word ≡ Ok (octets_of word)) × (list_all is_hex_digit word ≡ true) × (length word % 2 ≡ 0)
octets_decoded word (Err fault) is some = absurd cc
octets_decoded word (Ok octets) is some =
    let parts = decode_of-ok word octets is in (
      decode_of-even word parts.0 ∙ pairs_decode 0 word parts.0 parts.1,
      list_all-from_AllPass is_hex_digit word parts.1,
      parts.0,
    )

pub octets_in-is : (word : List ℕ) →
    is_some (octets_in word) ≡ true →
    (octets_in word ≡ Some (octets_of word)) × (list_all is_hex_digit word ≡ true) × (length word % 2 ≡ 0)
octets_in-is word some =
    elim (cases_Bool (nat_eq (length word) 0)) [
      | inl none ↦ absurd (cc (some, ap is_some (cond-true (nat_eq (length word) 0) None (result_ok (decode_of word)) none)))
      | inr more ↦
          let same = cond-false (nat_eq (length word) 0) None (result_ok (decode_of word)) more in
          let decoded = octets_decoded word (decode_of word) refl (sym (ap is_some same) ∙ some) in
          (same ∙ ap result_ok decoded.0, decoded.1, decoded.2)
    ]

-- where no pair is left all is written
pub written_all : (written digits whole : List ℕ) → length digits < 2 → written ++ octets_of digits ≡ whole → written ≡ whole
written_all written [] whole few is = sym (append-nil written) ∙ is
written_all written (digit ∷ []) whole few is = sym (append-nil written) ∙ is
written_all written (high ∷ low ∷ digits) whole few is = absurd (omega arith)

-- ---- many digits at once

-- of values that are put together each was below 16 where the whole is
pub both_digits : (values value : ℕ) → nat_lt (bit_or values value) 16 ≡ (nat_lt values 16 && nat_lt value 16)
both_digits values value =
    elim (cases_lt values 16) [
      | inl first ↦
          elim (cases_lt value 16) [
            | inl second ↦ rw (lt-ltb values 16 first, lt-ltb value 16 second) (lt-ltb (bit_or values value) 16 (or_lt 4 values value first second))
            | inr second ↦ let whole = le_or_r values value in rw (lt-ltb values 16 first, le-ltb value 16 second) (le-ltb (bit_or values value) 16 (omega (arith, whole)))
          ]
      | inr first ↦ let whole = le_or_l values value in rw (le-ltb values 16 first) (le-ltb (bit_or values value) 16 (omega (arith, whole)))
    ]

pub is_digit_value : (octet : ℕ) → nat_lt (unwrap_or (hex_digit_value octet) 16) 16 ≡ is_hex_digit octet
is_digit_value octet = grind (arith)

pub digits_more : (octets : List ℕ) (i values value : ℕ) → i < length octets → nat_lt values 16 ≡ list_all is_hex_digit (take i octets)
    → value ≡ unwrap_or (hex_digit_value (slice_index octets i)) 16 → nat_lt (bit_or values value) 16 ≡ list_all is_hex_digit (take (i + 1) octets)
digits_more octets i values value within so_far is =
    both_digits values value
    ∙ ap (λ (b : Bool). b && nat_lt value 16) so_far
    ∙ ap (λ (b : Bool). list_all is_hex_digit (take i octets) && b) (ap (λ (v : ℕ). nat_lt v 16) is ∙ is_digit_value (slice_index octets i))
    ∙ sym (list_all_more is_hex_digit octets i 0 within)
