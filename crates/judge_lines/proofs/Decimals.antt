-- SPDX-License-Identifier: MIT OR Apache-2.0
-- Lemmas: the numbers of decimal digits.
use Rattle.std.proofs.Common.{◌≡◌, ℕ, ◌+◌, ◌-◌, ◌*◌, ◌^◌, ◌<◌, ◌≤◌, ◌==◌, ◌&&◌, Bool, true, false, nat_lt, not, if◌then◌else◌, List, [], ◌∷◌, length, Option, Some, None, arith, refl}
use Rattle.std.specs.Char.{is_ascii_digit}
use Rattle.std.specs.List.{list_all}
use Rattle.std.proofs.lemmas.Bool.{le-ltb, lt-ltb}
use Rattle.judge_lines.specs.Columns.{decimal_after, is_decimal, number_in}

-- digits make no number smaller
pub decimal_grows : (n : ℕ) (digits : List ℕ) → n ≤ decimal_after n digits
decimal_grows n [] = omega arith
decimal_grows n (digit ∷ digits) = let more = decimal_grows (10 * n + (digit - 48)) digits in omega (arith, more)

none_by : (b : Bool) (some : Option ℕ) → (if b && false then some else None) ≡ None
none_by true some = refl
none_by false some = refl

-- a number that is too high is none
pub too_high : (word : List ℕ) → 2 ^ 64 ≤ decimal_after 0 word → number_in word ≡ None
too_high word high = rw (le-ltb (decimal_after 0 word) (2 ^ 64) high) (none_by (is_decimal word) (Some (decimal_after 0 word)))

no_digits_by : (some all fits : Bool) (number : Option ℕ) → all ≡ false → (if (some && all) && fits then number else None) ≡ None
no_digits_by true all fits number is = rw is refl
no_digits_by false all fits number is = refl

-- other octets than digits are none
pub no_digits : (word : List ℕ) → list_all is_ascii_digit word ≡ false → number_in word ≡ None
no_digits word is = no_digits_by (not (length word == 0)) (list_all is_ascii_digit word) (nat_lt (decimal_after 0 word) (2 ^ 64)) (Some (decimal_after 0 word)) is

pub number_is : (word : List ℕ) (n : ℕ) →
    (length word == 0) ≡ false →
    list_all is_ascii_digit word ≡ true →
    n ≡ decimal_after 0 word →
    n < 2 ^ 64 →
    number_in word ≡ Some n
number_is word n some digits is below =
    let fits : nat_lt (decimal_after 0 word) (2 ^ 64) ≡ true = lt-ltb (decimal_after 0 word) (2 ^ 64) (omega (arith, is)) in
    rw (some, digits, fits, is) refl
