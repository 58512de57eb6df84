-- SPDX-License-Identifier: MIT OR Apache-2.0
-- Reading the words of a script line, one after the other.
use Rattle.std.specs.Prelude.{◌≡◌, ℕ, ◌+◌, ◌-◌, ◌*◌, ◌^◌, ◌&&◌}
use Rattle.std.specs.Prelude.{◌==◌, nat_le, not, length, Bool}
use Rattle.std.specs.Prelude.{true, false, Option, Some, None, Result, MatchResult, List, []}
use Rattle.std.specs.Prelude.{◌∷◌}
use Rattle.std.specs.Prelude.{if◌then◌else◌}
use Rattle.std.specs.Char.{is_ascii_digit}
use Rattle.std.specs.List.{list_all}
use Rattle.std.specs.Result.{result_ok}
use Rattle.hex.specs.Hex.{decode_of}
use Rattle.dtap_codec.specs.declared.sapi.Sapi.{Sapi}
use Rattle.dtap_codec.specs.declared.sapi.Sapi.TheVariants.{Zero, Three}

-- the number whose decimal digits are those of `n`, followed by the digits of the list
abbrev pub decimal_after : ℕ → List ℕ → ℕ
decimal_after n [] = n
decimal_after n (digit ∷ digits) = decimal_after (10 * n + (digit - 48)) digits

abbrev pub is_decimal : List ℕ → Bool
is_decimal word = not (length word == 0) && list_all is_ascii_digit word

-- a decimal number from low to high: digits alone, leading zeros allowed
abbrev pub number_in : ℕ → ℕ → List ℕ → Option ℕ
number_in low high word =
    if is_decimal word && nat_le low (decimal_after 0 word) && nat_le (decimal_after 0 word) high
    then Some (decimal_after 0 word) else None

-- the number of a mobile
abbrev pub mobile_in : List ℕ → Option ℕ
mobile_in word = number_in 1 255 word

-- the number of a station: 1 to `cells`
abbrev pub station_in : ℕ → List ℕ → Option ℕ
station_in cells word = number_in 1 cells word

-- the number of a source: 0 for the switch, 1 to `cells` for a station
abbrev pub source_in : ℕ → List ℕ → Option ℕ
source_in cells word = number_in 0 cells word

-- any number below 2 to the 32: the number of a connection, or a count of milliseconds
abbrev pub any_number_in : List ℕ → Option ℕ
any_number_in word = number_in 0 (2 ^ 32 - 1) word

-- a SAPI is the word `0` or `3`
abbrev pub sapi_in : List ℕ → Option Sapi
sapi_in (digit ∷ []) = if digit == 48 then Some Zero else (if digit == 51 then Some Three else None)
sapi_in _ = None

-- yes or no is the word `y` or `n`
abbrev pub answer_in : List ℕ → Option Bool
answer_in (letter ∷ []) =
    if letter == 121 then Some true else (if letter == 110 then Some false else None)
answer_in _ = None

-- octets are pairs of hexadecimal digits of either case, at least one pair
abbrev pub octets_in : List ℕ → Option (List ℕ)
octets_in word = if length word == 0 then None else result_ok (decode_of word)

-- `Some` exactly if no word is left
abbrev pub end_of : List (List ℕ) → Option (Unit {0})
end_of [] = Some tt
end_of (word ∷ words) = None

-- The result of reading a word. `Ok` holds the value that the word says, as `view` shows it. `Err`
-- means that the word says nothing (`None`).
abbrev pub Reads : {X Y E : Type 0} → (X → Y) → Result X E → Option Y → Type 0
Reads view result said = MatchResult result (λ x. said ≡ Some (view x)) (λ _. said ≡ None)

-- the first word, and the words after it
abbrev pub word_at : List (List ℕ) → Option (List ℕ × List (List ℕ))
word_at [] = None
word_at (word ∷ words) = Some (word, words)

abbrev pub and_rest : {X : Type 0} → List (List ℕ) → Option X → Option (X × List (List ℕ))
and_rest words None = None
and_rest words (Some x) = Some (x, words)

-- the value that `says` reads from the first word, and the words after this word
abbrev pub value_at : {X : Type 0} → (List ℕ → Option X) → List (List ℕ)
    → Option (X × List (List ℕ))
value_at says [] = None
value_at says (word ∷ words) = and_rest words (says word)

-- The result of reading the next word. `Ok` holds the value that the word says, as `view` shows it,
-- and the words `left` are left. `Err` means that the word says nothing.
abbrev pub ReadsNext : {X Y E : Type 0} → (X → Y) → Result X E → Option (Y × List (List ℕ))
    → List (List ℕ) → Type 0
ReadsNext view result said left =
    MatchResult result (λ x. said ≡ Some (view x, left)) (λ _. said ≡ None)
