-- SPDX-License-Identifier: MIT OR Apache-2.0
-- The columns of a line, and how each column is read.
use Rattle.std.specs.Prelude.{ℕ, ◌+◌, ◌-◌, ◌*◌, ◌^◌, ◌==◌, ◌&&◌, Bool, nat_le, nat_lt, not}
use Rattle.std.specs.Prelude.{if◌then◌else◌, List, [], ◌∷◌, length, take, drop, codes}
use Rattle.std.specs.Prelude.{Option, Some, None, option_and_then, Result, Ok, Err}
use Rattle.std.specs.Char.{is_ascii_digit}
use Rattle.std.specs.List.{before_first, list_all}
use Rattle.std.specs.Str.{bytes_eq}
use Rattle.run_judge.specs.declared.said.Way.{Way}
use Rattle.run_judge.specs.declared.said.Way.TheVariants.{FromController, ToController}
use Rattle.judge_lines.specs.declared.fault.LineFault.{LineFault}
use Rattle.judge_lines.specs.declared.fault.LineFault.TheVariants.{NotSixColumns}
use Rattle.judge_lines.specs.declared.report.Report.{Report}
use Rattle.judge_lines.specs.declared.report.Report.TheVariants.{Missing, Sent}

abbrev pub is_tab : ℕ → Bool
is_tab octet = octet == 9

abbrev pub is_space : ℕ → Bool
is_space octet = octet == 32

-- ---- the columns

-- The columns of a line, without the column of the protocol.
pub record ColumnTexts : Type 0 where
  pub number : List ℕ
  pub from : List ℕ
  pub to : List ℕ
  pub said : List ℕ
  pub octets : List ℕ

abbrev pub columns_of : List ℕ → List ℕ → List ℕ → List ℕ → List ℕ → ColumnTexts
columns_of number from to said octets =
    record { number = number; from = from; to = to; said = said; octets = octets }

abbrev pub six_columns : List (List ℕ) → Result ColumnTexts LineFault
six_columns (number ∷ from ∷ to ∷ protocol ∷ said ∷ octets ∷ []) =
    Ok (columns_of number from to said octets)
six_columns _ = Err NotSixColumns

-- ---- the number of a frame

-- The value of the decimal digits of `n` followed by these digits.
abbrev pub decimal_after : ℕ → List ℕ → ℕ
decimal_after n [] = n
decimal_after n (digit ∷ digits) = decimal_after (10 * n + (digit - 48)) digits

abbrev pub is_decimal : List ℕ → Bool
is_decimal word = not (length word == 0) && list_all is_ascii_digit word

-- The value of a word that consists of decimal digits. `None` for any other word, and for a value
-- from 2^64 on.
abbrev pub number_in : List ℕ → Option ℕ
number_in word =
    if is_decimal word && nat_lt (decimal_after 0 word) (2 ^ 64)
    then Some (decimal_after 0 word) else None

-- ---- the ends of a link

abbrev pub begins_with_zero : List ℕ → Bool
begins_with_zero digits = bytes_eq (take 1 digits) (codes "0")

abbrev pub station_numbered : ℕ → Option ℕ
station_numbered number = if nat_le number 255 then Some number else None

-- The number of a station, from 1 to 255, without leading zeros. `None` for any other word.
abbrev pub station_in : List ℕ → Option ℕ
station_in digits =
    if begins_with_zero digits then None else option_and_then station_numbered (number_in digits)

-- The number of the link to an end: 0 for the switch, else the number of the station. `None` for
-- any other name.
abbrev pub link_in : List ℕ → Option ℕ
link_in end =
    if bytes_eq end (codes "switch") then Some 0
    else (if bytes_eq (take 8 end) (codes "station ") then station_in (drop 8 end) else None)

abbrev pub is_controller : List ℕ → Bool
is_controller end = bytes_eq end (codes "bsc")

-- The direction of a frame between these ends, and the end that isn't the controller. `None` unless
-- exactly one of the two ends is the controller.
abbrev pub crossing_in : List ℕ → List ℕ → Option (Way × List ℕ)
crossing_in from to =
    if is_controller from then (if is_controller to then None else Some (FromController, to))
    else (if is_controller to then Some (ToController, from) else None)

-- ---- the report

-- The report that a word names: a frame was sent, or frames are missing.
abbrev pub report_named : List ℕ → Option Report
report_named word =
    if bytes_eq word (codes "sent") then Some Sent
    else (if bytes_eq word (codes "missing") then Some Missing else None)

-- The report of the first word, which ends at the first space.
abbrev pub report_in : List ℕ → Option Report
report_in said = report_named (before_first is_space said)
