-- SPDX-License-Identifier: MIT OR Apache-2.0
-- The time of day, UTC: `HH:MM:SS.mmm`.
use Rattle.std.specs.Prelude.{ℕ, ◌+◌, ◌*◌, ◌/◌, ◌%◌, List, [], ◌∷◌}
use Rattle.run_record.specs.declared.entry.Stamp.{Stamp}

-- the milliseconds since midnight
abbrev pub time_of_day : Stamp → ℕ
time_of_day stamp = 1000 * (stamp.seconds % 86400) + stamp.microseconds / 1000 % 1000

-- the last decimal digit of a number
abbrev pub digit_of : ℕ → ℕ
digit_of number = 48 + number % 10

-- hours, minutes, seconds and milliseconds, with a space before and a tab behind
abbrev pub column_at : ℕ → List ℕ
column_at time =
    32 ∷ digit_of (time / 36000000) ∷ digit_of (time / 3600000)
    ∷ 58 ∷ digit_of (time / 600000 % 6) ∷ digit_of (time / 60000)
    ∷ 58 ∷ digit_of (time / 10000 % 6) ∷ digit_of (time / 1000)
    ∷ 46 ∷ digit_of (time / 100) ∷ digit_of (time / 10) ∷ digit_of time ∷ 9 ∷ []

abbrev pub clock_column : Stamp → List ℕ
clock_column stamp = column_at (time_of_day stamp)
