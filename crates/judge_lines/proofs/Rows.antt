-- SPDX-License-Identifier: MIT OR Apache-2.0
-- Rows: the definitions on literal lines.
use Rattle.std.proofs.Common.{◌≡◌, ℕ, ◌-◌, ◌^◌, List, [], ◌∷◌, length, map, Some, None, Ok, Err, refl}
use Rattle.std.specs.Prelude.{codes}
use Rattle.std.specs.List.{slice_split}
use Rattle.octets.proofs.Hex.{hex}
use Rattle.hex.proofs.OnLiterals.{hex_on_literals}
use Rattle.run_judge.specs.declared.said.Way.TheVariants.{FromController, ToController}
use Rattle.judge_lines.specs.Columns.{crossing_in, is_tab, link_in, number_in, report_in, six_columns}
use Rattle.judge_lines.specs.Line.{columns_said, frame_said, line_said, octets_in}
use Rattle.judge_lines.specs.Lines.{lines_of, place_behind, said_in}
use Rattle.judge_lines.specs.declared.fault.LineFault.TheVariants.{NoEnd, NotHexadecimal, NotSixColumns, TooLong}
use Rattle.judge_lines.specs.declared.line.Line.TheVariants.{Hole, Other}
use Rattle.judge_lines.specs.declared.report.Report.TheVariants.{Missing, Sent}

-- ---- columns

numbers : map number_in (codes "0" ∷ codes "14" ∷ codes "007" ∷ codes "18446744073709551615" ∷ []) ≡
    Some 0 ∷ Some 14 ∷ Some 7 ∷ Some (2 ^ 64 - 1) ∷ []
numbers = refl

no_numbers : map number_in ([] ∷ codes "+1" ∷ codes "-1" ∷ codes "1 " ∷ codes "0x1" ∷ codes "18446744073709551616" ∷ []) ≡
    None ∷ None ∷ None ∷ None ∷ None ∷ None ∷ []
no_numbers = refl

links : map link_in (codes "switch" ∷ codes "station 1" ∷ codes "station 10" ∷ codes "station 255" ∷ []) ≡
    Some 0 ∷ Some 1 ∷ Some 10 ∷ Some 255 ∷ []
links = refl

no_stations : map link_in (codes "station" ∷ codes "station " ∷ codes "station 0" ∷ codes "station 01" ∷ codes "station 256" ∷ codes "station +1" ∷ []) ≡
    None ∷ None ∷ None ∷ None ∷ None ∷ None ∷ []
no_stations = refl

no_ends : map link_in ([] ∷ codes "bsc" ∷ codes "Switch" ∷ codes "switch " ∷ codes "mobile 1" ∷ codes "station  1" ∷ []) ≡
    None ∷ None ∷ None ∷ None ∷ None ∷ None ∷ []
no_ends = refl

up : crossing_in (codes "station 1") (codes "bsc") ≡ Some (ToController, codes "station 1")
up = refl

down : crossing_in (codes "bsc") (codes "switch") ≡ Some (FromController, codes "switch")
down = refl

within : crossing_in (codes "bsc") (codes "bsc") ≡ None
within = refl

outside : crossing_in (codes "script") (codes "world") ≡ None
outside = refl

reports : map report_in (codes "sent" ∷ codes "sent N(SD)=1" ∷ codes "missing" ∷ codes "missing 3" ∷ []) ≡
    Some Sent ∷ Some Sent ∷ Some Missing ∷ Some Missing ∷ []
reports = refl

no_reports : map report_in ([] ∷ codes "got" ∷ codes " sent" ∷ codes "sent, again" ∷ codes "Sent" ∷ codes "missingly" ∷ []) ≡
    None ∷ None ∷ None ∷ None ∷ None ∷ None ∷ []
no_reports = refl

bodies : map octets_in (codes "00" ∷ codes "0AaF" ∷ []) ≡ Some (hex "00") ∷ Some (hex "0a af") ∷ []
unfolding hex_on_literals
bodies = refl

no_bodies : map octets_in ([] ∷ codes "0" ∷ codes "0g" ∷ codes "00 01" ∷ codes "0x01" ∷ []) ≡ None ∷ None ∷ None ∷ None ∷ None ∷ []
unfolding hex_on_literals
no_bodies = refl

-- ---- whole lines

from_a_station : line_said 3 (codes "14\tstation 1\tbsc\tRSL\tsent\t08220141080000") ≡ Ok (frame_said 14 1 ToController (hex "08 22 01 41 08 00 00"))
unfolding hex_on_literals
from_a_station = refl

to_the_switch : line_said 3 (codes "20\tbsc\tswitch\tCR\tsent N(SD)=0\t01000001") ≡ Ok (frame_said 20 0 FromController (hex "01 00 00 01"))
unfolding hex_on_literals
to_the_switch = refl

numbered_by_line : line_said 3 (codes "-\tswitch\tbsc\t\tsent\t06") ≡ Ok (frame_said 3 0 ToController (hex "06"))
unfolding hex_on_literals
numbered_by_line = refl

hole : line_said 3 (codes "98\tstation 2\tbsc\tRSL\tmissing\tany") ≡ Ok (Hole 98)
hole = refl

-- an event, what a mobile gets, what is made, and what becomes of a connection
of_others : map (line_said 3)
    (codes "14\tscript\tworld\tbasepush 1\ttaken\t" ∷ codes "9\tstation 1\tmobile 1\tUA\tsent\t0173"
    ∷ codes "9\tbsc\tstation 1\tUI\tgot\t0" ∷ codes "9\tbsc\tbsc\tconn 1\tsent\t" ∷ []) ≡
    Ok Other ∷ Ok Other ∷ Ok Other ∷ Ok Other ∷ []
of_others = refl

not_six : map (line_said 3) ([] ∷ codes "14\tstation 1\tbsc\tRSL\tsent" ∷ codes "14\tstation 1\tbsc\tRSL\tsent\t00\t" ∷ []) ≡
    Err NotSixColumns ∷ Err NotSixColumns ∷ Err NotSixColumns ∷ []
not_six = refl

no_end : map (line_said 3) (codes "14\tstation 0\tbsc\tRSL\tsent\tg" ∷ codes "14\tbsc\tmobile 1\tRSL\tmissing\t" ∷ []) ≡
    Err NoEnd ∷ Err NoEnd ∷ []
no_end = refl

not_hexadecimal : map (line_said 3) (codes "14\tstation 1\tbsc\tRSL\tsent\t" ∷ codes "14\tbsc\tswitch\tDT1\tsent\t06\r" ∷ []) ≡
    Err NotHexadecimal ∷ Err NotHexadecimal ∷ []
unfolding hex_on_literals
not_hexadecimal = refl

longest : (line : List ℕ) → length line ≡ 1048576 → line_said 3 line ≡ columns_said 3 (six_columns (slice_split is_tab line))
longest line size = rw size refl

longer : (line : List ℕ) → length line ≡ 1048577 → line_said 3 line ≡ Err TooLong
longer line size = rw size refl

-- ---- lines

no_line : lines_of [] ≡ []
no_line = refl

empty_line : lines_of (codes "\n") ≡ [] ∷ []
empty_line = refl

two_lines : lines_of (codes "one\ntwo\n") ≡ codes "one" ∷ codes "two" ∷ []
two_lines = refl

last_without_feed : lines_of (codes "one\n\ntwo") ≡ codes "one" ∷ [] ∷ codes "two" ∷ []
last_without_feed = refl

counted : place_behind 0 ∷ place_behind 41 ∷ place_behind (2 ^ 64 - 1) ∷ [] ≡ 1 ∷ 42 ∷ (2 ^ 64 - 1) ∷ []
counted = refl

by_place : said_in (codes "?\tswitch\tbsc\t\tmissing\t\n?\tbsc\tswitch\t\tmissing\t\nend") ≡ Ok (Hole 1) ∷ Ok (Hole 2) ∷ Err NotSixColumns ∷ []
by_place = refl
