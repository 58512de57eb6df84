-- SPDX-License-Identifier: MIT OR Apache-2.0
-- The content of a line. A line has six columns, separated by tabs: the number of the frame, the
-- sender, the receiver, the protocol, a report, and the octets as hexadecimal digits.
use Rattle.std.specs.Prelude.{◌≡◌, ◌⊎◌, ℕ, ◌==◌, nat_lt, if◌then◌else◌, List, length}
use Rattle.std.specs.Prelude.{Option, Some, None, unwrap_or, Result, Ok, Err, IsOk}
use Rattle.std.specs.List.{slice_split}
use Rattle.std.specs.Option.{ok_or}
use Rattle.std.specs.Result.{result_ok}
use Rattle.hex.specs.Hex.{decode_of}
use Rattle.octets.specs.Answer.{result_map}
use Rattle.run_judge.specs.declared.said.Way.{Way}
use Rattle.judge_lines.specs.Columns.{ColumnTexts, crossing_in, is_tab, link_in, number_in}
use Rattle.judge_lines.specs.Columns.{report_in, six_columns}
use Rattle.judge_lines.specs.declared.fault.LineFault.{LineFault}
use Rattle.judge_lines.specs.declared.fault.LineFault.TheVariants.{Memory, NoEnd}
use Rattle.judge_lines.specs.declared.fault.LineFault.TheVariants.{NotHexadecimal, TooLong}
use Rattle.judge_lines.specs.declared.line.Line.{Line}
use Rattle.judge_lines.specs.declared.line.Line.TheVariants.{Frame, Hole, Other}
use Rattle.judge_lines.specs.declared.line.TheConstants.{MAX_LINE}
use Rattle.judge_lines.specs.declared.report.Report.{Report}
use Rattle.judge_lines.specs.declared.report.Report.TheVariants.{Missing, Sent}

-- The octets that one or more pairs of hexadecimal digits of either case stand for. `None` for any
-- other word.
abbrev pub octets_in : List ℕ → Option (List ℕ)
octets_in digits = if length digits == 0 then None else result_ok (decode_of digits)

abbrev pub body_in : List ℕ → Result (List ℕ) LineFault
body_in digits = ok_or (octets_in digits) NotHexadecimal

abbrev pub frame_said : ℕ → ℕ → Way → List ℕ → Line
frame_said number link way body =
    Frame (record { number = number; link = link; way = way; body = body })

-- The content of a line with a report on the link `link`. The column of octets is read only if a
-- frame was sent.
abbrev pub link_said : ℕ → Way → Option ℕ → Report → List ℕ → Result Line LineFault
link_said number way None report octets = Err NoEnd
link_said number way (Some link) Missing octets = Ok (Hole number)
link_said number way (Some link) Sent octets =
    result_map (frame_said number link way) (body_in octets)

-- A line is `Other`, whatever else it contains, unless exactly one end is the controller and the
-- line has a report.
abbrev pub report_said : ℕ → Option (Way × List ℕ) → Option Report → List ℕ
    → Result Line LineFault
report_said number (Some crossing) (Some report) octets =
    link_said number crossing.0 (link_in crossing.1) report octets
report_said number _ _ octets = Ok Other

-- The number of a frame is `place`, the number of the line, if the first column isn't a number.
abbrev pub columns_said : ℕ → Result ColumnTexts LineFault → Result Line LineFault
columns_said place (Err fault) = Err fault
columns_said place (Ok columns) =
    report_said (unwrap_or (number_in columns.number) place)
    (crossing_in columns.from columns.to) (report_in columns.said) columns.octets

-- The content of a line, given without its line feed. `place` is the number of the line.
abbrev pub line_said : ℕ → List ℕ → Result Line LineFault
line_said place line =
    if nat_lt MAX_LINE (length line) then Err TooLong
    else columns_said place (six_columns (slice_split is_tab line))

-- ---- what a reader answers

-- Only decoding octets allocates, so an allocation can fail only for these results.
abbrev pub MayWantMemory : {X : Type 0} → Result X LineFault → Type 0
MayWantMemory said = IsOk said ⊎ (said ≡ Err NotHexadecimal)

-- The answer is the result `said`, unless an allocation failed.
abbrev pub Reads : {X : Type 0} → Result X LineFault → Result X LineFault → Type 0
Reads (Ok x) said = said ≡ Ok x
Reads (Err fault) said = (said ≡ Err fault) ⊎ ((fault ≡ Memory) × MayWantMemory said)
