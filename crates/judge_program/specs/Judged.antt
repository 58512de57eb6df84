-- SPDX-License-Identifier: MIT OR Apache-2.0
-- The whole output for lines, and the exit status.
use Rattle.std.specs.Prelude.{◌≡◌, ℕ, List, ◌++◌, fold, Option, Some, None, IfSome}
use Rattle.std.specs.Io.KnownBytes.{Appends}
use Rattle.dtap_codec.specs.Number.{count_of}
use Rattle.dtap_codec.specs.declared.rr.CellDescription.{CellDescription}
use Rattle.judge_lines.specs.Lines.{said_in}
use Rattle.judge_lines.specs.declared.fault.LineFault.{LineFault}
use Rattle.judge_report.specs.declared.style.Style.{Style}
use Rattle.judge_report.specs.Sums.{end_text, no_sums, report_text, start_text, status_of_sums}
use Rattle.judge_report.specs.Sums.{sums_of, with_one}
use Rattle.judge_report.specs.declared.sums.Sums.{Sums}
use Rattle.judge_orders.specs.declared.judged.Judged.{Judged}
use Rattle.judge_orders.specs.Left.{IsLeft}
use Rattle.judge_orders.specs.Orders.{new_orders}
use Rattle.judge_program.specs.Course.{Course, course}
use Rattle.judge_program.specs.RunState.{VerdictsState, verdicts}
use Rattle.judge_program.specs.declared.stop.Stop.{Stop}
use Rattle.judge_program.specs.declared.stop.Stop.TheVariants.{BadLine, Failed}

-- The contents of the output, if they are known, grew by the verdicts of the connections that are
-- left and by the sums of all connections.
pub record FinishesWith (v : VerdictsState) (sums : Sums) (old new : Option (List ℕ)) : Type 0 where
  pub left : List Judged
  pub are : IsLeft v.orders left
  pub all : sums ≡ fold with_one v.sums left
  pub printed : Appends old new (verdicts v.style v.sums left ++ end_text v.style.form sums)

-- The result of the lines of octets.
abbrev pub course_of : Style → List CellDescription → List ℕ → Course
course_of style cells octets =
    course (new_orders (count_of style.modulus) cells) (said_in octets)

-- The output for connections: their verdicts, and the lines before and after the verdicts.
abbrev pub report_of : Style → List Judged → List ℕ
report_of style connections =
    report_text (count_of style.modulus) style.form style.strictness connections

-- ---- the lines

-- No line is bad. The contents of the output, if they are known, grew by the verdicts of the
-- connections that ended.
pub record ReadsAll (style : Style) (cells : List CellDescription) (v : VerdictsState)
    (octets : List ℕ) (old new : Option (List ℕ)) : Type 0 where
  pub style_is : v.style ≡ style
  pub sums_are : v.sums ≡ sums_of (course_of style cells octets).ended
  pub orders_are : v.orders ≡ (course_of style cells octets).left
  pub whole : (course_of style cells octets).fault ≡ None
  pub printed : Appends old new (verdicts style no_sums (course_of style cells octets).ended)

abbrev pub ReadsLines : Style → List CellDescription → VerdictsState → Option (List ℕ)
    → Option (List ℕ) → Option (List ℕ) → Type 0
ReadsLines style cells v start old new =
    IfSome start (λ octets. ReadsAll style cells v octets old new)

-- A line is bad. The contents of the output, if they are known, grew by the verdicts of the
-- connections that ended before this line.
abbrev pub StopsReading : Style → List CellDescription → Stop → Option (List ℕ)
    → Option (List ℕ) → Option (List ℕ) → Type 0
StopsReading style cells (BadLine number fault) start old new = IfSome start (λ octets.
    ((course_of style cells octets).fault ≡ Some fault)
    × Appends old new (verdicts style no_sums (course_of style cells octets).ended))
StopsReading style cells (Failed failure) start old new = Unit {0}

-- ---- all

-- No line is bad. The contents of the output, if they are known, grew by the output for the
-- connections that ended and for those that are left. The status follows from these connections.
pub record ReportsAll (style : Style) (cells : List CellDescription) (octets : List ℕ) (status : ℕ)
    (old new : Option (List ℕ)) : Type 0 where
  pub left : List Judged
  pub are : IsLeft (course_of style cells octets).left left
  pub whole : (course_of style cells octets).fault ≡ None
  pub printed : Appends old new (report_of style ((course_of style cells octets).ended ++ left))
  pub ends : status ≡ status_of_sums style.strictness
      (sums_of ((course_of style cells octets).ended ++ left))

abbrev pub Reports : Style → List CellDescription → ℕ → Option (List ℕ) → Option (List ℕ)
    → Option (List ℕ) → Type 0
Reports style cells status start old new =
    IfSome start (λ octets. ReportsAll style cells octets status old new)

-- A line of the octets is bad. The contents of the output, if they are known, grew by the text
-- before all connections and by the verdicts of the connections that ended before the bad line.
abbrev pub FindsBadLine : Style → List CellDescription → LineFault → List ℕ → Option (List ℕ)
    → Option (List ℕ) → Type 0
FindsBadLine style cells fault octets old new =
    ((course_of style cells octets).fault ≡ Some fault) × Appends old new
    (start_text style.form ++ verdicts style no_sums (course_of style cells octets).ended)

abbrev pub ReportsStop : Style → List CellDescription → Stop → Option (List ℕ)
    → Option (List ℕ) → Option (List ℕ) → Type 0
ReportsStop style cells (BadLine number fault) start old new =
    IfSome start (λ octets. FindsBadLine style cells fault octets old new)
ReportsStop style cells (Failed failure) start old new = Unit {0}

abbrev pub ReportsBad : Style → List CellDescription → Option (List ℕ) → Option (List ℕ)
    → Option (List ℕ) → Type 0
ReportsBad style cells start old new =
    IfSome start (λ octets. (fault : LineFault) × FindsBadLine style cells fault octets old new)
