-- SPDX-License-Identifier: MIT OR Apache-2.0
-- The value of a measurement report, bit by bit (TS 44.018 clause 10.5.2.20).
use Rattle.std.specs.Prelude.{◌≡◌, ℕ, ◌≤◌, nat_le, Bool, true, false, not, List, []}
use Rattle.std.specs.Prelude.{◌∷◌, ◌++◌}
use Rattle.std.specs.Prelude.{length, take, if◌then◌else◌}
use Rattle.std.specs.Int.{from_be_bytes, w128}
use Rattle.dtap_codec.specs.Bits.{Field, field, number_of, Fit}
use Rattle.dtap_codec.specs.declared.report.Neighbour.{Neighbour}
use Rattle.dtap_codec.specs.declared.report.Report.{Report}
use Rattle.dtap_codec.specs.declared.report.TheConstants.{REPORT_ENTRIES, REPORT_LENGTH}

-- one bit, 1 for true
abbrev pub bit : Bool → ℕ
bit true = 1
bit false = 0

-- the fields of a neighbour's entry: RXLEV, BCCH-FREQ, BSIC
abbrev pub entry_fields : Neighbour → List Field
entry_fields n = field 6 n.rxlev ∷ field 5 n.bcch_freq ∷ field 6 n.bsic ∷ []

abbrev pub entries_fields : List Neighbour → List Field
entries_fields [] = []
entries_fields (n ∷ ns) = entry_fields n ++ entries_fields ns

-- The fields of a report in order. `second` and `third` are the ignored first bits of octets 2 and
-- 3 of the value.
abbrev pub report_fields : ℕ → ℕ → Report → List Field
report_fields second third r =
    field 1 r.ba_used ∷ field 1 (bit r.dtx_used) ∷ field 6 r.rxlev_full
    ∷ field 1 second ∷ field 1 (bit (not r.valid)) ∷ field 6 r.rxlev_sub
    ∷ field 1 third ∷ field 3 r.rxqual_full ∷ field 3 r.rxqual_sub ∷ field 3 r.no_ncell
    ∷ entries_fields r.entries

-- The number's 128 bits are the fields of this report. The report has six entries, and each value
-- fits its field.
pub record Writes (number : ℕ) (r : Report) : Type 0 where
  pub second : ℕ
  pub third : ℕ
  pub six : length r.entries ≡ REPORT_ENTRIES
  pub fit : Fit (report_fields second third r)
  pub text : number ≡ number_of (report_fields second third r)

-- The first 16 octets are the text of this report.
pub record IsReport (octets : List ℕ) (r : Report) : Type 0 where
  pub enough : REPORT_LENGTH ≤ length octets
  pub value : Writes (from_be_bytes w128 (take REPORT_LENGTH octets)) r

-- The entries that count: the first NO-NCELL entries, or no entry if NO-NCELL exceeds six.
abbrev pub neighbours_of : Report → List Neighbour
neighbours_of r = if nat_le r.no_ncell REPORT_ENTRIES then take r.no_ncell r.entries else []
