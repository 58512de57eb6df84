-- SPDX-License-Identifier: MIT OR Apache-2.0
use Rattle.std.specs.List.{All, AllWithin}
use Rattle.dtap_codec.specs.declared.report.Neighbour.{Neighbour}
use Rattle.dtap_codec.specs.Report.{neighbours_of}
use Rattle.ho_decision.specs.Heard.{IsWithin}
use Rattle.ho_decision.proofs.heard.note_reports.Given as goal

-- the entries of the reports so far are within, and what was
abbrev pub invariant-loop-report : goal.invariant-loop-report
invariant-loop-report l = record {
  noted : AllWithin (λ r. All (IsWithin l.greatest) (neighbours_of r)) l.reports 0 l.report-index;
  kept : (n : Neighbour) → IsWithin l.initial.greatest n → IsWithin l.greatest n;
}
