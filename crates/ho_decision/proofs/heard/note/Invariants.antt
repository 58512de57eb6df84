-- SPDX-License-Identifier: MIT OR Apache-2.0
use Rattle.std.specs.List.{AllWithin}
use Rattle.dtap_codec.specs.declared.report.Neighbour.{Neighbour}
use Rattle.ho_decision.specs.Heard.{IsWithin}
use Rattle.ho_decision.proofs.heard.note.Given as goal

-- the entries so far are within, and what was
abbrev pub invariant-loop-entry : goal.invariant-loop-entry
invariant-loop-entry l = record {
  noted : AllWithin (IsWithin l.greatest) l.entries 0 l.entry-index;
  kept : (n : Neighbour) → IsWithin l.initial.greatest n → IsWithin l.greatest n;
}
