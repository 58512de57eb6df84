-- SPDX-License-Identifier: MIT OR Apache-2.0
-- Upper bounds of the levels in reports, one for each value of BCCH-FREQ.
use Rattle.std.specs.Prelude.{◌≤◌, ℕ, List, slice_index}
use Rattle.std.specs.List.{All}
use Rattle.dtap_codec.specs.declared.report.Neighbour.{Neighbour}
use Rattle.dtap_codec.specs.declared.report.Report.{Report}
use Rattle.dtap_codec.specs.Report.{neighbours_of}
use Rattle.ho_decision.specs.declared.heard.Heard.{Heard}

-- an entry's level is at most the bound for the entry's BCCH-FREQ
abbrev pub IsWithin : List ℕ → Neighbour → Type 0
IsWithin greatest n = n.rxlev ≤ slice_index greatest n.bcch_freq

-- the level of each entry that counts in these reports is at most the bound for the entry's
-- BCCH-FREQ
abbrev pub AreWithin : List ℕ → List Report → Type 0
AreWithin greatest reports = All (λ r. All (IsWithin greatest) (neighbours_of r)) reports

abbrev pub AreHeard : List Report → Heard → Type 0
AreHeard reports heard = AreWithin heard.greatest reports
