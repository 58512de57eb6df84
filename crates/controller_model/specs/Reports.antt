-- SPDX-License-Identifier: MIT OR Apache-2.0
-- Measurement reports, and the decision over them.
use Rattle.std.specs.Prelude.{ℕ, ◌+◌, ◌/◌, ◌%◌, ◌^◌, ◌==◌, ◌&&◌, nat_le}
use Rattle.std.specs.Prelude.{Bool, true, false, not}
use Rattle.std.specs.Prelude.{List, [], ◌∷◌, find, filter, map, Option, Some, None}
use Rattle.std.specs.List.{list_all}
use Rattle.std.specs.Int.{from_be_bytes, w128}
use Rattle.dtap_codec.specs.declared.report.Neighbour.{Neighbour}
use Rattle.controller_model.specs.Prelude.{Report}
use Rattle.ho_decision.specs.declared.decision.Decision.{Decision}
use Rattle.ho_decision.specs.declared.decision.Decision.TheVariants.{Stay, Move}
use Rattle.ho_decision.specs.Decision.{is_due, bound, average_at}
use Rattle.ho_decision.specs.Settings.{Settings}

-- ---- the report in 16 octets (TS 44.018 clause 10.5.2.20)

-- the field of `width` bits in a number, with `behind` bits after the field
abbrev pub bits : ℕ → ℕ → ℕ → ℕ
bits width behind number = (number / 2 ^ behind) % 2 ^ width

abbrev pub entry_in : ℕ → ℕ → Neighbour
entry_in behind number =
    record {
      rxlev =
          bits 6 (behind + 11) number;
      bcch_freq = bits 5 (behind
          + 6) number;
      bsic = bits 6 behind number;
    }

abbrev pub report_in : ℕ → Report
report_in number = record {
  ba_used = bits 1 127 number;
  dtx_used = bits 1 126 number == 1;
  rxlev_full = bits 6 120 number;
  valid = bits 1 118 number == 0;
  rxlev_sub = bits 6 112 number;
  rxqual_full = bits 3 108 number;
  rxqual_sub = bits 3 105 number;
  no_ncell = bits 3 102 number;
  entries = map (λ behind. entry_in behind number) (85 ∷ 68 ∷ 51 ∷ 34 ∷ 17 ∷ 0 ∷ []);
}

unfoldable pub report_reading : List ℕ → Report
report_reading octets = report_in (from_be_bytes w128 octets)

-- ---- the decision

-- the places of the elements of a list, counted from `first`
abbrev pub places_from : {X : Type 0} → ℕ → List X → List ℕ
places_from first [] = []
places_from first (x ∷ xs) = first ∷ places_from (first + 1) xs

-- the cell at the place isn't the serving one, and its average reaches the bound
abbrev pub reaches : Settings → List Report → ℕ → Bool
reaches s reports place = not (place + 1 == s.serving) && nat_le (bound s reports)
    (average_at s reports place)

-- the places of the cells that reach the bound
abbrev pub reaching : Settings → List Report → List ℕ
reaching s reports = filter (reaches s reports) (places_from 0 s.cells)

-- no cell at one of the places has a greater average than the cell at this place
abbrev pub is_greatest : Settings → List Report → List ℕ → ℕ → Bool
is_greatest s reports places place =
    list_all (λ other. nat_le (average_at s reports other) (average_at s reports place)) places

-- the first place with the greatest average among the cells that reach the bound
abbrev pub best : Settings → List Report → Option ℕ
best s reports = find (is_greatest s reports (reaching s reports)) (reaching s reports)

-- the decision to move to the cell at a place; the number of a cell is its place plus 1
abbrev pub moving_to : Option ℕ → Decision
moving_to None = Stay
moving_to (Some place) = Move (place + 1)

abbrev pub decision_where : Bool → Settings → List Report → Decision
decision_where true s reports = moving_to (best s reports)
decision_where false s reports = Stay

-- the decision over these reports: Stay if there is no report or if the levels aren't compared
abbrev pub decision_over : Settings → List Report → ℕ → Decision
decision_over s [] number = Stay
decision_over s (r ∷ rs) number = decision_where (is_due s (r ∷ rs) number) s (r ∷ rs)
