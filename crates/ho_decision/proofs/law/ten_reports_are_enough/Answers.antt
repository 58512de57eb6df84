-- SPDX-License-Identifier: MIT OR Apache-2.0
use Rattle.ho_decision.specs.declared.settings.TheConstants.{MAX_WINDOW}
use Rattle.ho_decision.proofs.Ten.{serving_average-last, quality-last, neighbour_average-last, decides_last, decides_of_last, last-push}
use Rattle.ho_decision.proofs.law.ten_reports_are_enough.Goals as goal

pub returns : goal.returns
returns c = record {
  serving = serving_average-last;
  quality = quality-last;
  neighbour = neighbour_average-last;
  decision = λ s all number d allowed. (decides_last s all number d allowed, decides_of_last s all number d allowed);
  one_more = last-push MAX_WINDOW;
}
