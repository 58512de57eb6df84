-- SPDX-License-Identifier: MIT OR Apache-2.0
-- The settings and the reports are those of the averages' view.
use Rattle.std.proofs.Common.{ap, ◌∙◌}
use Rattle.ho_decision.specs.Settings.{Settings}
use Rattle.ho_decision.specs.State.{State}
use Rattle.ho_decision.specs.Decision.{average_at}
use Rattle.ho_decision.proofs.averages.Averages.level_at.Goals as goal

pub returns : goal.returns
returns c =
    c.average_level.ensures
    ∙ ap (λ (state : State). average_at c.args.settings.now state.reports c.args.place) c.self.view_is
    ∙ ap (λ (s : Settings). average_at s c.args.self.now.reports c.args.place) c.requires.same
