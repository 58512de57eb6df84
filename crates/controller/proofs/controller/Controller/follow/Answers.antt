-- SPDX-License-Identifier: MIT OR Apache-2.0
use Rattle.controller.proofs.Prelude.{ap, ◌∙◌, IsSound}
use Rattle.conn_rules.proofs.DownlinkMessages.{AllByRecursion-so}
use Rattle.conn_messages.specs.Out.{IsLawfulMessage}
use Rattle.controller.specs.contracts.controller.Controller.{the_view}
use Rattle.controller.specs.Doing.{following}
use Rattle.controller.proofs.Stepping.{followed}
use Rattle.controller.proofs.controller.Controller.follow.Goals as goal

pub returns : goal.returns
returns c = λ messages sound is.
    followed (the_view c.self.inside) c.args.number messages _ _
    (c.follow.ensures messages (AllByRecursion-so IsSound IsLawfulMessage (λ m one. one.1) messages sound) is)
    (c.handovers_begun-begun.ensures c.args.number messages (AllByRecursion-so IsSound IsLawfulMessage (λ m one. one.1) messages sound) is)
    ∙ ap (following c.args.number messages) c.self.view_is
