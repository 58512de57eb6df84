-- SPDX-License-Identifier: MIT OR Apache-2.0
use Rattle.std.proofs.Common.{rules, tests, ◌==◌, ◌&&◌, not, ◌∙◌}
use Rattle.std.proofs.lemmas.Iterator.Consumers.{YieldsList-from_deque}
use Rattle.std.proofs.lemmas.Iterator.Search.{any_from_yields_List}
use Rattle.conn_rules.specs.declared.state.Drain.{Drain}
use Rattle.conn_fsm.proofs.OldChannels.{some_drains}
use Rattle.conn_fsm.proofs.drains.Drains.drains_at.Goals as goal

pub returns : goal.returns
returns c =
    any_from_yields_List (λ (d : Drain). (d.channel.station == c.args.station) && not d.is_done) _ _ c.any.result c.any.ensures.ran
    (YieldsList-from_deque c.args.self.now cc) (λ x b q k. search (rules, tests))
    ∙ some_drains c.args.station c.args.self.now
