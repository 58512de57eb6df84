-- SPDX-License-Identifier: MIT OR Apache-2.0
use Rattle.std.proofs.Common.{rules, tests, ◌&&◌, not, ◌∙◌}
use Rattle.std.proofs.lemmas.Iterator.Consumers.{YieldsList-from_deque}
use Rattle.std.proofs.lemmas.Iterator.Search.{position_from_yields_List}
use Rattle.conn_rules.specs.declared.state.Drain.{Drain}
use Rattle.conn_rules.specs.Connection.{is_at}
use Rattle.conn_fsm.proofs.OldChannels.{place_is}
use Rattle.conn_fsm.proofs.drains.Drains.place_of.Goals as goal

pub returns : goal.returns
returns c =
    position_from_yields_List (λ (d : Drain). is_at c.args.at.now d.channel && not d.is_done) _ _ c.position.result c.position.ensures.ran
    (YieldsList-from_deque c.args.self.now cc) (λ x b q k. search (rules, tests))
    ∙ place_is c.args.at.now c.args.self.now
