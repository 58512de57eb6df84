-- SPDX-License-Identifier: MIT OR Apache-2.0
use Rattle.std.proofs.Common.{[], ◌∷◌, ap, ◌∙◌}
use Rattle.ruled_relay.specs.declared.item.What.TheVariants.{Down}
use Rattle.link_workers.specs.Reading.{having_put}
use Rattle.link_workers.proofs.Letting.{all_down, puts_down}
use Rattle.link_workers.proofs.reader.put_down.Goals as goal

pub returns-clause-puts : goal.returns-clause-puts
returns-clause-puts g c =
    puts_down c.args.gated.now.limit _ _ c.args.gated.now.pass c.put_once_there_is_room.new.pass c.args.fault c.ask_for_down-fault.result c.ask_for_down-fault.ensures.asks
    (c.put_once_there_is_room.ensures ∙ ap (λ p. having_put p (Down ∷ [])) c.ask_for_down-fault.ensures.same.1)

pub returns-clause-asked : goal.returns-clause-asked
returns-clause-asked g c =
    all_down c.ask_for_down-fault.result _ _ c.args.gated.now.pass c.put_once_there_is_room.new.pass c.ask_for_down-fault.ensures.passed
    (c.put_once_there_is_room.ensures ∙ ap (λ p. having_put p (Down ∷ [])) c.ask_for_down-fault.ensures.same.1)
