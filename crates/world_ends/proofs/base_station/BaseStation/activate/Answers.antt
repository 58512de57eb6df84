-- SPDX-License-Identifier: MIT OR Apache-2.0
use Rattle.std.proofs.Common.{◌∷◌, [], ◌++◌}
use Rattle.link_model.specs.Base.{after_activate}
use Rattle.link_model.specs.Message.{activation_ack}
use Rattle.world_ends.proofs.Written.{done_written, told_written, ack_written}
use Rattle.world_ends.proofs.base_station.BaseStation.activate.Goals as goal

pub invariant_of-self : goal.invariant_of-self
invariant_of-self c =
    done_written c.activate.result c.self.inside.base (after_activate c.self.inside.base c.args.channel) c.activate.new.self c.self.invariant
    (told_written (record c.self.inside.base { active = c.self.inside.base.active ++ c.args.channel ∷ [] }) (activation_ack c.args.channel) (ack_written c.args.channel) c.self.invariant) c.activate.ensures.ok c.activate.ensures.err
