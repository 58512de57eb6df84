-- SPDX-License-Identifier: MIT OR Apache-2.0
use Rattle.link_model.specs.Base.{after_up}
use Rattle.link_model.specs.Message.{data_indication}
use Rattle.world_ends.proofs.Written.{done_written, told_written, data_written}
use Rattle.world_ends.proofs.base_station.BaseStation.bring_data.Goals as goal

pub invariant_of-self : goal.invariant_of-self
invariant_of-self c =
    done_written c.up.result c.self.inside.base (after_up c.self.inside.base c.args.channel c.args.sapi c.args.frame.now) c.up.new.self c.self.invariant
    (told_written c.self.inside.base (data_indication c.args.channel c.args.sapi c.args.frame.now) (data_written c.args.channel c.args.sapi c.args.frame.now c.requires.l3) c.self.invariant) c.up.ensures.ok c.up.ensures.err
