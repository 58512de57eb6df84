-- SPDX-License-Identifier: MIT OR Apache-2.0
use Rattle.std.proofs.Common.{None}
use Rattle.link_model.specs.Base.{after_establish}
use Rattle.link_model.specs.Message.{establish_indication}
use Rattle.world_ends.proofs.Written.{done_written, told_written, establishment_written}
use Rattle.world_ends.proofs.base_station.BaseStation.establish.Goals as goal

pub invariant_of-self : goal.invariant_of-self
invariant_of-self c =
    done_written c.establish.result c.self.inside.base (after_establish c.self.inside.base c.args.channel c.args.sapi None) c.establish.new.self c.self.invariant
    (told_written c.self.inside.base (establish_indication c.args.channel c.args.sapi None) (establishment_written c.args.channel c.args.sapi) c.self.invariant) c.establish.ensures.ok c.establish.ensures.err
