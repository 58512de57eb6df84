-- SPDX-License-Identifier: MIT OR Apache-2.0
use Rattle.std.proofs.Common.{Some}
use Rattle.dtap_codec.specs.declared.sapi.Sapi.TheVariants.{Zero}
use Rattle.link_model.specs.Base.{after_establish}
use Rattle.link_model.specs.Message.{establish_indication}
use Rattle.world_ends.proofs.Written.{done_written, told_written, initial_written}
use Rattle.world_ends.proofs.base_station.BaseStation.bring_initial.Goals as goal

pub invariant_of-self : goal.invariant_of-self
invariant_of-self c =
    done_written c.establish.result c.self.inside.base (after_establish c.self.inside.base c.args.channel Zero (Some c.args.frame.now)) c.establish.new.self c.self.invariant
    (told_written c.self.inside.base (establish_indication c.args.channel Zero (Some c.args.frame.now)) (initial_written c.args.channel Zero c.args.frame.now c.requires.l3) c.self.invariant) c.establish.ensures.ok c.establish.ensures.err
