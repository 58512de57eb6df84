-- SPDX-License-Identifier: MIT OR Apache-2.0
use Rattle.std.proofs.Common.{not, ◌==◌, filter}
use Rattle.link_model.specs.Base.{after_release}
use Rattle.rsl_codec.specs.declared.rsl.Rsl.TheVariants.{RfChannelReleaseAck}
use Rattle.world_ends.proofs.Written.{done_written, told_written, release_written}
use Rattle.world_ends.proofs.base_station.BaseStation.release.Goals as goal

pub invariant_of-self : goal.invariant_of-self
invariant_of-self c =
    done_written c.release.result c.self.inside.base (after_release c.self.inside.base c.args.channel) c.release.new.self c.self.invariant
    (told_written (record c.self.inside.base { active = filter (λ number. not (number == c.args.channel)) c.self.inside.base.active }) (RfChannelReleaseAck c.args.channel) (release_written c.args.channel) c.self.invariant) c.release.ensures.ok c.release.ensures.err
