-- SPDX-License-Identifier: MIT OR Apache-2.0
use Rattle.std.proofs.Common.{refl}
use Rattle.dtap_codec.specs.Number.{count_of}
use Rattle.dtap_codec.proofs.Numbers.{count_of-two}
use Rattle.world.specs.Headline.Begins.{fixed}
use Rattle.world.proofs.world.World.fixed.Goals as goal

pub returns-clause-begins : goal.returns-clause-begins
returns-clause-begins c = rw c.new.ensures (fixed (count_of c.args.modulus) (count_of-two c.args.modulus))

pub returns-clause-made : goal.returns-clause-made
returns-clause-made c = rw c.new.ensures (record { begins = fixed (count_of c.args.modulus) (count_of-two c.args.modulus); octets = tt; made = refl })
