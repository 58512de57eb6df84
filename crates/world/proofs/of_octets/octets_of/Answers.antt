-- SPDX-License-Identifier: MIT OR Apache-2.0
use Rattle.std.proofs.Common.{arith}
use Rattle.world.proofs.of_octets.octets_of.Goals as goal

pub returns : goal.returns
returns c i = omega (arith, c.type_inv.octets i)
