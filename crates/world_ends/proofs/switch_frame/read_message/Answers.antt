-- SPDX-License-Identifier: MIT OR Apache-2.0
use Rattle.std.proofs.Common.{arith}
use Rattle.world_ends.proofs.SwitchWritten.{read_short}
use Rattle.world_ends.proofs.switch_frame.read_message.Goals as goal

pub returns-in-Ok-clause-short : goal.returns-in-Ok-clause-short
returns-in-Ok-clause-short c = read_short c.args.octets.now c.in-Ok.message (λ i. omega (arith, c.type_inv.octets i)) c.in-Ok.ensures.found
