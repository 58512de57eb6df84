-- SPDX-License-Identifier: MIT OR Apache-2.0
use Rattle.program_base.proofs.Decoding.{refused_only}
use Rattle.program_base.proofs.decode_command.decode_as.Goals as goal

pub returns-in-Ok-clause-long : goal.returns-in-Ok-clause-long
returns-in-Ok-clause-long g c = refused_only g.L.FrameLine.line _ _ _ _ c.in-Ok.ensures.printed
