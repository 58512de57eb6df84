-- SPDX-License-Identifier: MIT OR Apache-2.0
use Rattle.std.proofs.Common.{inr, refl}
use Rattle.judge_lines.proofs.Wanting.{body_wants}
use Rattle.judge_lines.proofs.body.read_body.Goals as goal

pub returns-in-Err-OutOfMemory : goal.returns-in-Err-OutOfMemory
returns-in-Err-OutOfMemory c = inr (refl, body_wants c.args.digits.now)
