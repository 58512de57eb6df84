-- SPDX-License-Identifier: MIT OR Apache-2.0
use Rattle.std.proofs.Common.{sym, subst}
use Rattle.program_base.specs.Script.{IsLine}
use Rattle.program_base.proofs.script.read_line.Goals as goal

pub returns-clause-only : goal.returns-clause-only
returns-clause-only c event is = c.read_octets.ensures.only event (subst (IsLine c.args.cells event) (sym c.as_bytes.ensures.value) is)
