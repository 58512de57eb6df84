-- SPDX-License-Identifier: MIT OR Apache-2.0
use Rattle.std.proofs.Common.{refl, ◌∙◌}
use Rattle.program_io.proofs.Lists.{all_of}
use Rattle.program_base.proofs.FirstLines.{line_found, no_line}
use Rattle.program_base.proofs.first_line.split_first_line.Goals as goal

pub returns-in-Some-clause-line : goal.returns-in-Some-clause-line
returns-in-Some-clause-line c = (line_found c.args.script.now c.in-Some.end c.in-Some.ensures).0

pub returns-in-Some-clause-others : goal.returns-in-Some-clause-others
returns-in-Some-clause-others c = all_of c.args.script.now _ _ refl ∙ (line_found c.args.script.now c.in-Some.end c.in-Some.ensures).1

pub returns-in-None-clause-line : goal.returns-in-None-clause-line
returns-in-None-clause-line c = (no_line c.args.script.now c.in-None.ensures).0

pub returns-in-None-clause-others : goal.returns-in-None-clause-others
returns-in-None-clause-others c = (no_line c.args.script.now c.in-None.ensures).1
