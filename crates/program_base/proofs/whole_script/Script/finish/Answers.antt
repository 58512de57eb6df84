-- SPDX-License-Identifier: MIT OR Apache-2.0
use Rattle.std.proofs.Common.{append-nil, rules, subst}
use Rattle.program_base.specs.WholeScript.{RefusesLine}
use Rattle.program_io.specs.declared.failure.Failure.TheVariants.{BadEvent}
use Rattle.program_io.proofs.Ends.{error_as}
use Rattle.program_base.proofs.Scripts.{has_octets}
use Rattle.program_base.proofs.whole_script.Script.finish.Goals as goal

pub returns-in_err-end_line-clause-bad : goal.returns-in_err-end_line-clause-bad
returns-in_err-end_line-clause-bad c = λ n is.
    let same = error_as c.from_residual.result _ (BadEvent n) c.from_residual.ensures.1 is in
    (has_octets c.args.self.started.items (search rules), subst (λ line. RefusesLine c.args.self line n) (append-nil c.args.self.started.items) (c.in_err-end_line.ensures.bad n (cc same)))
