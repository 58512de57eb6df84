-- SPDX-License-Identifier: MIT OR Apache-2.0
use Rattle.std.proofs.Common.{not, rules}
use Rattle.std.proofs.lemmas.Fn.{filter_same}
use Rattle.run_judge.specs.declared.connection.Tenure.{Tenure}
use Rattle.run_judge.specs.Connection.{is_same}
use Rattle.run_judge.proofs.connection.leave.Goals as goal

pub returns : goal.returns
returns c = filter_same _ (λ (t : Tenure). not (is_same t.at c.args.at)) _ (λ x b g called. (search rules, search rules)) _ _ c.retain.ensures.filtered
