-- SPDX-License-Identifier: MIT OR Apache-2.0
use Rattle.std.proofs.Common.{◌≡◌}
use Rattle.run_judge.proofs.JudgeLemmas.{unjudged_first}
use Rattle.run_judge.proofs.judge.Judge.miss.Given as goal

abbrev pub invariant-loop-index : goal.invariant-loop-index
invariant-loop-index l = record {
  entries : l.self.connections.entries ≡ unjudged_first l.frame l.index l.initial.self.connections.entries;
  rest : l.self ≡ record l.initial.self { connections = l.self.connections };
}
