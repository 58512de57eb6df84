-- SPDX-License-Identifier: MIT OR Apache-2.0
use Rattle.dtap_codec.specs.Number.{count_of}
use Rattle.run_judge.proofs.JudgeLemmas.{entries_at-empty}
use Rattle.run_judge.proofs.judge.Judge.new.Goals as goal

pub returns : goal.returns
returns c = λ i. record {
  modulus = count_of c.args.modulus;
  cells = c.args.cells.items;
  begun = 0;
  connections = entries_at-empty c.new.result.entries c.new.ensures.empty i;
  by_switch = entries_at-empty c.new-2.result.entries c.new-2.ensures.empty i;
  channels = c.new-3.ensures i;
}
