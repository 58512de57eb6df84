-- SPDX-License-Identifier: MIT OR Apache-2.0
use Rattle.std.proofs.Common.{refl}
use Rattle.run_judge.specs.JudgeState.{shown}
use Rattle.run_judge.proofs.JudgeLemmas.{with_new-inserted}
use Rattle.run_judge.proofs.judge.Judge.keep.Goals as goal

pub returns : goal.returns
returns c =
    with_new-inserted (shown c.args.self.now) c.args.self.now.connections.entries c.insert.new.self.entries c.args.source c.args.connection c.args.connection refl
    c.in_ok-insert.ensures.updates.0
