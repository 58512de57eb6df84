-- SPDX-License-Identifier: MIT OR Apache-2.0
use Rattle.std.proofs.Common.{◌∙◌, sym}
use Rattle.run_judge.proofs.Dues.{above-taken}
use Rattle.run_judge.proofs.stream.take_at.Goals as goal

pub returns-clause-above : goal.returns-clause-above
returns-clause-above c high =
    above-taken high c.args.place c.args.due.now.items _ c.pop_front.result (sym c.drop_front.ensures ∙ c.pop_front.ensures.items)
