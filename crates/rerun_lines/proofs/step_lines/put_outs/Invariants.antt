-- SPDX-License-Identifier: MIT OR Apache-2.0
use Rattle.std.proofs.Common.{◌≡◌, ◌++◌, take}
use Rattle.std.specs.List.{flat_map}
use Rattle.dtap_codec.specs.Number.{count_of}
use Rattle.rerun_lines.specs.StepText.{out_shown}
use Rattle.rerun_lines.proofs.step_lines.put_outs.Given as goal

abbrev pub invariant-loop-out : goal.invariant-loop-out
invariant-loop-out l = l.text.items ≡ l.fn.text.items
    ++ flat_map (out_shown (count_of l.view.modulus) l.view.choice l.mark) (take l.out-index l.outs)
