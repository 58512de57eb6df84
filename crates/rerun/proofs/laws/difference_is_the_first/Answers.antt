-- SPDX-License-Identifier: MIT OR Apache-2.0
use Rattle.rerun.proofs.Differing.{differs}
use Rattle.rerun.proofs.laws.difference_is_the_first.Goals as goal

pub returns : goal.returns
returns c = differs
