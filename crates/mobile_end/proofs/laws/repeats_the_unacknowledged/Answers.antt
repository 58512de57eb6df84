-- SPDX-License-Identifier: MIT OR Apache-2.0
use Rattle.mobile_end.proofs.Acknowledging.{repeats_calls, IsHeard-new}
use Rattle.mobile_end.specs.Mobile.{new_mobile}
use Rattle.std.proofs.Common.{[]}
use Rattle.mobile_end.proofs.laws.repeats_the_unacknowledged.Goals as goal

pub returns : goal.returns
returns c m calls = repeats_calls m [] (new_mobile m) [] [] calls (IsHeard-new m)
