-- SPDX-License-Identifier: MIT OR Apache-2.0
use Rattle.std.proofs.Common.{[]}
use Rattle.mobile_end.specs.Mobile.{new_mobile}
use Rattle.mobile_end.proofs.Lives.{OneRepeat-calls, IsGoing-new}
use Rattle.mobile_end.proofs.laws.repeats_at_most_one.Goals as goal

pub returns : goal.returns
returns c m calls = OneRepeat-calls m [] (new_mobile m) [] calls (IsGoing-new m)
