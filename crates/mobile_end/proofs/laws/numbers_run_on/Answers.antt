-- SPDX-License-Identifier: MIT OR Apache-2.0
use Rattle.mobile_end.proofs.GoingOnByCalls.{rise_calls}
use Rattle.mobile_end.proofs.laws.numbers_run_on.Goals as goal

pub returns : goal.returns
returns c m calls = rise_calls m calls
