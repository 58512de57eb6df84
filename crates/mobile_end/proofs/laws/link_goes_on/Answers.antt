-- SPDX-License-Identifier: MIT OR Apache-2.0
use Rattle.mobile_end.proofs.GoingOnByCalls.{continues_by_calls}
use Rattle.mobile_end.proofs.laws.link_goes_on.Goals as goal

pub returns : goal.returns
returns c m calls = continues_by_calls m calls
