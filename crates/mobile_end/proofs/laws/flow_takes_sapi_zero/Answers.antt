-- SPDX-License-Identifier: MIT OR Apache-2.0
use Rattle.mobile_end.specs.Mobile.{new_mobile}
use Rattle.mobile_end.proofs.OnSapiThree.{takes_no_flow}
use Rattle.mobile_end.proofs.laws.flow_takes_sapi_zero.Goals as goal

pub returns : goal.returns
returns c m calls = takes_no_flow (new_mobile m) calls tt
