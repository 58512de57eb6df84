-- SPDX-License-Identifier: MIT OR Apache-2.0
use Rattle.world_laws.proofs.SapiThreeHeld.{flow_arrives_on_sapi_zero_new}
use Rattle.world_laws.proofs.laws.flow_arrives_on_sapi_zero.Goals as goal

pub returns : goal.returns
returns c = flow_arrives_on_sapi_zero_new
