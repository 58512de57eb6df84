-- SPDX-License-Identifier: MIT OR Apache-2.0
use Rattle.world_laws.proofs.Order.Modulus.{switch_modulus}
use Rattle.world_laws.proofs.order_laws.switch_is_of_modulus.Goals as goal

pub returns : goal.returns
returns c = switch_modulus
