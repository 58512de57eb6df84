-- SPDX-License-Identifier: MIT OR Apache-2.0
use Rattle.world_laws.proofs.Order.LineUps.{all_numbers_are_somewhere_new, all_places_rise_new}
use Rattle.world_laws.proofs.order_laws.each_number_is_somewhere.Goals as goal

pub returns-clause-numbers : goal.returns-clause-numbers
returns-clause-numbers c = all_numbers_are_somewhere_new

pub returns-clause-rise : goal.returns-clause-rise
returns-clause-rise c = all_places_rise_new
