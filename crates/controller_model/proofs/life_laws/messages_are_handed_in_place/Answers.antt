-- SPDX-License-Identifier: MIT OR Apache-2.0
use Rattle.controller_model.proofs.LifeLaws.HandingLife.{life_hands}
use Rattle.controller_model.proofs.life_laws.messages_are_handed_in_place.Goals as goal

pub returns : goal.returns
returns c p steps number from_one = life_hands p steps number from_one
