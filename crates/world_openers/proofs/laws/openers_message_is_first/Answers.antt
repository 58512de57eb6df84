-- SPDX-License-Identifier: MIT OR Apache-2.0
use Rattle.world_openers.proofs.Openers.{openers_messages_are_first_new}
use Rattle.world_openers.proofs.laws.openers_message_is_first.Goals as goal

pub returns : goal.returns
returns c = openers_messages_are_first_new
