-- SPDX-License-Identifier: MIT OR Apache-2.0
use Rattle.ruled_relay.proofs.Moves.{widens}
use Rattle.ruled_relay.proofs.end.tell_room.Goals as goal

pub another-requires-clause-rule : goal.another-requires-clause-rule
another-requires-clause-rule g c = widens _ _
