-- SPDX-License-Identifier: MIT OR Apache-2.0
use Rattle.std.proofs.Common.{◌≡◌, []}
use Rattle.crossbeam_queue.specs.Passes.{IsPassOf, view}
use Rattle.ruled_relay.specs.Rule.{known, left_over}
use Rattle.ruled_relay.proofs.end.tell_room.Given as goal

abbrev pub invariant-loop : goal.invariant-loop
invariant-loop g l = IsPassOf l.fn.queue l.pass × (view l.pass ≡ known l.counter (left_over [] []))
