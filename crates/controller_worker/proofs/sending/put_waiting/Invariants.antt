-- SPDX-License-Identifier: MIT OR Apache-2.0
use Rattle.std.proofs.Common.{[]}
use Rattle.controller_worker.specs.Advancing.{SendsSome}
use Rattle.controller_worker.proofs.sending.put_waiting.Given as goal

abbrev pub invariant-loop : goal.invariant-loop
invariant-loop g l = SendsSome l.fn.putter l.fn.waiting [] l.putter l.waiting
