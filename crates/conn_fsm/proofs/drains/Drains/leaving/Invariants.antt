-- SPDX-License-Identifier: MIT OR Apache-2.0
use Rattle.std.proofs.Common.{◌≡◌, ◌+◌, drop}
use Rattle.conn_rules.specs.Steps.{done_at}
use Rattle.conn_fsm.specs.Leaving.{leaving}
use Rattle.conn_fsm.proofs.drains.Drains.leaving.Given as goal

abbrev pub invariant-loop-k : goal.invariant-loop-k
invariant-loop-k l = l.k + leaving (drop l.k (done_at l.place l.self)) ≡ leaving (done_at l.place l.self)
