-- SPDX-License-Identifier: MIT OR Apache-2.0
use Rattle.std.proofs.Common.{◌≡◌, replicate}
use Rattle.controller_worker.specs.Advancing.{unmarked}
use Rattle.controller_worker.proofs.mark.Marks.new.Given as goal

abbrev pub invariant-loop : goal.invariant-loop
invariant-loop l = l.of_links.items ≡ replicate l.counter unmarked
