-- SPDX-License-Identifier: MIT OR Apache-2.0
-- The view of the call worker in contracts.
use Rattle.std.specs.Prelude.{ℕ}
use Rattle.controller_worker.specs.declared.worker.CallWorker.{CallWorker}
use Rattle.controller_worker.specs.Advancing.{State}

abbrev pub seen : {K : Type 0} → (K → ℕ) → CallWorker K → State
seen told w = record {
  controller = w.controller;
  desk = w.desk;
  putters = w.putters.items;
  marks = w.marks.items;
  ended = w.ended;
  told = told w.clock;
  gathered = w.gathered;
}
