-- SPDX-License-Identifier: MIT OR Apache-2.0
-- The results of the relay's threads.
use Rattle.std.specs.Prelude.{ℕ, List, length, Option}
use Rattle.std.specs.declared.alloc.Global.{Global}
use Rattle.controller_model.specs.Controller.{Controller}
use Rattle.link_workers.specs.Reading.{Serves}
use Rattle.link_workers.specs.Writing.{Delivers}
use Rattle.ruled_relay.specs.Inbox.{PassView}
use Rattle.ruled_relay.specs.Outbox.{PutterView, TakerView}
use Rattle.ruled_relay.specs.Row.{Row}
use Rattle.station_io.specs.declared.link.Link.{Link}
use Rattle.station_io.specs.declared.work.Calling.{Calling}
use Rattle.station_io.specs.declared.work.HasCalled.{HasCalled}
use Rattle.link_workers.specs.declared.reader.HasRead.{HasRead}
use Rattle.link_workers.specs.declared.writer.HasWritten.{HasWritten}
use Rattle.station_io.specs.declared.work.Reading.{Reading}
use Rattle.station_io.specs.declared.work.Writing.{Writing}
use Rattle.station_io.specs.Calls.{Runs}
use Rattle.station_io.specs.Work.{AreNewOutboxes, AreNewQueues, readings, writings}
use Rattle.thread_crew.specs.CrewDone.{AllDone}

-- Each reader has done its work. `remaining` gives the octets that are left in a reader, `refused`
-- how often a gate has refused.
abbrev pub AreRead : {I G : Type 0} → (I → Option (List ℕ)) → (G → ℕ) → List (Reading I G)
    → List (HasRead I G) → Type 0
AreRead remaining refused readings read =
    AllDone (λ w d. Serves (remaining w.reader) (remaining d.reader) w.limit
    (refused w.gate) (refused d.gate) w.pass d.pass d.fault) readings read

-- each writer has done its work; `contents` gives the octets that were written to a writer
abbrev pub AreWritten : {O : Type 0} → (O → Option (List ℕ)) → List (Writing O)
    → List (HasWritten O) → Type 0
AreWritten contents writings written =
    AllDone (λ w d. Delivers (contents w.writer) (contents d.writer) w.taker d.taker d.fault)
    writings written

-- the call worker has run without a fault
abbrev pub IsCalled : {K : Type 0} → Calling K → HasCalled → Type 0
IsCalled calling called =
    Runs calling.controller calling.desk calling.putters.items called.desk called.putters.items

-- All threads have ended: the queues that were made for the links, and the work that each thread
-- did with its ends of these queues.
pub record HasEnded {I O G : Type 0} (remaining : I → Option (List ℕ))
    (contents : O → Option (List ℕ)) (refused : G → ℕ) (start : Controller) (alloc : Global)
    (limit : ℕ) (links : List (Link I O G)) (read : List (HasRead I G))
    (written : List (HasWritten O)) (desk : Row) (putters : List PutterView) : Type 0 where
  pub first_desk : Row
  pub passes : List PassView
  pub first_putters : List PutterView
  pub takers : List TakerView
  pub inbox : AreNewQueues (length links) first_desk passes
  pub outboxes : AreNewOutboxes (length links) first_putters takers
  pub reads : AreRead remaining refused (readings alloc limit links passes) read
  pub writes : AreWritten contents (writings alloc links takers) written
  pub runs : Runs start first_desk first_putters desk putters
