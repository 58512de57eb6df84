-- SPDX-License-Identifier: MIT OR Apache-2.0
-- The work that each thread of the relay is given.
use Rattle.std.specs.Prelude.{◌≡◌, ℕ, List, [], length, map, vec_len}
use Rattle.controller_worker.specs.Call.{AreNew, AreUnmarked}
use Rattle.controller_worker.specs.declared.mark.Marks.{Marks}
use Rattle.ruled_relay.specs.Inbox.{PassView, queues_of}
use Rattle.ruled_relay.specs.Outbox.{PutterView, TakerView}
use Rattle.ruled_relay.specs.Row.{EachAt, Row}
use Rattle.station_io.specs.declared.link.Link.{Link}
use Rattle.station_io.specs.declared.work.Calling.{Calling}
use Rattle.station_io.specs.declared.work.Reading.{Reading}
use Rattle.station_io.specs.declared.work.Writing.{Writing}
use Rattle.station_io.specs.Pairs.{paired}
use Rattle.std.specs.declared.alloc.Global.{Global}

module _ {I O G : Type 0} where
  abbrev pub reading : Global → ℕ → Link I O G → PassView → Reading I G
  reading alloc limit link pass = record {
    alloc = alloc;
    reader = link.reader;
    gate = link.gate;
    pass = pass;
    limit = limit;
  }

  abbrev pub writing : Global → Link I O G → TakerView → Writing O
  writing alloc link taker = record { alloc = alloc; writer = link.writer; taker = taker }

  abbrev pub readings : Global → ℕ → List (Link I O G) → List PassView → List (Reading I G)
  readings alloc limit links passes = paired (reading alloc limit) links passes

  abbrev pub writings : Global → List (Link I O G) → List TakerView → List (Writing O)
  writings alloc links takers = paired (writing alloc) links takers

-- No line was put into an outbox, no outbox has refused a line, each source has an outbox, and no
-- link has a mark.
abbrev pub AreReady : ℕ → Row → List PutterView → Marks → Type 0
AreReady links desk putters marks =
    AreNew putters × (length desk ≡ links) × AreUnmarked links marks

-- the call worker may begin
abbrev pub MayCall : {K : Type 0} → Calling K → Type 0
MayCall calling =
    AreReady (vec_len calling.putters) calling.desk calling.putters.items calling.marks

-- the capacity of a link's queue: items in the inbox, lines in the outbox
abbrev pub most_waiting : ℕ
most_waiting = 1024

-- `count` new outboxes; the putter and the taker at the same place are the ends of one outbox
abbrev pub AreNewOutboxes : ℕ → List PutterView → List TakerView → Type 0
AreNewOutboxes count putters takers =
    (length putters ≡ count) × (length takers ≡ count) × AreNew putters
    × EachAt takers (λ link t. t.taken ≡ [])
    × (map (λ (p : PutterView). p.queue) putters ≡ map (λ (t : TakerView). t.queue) takers)
    × EachAt takers (λ link t. t.capacity ≡ most_waiting)

-- `count` new queues of an inbox; the end in the desk and the pass at the same place are the ends
-- of one queue
abbrev pub AreNewQueues : ℕ → Row → List PassView → Type 0
AreNewQueues count desk passes =
    (length desk ≡ count) × (length passes ≡ count)
    × EachAt desk (λ link e. e.seen.taken ≡ []) × EachAt passes (λ link p. p.put ≡ [])
    × (queues_of desk ≡ map (λ (p : PassView). p.queue) passes)
    × EachAt passes (λ link p. p.capacity ≡ most_waiting)

-- The works of the links' readers and writers have their ends of new queues; `desk` and `putters`
-- are the other ends of these queues.
pub record HaveQueues {I O G : Type 0} (alloc : Global) (limit : ℕ) (links : List (Link I O G))
    (read : List (Reading I G)) (written : List (Writing O)) (desk : Row)
    (putters : List PutterView) : Type 0 where
  pub passes : List PassView
  pub takers : List TakerView
  pub inbox : AreNewQueues (length links) desk passes
  pub outboxes : AreNewOutboxes (length links) putters takers
  pub readers : read ≡ readings alloc limit links passes
  pub writers : written ≡ writings alloc links takers
