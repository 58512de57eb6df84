-- SPDX-License-Identifier: MIT OR Apache-2.0
-- The queues of all links are made.
use Rattle.std.proofs.Common.{◌≡◌, ℕ, ◌+◌, List, [], ◌∷◌, ◌++◌, length, map, sym, ap, ◌∙◌, arith, length-append}
use Rattle.std.proofs.lemmas.List.{map-append}
use Rattle.ruled_relay.specs.declared.item.What.{What}
use Rattle.ruled_relay.proofs.Places.{there, within}
use Rattle.ruled_relay.specs.Ends.{EndView}
use Rattle.ruled_relay.specs.Inbox.{AreNewInbox, PassView, queues_of}
use Rattle.ruled_relay.specs.Outbox.{AreNewOutbox, PutterView, TakerView}
use Rattle.ruled_relay.specs.Row.{Row}
use Rattle.controller_worker.specs.Call.{IsNew}
use Rattle.station_io.specs.Work.{AreNewOutboxes, AreNewQueues, most_waiting}
use Rattle.station_io.proofs.Pairing.{each_more}

pub new_queues : (sources count : ℕ) (desk : Row) (passes : List PassView) → sources ≡ count → length desk ≡ sources → length passes ≡ sources
    → AreNewInbox most_waiting desk passes → queues_of desk ≡ map (λ (p : PassView). p.queue) passes → AreNewQueues count desk passes
new_queues sources count desk passes same size_d size_p new queues = (
  size_d ∙ same,
  size_p ∙ same,
  (λ at e here. let p = there passes at (let w = within desk at e here in omega arith) in ap (λ (x : EndView What). x.seen.taken) (new at e p.0 here p.1).0),
  (λ at p here. let e = there desk at (let w = within passes at p here in omega arith) in ap (λ (x : PassView). x.put) (new at e.0 p e.1 here).1),
  queues,
  (λ at p here. let e = there desk at (let w = within passes at p here in omega arith) in ap (λ (x : PassView). x.capacity) (new at e.0 p e.1 here).1),
)

-- one outbox more
pub more_outboxes : (n : ℕ) (putters putters_now : List PutterView) (takers takers_now : List TakerView) (putter : PutterView) (taker : TakerView)
    → AreNewOutboxes n putters takers → AreNewOutbox most_waiting putter taker → putters_now ≡ putters ++ putter ∷ [] → takers_now ≡ takers ++ taker ∷ []
    → AreNewOutboxes (n + 1) putters_now takers_now
more_outboxes n putters putters_now takers takers_now putter taker before new put_p put_t =
    let queue : putter.queue ≡ taker.queue = ap (λ (p : PutterView). p.queue) new.0 in (
      ap length put_p ∙ (let size = before.0 in omega (arith, length-append putters (putter ∷ []))),
      ap length put_t ∙ (let size = before.1 in omega (arith, length-append takers (taker ∷ []))),
      each_more IsNew putters putters_now putter before.2 (ap (λ (p : PutterView). p.put) new.0, ap (λ (p : PutterView). p.refused) new.0, ap (λ (p : PutterView). p.refusals) new.0) put_p,
      each_more (λ (t : TakerView). t.taken ≡ []) takers takers_now taker before.3 (ap (λ (t : TakerView). t.taken) new.1) put_t,
      ap (map (λ (p : PutterView). p.queue)) put_p ∙ map-append (λ (p : PutterView). p.queue) putters (putter ∷ []) ∙ (λ i. before.4 i ++ queue i ∷ [])
          ∙ sym (map-append (λ (t : TakerView). t.queue) takers (taker ∷ [])) ∙ ap (map (λ (t : TakerView). t.queue)) (sym put_t),
      each_more (λ (t : TakerView). t.capacity ≡ most_waiting) takers takers_now taker before.5 (ap (λ (t : TakerView). t.capacity) new.1) put_t,
    )
