-- SPDX-License-Identifier: MIT OR Apache-2.0
-- The capacity of a link's queue: 1024 items or lines. New queues with another capacity are
-- refused.
use Rattle.std.proofs.Common.{◌≡◌, ℕ, List, [], ◌∷◌, refl, sym, ◌∙◌, arith}
use Rattle.ruled_relay.specs.Inbox.{PassView}
use Rattle.ruled_relay.specs.Outbox.{PutterView, TakerView}
use Rattle.ruled_relay.specs.Row.{Row}
use Rattle.station_io.specs.Work.{most_waiting, AreNewOutboxes, AreNewQueues}

most_that_wait : most_waiting ≡ 1024
most_that_wait = refl

queue_of_1023 : (desk : Row) (pass : PassView) → pass.capacity ≡ 1023 → AreNewQueues 1 desk (pass ∷ []) → ⊥
queue_of_1023 desk pass is new = let same : 1023 ≡ 1024 = sym is ∙ new.5 0 pass refl in omega (arith, same)

queue_of_1025 : (desk : Row) (pass : PassView) → pass.capacity ≡ 1025 → AreNewQueues 1 desk (pass ∷ []) → ⊥
queue_of_1025 desk pass is new = let same : 1025 ≡ 1024 = sym is ∙ new.5 0 pass refl in omega (arith, same)

outbox_of_1023 : (putter : PutterView) (taker : TakerView) → taker.capacity ≡ 1023 → AreNewOutboxes 1 (putter ∷ []) (taker ∷ []) → ⊥
outbox_of_1023 putter taker is new = let same : 1023 ≡ 1024 = sym is ∙ new.5 0 taker refl in omega (arith, same)

outbox_of_1025 : (putter : PutterView) (taker : TakerView) → taker.capacity ≡ 1025 → AreNewOutboxes 1 (putter ∷ []) (taker ∷ []) → ⊥
outbox_of_1025 putter taker is new = let same : 1025 ≡ 1024 = sym is ∙ new.5 0 taker refl in omega (arith, same)
