-- SPDX-License-Identifier: MIT OR Apache-2.0
-- What stays the same in a row of ends when an item is taken from one of its queues.
use Rattle.std.proofs.Common.{◌≡◌, ◌≢◌, ℕ, true, [], ◌∷◌, ◌++◌, length, slice_set, Option, Some, None, MatchOption, refl, sym, ap, ◌∙◌, subst, ⊎_elim, arith}
use mathlib.Core.Option.{some}
use lib.ListN.{get_elem?}
use Rattle.atomic_table.proofs.Lists.{at_set}
use Rattle.ruled_relay.specs.declared.item.Item.{Item}
use Rattle.ruled_relay.specs.declared.item.What.{What}
use Rattle.ruled_relay.specs.declared.rule.Seen.{Seen}
use Rattle.ruled_relay.specs.Rule.{seen, taking, left_over}
use Rattle.ruled_relay.specs.Ends.{EndView, Takes, knowing}
use Rattle.ruled_relay.specs.Row.{EachAt, Row, TakesAmong, TakesOne}
use Rattle.ruled_relay.specs.Inbox.{GivesItem, IsAllGiven, TakesItem, queues_of}
use Rattle.ruled_relay.proofs.Places.{map_set, length_set, within}

abbrev pub IsTaking : EndView What → Type 0
IsTaking e = e.seen ≡ taking e.seen.taken

abbrev pub IsLeft : EndView What → Type 0
IsLeft e = e.seen ≡ left_over e.seen.put e.seen.taken

took : (e d : EndView What) (what : What) → IsTaking e → Takes e what d → d ≡ knowing e (taking (e.seen.taken ++ what ∷ []))
took e d what is h = let s : d.seen ≡ taking (e.seen.taken ++ what ∷ []) = h.2.0 ∙ ap (λ (v : Seen What). seen v.puts v.takes v.put (e.seen.taken ++ what ∷ [])) is in
    λ k. record { queue = h.0 k; capacity = h.1 k; seen = s k }

gave : (e d : EndView What) (what : What) → IsLeft e → Takes e what d → d ≡ knowing e (left_over e.seen.put (e.seen.taken ++ what ∷ []))
gave e d what is h = let s : d.seen ≡ left_over e.seen.put (e.seen.taken ++ what ∷ []) = h.2.0 ∙ ap (λ (v : Seen What). seen v.puts v.takes v.put (e.seen.taken ++ what ∷ [])) is in
    λ k. record { queue = h.0 k; capacity = h.1 k; seen = s k }

still_takes : (e d : EndView What) (what : What) → IsTaking e → Takes e what d → IsTaking d
still_takes e d what is h = let s : d.seen ≡ taking (e.seen.taken ++ what ∷ []) = ap (λ (y : EndView What). y.seen) (took e d what is h) in s ∙ sym (ap (λ (v : Seen What). taking v.taken) s)

still_left : (e d : EndView What) (what : What) → IsLeft e → Takes e what d → IsLeft d
still_left e d what is h =
    let s : d.seen ≡ left_over e.seen.put (e.seen.taken ++ what ∷ []) = ap (λ (y : EndView What). y.seen) (gave e d what is h) in s ∙ sym (ap (λ (v : Seen What). left_over v.put v.taken) s)

-- what holds of each place, and of what is new at one, holds of each place then
kept : (F : EndView What → Type 0) (old : Row) (at : ℕ) (d : EndView What) →
    EachAt old (λ i e. F e) →
    F d →
    EachAt (slice_set old at d) (λ i e. F e)
kept F old at d each new i e here = ⊎_elim (λ (x : (i ≡ at) × (d ≡ e)). subst F x.1 new) (λ (x : (i ≢ at) × (get_elem? old i ≡ some e)). each i e x.1) (at_set old at i d e here)

kept_at : (F : EndView What → Type 0) (old new : Row) (at : ℕ) (d : EndView What) →
    new ≡ slice_set old at d →
    EachAt old (λ i e. F e) →
    F d →
    EachAt new (λ i e. F e)
kept_at F old new at d is each h = subst (λ (row : Row). EachAt row (λ i e. F e)) (sym is) (kept F old at d each h)

pub desk_kept : (old new : Row) (sources : ℕ) (item : Item) → length old ≡ sources → EachAt old (λ i e. IsTaking e) → TakesOne sources old (Some item) new
    → (length new ≡ sources) × EachAt new (λ i e. IsTaking e)
desk_kept old new sources item size each h =
    let c = h.1 in (
      ap length c.3 ∙ length_set old item.source c.1 ∙ size,
      kept_at IsTaking old new item.source c.1 c.3 each (still_takes c.0 c.1 item.what (each item.source c.0 c.2) c.4),
    )

pub desk_took : (old new : Row) (sources : ℕ) (item : Item) →
    EachAt old (λ i e. IsTaking e) →
    TakesOne sources old (Some item) new →
    TakesItem old item new
desk_took old new sources item each h =
    let c = h.1 in (c.0, c.2, c.3 ∙ ap (λ (y : EndView What). slice_set old item.source y) (took c.0 c.1 item.what (each item.source c.0 c.2) c.4))

pub desk_same : (old new : Row) (found : Option Item) →
    MatchOption found (new ≡ old) (λ item. TakesItem old item new) →
    queues_of new ≡ queues_of old
desk_same old new (Some item) h =
    let e = h.0 in ap queues_of h.2 ∙ map_set (λ (y : EndView What). y.queue) old item.source e (knowing e (taking (e.seen.taken ++ item.what ∷ []))) h.1 refl
desk_same old new None h = ap queues_of h

pub left_kept : (old new : Row) (sources : ℕ) (found : Option Item) → length old ≡ sources → EachAt old (λ i e. IsLeft e) → TakesAmong 0 sources old found new
    → (length new ≡ sources) × EachAt new (λ i e. IsLeft e)
left_kept old new sources (Some item) size each h =
    let c = h.2 in (
      ap length c.3 ∙ length_set old item.source c.1 ∙ size,
      kept_at IsLeft old new item.source c.1 c.3 each (still_left c.0 c.1 item.what (each item.source c.0 c.2) c.4),
    )
left_kept old new sources None size each h = (ap length h.0 ∙ size, subst (λ (row : Row). EachAt row (λ i e. IsLeft e)) (sym h.0) each)

pub left_gives : (old new : Row) (sources : ℕ) (found : Option Item) → length old ≡ sources → EachAt old (λ i e. IsLeft e) → TakesAmong 0 sources old found new
    → MatchOption found ((new ≡ old) × IsAllGiven old) (λ item. GivesItem old item new)
left_gives old new sources (Some item) size each h =
    let c = h.2 in
    let knows : (at : ℕ) (e : EndView What) → get_elem? old at ≡ some e → e.seen.puts ≡ true = λ at e here. ap (λ (v : Seen What). v.puts) (each at e here) in (
      c.0,
      c.2,
      c.3 ∙ ap (λ (y : EndView What). slice_set old item.source y) (gave c.0 c.1 item.what (each item.source c.0 c.2) c.4),
      (c.4.2.1.0, c.4.2.1.1 (knows item.source c.0 c.2)),
      λ at d before here. h.3 at d (omega arith) before here (knows at d here),
    )
left_gives old new sources None size each h = (h.0, λ at e here. h.1 at e (omega arith) (let w = within old at e here in omega arith) here (ap (λ (v : Seen What). v.puts) (each at e here)))
