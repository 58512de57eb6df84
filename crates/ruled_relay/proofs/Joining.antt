-- SPDX-License-Identifier: MIT OR Apache-2.0
-- A desk and its passes are joined place by place.
use Rattle.std.proofs.Common.{◌≡◌, ◌≢◌, ℕ, zero, suc, ◌+◌, ◌<◌, ◌≤◌, true, List, [], ◌∷◌, length, drop, map, sym, ap, ◌∙◌, subst, ⊎_elim, arith, add-one}
use Rattle.std.proofs.lemmas.List.{length-map}
use mathlib.Core.Option.{some, some-injective}
use lib.ListN.{get_elem?}
use Rattle.atomic_table.proofs.Lists.{at_set, at_map}
use Rattle.atomic_table.specs.Seated.{TableId}
use Rattle.ruled_relay.specs.declared.item.What.{What}
use Rattle.ruled_relay.specs.declared.rule.Seen.{Seen}
use Rattle.ruled_relay.specs.Rule.{left_over}
use Rattle.ruled_relay.specs.Ends.{EndView, knowing}
use Rattle.ruled_relay.specs.Row.{EachAt, HasAt, JoinsAt, Row}
use Rattle.ruled_relay.specs.Inbox.{AreJoined, IsJoined, PassView, queues_of}
use Rattle.ruled_relay.proofs.Places.{length_set, there, within}
use Rattle.ruled_relay.proofs.Turns.{IsLeft, IsTaking}

-- the desk's end and the pass at each place are of one queue
abbrev pub AreEndsOfOne : Row → List PassView → Type 0
AreEndsOfOne desk passes = (at : ℕ) (e : EndView What) (p : PassView) → get_elem? desk at ≡ some e → get_elem? passes at ≡ some p → p.queue ≡ e.queue

pub ends_of_one : (desk : Row) (passes : List PassView) → queues_of desk ≡ map (λ (p : PassView). p.queue) passes → AreEndsOfOne desk passes
ends_of_one desk passes same at e p here there =
    some-injective p.queue e.queue
    (sym (at_map (λ (y : PassView). y.queue) passes at p there) ∙ ap (λ qs. get_elem? qs at) (sym same) ∙ at_map (λ (y : EndView What). y.queue) desk at e here)

pub pairs : (desk : Row) (passes : List PassView) → queues_of desk ≡ map (λ (p : PassView). p.queue) passes → length passes ≡ length desk
pairs desk passes same = sym (length-map passes (λ (p : PassView). p.queue)) ∙ ap length (sym same) ∙ length-map desk (λ (e : EndView What). e.queue)

-- the places before this one have been joined, the others are as on the desk
abbrev pub Progress : Row → List PassView → ℕ → Row → Type 0
Progress desk passes n row = (at : ℕ) (e : EndView What) → get_elem? row at ≡ some e → (at < n → IsJoined desk passes at e) × (n ≤ at → get_elem? desk at ≡ some e)

module _ {A : Type 0} where
  reached_at : (xs : List A) (n : ℕ) (x : A) (ys : List A) → drop n xs ≡ x ∷ ys → (get_elem? xs n ≡ some x) × (drop (suc n) xs ≡ ys)
  reached_at [] zero x ys e = absurd (let l = ap length e in omega arith)
  reached_at [] (suc n) x ys e = absurd (let l = ap length e in omega arith)
  reached_at (z ∷ zs) zero x ys e = (ap (λ l. get_elem? l 0) e, ap (λ l. drop 1 l) e)
  reached_at (z ∷ zs) (suc n) x ys e = reached_at zs n x ys e

  pub reached : (xs : List A) (n : ℕ) (x : A) (ys : List A) → drop n xs ≡ x ∷ ys → (get_elem? xs n ≡ some x) × (drop (n + 1) xs ≡ ys)
  reached xs n x ys e = let h = reached_at xs n x ys e in (h.0, rw add-one h.1)

pub starts : (desk : Row) (passes : List PassView) → Progress desk passes 0 desk
starts desk passes at e here = ((λ h. absurd (omega arith)), λ _. here)

pub may_join : (desk : Row) (passes : List PassView) (n : ℕ) (row : Row) (pass : PassView) (queue : TableId) → Progress desk passes n row → n < length row
    → AreEndsOfOne desk passes → EachAt desk (λ i e. IsTaking e) → get_elem? passes n ≡ some pass → queue ≡ pass.queue
    → HasAt n row (λ e. (queue ≡ e.queue) × (e.seen.takes ≡ true))
may_join desk passes n row pass queue so_far room one each here is =
    let e = there row n room in
    let was = (so_far n e.0 e.1).1 (omega arith) in (e.0, e.1, (is ∙ one n e.0 pass was here, ap (λ (v : Seen What). v.takes) (each n e.0 was)))

pub joins_on : (desk : Row) (passes : List PassView) (n : ℕ) (row new : Row) (pass : PassView) (other : EndView What) → Progress desk passes n row → get_elem? passes n ≡ some pass
    → other.seen.put ≡ pass.put → other.capacity ≡ pass.capacity → JoinsAt n other row new → Progress desk passes (n + 1) new
joins_on desk passes n row new pass other so_far here same holds c at d there =
    let Is : EndView What → Type 0 = λ y. (at < n + 1 → IsJoined desk passes at y) × (n + 1 ≤ at → get_elem? desk at ≡ some y) in
    ⊎_elim
    (λ (h : (at ≡ n) × (c.1 ≡ d)).
    let was = (so_far n c.0 c.2).1 (omega arith) in
    let joined : IsJoined desk passes n c.1 = (
      c.0,
      pass,
      was,
      here,
      c.4.0 ∙ ap (λ (p : List What). knowing c.0 (left_over p c.0.seen.taken)) same,
      (c.4.1.0, sym same ∙ c.4.1.1, subst (λ (m : ℕ). length c.4.1.0 ≤ m) holds c.4.1.2),
    ) in (
      (λ _. subst (λ (y : ℕ × EndView What). IsJoined desk passes y.0 y.1) (λ i. (sym h.0 i, h.1 i)) joined),
      λ beyond. absurd (let k = h.0 in omega arith),
    ))
    (λ (h : (at ≢ n) × (get_elem? row at ≡ some d)). let was = so_far at d h.1 in let k = h.0 in ((λ before. was.0 (omega arith)), λ beyond. was.1 (omega arith)))
    (at_set row n at c.1 d (ap (λ (r : Row). get_elem? r at) (sym c.3) ∙ there))

pub join_length : (n : ℕ) (other : EndView What) (row new : Row) → JoinsAt n other row new → length new ≡ length row
join_length n other row new c = ap length c.3 ∙ length_set row n c.1

pub all_joined : (desk : Row) (passes : List PassView) (n : ℕ) (row : Row) →
    Progress desk passes n row →
    length row ≡ length desk →
    length row ≤ n →
    AreJoined desk passes row
all_joined desk passes n row so_far size done = (size, λ at e here. (so_far at e here).0 (let w = within row at e here in omega arith))

pub are_left : (desk : Row) (passes : List PassView) (left : Row) → AreJoined desk passes left → EachAt left (λ i e. IsLeft e)
are_left desk passes left joined at e here =
    let j = joined.1 at e here in
    let s : e.seen ≡ left_over j.1.put j.0.seen.taken = ap (λ (y : EndView What). y.seen) j.4 in s ∙ sym (ap (λ (v : Seen What). left_over v.put v.taken) s)
