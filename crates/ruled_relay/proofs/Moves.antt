-- SPDX-License-Identifier: MIT OR Apache-2.0
-- Each move of a queue keeps its rule.
use Rattle.std.proofs.Common.{◌≡◌, ◌≢◌, ℕ, zero, suc, ◌+◌, ◌≤◌, true, true≢false, List, [], ◌∷◌, ◌++◌, length, set, sym, refl, ap, ◌∙◌, subst, ⊎_elim, append_assoc, arith}
use Rattle.std.proofs.lemmas.List.{length-append}
use mathlib.Core.Option.{some, some-ne-none}
use lib.ListN.{get_elem?}
use Rattle.crossbeam_queue.specs.Fifo.{Pushes, Pops, Forks, Merges, Learns}
use Rattle.crossbeam_queue.proofs.Lists.{at_set, at_snoc}
use Rattle.ruled_relay.specs.declared.rule.Known.{Known}
use Rattle.ruled_relay.specs.declared.rule.Seen.{Seen}
use Rattle.ruled_relay.specs.Rule.{known, seen, putting, taking, left_over, spent_end, Fits, IsWithin, Relayed, AddsLast, EndsWith, IsFollowedBy, TakesFirst}

module _ {T : Type 0} where
  at_end : (l : List (Known T)) (a b : Known T) (j : ℕ) → get_elem? l j ≢ some b → get_elem? (l ++ a ∷ []) j ≡ some b → j ≡ length l
  at_end [] a b zero n e = refl
  at_end [] a b (suc j) n e = absurd (some-ne-none b (sym e))
  at_end (x ∷ xs) a b zero n e = absurd (n e)
  at_end (x ∷ xs) a b (suc j) n e = ap suc (at_end xs a b j n e)

  abbrev All : (ℕ → Known T → Type 0) → List (Known T) → Type 0
  All F ends = (at : ℕ) (v : Known T) → get_elem? ends at ≡ some v → F at v

  all_set : (F : ℕ → Known T → Type 0) (ends : List (Known T)) (at : ℕ) (w : Known T) → F at w → ((j : ℕ) (u : Known T) → j ≢ at → get_elem? ends j ≡ some u → F j u)
      → All F (set ends at w)
  all_set F ends at w mine others j u e = ⊎_elim (λ (x : (j ≡ at) × (w ≡ u)). subst (λ (y : ℕ × Known T). F y.0 y.1) (λ i. (sym x.0 i, x.1 i)) mine)
      (λ (x : (j ≢ at) × (get_elem? ends j ≡ some u)). others j u x.0 x.1) (at_set ends at j w u e)

  -- what the rule says of one end
  abbrev Is : ℕ → ℕ → List T → List T → List T → ℕ → Known T → Type 0
  Is writer reader put taken items at v = Fits writer reader put taken at v.seen × IsWithin v items

  -- an end that neither puts nor takes
  spent_is : (writer reader : ℕ) (put taken items : List T) (at room : ℕ) → Is writer reader put taken items at (known room spent_end)
  spent_is writer reader put taken items at room = (((λ p. absurd (true≢false (sym p))), λ p. absurd (true≢false (sym p))), λ p. absurd (true≢false (sym p)))

  pub begins : Relayed [] (known 0 (left_over {T = T} [] []) ∷ [])
  begins = (
    0,
    0,
    [],
    [],
    refl,
    all_set (Is 0 0 [] [] []) (known 0 (left_over [] []) ∷ []) 0 (known 0 (left_over [] [])) (((λ _. (refl, refl)), λ _. (refl, refl)), λ _. omega arith)
        (λ j u other e. absurd (other (at_end [] _ u j (λ x. some-ne-none u (sym x)) e))),
  )

  pub widens : (at : ℕ) (v : Known T) → Forks Relayed at v (known (v.room + 1) v.seen) (known 0 spent_end)
  widens at v items ends h there =
      let l : Known T = known (v.room + 1) v.seen in
      let mine = h.5 at v there in
      let vs : List (Known T) = set ends at l in
      let old : All (Is h.0 h.1 h.2 h.3 items) vs = all_set (Is h.0 h.1 h.2 h.3 items) ends at l (mine.0, λ p. let b = mine.1 p in omega arith) (λ j u other e. h.5 j u e) in (
        h.0,
        h.1,
        h.2,
        h.3,
        h.4,
        λ j u e. ⊎_elim (λ x. old j u x) (λ (is : known 0 spent_end ≡ u). subst (λ y. Is h.0 h.1 h.2 h.3 items j y) is (spent_is h.0 h.1 h.2 h.3 items j 0)) (at_snoc vs (known 0 spent_end) u j e),
      )

  pub puts : (n at : ℕ) (v : Known T) (x : T) →
      v.seen.puts ≡ true →
      v.room ≡ n →
      Pushes Relayed n at v x (λ w. (w.room ≡ v.room) × AddsLast v.seen x w.seen)
  puts n at v x may room items ends less h there =
      let s : Seen T = seen v.seen.puts v.seen.takes (v.seen.put ++ x ∷ []) v.seen.taken in
      let w : Known T = known v.room s in
      let mine = h.5 at v there in
      let put = h.2 ++ x ∷ [] in (
        w,
        (
          h.0,
          h.1,
          put,
          h.3,
          ap (λ l. l ++ x ∷ []) h.4 ∙ append_assoc h.3 items (x ∷ []),
          all_set (Is h.0 h.1 put h.3 (items ++ x ∷ [])) ends at w
              (((λ _. ((mine.0.0 may).0, ap (λ l. l ++ x ∷ []) (mine.0.0 may).1)), mine.0.1), λ _. omega (arith, length-append items (x ∷ [])))
              (λ j u other e. let theirs = h.5 j u e in (
                ((λ p. absurd (other ((theirs.0.0 p).0 ∙ sym (mine.0.0 may).0))), theirs.0.1),
                λ p. absurd (other ((theirs.0.0 p).0 ∙ sym (mine.0.0 may).0)),
              )),
        ),
        (refl, refl),
      )

  pub takes : (at : ℕ) (v : Known T) → v.seen.takes ≡ true → Pops Relayed at v (λ x w. (w.room ≡ v.room) × TakesFirst v.seen x w.seen)
  takes at v may x items ends h there =
      let s : Seen T = seen v.seen.puts v.seen.takes v.seen.put (v.seen.taken ++ x ∷ []) in
      let w : Known T = known v.room s in
      let mine = h.5 at v there in
      let taken = h.3 ++ x ∷ [] in (
        w,
        (
          h.0,
          h.1,
          h.2,
          taken,
          h.4 ∙ sym (append_assoc h.3 (x ∷ []) items),
          all_set (Is h.0 h.1 h.2 taken items) ends at w
              ((mine.0.0, λ _. ((mine.0.1 may).0, ap (λ l. l ++ x ∷ []) (mine.0.1 may).1)), λ p. let b = mine.1 p in omega arith)
              (λ j u other e. let theirs = h.5 j u e in (
                (theirs.0.0, λ p. absurd (other ((theirs.0.1 p).0 ∙ sym (mine.0.1 may).0))),
                λ p. let b = theirs.1 p in omega arith,
              )),
        ),
        (refl, (refl, (items, λ p. (mine.0.0 p).1 ∙ h.4 ∙ ap (λ l. l ++ x ∷ items) (sym (mine.0.1 may).1)))),
      )

  pub forks : (at : ℕ) (v : Known T) →
      v.seen.puts ≡ true →
      v.seen.takes ≡ true →
      Forks Relayed at v (known v.room (taking v.seen.taken)) (known v.room (putting v.seen.put))
  forks at v a b items ends h there =
      let l : Known T = known v.room (taking v.seen.taken) in
      let r : Known T = known v.room (putting v.seen.put) in
      let mine = h.5 at v there in
      let vs : List (Known T) = set ends at l in
      let Old : ℕ → Known T → Type 0 = λ j u. (u.seen.takes ≡ true → (j ≡ h.1) × (u.seen.taken ≡ h.3)) × (u.seen.puts ≢ true) in
      let old : All Old vs = all_set Old ends at l ((λ _. mine.0.1 b), λ p. true≢false (sym p))
      (λ j u other e. ((h.5 j u e).0.1, λ p. other (((h.5 j u e).0.0 p).0 ∙ sym (mine.0.0 a).0))) in (
        length vs,
        h.1,
        h.2,
        h.3,
        h.4,
        λ j u e. ⊎_elim (λ x. (((λ p. absurd ((old j u x).1 p)), (old j u x).0), λ p. absurd ((old j u x).1 p)))
            (λ (is : r ≡ u). (
              (
                (λ p. (at_end vs r u j (λ x. (old j u x).1 p) e, ap (λ (y : Known T). y.seen.put) (sym is) ∙ (mine.0.0 a).1)),
                λ p. absurd (true≢false (sym (ap (λ (y : Known T). y.seen.takes) is ∙ p))),
              ),
              λ _. subst (λ (y : Known T). length items ≤ y.room) is (mine.1 a),
            ))
            (at_snoc vs r u j e),
      )

  pub merges : (at : ℕ) (v : Known T) (other : ℕ) (u : Known T) → v.seen.takes ≡ true → u.seen.puts ≡ true
      → Merges Relayed at v other u (known u.room (left_over u.seen.put v.seen.taken)) (known 0 spent_end)
  merges at v other u a b items ends h there two there' =
      let both : Known T = known u.room (left_over u.seen.put v.seen.taken) in
      let mine = h.5 at v there in
      let vs : List (Known T) = set ends at both in
      let was : get_elem? ends other ≡ some u = ⊎_elim (λ x. absurd (two x.0)) (λ x. x.1) (at_set ends at other both u there') in
      let theirs = h.5 other u was in
      let Now : ℕ → Known T → Type 0 = λ j y. j ≢ other → Is at h.1 h.2 h.3 items j y in
      let now : All Now vs = all_set Now ends at both (λ _. (((λ _. (refl, (theirs.0.0 b).1)), λ _. mine.0.1 a), λ _. theirs.1 b))
      (λ j y _ e apart. let its = h.5 j y e in (
        ((λ p. absurd (apart ((its.0.0 p).0 ∙ sym (theirs.0.0 b).0))), its.0.1),
        λ p. absurd (apart ((its.0.0 p).0 ∙ sym (theirs.0.0 b).0)),
      )) in (
        at,
        h.1,
        h.2,
        h.3,
        h.4,
        all_set (Is at h.1 h.2 h.3 items) vs other (known 0 spent_end) (spent_is at h.1 h.2 h.3 items other 0) (λ j y apart e. now j y e apart),
      )

  pub learns_end : (at : ℕ) (v : Known T) → v.seen.puts ≡ true → Learns Relayed at v (EndsWith v.seen)
  learns_end at v may items ends h there = (h.3, ((h.5 at v there).0.0 may).1 ∙ h.4)

  pub learns_rest : (at : ℕ) (v : Known T) →
      v.seen.takes ≡ true →
      Learns Relayed at v (λ items. IsFollowedBy v.seen items × IsWithin v items)
  learns_rest at v may items ends h there =
      let mine = h.5 at v there in ((λ p. (mine.0.0 p).1 ∙ h.4 ∙ ap (λ l. l ++ items) (sym (mine.0.1 may).1)), mine.1)
