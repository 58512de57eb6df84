-- SPDX-License-Identifier: MIT OR Apache-2.0
-- A slice from a place on is the rest of the index's pairs.
use Rattle.std.proofs.Common.{ℕ, List, ◌<◌, subst, ap, ◌∙◌}
use Rattle.connections.specs.Index.{HasNoPlace, IndexState, IsPlaceOf, number_in}
use Rattle.connections.proofs.Numbers.{found_from, none_from, tail_from}
use Rattle.connections.proofs.index.Index.place_of.Goals as goal

pub returns-in-Ok-clause-found : goal.returns-in-Ok-clause-found
returns-in-Ok-clause-found c =
    let from : ℕ = c.search_from-from.result in
    let n : ℕ = c.args.number in
    let same = c.deref-2.ensures.value ∙ ap (λ (i : IndexState). i.entries) c.self.view_is in
    found_from c.args.self.now.entries from n c.in-Ok.place
    (subst (λ (ps : List (ℕ × ℕ)). IsPlaceOf (tail_from ps from) n c.in-Ok.place) same c.in-Ok.ensures.found)

pub returns-in-Err-clause-absent : goal.returns-in-Err-clause-absent
returns-in-Err-clause-absent c =
    let from : ℕ = c.search_from-from.result in
    let n : ℕ = c.args.number in
    let first = c.deref.ensures.value ∙ ap (λ (i : IndexState). i.entries) c.self.view_is in
    let same = c.deref-2.ensures.value ∙ ap (λ (i : IndexState). i.entries) c.self.view_is in
    none_from c.args.self.now.entries from n
    (subst (λ (ps : List (ℕ × ℕ)). (i : ℕ) → i < from → number_in ps i < n) first c.search_from-from.ensures.before)
    (subst (λ (ps : List (ℕ × ℕ)). HasNoPlace (tail_from ps from) n) same c.in-Err.ensures.absent)
