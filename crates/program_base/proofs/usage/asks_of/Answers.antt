-- SPDX-License-Identifier: MIT OR Apache-2.0
use Rattle.std.proofs.Common.{◌∷◌, [], ℕ, List, slice_index_or, ap, ◌∙◌, sym, codes}
use Rattle.std.proofs.lemmas.Slice.Eq.{bytes_eq-Decides}
use Rattle.program_base.proofs.Lists.{texts_of_two}
use Rattle.program_base.proofs.usage.asks_of.Goals as goal

pub returns-then-eq : goal.returns-then-eq
returns-then-eq c =
    let two = texts_of_two c.args.words.now (record { ref_ptr = (0, 0); now = [] }) c.in-len2.len_at_least c.in-len2.len_below in
    let first = bytes_eq-Decides _ (codes "help") in
    let second = bytes_eq-Decides _ c.args.name.now in (
      λ is. two
          ∙ ap (λ (word : List ℕ). word ∷ (slice_index_or c.args.words.now 1 (record { ref_ptr = (0, 0); now = [] })).now ∷ [])
          (first.0 (sym c.eq.ensures ∙ c.if-eq.true))
          ∙ ap (λ (word : List ℕ). codes "help" ∷ word ∷ []) (second.0 (sym c.eq-then-eq.ensures ∙ is)),
      λ are. c.eq-then-eq.ensures ∙ second.1 (ap (λ (words : List (List ℕ)). slice_index_or words 1 []) (sym two ∙ are)),
    )
