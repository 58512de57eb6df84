-- SPDX-License-Identifier: MIT OR Apache-2.0
use Rattle.std.proofs.Common.{◌∷◌, [], ℕ, List, slice_index_or, ap, ◌∙◌, sym, codes}
use Rattle.std.proofs.lemmas.Slice.Eq.{bytes_eq-Decides}
use Rattle.program_base.proofs.Lists.{texts_of_one}
use Rattle.program_base.proofs.usage.is_version.Goals as goal

pub returns-in-len1 : goal.returns-in-len1
returns-in-len1 c =
    let one = texts_of_one c.args.words.now (record { ref_ptr = (0, 0); now = [] }) c.in-len1.len_at_least c.in-len1.len_below in
    let equal = bytes_eq-Decides _ (codes "--version") in (
      λ is. one ∙ ap (λ (word : List ℕ). word ∷ []) (equal.0 (sym c.eq.ensures ∙ is)),
      λ are. c.eq.ensures ∙ equal.1 (ap (λ (words : List (List ℕ)). slice_index_or words 0 []) (sym one ∙ are)),
    )
