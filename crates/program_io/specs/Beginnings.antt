-- SPDX-License-Identifier: MIT OR Apache-2.0
-- Lemmas on `AppendsBeginning`: an output took a prefix of a text.
use Rattle.std.proofs.Common.{List, [], ◌++◌, Option, refl, sym, ap, ℕ}
use Rattle.std.proofs.Common.{◌∙◌}
use Rattle.std.proofs.Common.{append_assoc}
use Rattle.std.specs.Io.KnownBytes.{Appends, Keeps}
use Rattle.std.proofs.KnownBytes.{Appends-kept, Appends-nil, Appends-trans}
use Rattle.std.proofs.lemmas.List.{append-nil}
use Rattle.program_io.specs.Output.{AppendsBeginning}

pub begins_none : (known : Option (List ℕ)) (text : List ℕ) → AppendsBeginning known known text
begins_none known text = ([], text, refl, Appends-nil known)

pub begins_all : (old new : Option (List ℕ)) (text : List ℕ)
    → Appends old new text → AppendsBeginning old new text
begins_all old new text all = (text, [], sym (append-nil text), all)

pub begins_longer : (old new : Option (List ℕ)) (text more : List ℕ)
    → AppendsBeginning old new text → AppendsBeginning old new (text ++ more)
begins_longer old new text more some = (
  some.0,
  some.1 ++ more,
  ap (λ (xs : List ℕ). xs ++ more) some.2 ∙ append_assoc some.0 some.1 more,
  some.3,
)

pub begins_behind : (old mid new : Option (List ℕ)) (text more : List ℕ)
    → Appends old mid text → AppendsBeginning mid new more → AppendsBeginning old new (text ++ more)
begins_behind old mid new text more all some = (
  text ++ some.0,
  some.1,
  ap (λ (xs : List ℕ). text ++ xs) some.2
      ∙ sym (append_assoc text some.0 some.1),
  Appends-trans old mid new text some.0 all some.3,
)

pub begins_kept : (old mid new : Option (List ℕ)) (text : List ℕ)
    → AppendsBeginning old mid text → Keeps mid new → AppendsBeginning old new text
begins_kept old mid new text some keeps =
    (some.0, some.1, some.2, Appends-kept old mid new some.0 some.3 keeps)
