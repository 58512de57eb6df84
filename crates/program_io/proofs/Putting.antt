-- SPDX-License-Identifier: MIT OR Apache-2.0
-- Lemmas: one more write extends what an output took of a text.
use Rattle.std.proofs.Common.{◌≡◌, ◌<◌, ◌≤◌, ℕ, List, [], ◌++◌, Option, Result, Ok, Err, sym, ap, subst, ◌∙◌, append_assoc, take, drop}
use Rattle.std.proofs.Common.{take-append-drop, length, length-append, length-take-le, arith}
use Rattle.std.specs.Prelude.{IfOk, OnErr}
use Rattle.std.specs.Io.KnownBytes.{Appends, Keeps, WriteAppends}
use Rattle.std.specs.Result.{IsErrAnd}
use Rattle.std.proofs.KnownBytes.{Appends-kept, Appends-nil, Appends-trans}
use Rattle.program_io.specs.Beginnings.{begins_behind, begins_longer}
use Rattle.program_io.specs.Output.{AppendsBeginning, Puts, PutsAtOnce, taken_of}
use Rattle.program_io.specs.declared.output.Taken.{Taken}
use Rattle.program_io.specs.declared.output.Taken.TheVariants.{All}

-- ---- a text

-- all but the rest was written
abbrev pub PutsSome : List ℕ → List ℕ → Option (List ℕ) → Option (List ℕ) → Type 0
PutsSome text rest old new = (written : List ℕ) × (text ≡ written ++ rest) × Appends old new written

pub puts_more : (text rest left : List ℕ) (count : ℕ) (old mid new : Option (List ℕ)) →
    PutsSome text rest old mid →
    Appends mid new (take count rest) →
    left ≡ drop count rest →
    PutsSome text left old new
puts_more text rest left count old mid new some wrote is = (
  some.0 ++ take count rest,
  some.1 ∙ ap (λ (xs : List ℕ). some.0 ++ xs) (sym (take-append-drop count rest) ∙ ap (λ (xs : List ℕ). take count rest ++ xs) (sym is)) ∙ sym (append_assoc some.0 (take count rest) left),
  Appends-trans old mid new some.0 (take count rest) some.2 wrote,
)

pub puts_kept : (text rest : List ℕ) (old mid new : Option (List ℕ)) →
    PutsSome text rest old mid →
    Keeps mid new →
    PutsSome text rest old new
puts_kept text rest old mid new some keeps = (some.0, some.1, Appends-kept old mid new some.0 some.2 keeps)

-- what failed had begun
pub puts_failed : {X E : Type 0} (result : Result X E) (Said : E → Type 0) (old new : Option (List ℕ)) (text : List ℕ) →
    IsErrAnd result Said →
    AppendsBeginning old new text →
    Puts result old new text
puts_failed (Ok done) Said old new text failed begun = absurd failed
puts_failed (Err error) Said old new text failed begun = begun

-- ---- what is written behind a first write

pub puts_after : {X E : Type 0} (result : Result X E) (old mid new : Option (List ℕ)) (front rest : List ℕ) →
    Appends old mid front →
    Puts result mid new rest →
    Puts result old new (front ++ rest)
puts_after (Ok done) old mid new front rest wrote more = Appends-trans old mid new front rest wrote more
puts_after (Err error) old mid new front rest wrote more = (
  front ++ more.0,
  more.1,
  ap (λ (xs : List ℕ). front ++ xs) more.2 ∙ sym (append_assoc front more.0 more.1),
  Appends-trans old mid new front more.0 wrote more.3,
)

-- behind what the first write took, or all where it failed
puts_behind : {X E F : Type 0} (first : Result ℕ F) (result : Result X E) (old mid new : Option (List ℕ)) (text : List ℕ) →
    WriteAppends old mid first text →
    IfOk first (λ count. Puts result mid new (drop count text)) →
    OnErr first (Puts result mid new text) →
    Puts result old new text
puts_behind (Ok count) result old mid new text wrote rest all =
    subst (Puts result old new) (take-append-drop count text) (puts_after result old mid new (take count text) (drop count text) wrote rest)
puts_behind (Err error) result old mid new text wrote rest all = puts_after result old mid new [] text (Appends-kept old old mid [] (Appends-nil old) wrote) all

pub puts_rest : {X E F : Type 0} (first said : Result ℕ F) (result : Result X E) (old mid new : Option (List ℕ)) (text : List ℕ) →
    said ≡ first →
    WriteAppends old mid first text →
    IfOk said (λ count. Puts result mid new (drop count text)) →
    OnErr said (Puts result mid new text) →
    Puts result old new text
puts_rest first said result old mid new text is wrote = puts_behind said result old mid new text (subst (λ r. WriteAppends old mid r text) (sym is) wrote)

-- ---- a text that is put part by part

-- behind what was written before, all of the rest or a beginning of it
pub puts_last : {X E : Type 0} (result : Result X E) (text rest : List ℕ) (old mid new : Option (List ℕ)) → PutsSome text rest old mid
    → Puts result mid new rest → Puts result old new text
puts_last result text rest old mid new some more =
    subst (Puts result old new) (sym some.1) (puts_after result old mid new some.0 rest some.2 more)

-- the part of the rest that failed had begun
pub begins_part : (text rest : List ℕ) (count : ℕ) (old mid new : Option (List ℕ)) → PutsSome text rest old mid
    → AppendsBeginning mid new (take count rest) → AppendsBeginning old new text
begins_part text rest count old mid new some begun =
    let longer : AppendsBeginning mid new rest =
    subst (AppendsBeginning mid new) (take-append-drop count rest) (begins_longer mid new (take count rest) (drop count rest) begun) in
    subst (AppendsBeginning old new) (sym some.1) (begins_behind old mid new some.0 rest some.2 longer)

-- ---- a text of which a beginning was taken at once, and then all of the rest, or a beginning of it

pub at_once_behind : {E : Type 0} (result : Result Taken E) (count : ℕ) (old mid new : Option (List ℕ)) (text rest : List ℕ)
    → 0 < count → count ≤ length text → rest ≡ drop count text → Appends old mid (take count text)
    → IfOk result (λ taken. (taken ≡ All) × Appends mid new rest) → OnErr result (AppendsBeginning mid new rest)
    → PutsAtOnce result old new text
at_once_behind (Ok taken) count old mid new text rest some within is wrote more failed =
    subst (λ (t : Taken). Appends old new (taken_of t text)) (sym more.0)
    (subst (Appends old new) (ap (λ (xs : List ℕ). take count text ++ xs) is ∙ take-append-drop count text)
    (Appends-trans old mid new (take count text) rest wrote more.1))
at_once_behind (Err error) count old mid new text rest some within is wrote more failed = (
  take count text ++ failed.0,
  failed.1,
  sym (take-append-drop count text) ∙ ap (λ (xs : List ℕ). take count text ++ xs) (sym is ∙ failed.2)
      ∙ sym (append_assoc (take count text) failed.0 failed.1),
  omega (arith, some, length-append (take count text) failed.0, length-take-le count text within),
  Appends-trans old mid new (take count text) failed.0 wrote failed.3,
)
