-- SPDX-License-Identifier: MIT OR Apache-2.0
-- Reading consecutive pieces of a script reads the whole.
use Rattle.std.proofs.Common.{◌≡◌, ℕ, ◌+◌, List, [], ◌∷◌, ◌++◌, length, refl}
use Rattle.std.proofs.Common.{sym, ap, subst, ◌∙◌}
use Rattle.std.proofs.Common.{append_assoc, append-nil, add_assoc, arith}
use Rattle.std.proofs.lemmas.List.{length-append}
use Rattle.std.specs.Prelude.{codes}
use Rattle.std.proofs.lemmas.Grind.{flat_map-append}
use Rattle.world_model.specs.declared.event.Event.{Event}
use Rattle.program_base.specs.declared.whole_script.Script.{Script}
use Rattle.program_base.specs.Pieces.{all_both}
use Rattle.program_base.specs.WholeScript.{AreTexts, HasNoFeed, IsBadLine, Reads, RefusesAt}
use Rattle.program_base.specs.WholeScript.{line_count, lines_text}

pub texts_both : (cells : ℕ) (es fs : List Event) (ls ms : List (List ℕ))
    → AreTexts cells es ls → AreTexts cells fs ms → AreTexts cells (es ++ fs) (ls ++ ms)
texts_both cells [] fs [] ms first second = second
texts_both cells [] fs (l ∷ ls) ms first second = absurd first
texts_both cells (e ∷ es) fs [] ms first second = absurd first
texts_both cells (e ∷ es) fs (l ∷ ls) ms first second =
    (first.0, texts_both cells es fs ls ms first.1 second)

-- ---- consecutive pieces

pub reads_nothing : (script : Script) → Reads script script []
reads_nothing script = record {
  lines = [];
  added = [];
  texts = tt;
  no_feeds = λ none. (tt, none);
  events = sym (append-nil script.events.items);
  parts = append-nil script.started.items;
  cells = refl;
  count = λ n is. is ∙ ap line_count (let same : n ≡ n + 0 = omega arith in same);
}

pub lines_both : (ls ms : List (List ℕ)) → lines_text (ls ++ ms) ≡ lines_text ls ++ lines_text ms
lines_both ls ms = flat_map-append (λ (l : List ℕ). l ++ codes "\n") ls ms

-- lines and the beginning of one, followed by octets that end more lines
joined : (start first second mid left : List ℕ) (ls ms : List (List ℕ))
    → start ++ first ≡ lines_text ls ++ mid → mid ++ second ≡ lines_text ms ++ left
    → start ++ (first ++ second) ≡ lines_text (ls ++ ms) ++ left
joined start first second mid left ls ms some more =
    sym (append_assoc start first second) ∙ ap (λ (xs : List ℕ). xs ++ second) some
    ∙ append_assoc (lines_text ls) mid second ∙ ap (λ (xs : List ℕ). lines_text ls ++ xs) more
    ∙ sym (append_assoc (lines_text ls) (lines_text ms) left)
    ∙ ap (λ (xs : List ℕ). xs ++ left) (sym (lines_both ls ms))

pub reads_both : (old mid new : Script) (first second : List ℕ)
    → Reads old mid first → Reads mid new second → Reads old new (first ++ second)
reads_both old mid new first second some more = record {
  lines = some.lines ++ more.lines;
  added = some.added ++ more.added;
  texts = texts_both old.cells some.added more.added some.lines more.lines some.texts
      (subst (λ (n : ℕ). AreTexts n more.added more.lines) some.cells more.texts);
  no_feeds = λ h.
      let before = some.no_feeds h in
      let behind = more.no_feeds before.1 in
      (all_both HasNoFeed some.lines more.lines before.0 behind.0, behind.1);
  events = more.events ∙ ap (λ (es : List Event). es ++ more.added) some.events
      ∙ append_assoc old.events.items some.added more.added;
  parts = joined old.started.items first second mid.started.items new.started.items some.lines
      more.lines some.parts more.parts;
  cells = more.cells ∙ some.cells;
  count = λ n is.
      more.count (n + length some.lines) (some.count n is)
      ∙ ap line_count (add_assoc n (length some.lines) (length more.lines)
      ∙ ap (λ (k : ℕ). n + k) (sym (length-append some.lines more.lines)));
}

pub refuses_behind : (old mid : Script) (first second : List ℕ) (number : ℕ)
    → Reads old mid first → RefusesAt mid second number → RefusesAt old (first ++ second) number
refuses_behind old mid first second number some refuses = record {
  lines = some.lines ++ refuses.lines;
  added = some.added ++ refuses.added;
  texts = texts_both old.cells some.added refuses.added some.lines refuses.lines some.texts
      (subst (λ (n : ℕ). AreTexts n refuses.added refuses.lines) some.cells refuses.texts);
  line = refuses.line;
  behind = refuses.behind;
  no_feeds = λ h.
      let before = some.no_feeds h in
      let feeds = refuses.no_feeds before.1 in
      (all_both HasNoFeed some.lines refuses.lines before.0 feeds.0, feeds.1);
  parts = joined old.started.items first second mid.started.items (refuses.line ++ codes "\n"
      ++ refuses.behind) some.lines refuses.lines some.parts refuses.parts;
  bad = subst (λ (n : ℕ). IsBadLine n refuses.line) some.cells refuses.bad;
  is = λ n count.
      refuses.is (n + length some.lines) (some.count n count)
      ∙ ap (λ (k : ℕ). line_count (k + 1)) (add_assoc n (length some.lines) (length refuses.lines)
      ∙ ap (λ (k : ℕ). n + k) (sym (length-append some.lines refuses.lines)));
}

-- ---- the same, where the octets are kept

pub keeps_nothing : (script : Script) (kept : List ℕ)
    → Reads script script [] × (kept ≡ kept ++ [])
keeps_nothing script kept = (reads_nothing script, sym (append-nil kept))

pub keeps_both : (old mid new : Script) (kept more all first second : List ℕ)
    → Reads old mid first × (more ≡ kept ++ first)
    → Reads mid new second × (all ≡ more ++ second)
    → Reads old new (first ++ second) × (all ≡ kept ++ (first ++ second))
keeps_both old mid new kept more all first second some then = (
  reads_both old mid new first second some.0 then.0,
  then.1 ∙ ap (λ (xs : List ℕ). xs ++ second) some.1 ∙ append_assoc kept first second,
)
