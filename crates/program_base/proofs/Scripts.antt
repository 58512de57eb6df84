-- SPDX-License-Identifier: MIT OR Apache-2.0
-- The part of a script that is read so far, and how a line, a piece and the end extend it.
use Rattle.std.proofs.Common.{◌≡◌, ◌≢◌, ◌⊎◌, ℕ, suc, ◌+◌, ◌<◌, List, [], ◌∷◌, ◌++◌, length, take, drop, get_or, Option, Some, None, Result, Ok, Err, refl, sym, ap, subst, ◌∙◌, append_assoc, append-nil, arith, eq-eqb, inl, inr, take-append-drop}
use Rattle.std.proofs.lemmas.Bool.{eqb-true}
use Rattle.std.proofs.lemmas.List.{drop_more, flat_map_more, get_or-take, length-append, length-take}
use Rattle.std.specs.Prelude.{codes}
use Rattle.std.specs.List.{AllByRecursion}
use Rattle.std.specs.Prelude.{IfSome}
use Rattle.std.specs.Io.KnownBytes.{Consumes, IsAtEnd}
use Rattle.std.proofs.KnownBytes.{Consumes-nil, Consumes-trans, Consumes-whole}
use Rattle.memchr.specs.Find.{IsFirstByte, is_byte}
use Rattle.world_model.specs.declared.event.Event.{Event}
use Rattle.program_base.specs.Script.{IsLine}
use Rattle.program_base.specs.declared.line_fault.LineFault.{LineFault}
use Rattle.program_base.specs.declared.line_fault.LineFault.TheVariants.{BadEvent, Memory}
use Rattle.std.specs.IoError.{error_kind}
use Rattle.std.specs.declared.io.ErrorKind.{ErrorKind}
use Rattle.std.specs.declared.io.ErrorKind.TheVariants as kinds
use Rattle.program_io.specs.declared.failure.Failure.{Failure}
use Rattle.program_io.specs.declared.failure.Failure.TheVariants as failures
use Rattle.program_io.specs.declared.input.Unread.{Unread}
use Rattle.program_io.specs.declared.input.Unread.TheVariants.{Endless, Device, Refused}
use Rattle.program_io.specs.Input.{ReadsInput}
use Rattle.program_io.specs.Status.{failure_of, failure_unread}
use Rattle.program_base.specs.declared.whole_script.Script.{Script}
use Rattle.program_base.specs.Pieces.{all_both}
use Rattle.program_base.specs.WholeScriptLaws.{lines_both, texts_both}
use Rattle.program_base.specs.WholeScript.{AddsLine, AreTexts, Finishes, HasNoFeed, IsBadLine, IsBadScript, IsScript, Reads, RefusesAt, RefusesLine, line_count, lines_text}

-- of the block all but the rest was read
pub record ReadsSome (old new : Script) (block rest : List ℕ) : Type 0 where
  pub read : List ℕ
  pub parts : block ≡ read ++ rest
  pub reads : Reads old new read

-- ---- lists

no_feed_by : (xs : List ℕ) → ((k : ℕ) → k < length xs → get_or xs k 0 ≢ 10) → HasNoFeed xs
no_feed_by [] none = tt
no_feed_by (x ∷ xs) none = (none 0 (omega arith), no_feed_by xs (λ k lt. none (suc k) (omega (arith, lt))))

pub no_feed : (xs : List ℕ) → IsFirstByte (is_byte 10) xs None → HasNoFeed xs
no_feed xs none = no_feed_by xs (λ k lt is. none k (omega arith) lt (eq-eqb _ _ is))

-- a line feed, what is before it, and what is behind it
pub record IsParted (xs : List ℕ) (n : ℕ) : Type 0 where
  pub no_feeds : HasNoFeed (take n xs)
  pub parts : xs ≡ (take n xs ++ codes "\n") ++ drop (n + 1) xs

pub parted_at : (xs : List ℕ) (n : ℕ) → IsFirstByte (is_byte 10) xs (Some n) → IsParted xs n
parted_at xs n found =
    let feed : get_or xs n 0 ≡ 10 = eqb-true _ _ found.1 in
    record {
      no_feeds = no_feed_by (take n xs) (λ k lt is.
          let less : k < n = omega (arith, lt, length-take n xs) in
          found.0.before k (omega arith) less (eq-eqb _ _ (sym (get_or-take n xs k 0 less) ∙ is)));
      parts =
          sym (take-append-drop n xs) ∙ ap (λ (ys : List ℕ). take n xs ++ ys) (drop_more xs n 0 found.0.high ∙ ap (λ (x : ℕ). x ∷ drop (n + 1) xs) feed)
          ∙ sym (append_assoc (take n xs) (codes "\n") (drop (n + 1) xs));
    }

-- ---- counts

counted_more : (n : ℕ) → line_count (line_count n + 1) ≡ line_count (n + 1)
counted_more n = omega arith

-- ---- what was read

pub reads_none : (script : Script) (block : List ℕ) → ReadsSome script script block block
reads_none script block = record {
  read = [];
  parts = refl;
  reads =
      record {
        lines = [];
        added = [];
        texts = tt;
        no_feeds = λ none. (tt, none);
        events = sym (append-nil script.events.items);
        parts = append-nil script.started.items;
        cells = refl;
        count = λ n is. is ∙ ap line_count (let same : n ≡ n + 0 = omega arith in same);
      };
}

line_text : (lines : List (List ℕ)) (line : List ℕ) → lines_text (lines ++ line ∷ []) ≡ lines_text lines ++ (line ++ codes "\n")
line_text lines line = sym (flat_map_more (λ (l : List ℕ). l ++ codes "\n") [] lines line)

reads_line : (old mid new : Script) (read end : List ℕ) →
    Reads old mid read →
    HasNoFeed end →
    AddsLine mid new (mid.started.items ++ end) →
    new.started.items ≡ [] →
    Reads old new (read ++ (end ++ codes "\n"))
reads_line old mid new read end some none adds started =
    let line : List ℕ = mid.started.items ++ end in
    let feed : List ℕ = codes "\n" in
    record {
      lines = some.lines ++ line ∷ [];
      added = some.added ++ adds.event ∷ [];
      texts = texts_both old.cells some.added (adds.event ∷ []) some.lines (line ∷ []) some.texts (subst (λ (n : ℕ). IsLine n adds.event line) some.cells adds.text, tt);
      no_feeds = λ h.
          let before = some.no_feeds h in (
            all_both HasNoFeed some.lines (line ∷ []) before.0 (all_both (λ (octet : ℕ). octet ≢ 10) mid.started.items end before.1 none, tt),
            subst HasNoFeed (sym started) tt,
          );
      events = adds.events ∙ ap (λ (es : List Event). es ++ adds.event ∷ []) some.events ∙ append_assoc old.events.items some.added (adds.event ∷ []);
      parts =
          sym (append_assoc old.started.items read (end ++ feed)) ∙ ap (λ (xs : List ℕ). xs ++ (end ++ feed)) some.parts
          ∙ append_assoc (lines_text some.lines) mid.started.items (end ++ feed) ∙ ap (λ (xs : List ℕ). lines_text some.lines ++ xs) (sym (append_assoc mid.started.items end feed))
          ∙ sym (line_text some.lines line) ∙ sym (append-nil (lines_text (some.lines ++ line ∷ []))) ∙ ap (λ (xs : List ℕ). lines_text (some.lines ++ line ∷ []) ++ xs) (sym started);
      cells = adds.cells ∙ some.cells;
      count = λ n is.
          adds.lines ∙ ap (λ (m : ℕ). line_count (m + 1)) (some.count n is) ∙ counted_more (n + length some.lines)
          ∙ ap line_count (let same : n + length some.lines + 1 ≡ n + length (some.lines ++ line ∷ []) = omega (arith, length-append some.lines (line ∷ [])) in same);
    }

pub reads_more : (old mid new : Script) (block rest left : List ℕ) (n : ℕ) → ReadsSome old mid block rest → IsFirstByte (is_byte 10) rest (Some n) → AddsLine mid new (mid.started.items ++ take n rest) → new.started.items ≡ []
    → left ≡ drop (n + 1) rest → ReadsSome old new block left
reads_more old mid new block rest left n some found adds started is =
    let parted = parted_at rest n found in
    let end : List ℕ = take n rest ++ codes "\n" in
    record {
      read = some.read ++ end;
      parts =
          some.parts ∙ ap (λ (xs : List ℕ). some.read ++ xs) (parted.parts ∙ ap (λ (xs : List ℕ). end ++ xs) (sym is)) ∙ sym (append_assoc some.read end left);
      reads = reads_line old mid new some.read (take n rest) some.reads parted.no_feeds adds started;
    }

-- the rest of a block begins a line
pub reads_all : (old mid new : Script) (block rest : List ℕ) → ReadsSome old mid block rest → HasNoFeed rest → new.started.items ≡ mid.started.items ++ rest → new.events.items ≡ mid.events.items → new.cells ≡ mid.cells → new.lines ≡ mid.lines
    → Reads old new block
reads_all old mid new block rest some none started events cells lines = record {
  lines = some.reads.lines;
  added = some.reads.added;
  texts = some.reads.texts;
  no_feeds = λ h.
      let before = some.reads.no_feeds h in
      (before.0, subst HasNoFeed (sym started) (all_both (λ (octet : ℕ). octet ≢ 10) mid.started.items rest before.1 none));
  events = events ∙ some.reads.events;
  parts =
      ap (λ (xs : List ℕ). old.started.items ++ xs) some.parts ∙ sym (append_assoc old.started.items some.read rest) ∙ ap (λ (xs : List ℕ). xs ++ rest) some.reads.parts
      ∙ append_assoc (lines_text some.reads.lines) mid.started.items rest ∙ ap (λ (xs : List ℕ). lines_text some.reads.lines ++ xs) (sym started);
  cells = cells ∙ some.reads.cells;
  count = λ n is. lines ∙ some.reads.count n is;
}

-- a line of the block is bad
pub refuses_at : (old mid : Script) (block rest : List ℕ) (n number : ℕ) →
    ReadsSome old mid block rest →
    IsFirstByte (is_byte 10) rest (Some n) →
    RefusesLine mid (mid.started.items ++ take n rest) number →
    RefusesAt old block number
refuses_at old mid block rest n number some found refuses =
    let parted = parted_at rest n found in
    let before : List ℕ = lines_text some.reads.lines in
    let start : List ℕ = mid.started.items in
    let feed : List ℕ = codes "\n" in
    let front : List ℕ = take n rest in
    let behind : List ℕ = drop (n + 1) rest in
    record {
      lines = some.reads.lines;
      added = some.reads.added;
      texts = some.reads.texts;
      line = start ++ front;
      behind = behind;
      no_feeds = λ h.
          let feeds = some.reads.no_feeds h in
          (feeds.0, all_both (λ (octet : ℕ). octet ≢ 10) start front feeds.1 parted.no_feeds);
      parts =
          ap (λ (xs : List ℕ). old.started.items ++ xs) some.parts ∙ sym (append_assoc old.started.items some.read rest) ∙ ap (λ (xs : List ℕ). xs ++ rest) some.reads.parts
          ∙ append_assoc before start rest ∙ ap (λ (xs : List ℕ). before ++ (start ++ xs)) parted.parts
          ∙ ap (λ (xs : List ℕ). before ++ xs) (sym (append_assoc start (front ++ feed) behind) ∙ ap (λ (xs : List ℕ). xs ++ behind) (sym (append_assoc start front feed)));
      bad = subst (λ (cells : ℕ). IsBadLine cells (start ++ front)) some.reads.cells refuses.0;
      is = λ k is. refuses.1 ∙ ap (λ (m : ℕ). line_count (m + 1)) (some.reads.count k is) ∙ counted_more (k + length some.reads.lines);
    }

-- ---- the whole script

-- What was read were the lines of the events so far, and the beginning of a line.
pub record ReadsScript (cells : ℕ) (start now : Option (List ℕ)) (script : Script) : Type 0 where
  pub lines : List (List ℕ)
  pub texts : AreTexts cells script.events.items lines
  pub no_feeds : AllByRecursion HasNoFeed lines × HasNoFeed script.started.items
  pub read : Consumes start now (lines_text lines ++ script.started.items)
  pub cells_are : script.cells ≡ cells
  pub count : script.lines ≡ line_count (length lines)

pub script_none : (cells : ℕ) (start : Option (List ℕ)) (script : Script) →
    script.cells ≡ cells →
    script.events.items ≡ [] →
    script.started.items ≡ [] →
    script.lines ≡ 0 →
    ReadsScript cells start start script
script_none cells start script is events started lines = record {
  lines = [];
  texts = subst (λ (es : List Event). AreTexts cells es []) (sym events) tt;
  no_feeds = (tt, subst HasNoFeed (sym started) tt);
  read = subst (Consumes start start) (sym started) (Consumes-nil start);
  cells_are = is;
  count = lines;
}

pub script_more : (cells : ℕ) (start now later : Option (List ℕ)) (old new : Script) (piece : List ℕ) →
    ReadsScript cells start now old →
    Consumes now later piece →
    Reads old new piece →
    ReadsScript cells start later new
script_more cells start now later old new piece some read reads =
    let first : List ℕ = lines_text some.lines in
    let second : List ℕ = lines_text reads.lines in
    let feeds = reads.no_feeds some.no_feeds.1 in
    let whole : (first ++ old.started.items) ++ piece ≡ lines_text (some.lines ++ reads.lines) ++ new.started.items =
    append_assoc first old.started.items piece ∙ ap (λ (xs : List ℕ). first ++ xs) reads.parts ∙ sym (append_assoc first second new.started.items)
    ∙ ap (λ (xs : List ℕ). xs ++ new.started.items) (sym (lines_both some.lines reads.lines)) in
    record {
      lines = some.lines ++ reads.lines;
      texts =
          subst (λ (es : List Event). AreTexts cells es (some.lines ++ reads.lines)) (sym reads.events)
          (texts_both cells old.events.items reads.added some.lines reads.lines some.texts (subst (λ (n : ℕ). AreTexts n reads.added reads.lines) some.cells_are reads.texts));
      no_feeds = (all_both HasNoFeed some.lines reads.lines some.no_feeds.0 feeds.0, feeds.1);
      read = subst (Consumes start later) whole (Consumes-trans start now later (first ++ old.started.items) piece some.read read);
      cells_are = reads.cells ∙ some.cells_are;
      count = reads.count (length some.lines) some.count ∙ ap line_count (sym (length-append some.lines reads.lines));
    }

script_is : (cells : ℕ) (start now : Option (List ℕ)) (script : Script) (events : List Event) (some : ReadsScript cells start now script) →
    Finishes script events →
    IsScript cells (lines_text some.lines ++ script.started.items) events
script_is cells start now script events some (inl none) = record {
  lines = some.lines;
  texts = subst (λ (es : List Event). AreTexts cells es some.lines) (sym none.1) some.texts;
  no_feeds = some.no_feeds.0;
  ended = inl (ap (λ (xs : List ℕ). lines_text some.lines ++ xs) none.0 ∙ append-nil (lines_text some.lines));
}
script_is cells start now script events some (inr last) =
    let line : List ℕ = script.started.items in
    record {
      lines = some.lines ++ line ∷ [];
      texts =
          subst (λ (es : List Event). AreTexts cells es (some.lines ++ line ∷ [])) (sym last.2)
          (texts_both cells script.events.items (last.0 ∷ []) some.lines (line ∷ []) some.texts (subst (λ (n : ℕ). IsLine n last.0 line) some.cells_are last.1, tt));
      no_feeds = all_both HasNoFeed some.lines (line ∷ []) some.no_feeds.0 (some.no_feeds.1, tt);
      ended = inr (append_assoc (lines_text some.lines) line (codes "\n") ∙ sym (line_text some.lines line));
    }

pub script_all : (cells : ℕ) (start end : Option (List ℕ)) (script : Script) (events : List Event) → ReadsScript cells start end script → IsAtEnd end
    → Finishes script events → IfSome start (λ octets. IsScript cells octets events)
script_all cells start end script events some at_end finishes =
    Consumes-whole start end (lines_text some.lines ++ script.started.items) (λ octets. IsScript cells octets events) some.read at_end (script_is cells start end script events some finishes)

-- the last line, which has no line feed, is bad
bad_last : (cells : ℕ) (start now : Option (List ℕ)) (script : Script) (number : ℕ) (some : ReadsScript cells start now script) → script.started.items ≢ [] → RefusesLine script script.started.items number
    → IsBadScript cells (lines_text some.lines ++ script.started.items) number
bad_last cells start now script number some begun refuses = record {
  lines = some.lines;
  events = script.events.items;
  texts = some.texts;
  line = script.started.items;
  behind = [];
  no_feeds = some.no_feeds;
  ended = inl (refl, begun);
  bad = subst (λ (n : ℕ). IsBadLine n script.started.items) some.cells_are refuses.0;
  is = refuses.1 ∙ ap (λ (m : ℕ). line_count (m + 1)) some.count ∙ counted_more (length some.lines);
}

pub script_bad_last : (cells : ℕ) (start end : Option (List ℕ)) (script : Script) (number : ℕ) → ReadsScript cells start end script → IsAtEnd end
    → (script.started.items ≢ []) × RefusesLine script script.started.items number → IfSome start (λ octets. IsBadScript cells octets number)
script_bad_last cells start end script number some at_end refuses =
    Consumes-whole start end (lines_text some.lines ++ script.started.items) (λ octets. IsBadScript cells octets number) some.read at_end (bad_last cells start end script number some refuses.0 refuses.1)

-- a line of the piece that was read is bad
bad_at : (cells : ℕ) (start now : Option (List ℕ)) (script : Script) (piece later : List ℕ) (number : ℕ) (some : ReadsScript cells start now script) → RefusesAt script piece number
    → IsBadScript cells (((lines_text some.lines ++ script.started.items) ++ piece) ++ later) number
bad_at cells start now script piece later number some refuses =
    let first : List ℕ = lines_text some.lines in
    let second : List ℕ = lines_text refuses.lines in
    let line : List ℕ = refuses.line ++ codes "\n" in
    let feeds = refuses.no_feeds some.no_feeds.1 in
    record {
      lines = some.lines ++ refuses.lines;
      events = script.events.items ++ refuses.added;
      texts = texts_both cells script.events.items refuses.added some.lines refuses.lines some.texts (subst (λ (n : ℕ). AreTexts n refuses.added refuses.lines) some.cells_are refuses.texts);
      line = refuses.line;
      behind = refuses.behind ++ later;
      no_feeds = (all_both HasNoFeed some.lines refuses.lines some.no_feeds.0 feeds.0, feeds.1);
      ended =
          inr (
          ap (λ (xs : List ℕ). xs ++ later) (append_assoc first script.started.items piece ∙ ap (λ (xs : List ℕ). first ++ xs) refuses.parts ∙ sym (append_assoc first second (line ++ refuses.behind)))
          ∙ append_assoc (first ++ second) (line ++ refuses.behind) later
          ∙ ap (λ (xs : List ℕ). xs ++ ((line ++ refuses.behind) ++ later)) (sym (lines_both some.lines refuses.lines))
          ∙ ap (λ (xs : List ℕ). lines_text (some.lines ++ refuses.lines) ++ xs) (append_assoc line refuses.behind later)
          );
      bad = subst (λ (n : ℕ). IsBadLine n refuses.line) some.cells_are refuses.bad;
      is = refuses.is (length some.lines) some.count ∙ ap (λ (m : ℕ). line_count (m + 1)) (sym (length-append some.lines refuses.lines));
    }

bad_by : (cells : ℕ) (start end : Option (List ℕ)) (octets : List ℕ) (number : ℕ) →
    Consumes start end octets →
    ((later : List ℕ) → IsBadScript cells (octets ++ later) number) →
    IfSome start (λ octets. IsBadScript cells octets number)
bad_by cells None end octets number read bad = tt
bad_by cells (Some stream) None octets number read bad = absurd read
bad_by cells (Some stream) (Some later) octets number read bad = subst (λ (xs : List ℕ). IsBadScript cells xs number) (sym read) (bad later)

pub script_bad_at : (cells : ℕ) (start now later : Option (List ℕ)) (script : Script) (piece : List ℕ) (number : ℕ) → ReadsScript cells start now script → Consumes now later piece → RefusesAt script piece number
    → IfSome start (λ octets. IsBadScript cells octets number)
script_bad_at cells start now later script piece number some read refuses =
    let octets : List ℕ = lines_text some.lines ++ script.started.items in
    bad_by cells start later (octets ++ piece) number (Consumes-trans start now later octets piece some.read read) (λ rest. bad_at cells start now script piece rest number some refuses)

no_bad_event : (kind : ErrorKind) (number : ℕ) → failure_of kind ≡ failures.BadEvent number → ⊥
no_bad_event kinds.OutOfMemory number is = absurd cc
no_bad_event _ number is = absurd cc

-- an input that wasn't read to its end for a bad line was read up to it
pub refuses_unread : (most : ℕ) (start end : Option (List ℕ)) (old new : Script) (unread : Unread Failure) (number : ℕ)
    → ReadsInput (λ old octets new. Reads old new octets) (λ old octets new failure. (n : ℕ) → failure ≡ failures.BadEvent n → RefusesAt old octets n) most start end old new (Err unread)
    → failure_unread unread ≡ failures.BadEvent number → (octets : List ℕ) × Consumes start end octets × RefusesAt old octets number
refuses_unread most start end old new (Endless reads) number reading is = absurd cc
refuses_unread most start end old new (Device error) number reading is = absurd (no_bad_event (error_kind error) number is)
refuses_unread most start end old new (Refused failure) number reading is = (reading.0, reading.1, reading.2 number is)

-- the same of a sink that reads a script and does more
pub refused_unread : {S : Type 0} (takes : S → List ℕ → S → Type 0) (refuses : S → List ℕ → S → Failure → Type 0) (most : ℕ) (start end : Option (List ℕ)) (old new : S) (unread : Unread Failure) (number : ℕ)
    → ReadsInput takes refuses most start end old new (Err unread) → failure_unread unread ≡ failures.BadEvent number → (octets : List ℕ) × (failure : Failure) × Consumes start end octets × refuses old octets new failure × (failure ≡ failures.BadEvent number)
refused_unread takes refuses most start end old new (Endless reads) number reading is = absurd cc
refused_unread takes refuses most start end old new (Device error) number reading is = absurd (no_bad_event (error_kind error) number is)
refused_unread takes refuses most start end old new (Refused failure) number reading is = (reading.0, failure, reading.1, reading.2, is)

-- ---- a line

neither : (event : Event) (fault : LineFault) →
    fault ≡ BadEvent →
    ((let r : Result Event LineFault = Err fault in r) ≡ Ok event) ⊎ ((let r : Result Event LineFault = Err fault in r) ≡ Err Memory) →
    ⊥
neither event fault bad (inl is) = absurd (cc is)
neither event fault bad (inr is) = absurd (cc (bad, is))

pub no_event : (cells : ℕ) (line : List ℕ) (fault : LineFault) →
    fault ≡ BadEvent →
    ((event : Event) → IsLine cells event line → ((let r : Result Event LineFault = Err fault in r) ≡ Ok event) ⊎ ((let r : Result Event LineFault = Err fault in r) ≡ Err Memory)) →
    IsBadLine cells line
no_event cells line fault bad only = inr (λ event says. neither event fault bad (only event says))

-- behind no octets
pub behind_none : (xs ys : List ℕ) → length xs ≡ 0 → ys ≡ xs ++ ys
behind_none [] ys none = refl
behind_none (x ∷ xs) ys none = absurd (omega arith)

pub has_octets : (xs : List ℕ) → length xs ≢ 0 → xs ≢ []
has_octets xs some none = some (ap (λ (ys : List ℕ). length ys) none)
