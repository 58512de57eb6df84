-- SPDX-License-Identifier: MIT OR Apache-2.0
-- Lemmas: the lines that a reader still has to take, before and after it takes one.
use Rattle.std.proofs.Common.{◌≡◌, ◌≢◌, ℕ, ◌+◌, ◌<◌, List, [], ◌∷◌, ◌++◌, length, take, drop, refl, sym, ap, ◌∙◌, arith, inl, inr, Some, Result, Ok, Err}
use Rattle.std.proofs.lemmas.Bool.{lt-ltb}
use Rattle.std.proofs.lemmas.List.{append-nil, append_assoc, length-append, length-drop}
use Rattle.memchr.specs.Find.{IsFirstByte, is_byte}
use Rattle.octets.specs.declared.memory.Memory.{Memory as NoMemory}
use Rattle.judge_lines.specs.Line.{Reads, line_said}
use Rattle.judge_lines.specs.Lines.{Counts, Feeds, HasNoFeed, LinesState, RefusesLine, Takes, TakesAtEnd, TakesLine, lines_from, lines_of, place_behind, to_come}
use Rattle.judge_lines.specs.declared.fault.LineFault.{LineFault}
use Rattle.judge_lines.specs.declared.fault.LineFault.TheVariants.{Memory, NoEnd, NotHexadecimal, NotSixColumns, TooLong}
use Rattle.judge_lines.specs.declared.line.Line.{Line}
use Rattle.judge_lines.specs.declared.line.TheConstants.{MAX_LINE}
use Rattle.judge_lines.proofs.Parting.{lacks_before, line_alone, line_at, line_begun, parted_at}

-- what is fed is the beginning of what comes
pub fed : (old new : LinesState) (piece more : List ℕ) →
    Feeds old piece (let r : Result (Unit {0}) NoMemory = Ok tt in r) new →
    to_come new more ≡ to_come old (piece ++ more)
fed old new piece more is =
    ap (λ (s : LinesState). to_come s more) is ∙ ap (λ (octets : List ℕ). lines_from old.count (lines_of octets)) (append_assoc old.octets piece more)

-- the first line is that before the first line feed
pub come_at : (old : LinesState) (n : ℕ) (more : List ℕ) → IsFirstByte (is_byte 10) old.octets (Some n)
    → to_come old more ≡ line_said (place_behind old.count) (take n old.octets) ∷ lines_from (place_behind old.count) (lines_of (drop (n + 1) old.octets ++ more))
come_at old n more first =
    let parts : old.octets ++ more ≡ take n old.octets ++ 10 ∷ (drop (n + 1) old.octets ++ more) =
    ap (λ (octets : List ℕ). octets ++ more) (parted_at 10 old.octets n first) ∙ append_assoc (take n old.octets) (10 ∷ drop (n + 1) old.octets) more in
    let none : HasNoFeed (take n old.octets) = lacks_before 10 old.octets n first.0.before (omega (arith, first.0.high)) in
    ap (λ (octets : List ℕ). lines_from old.count (lines_of octets)) parts
    ∙ ap (lines_from old.count) (line_at (take n old.octets) (drop (n + 1) old.octets ++ more) none)

-- a line is too long that has begun so
too_long_by : (old : LinesState) (octets more : List ℕ) →
    octets ≡ old.octets →
    HasNoFeed octets →
    MAX_LINE < length octets →
    RefusesLine old TooLong more
too_long_by old [] more is none long = absurd (omega arith)
too_long_by old (octet ∷ octets) more is none long =
    let begun = line_begun octet octets more none in
    let line : List ℕ = (octet ∷ octets) ++ begun.0 in
    let longer : MAX_LINE < length line = omega (arith, length-append (octet ∷ octets) begun.0) in
    let place : ℕ = place_behind old.count in
    let refused : line_said place line ≡ Err TooLong = rw (lt-ltb MAX_LINE (length line) longer) refl in (
      lines_from place begun.1,
      ap (λ (xs : List ℕ). lines_from old.count (lines_of (xs ++ more))) (sym is) ∙ ap (lines_from old.count) begun.2
          ∙ ap (λ (said : Result Line LineFault). said ∷ lines_from place begun.1) refused,
    )

pub too_long : (old : LinesState) (more : List ℕ) → HasNoFeed old.octets → MAX_LINE < length old.octets → RefusesLine old TooLong more
too_long old more none long = too_long_by old old.octets more refl none long

has_octets : (octets : List ℕ) → octets ≢ [] → 0 < length octets
has_octets [] some = absurd (some refl)
has_octets (octet ∷ octets) some = omega arith

-- where no octets come, those that are left are the last line
last_by : (old : LinesState) (octets : List ℕ) →
    octets ≡ old.octets →
    HasNoFeed octets →
    octets ≢ [] →
    to_come old [] ≡ line_said (place_behind old.count) octets ∷ []
last_by old [] is none some = absurd (some refl)
last_by old (octet ∷ octets) is none some =
    ap (λ (xs : List ℕ). lines_from old.count (lines_of xs)) (append-nil old.octets ∙ sym is)
    ∙ ap (lines_from old.count) (line_alone octet octets none)

pub come_last : (old : LinesState) →
    HasNoFeed old.octets →
    old.octets ≢ [] →
    to_come old [] ≡ line_said (place_behind old.count) old.octets ∷ []
come_last old none some = last_by old old.octets refl none some

-- ---- what a call of the reader answers

pub taken : (old new : LinesState) (n : ℕ) (line : Line) → IsFirstByte (is_byte 10) old.octets (Some n)
    → line_said (place_behind old.count) (take n old.octets) ≡ Ok line → new.octets ≡ drop (n + 1) old.octets → Counts old new → TakesLine old line new
taken old new n line first said left counted =
    let high : n < length old.octets = first.0.high in
    let size : length new.octets ≡ length (drop (n + 1) old.octets) = ap length left in (
      counted,
      omega (arith, size, high, length-drop (n + 1) old.octets),
      λ more.
          come_at old n more first
          ∙ ap (λ (s : Result Line LineFault). s ∷ lines_from (place_behind old.count) (lines_of (drop (n + 1) old.octets ++ more))) said
          ∙ ap (λ (octets : List ℕ). Ok line ∷ lines_from (place_behind old.count) (lines_of (octets ++ more))) (sym left)
          ∙ ap (λ (count : ℕ). Ok line ∷ lines_from count (lines_of (new.octets ++ more))) (sym counted),
    )

-- a fault other than the want of memory is that of the line
fault_of : (fault : LineFault) (said : Result Line LineFault) →
    Reads (let r : Result Line LineFault = Err fault in r) said →
    fault ≢ Memory →
    said ≡ Err fault
fault_of fault said (inl is) other = is
fault_of fault said (inr wanted) other = absurd (other wanted.0)

refuses : (old : LinesState) (n : ℕ) (fault : LineFault) (more : List ℕ) → IsFirstByte (is_byte 10) old.octets (Some n)
    → line_said (place_behind old.count) (take n old.octets) ≡ Err fault → RefusesLine old fault more
refuses old n fault more first said =
    let others : List (Result Line LineFault) = lines_from (place_behind old.count) (lines_of (drop (n + 1) old.octets ++ more)) in
    (others, come_at old n more first ∙ ap (λ (s : Result Line LineFault). s ∷ others) said)

abbrev pub SaysFault : LinesState → List ℕ → LineFault → Type 0
SaysFault old line fault = Reads (let r : Result Line LineFault = Err fault in r) (line_said (place_behind old.count) line)

pub refused : (old new : LinesState) (n : ℕ) (fault : LineFault) → IsFirstByte (is_byte 10) old.octets (Some n) → SaysFault old (take n old.octets) fault
    → Counts old new → Takes old (Err fault) new
refused old new n NotSixColumns first said counted = (counted, λ more. refuses old n NotSixColumns more first (fault_of NotSixColumns _ said (λ is. absurd cc)))
refused old new n NoEnd first said counted = (counted, λ more. refuses old n NoEnd more first (fault_of NoEnd _ said (λ is. absurd cc)))
refused old new n NotHexadecimal first said counted = (counted, λ more. refuses old n NotHexadecimal more first (fault_of NotHexadecimal _ said (λ is. absurd cc)))
refused old new n TooLong first said counted = (counted, λ more. refuses old n TooLong more first (fault_of TooLong _ said (λ is. absurd cc)))
refused old new n Memory first said counted = counted

-- ---- where no octets come

pub refused_at_end : (old new : LinesState) (fault : LineFault) → Takes old (Err fault) new → TakesAtEnd old (Err fault) new
refused_at_end old new NotSixColumns takes = (takes.0, takes.1 [])
refused_at_end old new NoEnd takes = (takes.0, takes.1 [])
refused_at_end old new NotHexadecimal takes = (takes.0, takes.1 [])
refused_at_end old new TooLong takes = (takes.0, takes.1 [])
refused_at_end old new Memory takes = takes

pub taken_last : (old new : LinesState) (line : Line) → HasNoFeed old.octets → old.octets ≢ [] → line_said (place_behind old.count) old.octets ≡ Ok line
    → new.octets ≡ [] → Counts old new → TakesAtEnd old (Ok (Some line)) new
taken_last old new line none some said left counted =
    let size : length new.octets ≡ 0 = ap length left in (
      counted,
      omega (arith, size, has_octets old.octets some),
      come_last old none some ∙ ap (λ (s : Result Line LineFault). s ∷ []) said
          ∙ ap (λ (octets : List ℕ). Ok line ∷ lines_from new.count (lines_of (octets ++ []))) (sym left),
    )

refuses_last : (old : LinesState) (fault : LineFault) →
    HasNoFeed old.octets →
    old.octets ≢ [] →
    line_said (place_behind old.count) old.octets ≡ Err fault →
    RefusesLine old fault []
refuses_last old fault none some said = ([], come_last old none some ∙ ap (λ (s : Result Line LineFault). s ∷ []) said)

pub refused_last : (old new : LinesState) (fault : LineFault) → HasNoFeed old.octets → old.octets ≢ [] → SaysFault old old.octets fault → Counts old new
    → TakesAtEnd old (Err fault) new
refused_last old new NotSixColumns none some said counted = (counted, refuses_last old NotSixColumns none some (fault_of NotSixColumns _ said (λ is. absurd cc)))
refused_last old new NoEnd none some said counted = (counted, refuses_last old NoEnd none some (fault_of NoEnd _ said (λ is. absurd cc)))
refused_last old new NotHexadecimal none some said counted = (counted, refuses_last old NotHexadecimal none some (fault_of NotHexadecimal _ said (λ is. absurd cc)))
refused_last old new TooLong none some said counted = (counted, refuses_last old TooLong none some (fault_of TooLong _ said (λ is. absurd cc)))
refused_last old new Memory none some said counted = counted
