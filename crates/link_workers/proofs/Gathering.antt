-- SPDX-License-Identifier: MIT OR Apache-2.0
-- Lemmas: each line and each write extends what a writer has written.
use Rattle.std.proofs.Common.{◌≡◌, ℕ, ◌-◌, true, false, Bool, not, inl, inr, arith, List, [], ◌∷◌, ◌++◌, length, take, drop, Option, Some, None, Ok, Err, refl, sym, ap, subst, ◌∙◌, append_assoc, append-nil, take-append-drop}
use Rattle.std.specs.List.{AllByRecursion}
use Rattle.std.specs.Io.KnownBytes.{Appends, Keeps}
use Rattle.std.proofs.KnownBytes.{Appends-nil, Appends-trans, Appends-kept}
use Rattle.std.proofs.lemmas.Bool.{cases_lt, le-ltb, lt-ltb}
use Rattle.std.proofs.lemmas.List.{flat_map_more, map-append, length-drop, take_all}
use Rattle.std.proofs.lemmas.Grind.{flat_map-append}
use Rattle.ipa_framing.specs.declared.frame.Frame.{Frame}
use Rattle.ipa_framing.specs.declared.frame.TheConstants.{MAX_BODY}
use Rattle.ipa_framing.specs.declared.fault.FrameFault.{FrameFault}
use Rattle.ipa_framing.specs.declared.fault.FrameFault.TheVariants as framing
use Rattle.ipa_framing.specs.Frame.{IsFrame, frame_text, write_fault}
use Rattle.octets.specs.Refusal.{RefusesBy}
use Rattle.ruled_relay.specs.declared.outbox.Line.{Line}
use Rattle.ruled_relay.specs.declared.outbox.Line.TheVariants.{Frame as FrameLine, End}
use Rattle.ruled_relay.specs.Outbox.{TakerView}
use Rattle.link_workers.specs.declared.fault.IoFault.{IoFault}
use Rattle.link_workers.specs.declared.fault.IoFault.TheVariants as faults
use Rattle.link_workers.specs.declared.writer.Broken.{Broken}
use Rattle.link_workers.specs.Faults.{fault_of_frame}
use Rattle.link_workers.specs.Reading.{frames_text}
use Rattle.link_workers.specs.Writing.{AppendsBeginning, Delivers, Gathers, IsWriterFault, TakesToEnd, WritesLines, WritesText, end_if, having_taken, lines}
use Rattle.link_workers.proofs.Reading.{all_both}

-- ---- a text

-- all but the rest was written
abbrev pub PutsSome : List ℕ → List ℕ → Option (List ℕ) → Option (List ℕ) → Type 0
PutsSome text rest old new = (written : List ℕ) × (text ≡ written ++ rest) × Appends old new written

pub puts_more : (text rest left : List ℕ) (count : ℕ) (old mid new : Option (List ℕ)) →
    PutsSome text rest old mid →
    Appends mid new (take count rest) →
    left ≡ drop count rest →
    PutsSome text left old new
puts_more text rest left count old mid new some wrote is = (
  some.0 ++ take count rest,
  some.1 ∙ ap (λ (xs : List ℕ). some.0 ++ xs) (sym (take-append-drop count rest) ∙ ap (λ (xs : List ℕ). take count rest ++ xs) (sym is)) ∙ sym (append_assoc some.0 (take count rest) left),
  Appends-trans old mid new some.0 (take count rest) some.2 wrote,
)

pub all_of : (xs : List ℕ) (k n : ℕ) → n ≡ length xs → take (n - k) (drop k xs) ≡ drop k xs
all_of xs k n is = take_all (n - k) (drop k xs) (omega (arith, is, length-drop k xs))

pub puts_kept : (text rest : List ℕ) (old mid new : Option (List ℕ)) →
    PutsSome text rest old mid →
    Keeps mid new →
    PutsSome text rest old new
puts_kept text rest old mid new some keeps = (some.0, some.1, Appends-kept old mid new some.0 some.2 keeps)

-- ---- lines

pub taken_none : (t : TakerView) → t ≡ having_taken t []
taken_none t = λ k. record { queue = t.queue; capacity = t.capacity; taken = sym (append-nil t.taken) k }

pub taken_both : (old mid new : TakerView) (xs ys : List Line) →
    mid ≡ having_taken old xs →
    new ≡ having_taken mid ys →
    new ≡ having_taken old (xs ++ ys)
taken_both old mid new xs ys first second =
    second ∙ ap (λ (t : TakerView). having_taken t ys) first ∙ (λ k. record { queue = old.queue; capacity = old.capacity; taken = append_assoc old.taken xs ys k })

lines_both : (fs gs : List Frame) → lines (fs ++ gs) ≡ lines fs ++ lines gs
lines_both fs gs = map-append (λ (f : Frame). FrameLine f) fs gs

pub taken_frame : (old mid new : TakerView) (fs : List Frame) (f : Frame) →
    mid ≡ having_taken old (lines fs) →
    new ≡ having_taken mid (FrameLine f ∷ []) →
    new ≡ having_taken old (lines (fs ++ f ∷ []))
taken_frame old mid new fs f first second = taken_both old mid new (lines fs) (FrameLine f ∷ []) first second ∙ ap (having_taken old) (sym (lines_both fs (f ∷ [])))

-- frames were taken, and their octets appended
abbrev pub GathersSome : TakerView → TakerView → List ℕ → List ℕ → Type 0
GathersSome old new text now = (frames : List Frame) × (new ≡ having_taken old (lines frames)) × (now ≡ text ++ frames_text frames) × AllByRecursion IsFrame frames

-- frames were taken, and their octets written
abbrev pub WritesSome : Option (List ℕ) → Option (List ℕ) → TakerView → TakerView → Type 0
WritesSome old new taker taken = (frames : List Frame) × (taken ≡ having_taken taker (lines frames)) × Appends old new (frames_text frames) × AllByRecursion IsFrame frames

pub writes_none : (known : Option (List ℕ)) (t : TakerView) → WritesSome known known t t
writes_none known t = ([], taken_none t, Appends-nil known, tt)

pub writes_kept : (old mid new : Option (List ℕ)) (taker taken : TakerView) →
    WritesSome old mid taker taken →
    Keeps mid new →
    WritesSome old new taker taken
writes_kept old mid new taker taken some keeps = (some.0, some.1, Appends-kept old mid new (frames_text some.0) some.2 keeps, some.3)

-- ---- frames that can be written

fits : (f : Frame) → write_fault f ≡ None → IsFrame f
fits f none = elim (cases_lt MAX_BODY (length f.body)) [
  | inl lt ↦
      let refused : write_fault f ≡ Some framing.TooLong = rw (lt-ltb MAX_BODY (length f.body) lt) refl in
      absurd (cc (refused, none))
  | inr le ↦ le
]

fits_none : (f : Frame) → IsFrame f → write_fault f ≡ None
fits_none f fit = rw (le-ltb MAX_BODY (length f.body) fit) refl

all_before : (fs gs : List Frame) → AllByRecursion IsFrame (fs ++ gs) → AllByRecursion IsFrame fs
all_before [] gs all = tt
all_before (f ∷ fs) gs all = (all.0, all_before fs gs all.1)

all_behind : {X : Type 0} (P : X → Type 0) (xs ys : List X) → AllByRecursion P (xs ++ ys) → AllByRecursion P ys
all_behind P [] ys all = all
all_behind P (x ∷ xs) ys all = all_behind P xs ys all.1

-- a frame that isn't written, behind others
pub refused_frame : (fs : List Frame) (f : Frame) (fault : FrameFault) →
    RefusesBy {X = Unit {0}} framing.Memory (Err fault) (write_fault f) →
    IsWriterFault (fault_of_frame fault) (fs ++ f ∷ [])
refused_frame fs f framing.Memory refuses = tt
refused_frame fs f framing.TooLong (inl is) = λ all. absurd (cc (is, fits_none f (all_behind IsFrame fs (f ∷ []) all).0))
refused_frame fs f framing.TooLong (inr (is, none)) = absurd (cc is)

fault_behind : (fs gs : List Frame) (fault : IoFault) → IsWriterFault fault gs → IsWriterFault fault (fs ++ gs)
fault_behind fs gs faults.WriteFailed is = tt
fault_behind fs gs faults.Memory is = tt
fault_behind fs gs faults.FrameFault is = λ all. is (all_behind IsFrame fs gs all)
fault_behind fs gs faults.ReadFailed is = absurd is
fault_behind fs gs faults.GateShut is = absurd is
fault_behind fs gs faults.GivenUp is = absurd is

pub gathers_frame : (old mid new : TakerView) (text between now : List ℕ) (f : Frame) → GathersSome old mid text between → new ≡ having_taken mid (FrameLine f ∷ []) → now ≡ between ++ frame_text f
    → write_fault f ≡ None → GathersSome old new text now
gathers_frame old mid new text between now f some taken appended fit = (
  some.0 ++ f ∷ [],
  taken_frame old mid new some.0 f some.1 taken,
  appended ∙ ap (λ (xs : List ℕ). xs ++ frame_text f) some.2 ∙ append_assoc text (frames_text some.0) (frame_text f) ∙ ap (λ (xs : List ℕ). text ++ xs) (flat_map_more frame_text [] some.0 f),
  all_both IsFrame some.0 (f ∷ []) some.3 (fits f fit, tt),
)

pub gathers_refused : (old mid new : TakerView) (text between now : List ℕ) (f : Frame) (fault : FrameFault) → GathersSome old mid text between → new ≡ having_taken mid (FrameLine f ∷ [])
    → RefusesBy {X = Unit {0}} framing.Memory (Err fault) (write_fault f) → Gathers old new text now (Err (fault_of_frame fault))
gathers_refused old mid new text between now f fault some taken refuses = (some.0 ++ f ∷ [], taken_frame old mid new some.0 f some.1 taken, refused_frame some.0 f fault refuses)

-- ---- what was gathered is written

text_both : (fs gs : List Frame) → frames_text (fs ++ gs) ≡ frames_text fs ++ frames_text gs
text_both fs gs = flat_map-append frame_text fs gs

-- the octets that were gathered, behind none
gathered : (before text : List ℕ) (gs : List Frame) → before ≡ [] → text ≡ before ++ frames_text gs → text ≡ frames_text gs
gathered before text gs none is = is ∙ ap (λ (xs : List ℕ). xs ++ frames_text gs) none

taken_behind : (old mid new : TakerView) (fs gs : List Frame) (last : List Line) →
    mid ≡ having_taken old (lines fs) →
    new ≡ having_taken mid (lines gs ++ last) →
    new ≡ having_taken old (lines (fs ++ gs) ++ last)
taken_behind old mid new fs gs last first second =
    taken_both old mid new (lines fs) (lines gs ++ last) first second ∙ ap (having_taken old) (sym (append_assoc (lines fs) (lines gs) last))
    ∙ ap (λ (ls : List Line). having_taken old (ls ++ last)) (sym (lines_both fs gs))

pub broken_gathering : (old now : Option (List ℕ)) (taker mid taken : TakerView) (before text : List ℕ) (fault : IoFault) → WritesSome old now taker mid → Gathers mid taken before text (Err fault)
    → WritesLines {X = Unit {0}} old now taker taken (Err (record { fault = fault; at_end = false }))
broken_gathering old now taker mid taken before text fault some gathers = (
  some.0 ++ gathers.0,
  taken_behind taker mid taken some.0 gathers.0 [] some.1 (gathers.1 ∙ ap (having_taken mid) (sym (append-nil (lines gathers.0)))),
  (frames_text some.0, frames_text gathers.0, text_both some.0 gathers.0, some.2),
  fault_behind some.0 gathers.0 fault gathers.2,
)

pub broken_writing : (old now new : Option (List ℕ)) (taker mid taken : TakerView) (before text : List ℕ) (at_end : Bool) (fault : IoFault) → WritesSome old now taker mid → Gathers mid taken before text (Ok at_end)
    → before ≡ [] → WritesText {X = Unit {0}} now new text (Err fault) → WritesLines {X = Unit {0}} old new taker taken (Err (record { fault = fault; at_end = at_end }))
broken_writing old now new taker mid taken before text at_end fault some gathers none wrote =
    let begun = wrote.0 in
    let text_is : frames_text gathers.0 ≡ begun.0 ++ begun.1 = sym (gathered before text gathers.0 none gathers.2) ∙ begun.2 in (
      some.0 ++ gathers.0,
      taken_behind taker mid taken some.0 gathers.0 (end_if at_end) some.1 gathers.1,
      (
        frames_text some.0 ++ begun.0,
        begun.1,
        text_both some.0 gathers.0 ∙ ap (λ (xs : List ℕ). frames_text some.0 ++ xs) text_is ∙ sym (append_assoc (frames_text some.0) begun.0 begun.1),
        Appends-trans old now new (frames_text some.0) begun.0 some.2 begun.3,
      ),
      subst (λ (f : IoFault). IsWriterFault f (some.0 ++ gathers.0)) (sym wrote.1) tt,
    )

writes_both : (old now new : Option (List ℕ)) (before text : List ℕ) (fs gs : List Frame) →
    Appends old now (frames_text fs) →
    before ≡ [] →
    text ≡ before ++ frames_text gs →
    Appends now new text →
    Appends old new (frames_text (fs ++ gs))
writes_both old now new before text fs gs first none is second =
    subst (Appends old new) (sym (text_both fs gs)) (Appends-trans old now new (frames_text fs) (frames_text gs) first (subst (Appends now new) (gathered before text gs none is) second))

pub writes_all : (old now new : Option (List ℕ)) (taker mid taken : TakerView) (before text : List ℕ) → WritesSome old now taker mid → Gathers mid taken before text (Ok true) → before ≡ [] → Appends now new text
    → (frames : List Frame) × (taken ≡ having_taken taker (lines frames ++ End ∷ [])) × Appends old new (frames_text frames) × AllByRecursion IsFrame frames
writes_all old now new taker mid taken before text some gathers none wrote = (
  some.0 ++ gathers.0,
  taken_behind taker mid taken some.0 gathers.0 (End ∷ []) some.1 gathers.1,
  writes_both old now new before text some.0 gathers.0 some.2 none gathers.2 wrote,
  all_both IsFrame some.0 gathers.0 some.3 gathers.3,
)

pub writes_more : (old now new : Option (List ℕ)) (taker mid taken : TakerView) (before text : List ℕ) → WritesSome old now taker mid → Gathers mid taken before text (Ok false) → before ≡ [] → Appends now new text
    → WritesSome old new taker taken
writes_more old now new taker mid taken before text some gathers none wrote = (
  some.0 ++ gathers.0,
  taken_behind taker mid taken some.0 gathers.0 [] some.1 gathers.1 ∙ ap (having_taken taker) (append-nil (lines (some.0 ++ gathers.0))),
  writes_both old now new before text some.0 gathers.0 some.2 none gathers.2 wrote,
  all_both IsFrame some.0 gathers.0 some.3 gathers.3,
)

-- ---- all of it

begins_kept : (old mid new : Option (List ℕ)) (text : List ℕ) →
    AppendsBeginning old mid text →
    Keeps mid new →
    AppendsBeginning old new text
begins_kept old mid new text begun keeps = (begun.0, begun.1, begun.2, Appends-kept old mid new begun.0 begun.3 keeps)

-- all was written, and then flushed
pub delivers_all : {X : Type 0} (old mid new : Option (List ℕ)) (taker taken : TakerView) (done : X) →
    WritesLines old mid taker taken (Ok done) →
    Keeps mid new →
    Delivers old new taker taken None
delivers_all old mid new taker taken done all keeps = record { frames = all.0; takes = all.1; writes = (all.3, Appends-kept old mid new (frames_text all.0) all.2 keeps) }

pub delivers_unflushed : {X : Type 0} (old mid new : Option (List ℕ)) (taker taken : TakerView) (done : X) →
    WritesLines old mid taker taken (Ok done) →
    Keeps mid new →
    Delivers old new taker taken (Some faults.WriteFailed)
delivers_unflushed old mid new taker taken done all keeps = record {
  frames = all.0;
  takes = all.1;
  writes = (tt, (frames_text all.0, [], sym (append-nil (frames_text all.0)), Appends-kept old mid new (frames_text all.0) all.2 keeps));
}

-- not all was written, and the mark was taken
pub delivers_ended : (old mid new : Option (List ℕ)) (taker taken : TakerView) (broken : Broken) → WritesLines {X = Unit {0}} old mid taker taken (Err broken) → broken.at_end ≡ true → Keeps mid new
    → Delivers old new taker taken (Some broken.fault)
delivers_ended old mid new taker taken broken some ended keeps = record {
  frames = some.0;
  takes = some.1 ∙ ap (λ (at_end : Bool). having_taken taker (lines some.0 ++ end_if at_end)) ended;
  writes = (some.3, begins_kept old mid new (frames_text some.0) some.2 keeps);
}

fault_before : (fs gs : List Frame) (fault : IoFault) → IsWriterFault fault fs → IsWriterFault fault (fs ++ gs)
fault_before fs gs faults.WriteFailed is = tt
fault_before fs gs faults.Memory is = tt
fault_before fs gs faults.FrameFault is = λ all. is (all_before fs gs all)
fault_before fs gs faults.ReadFailed is = absurd is
fault_before fs gs faults.GateShut is = absurd is
fault_before fs gs faults.GivenUp is = absurd is

-- nor was the mark taken: then all up to it
pub delivers_dropped : (old mid new : Option (List ℕ)) (taker between taken : TakerView) (broken : Broken) → WritesLines {X = Unit {0}} old mid taker between (Err broken) → broken.at_end ≡ false → Keeps mid new
    → TakesToEnd between taken → Delivers old new taker taken (Some broken.fault)
delivers_dropped old mid new taker between taken broken some ended keeps drops =
    let begun = some.2 in
    record {
      frames = some.0 ++ drops.0;
      takes =
          taken_behind taker between taken some.0 drops.0 (End ∷ [])
          (some.1 ∙ ap (λ (at_end : Bool). having_taken taker (lines some.0 ++ end_if at_end)) ended ∙ ap (having_taken taker) (append-nil (lines some.0))) drops.1;
      writes = (
        fault_before some.0 drops.0 broken.fault some.3,
        (
          begun.0,
          begun.1 ++ frames_text drops.0,
          text_both some.0 drops.0 ∙ ap (λ (xs : List ℕ). xs ++ frames_text drops.0) begun.2 ∙ append_assoc begun.0 begun.1 (frames_text drops.0),
          Appends-kept old mid new begun.0 begun.3 keeps,
        ),
      );
    }

-- the same, by the names that the worker gives back
pub delivers_as : (old new : Option (List ℕ)) (taker taken now : TakerView) (fault given : Option IoFault) →
    now ≡ taken →
    given ≡ fault →
    Delivers old new taker taken fault →
    Delivers old new taker now given
delivers_as old new taker taken now fault given same_taker same_fault delivers =
    subst (λ (y : TakerView × Option IoFault). Delivers old new taker y.0 y.1) (λ i. (sym same_taker i, sym same_fault i)) delivers

pub is_false : (b : Bool) → not b ≡ true → b ≡ false
is_false true e = sym e
is_false false e = refl

pub is_true : (b : Bool) → not b ≡ false → b ≡ true
is_true true e = refl
is_true false e = sym e
