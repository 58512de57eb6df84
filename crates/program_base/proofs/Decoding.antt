-- SPDX-License-Identifier: MIT OR Apache-2.0
-- The text that is printed for a stream so far, and how a frame, a read and the end of the input
-- extend it.
use Rattle.std.proofs.Common.{◌≡◌, ◌⊎◌, ℕ, ◌<◌, ◌≤◌, List, [], ◌∷◌, ◌++◌, length, Option, Some, None, Result, Ok, Err, refl, sym, ap, subst, ◌∙◌, append_assoc, arith, inl, inr, false}
use Rattle.std.specs.Prelude.{IfSome, codes, decimal}
use Rattle.std.specs.List.{flat_map, AllByRecursion}
use Rattle.std.specs.Io.KnownBytes.{Appends, Consumes, IsAtEnd, Keeps}
use Rattle.std.specs.IoError.{error_kind}
use Rattle.std.proofs.KnownBytes.{Appends-nil, Appends-trans, Appends-kept}
use Rattle.std.proofs.lemmas.List.{append-nil, flat_map_more}
use Rattle.std.proofs.lemmas.Grind.{flat_map-append}
use Rattle.ipa_framing.specs.declared.frame.Frame.{Frame}
use Rattle.ipa_framing.specs.declared.fault.FrameFault.{FrameFault}
use Rattle.ipa_framing.specs.Frame.{IsFrame, IsPartial, IsTooLong, Splits, frame_text}
use Rattle.ipa_framing.specs.Framer.{FramerState, BeginsWith, new_framer}
use Rattle.ipa_framing.specs.Front.{FrontFrame, frame, front_of}
use Rattle.ipa_framing.proofs.Stream.{front_again, front_long, front_partial, splits_only}
use Rattle.program_base.specs.declared.decode_command.Stop.{Stop}
use Rattle.program_base.specs.declared.decode_command.Stop.TheVariants.{Failed, TooLong}
use Rattle.program_io.specs.declared.failure.Failure.{Failure}
use Rattle.program_io.specs.declared.failure.Failure.TheVariants as failures
use Rattle.program_io.specs.declared.input.Unread.{Unread}
use Rattle.program_io.specs.declared.input.Unread.TheVariants.{Endless, Device, Refused}
use Rattle.program_base.specs.Pieces.{all_both}
use Rattle.program_base.specs.Decoded.{Begins, Decodes, IsOutput, IsRefused, NamesOctets, PrintsFrames, RefusesWith, StopsAmong, StopsNaming, frame_lines, rest_line}
use Rattle.program_io.specs.Input.{ReadsInput}
use Rattle.program_io.specs.Beginnings.{begins_all, begins_behind, begins_kept, begins_longer, begins_none}
use Rattle.program_io.specs.Output.{AppendsBeginning}
use Rattle.program_io.specs.Status.{failure_of}
use Rattle.program_base.specs.Stopping.{stop_unread}

-- ---- frames one behind the other

pub prints_more : (line : Frame → List ℕ) (held between left : FramerState) (old mid new : Option (List ℕ)) (f : Frame) → PrintsFrames line held between old mid
    → BeginsWith between.octets f left.octets → Appends mid new (line f) → PrintsFrames line held left old new
prints_more line held between left old mid new f some begins written = record {
  frames = some.frames ++ f ∷ [];
  each = all_both IsFrame some.frames (f ∷ []) some.each (begins.0, tt);
  whole =
      some.whole ∙ ap (λ (xs : List ℕ). flat_map frame_text some.frames ++ xs) begins.1 ∙ sym (append_assoc (flat_map frame_text some.frames) (frame_text f) left.octets)
      ∙ ap (λ (xs : List ℕ). xs ++ left.octets) (flat_map_more frame_text [] some.frames f);
  printed = subst (Appends old new) (flat_map_more line [] some.frames f) (Appends-trans old mid new (frame_lines line some.frames) (line f) some.printed written);
}

-- ---- the rest

pub rest_is : (octets : List ℕ) (n : ℕ) →
    IsPartial octets →
    ((frames : List Frame) (rest : List ℕ) → Splits octets frames rest → n ≡ length rest) →
    n ≡ length octets
rest_is octets n partial counts = counts [] octets (record { whole = refl; each = tt; stops = inl partial })

pub rest_text : (octets : List ℕ) (n : ℕ) → n ≡ length octets → 0 < n → (codes "rest " ++ decimal n) ++ codes "\n" ≡ rest_line octets
rest_text [] n is some = absurd (omega arith)
rest_text (octet ∷ octets) n is some = append_assoc (codes "rest ") (decimal n) (codes "\n") ∙ ap (λ (m : ℕ). codes "rest " ++ decimal m ++ codes "\n") is

pub no_rest : (octets : List ℕ) (n : ℕ) (o : Option (List ℕ)) → n ≡ length octets → n ≤ 0 → Appends o o (rest_line octets)
no_rest [] n o is none = Appends-nil o
no_rest (octet ∷ octets) n o is none = absurd (omega arith)

-- ---- the stream

front_of_first : (stream : List ℕ) (f : Frame) (fs : List Frame) (behind : List ℕ) →
    stream ≡ flat_map frame_text (f ∷ fs) ++ behind →
    IsFrame f →
    front_of stream ≡ Ok (Some (f.stream, f.body, flat_map frame_text fs ++ behind))
front_of_first stream f fs behind whole is =
    ap front_of (whole ∙ append_assoc (frame_text f) (flat_map frame_text fs) behind) ∙ front_again f (flat_map frame_text fs ++ behind) is

no_front : (octets : List ℕ) (front : FrontFrame) → IsPartial octets ⊎ IsTooLong octets → front_of octets ≡ Ok (Some front) → ⊥
no_front octets front (inl partial) e = absurd (cc (front_partial octets partial, e))
no_front octets front (inr long) e = absurd (cc (front_long octets long, e))

same_front : (a b : FrontFrame) → (let x : Result (Option FrontFrame) FrameFault = Ok (Some a) in x) ≡ Ok (Some b) → a ≡ b
same_front a b e = cc

-- the frames that were found so far are the first of the stream's
pub found_first : (stream : List ℕ) (fs : List Frame) (behind : List ℕ) (gs : List Frame) (r : List ℕ) →
    stream ≡ flat_map frame_text fs ++ behind →
    AllByRecursion IsFrame fs →
    Splits stream gs r →
    (more : List Frame) × (gs ≡ fs ++ more)
found_first stream [] behind gs r whole each splits = (gs, refl)
found_first stream (f ∷ fs) behind [] r whole each splits =
    absurd (no_front r (f.stream, f.body, flat_map frame_text fs ++ behind) splits.stops (ap front_of (sym splits.whole) ∙ front_of_first stream f fs behind whole each.0))
found_first stream (f ∷ fs) behind (g ∷ gs) r whole each splits =
    let is = same_front (g.stream, g.body, flat_map frame_text gs ++ r) (f.stream, f.body, flat_map frame_text fs ++ behind) (sym (front_of_first stream g gs r splits.whole splits.each.0) ∙ front_of_first stream f fs behind whole each.0) in
    let later = found_first (flat_map frame_text gs ++ r) fs behind gs r (ap (λ (x : FrontFrame). x.2) is) each.1 (record { whole = refl; each = splits.each.1; stops = splits.stops }) in
    let first : g ≡ f = ap (λ (x : FrontFrame). frame x.0 x.1) is in
    (later.0, cc (first, later.1))

not_both : (octets : List ℕ) → IsPartial octets → IsTooLong octets → ⊥
not_both octets partial long = absurd (cc (front_partial octets partial, front_long octets long))

-- what is printed of a known stream begins with the lines of the frames that were found
text_begins : (line : Frame → List ℕ) (last stream : List ℕ) (fs : List Frame) (behind text : List ℕ) →
    stream ≡ flat_map frame_text fs ++ behind →
    AllByRecursion IsFrame fs →
    IsOutput line last stream text →
    (more : List ℕ) × (text ≡ frame_lines line fs ++ more)
text_begins line last stream fs behind text whole each (inl decoded) =
    let found = found_first stream fs behind decoded.frames decoded.rest whole each decoded.splits in (
      frame_lines line found.0 ++ rest_line decoded.rest,
      decoded.is ∙ ap (λ (gs : List Frame). frame_lines line gs ++ rest_line decoded.rest) found.1 ∙ ap (λ (xs : List ℕ). xs ++ rest_line decoded.rest) (flat_map-append line fs found.0)
          ∙ append_assoc (frame_lines line fs) (frame_lines line found.0) (rest_line decoded.rest),
    )
text_begins line last stream fs behind text whole each (inr (lines, refused, is)) =
    let found = found_first stream fs behind refused.frames refused.rest whole each refused.splits in (
      frame_lines line found.0 ++ last,
      is ∙ ap (λ (xs : List ℕ). xs ++ last) (refused.is ∙ ap (λ (gs : List Frame). frame_lines line gs) found.1 ∙ flat_map-append line fs found.0)
          ∙ append_assoc (frame_lines line fs) (frame_lines line found.0) last,
    )

pub begins_untouched : (line : Frame → List ℕ) (last : List ℕ) (start known : Option (List ℕ)) → Begins line last start known known
begins_untouched line last None known = tt
begins_untouched line last (Some stream) known = λ text is. begins_none known text

pub begins_among : (line : Frame → List ℕ) (last : List ℕ) (start now : Option (List ℕ)) (octets : List ℕ) (stop : Stop) (old new : Option (List ℕ)) →
    Consumes start now octets →
    StopsAmong line octets stop old new →
    Begins line last start old new
begins_among line last None now octets stop old new read some = tt
begins_among line last (Some stream) None octets stop old new read some = absurd read
begins_among line last (Some stream) (Some later) octets stop old new read some = λ text is.
    let whole = read ∙ ap (λ (xs : List ℕ). xs ++ later) some.whole ∙ append_assoc (flat_map frame_text some.frames) some.rest later in
    let more = text_begins line last stream some.frames (some.rest ++ later) text whole some.each is in
    subst (AppendsBeginning old new) (sym more.1) (begins_longer old new (frame_lines line some.frames) more.0 some.begun)

long_with : (octets more : List ℕ) → IsTooLong octets → IsTooLong (octets ++ more)
long_with [] more long = absurd long
long_with (high ∷ []) more long = absurd long
long_with (high ∷ low ∷ octets) more long = long

pub refused_among : (line : Frame → List ℕ) (start now : Option (List ℕ)) (octets : List ℕ) (stop : Stop) (old new : Option (List ℕ)) →
    Consumes start now octets →
    StopsAmong line octets stop old new →
    stop ≡ TooLong →
    RefusesWith line [] start old new
refused_among line None now octets stop old new read some is = tt
refused_among line (Some stream) None octets stop old new read some is = absurd read
refused_among line (Some stream) (Some later) octets stop old new read some is =
    let long = some.long is in (
      frame_lines line some.frames,
      record {
        frames = some.frames;
        rest = some.rest ++ later;
        splits =
            record {
              whole = read ∙ ap (λ (xs : List ℕ). xs ++ later) some.whole ∙ append_assoc (flat_map frame_text some.frames) some.rest later;
              each = some.each;
              stops = inr (long_with some.rest later long.0);
            };
        long = long_with some.rest later long.0;
        is = refl;
      },
      subst (Appends old new) (sym (append-nil (frame_lines line some.frames))) long.1,
    )

-- ---- a new framer that was given octets

pub names_stop : (line : Frame → List ℕ) (held left : FramerState) (octets : List ℕ) (failure : Failure) (old new : Option (List ℕ)) →
    held ≡ new_framer →
    NamesOctets line held octets left old new →
    StopsAmong line octets (Failed failure) old new
names_stop line held left octets failure old new is some = record {
  frames = some.prints.frames;
  rest = left.octets;
  each = some.prints.each;
  whole = sym (ap (λ (h : FramerState). h.octets ++ octets) is) ∙ some.prints.whole;
  begun = begins_all old new (frame_lines line some.prints.frames) some.prints.printed;
  long = λ long. absurd (cc long);
}

pub stops_first : (line : Frame → List ℕ) (held : FramerState) (octets : List ℕ) (stop : Stop) (old new : Option (List ℕ)) →
    held ≡ new_framer →
    StopsNaming line held octets stop old new →
    StopsAmong line octets stop old new
stops_first line held octets stop old new is stops =
    subst (λ (xs : List ℕ). StopsAmong line (xs ++ octets) stop old new) (ap (λ (h : FramerState). h.octets) is) (stops (ap (λ (h : FramerState). h.failed) is))

pub new_partial : (line : Frame → List ℕ) (held left : FramerState) (octets : List ℕ) (old new : Option (List ℕ)) →
    held ≡ new_framer →
    NamesOctets line held octets left old new →
    IsPartial left.octets
new_partial line held left octets old new is some = some.partial (subst IsPartial (sym (ap (λ (h : FramerState). h.octets) is)) tt)

-- why an input wasn't read to its end is why its naming stopped
pub stops_unread : (line : Frame → List ℕ) {S : Type 0} (takes : S → List ℕ → S → Type 0) (refuses : S → List ℕ → S → Stop → Type 0) (most : ℕ) (start end : Option (List ℕ)) (before after : S) (old new : Option (List ℕ)) (unread : Unread Stop)
    → ReadsInput takes refuses most start end before after (Err unread)
    → ((octets : List ℕ) (failure : Failure) → takes before octets after → StopsAmong line octets (Failed failure) old new)
    → ((octets : List ℕ) (stop : Stop) → refuses before octets after stop → StopsAmong line octets stop old new)
    → (octets : List ℕ) × Consumes start end octets × StopsAmong line octets (stop_unread unread) old new
stops_unread line takes refuses most start end before after old new (Endless reads) reading named stopped = (reading.0, reading.1, named reading.0 failures.Device reading.2)
stops_unread line takes refuses most start end before after old new (Device error) reading named stopped = (reading.0, reading.1, named reading.0 (failure_of (error_kind error)) reading.2)
stops_unread line takes refuses most start end before after old new (Refused stop) reading named stopped = (reading.0, reading.1, stopped reading.0 stop reading.2)

-- ---- the whole stream

-- what is printed of a stream is the lines of its frames and of its rest
text_is : (line : Frame → List ℕ) (last stream : List ℕ) (fs : List Frame) (rest text : List ℕ) →
    IsPartial rest →
    Splits stream fs rest →
    IsOutput line last stream text →
    text ≡ frame_lines line fs ++ rest_line rest
text_is line last stream fs rest text partial splits (inl decoded) =
    let same = splits_only stream decoded.frames decoded.rest fs rest decoded.splits splits in
    decoded.is ∙ ap (λ (gs : List Frame). frame_lines line gs ++ rest_line decoded.rest) same.0 ∙ ap (λ (xs : List ℕ). frame_lines line fs ++ rest_line xs) same.1
text_is line last stream fs rest text partial splits (inr (lines, refused, is)) =
    let same = splits_only stream refused.frames refused.rest fs rest refused.splits splits in
    absurd (not_both rest partial (subst IsTooLong same.1 refused.long))

splits_whole : (line : Frame → List ℕ) (stream octets : List ℕ) (held left : FramerState) (old mid : Option (List ℕ)) →
    held ≡ new_framer →
    (some : NamesOctets line held octets left old mid) →
    IsPartial left.octets →
    stream ≡ octets ++ [] →
    Splits stream some.prints.frames left.octets
splits_whole line stream octets held left old mid is some partial whole = record {
  whole = whole ∙ append-nil octets ∙ sym (ap (λ (h : FramerState). h.octets ++ octets) is) ∙ some.prints.whole;
  each = some.prints.each;
  stops = inl partial;
}

pub begins_rest : (line : Frame → List ℕ) (last : List ℕ) (start end : Option (List ℕ)) (octets : List ℕ) (held left : FramerState) (old mid new : Option (List ℕ)) → held ≡ new_framer → Consumes start end octets → IsAtEnd end → NamesOctets line held octets left old mid
    → AppendsBeginning mid new (rest_line left.octets) → Begins line last start old new
begins_rest line last None end octets held left old mid new is read at_end some begun = tt
begins_rest line last (Some stream) None octets held left old mid new is read at_end some begun = absurd read
begins_rest line last (Some stream) (Some later) octets held left old mid new is read at_end some begun = λ text output.
    let partial = new_partial line held left octets old mid is some in
    let splits = splits_whole line stream octets held left old mid is some partial (read ∙ ap (λ (xs : List ℕ). octets ++ xs) at_end) in
    subst (AppendsBeginning old new) (sym (text_is line last stream some.prints.frames left.octets text partial splits output))
    (begins_behind old mid new (frame_lines line some.prints.frames) (rest_line left.octets) some.prints.printed begun)

pub decodes_all : (line : Frame → List ℕ) (start end : Option (List ℕ)) (octets : List ℕ) (held left : FramerState) (old mid new : Option (List ℕ)) → held ≡ new_framer → Consumes start end octets → IsAtEnd end → NamesOctets line held octets left old mid
    → Appends mid new (rest_line left.octets) → Decodes line start old new
decodes_all line None end octets held left old mid new is read at_end some rest = tt
decodes_all line (Some stream) None octets held left old mid new is read at_end some rest = absurd read
decodes_all line (Some stream) (Some later) octets held left old mid new is read at_end some rest =
    let partial = new_partial line held left octets old mid is some in (
      frame_lines line some.prints.frames ++ rest_line left.octets,
      record {
        frames = some.prints.frames;
        rest = left.octets;
        splits = splits_whole line stream octets held left old mid is some partial (read ∙ ap (λ (xs : List ℕ). octets ++ xs) at_end);
        started = partial;
        is = refl;
      },
      Appends-trans old mid new (frame_lines line some.prints.frames) (rest_line left.octets) some.prints.printed rest,
    )

-- ---- the last line of a stream with a frame that is too long

-- a stream that ends with a frame that is too long isn't decoded to its end
pub refused_only : (line : Frame → List ℕ) (P : Type 0) (start old new : Option (List ℕ)) →
    Decodes line start old new →
    IfSome start (λ stream. (text : List ℕ) → IsRefused line stream text → P)
refused_only line P None old new decodes = tt
refused_only line P (Some stream) old new decodes = λ text refused.
    let decoded = decodes.1 in
    let same = splits_only stream refused.frames refused.rest decoded.frames decoded.rest refused.splits decoded.splits in
    absurd (not_both decoded.rest decoded.started (subst IsTooLong same.1 refused.long))

pub begins_last : (line : Frame → List ℕ) (last : List ℕ) (start old mid new : Option (List ℕ)) →
    RefusesWith line [] start old mid →
    AppendsBeginning mid new last →
    Begins line last start old new
begins_last line last None old mid new refuses begun = tt
begins_last line last (Some stream) old mid new (lines, refused, printed) begun = λ text output.
    let all = subst (Appends old mid) (append-nil lines) printed in
    elim output [
      | inl decoded ↦
          let same = splits_only stream refused.frames refused.rest decoded.frames decoded.rest refused.splits decoded.splits in
          absurd (not_both decoded.rest decoded.started (subst IsTooLong same.1 refused.long))
      | inr (others, other, is) ↦
          let same = splits_only stream refused.frames refused.rest other.frames other.rest refused.splits other.splits in
          let text_of : text ≡ lines ++ last = is ∙ ap (λ (xs : List ℕ). xs ++ last) (other.is ∙ ap (λ (fs : List Frame). frame_lines line fs) (sym same.0) ∙ sym refused.is) in
          subst (AppendsBeginning old new) (sym text_of) (begins_behind old mid new lines last all begun)
    ]

pub begins_before : (line : Frame → List ℕ) (last : List ℕ) (start old mid new : Option (List ℕ)) →
    Begins line [] start old mid →
    Keeps mid new →
    Begins line last start old new
begins_before line last None old mid new begins keeps = tt
begins_before line last (Some stream) old mid new begins keeps = λ text output.
    elim output [
      | inl decoded ↦ begins_kept old mid new text (begins text (inl decoded)) keeps
      | inr (lines, refused, is) ↦
          let begun = begins lines (inr (lines, refused, sym (append-nil lines))) in
          subst (AppendsBeginning old new) (sym is) (begins_longer old new lines last (begins_kept old mid new lines begun keeps))
    ]

pub begins_flushed : (line : Frame → List ℕ) (last : List ℕ) (start old mid new : Option (List ℕ)) →
    Begins line last start old mid →
    Keeps mid new →
    Begins line last start old new
begins_flushed line last None old mid new begins keeps = tt
begins_flushed line last (Some stream) old mid new begins keeps = λ text output. begins_kept old mid new text (begins text output) keeps

-- ---- where naming stops

pub stops_printing : (line : Frame → List ℕ) (held between : FramerState) (old mid new : Option (List ℕ)) (f : Frame) (rest : List ℕ) (failure : Failure) (stop : Stop) → PrintsFrames line held between old mid → BeginsWith between.octets f rest → AppendsBeginning mid new (line f)
    → stop ≡ Failed failure → StopsAmong line held.octets stop old new
stops_printing line held between old mid new f rest failure stop some begins begun is = record {
  frames = some.frames ++ f ∷ [];
  rest = rest;
  each = all_both IsFrame some.frames (f ∷ []) some.each (begins.0, tt);
  whole =
      some.whole ∙ ap (λ (xs : List ℕ). flat_map frame_text some.frames ++ xs) begins.1 ∙ sym (append_assoc (flat_map frame_text some.frames) (frame_text f) rest)
      ∙ ap (λ (xs : List ℕ). xs ++ rest) (flat_map_more frame_text [] some.frames f);
  begun = subst (AppendsBeginning old new) (flat_map_more line [] some.frames f) (begins_behind old mid new (frame_lines line some.frames) (line f) some.printed begun);
  long = λ long. absurd (cc (is, long));
}

pub stops_flushing : (line : Frame → List ℕ) (held fed left : FramerState) (octets : List ℕ) (old mid new : Option (List ℕ)) (failure : Failure) (stop : Stop) → (held.failed ≡ false) × (fed ≡ record { octets = held.octets ++ octets; failed = false })
    → PrintsFrames line fed left old mid → Keeps mid new → stop ≡ Failed failure → StopsAmong line (held.octets ++ octets) stop old new
stops_flushing line held fed left octets old mid new failure stop feeds some keeps is = record {
  frames = some.frames;
  rest = left.octets;
  each = some.each;
  whole = sym (ap (λ (h : FramerState). h.octets) feeds.1) ∙ some.whole;
  begun = begins_all old new (frame_lines line some.frames) (Appends-kept old mid new (frame_lines line some.frames) some.printed keeps);
  long = λ long. absurd (cc (is, long));
}

-- what holds whether the sink took all or not
pub reads_keep : {S E : Type 0} (takes : S → List ℕ → S → Type 0) (refuses : S → List ℕ → S → E → Type 0) (most : ℕ) (start end : Option (List ℕ)) (before after : S) (result : Result (Unit {0}) (Unread E)) (P : Type 0)
    → ReadsInput takes refuses most start end before after result → ((octets : List ℕ) → takes before octets after → P) → ((octets : List ℕ) (fault : E) → refuses before octets after fault → P) → P
reads_keep takes refuses most start end before after (Ok done) P reading taken refused = taken reading.0 reading.2
reads_keep takes refuses most start end before after (Err (Endless reads)) P reading taken refused = taken reading.0 reading.2
reads_keep takes refuses most start end before after (Err (Device error)) P reading taken refused = taken reading.0 reading.2
reads_keep takes refuses most start end before after (Err (Refused fault)) P reading taken refused = refused reading.0 fault reading.2
