-- SPDX-License-Identifier: MIT OR Apache-2.0
-- Lemmas: each frame and read, and the end, extends what a reader has put.
use Rattle.std.proofs.Common.{◌≡◌, ℕ, ◌+◌, true, false, List, [], ◌∷◌, ◌++◌, Option, Some, None, Result, Ok, Err, IfSome, refl, sym, ap, subst, ◌∙◌, append_assoc, append-nil, arith, inl, inr, ◌⊎◌}
use Rattle.std.specs.List.{AllByRecursion}
use Rattle.std.specs.Result.{IsErrAnd}
use Rattle.std.specs.Io.KnownBytes.{Consumes, IsAtEnd}
use Rattle.std.proofs.KnownBytes.{Consumes-nil, Consumes-trans}
use Rattle.std.proofs.lemmas.List.{flat_map_more, map-append}
use Rattle.std.proofs.lemmas.Grind.{flat_map-append}
use Rattle.ipa_framing.specs.declared.frame.Frame.{Frame}
use Rattle.ipa_framing.specs.declared.fault.FrameFault.{FrameFault}
use Rattle.ipa_framing.specs.declared.fault.FrameFault.TheVariants as framing
use Rattle.ipa_framing.specs.Frame.{IsFrame, IsPartial, frame_text}
use Rattle.ipa_framing.specs.Framer.{FramerState, BeginsWith, Takes}
use Rattle.ruled_relay.specs.declared.item.What.{What}
use Rattle.ruled_relay.specs.declared.item.What.TheVariants.{Frame as GivenFrame, Down}
use Rattle.ruled_relay.specs.Inbox.{PassView}
use Rattle.link_workers.specs.declared.fault.IoFault.{IoFault}
use Rattle.link_workers.specs.declared.fault.IoFault.TheVariants as faults
use Rattle.link_workers.specs.declared.unread.UnreadLink.{UnreadLink}
use Rattle.link_workers.specs.declared.unread.UnreadLink.TheVariants.{Endless, Device, Refused}
use Rattle.link_workers.specs.Faults.{fault_of_frame}
use Rattle.link_workers.specs.Unread.{fault_for, fault_in}
use Rattle.link_workers.specs.Reading.{AsksGate, BreaksOff, Ends, IsReported, Parts, Puts, PutsAll, PutsDown, ReadsOn, Serves, StopsBefore, after_letting, frames_text, given, having_put, shutting}

-- ---- parts of a stream

pub all_both : {X : Type 0} (P : X → Type 0) (xs ys : List X) → AllByRecursion P xs → AllByRecursion P ys → AllByRecursion P (xs ++ ys)
all_both P [] ys first second = second
all_both P (x ∷ xs) ys first second = (first.0, all_both P xs ys first.1 second)

pub parts_none : (octets : List ℕ) → Parts octets [] octets
parts_none octets = record { whole = refl; each = tt }

pub parts_both : (octets more : List ℕ) (fs gs : List Frame) (held rest : List ℕ) →
    Parts octets fs held →
    Parts (held ++ more) gs rest →
    Parts (octets ++ more) (fs ++ gs) rest
parts_both octets more fs gs held rest some behind = record {
  whole =
      ap (λ (xs : List ℕ). xs ++ more) some.whole ∙ append_assoc (frames_text fs) held more ∙ ap (λ (xs : List ℕ). frames_text fs ++ xs) behind.whole
      ∙ sym (append_assoc (frames_text fs) (frames_text gs) rest) ∙ ap (λ (xs : List ℕ). xs ++ rest) (sym (flat_map-append frame_text fs gs));
  each = all_both IsFrame fs gs some.each behind.each;
}

pub parts_more : (octets : List ℕ) (fs : List Frame) (held : List ℕ) (f : Frame) (rest : List ℕ) →
    Parts octets fs held →
    BeginsWith held f rest →
    Parts octets (fs ++ f ∷ []) rest
parts_more octets fs held f rest some begins = record {
  whole =
      some.whole ∙ ap (λ (xs : List ℕ). frames_text fs ++ xs) begins.1 ∙ sym (append_assoc (frames_text fs) (frame_text f) rest)
      ∙ ap (λ (xs : List ℕ). xs ++ rest) (flat_map_more frame_text [] fs f);
  each = all_both IsFrame fs (f ∷ []) some.each (begins.0, tt);
}

-- ---- what a pass has put

pub put_none : (p : PassView) → p ≡ having_put p []
put_none p = λ k. record { queue = p.queue; capacity = p.capacity; source = p.source; put = sym (append-nil p.put) k }

pub put_both : (old mid new : PassView) (xs ys : List What) →
    mid ≡ having_put old xs →
    new ≡ having_put mid ys →
    new ≡ having_put old (xs ++ ys)
put_both old mid new xs ys first second =
    second ∙ ap (λ (p : PassView). having_put p ys) first
    ∙ (λ k. record { queue = old.queue; capacity = old.capacity; source = old.source; put = append_assoc old.put xs ys k })

given_both : (fs gs : List Frame) → given (fs ++ gs) ≡ given fs ++ given gs
given_both fs gs = map-append (λ (f : Frame). GivenFrame f) fs gs

letting_both : (n : ℕ) (fs gs : List Frame) → after_letting (after_letting n fs) gs ≡ after_letting n (fs ++ gs)
letting_both n [] gs = refl
letting_both n (f ∷ fs) [] = refl
letting_both n (f ∷ fs) (g ∷ gs) = refl

letting_one : (n : ℕ) (fs : List Frame) (f : Frame) → after_letting n (fs ++ f ∷ []) ≡ 0
letting_one n [] f = refl
letting_one n (g ∷ fs) f = refl

-- ---- frames one behind the other

pub puts_none : (octets : List ℕ) (refused : ℕ) (p : PassView) → Puts octets refused refused p p [] octets
puts_none octets refused p = record { parts = parts_none octets; put = put_none p; asks = refl }

pub puts_more : (octets : List ℕ) (refused between now : ℕ) (old mid new : PassView) (fs : List Frame) (held : List ℕ) (f : Frame) (rest : List ℕ)
    → Puts octets refused between old mid fs held → BeginsWith held f rest → new ≡ having_put mid (GivenFrame f ∷ []) → now ≡ 0 → Puts octets refused now old new (fs ++ f ∷ []) rest
puts_more octets refused between now old mid new fs held f rest some begins put none = record {
  parts = parts_more octets fs held f rest some.parts begins;
  put = put_both old mid new (given fs) (GivenFrame f ∷ []) some.put put ∙ ap (having_put old) (sym (given_both fs (f ∷ [])));
  asks = none ∙ sym (letting_one refused fs f);
}

pub puts_both : (octets more : List ℕ) (refused between now : ℕ) (old mid new : PassView) (fs gs : List Frame) (held rest : List ℕ)
    → Puts octets refused between old mid fs held → Puts (held ++ more) between now mid new gs rest → Puts (octets ++ more) refused now old new (fs ++ gs) rest
puts_both octets more refused between now old mid new fs gs held rest some behind = record {
  parts = parts_both octets more fs gs held rest some.parts behind.parts;
  put = put_both old mid new (given fs) (given gs) some.put behind.put ∙ ap (having_put old) (sym (given_both fs gs));
  asks = behind.asks ∙ ap (λ (n : ℕ). after_letting n gs) some.asks ∙ letting_both refused fs gs;
}

-- ---- reads

-- octets were read, and the frames put that they are but for what is held
abbrev pub PutsSome : Option (List ℕ) → Option (List ℕ) → ℕ → ℕ → PassView → PassView → List ℕ → Type 0
PutsSome start now refused last old new held = (octets : List ℕ) × (frames : List Frame) × Consumes start now octets × Puts octets refused last old new frames held

pub some_none : (start : Option (List ℕ)) (refused : ℕ) (p : PassView) → PutsSome start start refused refused p p []
some_none start refused p = ([], [], Consumes-nil start, puts_none [] refused p)

pub parts_longer : (octets more : List ℕ) (fs : List Frame) (held : List ℕ) →
    Parts octets fs held →
    Parts (octets ++ more) fs (held ++ more)
parts_longer octets more fs held some = record { whole = ap (λ (xs : List ℕ). xs ++ more) some.whole ∙ append_assoc (frames_text fs) held more; each = some.each }

pub puts_longer : (octets more : List ℕ) (refused last : ℕ) (old new : PassView) (fs : List Frame) (held : List ℕ) →
    Puts octets refused last old new fs held →
    Puts (octets ++ more) refused last old new fs (held ++ more)
puts_longer octets more refused last old new fs held some = record { parts = parts_longer octets more fs held some.parts; put = some.put; asks = some.asks }

-- a read that gave no frame, and why no more are read
breaks_unread : (start now end : Option (List ℕ)) (limit refused last : ℕ) (old new : PassView) (held : List ℕ) → PutsSome start now refused last old new held → IsPartial held → Consumes now end []
    → (octets : List ℕ) × Consumes start end octets × BreaksOff octets limit refused last old new faults.ReadFailed
breaks_unread start now end limit refused last old new held some partial read = (
  some.0 ++ [],
  Consumes-trans start now end some.0 [] some.2 read,
  record {
    frames = some.1;
    rest = held ++ [];
    before = last;
    puts = puts_longer some.0 [] refused last old new some.1 held some.3;
    asks = omega arith;
    stops = subst IsPartial (sym (append-nil held)) partial;
  },
)

pub breaks_read : (start now end : Option (List ℕ)) (limit refused last : ℕ) (old new : PassView) (held left : FramerState) (unread : UnreadLink) → PutsSome start now refused last old new held.octets → IsPartial held.octets
    → ReadsOn now end held left (Err unread) → (octets : List ℕ) × Consumes start end octets × BreaksOff octets limit refused last old new (fault_for unread)
breaks_read start now end limit refused last old new held left (Endless reads) some partial read = breaks_unread start now end limit refused last old new held.octets some partial read.0
breaks_read start now end limit refused last old new held left (Device error) some partial read = breaks_unread start now end limit refused last old new held.octets some partial read.0
breaks_read start now end limit refused last old new held left (Refused fault) some partial read = (
  some.0 ++ read.0,
  Consumes-trans start now end some.0 read.0 some.2 read.1,
  record {
    frames = some.1;
    rest = held.octets ++ read.0;
    before = last;
    puts = puts_longer some.0 read.0 refused last old new some.1 held.octets some.3;
    asks = subst (λ (f : IoFault). last ≡ last + shutting limit f) (sym read.3) (omega arith);
    stops = subst (λ (f : IoFault). StopsBefore f (held.octets ++ read.0)) (sym read.3) tt;
  },
)

-- what was read is behind what was held, and of both together frames are put
breaks_behind : (octets more : List ℕ) (limit refused last now : ℕ) (old mid new : PassView) (fs : List Frame) (held : List ℕ) (fault : IoFault) → Puts octets refused last old mid fs held
    → BreaksOff (held ++ more) limit last now mid new fault → BreaksOff (octets ++ more) limit refused now old new fault
breaks_behind octets more limit refused last now old mid new fs held fault some behind = record {
  frames = fs ++ behind.frames;
  rest = behind.rest;
  before = behind.before;
  puts = puts_both octets more refused last behind.before old mid new fs behind.frames held behind.rest some behind.puts;
  asks = behind.asks;
  stops = behind.stops;
}

pub breaks_more : (start now end : Option (List ℕ)) (limit refused last later : ℕ) (old mid new : PassView) (held fed left : FramerState) (fault : IoFault) → PutsSome start now refused last old mid held.octets
    → ReadsOn now end held fed (Ok true) → BreaksOff fed.octets limit last later mid new fault → (octets : List ℕ) × Consumes start end octets × BreaksOff octets limit refused later old new fault
breaks_more start now end limit refused last later old mid new held fed left fault some read behind = (
  some.0 ++ read.0,
  Consumes-trans start now end some.0 read.0 some.2 read.1,
  breaks_behind some.0 read.0 limit refused last later old mid new some.1 held.octets fault some.3
      (subst (λ (framer : FramerState). BreaksOff framer.octets limit last later mid new fault) read.2 behind),
)

pub some_more : (start now end : Option (List ℕ)) (refused last later : ℕ) (old mid new : PassView) (held fed left : FramerState) → PutsSome start now refused last old mid held.octets
    → ReadsOn now end held fed (Ok true) → (frames : List Frame) × Puts fed.octets last later mid new frames left.octets → PutsSome start end refused later old new left.octets
some_more start now end refused last later old mid new held fed left some read behind = (
  some.0 ++ read.0,
  some.1 ++ behind.0,
  Consumes-trans start now end some.0 read.0 some.2 read.1,
  puts_both some.0 read.0 refused last later old mid new some.1 behind.0 held.octets left.octets some.3
      (subst (λ (framer : FramerState). Puts framer.octets last later mid new behind.0 left.octets) read.2 behind.1),
)

pub puts_to_end : (start now end : Option (List ℕ)) (limit refused last : ℕ) (old new : PassView) (held fed : FramerState) → PutsSome start now refused last old new held.octets → IsPartial held.octets
    → ReadsOn now end held fed (Ok false)
    → (octets rest : List ℕ) × (frames : List Frame) × Consumes start end octets × Puts octets refused last old new frames rest × IsPartial rest × IsAtEnd end
puts_to_end start now end limit refused last old new held fed some partial read = (
  some.0 ++ [],
  held.octets ++ [],
  some.1,
  Consumes-trans start now end some.0 [] some.2 read.0,
  puts_longer some.0 [] refused last old new some.1 held.octets some.3,
  subst IsPartial (sym (append-nil held.octets)) partial,
  read.2,
)

-- ---- the framer and the gate

pub breaks_framing : (octets : List ℕ) (limit refused last : ℕ) (old new : PassView) (held left : FramerState) (fault : FrameFault) → (frames : List Frame) × Puts octets refused last old new frames held.octets
    → Takes held (Err fault) left → BreaksOff octets limit refused last old new (fault_of_frame fault)
breaks_framing octets limit refused last old new held left framing.TooLong some takes =
    record { frames = some.0; rest = held.octets; before = last; puts = some.1; asks = omega arith; stops = takes.0 }
breaks_framing octets limit refused last old new held left framing.Memory some takes =
    record { frames = some.0; rest = held.octets; before = last; puts = some.1; asks = omega arith; stops = tt }

pub breaks_shut : (octets held : List ℕ) (limit refused last now : ℕ) (old mid new : PassView) (fault : IoFault) → (frames : List Frame) × Puts octets refused last old mid frames held
    → (new ≡ mid) × (now ≡ last + limit) × (fault ≡ faults.GateShut) → BreaksOff octets limit refused now old new fault
breaks_shut octets held limit refused last now old mid new fault some shut =
    subst (λ (f : IoFault). BreaksOff octets limit refused now old new f) (sym shut.2)
    (record {
      frames = some.0;
      rest = held;
      before = last;
      puts = subst (λ (p : PassView). Puts octets refused last old p some.0 held) (sym shut.0) some.1;
      asks = shut.1;
      stops = tt;
    })

-- ---- `Down` behind all

down_put : (old mid new : PassView) (fs : List Frame) →
    mid ≡ having_put old (given fs) →
    new ≡ having_put mid (Down ∷ []) →
    new ≡ having_put old (given fs ++ Down ∷ [])
down_put old mid new fs first second = put_both old mid new (given fs) (Down ∷ []) first second

shut_now : (limit refused last now : ℕ) (fs : List Frame) →
    last ≡ after_letting refused fs →
    now ≡ last + limit →
    now ≡ after_letting refused fs + limit
shut_now limit refused last now fs is more = more ∙ ap (λ (n : ℕ). n + limit) is

-- the gate was asked for `Down`, and let it through or remained shut; what ended the reader before
serves_asked : (start end : Option (List ℕ)) (limit refused last now : ℕ) (old mid new : PassView) (before fault : Option IoFault) (octets : List ℕ) (fs : List Frame) (rest : List ℕ) → Consumes start end octets
    → Puts octets refused last old mid fs rest → Ends before rest end → (now ≡ 0 → AsksGate before limit fs refused now)
    → (new ≡ having_put mid (Down ∷ [])) × (((now ≡ 0) × (fault ≡ before)) ⊎ ((now ≡ last + limit) × (fault ≡ Some faults.GateShut)))
    → Serves start end limit refused now old new fault
serves_asked start end limit refused last now old mid new before fault octets fs rest read some ends asks (put, inl through) = record {
  octets = octets;
  frames = fs;
  rest = rest;
  read = read;
  parts = some.parts;
  ends = subst (λ (f : Option IoFault). Ends f rest end) (sym through.1) ends;
  put = down_put old mid new fs some.put put;
  asks = subst (λ (f : Option IoFault). AsksGate f limit fs refused now) (sym through.1) (asks through.0);
}
serves_asked start end limit refused last now old mid new before fault octets fs rest read some ends asks (put, inr shut) = record {
  octets = octets;
  frames = fs;
  rest = rest;
  read = read;
  parts = some.parts;
  ends = subst (λ (f : Option IoFault). Ends f rest end) (sym shut.1) tt;
  put = down_put old mid new fs some.put put;
  asks = subst (λ (f : Option IoFault). AsksGate f limit fs refused now) (sym shut.1) (shut_now limit refused last now fs some.asks shut.0);
}

-- the same number of refusals, by another name
same_count : (octets : List ℕ) (refused before last : ℕ) (old mid : PassView) (fs : List Frame) (rest : List ℕ) →
    Puts octets refused before old mid fs rest →
    last ≡ before →
    Puts octets refused last old mid fs rest
same_count octets refused before last old mid fs rest some is = subst (λ (n : ℕ). Puts octets refused n old mid fs rest) (sym is) some

-- nothing was asked, since the gate had remained shut before
serves_shut : (start end : Option (List ℕ)) (limit refused last now : ℕ) (old mid new : PassView) (fault : Option IoFault) (octets : List ℕ) → Consumes start end octets
    → BreaksOff octets limit refused last old mid faults.GateShut → (new ≡ having_put mid (Down ∷ [])) × (now ≡ last) × (fault ≡ Some faults.GateShut)
    → Serves start end limit refused now old new fault
serves_shut start end limit refused last now old mid new fault octets read some down = record {
  octets = octets;
  frames = some.frames;
  rest = some.rest;
  read = read;
  parts = some.puts.parts;
  ends = subst (λ (f : Option IoFault). Ends f some.rest end) (sym down.2) tt;
  put = down_put old mid new some.frames some.puts.put down.0;
  asks =
      subst (λ (f : Option IoFault). AsksGate f limit some.frames refused now) (sym down.2)
      (down.1 ∙ shut_now limit refused some.before last some.frames some.puts.asks some.asks);
}

-- a fault other than the gate's adds no refusals
serves_broken : (start end : Option (List ℕ)) (limit refused last now : ℕ) (old mid new : PassView) (fault : Option IoFault) (octets : List ℕ) (before : IoFault) → Consumes start end octets
    → BreaksOff octets limit refused last old mid before → PutsDown limit last now mid new (Some before) fault
    → Serves start end limit refused now old new fault
serves_broken start end limit refused last now old mid new fault octets faults.GateShut read some down =
    serves_shut start end limit refused last now old mid new fault octets read some down
serves_broken start end limit refused last now old mid new fault octets faults.ReadFailed read some down =
    serves_asked start end limit refused last now old mid new (Some faults.ReadFailed) fault octets some.frames some.rest read (same_count octets refused some.before last old mid some.frames some.rest some.puts (some.asks ∙ omega arith))
    some.stops (λ none. none) down
serves_broken start end limit refused last now old mid new fault octets faults.FrameFault read some down =
    serves_asked start end limit refused last now old mid new (Some faults.FrameFault) fault octets some.frames some.rest read (same_count octets refused some.before last old mid some.frames some.rest some.puts (some.asks ∙ omega arith))
    some.stops (λ none. none) down
serves_broken start end limit refused last now old mid new fault octets faults.Memory read some down =
    serves_asked start end limit refused last now old mid new (Some faults.Memory) fault octets some.frames some.rest read (same_count octets refused some.before last old mid some.frames some.rest some.puts (some.asks ∙ omega arith))
    some.stops (λ none. none) down
serves_broken start end limit refused last now old mid new fault octets faults.WriteFailed read some down = absurd some.stops
serves_broken start end limit refused last now old mid new fault octets faults.GivenUp read some down = absurd some.stops

pub serves : {X : Type 0} (start end : Option (List ℕ)) (limit refused last now : ℕ) (old mid new : PassView) (read : Result X UnreadLink) (before fault : Option IoFault) → PutsAll start end limit refused last old mid read
    → before ≡ fault_in read → PutsDown limit last now mid new before fault → Serves start end limit refused now old new fault
serves start end limit refused last now old mid new (Ok done) before fault all is down =
    serves_asked start end limit refused last now old mid new None fault all.0 all.2 all.1 all.3 all.4 (all.5, all.6) (λ none. none)
    (subst (λ (b : Option IoFault). PutsDown limit last now mid new b fault) is down)
serves start end limit refused last now old mid new (Err unread) before fault all is down =
    serves_broken start end limit refused last now old mid new fault all.0 (fault_for unread) all.1 all.2 (subst (λ (b : Option IoFault). PutsDown limit last now mid new b fault) is down)

-- ---- the fault that the device is given

-- the fault is the earlier one, or that the gate is shut
reported_same : (before fault reported : Option IoFault) {A B : Type 0} →
    IsReported before reported →
    (A × (fault ≡ before)) ⊎ (B × (fault ≡ Some faults.GateShut)) →
    IsReported fault reported
reported_same before fault reported is (inl same) = subst (λ (f : Option IoFault). IsReported f reported) (sym same.1) is
reported_same before fault reported is (inr shut) = subst (λ (f : Option IoFault). IsReported f reported) (sym shut.1) tt

pub is_reported : (limit refused now : ℕ) (old new : PassView) (before fault reported : Option IoFault) →
    IfSome before (λ f. reported ≡ Some f) →
    PutsDown limit refused now old new before fault →
    IsReported fault reported
is_reported limit refused now old new None fault reported is down = reported_same None fault reported tt down.1
is_reported limit refused now old new (Some faults.GateShut) fault reported is down = subst (λ (f : Option IoFault). IsReported f reported) (sym down.2) tt
is_reported limit refused now old new (Some faults.ReadFailed) fault reported is down = reported_same (Some faults.ReadFailed) fault reported is down.1
is_reported limit refused now old new (Some faults.WriteFailed) fault reported is down = reported_same (Some faults.WriteFailed) fault reported is down.1
is_reported limit refused now old new (Some faults.FrameFault) fault reported is down = reported_same (Some faults.FrameFault) fault reported is down.1
is_reported limit refused now old new (Some faults.Memory) fault reported is down = reported_same (Some faults.Memory) fault reported is down.1
is_reported limit refused now old new (Some faults.GivenUp) fault reported is down = reported_same (Some faults.GivenUp) fault reported is down.1

-- ---- answers that are errors

-- what holds of an error holds of the result that is this error
pub as_error : {X E : Type 0} (result : Result X E) (error : E) (Said : Result X E → Type 0) →
    IsErrAnd result (λ e. e ≡ error) →
    Said (Err error) →
    Said result
as_error (Ok done) error Said is said = absurd is
as_error (Err other) error Said is said = subst (λ e. Said (Err e)) (sym is) said
