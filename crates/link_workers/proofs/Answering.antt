-- SPDX-License-Identifier: MIT OR Apache-2.0
-- Lemmas: each frame and read, and the end, extends what the test switch has answered.
use Rattle.std.proofs.Common.{◌≡◌, ℕ, true, false, inl, inr, List, [], ◌∷◌, ◌++◌, Option, Some, None, Ok, Err, refl, sym, ap, subst, ◌∙◌, append_assoc, append-nil, map}
use Rattle.std.specs.Prelude.{option_to_list}
use Rattle.std.specs.Io.KnownBytes.{Appends, Consumes}
use Rattle.std.proofs.KnownBytes.{Appends-nil, Appends-trans, Consumes-nil, Consumes-trans}
use Rattle.std.proofs.lemmas.List.{map-append}
use Rattle.std.proofs.lemmas.Grind.{flat_map-append}
use Rattle.ipa_framing.specs.declared.frame.Frame.{Frame}
use Rattle.ipa_framing.specs.declared.fault.FrameFault.{FrameFault}
use Rattle.ipa_framing.specs.declared.fault.FrameFault.TheVariants as framing
use Rattle.ipa_framing.specs.Frame.{IsPartial, frame_text}
use Rattle.ipa_framing.specs.Framer.{FramerState, BeginsWith}
use Rattle.bssmap_codec.specs.declared.sccp.Sccp.{Sccp}
use Rattle.msc_end.specs.SwitchState.{SwitchState}
use Rattle.msc_end.specs.Switch.{after, replies}
use Rattle.link_workers.specs.declared.fault.IoFault.{IoFault}
use Rattle.link_workers.specs.declared.fault.IoFault.TheVariants as faults
use Rattle.link_workers.specs.declared.unread.UnreadLink.{UnreadLink}
use Rattle.link_workers.specs.declared.unread.UnreadLink.TheVariants.{Endless, Device, Refused}
use Rattle.link_workers.specs.Faults.{fault_of_frame}
use Rattle.link_workers.specs.Unread.{fault_for}
use Rattle.link_workers.specs.Reading.{ReadsOn, frames_text}
use Rattle.link_workers.specs.Writing.{AppendsBeginning}
use Rattle.link_workers.specs.Switching.{Answers, AnswersFrame, IsAnswerFault, PlaysSwitch, Stops, StopsAnswering, WritesReplies, after_all, all_replies, message_in, messages, replies_text, reply_frame}
use Rattle.link_workers.proofs.Reading.{parts_both, parts_longer, parts_more, parts_none}

-- ---- messages one behind the other

after_both : (switch : SwitchState) (ms ns : List Sccp) → after_all (after_all switch ms) ns ≡ after_all switch (ms ++ ns)
after_both switch [] ns = refl
after_both switch (m ∷ ms) ns = after_both (after switch m) ms ns

replies_both : (switch : SwitchState) (ms ns : List Sccp) →
    all_replies switch (ms ++ ns) ≡ all_replies switch ms ++ all_replies (after_all switch ms) ns
replies_both switch [] ns = refl
replies_both switch (m ∷ ms) ns =
    ap (λ (xs : List Sccp). replies switch.connections m ++ xs) (replies_both (after switch m) ms ns)
    ∙ sym (append_assoc (replies switch.connections m) (all_replies (after switch m) ms) (all_replies (after_all (after switch m) ms) ns))

text_both : (xs ys : List Sccp) → replies_text (xs ++ ys) ≡ replies_text xs ++ replies_text ys
text_both xs ys = ap frames_text (map-append reply_frame xs ys) ∙ flat_map-append frame_text (map reply_frame xs) (map reply_frame ys)

messages_both : (fs gs : List Frame) → messages (fs ++ gs) ≡ messages fs ++ messages gs
messages_both fs gs = flat_map-append (λ (f : Frame). option_to_list (message_in f)) fs gs

-- the text of the replies to frames and to others behind them
abbrev text_to : SwitchState → List Frame → List ℕ
text_to switch frames = replies_text (all_replies switch (messages frames))

state_both : (switch between now : SwitchState) (fs gs : List Frame) →
    between ≡ after_all switch (messages fs) →
    now ≡ after_all between (messages gs) →
    now ≡ after_all switch (messages (fs ++ gs))
state_both switch between now fs gs first second =
    second ∙ ap (λ (s : SwitchState). after_all s (messages gs)) first ∙ after_both switch (messages fs) (messages gs) ∙ ap (after_all switch) (sym (messages_both fs gs))

text_to_both : (switch between : SwitchState) (fs gs : List Frame) →
    between ≡ after_all switch (messages fs) →
    text_to switch fs ++ text_to between gs ≡ text_to switch (fs ++ gs)
text_to_both switch between fs gs first =
    ap (λ (s : SwitchState). text_to switch fs ++ text_to s gs) first
    ∙ sym (text_both (all_replies switch (messages fs)) (all_replies (after_all switch (messages fs)) (messages gs)))
    ∙ ap replies_text (sym (replies_both switch (messages fs) (messages gs)) ∙ ap (all_replies switch) (sym (messages_both fs gs)))

writes_both : (old mid new : Option (List ℕ)) (switch between : SwitchState) (fs gs : List Frame) → between ≡ after_all switch (messages fs) → Appends old mid (text_to switch fs) → Appends mid new (text_to between gs)
    → Appends old new (text_to switch (fs ++ gs))
writes_both old mid new switch between fs gs is first second = subst (Appends old new) (text_to_both switch between fs gs is) (Appends-trans old mid new (text_to switch fs) (text_to between gs) first second)

begins_both : (old mid new : Option (List ℕ)) (switch between : SwitchState) (fs gs : List Frame) → between ≡ after_all switch (messages fs) → Appends old mid (text_to switch fs)
    → AppendsBeginning mid new (text_to between gs) → AppendsBeginning old new (text_to switch (fs ++ gs))
begins_both old mid new switch between fs gs is first begun = (
  text_to switch fs ++ begun.0,
  begun.1,
  sym (text_to_both switch between fs gs is) ∙ ap (λ (xs : List ℕ). text_to switch fs ++ xs) begun.2 ∙ sym (append_assoc (text_to switch fs) begun.0 begun.1),
  Appends-trans old mid new (text_to switch fs) begun.0 first begun.3,
)

begins_all : (old new : Option (List ℕ)) (text : List ℕ) → Appends old new text → AppendsBeginning old new text
begins_all old new text all = (text, [], sym (append-nil text), all)

-- ---- frames one behind the other

pub answers_none : (octets : List ℕ) (known : Option (List ℕ)) (switch : SwitchState) → Answers octets known known switch switch [] octets
answers_none octets known switch = record { parts = parts_none octets; state = refl; writes = Appends-nil known }

pub answers_more : (octets : List ℕ) (old mid new : Option (List ℕ)) (switch between now : SwitchState) (fs : List Frame) (held : List ℕ) (f : Frame) (rest : List ℕ)
    → Answers octets old mid switch between fs held → BeginsWith held f rest
    → (now ≡ after_all between (messages (f ∷ []))) × Appends mid new (replies_text (all_replies between (messages (f ∷ []))))
    → Answers octets old new switch now (fs ++ f ∷ []) rest
answers_more octets old mid new switch between now fs held f rest some begins answered = record {
  parts = parts_more octets fs held f rest some.parts begins;
  state = state_both switch between now fs (f ∷ []) some.state answered.0;
  writes = writes_both old mid new switch between fs (f ∷ []) some.state some.writes answered.1;
}

answers_both : (octets more : List ℕ) (old mid new : Option (List ℕ)) (switch between now : SwitchState) (fs gs : List Frame) (held rest : List ℕ)
    → Answers octets old mid switch between fs held → Answers (held ++ more) mid new between now gs rest → Answers (octets ++ more) old new switch now (fs ++ gs) rest
answers_both octets more old mid new switch between now fs gs held rest some behind = record {
  parts = parts_both octets more fs gs held rest some.parts behind.parts;
  state = state_both switch between now fs gs some.state behind.state;
  writes = writes_both old mid new switch between fs gs some.state some.writes behind.writes;
}

-- ---- faults

framing_fault : (fault : FrameFault) → IsAnswerFault (fault_of_frame fault)
framing_fault framing.TooLong = tt
framing_fault framing.Memory = tt

pub stops_framing : (octets : List ℕ) (old new : Option (List ℕ)) (switch now : SwitchState) (held : List ℕ) (fault : FrameFault) → (frames : List Frame) × Answers octets old new switch now frames held
    → StopsAnswering octets old new switch now (fault_of_frame fault)
stops_framing octets old new switch now held fault some = record {
  frames = some.0;
  rest = held;
  parts = some.1.parts;
  state = some.1.state;
  writes = begins_all old new (text_to switch some.0) some.1.writes;
  is = framing_fault fault;
}

pub stops_answering : (octets : List ℕ) (old mid new : Option (List ℕ)) (switch between now : SwitchState) (held : List ℕ) (f : Frame) (rest : List ℕ) (fault : IoFault) → (frames : List Frame) × Answers octets old mid switch between frames held
    → BeginsWith held f rest → AnswersFrame {X = Unit {0}} mid new between now f (Err fault) → StopsAnswering octets old new switch now fault
stops_answering octets old mid new switch between now held f rest fault some begins (is, inl same) = record {
  frames = some.0;
  rest = held;
  parts = some.1.parts;
  state = same.0 ∙ some.1.state;
  writes = subst (λ (known : Option (List ℕ)). AppendsBeginning old known (text_to switch some.0)) (sym same.1) (begins_all old mid (text_to switch some.0) some.1.writes);
  is = is;
}
stops_answering octets old mid new switch between now held f rest fault some begins (is, inr begun) = record {
  frames = some.0 ++ f ∷ [];
  rest = rest;
  parts = parts_more octets some.0 held f rest some.1.parts begins;
  state = state_both switch between now some.0 (f ∷ []) some.1.state begun.0;
  writes = begins_both old mid new switch between some.0 (f ∷ []) some.1.state some.1.writes begun.1;
  is = is;
}

stops_behind : (octets more : List ℕ) (old mid new : Option (List ℕ)) (switch between now : SwitchState) (fs : List Frame) (held : List ℕ) (fault : IoFault) → Answers octets old mid switch between fs held
    → StopsAnswering (held ++ more) mid new between now fault → StopsAnswering (octets ++ more) old new switch now fault
stops_behind octets more old mid new switch between now fs held fault some behind = record {
  frames = fs ++ behind.frames;
  rest = behind.rest;
  parts = parts_both octets more fs behind.frames held behind.rest some.parts behind.parts;
  state = state_both switch between now fs behind.frames some.state behind.state;
  writes = begins_both old mid new switch between fs behind.frames some.state some.writes behind.writes;
  is = behind.is;
}

-- ---- reads

-- octets were read, and the frames answered that they are but for what is held
abbrev pub AnswersSome : Option (List ℕ) → Option (List ℕ) → Option (List ℕ) → Option (List ℕ) → SwitchState → SwitchState → List ℕ → Type 0
AnswersSome start now old new switch after held = (octets : List ℕ) × (frames : List Frame) × Consumes start now octets × Answers octets old new switch after frames held

pub some_none : (start known : Option (List ℕ)) (switch : SwitchState) → AnswersSome start start known known switch switch []
some_none start known switch = ([], [], Consumes-nil start, answers_none [] known switch)

pub some_more : (start now end old mid new : Option (List ℕ)) (switch between after : SwitchState) (held fed left : FramerState) → AnswersSome start now old mid switch between held.octets → ReadsOn now end held fed (Ok true)
    → (frames : List Frame) × Answers fed.octets mid new between after frames left.octets → AnswersSome start end old new switch after left.octets
some_more start now end old mid new switch between after held fed left some read behind = (
  some.0 ++ read.0,
  some.1 ++ behind.0,
  Consumes-trans start now end some.0 read.0 some.2 read.1,
  answers_both some.0 read.0 old mid new switch between after some.1 behind.0 held.octets left.octets some.3
      (subst (λ (framer : FramerState). Answers framer.octets mid new between after behind.0 left.octets) read.2 behind.1),
)

-- ---- the whole stream

writes_fault : (fault : IoFault) (old new : Option (List ℕ)) (replies : List Sccp) →
    IsAnswerFault fault →
    AppendsBeginning old new (replies_text replies) →
    WritesReplies (Some fault) replies old new
writes_fault faults.WriteFailed old new replies is begun = begun
writes_fault faults.FrameFault old new replies is begun = begun
writes_fault faults.Memory old new replies is begun = begun
writes_fault faults.ReadFailed old new replies is begun = absurd is
writes_fault faults.GateShut old new replies is begun = absurd is
writes_fault faults.GivenUp old new replies is begun = absurd is

stops_fault : (fault : IoFault) (rest : List ℕ) (end : Option (List ℕ)) → IsAnswerFault fault → Stops (Some fault) rest end
stops_fault faults.WriteFailed rest end is = tt
stops_fault faults.FrameFault rest end is = tt
stops_fault faults.Memory rest end is = tt
stops_fault faults.ReadFailed rest end is = absurd is
stops_fault faults.GateShut rest end is = absurd is
stops_fault faults.GivenUp rest end is = absurd is

pub plays_broken : (start now end old mid new : Option (List ℕ)) (switch between after : SwitchState) (held fed : FramerState) (fault : IoFault) → AnswersSome start now old mid switch between held.octets
    → ReadsOn now end held fed (Ok true) → StopsAnswering fed.octets mid new between after fault → PlaysSwitch start end old new switch after (Some fault)
plays_broken start now end old mid new switch between after held fed fault some read broken =
    let all = stops_behind some.0 read.0 old mid new switch between after some.1 held.octets fault some.3 (subst (λ (framer : FramerState). StopsAnswering framer.octets mid new between after fault) read.2 broken) in
    record {
      octets = some.0 ++ read.0;
      frames = all.frames;
      rest = all.rest;
      read = Consumes-trans start now end some.0 read.0 some.2 read.1;
      parts = all.parts;
      stops = stops_fault fault all.rest end all.is;
      state = all.state;
      writes = writes_fault fault old new (all_replies switch (messages all.frames)) all.is all.writes;
    }

-- nothing more was read
plays_endless : (start now end old new : Option (List ℕ)) (switch after : SwitchState) (held : List ℕ) → AnswersSome start now old new switch after held → IsPartial held → Consumes now end []
    → PlaysSwitch start end old new switch after (Some faults.ReadFailed)
plays_endless start now end old new switch after held some partial read = record {
  octets = some.0 ++ [];
  frames = some.1;
  rest = held ++ [];
  read = Consumes-trans start now end some.0 [] some.2 read;
  parts = parts_longer some.0 [] some.1 held some.3.parts;
  stops = subst IsPartial (sym (append-nil held)) partial;
  state = some.3.state;
  writes = some.3.writes;
}

pub plays_unread : (start now end old new : Option (List ℕ)) (switch after : SwitchState) (held fed : FramerState) (unread : UnreadLink) → AnswersSome start now old new switch after held.octets → IsPartial held.octets
    → ReadsOn now end held fed (Err unread) → PlaysSwitch start end old new switch after (Some (fault_for unread))
plays_unread start now end old new switch after held fed (Endless reads) some partial read = plays_endless start now end old new switch after held.octets some partial read.0
plays_unread start now end old new switch after held fed (Device error) some partial read = plays_endless start now end old new switch after held.octets some partial read.0
plays_unread start now end old new switch after held fed (Refused fault) some partial read = record {
  octets = some.0 ++ read.0;
  frames = some.1;
  rest = held.octets ++ read.0;
  read = Consumes-trans start now end some.0 read.0 some.2 read.1;
  parts = parts_longer some.0 read.0 some.1 held.octets some.3.parts;
  stops = subst (λ (f : IoFault). Stops (Some f) (held.octets ++ read.0) end) (sym read.3) tt;
  state = some.3.state;
  writes =
      subst (λ (f : IoFault). WritesReplies (Some f) (all_replies switch (messages some.1)) old new) (sym read.3)
      (begins_all old new (text_to switch some.1) some.3.writes);
}

pub plays_all : (start now end old new : Option (List ℕ)) (switch after : SwitchState) (held fed : FramerState) → AnswersSome start now old new switch after held.octets → IsPartial held.octets
    → ReadsOn now end held fed (Ok false) → PlaysSwitch start end old new switch after None
plays_all start now end old new switch after held fed some partial read = record {
  octets = some.0 ++ [];
  frames = some.1;
  rest = held.octets ++ [];
  read = Consumes-trans start now end some.0 [] some.2 read.0;
  parts = parts_longer some.0 [] some.1 held.octets some.3.parts;
  stops = (subst IsPartial (sym (append-nil held.octets)) partial, read.2);
  state = some.3.state;
  writes = some.3.writes;
}
