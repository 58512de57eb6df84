-- SPDX-License-Identifier: MIT OR Apache-2.0
-- The front of octets is what the grammar says. So a stream has one list of frames, however it was
-- cut into pieces.
use Rattle.std.proofs.Common.{◌≡◌, ℕ, zero, suc, ◌+◌, ◌*◌, ◌/◌, ◌%◌, ◌<◌, ◌≤◌, ◌⊎◌, true, false, List, [], ◌∷◌, ◌++◌, length, take, drop, Option, Some, None, Result, Ok, Err, refl, sym, ap, subst, ◌∙◌, append_assoc, arith, inl, inr}
use Rattle.std.specs.List.{flat_map}
use Rattle.std.proofs.lemmas.Bool.{cases_lt, le-ltb, lt-ltb}
use Rattle.std.proofs.lemmas.List.{append-nil, take_at, drop_at, take-append-drop, length-append, length-take}
use Rattle.octets.specs.Element.{AreOctets}
use Rattle.octets.proofs.Grammar.{octets_back}
use Rattle.ipa_framing.specs.declared.frame.Frame.{Frame}
use Rattle.ipa_framing.specs.declared.frame.TheConstants.{MAX_BODY}
use Rattle.ipa_framing.specs.declared.fault.FrameFault.{FrameFault}
use Rattle.ipa_framing.specs.declared.fault.FrameFault.TheVariants.{TooLong, Memory}
use Rattle.ipa_framing.specs.Frame.{frame_text, IsFrame, IsPartial, IsTooLong, Splits}
use Rattle.ipa_framing.specs.Front.{FrontFrame, FrontIs, body_at, frame, front_of, front_by_size}
use Rattle.ipa_framing.specs.Framer.{FramerState, BeginsWith, Call, feed, next, Run, octets_of, frames_of}

-- ---- from the grammar to the front

body_again : (size stream : ℕ) (body rest : List ℕ) → length body ≡ size →
    body_at size (stream ∷ (body ++ rest)) ≡ Some (stream, body, rest)
body_again size stream body rest long =
    rw (le-ltb (length (body ++ rest)) size (omega (arith, length-append body rest)), take_at body rest size long, drop_at body rest size long) refl

front_by_size_again : (size stream : ℕ) (body rest : List ℕ) → length body ≡ size → size ≤ MAX_BODY →
    front_by_size size (stream ∷ (body ++ rest)) ≡ Ok (Some (stream, body, rest))
front_by_size_again size stream body rest long fits = rw (le-ltb MAX_BODY size fits) (ap (λ (o : Option FrontFrame). Ok o) (body_again size stream body rest long))

pub front_again : (f : Frame) (rest : List ℕ) → IsFrame f → front_of (frame_text f ++ rest) ≡ Ok (Some (f.stream, f.body, rest))
front_again f rest fits =
    let size : 256 * (length f.body / 256) + length f.body % 256 ≡ length f.body = omega arith in
    ap (λ n. front_by_size n (f.stream ∷ (f.body ++ rest))) size ∙ front_by_size_again (length f.body) f.stream f.body rest refl fits

front_by_size_short : (size : ℕ) (octets : List ℕ) → size ≤ MAX_BODY → length octets < 1 + size → front_by_size size octets ≡ Ok None
front_by_size_short size [] fits lt = rw (le-ltb MAX_BODY size fits) refl
front_by_size_short size (stream ∷ octets) fits lt =
    let short : length octets < size = omega arith in
    rw (le-ltb MAX_BODY size fits, lt-ltb (length octets) size short) refl

pub front_partial : (octets : List ℕ) → IsPartial octets → front_of octets ≡ Ok None
front_partial [] h = refl
front_partial (a ∷ []) h = refl
front_partial (high ∷ low ∷ octets) h = front_by_size_short (256 * high + low) octets h.0 h.1

pub front_long : (octets : List ℕ) → IsTooLong octets → front_of octets ≡ Err TooLong
front_long [] h = absurd h
front_long (a ∷ []) h = absurd h
front_long (high ∷ low ∷ octets) h = rw (lt-ltb MAX_BODY (256 * high + low) h) refl

-- ---- from the front to the grammar

body_is : (high low : ℕ) (octets : List ℕ) → high < 256 → low < 256 → 256 * high + low ≤ MAX_BODY →
    FrontIs (high ∷ low ∷ octets) (Ok (body_at (256 * high + low) octets))
body_is high low [] h l fits = (fits, omega arith)
body_is high low (stream ∷ octets) h l fits =
    let size : ℕ = 256 * high + low in
    elim (cases_lt (length octets) size) [
      | inl lt ↦ rw (lt-ltb (length octets) size lt) (fits, omega arith)
      | inr le ↦
          let long : length (take size octets) ≡ size = omega (arith, length-take size octets) in
          let first : high ≡ length (take size octets) / 256 = omega arith in
          let second : low ≡ length (take size octets) % 256 = omega arith in
          let parts : octets ≡ take size octets ++ drop size octets = sym (take-append-drop size octets) in
          let whole : high ∷ low ∷ stream ∷ octets ≡ frame_text (frame stream (take size octets)) ++ drop size octets =
          ap (λ (n : ℕ). n ∷ low ∷ stream ∷ octets) first ∙ ap (λ (n : ℕ). (length (take size octets) / 256) ∷ n ∷ stream ∷ octets) second
          ∙ ap (λ (xs : List ℕ). (length (take size octets) / 256) ∷ (length (take size octets) % 256) ∷ stream ∷ xs) parts in
          let fits' : length (take size octets) ≤ MAX_BODY = rw long fits in
          rw (le-ltb (length octets) size le) (fits', whole)
    ]

pub front_is : (octets : List ℕ) → AreOctets octets → FrontIs octets (front_of octets)
front_is [] are = tt
front_is (a ∷ []) are = tt
front_is (high ∷ low ∷ octets) are =
    elim (cases_lt MAX_BODY (256 * high + low)) [
      | inl lt ↦ rw (lt-ltb MAX_BODY (256 * high + low) lt) lt
      | inr le ↦ rw (le-ltb MAX_BODY (256 * high + low) le) (body_is high low octets (are 0) (are 1) le)
    ]

-- ---- frames of a stream

stopped : (rest : List ℕ) (front : FrontFrame) → IsPartial rest ⊎ IsTooLong rest → front_of rest ≡ Ok (Some front) → ⊥
stopped rest front (inl partial) e = absurd (cc (front_partial rest partial, e))
stopped rest front (inr long) e = absurd (cc (front_long rest long, e))

-- the first frame, then the others
grouped : (f : Frame) (fs : List Frame) (rest : List ℕ) →
    flat_map frame_text (f ∷ fs) ++ rest ≡ frame_text f ++ (flat_map frame_text fs ++ rest)
grouped f fs rest = append_assoc (frame_text f) (flat_map frame_text fs) rest

front_of_frames : (stream : List ℕ) (f : Frame) (fs : List Frame) (rest : List ℕ) → Splits stream (f ∷ fs) rest →
    front_of stream ≡ Ok (Some (f.stream, f.body, flat_map frame_text fs ++ rest))
front_of_frames stream f fs rest splits = ap front_of (splits.whole ∙ grouped f fs rest) ∙ front_again f (flat_map frame_text fs ++ rest) splits.each.0

front_same : (a b : FrontFrame) → (let x : Result (Option FrontFrame) FrameFault = Ok (Some a) in x) ≡ Ok (Some b) → a ≡ b
front_same a b e = cc

-- behind a frame that is taken are the others
pub splits_behind : (stream : List ℕ) (frames : List Frame) (rest : List ℕ) (front : FrontFrame) →
    front_of stream ≡ Ok (Some front) → Splits stream frames rest → (fs : List Frame) × Splits front.2 fs rest
splits_behind stream [] rest front e splits = absurd (stopped rest front splits.stops (ap front_of (sym splits.whole) ∙ e))
splits_behind stream (f ∷ fs) rest front e splits =
    let is = front_same front (f.stream, f.body, flat_map frame_text fs ++ rest) (sym e ∙ front_of_frames stream f fs rest splits) in
    (fs, record { whole = ap (λ (x : FrontFrame). x.2) is; each = splits.each.1; stops = splits.stops })

-- where no whole frame is at the front, all is the rest
pub splits_end : (stream : List ℕ) (frames : List Frame) (rest : List ℕ) →
    ((front : FrontFrame) → front_of stream ≡ Ok (Some front) → ⊥) → Splits stream frames rest → stream ≡ rest
splits_end stream [] rest none splits = splits.whole
splits_end stream (f ∷ fs) rest none splits = absurd (none (f.stream, f.body, flat_map frame_text fs ++ rest) (front_of_frames stream f fs rest splits))

-- a stream has one list of frames, and one rest
pub splits_only : (stream : List ℕ) (fs : List Frame) (r : List ℕ) (gs : List Frame) (t : List ℕ) → Splits stream fs r →
    Splits stream gs t → (fs ≡ gs) × (r ≡ t)
splits_only stream [] r [] t a b = (refl, sym a.whole ∙ b.whole)
splits_only stream [] r (g ∷ gs) t a b = absurd (stopped r (g.stream, g.body, flat_map frame_text gs ++ t) a.stops (ap front_of (sym a.whole) ∙ front_of_frames stream g gs t b))
splits_only stream (f ∷ fs) r [] t a b = absurd (stopped t (f.stream, f.body, flat_map frame_text fs ++ r) b.stops (ap front_of (sym b.whole) ∙ front_of_frames stream f fs r a))
splits_only stream (f ∷ fs) r (g ∷ gs) t a b =
    let is = front_same (f.stream, f.body, flat_map frame_text fs ++ r) (g.stream, g.body, flat_map frame_text gs ++ t) (sym (front_of_frames stream f fs r a) ∙ front_of_frames stream g gs t b) in
    let behind = splits_only (flat_map frame_text fs ++ r) fs r gs t (record { whole = refl; each = a.each.1; stops = a.stops }) (record { whole = ap (λ (x : FrontFrame). x.2) is; each = b.each.1; stops = b.stops }) in
    let first : f ≡ g = ap (λ (x : FrontFrame). frame x.0 x.1) is in
    (cc (first, behind.0), behind.1)

-- ---- each stream has one

-- the frames of what is behind a front make those of the whole
split_by : (stream : List ℕ) (front : Result (Option FrontFrame) FrameFault) → FrontIs stream front
    → ((front : FrontFrame) → FrontIs stream (Ok (Some front)) → (frames : List Frame) × (rest : List ℕ) × Splits front.2 frames rest)
    → (frames : List Frame) × (rest : List ℕ) × Splits stream frames rest
split_by stream (Ok None) is behind = ([], stream, record { whole = refl; each = tt; stops = inl is })
split_by stream (Err TooLong) is behind = ([], stream, record { whole = refl; each = tt; stops = inr is })
split_by stream (Err Memory) is behind = absurd is
split_by stream (Ok (Some front)) is behind =
    let tail = behind front is in
    let f = frame front.0 front.1 in
    (f ∷ tail.0, tail.1, record { whole = is.1 ∙ ap (λ (xs : List ℕ). frame_text f ++ xs) tail.2.whole ∙ sym (grouped f tail.0 tail.1); each = (is.0, tail.2.each); stops = tail.2.stops })

split_within : (n : ℕ) (stream : List ℕ) → length stream ≤ n → AreOctets stream →
    (frames : List Frame) × (rest : List ℕ) × Splits stream frames rest
split_within zero [] le are = ([], [], record { whole = refl; each = tt; stops = inl tt })
split_within zero (x ∷ stream) le are = absurd (omega arith)
split_within (suc n) stream le are =
    split_by stream (front_of stream) (front_is stream are)
    (λ front is.
    let text : List ℕ = frame_text (frame front.0 front.1) in
    split_within n front.2 (omega (arith, ap length is.1, length-append text front.2)) (octets_back text front.2 (subst AreOctets is.1 are)))

pub splits_some : (stream : List ℕ) → AreOctets stream → (frames : List Frame) × (rest : List ℕ) × Splits stream frames rest
splits_some stream are = split_within (length stream) stream (omega arith) are

-- ---- any list of calls

held_octets : (a b : FramerState) → a ≡ b → a.octets ≡ b.octets
held_octets a b e = ap (λ (h : FramerState). h.octets) e

same_octets : (start between : FramerState) (more : List ℕ) (frames : List Frame) (rest : List ℕ) →
    between.octets ≡ start.octets → Splits (between.octets ++ more) frames rest →
    Splits (start.octets ++ more) frames rest
same_octets start between more frames rest e splits = subst (λ (xs : List ℕ). Splits (xs ++ more) frames rest) e splits

-- what was fed is the frames that were given, then those still to be given, then the rest
pub run_splits : (calls : List Call) (start held : FramerState) (frames : List Frame) (rest : List ℕ) →
    Run start calls held → Splits held.octets frames rest →
    Splits (start.octets ++ octets_of calls) (frames_of calls ++ frames) rest
run_splits [] start held frames rest run splits =
    subst (λ (xs : List ℕ). Splits xs frames rest) (held_octets held start (sym run) ∙ sym (append-nil start.octets)) splits
run_splits (feed piece (Ok u) ∷ cs) start held frames rest run splits =
    let later = run_splits cs run.0 held frames rest run.2 splits in
    let joined : run.0.octets ++ octets_of cs ≡ start.octets ++ (piece ++ octets_of cs) =
    ap (λ (xs : List ℕ). xs ++ octets_of cs) (ap (λ (h : FramerState). h.octets) run.1.1) ∙ append_assoc start.octets piece (octets_of cs) in
    subst (λ (xs : List ℕ). Splits xs (frames_of cs ++ frames) rest) joined later
run_splits (feed piece (Err TooLong) ∷ cs) start held frames rest run splits =
    same_octets start run.0 (octets_of cs) (frames_of cs ++ frames) rest (held_octets run.0 start run.1.1) (run_splits cs run.0 held frames rest run.2 splits)
run_splits (feed piece (Err Memory) ∷ cs) start held frames rest run splits =
    same_octets start run.0 (octets_of cs) (frames_of cs ++ frames) rest (held_octets run.0 start run.1.1) (run_splits cs run.0 held frames rest run.2 splits)
run_splits (next (Ok (Some f)) ∷ cs) start held frames rest run splits =
    let later = run_splits cs run.0 held frames rest run.2 splits in
    let begins : BeginsWith start.octets f run.0.octets = run.1.0 in
    record {
      whole = ap (λ (xs : List ℕ). xs ++ octets_of cs) begins.1 ∙ append_assoc (frame_text f) run.0.octets (octets_of cs)
          ∙ ap (λ (xs : List ℕ). frame_text f ++ xs) later.whole ∙ sym (grouped f (frames_of cs ++ frames) rest);
      each = (begins.0, later.each);
      stops = later.stops;
    }
run_splits (next (Ok None) ∷ cs) start held frames rest run splits =
    same_octets start run.0 (octets_of cs) (frames_of cs ++ frames) rest (held_octets run.0 start run.1.1) (run_splits cs run.0 held frames rest run.2 splits)
run_splits (next (Err TooLong) ∷ cs) start held frames rest run splits =
    same_octets start run.0 (octets_of cs) (frames_of cs ++ frames) rest (ap (λ (h : FramerState). h.octets) run.1.1) (run_splits cs run.0 held frames rest run.2 splits)
run_splits (next (Err Memory) ∷ cs) start held frames rest run splits =
    same_octets start run.0 (octets_of cs) (frames_of cs ++ frames) rest (held_octets run.0 start run.1.1) (run_splits cs run.0 held frames rest run.2 splits)

not_both : (octets : List ℕ) (f : Frame) (rest : List ℕ) → IsTooLong octets → BeginsWith octets f rest → ⊥
not_both octets f rest long begins = absurd (cc (front_long octets long, ap front_of begins.1 ∙ front_again f rest begins.0))

-- a framer that has refused a frame as too long holds it at the front
pub run_fails : (calls : List Call) (start held : FramerState) → Run start calls held →
    (start.failed ≡ true → IsTooLong start.octets) → held.failed ≡ true → IsTooLong held.octets
run_fails [] start held run well failed = subst (λ (h : FramerState). IsTooLong h.octets) run (well (ap (λ (h : FramerState). h.failed) run ∙ failed))
run_fails (feed piece (Ok u) ∷ cs) start held run well failed =
    let is : run.0.failed ≡ false = ap (λ (h : FramerState). h.failed) run.1.1 in
    run_fails cs run.0 held run.2 (λ h. absurd (cc (is, h))) failed
run_fails (feed piece (Err TooLong) ∷ cs) start held run well failed =
    run_fails cs run.0 held run.2 (subst (λ (h : FramerState). h.failed ≡ true → IsTooLong h.octets) (sym run.1.1) well) failed
run_fails (feed piece (Err Memory) ∷ cs) start held run well failed =
    run_fails cs run.0 held run.2 (subst (λ (h : FramerState). h.failed ≡ true → IsTooLong h.octets) (sym run.1.1) well) failed
run_fails (next (Ok (Some f)) ∷ cs) start held run well failed =
    run_fails cs run.0 held run.2 (λ h. absurd (not_both start.octets f run.0.octets (well (sym run.1.1 ∙ h)) run.1.0)) failed
run_fails (next (Ok None) ∷ cs) start held run well failed =
    run_fails cs run.0 held run.2 (subst (λ (h : FramerState). h.failed ≡ true → IsTooLong h.octets) (sym run.1.1) well) failed
run_fails (next (Err TooLong) ∷ cs) start held run well failed =
    run_fails cs run.0 held run.2 (λ h. subst (λ (x : FramerState). IsTooLong x.octets) (sym run.1.1) run.1.0) failed
run_fails (next (Err Memory) ∷ cs) start held run well failed =
    run_fails cs run.0 held run.2 (subst (λ (h : FramerState). h.failed ≡ true → IsTooLong h.octets) (sym run.1.1) well) failed
