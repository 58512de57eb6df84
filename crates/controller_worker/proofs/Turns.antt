-- SPDX-License-Identifier: MIT OR Apache-2.0
-- Each kind of step, from state to state.
use Rattle.std.proofs.Common.{◌≡◌, ◌≢◌, ℕ, ◌+◌, ◌&&◌, not, ◌<◌, ◌≤◌, nat_lt, nat_le, Bool, true, false, List, [], ◌∷◌, ◌++◌, length, refl, sym, ap, ◌∙◌, subst, append-nil, append_assoc, arith, ⊎_elim, ◌⊎◌, inl, inr, get_or}
use Rattle.std.proofs.lemmas.Bool.{eq-eqb, ne_eqb, false≢true}
use Rattle.std.proofs.lemmas.List.{get_or_read, length-append, map-append}
use Rattle.std.proofs.lemmas.Bool.Decides.{nat_tests}
use mathlib.Core.Option.{some, some-injective}
use lib.ListN.{get_elem?}
use Rattle.atomic_table.proofs.Lists.{at_index, at_set}
use Rattle.controller_worker.specs.declared.limits.TheConstants.{MAX_REFUSALS}
use Rattle.controller_worker.specs.declared.mark.Mark.{Mark}
use Rattle.controller.specs.Wanting.{MayWantMemory}
use Rattle.controller_worker.specs.Advancing.{AreSent, DoesStep, Fits, Advances, AdvancesAlone, AdvancesPartly, IsCounted, IsPending, IsSettled, Sends, SendsAll, State, RemainOpen, IsValid, end_mark, ended_of, mark_at, noted, unmarked, with_added}
use Rattle.controller_worker.specs.Links.{HasDown, is_given_up, lines}
use Rattle.controller_worker.specs.Moves.{AreElsewhere, AreOther, IsElsewhere, IsOther, IsRefused, IsSent, Part, takes, ticks, adds, refuses, down_of, frames_in, refusals_in, steps_of, taken_in, times}
use Rattle.controller_worker.specs.Steps.{AreOfLinks, frames_to, over, ticked, whats_of}
use Rattle.controller_worker.specs.Taking.{HasTaken}
use Rattle.controller_worker.proofs.Courses.{course_still, taken_none}
use Rattle.controller_worker.proofs.Histories.{all_both_parts, elsewhere_tried, frames_in_both, frames_tried, last_tried, other_tried, parts_tried, refusals, refusals_in_both, refusals_tried, same_or, steps_tried, taken_in_both, taken_tried, tried}
use Rattle.controller_worker.proofs.Outputs.{all_none, elsewhere, there_now}
use Rattle.controller_worker.proofs.Resting.{rests}
use Rattle.conn_messages.specs.declared.out.Out.{Out}
use Rattle.controller.specs.Rest.{is_at_rest}
use Rattle.controller_model.specs.declared.step.Step.{Step}
use Rattle.controller_model.specs.declared.step.Step.TheVariants.{Take, Tick}
use Rattle.controller_model.specs.Controller.{Controller}
use Rattle.controller_model.specs.Life as words
use Rattle.ipa_framing.specs.declared.frame.Frame.{Frame}
use Rattle.ruled_relay.specs.declared.item.Item.{Item}
use Rattle.ruled_relay.specs.declared.item.What.{What}
use Rattle.ruled_relay.specs.declared.item.What.TheVariants as whats
use Rattle.ruled_relay.specs.declared.outbox.Line.{Line}
use Rattle.ruled_relay.specs.declared.outbox.Line.TheVariants as marks
use Rattle.ruled_relay.specs.Ends.{EndView}
use Rattle.ruled_relay.specs.Inbox.{TakesItem, queues_of}
use Rattle.ruled_relay.specs.Outbox.{PutterView}
use Rattle.ruled_relay.specs.Row.{EachAt, Row}
use Rattle.ruled_relay.proofs.Places.{length_set, within}

-- ---- items of one source, and what is remembered

whats_here : (link : ℕ) (item : Item) → item.source ≡ link → whats_of link (item ∷ []) ≡ item.what ∷ []
whats_here link item e = rw (eq-eqb item.source link e) refl

whats_else : (link : ℕ) (item : Item) → (item.source ≡ link → ⊥) → whats_of link (item ∷ []) ≡ []
whats_else link item e = rw (ne_eqb item.source link e) refl

down_more : (ts ws : List What) → HasDown ts → HasDown (ts ++ ws)
down_more ts ws (before, behind, e) = (before, behind ++ ws, ap (λ xs. xs ++ ws) e ∙ append_assoc before (whats.Down ∷ behind) ws)

-- what of a mark is as before, once an item of this source was noted
noted_same : {X : Type 0} (field : Mark → X) → ((m : Mark) → field (record m { down = true }) ≡ field m) → (b : Bool) (source : ℕ) (ms : List Mark) (link : ℕ) → source < length ms
    → field (mark_at (noted b source ms) link) ≡ field (mark_at ms link)
noted_same field stays false source ms link h = refl
noted_same field stays true source ms link h =
    let m : Mark = record (mark_at ms source) { down = true } in
    ⊎_elim (λ (e : link ≡ source). ap field (there_now ms source link m e h) ∙ stays (mark_at ms source) ∙ ap (λ i. field (mark_at ms i)) (sym e))
    (λ (e : link ≢ source). ap field (elsewhere ms source link m e)) (same_or link source)

noted_down : (b : Bool) (source : ℕ) (ms : List Mark) (link : ℕ) → source < length ms → (mark_at (noted b source ms) link).down ≡ true
    → ((mark_at ms link).down ≡ true) ⊎ ((b ≡ true) × (link ≡ source))
noted_down false source ms link h d = inl d
noted_down true source ms link h d =
    let m : Mark = record (mark_at ms source) { down = true } in
    ⊎_elim (λ (e : link ≡ source). inr (refl, e)) (λ (e : link ≢ source). inl (sym (ap (λ y. y.down) (elsewhere ms source link m e)) ∙ d)) (same_or link source)

down_noted : (b : Bool) (source : ℕ) (ms : List Mark) (link : ℕ) →
    source < length ms →
    (mark_at ms link).down ≡ true →
    (mark_at (noted b source ms) link).down ≡ true
down_noted false source ms link h d = d
down_noted true source ms link h d =
    let m : Mark = record (mark_at ms source) { down = true } in
    ⊎_elim (λ (e : link ≡ source). ap (λ y. y.down) (there_now ms source link m e h)) (λ (e : link ≢ source). ap (λ y. y.down) (elsewhere ms source link m e) ∙ d) (same_or link source)

pub length_noted : (b : Bool) (source : ℕ) (ms : List Mark) → length (noted b source ms) ≡ length ms
length_noted false source ms = refl
length_noted true source ms = length_set ms source (record (mark_at ms source) { down = true })

added_same : {X : Type 0} (field : Mark → X) → ((m : Mark) → field (record m { added = true }) ≡ field m) → (source : ℕ) (ms : List Mark) (link : ℕ) → source < length ms
    → field (mark_at (with_added source ms) link) ≡ field (mark_at ms link)
added_same field stays source ms link h =
    let m : Mark = record (mark_at ms source) { added = true } in
    ⊎_elim (λ (e : link ≡ source). ap field (there_now ms source link m e h) ∙ stays (mark_at ms source) ∙ ap (λ i. field (mark_at ms i)) (sym e))
    (λ (e : link ≢ source). ap field (elsewhere ms source link m e)) (same_or link source)

-- ---- one link

-- of nothing nothing is sent, and nothing waits
none_more : (before now : Bool) (waited came sent waiting : List Frame) (n : ℕ) →
    AreSent before now waited came sent waiting n →
    waited ≡ [] →
    came ≡ [] →
    (sent ≡ []) × (waiting ≡ [])
none_more false false waited came [] waiting n f w c = (refl, f ∙ ap (λ l. l ++ came) w ∙ c)
none_more false false waited came (x ∷ sent) waiting n f w c = absurd (let l = ap length (f ∙ ap (λ l. l ++ came) w ∙ c) in omega arith)
none_more false true waited came sent waiting n f w c =
    absurd (let l = ap length (sym f.2 ∙ ap (λ l. l ++ came) w ∙ c) in omega (arith, length-append sent (f.0 ∷ f.1)))
none_more true true waited came sent waiting n f w c = (f.0, f.1 ∙ w)
none_more true false waited came sent waiting n f w c = absurd f

-- nothing waits for an outbox that was given up
none_up : (before now : Bool) (waited came sent waiting : List Frame) (n : ℕ) →
    AreSent before now waited came sent waiting n →
    (before ≡ true → waited ≡ []) →
    now ≡ true →
    waiting ≡ []
none_up before false waited came sent waiting n f w h = absurd (false≢true h)
none_up false true waited came sent waiting n f w h = f.3
none_up true true waited came sent waiting n f w h = f.1 ∙ w refl

-- what was put is still the frames that were sent, and the mark if that was put
put_on : (ended : Bool) (old new : List Line) (sent more : List Frame) → old ≡ lines sent ++ end_mark ended → new ≡ old ++ lines more → (ended ≡ true → more ≡ [])
    → new ≡ lines (sent ++ more) ++ end_mark ended
put_on false old new sent more was puts quiet =
    puts ∙ ap (λ ls. ls ++ lines more) (was ∙ append-nil (lines sent))
    ∙ sym (append-nil (lines (sent ++ more)) ∙ map-append (λ (f : Frame). marks.Frame f) sent more)
put_on true old new sent more was puts quiet =
    let none : more ≡ [] = quiet refl in
    puts ∙ ap (λ fs. old ++ lines fs) none ∙ append-nil old ∙ was ∙ ap (λ fs. lines fs ++ end_mark true) (sym (append-nil sent) ∙ ap (λ fs. sent ++ fs) (sym none))

more_refusals : (link : ℕ) (past more : List Part) → MAX_REFUSALS ≤ refusals_in link past → MAX_REFUSALS ≤ refusals_in link (past ++ more)
more_refusals link past more h = let e = refusals_in_both link past more in omega arith

refused_more : (link : ℕ) (past more : List Part) (sent : List Frame) →
    IsRefused link past sent →
    AreElsewhere link more →
    IsRefused link (past ++ more) sent
refused_more link past more sent r else = record {
  earlier = r.earlier;
  last = r.last;
  others = r.others ++ more;
  whole = ap (λ ps. ps ++ more) r.whole ∙ append_assoc r.earlier (r.last ∷ r.others) more;
  refusal = r.refusal;
  elsewhere = all_both_parts (IsElsewhere link) r.others more r.elsewhere else;
  often = more_refusals link past more r.often;
  refused = r.refused;
  rest = r.rest;
  frames = r.frames;
}

-- the frames of a step with refusals behind it
frames_behind : (first : List Part) (tries : List ℕ) → frames_in (first ++ refusals tries) ≡ frames_in first
frames_behind first tries = frames_in_both first (refusals tries) ∙ ap (λ fs. frames_in first ++ fs) (frames_tried tries) ∙ append-nil (frames_in first)

-- the outbox was given up at the last of these refusals
refused_now : (link : ℕ) (past first : List Part) (tries : List ℕ) (sent w came more v : List Frame) (refused : Frame) (rest : List Frame) → sent ++ w ≡ frames_in past → came ≡ frames_in first
    → w ++ came ≡ more ++ refused ∷ rest → v ≡ [] → 0 < times link tries → MAX_REFUSALS ≤ refusals_in link (past ++ (first ++ refusals tries))
    → IsRefused link (past ++ (first ++ refusals tries)) ((sent ++ more) ++ v)
refused_now link past first tries sent w came more v refused rest so_far put all none once often =
    let found = last_tried link tries once in
    let last : Part = record { move = refuses link; frames = [] } in
    let b : List Part = refusals found.before in
    let x : List Part = last ∷ refusals found.behind in
    let cut : refusals tries ≡ b ++ x =
    ap (λ (ls : List ℕ). refusals ls) found.whole ∙ map-append (λ (at : ℕ). let p : Part = record { move = refuses at; frames = [] } in p) found.before (link ∷ found.behind) in
    record {
      earlier = past ++ (first ++ b);
      last = last;
      others = refusals found.behind;
      whole =
          ap (λ (ps : List Part). past ++ (first ++ ps)) cut ∙ ap (λ (ps : List Part). past ++ ps) (sym (append_assoc first b x)) ∙ sym (append_assoc past (first ++ b) x);
      refusal = refl;
      elsewhere = elsewhere_tried link found.behind found.none;
      often = often;
      refused = refused;
      rest = rest;
      frames =
          frames_in_both past (first ++ b) ∙ ap (λ (fs : List Frame). frames_in past ++ fs) (frames_behind first found.before ∙ sym put)
          ∙ ap (λ (fs : List Frame). fs ++ came) (sym so_far) ∙ append_assoc sent w came ∙ ap (λ (fs : List Frame). sent ++ fs) all ∙ sym (append_assoc sent more (refused ∷ rest))
          ∙ ap (λ (fs : List Frame). fs ++ refused ∷ rest) (sym (append-nil (sent ++ more)) ∙ ap (λ (fs : List Frame). (sent ++ more) ++ fs) (sym none));
    }

-- nothing is sent where the outbox was given up
still : (sent w more v : List Frame) → more ≡ [] → v ≡ w → sent ++ w ≡ (sent ++ more) ++ v
still sent w more v none same =
    ap (λ (fs : List Frame). sent ++ fs) (sym same) ∙ ap (λ (fs : List Frame). fs ++ v) (sym (append-nil sent) ∙ ap (λ (fs : List Frame). sent ++ fs) (sym none))

-- One more move that doesn't add the link's Down, with refusals behind it, or refusals alone: while
-- that is to be added, they are of other links.
which_more : (before now added : Bool) (link : ℕ) (past first : List Part) (tries : List ℕ) (sent w came more v : List Frame) → IsSent before added link past (sent ++ w)
    → AreSent before now w came more v (times link tries) → came ≡ frames_in first → AreOther link first → (before ≡ true → (added ≡ true) ⊎ AreElsewhere link first)
    → (now ≡ true → MAX_REFUSALS ≤ refusals_in link (past ++ (first ++ refusals tries))) → IsSent now added link (past ++ (first ++ refusals tries)) ((sent ++ more) ++ v)
which_more false false false link past first tries sent w came more v f g put other next often = (
  append_assoc sent more v ∙ ap (λ (fs : List Frame). sent ++ fs) g ∙ sym (append_assoc sent w came) ∙ ap (λ (fs : List Frame). fs ++ came) f.0
      ∙ ap (λ (fs : List Frame). frames_in past ++ fs) (put ∙ sym (frames_behind first tries)) ∙ sym (frames_in_both past (first ++ refusals tries)),
  all_both_parts (IsOther link) past (first ++ refusals tries) f.1 (all_both_parts (IsOther link) first (refusals tries) other (other_tried link tries)),
)
which_more false true false link past first tries sent w came more v f g put other next often = (
  refused_now link past first tries sent w came more v g.0 g.1 f.0 put g.2 g.3 g.4 (often refl),
  all_both_parts (IsOther link) past (first ++ refusals tries) f.1 (all_both_parts (IsOther link) first (refusals tries) other (other_tried link tries)),
)
which_more true true false link past first tries sent w came more v f g put other next often = (
  subst (λ (fs : List Frame). IsRefused link (past ++ (first ++ refusals tries)) fs) (still sent w more v g.0 g.1)
      (refused_more link past (first ++ refusals tries) (sent ++ w) f.0
      (all_both_parts (IsElsewhere link) first (refusals tries) (⊎_elim (λ (e : false ≡ true). absurd (false≢true e)) (λ (a : AreElsewhere link first). a) (next refl)) (elsewhere_tried link tries g.2))),
  all_both_parts (IsOther link) past (first ++ refusals tries) f.1 (all_both_parts (IsOther link) first (refusals tries) other (other_tried link tries)),
)
which_more true true true link past first tries sent w came more v f g put other next often = (
  f.0,
  f.1,
  f.2 ++ (first ++ refusals tries),
  ap (λ (ps : List Part). ps ++ (first ++ refusals tries)) f.3 ∙ append_assoc f.0 (f.1 ∷ f.2) (first ++ refusals tries),
  subst (λ (fs : List Frame). IsRefused link f.0 fs) (still sent w more v g.0 g.1) f.4,
  f.5,
  f.6,
  all_both_parts (IsOther link) f.2 (first ++ refusals tries) f.7 (all_both_parts (IsOther link) first (refusals tries) other (other_tried link tries)),
)
which_more true false added link past first tries sent w came more v f g put other next often = absurd g
which_more false now true link past first tries sent w came more v f g put other next often = absurd f

-- the move that adds it
which_here : (now : Bool) (link : ℕ) (past : List Part) (part : Part) (tries : List ℕ) (sent w came more v : List Frame) → IsSent true false link past (sent ++ w)
    → AreSent true now w came more v (times link tries) → part.move ≡ adds link → IsSent now true link (past ++ part ∷ refusals tries) ((sent ++ more) ++ v)
which_here true link past part tries sent w came more v f g here = (
  past,
  part,
  refusals tries,
  refl,
  subst (λ (fs : List Frame). IsRefused link past fs) (still sent w more v g.0 g.1) f.0,
  here,
  f.1,
  other_tried link tries,
)
which_here false link past part tries sent w came more v f g here = absurd g

-- an outbox that was given up remains so
remains_up : (before now : Bool) (w came more v : List Frame) (n : ℕ) → AreSent before now w came more v n → before ≡ true → now ≡ true
remains_up true true w came more v n sent up = refl
remains_up true false w came more v n sent up = absurd sent
remains_up false now w came more v n sent up = absurd (false≢true up)

often_of : (p : PutterView) (most : ℕ) → IsCounted most p → is_given_up p ≡ true → MAX_REFUSALS ≤ most
often_of p most counted up = let le : nat_le MAX_REFUSALS p.refusals ≡ true = up in let h = counted.1 in grind (arith, nat_tests)

fits_on : (ended : Bool) (p q : PutterView) (m m' : Mark) (link : ℕ) (past more : List Part) (came : List Frame) (n : ℕ) (sends : Sends p m.waiting came n q m'.waiting) → refusals_in link more ≡ n
    → (ended ≡ true → came ≡ []) → (f : Fits ended p m link past)
    → ((is_given_up q ≡ true → MAX_REFUSALS ≤ refusals_in link (past ++ more)) → IsSent (is_given_up q) m'.added link (past ++ more) ((f.sent ++ sends.sent) ++ m'.waiting))
    → (m'.down ≡ true → HasDown (taken_in link past ++ taken_in link more)) → Fits ended q m' link (past ++ more)
fits_on ended p q m m' link past more came n sends times_is quiet f which down =
    let counted : IsCounted (refusals_in link (past ++ more)) q =
    subst (λ (k : ℕ). IsCounted k q) (sym (refusals_in_both link past more ∙ ap (λ (k : ℕ). refusals_in link past + k) times_is)) (sends.counted (refusals_in link past) f.counted) in
    let none : (ended ≡ true) → (sends.sent ≡ []) × (m'.waiting ≡ []) =
    λ h. none_more (is_given_up p) (is_given_up q) m.waiting came sends.sent m'.waiting n sends.which (f.none.0 h) (quiet h) in record {
      sent = f.sent ++ sends.sent;
      put = put_on ended p.put q.put f.sent sends.sent f.put sends.put (λ h. (none h).0);
      which = which (often_of q (refusals_in link (past ++ more)) counted);
      none = (λ h. (none h).1, none_up (is_given_up p) (is_given_up q) m.waiting came sends.sent m'.waiting n sends.which f.none.1);
      counted = counted;
      down = λ h. subst (λ ts. HasDown ts) (sym (taken_in_both link past more)) (down h);
    }

ticks_other : (ms link : ℕ) → ticks ms ≡ adds link → ⊥
ticks_other ms link e = cc

takes_other : (item : Item) (link : ℕ) → takes item ≡ adds link → ⊥
takes_other item link e = cc

adds_same : (a b : ℕ) → adds a ≡ adds b → a ≡ b
adds_same a b e = cc

some_ended : (link n : ℕ) → nat_lt link n ≡ true → 0 < n
some_ended link n h = grind (arith, nat_tests)

-- an outbox that has its mark gets nothing
quiet_of : (old : State) (link : ℕ) (outs : List Out) → (0 < old.ended → outs ≡ []) → ended_of old link ≡ true → frames_to link outs ≡ []
quiet_of old link outs quiet h = ap (λ os. frames_to link os) (quiet (some_ended link old.ended h))

-- what a step's own part adds of refusals: none but those behind it
refusals_behind : (link : ℕ) (first : List Part) (tries : List ℕ) →
    refusals_in link first ≡ 0 →
    refusals_in link (first ++ refusals tries) ≡ times link tries
refusals_behind link first tries none = let b = refusals_in_both link first (refusals tries) in let r = refusals_tried link tries in omega arith

-- a state after a step, but for desk, marks and what has gathered
abbrev pub stepped_to : State → Controller → List PutterView → List Mark → ℕ → State
stepped_to old c putters marks gathered = record {
  controller = c;
  desk = old.desk;
  putters = putters;
  marks = marks;
  ended = old.ended;
  told = old.told;
  gathered = gathered;
}

one_step : (s : Step) (tries : List ℕ) → s ∷ steps_of (tried tries) ≡ s ∷ []
one_step s tries = ap (λ (ss : List Step). s ∷ ss) (steps_tried tries)

-- ---- refusals alone

pub course_tried : (old : State) (putters : List PutterView) (ms : List Mark) (tries : List ℕ) → SendsAll old.putters old.marks [] tries putters ms
    → AdvancesAlone old (record old { putters = putters; marks = ms })
course_tried old putters ms tries sent =
    let new : State = record old { putters = putters; marks = ms } in
    let none = steps_tried tries in
    let course : Advances [] old new = record {
      moves = tried tries;
      controller = ap (λ (ss : List Step). (over old.controller ss).next) (sym none);
      desk = subst (λ is. HasTaken old.desk (is ++ []) old.desk) (sym (taken_tried tries)) (taken_none old.desk);
      time = let t = ap ticked none in omega arith;
      count = sent.count;
      of_links = subst (λ (ss : List Step). AreOfLinks (length old.putters) ss) (sym none) tt;
      down = λ link h. ap (λ y. y.down) (sent.kept link) ∙ h;
      links = λ link q here.
          let p = sent.each link q here in
          let m : Mark = mark_at old.marks link in
          let m' : Mark = mark_at ms link in
          let more : List Part = refusals tries in (
            p.0,
            p.1,
            record {
              queue = p.2.queue;
              given_up = remains_up (is_given_up p.0) (is_given_up q) m.waiting [] p.2.sent m'.waiting (times link tries) p.2.which;
              fits = λ past f.
                  subst (λ (ps : List Part). Fits (ended_of new link) q m' link (past ++ ps)) (sym (parts_tried link old.controller tries))
                  (fits_on (ended_of old link) p.0 q m m' link past more [] (times link tries) p.2 (refusals_tried link tries) (λ h. refl) f
                  (λ often. subst (λ a. IsSent (is_given_up q) a link (past ++ more) ((f.sent ++ p.2.sent) ++ m'.waiting)) (sym (ap (λ y. y.added) (sent.kept link)))
                  (which_more (is_given_up p.0) (is_given_up q) m.added link past [] tries f.sent m.waiting [] p.2.sent m'.waiting f.which p.2.which refl tt (λ up. inr tt) often))
                  (λ h. down_more (taken_in link past) (taken_in link more) (f.down (sym (ap (λ y. y.down) (sent.kept link)) ∙ h))));
            },
          );
    } in (course, steps_tried tries, refl)

-- ---- steps

pub course_ticked : (old : State) (c : Controller) (putters : List PutterView) (kept : List Mark) (tries : List ℕ) (ms gathered : ℕ) → IsSettled old
    → c ≡ (words.step old.controller (Tick ms)).next → SendsAll old.putters old.marks (words.step old.controller (Tick ms)).outs tries putters kept
    → (0 < old.ended → (words.step old.controller (Tick ms)).outs ≡ []) → gathered + ms ≡ old.gathered → Advances [] old (stepped_to old c putters kept gathered)
course_ticked old c putters kept tries ms gathered settled next sent quiet time =
    let s : Step = Tick ms in
    let one : List Step = s ∷ [] in
    let after : Controller = (words.step old.controller s).next in
    let outs : List Out = (words.step old.controller s).outs in record {
      moves = ticks ms ∷ tried tries;
      controller = next ∙ ap (λ (ss : List Step). (over after ss).next) (sym (steps_tried tries));
      desk = subst (λ is. HasTaken old.desk (is ++ []) old.desk) (sym (taken_tried tries)) (taken_none old.desk);
      time = let t = ap ticked (steps_tried tries) in omega arith;
      count = sent.count;
      of_links = subst (λ (ss : List Step). AreOfLinks (length old.putters) ss) (sym (one_step s tries)) tt;
      down = λ link h. ap (λ y. y.down) (sent.kept link) ∙ h;
      links = λ link q here.
          let p = sent.each link q here in
          let m : Mark = mark_at old.marks link in
          let m' : Mark = mark_at kept link in
          let came : List Frame = frames_to link outs in
          let part : Part = record { move = ticks ms; frames = came } in
          let more : List Part = part ∷ refusals tries in (
            p.0,
            p.1,
            record {
              queue = p.2.queue;
              given_up = remains_up (is_given_up p.0) (is_given_up q) m.waiting came p.2.sent m'.waiting (times link tries) p.2.which;
              fits = λ past f.
                  subst (λ (ps : List Part). Fits (ended_of old link) q m' link (past ++ part ∷ ps)) (sym (parts_tried link after tries))
                  (fits_on (ended_of old link) p.0 q m m' link past more came (times link tries) p.2 (refusals_behind link (part ∷ []) tries refl) (quiet_of old link outs quiet) f
                  (λ often. subst (λ a. IsSent (is_given_up q) a link (past ++ more) ((f.sent ++ p.2.sent) ++ m'.waiting)) (sym (ap (λ y. y.added) (sent.kept link)))
                  (which_more (is_given_up p.0) (is_given_up q) m.added link past (part ∷ []) tries f.sent m.waiting came p.2.sent m'.waiting f.which p.2.which (sym (append-nil came))
                  (ticks_other ms link, tt) (λ up. inl (settled link p.0 p.1 up)) often))
                  (λ h. down_more (taken_in link past) (taken_in link more) (f.down (sym (ap (λ y. y.down) (sent.kept link)) ∙ h))));
            },
          );
    }

pub course_added : (old : State) (c : Controller) (putters : List PutterView) (kept : List Mark) (tries : List ℕ) (source : ℕ) → c ≡ (words.step old.controller (Take (down_of source))).next
    → SendsAll old.putters old.marks (words.step old.controller (Take (down_of source))).outs tries putters kept
    → (0 < old.ended → (words.step old.controller (Take (down_of source))).outs ≡ []) → IsPending old source → source < length kept
    → Advances [] old (stepped_to old c putters (with_added source kept) old.gathered)
course_added old c putters kept tries source next sent quiet pending room =
    let s : Step = Take (down_of source) in
    let after : Controller = (words.step old.controller s).next in
    let outs : List Out = (words.step old.controller s).outs in
    let new : Mark = record (mark_at kept source) { added = true } in
    let downs : (link : ℕ) → (mark_at (with_added source kept) link).down ≡ (mark_at old.marks link).down =
    λ link. added_same (λ y. y.down) (λ y. refl) source kept link room ∙ ap (λ y. y.down) (sent.kept link) in record {
      moves = adds source ∷ tried tries;
      controller = next ∙ ap (λ (ss : List Step). (over after ss).next) (sym (steps_tried tries));
      desk = subst (λ is. HasTaken old.desk (is ++ []) old.desk) (sym (taken_tried tries)) (taken_none old.desk);
      time = let t = ap ticked (steps_tried tries) in omega arith;
      count = sent.count;
      of_links = subst (λ (ss : List Step). AreOfLinks (length old.putters) ss) (sym (one_step s tries)) (pending.there, tt);
      down = λ link h. downs link ∙ h;
      links = λ link q here.
          let p = sent.each link q here in
          let m : Mark = mark_at old.marks link in
          let mid : Mark = mark_at kept link in
          let m' : Mark = mark_at (with_added source kept) link in
          let came : List Frame = frames_to link outs in
          let part : Part = record { move = adds source; frames = came } in
          let more : List Part = part ∷ refusals tries in
          let wait : m'.waiting ≡ mid.waiting = added_same (λ y. y.waiting) (λ y. refl) source kept link room in
          let sends : Sends p.0 m.waiting came (times link tries) q m'.waiting = subst (λ (l : List Frame). Sends p.0 m.waiting came (times link tries) q l) (sym wait) p.2 in (
            p.0,
            p.1,
            record {
              queue = p.2.queue;
              given_up = remains_up (is_given_up p.0) (is_given_up q) m.waiting came p.2.sent mid.waiting (times link tries) p.2.which;
              fits = λ past f.
                  subst (λ (ps : List Part). Fits (ended_of old link) q m' link (past ++ part ∷ ps)) (sym (parts_tried link after tries))
                  (fits_on (ended_of old link) p.0 q m m' link past more came (times link tries) sends (refusals_behind link (part ∷ []) tries refl) (quiet_of old link outs quiet) f
                  (λ often.
                  ⊎_elim
                  (λ (e : link ≡ source).
                  let now : m' ≡ new = there_now kept source link new e room in
                  let up : is_given_up p.0 ≡ true = pending.given_up link p.0 p.1 e in
                  let unadded : m.added ≡ false = ap (λ i. (mark_at old.marks i).added) e ∙ pending.added in
                  let was : IsSent true false link past (f.sent ++ m.waiting) =
                  subst (λ a. IsSent true a link past (f.sent ++ m.waiting)) unadded (subst (λ b. IsSent b m.added link past (f.sent ++ m.waiting)) up f.which) in
                  let g : AreSent true (is_given_up q) m.waiting came sends.sent m'.waiting (times link tries) =
                  subst (λ b. AreSent b (is_given_up q) m.waiting came sends.sent m'.waiting (times link tries)) up sends.which in
                  subst (λ a. IsSent (is_given_up q) a link (past ++ more) ((f.sent ++ sends.sent) ++ m'.waiting)) (sym (ap (λ y. y.added) now))
                  (which_here (is_given_up q) link past part tries f.sent m.waiting came sends.sent m'.waiting was g (ap adds (sym e))))
                  (λ (e : link ≢ source).
                  let same : m'.added ≡ m.added = ap (λ y. y.added) (elsewhere kept source link new e) ∙ ap (λ y. y.added) (sent.kept link) in
                  let other : IsElsewhere link part = (source, (λ k. e (sym k)), inl refl) in
                  subst (λ a. IsSent (is_given_up q) a link (past ++ more) ((f.sent ++ sends.sent) ++ m'.waiting)) (sym same)
                  (which_more (is_given_up p.0) (is_given_up q) m.added link past (part ∷ []) tries f.sent m.waiting came sends.sent m'.waiting f.which sends.which (sym (append-nil came))
                  ((λ k. e (sym (adds_same source link k))), tt) (λ up. inr (other, tt)) often))
                  (same_or link source))
                  (λ h. down_more (taken_in link past) (taken_in link more) (f.down (sym (downs link) ∙ h))));
            },
          );
    }

-- ---- the desk

pub took_one : (old new : Row) (item : Item) → queues_of new ≡ queues_of old → TakesItem old item new → HasTaken old (item ∷ []) new
took_one old new item same taken = (
  same,
  λ source e here.
      ⊎_elim
      (λ (h : (source ≡ item.source) × (_ ≡ e)). (
        taken.0,
        subst (λ i. get_elem? old i ≡ some taken.0) (sym h.0) taken.1,
        sym (ap (λ (y : EndView What). y.seen.taken) h.1) ∙ ap (λ xs. taken.0.seen.taken ++ xs) (sym (whats_here source item (sym h.0))),
      ))
      (λ (h : (source ≢ item.source) × (get_elem? old source ≡ some e)). (
        e,
        h.1,
        sym (append-nil e.seen.taken) ∙ ap (λ xs. e.seen.taken ++ xs) (sym (whats_else source item (λ k. h.0 (sym k)))),
      ))
      (at_set old item.source source _ e (ap (λ r. get_elem? r source) (sym taken.2) ∙ here)),
)

none_taken : (link : ℕ) (tries : List ℕ) (ws : List What) → ws ++ taken_in link (refusals tries) ≡ ws
none_taken link [] ws = append-nil ws
none_taken link (at ∷ tries) ws = none_taken link tries ws

pub course_taken : (old : State) (desk : Row) (c : Controller) (putters : List PutterView) (kept : List Mark) (tries : List ℕ) (item : Item) (b : Bool) → IsSettled old
    → queues_of desk ≡ queues_of old.desk → TakesItem old.desk item desk → c ≡ (words.step old.controller (Take item)).next
    → SendsAll old.putters old.marks (words.step old.controller (Take item)).outs tries putters kept → (0 < old.ended → (words.step old.controller (Take item)).outs ≡ [])
    → (b ≡ true → item.what ≡ whats.Down) → item.source < length kept → item.source < length old.putters
    → Advances [] old (record (stepped_to old c putters (noted b item.source kept) old.gathered) { desk = desk })
course_taken old desk c putters kept tries item b settled queues taken next sent quiet is_down room known =
    let s : Step = Take item in
    let after : Controller = (words.step old.controller s).next in
    let outs : List Out = (words.step old.controller s).outs in record {
      moves = takes item ∷ tried tries;
      controller = next ∙ ap (λ (ss : List Step). (over after ss).next) (sym (steps_tried tries));
      desk = subst (λ is. HasTaken old.desk (item ∷ (is ++ [])) desk) (sym (taken_tried tries)) (took_one old.desk desk item queues taken);
      time = let t = ap ticked (steps_tried tries) in omega arith;
      count = sent.count;
      of_links = subst (λ (ss : List Step). AreOfLinks (length old.putters) ss) (sym (one_step s tries)) (known, tt);
      down = λ link h. down_noted b item.source kept link room (ap (λ y. y.down) (sent.kept link) ∙ h);
      links = λ link q here.
          let p = sent.each link q here in
          let m : Mark = mark_at old.marks link in
          let mid : Mark = mark_at kept link in
          let m' : Mark = mark_at (noted b item.source kept) link in
          let came : List Frame = frames_to link outs in
          let part : Part = record { move = takes item; frames = came } in
          let more : List Part = part ∷ refusals tries in
          let ws : List What = taken_in link more in
          let here_ws : ws ≡ whats_of link (item ∷ []) = taken_in_both link (part ∷ []) (refusals tries) ∙ none_taken link tries (whats_of link (item ∷ [])) in
          let wait : m'.waiting ≡ mid.waiting = noted_same (λ y. y.waiting) (λ y. refl) b item.source kept link room in
          let sends : Sends p.0 m.waiting came (times link tries) q m'.waiting = subst (λ (l : List Frame). Sends p.0 m.waiting came (times link tries) q l) (sym wait) p.2 in
          let same : m'.added ≡ m.added = noted_same (λ y. y.added) (λ y. refl) b item.source kept link room ∙ ap (λ y. y.added) (sent.kept link) in (
            p.0,
            p.1,
            record {
              queue = p.2.queue;
              given_up = remains_up (is_given_up p.0) (is_given_up q) m.waiting came p.2.sent mid.waiting (times link tries) p.2.which;
              fits = λ past f.
                  let ts : List What = taken_in link past in
                  subst (λ (ps : List Part). Fits (ended_of old link) q m' link (past ++ part ∷ ps)) (sym (parts_tried link after tries))
                  (fits_on (ended_of old link) p.0 q m m' link past more came (times link tries) sends (refusals_behind link (part ∷ []) tries refl) (quiet_of old link outs quiet) f
                  (λ often. subst (λ a. IsSent (is_given_up q) a link (past ++ more) ((f.sent ++ sends.sent) ++ m'.waiting)) (sym same)
                  (which_more (is_given_up p.0) (is_given_up q) m.added link past (part ∷ []) tries f.sent m.waiting came sends.sent m'.waiting f.which sends.which (sym (append-nil came))
                  (takes_other item link, tt) (λ up. inl (settled link p.0 p.1 up)) often))
                  (λ h.
                  ⊎_elim (λ (d : mid.down ≡ true). down_more ts ws (f.down (sym (ap (λ y. y.down) (sent.kept link)) ∙ d)))
                  (λ (d : (b ≡ true) × (link ≡ item.source)). let down_here : HasDown (ts ++ ws) = (
                    ts,
                    [],
                    ap (λ xs. ts ++ xs) (here_ws ∙ whats_here link item (sym d.1) ∙ ap (λ w. w ∷ []) (is_down d.0)),
                  ) in down_here)
                  (noted_down b item.source kept link room h)));
            },
          );
    }

-- ---- what holds between calls

pub valid_on : (s : Step) (old new : State) → IsValid old → DoesStep s old new → IsValid new
valid_on s old new valid does =
    let d : new.desk ≡ old.desk = ap (λ y. y.desk) does.kept in
    let e : new.ended ≡ old.ended = ap (λ y. y.ended) does.kept in record {
      sources = ap (λ r. length r) d ∙ valid.sources ∙ sym does.sent.count;
      marks = does.sent.marks ∙ valid.marks ∙ sym does.sent.count;
      rest = λ h. ap (λ c. is_at_rest c) does.controller ∙ (rests old.controller s (valid.rest (omega arith))).1;
    }

-- ---- a step

pub does_nothing : (s : Step) (old : State) (c : Controller) (before outs : List Out) → IsValid old → before ≡ [] → c ≡ (words.step old.controller s).next → outs ≡ before ++ (words.step old.controller s).outs
    → outs ≡ [] → DoesStep s old (record old { controller = c })
does_nothing s old c before outs valid first next put none =
    let nothing : (words.step old.controller s).outs ≡ [] = sym (put ∙ ap (λ b. b ++ (words.step old.controller s).outs) first) ∙ none in
    record {
      controller = next;
      tries = [];
      sent = subst (λ os. SendsAll old.putters old.marks os [] old.putters old.marks) (sym nothing) (all_none old.putters old.marks);
      quiet = λ h. nothing;
      kept = refl;
    }

pub does_sent : (s : Step) (old new : State) (c : Controller) (before outs : List Out) (tries : List ℕ) → IsValid old → before ≡ [] → c ≡ (words.step old.controller s).next
    → outs ≡ before ++ (words.step old.controller s).outs → SendsAll old.putters old.marks outs tries new.putters new.marks
    → new ≡ record old { controller = c; putters = new.putters; marks = new.marks } → DoesStep s old new
does_sent s old new c before outs tries valid first next put sent is =
    let all : outs ≡ (words.step old.controller s).outs = put ∙ ap (λ b. b ++ (words.step old.controller s).outs) first in record {
      controller = ap (λ y. y.controller) is ∙ next;
      tries = tries;
      sent = subst (λ os. SendsAll old.putters old.marks os tries new.putters new.marks) all sent;
      quiet = λ h. (rests old.controller s (valid.rest h)).0;
      kept = is ∙ ap (λ k. record old { controller = k; putters = new.putters; marks = new.marks }) (sym (ap (λ y. y.controller) is));
    }

-- ---- the same, of a state before and after the step

pub step_ticked : (old mid : State) (ms gathered : ℕ) →
    IsSettled old →
    DoesStep (Tick ms) old mid →
    gathered + ms ≡ mid.gathered →
    Advances [] old (record mid { gathered = gathered })
step_ticked old mid ms gathered settled does time =
    subst (λ (y : State). Advances [] old (record y { gathered = gathered })) (sym does.kept)
    (course_ticked old mid.controller mid.putters mid.marks does.tries ms gathered settled does.controller does.sent does.quiet (time ∙ ap (λ y. y.gathered) does.kept))

pub step_added : (old mid : State) (source : ℕ) → DoesStep (Take (record { source = source; what = whats.Down })) old mid → IsPending old source → IsValid old
    → Advances [] old (record mid { marks = with_added source mid.marks })
step_added old mid source does pending valid =
    subst (λ (y : State). Advances [] old (record y { marks = with_added source mid.marks })) (sym does.kept)
    (course_added old mid.controller mid.putters mid.marks does.tries source does.controller does.sent does.quiet pending
    (let h = pending.there in let e = valid.marks in let k = does.sent.marks in omega arith))

pub step_taken : (old : State) (desk : Row) (mid : State) (item : Item) (b : Bool) → IsSettled old → queues_of desk ≡ queues_of old.desk → TakesItem old.desk item desk
    → DoesStep (Take item) (record old { desk = desk }) mid → (b ≡ true → item.what ≡ whats.Down) → item.source < length mid.marks → item.source < length old.putters
    → Advances [] old (record mid { marks = noted b item.source mid.marks })
step_taken old desk mid item b settled queues taken does is_down room known =
    subst (λ (y : State). Advances [] old (record y { marks = noted b item.source mid.marks })) (sym does.kept)
    (course_taken old desk mid.controller mid.putters mid.marks does.tries item b settled queues taken does.controller does.sent does.quiet is_down room known)

-- an item was taken whose step ran out of memory
pub course_lost : (old : State) (desk : Row) (item : Item) → queues_of desk ≡ queues_of old.desk → TakesItem old.desk item desk → MayWantMemory (Take item) old.controller
    → AdvancesPartly old (record old { desk = desk })
course_lost old desk item queues taken wants = (
  item ∷ [],
  omega arith,
  course_still (item ∷ []) old (record old { desk = desk }) refl refl refl (λ link. refl) (took_one old.desk desk item queues taken) refl,
  record {
    step = Take item;
    wants = wants;
    which = refl;
  },
)

-- No outbox was given up at an item's step: what was settled is so.
pub settled_taken : (s : Step) (old : State) (desk : Row) (mid : State) (b : Bool) (at : ℕ) (ms : List Mark) → IsSettled old → DoesStep s (record old { desk = desk }) mid
    → RemainOpen old.putters mid.putters → at < length mid.marks → ms ≡ noted b at mid.marks → IsSettled (record mid { marks = ms })
settled_taken s old desk mid b at ms settled does remain room marks link p here up =
    let was = remain link p here up in
    ap (λ y. (mark_at y link).added) marks ∙ noted_same (λ y. y.added) (λ y. refl) b at mid.marks link room ∙ ap (λ y. y.added) (does.sent.kept link) ∙ settled link was.0 was.1 was.2

-- ---- which link's Down is next

-- each link up to this one
abbrev pub IsSettledTo : ℕ → State → Type 0
IsSettledTo n s = EachAt s.putters (λ link p. link < n → is_given_up p ≡ true → (mark_at s.marks link).added ≡ true)

and_true : (a b : Bool) → (a && not b) ≡ true → (a ≡ true) × (b ≡ false)
and_true true false h = (refl, refl)
and_true true true h = absurd (false≢true h)
and_true false b h = absurd (false≢true h)

and_false : (a b : Bool) → (a && not b) ≡ false → a ≡ true → b ≡ true
and_false true true h up = refl
and_false true false h up = absurd (false≢true (sym h))
and_false false b h up = absurd (false≢true up)

pub mark_here : (ms : List Mark) (at : ℕ) (m : Mark) → at < length ms → m ≡ get_or ms at m → mark_at ms at ≡ m
mark_here ms at m room is = sym (get_or_read ms at m room is unmarked)

same_putter : (ps : List PutterView) (at : ℕ) (p q : PutterView) → get_elem? ps at ≡ some p → get_elem? ps at ≡ some q → p ≡ q
same_putter ps at p q e f = some-injective p q (sym e ∙ f)

pub is_pending : (s : State) (link at at' : ℕ) (p : PutterView) (m : Mark) → IsValid s → at ≡ link → at' ≡ link → link < length s.putters → p ≡ get_or s.putters at p → m ≡ get_or s.marks at' m
    → (is_given_up p && not m.added) ≡ true → IsPending s link
is_pending s link at at' p m valid is is' room putter mark pends =
    let e = valid.marks in
    let h = and_true (is_given_up p) m.added pends in
    let marked : mark_at s.marks link ≡ m = sym (ap (λ i. mark_at s.marks i) is') ∙ mark_here s.marks at' m (omega arith) mark in
    let here : get_elem? s.putters at ≡ some p = at_index s.putters at p (omega arith) putter in record {
      there = room;
      added = ap (λ y. y.added) marked ∙ h.1;
      given_up = λ k q there same. ap (λ y. is_given_up y) (same_putter s.putters at q p (subst (λ i. get_elem? s.putters i ≡ some q) (same ∙ sym is) there) here) ∙ h.0;
    }

pub not_pending : (s : State) (link at at' : ℕ) (p : PutterView) (m : Mark) → IsValid s → at ≡ link → at' ≡ link → link < length s.putters → p ≡ get_or s.putters at p → m ≡ get_or s.marks at' m
    → (is_given_up p && not m.added) ≡ false → IsSettledTo link s → IsSettledTo (link + 1) s
not_pending s link at at' p m valid is is' room putter mark pends so_far k q there below up =
    let e = valid.marks in
    ⊎_elim
    (λ (h : k ≡ link).
    let here : get_elem? s.putters at ≡ some p = at_index s.putters at p (omega arith) putter in
    let same : q ≡ p = same_putter s.putters at q p (subst (λ i. get_elem? s.putters i ≡ some q) (h ∙ sym is) there) here in
    ap (λ i. (mark_at s.marks i).added) (h ∙ sym is') ∙ ap (λ y. y.added) (mark_here s.marks at' m (omega arith) mark)
    ∙ and_false (is_given_up p) m.added pends (sym (ap (λ y. is_given_up y) same) ∙ up))
    (λ (h : k ≢ link). so_far k q there (omega arith) up) (same_or k link)

pub all_settled : (s : State) (n : ℕ) → length s.putters ≤ n → IsSettledTo n s → IsSettled s
all_settled s n all so_far link p here up = so_far link p here (let h = within s.putters link p here in omega arith) up

-- ---- the same, as the code has it

pub valid_marked : (s : State) (ms : List Mark) → IsValid s → length ms ≡ length s.marks → IsValid (record s { marks = ms })
valid_marked s ms valid same = record { sources = valid.sources; marks = same ∙ valid.marks; rest = valid.rest }

pub length_added : (source : ℕ) (ms : List Mark) → length (with_added source ms) ≡ length ms
length_added source ms = length_set ms source (record (mark_at ms source) { added = true })

pub code_added : (old mid : State) (source at : ℕ) (ms : List Mark) → DoesStep (Take (record { source = source; what = whats.Down })) old mid → IsPending old source → IsValid old → at ≡ source
    → ms ≡ with_added at mid.marks → Advances [] old (record mid { marks = ms })
code_added old mid source at ms does pending valid is marks =
    subst (λ y. Advances [] old (record mid { marks = y })) (sym (marks ∙ ap (λ i. with_added i mid.marks) is)) (step_added old mid source does pending valid)

pub code_taken : (old : State) (desk : Row) (mid : State) (item : Item) (b : Bool) (at : ℕ) (ms : List Mark) → IsSettled old → queues_of desk ≡ queues_of old.desk → TakesItem old.desk item desk
    → DoesStep (Take item) (record old { desk = desk }) mid → (b ≡ true → item.what ≡ whats.Down) → IsValid old → at ≡ item.source → ms ≡ noted b at mid.marks
    → Advances [] old (record mid { marks = ms })
code_taken old desk mid item b at ms settled queues taken does is_down valid is marks =
    let room = within old.desk item.source taken.0 taken.1 in
    let e = valid.sources in
    let f = valid.marks in
    let m = does.sent.marks in
    subst (λ y. Advances [] old (record mid { marks = y })) (sym (marks ∙ ap (λ i. noted b i mid.marks) is))
    (step_taken old desk mid item b settled queues taken does is_down (omega arith) (omega arith))

pub room_for : (old : State) (desk : Row) (mid : State) (item : Item) → TakesItem old.desk item desk → DoesStep (Take item) (record old { desk = desk }) mid → IsValid old
    → item.source < length mid.marks
room_for old desk mid item taken does valid =
    let room = within old.desk item.source taken.0 taken.1 in
    let e = valid.sources in
    let f = valid.marks in
    let m : length mid.marks ≡ length old.marks = does.sent.marks in omega arith

pub valid_taken : (old : State) (desk : Row) (item : Item) →
    TakesItem old.desk item desk →
    IsValid old →
    IsValid (record old { desk = desk })
valid_taken old desk item taken valid = record {
  sources = ap (λ r. length r) taken.2 ∙ length_set old.desk item.source _ ∙ valid.sources;
  marks = valid.marks;
  rest = valid.rest;
}
