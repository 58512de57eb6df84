-- SPDX-License-Identifier: MIT OR Apache-2.0
-- The states of the call worker, and the effect of its calls on these states.
use Rattle.std.specs.Prelude.{◌≡◌, ℕ, ◌+◌, ◌<◌, ◌≤◌, nat_lt, ◌&&◌, not}
use Rattle.std.specs.Prelude.{Bool, true, false, List, []}
use Rattle.std.specs.Prelude.{◌∷◌, ◌++◌, length, slice_index_or, slice_set, Result}
use Rattle.std.specs.Prelude.{MatchResult}
use mathlib.Core.Option.{some}
use lib.ListN.{get_elem?}
use Rattle.controller_worker.specs.declared.limits.TheConstants.{TICK_MS}
use Rattle.controller_worker.specs.declared.mark.Mark.{Mark}
use Rattle.controller_worker.specs.Links.{HasDown, is_given_up, lines}
use Rattle.controller_worker.specs.Moves.{IsSent, Move, Part, parts_of, refusals_in, steps_of}
use Rattle.controller_worker.specs.Moves.{taken_in, taken_of, times}
use Rattle.controller_worker.specs.Steps.{AreOfLinks, frames_to, over, ticked}
use Rattle.controller_worker.specs.Stopping.{StopsAt}
use Rattle.controller_worker.specs.Taking.{HasTaken}
use Rattle.conn_messages.specs.declared.out.Out.{Out}
use Rattle.controller_model.specs.declared.step.Step.{Step}
use Rattle.controller.specs.Rest.{is_at_rest}
use Rattle.controller_model.specs.Controller.{Controller}
use Rattle.controller_model.specs.Life as words
use Rattle.ipa_framing.specs.declared.frame.Frame.{Frame}
use Rattle.ruled_relay.specs.declared.item.Item.{Item}
use Rattle.ruled_relay.specs.declared.outbox.Line.{Line}
use Rattle.ruled_relay.specs.declared.outbox.Line.TheVariants as marks
use Rattle.ruled_relay.specs.Outbox.{PutterView}
use Rattle.ruled_relay.specs.Row.{EachAt, Row}

-- ---- the outbox of one link

abbrev pub end_mark : Bool → List Line
end_mark false = []
end_mark true = marks.End ∷ []

-- the outbox has refused at most this many frames in a row, both now and at any time before
abbrev pub IsCounted : ℕ → PutterView → Type 0
IsCounted most p = (p.refused ≤ most) × (p.refusals ≤ most)

-- Which frames were sent and which still wait, among the frames that waited before (`waited`) and
-- those that arrived later (`came`). The first two values say whether the outbox was given up
-- before, and whether it is given up now. If the outbox is open, each frame was sent or waits. If
-- the outbox was given up meanwhile, the frames before a refused frame were sent, and no frame
-- waits. If the outbox had been given up before, no frame is tried.
abbrev pub AreSent : Bool → Bool → List Frame → List Frame → List Frame → List Frame → ℕ
    → Type 0
AreSent false false waited came sent waiting refusals = sent ++ waiting ≡ waited ++ came
AreSent false true waited came sent waiting refusals =
    (refused : Frame) × (rest : List Frame) × (waited ++ came ≡ sent ++ refused ∷ rest)
    × (waiting ≡ []) × (0 < refusals)
AreSent true true waited came sent waiting refusals =
    (sent ≡ []) × (waiting ≡ waited) × (refusals ≡ 0)
AreSent true false waited came sent waiting refusals = ⊥

-- the change of one outbox and its waiting frames when these frames arrive and the outbox refuses
-- frames this many times
pub record Sends (old : PutterView) (waited came : List Frame) (refusals : ℕ)
    (new : PutterView) (waiting : List Frame) : Type 0 where
  pub queue : new.queue ≡ old.queue
  pub sent : List Frame
  pub put : new.put ≡ old.put ++ lines sent
  pub which : AreSent (is_given_up old) (is_given_up new) waited came sent waiting refusals
  pub counted : (before : ℕ) → IsCounted before old → IsCounted (before + refusals) new

abbrev pub SendsSome : PutterView → List Frame → List Frame → PutterView → List Frame
    → Type 0
SendsSome old waited came new waiting =
    (refusals : ℕ) × Sends old waited came refusals new waiting

-- each outbox that is given up now was given up before
abbrev pub RemainOpen : List PutterView → List PutterView → Type 0
RemainOpen old new = EachAt new (λ link p. is_given_up p ≡ true →
    (was : PutterView) × (get_elem? old link ≡ some was) × (is_given_up was ≡ true))

abbrev pub unmarked : Mark
unmarked = record { added = false; down = false; waiting = [] }

abbrev pub mark_at : List Mark → ℕ → Mark
mark_at ms link = slice_index_or ms link unmarked

-- The change of all outboxes when these outputs arrive, each after the waiting frames of its link.
-- `tries` lists the link of each refusal, in order.
pub record SendsAll (old : List PutterView) (before : List Mark) (outs : List Out)
    (tries : List ℕ) (new : List PutterView) (after : List Mark) : Type 0 where
  pub count : length new ≡ length old
  pub marks : length after ≡ length before
  pub kept : (link : ℕ) → mark_at after link
      ≡ record (mark_at before link) { waiting = (mark_at after link).waiting }
  pub each : EachAt new (λ link p. (was : PutterView) × (get_elem? old link ≡ some was)
      × Sends was (mark_at before link).waiting (frames_to link outs) (times link tries)
      p (mark_at after link).waiting)

-- ---- the state of the worker

pub record State : Type 0 where
  pub controller : Controller
  pub desk : Row
  pub putters : List PutterView
  pub marks : List Mark
  -- the number of outboxes that have the end mark; they are those of the first links
  pub ended : ℕ
  -- the milliseconds that the clock has told in all, and those among them that no tick has passed
  -- on yet
  pub told : ℕ
  pub gathered : ℕ

-- the marks once an item of this source was taken; the value says whether the item is a `Down`
abbrev pub noted : Bool → ℕ → List Mark → List Mark
noted false source ms = ms
noted true source ms = slice_set ms source (record (mark_at ms source) { down = true })

-- the marks once the `Down` of this source was added
abbrev pub with_added : ℕ → List Mark → List Mark
with_added source ms = slice_set ms source (record (mark_at ms source) { added = true })

-- What holds of one link after the moves so far: which frames were put and which wait. No frame
-- waits once the end mark was put, and no frame waits for an outbox that was given up.
pub record Fits (ended : Bool) (p : PutterView) (m : Mark) (link : ℕ)
    (parts : List Part) : Type 0 where
  pub sent : List Frame
  pub put : p.put ≡ lines sent ++ end_mark ended
  pub which : IsSent (is_given_up p) m.added link parts (sent ++ m.waiting)
  pub none : (ended ≡ true → m.waiting ≡ []) × (is_given_up p ≡ true → m.waiting ≡ [])
  pub counted : IsCounted (refusals_in link parts) p
  pub down : m.down ≡ true → HasDown (taken_in link parts)

-- whether the outbox of a link has the end mark
abbrev pub ended_of : State → ℕ → Bool
ended_of s link = nat_lt link s.ended

-- ---- the effect of calls

-- The step was done, and each of its outputs was sent or waits. The step has no outputs if an
-- outbox has its end mark already.
pub record DoesStep (s : Step) (old new : State) : Type 0 where
  pub controller : new.controller ≡ (words.step old.controller s).next
  pub tries : List ℕ
  pub sent : SendsAll old.putters old.marks (words.step old.controller s).outs tries
      new.putters new.marks
  pub quiet : 0 < old.ended → (words.step old.controller s).outs ≡ []
  pub kept : new ≡ record old {
    controller = new.controller;
    putters = new.putters;
    marks = new.marks;
  }

-- If the link's outbox fitted (`Fits`) some moves before, it fits these moves followed by `parts`
-- now. An outbox that was given up remains given up.
pub record Extends (old new : State) (link : ℕ) (parts : List Part)
    (before after : PutterView) : Type 0 where
  pub queue : after.queue ≡ before.queue
  pub given_up : is_given_up before ≡ true → is_given_up after ≡ true
  pub fits : (past : List Part)
      → Fits (ended_of old link) before (mark_at old.marks link) link past
      → Fits (ended_of new link) after (mark_at new.marks link) link (past ++ parts)

-- The worker went from one state to a later one by some moves. The items `last` were taken after
-- those of the moves; no step was done for them.
pub record Advances (last : List Item) (old new : State) : Type 0 where
  pub moves : List Move
  pub controller : new.controller ≡ (over old.controller (steps_of moves)).next
  pub desk : HasTaken old.desk (taken_of moves ++ last) new.desk
  pub time : new.told + old.gathered ≡ old.told + ticked (steps_of moves) + new.gathered
  pub count : length new.putters ≡ length old.putters
  pub of_links : AreOfLinks (length old.putters) (steps_of moves)
  pub down : (link : ℕ)
      → (mark_at old.marks link).down ≡ true → (mark_at new.marks link).down ≡ true
  pub links : EachAt new.putters (λ link p.
      (before : PutterView) × (get_elem? old.putters link ≡ some before)
      × Extends old new link (parts_of link old.controller moves) before p)

-- like `Advances`, up to a step that ran out of memory
abbrev pub AdvancesPartly : State → State → Type 0
AdvancesPartly old new = (last : List Item) × (length last ≤ 1) × Advances last old new
    × StopsAt last new.gathered new.putters new.controller

-- like `Advances`, without a step and without a question to the clock
abbrev pub AdvancesAlone : State → State → Type 0
AdvancesAlone old new = (course : Advances [] old new) × (steps_of course.moves ≡ [])
    × (new.gathered ≡ old.gathered)

-- `Advances` if the result is `Ok`; `AdvancesPartly` if the result is `Err`
abbrev pub AdvancesBy : {X E : Type 0} → Result X E → State → State → Type 0
AdvancesBy result old new =
    MatchResult result (λ _. Advances [] old new) (λ _. AdvancesPartly old new)

-- ---- conditions that hold between calls

-- Each source has an outbox and a mark. Once an outbox has its end mark, the controller is at rest.
pub record IsValid (s : State) : Type 0 where
  pub sources : length s.desk ≡ length s.putters
  pub marks : length s.marks ≡ length s.putters
  pub rest : 0 < s.ended → is_at_rest s.controller ≡ true

-- for each link whose outbox was given up, its `Down` was added
abbrev pub IsSettled : State → Type 0
IsSettled s =
    EachAt s.putters (λ link p. is_given_up p ≡ true → (mark_at s.marks link).added ≡ true)

-- whether the outbox was given up and the `Down` of its link wasn't added
abbrev pub pends : PutterView → Mark → Bool
pends p m = is_given_up p && not m.added

-- the link exists, its outbox was given up, and its `Down` wasn't added
pub record IsPending (s : State) (link : ℕ) : Type 0 where
  pub there : link < length s.putters
  pub added : (mark_at s.marks link).added ≡ false
  pub given_up : EachAt s.putters (λ at p. at ≡ link → is_given_up p ≡ true)

-- a `Down` of each source was taken
abbrev pub AreAllDown : State → Type 0
AreAllDown s = (link : ℕ) → link < length s.putters → (mark_at s.marks link).down ≡ true

-- what holds once a `Down` of each source was taken
pub record Finishes (s : State) : Type 0 where
  pub settled : IsSettled s
  pub down : AreAllDown s
  pub gathered : s.gathered < TICK_MS

-- between the two states, only end marks were put
pub record Ends (old new : State) : Type 0 where
  pub kept : new ≡ record old { putters = new.putters; ended = new.ended }
  pub count : length new.putters ≡ length old.putters
  pub links : EachAt new.putters (λ link p.
      (before : PutterView) × (get_elem? old.putters link ≡ some before)
      × Extends old new link [] before p)
  pub settled : IsSettled old → IsSettled new

-- if the value is true, the end mark was put after all other lines; if it is false, the end mark
-- was refused and nothing changed
abbrev pub PutsEnd : PutterView → Bool → PutterView → Type 0
PutsEnd old true new = (new.queue ≡ old.queue) × (new.refusals ≡ old.refusals)
    × (new.put ≡ old.put ++ marks.End ∷ []) × (new.refused ≡ 0)
PutsEnd old false new = new ≡ old
