-- SPDX-License-Identifier: MIT OR Apache-2.0
-- The items of links, merged in the order of the steps, are these steps; and what one link makes of
-- its octets.
use Rattle.std.proofs.Common.{◌≡◌, ◌≢◌, ◌⊎◌, ℕ, zero, suc, ◌/◌, ◌%◌, ◌==◌, ◌≤◌, if◌then◌else◌, Bool, true, false, List, [], ◌∷◌, ◌++◌, drop, length, map, Option, Some, None, refl, sym, ap, ◌∙◌, subst, append-nil, append_assoc, arith, inl, inr, eqb, ⊎_elim, length-append}
use Rattle.std.proofs.lemmas.Bool.{eq-eqb, ne_eqb}
use Rattle.std.proofs.lemmas.Bool.Decides.{eqb_tells}
use Rattle.std.specs.List.{AllByRecursion, filter}
use Rattle.std.specs.Io.KnownBytes.{Appends, IsAtEnd}
use Rattle.controller_worker.specs.Moves.{Move, steps_of}
use Rattle.controller_worker.specs.Steps.{AreOfLinks, frames_to, items_of, over, whats_of}
use Rattle.controller.proofs.LifeLaws.{new_keeps_laws}
use Rattle.controller_model.specs.declared.step.Step.{Step}
use Rattle.controller_model.specs.declared.step.Step.TheVariants.{Take, Tick}
use Rattle.controller_model.specs.Controller.{Controller, new_controller}
use Rattle.controller_model.specs.Life.{life}
use Rattle.controller_model.specs.LifeLaws.Sending.{IsOctetStep, IsOfOctets, IsSent}
use Rattle.controller_model.proofs.LifeLaws.SoundLife.{life_sends_all}
use Rattle.conn_messages.specs.declared.out.Out.{Out}
use Rattle.ipa_framing.specs.declared.frame.Frame.{Frame}
use Rattle.ipa_framing.specs.Frame.{IsFrame, IsPartial, IsTooLong, Splits, frame_text}
use Rattle.ipa_framing.specs.Framer.{Call, frames_of, new_framer, octets_of}
use Rattle.ipa_framing.specs.Front.{front_of}
use Rattle.ipa_framing.proofs.Stream.{front_again, front_long, front_partial, run_splits, splits_some}
use Rattle.link_workers.specs.declared.fault.IoFault.{IoFault}
use Rattle.link_workers.specs.Reading.{Ends, Parts, frames_text, given}
use Rattle.link_workers.specs.Writing.{AppendsBeginning, WritesFrames}
use Rattle.octets.specs.Element.{AreOctets}
use Rattle.octets.proofs.Grammar.{octets_back, octets_front}
use Rattle.ruled_relay.specs.declared.item.Item.{Item}
use Rattle.ruled_relay.specs.declared.item.What.{What}
use Rattle.ruled_relay.specs.declared.item.What.TheVariants as whats
use Rattle.settings.specs.Parameters.{AreAllowed, Parameters}
use Rattle.station_io.proofs.Moves.{came_is, no_others, sent_is_all, sent_is_first, whats_others}
use Rattle.station_io.specs.Links.{Ended, HasCarried, LinkView, Relays, fault_of}
use Rattle.station_io.specs.Octets.{AreWithDown, Came, Next, Passes, PassesOctets, TakesWhole, behind, came_in, ended_behind, first_frames, first_step, frames_in, from_front, item_of, items_in, merged, octets_put, order_of, time}

-- ---- the frames of octets

from_none : (more : List ℕ → List Frame) (rest : List ℕ) → IsPartial rest ⊎ IsTooLong rest → from_front more (front_of rest) ≡ []
from_none more rest (inl partial) = ap (from_front more) (front_partial rest partial)
from_none more rest (inr long) = ap (from_front more) (front_long rest long)

none_first : (most : ℕ) (rest : List ℕ) → IsPartial rest ⊎ IsTooLong rest → first_frames most rest ≡ []
none_first zero rest stops = refl
none_first (suc most) rest stops = from_none (first_frames most) rest stops

-- frames that are at the front of octets are the first of all
first_behind : (most : ℕ) (fs : List Frame) (rest : List ℕ) → AllByRecursion IsFrame fs → length (frames_text fs ++ rest) ≤ most
    → (left : ℕ) × (first_frames most (frames_text fs ++ rest) ≡ fs ++ first_frames left rest)
first_behind most [] rest each le = (most, refl)
first_behind zero (f ∷ fs) rest each le = absurd (omega (arith, ap length (append_assoc (frame_text f) (frames_text fs) rest), length-append (frame_text f) (frames_text fs ++ rest)))
first_behind (suc most) (f ∷ fs) rest each le =
    let tail : List ℕ = frames_text fs ++ rest in
    let later = first_behind most fs rest each.1 (omega (arith, ap length (append_assoc (frame_text f) (frames_text fs) rest), length-append (frame_text f) tail)) in (
      later.0,
      ap (λ (xs : List ℕ). from_front (first_frames most) (front_of xs)) (append_assoc (frame_text f) (frames_text fs) rest) ∙ ap (from_front (first_frames most)) (front_again f tail each.0)
          ∙ ap (λ (gs : List Frame). f ∷ gs) later.1,
    )

first_in : (octets : List ℕ) (fs : List Frame) (rest : List ℕ) →
    Parts octets fs rest →
    (left : ℕ) × (frames_in octets ≡ fs ++ first_frames left rest)
first_in octets fs rest parts =
    let at = first_behind (length octets) fs rest parts.each (omega (arith, ap length parts.whole)) in
    (at.0, ap (first_frames (length octets)) parts.whole ∙ at.1)

pub all_in : (octets : List ℕ) (fs : List Frame) (rest : List ℕ) →
    Parts octets fs rest →
    IsPartial rest ⊎ IsTooLong rest →
    frames_in octets ≡ fs
all_in octets fs rest parts stops =
    let at = first_in octets fs rest parts in
    at.1 ∙ ap (λ (gs : List Frame). fs ++ gs) (none_first at.0 rest stops) ∙ append-nil fs

-- however octets were cut, the frames given are theirs
pub given_are_in : (calls : List Call) → TakesWhole calls → frames_of calls ≡ frames_in (octets_of calls)
given_are_in calls (left, run, stops) =
    let splits : Splits (octets_of calls) (frames_of calls ++ []) left.octets = run_splits calls new_framer left [] left.octets run (record { whole = refl; each = tt; stops = stops }) in
    sym (all_in (octets_of calls) (frames_of calls ++ []) left.octets (record { whole = splits.whole; each = splits.each }) splits.stops ∙ append-nil (frames_of calls))

-- ---- merged again

whats_first : (link : ℕ) (item : Item) (items : List Item) →
    item.source ≡ link →
    whats_of link (item ∷ items) ≡ item.what ∷ whats_of link items
whats_first link item items e = rw (eq-eqb item.source link e) refl

same_or : (a b : ℕ) → (a ≡ b) ⊎ (a ≢ b)
same_or a b = ⊎_elim (λ (h : (eqb a b ≡ true) × (a ≡ b)). inl h.1) (λ (h : (eqb a b ≡ false) × (a ≢ b)). inr h.1) (eqb_tells a b)

behind_first : (item : Item) (steps : List Step) (link : ℕ) → behind item.source (came_in (Take item ∷ steps)) link ≡ came_in steps link
behind_first item steps link = ⊎_elim same other (same_or link item.source)
  where
    same : link ≡ item.source → behind item.source (came_in (Take item ∷ steps)) link ≡ came_in steps link
    same e = rw (eq-eqb link item.source e) (ap (drop 1) (whats_first link item (items_of steps) (sym e)))

    other : link ≢ item.source → behind item.source (came_in (Take item ∷ steps)) link ≡ came_in steps link
    other e = rw (ne_eqb link item.source e) (whats_others link item (items_of steps) (λ h. e (sym h)))

merged_same : (order : List Next) (a b : Came) → ((link : ℕ) → a link ≡ b link) → merged order a ≡ merged order b
merged_same order a b same = ap (merged order) (λ i link. same link i)

pub merged_again : (steps : List Step) → merged (order_of steps) (came_in steps) ≡ steps
merged_again [] = refl
merged_again (Tick ms ∷ steps) = ap (λ (ss : List Step). Tick ms ∷ ss) (merged_again steps)
merged_again (Take item ∷ steps) =
    ap (λ (ws : List What). first_step item.source ws ++ merged (order_of steps) (behind item.source (came_in (Take item ∷ steps)))) (whats_first item.source item (items_of steps) refl)
    ∙ ap (λ (ss : List Step). Take item ∷ ss) (merged_same (order_of steps) (behind item.source (came_in (Take item ∷ steps))) (came_in steps) (behind_first item steps) ∙ merged_again steps)

-- ---- one link

no_fault : (reading writing : Option IoFault) (given_up : Bool) →
    fault_of reading writing given_up ≡ None →
    (reading ≡ None) × (writing ≡ None) × (given_up ≡ false)
no_fault None None false is = (refl, refl, refl)
no_fault None None true is = absurd (cc is)
no_fault None (Some fault) given_up is = absurd (cc is)
no_fault (Some fault) writing given_up is = absurd (cc is)

-- the octets of first frames begin the octets of all
text_begins : (all sent more : List Frame) → all ≡ sent ++ more → frames_text all ≡ frames_text sent ++ frames_text more
text_begins all sent more is = ap (λ (fs : List Frame). frames_text fs) is ∙ text_both sent more
  where
    text_both : (xs ys : List Frame) → frames_text (xs ++ ys) ≡ frames_text xs ++ frames_text ys
    text_both [] ys = refl
    text_both (x ∷ xs) ys = ap (λ (os : List ℕ). frame_text x ++ os) (text_both xs ys) ∙ sym (append_assoc (frame_text x) (frames_text xs) (frames_text ys))

beginning_of : (writing : Option IoFault) (sent : List Frame) (more : List ℕ) (old new : Option (List ℕ)) → WritesFrames writing sent old new
    → AppendsBeginning old new (frames_text sent ++ more)
beginning_of None sent more old new all = (frames_text sent, more, refl, all.1)
beginning_of (Some fault) sent more old new (why, part) =
    (part.0, part.1 ++ more, ap (λ (os : List ℕ). os ++ more) part.2 ∙ append_assoc part.0 part.1 more, part.3)

whole_of : (writing : Option IoFault) (sent : List Frame) (old new : Option (List ℕ)) →
    writing ≡ None →
    WritesFrames writing sent old new →
    Appends old new (frames_text sent)
whole_of writing sent old new w writes = (subst (λ (o : Option IoFault). WritesFrames o sent old new) w writes).1

at_end : (reading : Option IoFault) (rest : List ℕ) (now : Option (List ℕ)) →
    reading ≡ None →
    Ends reading rest now →
    IsPartial rest × IsAtEnd now
at_end reading rest now r ends = subst (λ (o : Option IoFault). Ends o rest now) r ends

pub passes : (start : Controller) (moves : List Move) (limit number : ℕ) (old : LinkView) (now : Ended)
    → HasCarried start moves limit number old now.link now.fault → Passes start (order_of (steps_of moves)) (came_in (steps_of moves)) number old now
passes start moves limit number old now c =
    let steps : List Step = steps_of moves in
    let outs : List Step → List Frame = λ ss. frames_to number (over start ss).outs in
    let again : (F : List ℕ → Type 0) → F (frames_text (outs steps)) → F (octets_put start (order_of steps) (came_in steps) number) =
    λ F h. subst (λ (ss : List Step). F (frames_text (outs ss))) (sym (merged_again steps)) h in
    let all = first_in c.octets c.frames c.rest c.parts in
    let came : AreWithDown c.given_up (ended_behind c.frames) (came_in steps number) =
    subst (λ (ws : List What). AreWithDown c.given_up ws (came_in steps number)) c.items (came_is c.given_up number start moves c.sent c.which) in
    let first = sent_is_first c.given_up number start moves c.sent c.which in
    let well : now.fault ≡ None → (c.reading ≡ None) × (c.writing ≡ None) × (c.given_up ≡ false) = λ none. no_fault c.reading c.writing c.given_up (sym c.why ∙ none) in record {
      octets = c.octets;
      read = c.read;
      first = (c.frames, first_frames all.0 c.rest, c.given_up, all.1, came);
      part = again (λ text. AppendsBeginning old.written now.link.written text)
          (subst (λ (text : List ℕ). AppendsBeginning old.written now.link.written text) (sym (text_begins (outs steps) c.sent first.0 first.1))
          (beginning_of c.writing c.sent (frames_text first.0) old.written now.link.written c.writes));
      end = λ none. (at_end c.reading c.rest now.link.unread (well none).0 c.ends).1;
      items = λ none.
          let w = well none in
          subst (λ (b : Bool). AreWithDown b (ended_behind c.frames) (came_in steps number)) w.2 came
          ∙ ap ended_behind (sym (all_in c.octets c.frames c.rest c.parts (inl (at_end c.reading c.rest now.link.unread w.0 c.ends).0)));
      got = λ none.
          let w = well none in
          let sent = sent_is_all c.given_up number start moves c.sent w.2 c.which in
          again (λ text. Appends old.written now.link.written text)
          (subst (λ (fs : List Frame). Appends old.written now.link.written (frames_text fs)) (sym sent)
          (whole_of c.writing c.sent old.written now.link.written w.1 c.writes));
    }

-- ---- all links

pub octets_pass : (start : Controller) (limit : ℕ) (links : List LinkView) (ended : List Ended) →
    Relays start limit links ended →
    PassesOctets start links ended
octets_pass start limit links ended relays =
    let moves : List Move = relays.1.2 in
    let steps : List Step = steps_of moves in
    let of_links : AreOfLinks (length links) steps = subst (λ (ss : List Step). AreOfLinks (length links) ss) relays.1.3 relays.1.1 in (
      order_of steps,
      came_in steps,
      λ is. new_keeps_laws start (merged (order_of steps) (came_in steps)) is,
      λ number past. no_others (length links) number (items_of steps) of_links past,
      λ number old now is_old is_now. passes start moves limit number old now (relays.1.4 number old now is_old is_now),
    )

-- ---- the frames that are put can be written

frames_are_octets : (fs : List Frame) → AreOctets (frames_text fs) → AllByRecursion IsOfOctets (given fs)
frames_are_octets [] octets = tt
frames_are_octets (f ∷ fs) octets = (
  octets_back ((length f.body / 256) ∷ (length f.body % 256) ∷ f.stream ∷ []) f.body (octets_front (frame_text f) (frames_text fs) octets),
  frames_are_octets fs (octets_back (frame_text f) (frames_text fs) octets),
)

all_with_down : (ws : List What) → AllByRecursion IsOfOctets ws → AllByRecursion IsOfOctets (ws ++ whats.Down ∷ [])
all_with_down [] all = (tt, tt)
all_with_down (w ∷ ws) all = (all.0, all_with_down ws all.1)

items_are_octets : (octets : List ℕ) → AreOctets octets → AllByRecursion IsOfOctets (items_in octets)
items_are_octets octets are =
    let split = splits_some octets are in
    let same : frames_in octets ≡ split.0 = all_in octets split.0 split.1 (record { whole = split.2.whole; each = split.2.each }) split.2.stops in
    all_with_down (given (frames_in octets))
    (subst (λ (fs : List Frame). AllByRecursion IsOfOctets (given fs)) (sym same) (frames_are_octets split.0 (octets_front (frames_text split.0) split.1 (subst AreOctets split.2.whole are))))

first_are_octets : (link : ℕ) (ws : List What) (steps : List Step) →
    AllByRecursion IsOfOctets ws →
    AllByRecursion IsOctetStep steps →
    AllByRecursion IsOctetStep (first_step link ws ++ steps)
first_are_octets link [] steps all more = more
first_are_octets link (w ∷ ws) steps all more = (all.0, more)

behind_are_octets : (link : ℕ) (came : Came) →
    ((l : ℕ) → AllByRecursion IsOfOctets (came l)) →
    (l : ℕ) →
    AllByRecursion IsOfOctets (behind link came l)
behind_are_octets link came all l = by (l == link)
  where
    less : (ws : List What) → AllByRecursion IsOfOctets ws → AllByRecursion IsOfOctets (drop 1 ws)
    less [] each = tt
    less (w ∷ ws) each = each.1

    by : (b : Bool) → AllByRecursion IsOfOctets (if b then drop 1 (came l) else came l)
    by true = less (came l) (all l)
    by false = all l

pub merged_are_octets : (order : List Next) (came : Came) →
    ((l : ℕ) → AllByRecursion IsOfOctets (came l)) →
    AllByRecursion IsOctetStep (merged order came)
merged_are_octets [] came all = tt
merged_are_octets (time ms ∷ order) came all = (tt, merged_are_octets order came all)
merged_are_octets (item_of link ∷ order) came all =
    first_are_octets link (came link) (merged order (behind link came)) (all link) (merged_are_octets order (behind link came) (behind_are_octets link came all))

pub sent_are_frames : (link : ℕ) (outs : List Out) → AllByRecursion IsSent outs → AllByRecursion IsFrame (frames_to link outs)
sent_are_frames link [] all = tt
sent_are_frames link (out ∷ outs) all = by (sent_are_frames link outs all.1) (out.to == link)
  where
    by : AllByRecursion IsFrame (frames_to link outs) → (b : Bool)
        → AllByRecursion IsFrame (map (λ (o : Out). o.frame) (if b then out ∷ filter (λ (o : Out). o.to == link) outs else filter (λ (o : Out). o.to == link) outs))
    by others true = (all.0.fits, others)
    by others false = others

pub all_are_written : (p : Parameters) (order : List Next) (octets : ℕ → List ℕ) → AreAllowed p → ((l : ℕ) → AreOctets (octets l)) → (link : ℕ)
    → AllByRecursion IsFrame (frames_to link (life p (merged order (λ l. items_in (octets l)))).outs)
all_are_written p order octets allowed are link =
    let steps : List Step = merged order (λ l. items_in (octets l)) in
    sent_are_frames link (life p steps).outs (life_sends_all p steps allowed (merged_are_octets order (λ l. items_in (octets l)) (λ l. items_are_octets (octets l) (are l))))

-- ---- the law

came_same : (calls : ℕ → List Call) →
    ((l : ℕ) → TakesWhole (calls l)) →
    (l : ℕ) →
    items_in (octets_of (calls l)) ≡ ended_behind (frames_of (calls l))
came_same calls all l = ap ended_behind (sym (given_are_in (calls l) (all l)))

pub octets_are_put : (p : Parameters) (order : List Next) (calls : ℕ → List Call) → ((l : ℕ) → TakesWhole (calls l)) → (link : ℕ)
    → octets_put (new_controller p) order (λ l. items_in (octets_of (calls l))) link ≡ frames_text (frames_to link (life p (merged order (λ l. ended_behind (frames_of (calls l))))).outs)
unfolding life
octets_are_put p order calls all link =
    ap (λ (ss : List Step). frames_text (frames_to link (over (new_controller p) ss).outs))
    (merged_same order (λ l. items_in (octets_of (calls l))) (λ l. ended_behind (frames_of (calls l))) (came_same calls all))

pub cuts_are_alike : (p : Parameters) (order : List Next) (calls others : ℕ → List Call) → ((l : ℕ) → TakesWhole (calls l)) → ((l : ℕ) → TakesWhole (others l))
    → ((l : ℕ) → octets_of (calls l) ≡ octets_of (others l))
    → merged order (λ l. ended_behind (frames_of (calls l))) ≡ merged order (λ l. ended_behind (frames_of (others l)))
cuts_are_alike p order calls others all every same =
    merged_same order (λ l. ended_behind (frames_of (calls l))) (λ l. ended_behind (frames_of (others l))) (λ l. sym (came_same calls all l) ∙ ap items_in (same l) ∙ came_same others every l)
