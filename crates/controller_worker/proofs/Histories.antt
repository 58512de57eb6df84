-- SPDX-License-Identifier: MIT OR Apache-2.0
-- Lists of steps, of items and of moves, one after the other.
use Rattle.std.proofs.Common.{◌≡◌, ◌≢◌, ◌⊎◌, ℕ, ◌+◌, ◌<◌, ◌==◌, true, false, List, [], ◌∷◌, ◌++◌, length, map, replicate, refl, sym, ap, ◌∙◌, append_assoc, arith, inl, inr, eqb, ⊎_elim, zero, suc}
use Rattle.std.specs.List.{AllByRecursion, filter}
use Rattle.std.proofs.lemmas.Bool.{eq-eqb, ne_eqb}
use Rattle.std.proofs.lemmas.Bool.Decides.{eqb_tells}
use Rattle.std.proofs.lemmas.List.{length-append, map-append}
use Rattle.std.proofs.lemmas.List.Elements.{filter-append}
use Rattle.controller_worker.specs.Steps.{AreOfLinks, frames_to, items_of, over, ticked, whats_of}
use Rattle.controller_model.specs.declared.step.Step.{Step}
use Rattle.controller_model.specs.declared.step.Step.TheVariants.{Take, Tick}
use Rattle.controller_model.specs.Controller.{Controller}
use Rattle.controller_model.specs.Life as words
use Rattle.controller_worker.specs.Moves.{AreElsewhere, AreOther, IsElsewhere, Move, Part, takes, ticks, adds, refuses, down_of, frames_in, moves_in, parts_of, refusals_in, refusing_of, steps_of, taken_in, taken_of, times, turn_at}
use Rattle.ruled_relay.specs.declared.item.Item.{Item}

pub same_or : (a b : ℕ) → (a ≡ b) ⊎ (a ≢ b)
same_or a b = ⊎_elim (λ (h : (eqb a b ≡ true) × (a ≡ b)). inl h.1) (λ (h : (eqb a b ≡ false) × (a ≢ b)). inr h.1) (eqb_tells a b)

pub next_both : (c : Controller) (xs ys : List Step) → (over c (xs ++ ys)).next ≡ (over (over c xs).next ys).next
next_both c [] ys = refl
next_both c (x ∷ xs) ys = next_both (words.step c x).next xs ys

pub outs_both : (c : Controller) (xs ys : List Step) → (over c (xs ++ ys)).outs ≡ (over c xs).outs ++ (over (over c xs).next ys).outs
outs_both c [] ys = refl
outs_both c (x ∷ xs) ys =
    let o = (words.step c x).outs in
    let d = (words.step c x).next in
    ap (λ os. o ++ os) (outs_both d xs ys) ∙ sym (append_assoc o (over d xs).outs (over (over d xs).next ys).outs)

pub items_both : (xs ys : List Step) → items_of (xs ++ ys) ≡ items_of xs ++ items_of ys
items_both [] ys = refl
items_both (Take item ∷ xs) ys = ap (λ is. item ∷ is) (items_both xs ys)
items_both (Tick ms ∷ xs) ys = items_both xs ys

pub of_links_both : (n : ℕ) (xs ys : List Step) → AreOfLinks n xs → AreOfLinks n ys → AreOfLinks n (xs ++ ys)
of_links_both n [] ys h k = k
of_links_both n (Take item ∷ xs) ys h k = (h.0, of_links_both n xs ys h.1 k)
of_links_both n (Tick ms ∷ xs) ys h k = of_links_both n xs ys h k

pub ticked_both : (xs ys : List Step) → ticked (xs ++ ys) ≡ ticked xs + ticked ys
ticked_both [] ys = omega arith
ticked_both (Take item ∷ xs) ys = ticked_both xs ys
ticked_both (Tick ms ∷ xs) ys = let h = ticked_both xs ys in omega arith

pub whats_both : (source : ℕ) (xs ys : List Item) → whats_of source (xs ++ ys) ≡ whats_of source xs ++ whats_of source ys
whats_both source xs ys =
    ap (λ is. map (λ (i : Item). i.what) is) (filter-append (λ (i : Item). i.source == source) xs ys)
    ∙ map-append (λ (i : Item). i.what) (filter (λ (i : Item). i.source == source) xs) (filter (λ (i : Item). i.source == source) ys)

pub steps_both : (xs ys : List Move) → steps_of (xs ++ ys) ≡ steps_of xs ++ steps_of ys
steps_both [] ys = refl
steps_both (takes item ∷ xs) ys = ap (λ ss. Take item ∷ ss) (steps_both xs ys)
steps_both (ticks ms ∷ xs) ys = ap (λ ss. Tick ms ∷ ss) (steps_both xs ys)
steps_both (adds link ∷ xs) ys = ap (λ ss. Take (down_of link) ∷ ss) (steps_both xs ys)
steps_both (refuses link ∷ xs) ys = steps_both xs ys

pub taken_of_both : (xs ys : List Move) → taken_of (xs ++ ys) ≡ taken_of xs ++ taken_of ys
taken_of_both [] ys = refl
taken_of_both (takes item ∷ xs) ys = ap (λ is. item ∷ is) (taken_of_both xs ys)
taken_of_both (ticks ms ∷ xs) ys = taken_of_both xs ys
taken_of_both (adds link ∷ xs) ys = taken_of_both xs ys
taken_of_both (refuses link ∷ xs) ys = taken_of_both xs ys

refusing_both : (xs ys : List Move) → refusing_of (xs ++ ys) ≡ refusing_of xs ++ refusing_of ys
refusing_both [] ys = refl
refusing_both (takes item ∷ xs) ys = refusing_both xs ys
refusing_both (ticks ms ∷ xs) ys = refusing_both xs ys
refusing_both (adds link ∷ xs) ys = refusing_both xs ys
refusing_both (refuses link ∷ xs) ys = ap (λ ls. link ∷ ls) (refusing_both xs ys)

pub times_both : (link : ℕ) (xs ys : List ℕ) → times link (xs ++ ys) ≡ times link xs + times link ys
times_both link xs ys =
    ap (λ (ls : List ℕ). length ls) (filter-append (λ (other : ℕ). other == link) xs ys)
    ∙ length-append (filter (λ (other : ℕ). other == link) xs) (filter (λ (other : ℕ). other == link) ys)

next_turn : (c : Controller) (move : Move) (xs : List Move) →
    (over (turn_at c move).next (steps_of xs)).next ≡ (over c (steps_of (move ∷ xs))).next
next_turn c (takes item) xs = refl
next_turn c (ticks ms) xs = refl
next_turn c (adds link) xs = refl
next_turn c (refuses link) xs = refl

pub parts_both : (link : ℕ) (c : Controller) (xs ys : List Move) →
    parts_of link c (xs ++ ys) ≡ parts_of link c xs ++ parts_of link (over c (steps_of xs)).next ys
parts_both link c [] ys = refl
parts_both link c (move ∷ xs) ys =
    let part : Part = record { move = move; frames = frames_to link (turn_at c move).outs } in
    let d : Controller = (turn_at c move).next in
    ap (λ ps. part ∷ ps) (parts_both link d xs ys ∙ ap (λ e. parts_of link d xs ++ parts_of link e ys) (next_turn c move xs))

pub moves_of_parts : (link : ℕ) (c : Controller) (moves : List Move) → moves_in (parts_of link c moves) ≡ moves
moves_of_parts link c [] = refl
moves_of_parts link c (move ∷ moves) = ap (λ ms. move ∷ ms) (moves_of_parts link (turn_at c move).next moves)

pub frames_in_both : (xs ys : List Part) → frames_in (xs ++ ys) ≡ frames_in xs ++ frames_in ys
frames_in_both [] ys = refl
frames_in_both (part ∷ xs) ys = ap (λ fs. part.frames ++ fs) (frames_in_both xs ys) ∙ sym (append_assoc part.frames (frames_in xs) (frames_in ys))

moves_both : (xs ys : List Part) → moves_in (xs ++ ys) ≡ moves_in xs ++ moves_in ys
moves_both xs ys = map-append (λ (p : Part). p.move) xs ys

pub taken_in_both : (link : ℕ) (xs ys : List Part) → taken_in link (xs ++ ys) ≡ taken_in link xs ++ taken_in link ys
taken_in_both link xs ys =
    ap (λ ms. whats_of link (taken_of ms)) (moves_both xs ys) ∙ ap (λ is. whats_of link is) (taken_of_both (moves_in xs) (moves_in ys))
    ∙ whats_both link (taken_of (moves_in xs)) (taken_of (moves_in ys))

pub refusals_in_both : (link : ℕ) (xs ys : List Part) → refusals_in link (xs ++ ys) ≡ refusals_in link xs + refusals_in link ys
refusals_in_both link xs ys =
    ap (λ ms. times link (refusing_of ms)) (moves_both xs ys) ∙ ap (λ ls. times link ls) (refusing_both (moves_in xs) (moves_in ys))
    ∙ times_both link (refusing_of (moves_in xs)) (refusing_of (moves_in ys))

pub all_both_parts : (F : Part → Type 0) (xs ys : List Part) → AllByRecursion F xs → AllByRecursion F ys → AllByRecursion F (xs ++ ys)
all_both_parts F [] ys h k = k
all_both_parts F (x ∷ xs) ys h k = (h.0, all_both_parts F xs ys h.1 k)

-- ---- refusals

times_here : (link at : ℕ) (links : List ℕ) → at ≡ link → times link (at ∷ links) ≡ times link links + 1
times_here link at links e = rw (eq-eqb at link e) (omega arith)

times_else : (link at : ℕ) (links : List ℕ) → (at ≡ link → ⊥) → times link (at ∷ links) ≡ times link links
times_else link at links e = rw (ne_eqb at link e) refl

pub times_same : (link n : ℕ) → times link (replicate n link) ≡ n
times_same link zero = refl
times_same link (suc n) = let t = times_here link link (replicate n link) refl in let r = times_same link n in omega arith

pub times_none : (link at n : ℕ) → link ≢ at → times link (replicate n at) ≡ 0
times_none link at zero e = refl
times_none link at (suc n) e = times_else link at (replicate n at) (λ h. e (sym h)) ∙ times_none link at n e

-- the moves of these refusals, and what they are to a link
abbrev pub tried : List ℕ → List Move
tried tries = map refuses tries

abbrev pub refusals : List ℕ → List Part
refusals tries = map (λ at. record { move = refuses at; frames = [] }) tries

pub parts_tried : (link : ℕ) (c : Controller) (tries : List ℕ) → parts_of link c (tried tries) ≡ refusals tries
parts_tried link c [] = refl
parts_tried link c (at ∷ tries) = ap (λ (ps : List Part). record { move = refuses at; frames = [] } ∷ ps) (parts_tried link c tries)

pub steps_tried : (tries : List ℕ) → steps_of (tried tries) ≡ []
steps_tried [] = refl
steps_tried (at ∷ tries) = steps_tried tries

pub taken_tried : (tries : List ℕ) → taken_of (tried tries) ≡ []
taken_tried [] = refl
taken_tried (at ∷ tries) = taken_tried tries

refusing_tried : (tries : List ℕ) → refusing_of (moves_in (refusals tries)) ≡ tries
refusing_tried [] = refl
refusing_tried (at ∷ tries) = ap (λ ls. at ∷ ls) (refusing_tried tries)

pub refusals_tried : (link : ℕ) (tries : List ℕ) → refusals_in link (refusals tries) ≡ times link tries
refusals_tried link tries = ap (λ ls. times link ls) (refusing_tried tries)

pub frames_tried : (tries : List ℕ) → frames_in (refusals tries) ≡ []
frames_tried [] = refl
frames_tried (at ∷ tries) = frames_tried tries

refuses_other : (at link : ℕ) → refuses at ≡ adds link → ⊥
refuses_other at link e = cc

pub other_tried : (link : ℕ) (tries : List ℕ) → AreOther link (refusals tries)
other_tried link [] = tt
other_tried link (at ∷ tries) = (refuses_other at link, other_tried link tries)

pub elsewhere_tried : (link : ℕ) (tries : List ℕ) → times link tries ≡ 0 → AreElsewhere link (refusals tries)
elsewhere_tried link [] none = tt
elsewhere_tried link (at ∷ tries) none =
    ⊎_elim (λ (e : at ≡ link). absurd (let t = times_here link at tries e in omega arith))
    (λ (e : at ≢ link). let here : IsElsewhere link (record { move = refuses at; frames = [] }) = (at, e, inr refl) in (
      here,
      elsewhere_tried link tries (sym (times_else link at tries e) ∙ none),
    )) (same_or at link)

-- the last refusal of a link
pub record Last (link : ℕ) (tries : List ℕ) : Type 0 where
  pub before : List ℕ
  pub behind : List ℕ
  pub whole : tries ≡ before ++ link ∷ behind
  pub none : times link behind ≡ 0

pub last_tried : (link : ℕ) (tries : List ℕ) → 0 < times link tries → Last link tries
last_tried link [] some = absurd (omega arith)
last_tried link (at ∷ tries) some =
    ⊎_elim
    (λ (z : times link tries ≡ 0).
    ⊎_elim (λ (e : at ≡ link). let found : Last link (at ∷ tries) = record { before = []; behind = tries; whole = ap (λ l. l ∷ tries) e; none = z } in found)
    (λ (e : at ≢ link). absurd (let t = times_else link at tries e in omega arith)) (same_or at link))
    (λ (z : times link tries ≢ 0).
    let later = last_tried link tries (omega arith) in
    let found : Last link (at ∷ tries) =
    record { before = at ∷ later.before; behind = later.behind; whole = ap (λ ls. at ∷ ls) later.whole; none = later.none } in found) (same_or (times link tries) 0)
