-- SPDX-License-Identifier: MIT OR Apache-2.0
-- The call worker's moves from one link's view: its items in their steps, and the frames put for
-- it.
use Rattle.std.proofs.Common.{◌≡◌, ◌≢◌, ℕ, ◌<◌, ◌≤◌, Bool, true, false, List, [], ◌∷◌, ◌++◌, refl, sym, ap, ◌∙◌, subst, append-nil, append_assoc, arith}
use Rattle.std.proofs.lemmas.Bool.{eq-eqb, ne_eqb}
use Rattle.std.proofs.lemmas.List.{map-append}
use Rattle.std.specs.List.{AllByRecursion}
use Rattle.controller_worker.specs.Moves.{AreOther, IsRefused, IsSent, Move, Part, adds, frames_in, moves_in, parts_of, refuses, steps_of, taken_in, taken_of, takes, ticks, turn_at}
use Rattle.controller_worker.specs.Steps.{frames_to, items_of, over, whats_of}
use Rattle.controller_worker.proofs.Histories.{frames_in_both, items_both, moves_of_parts, steps_both, taken_in_both, whats_both}
use Rattle.controller_worker.proofs.Outputs.{frames_both}
use Rattle.controller_model.specs.declared.step.Step.{Step}
use Rattle.controller_model.specs.Controller.{Controller}
use Rattle.conn_messages.specs.declared.out.Out.{Out}
use Rattle.ipa_framing.specs.declared.frame.Frame.{Frame}
use Rattle.ruled_relay.specs.declared.item.Item.{Item}
use Rattle.ruled_relay.specs.declared.item.What.{What}
use Rattle.ruled_relay.specs.declared.item.What.TheVariants as whats
use Rattle.station_io.specs.Octets.{AreWithDown, came_in}

-- ---- what of a link is in the steps

pub whats_others : (link : ℕ) (item : Item) (items : List Item) → item.source ≢ link → whats_of link (item ∷ items) ≡ whats_of link items
whats_others link item items e = rw (ne_eqb item.source link e) refl

-- a link that isn't one of these gave nothing
pub no_others : (links number : ℕ) (items : List Item) →
    AllByRecursion (λ (item : Item). item.source < links) items →
    links ≤ number →
    whats_of number items ≡ []
no_others links number [] each past = refl
no_others links number (item ∷ items) each past = let less = each.0 in whats_others number item items (λ e. absurd (omega arith)) ∙ no_others links number items each.1 past

-- a move that doesn't add the link's `Down` is in the steps what was taken
is_taken : (link : ℕ) (move : Move) (moves : List Move) → move ≢ adds link → came_in (steps_of moves) link ≡ whats_of link (taken_of moves)
    → came_in (steps_of (move ∷ moves)) link ≡ whats_of link (taken_of (move ∷ moves))
is_taken link (takes item) moves other same =
    whats_both link (item ∷ []) (items_of (steps_of moves)) ∙ ap (λ (ws : List What). whats_of link (item ∷ []) ++ ws) same
    ∙ sym (whats_both link (item ∷ []) (taken_of moves))
is_taken link (ticks ms) moves other same = same
is_taken link (refuses at) moves other same = same
is_taken link (adds at) moves other same =
    whats_others link (record { source = at; what = whats.Down }) (items_of (steps_of moves)) (λ e. other (ap (λ (n : ℕ). adds n) e)) ∙ same

others_are_taken : (link : ℕ) (parts : List Part) → AreOther link parts → came_in (steps_of (moves_in parts)) link ≡ taken_in link parts
others_are_taken link [] other = refl
others_are_taken link (part ∷ parts) other = is_taken link part.move (moves_in parts) other.0 (others_are_taken link parts other.1)

-- the link's `Down`, added, and what is in the steps behind it
down_first : (link : ℕ) (down : Part) (parts : List Part) →
    down.move ≡ adds link →
    came_in (steps_of (moves_in (down ∷ parts))) link ≡ whats.Down ∷ came_in (steps_of (moves_in parts)) link
down_first link down parts is =
    ap (λ (m : Move). came_in (steps_of (m ∷ moves_in parts)) link) is
    ∙ whats_both link (record { source = link; what = whats.Down } ∷ []) (items_of (steps_of (moves_in parts)))
    ∙ ap (λ (ws : List What). ws ++ came_in (steps_of (moves_in parts)) link) (whats_own link)
  where
    whats_own : (l : ℕ) → whats_of l (record { source = l; what = whats.Down } ∷ []) ≡ whats.Down ∷ []
    whats_own l = rw (eq-eqb l l refl) refl

came_both : (link : ℕ) (xs ys : List Part) →
    came_in (steps_of (moves_in (xs ++ ys))) link ≡ came_in (steps_of (moves_in xs)) link ++ came_in (steps_of (moves_in ys)) link
came_both link xs ys =
    ap (λ (ms : List Move). came_in (steps_of ms) link) (map-append (λ (p : Part). p.move) xs ys)
    ∙ ap (λ (ss : List Step). came_in ss link) (steps_both (moves_in xs) (moves_in ys))
    ∙ ap (λ (is : List Item). whats_of link is) (items_both (steps_of (moves_in xs)) (steps_of (moves_in ys)))
    ∙ whats_both link (items_of (steps_of (moves_in xs))) (items_of (steps_of (moves_in ys)))

down_is_added : (link : ℕ) (before : List Part) (down : Part) (behind : List Part) → down.move ≡ adds link → AreOther link before → AreOther link behind
    → AreWithDown true (taken_in link (before ++ down ∷ behind)) (came_in (steps_of (moves_in (before ++ down ∷ behind))) link)
down_is_added link before down behind is first last = (
  taken_in link before,
  taken_in link behind,
  taken_in_both link before (down ∷ behind) ∙ ap (λ (m : Move). taken_in link before ++ whats_of link (taken_of (m ∷ moves_in behind))) is,
  came_both link before (down ∷ behind) ∙ ap (λ (ws : List What). ws ++ came_in (steps_of (moves_in (down ∷ behind))) link) (others_are_taken link before first)
      ∙ ap (λ (ws : List What). taken_in link before ++ ws) (down_first link down behind is ∙ ap (λ (ws : List What). whats.Down ∷ ws) (others_are_taken link behind last)),
)

came_with_down : (added : Bool) (link : ℕ) (parts : List Part) (sent : List Frame) → IsSent added added link parts sent
    → AreWithDown added (taken_in link parts) (came_in (steps_of (moves_in parts)) link)
came_with_down false link parts sent is = others_are_taken link parts is.1
came_with_down true link parts sent is =
    subst (λ (ps : List Part). AreWithDown true (taken_in link ps) (came_in (steps_of (moves_in ps)) link)) (sym is.3) (down_is_added link is.0 is.1 is.2 is.5 is.6 is.7)

-- the link's items in the steps are those taken from it, with the `Down` that was added
pub came_is : (added : Bool) (link : ℕ) (start : Controller) (moves : List Move) (sent : List Frame) → IsSent added added link (parts_of link start moves) sent
    → AreWithDown added (whats_of link (taken_of moves)) (came_in (steps_of moves) link)
came_is added link start moves sent is =
    subst (λ (ms : List Move). AreWithDown added (whats_of link (taken_of ms)) (came_in (steps_of ms) link)) (moves_of_parts link start moves)
    (came_with_down added link (parts_of link start moves) sent is)

-- ---- what is put for a link

outs_of_turn : (start : Controller) (move : Move) (moves : List Move)
    → (turn_at start move).outs ++ (over (turn_at start move).next (steps_of moves)).outs ≡ (over start (steps_of (move ∷ moves))).outs
outs_of_turn start (takes item) moves = refl
outs_of_turn start (ticks ms) moves = refl
outs_of_turn start (adds link) moves = refl
outs_of_turn start (refuses link) moves = refl

pub frames_are_put : (link : ℕ) (start : Controller) (moves : List Move) →
    frames_in (parts_of link start moves) ≡ frames_to link (over start (steps_of moves)).outs
frames_are_put link start [] = refl
frames_are_put link start (move ∷ moves) =
    let turn = turn_at start move in
    ap (λ (fs : List Frame). frames_to link turn.outs ++ fs) (frames_are_put link turn.next moves)
    ∙ sym (frames_both link turn.outs (over turn.next (steps_of moves)).outs) ∙ ap (λ (os : List Out). frames_to link os) (outs_of_turn start move moves)

refused_begins : (link : ℕ) (parts : List Part) (sent : List Frame) →
    IsRefused link parts sent →
    (more : List Frame) × (frames_in parts ≡ sent ++ more)
refused_begins link parts sent r =
    let behind : List Frame = frames_in (r.last ∷ r.others) in (
      r.refused ∷ r.rest ++ behind,
      ap (λ (ps : List Part). frames_in ps) r.whole ∙ frames_in_both r.earlier (r.last ∷ r.others) ∙ ap (λ (fs : List Frame). fs ++ behind) r.frames
          ∙ append_assoc sent (r.refused ∷ r.rest) behind,
    )

sent_begins : (given_up : Bool) (link : ℕ) (parts : List Part) (sent : List Frame) →
    IsSent given_up given_up link parts sent →
    (more : List Frame) × (frames_in parts ≡ sent ++ more)
sent_begins false link parts sent is = ([], sym is.0 ∙ sym (append-nil sent))
sent_begins true link parts sent is =
    let first = refused_begins link is.0 sent is.4 in
    let behind : List Frame = frames_in (is.1 ∷ is.2) in (
      first.0 ++ behind,
      ap (λ (ps : List Part). frames_in ps) is.3 ∙ frames_in_both is.0 (is.1 ∷ is.2) ∙ ap (λ (fs : List Frame). fs ++ behind) first.1 ∙ append_assoc sent first.0 behind,
    )

-- what was sent are first frames of those that are put
pub sent_is_first : (given_up : Bool) (link : ℕ) (start : Controller) (moves : List Move) (sent : List Frame) → IsSent given_up given_up link (parts_of link start moves) sent
    → (more : List Frame) × (frames_to link (over start (steps_of moves)).outs ≡ sent ++ more)
sent_is_first given_up link start moves sent is =
    let begins = sent_begins given_up link (parts_of link start moves) sent is in
    (begins.0, sym (frames_are_put link start moves) ∙ begins.1)

-- and all of them, where the outbox wasn't given up
pub sent_is_all : (given_up : Bool) (link : ℕ) (start : Controller) (moves : List Move) (sent : List Frame) → given_up ≡ false → IsSent given_up given_up link (parts_of link start moves) sent
    → frames_to link (over start (steps_of moves)).outs ≡ sent
sent_is_all false link start moves sent kept is = sym (frames_are_put link start moves) ∙ sym is.0
sent_is_all true link start moves sent kept is = absurd (cc kept)
