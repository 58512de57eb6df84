-- SPDX-License-Identifier: MIT OR Apache-2.0
-- A connection that lives continues to live when links of stations break.
use Rattle.world_laws.proofs.Prelude.{◌≡◌, ℕ, Bool, false, List, [], ◌∷◌, ◌++◌, refl, sym, ap, ◌∙◌, subst, append_assoc, DataLinkState}
use Rattle.world_laws.proofs.Prelude.{LineUp, flow, parts_of, with_items, Alive, Condition, Follows, lost_old, lost_serving, lost_target}
use Rattle.world_laws.proofs.Prelude.{BreakStep, lost, breaks_serving, breaks_target, breaks_old}
use Rattle.world_laws.specs.LineUp.Places.{LineTenure}
use Rattle.world_laws.proofs.LineUp.Lines.{parts_front, parts_broken, some_lost-here, first_relays_at, controls_front, texts_front}
use Rattle.world_laws.proofs.LineUp.Phases.{phase_serving, phase_target}
use Rattle.world_laws.proofs.LineUp.Following.{follows_front}

-- a front of the parts leaves a front of the line
follows_parts : {m : ℕ} {sent xs : List (List ℕ)} {link : DataLinkState} {ok : Bool} (front ys zs : List (List ℕ)) →
    xs ≡ ys ++ zs →
    Follows m sent (front ++ xs) link ok →
    Follows m sent (front ++ ys) link false
follows_parts front ys zs is follows = follows_front (front ++ ys) zs (ap (λ (list : List (List ℕ)). front ++ list) is ∙ sym (append_assoc front ys zs)) follows

pub alive_break : {m : ℕ} {before after : LineUp} → BreakStep before after → Alive m before → Alive m after
alive_break (breaks_serving l t items dropped) alive =
    let broken = parts_broken t items dropped (l.target ∷ []) in
    let front = parts_front l.old (with_items t (items ++ dropped) ∷ l.target ∷ []) (lost t items ∷ l.target ∷ []) broken.0 broken.1 in
    record {
      follows = follows_parts (flow l.taken ++ flow l.out) _ front.0 front.1 alive.follows;
      first = alive.first;
      phase = phase_serving (controls_front items dropped) alive.phase;
      condition = lost_serving;
      bare = alive.bare;
    }
alive_break (breaks_target l t items dropped here) alive =
    let broken = parts_broken t items dropped [] in
    let behind = parts_front (l.serving ∷ []) (with_items t (items ++ dropped) ∷ []) (lost t items ∷ []) broken.0 broken.1 in
    let front = parts_front l.old (l.serving ∷ with_items t (items ++ dropped) ∷ []) (l.serving ∷ lost t items ∷ []) behind.0 behind.1 in
    record {
      follows = follows_parts (flow l.taken ++ flow l.out) _ front.0 front.1 alive.follows;
      first = alive.first;
      phase = phase_target (texts_front items dropped) (controls_front items dropped) alive.phase;
      condition = lost_target here;
      bare = alive.bare;
    }
alive_break (breaks_old l before t after items dropped) alive =
    let d : LineTenure = with_items t (items ++ dropped) in
    let behind : List LineTenure = l.serving ∷ l.target ∷ [] in
    let broken = parts_broken t items dropped (after ++ behind) in
    let front = parts_front before (d ∷ (after ++ behind)) (lost t items ∷ (after ++ behind)) broken.0 broken.1 in
    let regrouped : parts_of ((before ++ d ∷ after) ++ behind) ≡ parts_of ((before ++ lost t items ∷ after) ++ behind) ++ front.0 =
    ap parts_of (append_assoc before (d ∷ after) behind) ∙ front.1 ∙ ap (λ (list : List LineTenure). parts_of list ++ front.0) (sym (append_assoc before (lost t items ∷ after) behind)) in
    record {
      follows = follows_parts (flow l.taken ++ flow l.out) _ front.0 regrouped alive.follows;
      first = first_relays_at l.is_confirmed before d (lost t items) after l.serving.hold refl alive.first;
      phase = alive.phase;
      condition = subst (λ (b : Bool). Condition l.seat b l.serving.is_lost l.target.is_lost false) (sym (some_lost-here before (lost t items) after refl)) lost_old;
      bare = alive.bare;
    }
