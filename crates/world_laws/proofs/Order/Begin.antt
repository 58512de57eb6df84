-- SPDX-License-Identifier: MIT OR Apache-2.0
-- The activation of the serving channel of a connection that begins waits, if the station's link is
-- up.
use Rattle.world_laws.proofs.Prelude.{◌≡◌, ◌⊎◌, ℕ, ◌==◌, ◌&&◌, not, Bool, true, false, cond, if◌then◌else◌, map, List, [], ◌∷◌, ◌++◌}
use Rattle.world_laws.proofs.Prelude.{Option, Some, None, refl, sym, ap, ◌∙◌, subst, cond-false, cond-true, ne_eqb, eq-eqb, append-nil}
use Rattle.world_laws.proofs.Prelude.{AllByRecursion, Place, Out, ChannelState, Free, InUse, activation_ack, Rsl, OutboxEntry, Tenure}
use Rattle.world_laws.proofs.Prelude.{Agrees, to_arrive, acknowledgement, due, is_active_then, to_link, rsl_in, Actors, is_active_at, is_up}
use Rattle.world_laws.proofs.Prelude.{outbox_of, both_empty, RunsThrough, Passes, said_to, first_passes, runs, channel_state, hears}
use Rattle.world_laws.proofs.Prelude.{entries_to}
use Rattle.world_laws.proofs.Prelude.{runs_kept, entry_out, runs_activate, acknowledgements_up, is_ending, Waits, here, later}
use Rattle.rsl_codec.specs.declared.rsl.Rsl.TheVariants as rsl
use Rattle.world_model.specs.Relay.{entry_of}
use Rattle.world_laws.proofs.Targets.Settled.{comes_idle}
use Rattle.world_laws.specs.Order.QuietDown.{activates}
use Rattle.world_laws.proofs.Order.NoData.{NoDataOut, entries_none}
use Rattle.world_laws.proofs.Order.QuietDown.{remains_inactive}
use Rattle.world_laws.proofs.Channels.RoleAcks.{up_first}

-- ---- what is put

entry_says : (at : Place) (target : Option Tenure) (out : Out) →
    ((entry_of target out).out.to == at.station) ≡ true →
    rsl_in (entry_of target out).out.frame ≡ said_to at out
entry_says at target out hit = ap (λ (o : Out). rsl_in o.frame) (entry_out target out) ∙ sym (ap (λ (b : Bool). if b then rsl_in out.frame else None) (sym (ap (λ (o : Out). o.to == at.station) (entry_out target out)) ∙ hit))

passes_none : (k : ℕ) (o : Option Rsl) → Passes k o → activates k o ≡ false
passes_none k (Some (rsl.ChannelActivation a)) beside = ne_eqb a.channel k beside
passes_none k _ beside = refl

-- a channel that is put into use by outputs that carry no DATA REQUEST for it is activated by one
-- of them
runs_wait : (at : Place) (target : Option Tenure) (n : ℕ) {state end : ChannelState} {outs : List Out} →
    RunsThrough at state outs end →
    end ≡ InUse n →
    (state ≡ InUse n → ⊥) →
    AllByRecursion (NoDataOut at) outs →
    Waits at.number (entries_to at target outs)
runs_wait at target n (runs all) is isnt none = absurd (isnt (runs_kept n all is))
runs_wait at target n (first_passes {out = out} {outs = outs} beside rest) is isnt none = by ((entry_of target out).out.to == at.station) refl (runs_wait at target n rest is isnt none.1) where
  by : (b : Bool) →
      ((entry_of target out).out.to == at.station) ≡ b →
      Waits at.number (to_link at.station (map (entry_of target) outs)) →
      Waits at.number (cond ((entry_of target out).out.to == at.station) (entry_of target out ∷ to_link at.station (map (entry_of target) outs)) (to_link at.station (map (entry_of target) outs)))
  by true hit others = subst (Waits at.number) (sym (cond-true ((entry_of target out).out.to == at.station) _ _ hit)) (later (ap (activates at.number) (entry_says at target out hit) ∙ passes_none at.number (said_to at out) beside) others)
  by false miss others = subst (Waits at.number) (sym (cond-false ((entry_of target out).out.to == at.station) _ _ miss)) others
runs_wait at target n (runs_activate {out = out} {outs = outs} a says channel few rest) is isnt none = by ((entry_of target out).out.to == at.station) refl where
  by : (b : Bool) →
      ((entry_of target out).out.to == at.station) ≡ b →
      Waits at.number (cond ((entry_of target out).out.to == at.station) (entry_of target out ∷ to_link at.station (map (entry_of target) outs)) (to_link at.station (map (entry_of target) outs)))
  by true hit = subst (Waits at.number) (sym (cond-true ((entry_of target out).out.to == at.station) _ _ hit)) (here (ap (activates at.number) (entry_says at target out hit ∙ says) ∙ eq-eqb a.channel at.number channel) (entries_none at target outs none.1))
  by false miss = absurd (let both : None ≡ Some (rsl.ChannelActivation a) = sym (ap (λ (b : Bool). if b then rsl_in out.frame else None) (sym (ap (λ (o : Out). o.to == at.station) (entry_out target out)) ∙ miss)) ∙ says in cc)

-- ---- where nothing is due no activation waits

act_none : (k : ℕ) (o : Option Rsl) → acknowledgement k false o ≡ [] → activates k o ≡ false
act_none k (Some (rsl.ChannelActivation a)) none = by (a.channel == k) none where
  by : (b : Bool) → (if b && not false then activation_ack k ∷ [] else []) ≡ [] → b ≡ false
  by true is = absurd cc
  by false is = refl
act_none k _ none = refl

behind_waits : (k : ℕ) (xs ys : List OutboxEntry) → due k false xs ≡ [] → Waits k ys → Waits k (xs ++ ys)
behind_waits k [] ys none rest = rest
behind_waits k (x ∷ xs) ys none rest =
    let o : Option Rsl = rsl_in x.out.frame in
    let parts = both_empty (acknowledgement k false o) (due k (is_active_then k false o) xs) (sym none) in
    let isnt : activates k o ≡ false = act_none k o parts.0 in
    later isnt (behind_waits k xs ys (subst (λ (b : Bool). due k b xs ≡ []) (remains_inactive k o isnt) parts.1) rest)

-- ---- so it waits behind all that waited

-- of a channel that was free, or whose end is on its way, nothing is due
none_due_of : (owner : Tenure → ℕ) (w : Actors) (at : Place) →
    Agrees owner w at →
    hears w.controller at.station ≡ true →
    is_up w at.station ≡ true →
    (channel_state w.controller at ≡ Free) ⊎ (is_ending w at ≡ true) →
    due at.number (is_active_at w at) (outbox_of w at.station) ≡ []
none_due_of owner w at agrees hearing up why =
    let way = agrees.way hearing in
    (comes_idle at.number (channel_state w.controller at) (to_arrive w at ++ way.lost) (acknowledgements_up w at) (due at.number (is_active_at w at) (outbox_of w at.station)) way.owed
    (ap (λ (xs : List Rsl). to_arrive w at ++ xs) (way.all up) ∙ append-nil (to_arrive w at) ∙ up_first w at) why).0

-- the activation that is put waits
pub begins_waiting : (owner : Tenure → ℕ) (w : Actors) (at : Place) (target : Option Tenure) (n : ℕ) {state end : ChannelState} {outs : List Out} → Agrees owner w at → hears w.controller at.station ≡ true → is_up w at.station ≡ true → (channel_state w.controller at ≡ Free) ⊎ (is_ending w at ≡ true) → is_active_at w at ≡ false
    → RunsThrough at state outs end → end ≡ InUse n → (state ≡ InUse n → ⊥) → AllByRecursion (NoDataOut at) outs → Waits at.number (outbox_of w at.station ++ to_link at.station (map (entry_of target) outs))
begins_waiting owner w at target n agrees hearing up why inactive claim is isnt none =
    behind_waits at.number (outbox_of w at.station) _ (subst (λ (b : Bool). due at.number b (outbox_of w at.station) ≡ []) inactive (none_due_of owner w at agrees hearing up why)) (runs_wait at target n claim is isnt none)
