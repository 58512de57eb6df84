-- SPDX-License-Identifier: MIT OR Apache-2.0
-- In every run each channel agrees with the ownership that the run gives; and what is known of a
-- channel that isn't free.
use Rattle.world_laws.proofs.Prelude.{◌≡◌, ◌≢◌, ℕ, ◌≤◌, Bool, true, false, List, [], ◌∷◌, length, Some, refl, sym, ap, ◌∙◌, subst}
use Rattle.world_laws.proofs.Prelude.{Place, Connection, roles_of, IsOpen, connection_of, Owns, OwnsOpen, AreUsed}
use Rattle.world_laws.proofs.Prelude.{life_owns, life_ready, life_uses, Ready, Free, Controller, channel_state, hears, place_at}
use Rattle.world_laws.proofs.Prelude.{AreAllowed, Parameters, Event, Tenure, actors_after, actors_after_all, owner_in, all_steps, Actors}
use Rattle.world_laws.proofs.Prelude.{new_actors, FollowsTable-new, Right, right_step, right_new, TookOctets}
use Rattle.world_model.proofs.OwnerRuns.{ServesThrough}
use Rattle.world_laws.proofs.OwnerRun.{life-settings, serves_through, within_settings, not_zero}
use Rattle.world_laws.proofs.Events.{world}

-- ---- over all events

right_all : (settings : Parameters) (owner : Tenure → ℕ) (w : Actors) (events : List Event) →
    ServesThrough settings owner w events →
    Right settings owner w events →
    Right settings owner (actors_after_all w events) []
unfolding ServesThrough
right_all settings owner w [] serves right = right
right_all settings owner w (event ∷ events) serves right = right_all settings owner (actors_after w event) events serves.1 (right_step settings owner w event events (serves.0 right.agree) right)

-- After any events each channel of each station agrees with the ownership of the run.
pub agreed : (settings : Parameters) (events : List Event) →
    AreAllowed settings →
    TookOctets settings events →
    Right settings (owner_in (new_actors settings) events) (world settings events) []
agreed settings events allowed octets =
    right_all settings (owner_in (new_actors settings) events) (new_actors settings) events (serves_through settings (owner_in (new_actors settings) events) [] events (new_actors settings) refl allowed tt octets) (right_new settings events)

-- ---- the controller of the world

pub ready_at : (settings : Parameters) (events : List Event) → AreAllowed settings → Ready (world settings events).controller
ready_at settings events allowed = subst Ready (sym (FollowsTable-new settings events)) (life_ready settings (all_steps (new_actors settings) events) allowed)

pub used_at : (settings : Parameters) (events : List Event) → AreAllowed settings → AreUsed (world settings events).controller
used_at settings events allowed = subst AreUsed (sym (FollowsTable-new settings events)) (life_uses settings (all_steps (new_actors settings) events) allowed)

-- a connection that is open owns its channels
pub owns_at : (settings : Parameters) (events : List Event) → AreAllowed settings → (number : ℕ) (s : Connection) → connection_of (world settings events).controller number ≡ Some s → IsOpen s.state
    → Owns (world settings events).controller.channels (world settings events).controller.links number (roles_of s)
owns_at settings events allowed number s there =
    let c : Controller = (world settings events).controller in
    subst (OwnsOpen c.channels c.links number) there
    (subst (λ (d : Controller). OwnsOpen d.channels d.links number (connection_of d number)) (sym (FollowsTable-new settings events)) (life_owns settings (all_steps (new_actors settings) events) number allowed))

-- ---- a channel that isn't free

-- it is of a station, whose link is up at the controller
pub record IsPlaced (settings : Parameters) (w : Actors) (at : Place) : Type 0 where
  pub hearing : hears w.controller at.station ≡ true
  pub least : 1 ≤ at.station
  pub most : at.station ≤ length settings.cells

pub placed_at : (settings : Parameters) (events : List Event) →
    AreAllowed settings →
    (at : Place) →
    channel_state (world settings events).controller at ≢ Free →
    IsPlaced settings (world settings events) at
placed_at settings events allowed at busy = record {
  hearing = by (hears c at.station) refl;
  least = not_zero at.station (λ is. busy (ap (λ (n : ℕ). channel_state c (place_at n at.number)) is ∙ used.switch at.number));
  most = within_settings settings c at
      (ap (λ (d : Controller). d.settings) (FollowsTable-new settings events) ∙ life-settings settings (all_steps (new_actors settings) events)) (ready_at settings events allowed) busy;
} where
  c : Controller
  c = (world settings events).controller

  used : AreUsed c
  used = used_at settings events allowed

  by : (b : Bool) → hears c at.station ≡ b → hears c at.station ≡ true
  by true is = is
  by false is = absurd (busy (used.down at is))
