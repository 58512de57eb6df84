-- SPDX-License-Identifier: MIT OR Apache-2.0
-- What a step puts for one connection concerns no channel that another one uses before and after
-- the step.
use Rattle.world_laws.proofs.Prelude.{◌≡◌, ◌≢◌, ℕ, ◌≤◌, Bool, List, ◌∷◌, Option, Some, None, sym, AllByRecursion, Place, Message, outs_of}
use Rattle.world_laws.proofs.Prelude.{Connection, roles_of, target_channels, brought_in, connection_of, outs_for, OwnsOpen, step_does}
use Rattle.world_laws.proofs.Prelude.{life_after, run_step, ChannelState, InUse, Step, Controller, channel_state, state_in, step}
use Rattle.world_laws.proofs.Prelude.{SWITCH_LINK, AreAllowed, Parameters, IsNotOn, elsewhere, life}
use Rattle.controller_model.specs.LifeLaws.Placing.{used_by}
use Rattle.controller_model.proofs.LifeLaws.Placed.{acts_placed, owned_apart}
use Rattle.controller_model.specs.Controller.{is_up}
use Rattle.controller_model.proofs.LifeLaws.Passing.{UsesElsewhere, acts_pass, unused_by, unused_put}

-- another's channels are elsewhere
others_elsewhere : (channels : List (List ChannelState)) (links : List Bool) (m : ℕ) (state : ChannelState) (at : Place) (o : Option Connection) →
    (InUse m ≡ state → ⊥) →
    OwnsOpen channels links m o →
    state_in channels at ≡ state →
    UsesElsewhere at o
others_elsewhere channels links m state at None differ owns is = tt
others_elsewhere channels links m state at (Some s) differ owns is = λ is_open. elsewhere channels m state at (s.serving ∷ target_channels (roles_of s).target) differ (owns is_open).using is

-- no DATA REQUEST of what a step puts for it is on the channel
pub record OthersPut (m : ℕ) (c : Controller) (s : Step) (at : Place) : Type 0 where
  pub put : List Message
  pub outs : outs_for m (step c s).outs ≡ outs_of m put
  pub off : AllByRecursion (IsNotOn at) put

pub others_put : (p : Parameters) (steps : List Step) (s : Step) (n m : ℕ) (at : Place) (state : ChannelState) →
    AreAllowed p →
    1 ≤ m →
    n ≢ m →
    (InUse m ≡ state → ⊥) →
    channel_state (life p steps).next at ≡ state →
    channel_state (step (life p steps).next s).next at ≡ InUse n →
    OthersPut m (life p steps).next s at
others_put p steps s n m at state allowed from_one differ differs before used =
    let c : Controller = (life p steps).next in
    let now = life_after p steps allowed in
    let after = run_step c s now.fits now.holds now.uses in
    let fits = now.fits m from_one in
    let does = step_does m c s from_one fits.numbered in
    let was = others_elsewhere c.channels c.links m state at (connection_of c m) differs (now.holds.each m) before in
    let next_owns = others_elsewhere (step c s).next.channels (step c s).next.links m (InUse n) at (connection_of (step c s).next m) (λ same. differ (sym (number_is same))) (after.holds.each m) used in
    record {
      put = does.put;
      outs = does.outs;
      off = unused_put at (used_by (connection_of c m)) does.put (unused_by at (connection_of c m) was)
          (acts_placed m c.next_number (is_up c SWITCH_LINK) (brought_in c m s) (connection_of c m) _ does.put does.acts fits.fine (owned_apart c m (connection_of c m) (now.holds.each m)))
          (acts_pass m c.next_number (is_up c SWITCH_LINK) (brought_in c m s) (connection_of c m) (connection_of (step c s).next m) does.put at does.acts fits.fine was next_owns);
    }
  where
    number_is : {a b : ℕ} → InUse a ≡ InUse b → a ≡ b
    number_is same = cc
