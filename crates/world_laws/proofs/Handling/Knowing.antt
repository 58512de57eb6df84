-- SPDX-License-Identifier: MIT OR Apache-2.0
-- What is known of the controller of a world, before it takes a step and after it.
use Rattle.world_laws.proofs.Prelude.{◌≡◌, ◌≢◌, ℕ, ◌≤◌, true, List, [], ◌∷◌, ◌++◌, Option, Some, None, option_map, refl, sym, ap, ◌∙◌}
use Rattle.world_laws.proofs.Prelude.{subst, AllByRecursion, Channel, SWITCH_LINK, AllByRecursion-append, target_in_role, Connection}
use Rattle.world_laws.proofs.Prelude.{roles_of, target_channels, target_role, IsValid, AreApart, IsOpen, undone, used_channels, ActsOn}
use Rattle.world_laws.proofs.Prelude.{connection_of, SameRequest, Owns, OwnsOpen, is_link_up, IsOctetStep, IsSent, AreUsed, life_acts}
use Rattle.world_laws.proofs.Prelude.{life_names, life_sends, life_after, run_step, Ready, ChannelState, Free, InUse, Releasing, Step}
use Rattle.world_laws.proofs.Prelude.{Controller, Entry, channel_state, entry_of, holder, place_at, place_of, state_in, step, AreAllowed}
use Rattle.world_laws.proofs.Prelude.{Parameters, Event, all_steps, step_at, new_actors, FollowsTable-new, Fits, used_apart, IsAfter}
use Rattle.world_laws.proofs.Prelude.{ready_by, ready_uses, life, TookOctets, IsHad}
use Rattle.world_laws.proofs.Quiet.{ArePlaced}
use Rattle.world_laws.proofs.ValidConnections.{connections_are_valid_new}
use Rattle.world_laws.proofs.Events.{split_steps, world}

-- ---- the world before the event

pub octets_arrived : (settings : Parameters) (events : List Event) (event : Event) →
    TookOctets settings (events ++ event ∷ []) →
    TookOctets settings events × AllByRecursion IsOctetStep (step_at (world settings events) event)
octets_arrived settings events event all = split_steps IsOctetStep (new_actors settings) events event all

-- ---- the channels of a connection

used_placed : (c : Controller) (state : ChannelState) (cs : List Channel) →
    AreUsed c →
    (state ≡ Free → ⊥) →
    AllByRecursion (λ (x : Channel). state_in c.channels (place_of x) ≡ state) cs →
    ArePlaced cs
used_placed c state [] used isnt all = tt
used_placed c state (x ∷ xs) used isnt all = (
  λ is. isnt (sym all.0 ∙ ap (λ (n : ℕ). state_in c.channels (place_at n x.number)) is ∙ used.switch x.number),
  used_placed c state xs used isnt all.1,
)

owns_placed : (c : Controller) (s : Connection) → AreUsed c → Owns c.channels c.links s.number (roles_of s) → ArePlaced (used_channels s)
owns_placed c s used owns = subst (λ (cs : List Channel). ArePlaced (undone s.draining ++ s.serving ∷ cs)) (target_in_role s.state)
    (AllByRecursion-append (λ (x : Channel). x.station ≢ SWITCH_LINK) (undone s.draining) (s.serving ∷ target_channels (target_role s.state))
    (used_placed c (Releasing s.number) (undone s.draining) used (λ is. absurd cc) owns.releasing)
    (used_placed c (InUse s.number) (s.serving ∷ target_channels (target_role s.state)) used (λ is. absurd cc) owns.using))

-- all are its own
state_held : (c : Controller) (state : ChannelState) (number : ℕ) (cs : List Channel) →
    holder state ≡ Some number →
    AllByRecursion (λ (x : Channel). state_in c.channels (place_of x) ≡ state) cs →
    AllByRecursion (λ (x : Channel). holder (channel_state c (place_of x)) ≡ Some number) cs
state_held c state number [] held all = tt
state_held c state number (x ∷ xs) held all = (ap holder all.0 ∙ held, state_held c state number xs held all.1)

pub used_held : (c : Controller) (s : Connection) →
    Owns c.channels c.links s.number (roles_of s) →
    AllByRecursion (λ (x : Channel). holder (channel_state c (place_of x)) ≡ Some s.number) (used_channels s)
used_held c s owns = subst (λ (cs : List Channel). AllByRecursion (λ (x : Channel). holder (channel_state c (place_of x)) ≡ Some s.number) (undone s.draining ++ s.serving ∷ cs)) (target_in_role s.state)
    (AllByRecursion-append (λ (x : Channel). holder (channel_state c (place_of x)) ≡ Some s.number) (undone s.draining) (s.serving ∷ target_channels (target_role s.state))
    (state_held c (Releasing s.number) s.number (undone s.draining) refl owns.releasing)
    (state_held c (InUse s.number) s.number (s.serving ∷ target_channels (target_role s.state)) refl owns.using))

-- their links are up
pub used_linked : (c : Controller) (s : Connection) →
    Owns c.channels c.links s.number (roles_of s) →
    AllByRecursion (λ (x : Channel). is_link_up c.links x.station ≡ true) (used_channels s)
used_linked c s owns = subst (λ (cs : List Channel). AllByRecursion (λ (x : Channel). is_link_up c.links x.station ≡ true) (undone s.draining ++ s.serving ∷ cs)) (target_in_role s.state) owns.linked

-- ---- the controller

-- a controller that lives by its table, and a connection that it has
pub record IsKnown (c : Controller) (s : Connection) : Type 0 where
  pub from_one : 1 ≤ s.number
  pub ready : Ready c
  pub fits : (n : ℕ) → 1 ≤ n → Fits n c
  pub there : connection_of c s.number ≡ Some s
  pub valid : IsValid s
  pub owns : Owns c.channels c.links s.number (roles_of s)

pub known : (settings : Parameters) (events : List Event) (s : Connection) →
    AreAllowed settings →
    IsHad (world settings events) s →
    IsKnown (world settings events).controller s
known settings events s allowed had =
    let by_table = FollowsTable-new settings events in
    subst (λ (c : Controller). connection_of c s.number ≡ Some s → IsKnown c s) (sym by_table)
    (λ there.
    let steps = all_steps (new_actors settings) events in
    let c : Controller = (life settings steps).next in
    let now : IsAfter c = life_after settings steps allowed in
    record {
      from_one = had.from_one;
      ready = ready_by c now.fits now.holds now.uses;
      fits = now.fits;
      there = there;
      valid = connections_are_valid_new settings events s.number s had.there;
      owns = subst (OwnsOpen c.channels c.links s.number) there (now.holds.each s.number) had.is_open;
    })
    had.there

-- what it does by a step
pub record Steps (c : Controller) (s : Step) (number : ℕ) : Type 0 where
  pub sent : AllByRecursion IsSent (step c s).outs
  pub acts : ActsOn number c s
  pub after : (next : Connection) →
      connection_of (step c s).next next.number ≡ Some next →
      IsOpen next.state →
      AreApart (used_channels next) × ArePlaced (used_channels next)

pub steps_known : (settings : Parameters) (events : List Event) (s : Step) (number : ℕ) →
    AreAllowed settings →
    TookOctets settings events →
    IsOctetStep s →
    1 ≤ number →
    Steps (world settings events).controller s number
steps_known settings events s number allowed octets own from_one =
    let by_table = FollowsTable-new settings events in
    let steps = all_steps (new_actors settings) events in
    subst (λ (c : Controller). Steps c s number) (sym by_table)
    (let c : Controller = (life settings steps).next in
    let now : IsAfter c = life_after settings steps allowed in
    let after : IsAfter (step c s).next = run_step c s now.fits now.holds now.uses in
    record {
      sent = life_sends settings steps s allowed octets own;
      acts = life_acts settings steps s number from_one;
      after = λ next there is_open.
          let owns : Owns (step c s).next.channels (step c s).next.links next.number (roles_of next) = subst (OwnsOpen (step c s).next.channels (step c s).next.links next.number) there (after.holds.each next.number) is_open in
          (used_apart next owns.apart, owns_placed (step c s).next next (ready_uses (step c s).next (ready_by (step c s).next after.fits after.holds after.uses)) owns);
    })

-- its request is unchanged
pub names_known : (settings : Parameters) (events : List Event) (s : Step) (number : ℕ) →
    1 ≤ number →
    SameRequest (connection_of (world settings events).controller number) (connection_of (step (world settings events).controller s).next number)
names_known settings events s number from_one =
    subst (λ (c : Controller). SameRequest (connection_of c number) (connection_of (step c s).next number)) (sym (FollowsTable-new settings events)) (life_names settings (all_steps (new_actors settings) events) s number from_one).keeps_request

-- its entry
pub entry_there : (c : Controller) (number : ℕ) (s : Connection) →
    connection_of c number ≡ Some s →
    (e : Entry) × (entry_of c number ≡ Some e) × (e.connection ≡ s)
entry_there c number s there = by (entry_of c number) refl there where
  by : (o : Option Entry) →
      entry_of c number ≡ o →
      option_map (λ (e : Entry). e.connection) o ≡ Some s →
      (e : Entry) × (entry_of c number ≡ Some e) × (e.connection ≡ s)
  by None is found = absurd cc
  by (Some e) is found = (e, is, cc)
