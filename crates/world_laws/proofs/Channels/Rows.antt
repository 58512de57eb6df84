-- SPDX-License-Identifier: MIT OR Apache-2.0
-- Definitions of this crate at literal worlds: a mobile asks for a channel, and changes it.
use Rattle.world_laws.proofs.Prelude.{◌≡◌, ℕ, true, false, [], ◌∷◌, refl, Due, Active, Preparing, Changing, Draining, State}
use Rattle.world_laws.proofs.Prelude.{WaitActivation, WaitEstablish, WaitConfirm, Live, Closed, Removed, Connection, new_connection}
use Rattle.world_laws.proofs.Prelude.{place_at, Zero, RfChannelReleaseAck, Connect, Upper, AirUp, AirDown, Move, Arrive, BaseTakes}
use Rattle.world_laws.proofs.Prelude.{BasePush, Handle, SwitchDoes, Assign, actors_after_all, Actors, opened, after_all}
use Rattle.world_laws.proofs.Prelude.{acknowledgements_up, AcksAgree, AreActiveAt, ChannelsEnd, IsSilent}
use Rattle.octets.proofs.Hex.{hex}
use Rattle.world_model.proofs.Worlds.{on_literals}
use Rattle.world_laws.specs.Channels.Begun.{HasBegun, begun_in}
use Rattle.world_laws.proofs.Usual.{channel, to_0a, begin}

-- a connection on channel 41
abbrev one_in : State → Connection
one_in state = record (new_connection 1 (channel 1 0x41) (record { access = 7; frame = 0 }) 0) { state = state }

-- ---- which channels began

none_yet : begun_in WaitActivation (channel 1 0x41) ≡ []
none_yet = refl

first_one : (begun_in WaitEstablish (channel 1 0x41) ≡ channel 1 0x41 ∷ []) × (begun_in WaitConfirm (channel 1 0x41) ≡ channel 1 0x41 ∷ []) × (begun_in (Live 5 Active) (channel 1 0x41) ≡ channel 1 0x41 ∷ []) × (begun_in (Live 5 Draining) (channel 1 0x41) ≡ channel 1 0x41 ∷ [])
first_one = (refl, refl, refl, refl)

-- a target began once the mobile was commanded to it
no_target_yet : begun_in (Live 5 (Preparing to_0a)) (channel 1 0x41) ≡ channel 1 0x41 ∷ []
no_target_yet = refl

a_target : begun_in (Live 5 (Changing to_0a)) (channel 1 0x41) ≡ channel 1 0x41 ∷ channel 1 0x0a ∷ []
a_target = refl

none_any_more : (begun_in (Closed (Due 9)) (channel 1 0x41) ≡ []) × (begun_in Removed (channel 1 0x41) ≡ [])
none_any_more = (refl, refl)

-- ---- a mobile asks for a channel

-- the activation of channel 41 waits for the station
asked : Actors
asked = actors_after_all begin (Connect 7 1 (hex "05 24 71") true ∷ BasePush 1 ∷ Handle ∷ [])

-- its acknowledgement waits in the inbox
acknowledged : Actors
acknowledged = actors_after_all asked (BaseTakes 1 ∷ BasePush 1 ∷ [])

-- the controller took it
assigned_world : Actors
assigned_world = actors_after_all acknowledged (Handle ∷ [])

silent_at_first : IsSilent begin (place_at 1 0x41)
unfolding on_literals begin
silent_at_first = record { acknowledged = refl; brings = refl }

not_silent : IsSilent acknowledged (place_at 1 0x41) → ⊥
unfolding on_literals begin asked acknowledged
not_silent silent = let none = silent.acknowledged in absurd cc

silent_elsewhere : IsSilent acknowledged (place_at 1 0x49)
unfolding on_literals begin asked acknowledged
silent_elsewhere = record { acknowledged = refl; brings = refl }

waits_for_it : HasBegun asked (one_in WaitActivation)
waits_for_it = tt

not_begun : (HasBegun asked (one_in WaitEstablish) → ⊥) × (HasBegun acknowledged (one_in WaitEstablish) → ⊥)
unfolding on_literals begin asked acknowledged
not_begun = (λ begun. (let none = begun.0 in absurd cc), λ begun. (let none = begun.0 in absurd cc))

has_begun : HasBegun assigned_world (one_in WaitEstablish)
unfolding on_literals begin asked acknowledged assigned_world
has_begun = (refl, tt)

not_active : AreActiveAt 1 asked (one_in WaitEstablish) → ⊥
unfolding on_literals begin asked
not_active active = let is = active.0 refl in absurd cc

-- nothing is said of another station's channels
beside_the_station : AreActiveAt 2 asked (one_in WaitEstablish)
unfolding on_literals begin asked
beside_the_station = ((λ is. absurd cc), tt)

active_there : AreActiveAt 1 assigned_world (one_in WaitEstablish)
unfolding on_literals begin asked acknowledged assigned_world
active_there = ((λ is. refl), tt)

-- nor of a target to which the mobile wasn't commanded
target_not_active : AreActiveAt 1 assigned_world (one_in (Live 5 (Preparing to_0a))) × (AreActiveAt 1 assigned_world (one_in (Live 5 (Changing to_0a))) → ⊥)
unfolding on_literals begin asked acknowledged assigned_world
target_not_active = (((λ is. refl), tt), λ active. (let is = active.1.0 refl in absurd cc))

-- ---- it changed to channel 0A, and the RF CHANNEL RELEASE ACK of channel 41 is on its way

draining : Actors
draining = (after_all opened (
    Upper 1 Zero (hex "03 05") ∷ AirUp 1 Zero ∷ SwitchDoes (Assign 1) ∷ BasePush 0 ∷ Handle ∷ BaseTakes 1 ∷ BasePush 1 ∷ Handle ∷ BasePush 1 ∷ Handle ∷ BaseTakes 1 ∷ AirDown 1 ∷ Move 1 ∷ Arrive 1 ∷ AirUp 1 Zero ∷ BasePush 1 ∷ Handle
    ∷ BasePush 1 ∷ Handle ∷ BaseTakes 1 ∷ BasePush 1 ∷ [])).actors

-- the connection on channel 0A, whose old one is 41, or the other way round
abbrev moved : ℕ → ℕ → Connection
moved serving old = record (new_connection 1 (channel 1 serving) (record { access = 7; frame = 0 }) 0) {
  state = Live 0x800001 Draining;
  draining = record { channel = channel 1 old; is_done = false } ∷ [];
}

its_end_comes : acknowledgements_up draining (place_at 1 0x41) ≡ RfChannelReleaseAck 0x41 ∷ []
unfolding on_literals draining
its_end_comes = refl

old_one_ends : AcksAgree draining (moved 0x0a 0x41)
unfolding on_literals draining
old_one_ends = record { old_end = (((λ is. refl), tt), tt); others_continue = (tt, tt) }

serving_one_ends : AcksAgree draining (moved 0x41 0x0a) → ⊥
unfolding on_literals draining
serving_one_ends agree = let none = agree.others_continue.0.0 in absurd cc

nothing_behind : ChannelsEnd draining (moved 0x0a 0x41)
unfolding on_literals draining
nothing_behind = record { old = (refl, tt); others = (refl, tt) }

serving_one_continues : ChannelsEnd draining (moved 0x41 0x0a) → ⊥
unfolding on_literals draining
serving_one_continues end = let is = end.others.0 in absurd cc
