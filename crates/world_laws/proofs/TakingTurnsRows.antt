-- SPDX-License-Identifier: MIT OR Apache-2.0
-- Definitions at literal values: the orders for a channel, and their turns.
use Rattle.world_laws.proofs.Prelude.{◌≡◌, [], Some, None, refl, Free, InUse, Releasing, Take, Nothing, OnChannel, place_at}
use Rattle.world_laws.proofs.Prelude.{RfChannelRelease, RfChannelReleaseAck, Spares, TakesTurns, Turns, freed_by, order_by}
use Rattle.conn_rules.specs.declared.input.Input.TheVariants as inputs
use Rattle.controller_model.specs.declared.step.Step.TheVariants.{Tick}
use Rattle.ruled_relay.specs.declared.item.What.TheVariants as whats
use Rattle.world_laws.specs.TakingTurns.Order.{activates, releases}

-- a release of the channel, of another one, and what is no order
orders : (order_by 0x41 (Some (RfChannelRelease 0x41)) ≡ Some releases) × (order_by 0x41 (Some (RfChannelRelease 0x0a)) ≡ None) × (order_by 0x41 (Some (RfChannelReleaseAck 0x41)) ≡ None) × (order_by 0x41 None ≡ None)
orders = (refl, refl, refl, refl)

-- a free channel is activated, one in use is released, and none else
in_turn : Turns (Some activates) Free (InUse 3) × Turns (Some releases) (InUse 3) (Releasing 3) × Turns None (Releasing 3) (Releasing 3)
in_turn = ((refl, 3, refl), (3, refl, refl), refl)

out_of_turn : (Turns (Some activates) (Releasing 3) (InUse 4) → ⊥) × (Turns (Some releases) Free (Releasing 3) → ⊥) × (Turns (Some releases) (Releasing 3) (Releasing 3) → ⊥) × (Turns None Free (InUse 3) → ⊥)
out_of_turn = (λ t. absurd cc, λ t. let is = t.1 in absurd cc, λ t. let is = t.1 in absurd cc, λ t. absurd cc)

nothing_ordered : TakesTurns (place_at 1 0x41) Free [] Free × (TakesTurns (place_at 1 0x41) Free [] (InUse 1) → ⊥)
nothing_ordered = (refl, λ t. absurd cc)

-- which channel an RF CHANNEL RELEASE ACK frees
freed : freed_by (place_at 1 0x41) (OnChannel (place_at 1 0x41) (inputs.ReleaseAck (place_at 1 0x41))) (Releasing 3) ≡ Free
freed = refl

not_freed : (freed_by (place_at 1 0x41) (OnChannel (place_at 1 0x0a) (inputs.ReleaseAck (place_at 1 0x0a))) (Releasing 3) ≡ Releasing 3) × (freed_by (place_at 1 0x41) (OnChannel (place_at 1 0x41) (inputs.ReleaseAck (place_at 1 0x41))) (InUse 3) ≡ InUse 3) × (freed_by (place_at 1 0x41) Nothing (Releasing 3) ≡ Releasing 3)
not_freed = (refl, refl, refl)

-- the link of another station breaks
spared : Spares (place_at 1 0x41) (Take (record { source = 2; what = whats.Down })) × Spares (place_at 1 0x41) (Tick 100)
spared = (λ is same. absurd cc, tt)

not_spared : Spares (place_at 1 0x41) (Take (record { source = 1; what = whats.Down })) → ⊥
not_spared spares = spares refl refl
