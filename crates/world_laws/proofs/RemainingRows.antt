-- SPDX-License-Identifier: MIT OR Apache-2.0
-- Definitions at literal values: what is due for a channel.
use Rattle.world_laws.proofs.Prelude.{◌≡◌, true, false, [], ◌∷◌, refl, Free, InUse, Releasing, place_at, activation_ack}
use Rattle.world_laws.proofs.Prelude.{RfChannelReleaseAck, is_in_use}
use Rattle.world_laws.specs.Remaining.{IsDueIn, after_ack, due_for}

-- a channel that is releasing has an RF CHANNEL RELEASE ACK due at the end, and no other has one
due : IsDueIn (Releasing 3) (activation_ack 0x41 ∷ RfChannelReleaseAck 0x41 ∷ []) × IsDueIn (Releasing 3) (RfChannelReleaseAck 0x41 ∷ []) × IsDueIn (InUse 3) (activation_ack 0x41 ∷ []) × IsDueIn Free []
due = ((refl, refl), refl, (refl, tt), tt)

not_due : (IsDueIn (Releasing 3) [] → ⊥) × (IsDueIn (Releasing 3) (RfChannelReleaseAck 0x41 ∷ activation_ack 0x41 ∷ []) → ⊥) × (IsDueIn (InUse 3) (RfChannelReleaseAck 0x41 ∷ []) → ⊥) × (IsDueIn Free (RfChannelReleaseAck 0x41 ∷ []) → ⊥)
not_due = (λ is. is, λ is. let first = is.0 in absurd cc, λ is. let first = is.0 in absurd cc, λ is. let first = is.0 in absurd cc)

-- which state an acknowledgement leaves
after : (after_ack true (Releasing 3) ≡ Free) × (after_ack false (Releasing 3) ≡ Releasing 3) × (after_ack true (InUse 3) ≡ InUse 3)
after = (refl, refl, refl)

nothing_put : (due_for (place_at 1 0x41) true [] ≡ []) × (is_in_use (InUse 3) ≡ true) × (is_in_use Free ≡ false) × (is_in_use (Releasing 3) ≡ false)
nothing_put = (refl, refl, refl, refl)
