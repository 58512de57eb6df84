-- SPDX-License-Identifier: MIT OR Apache-2.0
-- The entries that wait for a station, and the acknowledgements on their way from a channel, in
-- literal worlds.
use Rattle.world_model.proofs.Prelude.{◌⊎◌, inl, inr, ◌≡◌, ℕ, ◌+◌, true, false, List, [], ◌∷◌, Some, refl, arith, Place, Free, InUse}
use Rattle.world_model.proofs.Prelude.{Releasing, channel_state, place_at, usual_settings, activation_ack, Rsl, RfChannelReleaseAck}
use Rattle.world_model.proofs.Prelude.{Connect, BaseTakes, BasePush, BaseDown, Handle, nothing, began, begins, ends, begins_and_ends}
use Rattle.world_model.proofs.Prelude.{actors_after_all, Actors, new_actors, outbox_of}
use Rattle.octets.proofs.Hex.{hex}
use Rattle.world_model.specs.OwnerLines.{AreFitting, IsOwed, active_behind, asker, tenure_behind, to_arrive}
use Rattle.world_model.proofs.Worlds.{on_literals}

begin : Actors
begin = new_actors usual_settings

at : Place
at = place_at 1 0x41

-- a mobile asks for a channel of the first cell; the controller puts the activation of channel 41
asked : Actors
asked = actors_after_all begin (Connect 7 1 (hex "05 24 71") true ∷ BasePush 1 ∷ Handle ∷ [])

-- the station took it; its acknowledgement is in the inbox
begun : Actors
begun = actors_after_all asked (BaseTakes 1 ∷ BasePush 1 ∷ [])

-- the IMMEDIATE ASSIGNMENT waits
told : Actors
told = actors_after_all begun (Handle ∷ [])

free_at_first : (to_arrive begin at ≡ []) × (active_behind begin at ≡ false) × (tenure_behind begin at ≡ record { at = place_at 1 0x41; number = 0 }) × (channel_state begin.controller at ≡ Free)
unfolding on_literals begin at
free_at_first = (refl, refl, refl, refl)

one_waits : (to_arrive asked at ≡ activation_ack 0x41 ∷ []) × (active_behind asked at ≡ true) × (tenure_behind asked at ≡ record { at = place_at 1 0x41; number = 1 }) × (channel_state asked.controller at ≡ InUse 1) × (asker asked.controller 1 ≡ Some 7)
unfolding on_literals begin at asked
one_waits = (refl, refl, refl, refl, refl)

-- as on its way
one_comes : (to_arrive begun at ≡ activation_ack 0x41 ∷ []) × (active_behind begun at ≡ true) × (tenure_behind begun at ≡ record { at = place_at 1 0x41; number = 1 })
unfolding on_literals begin at asked begun
one_comes = (refl, refl, refl)

-- another channel has none
none_elsewhere : to_arrive begun (place_at 1 0x49) ≡ []
unfolding on_literals begin asked begun
none_elsewhere = refl

-- it was taken
none_arrives : (to_arrive told at ≡ []) × (active_behind told at ≡ true)
unfolding on_literals begin at asked begun told
none_arrives = (refl, refl)

-- what waited is lost with the link, what is in the inbox isn't
lost : (to_arrive (actors_after_all asked (BaseDown 1 ∷ [])) at ≡ []) × (to_arrive (actors_after_all begun (BaseDown 1 ∷ [])) at ≡ activation_ack 0x41 ∷ [])
unfolding on_literals begin at asked begun
lost = (refl, refl)

-- the assignment names mobile 7 in the first tenure
names_it : AreFitting (λ t. t.number + 6) at true 1 (outbox_of told 1)
unfolding on_literals begin at asked begun told
names_it = ((λ _. refl), tt)

names_another : AreFitting (λ t. t.number + 6) at true 2 (outbox_of told 1) → ⊥
unfolding on_literals begin at asked begun told
names_another fits = absurd (omega (arith, fits.0 refl))

-- it says nothing of another channel
names_elsewhere : AreFitting (λ t. t.number) (place_at 1 0x49) true 2 (outbox_of told 1)
unfolding on_literals begin asked begun told
names_elsewhere = ((λ is. absurd (omega (arith, is))), tt)

-- an activation waits for a channel that isn't active
activates : AreFitting (λ t. 0) at false 4 (outbox_of asked 1)
unfolding on_literals begin at asked
activates = ((λ _. (refl, omega arith)), tt)

activates_twice : AreFitting (λ t. 0) at true 4 (outbox_of asked 1) → ⊥
unfolding on_literals begin at asked
activates_twice fits = absurd (false_true (fits.0 refl).0) where
  false_true : true ≡ false → ⊥
  false_true is = absurd cc

-- ---- what fits a state

-- nothing of a free channel
free_says_nothing : (xs : List Rsl) → IsOwed 5 Free xs → xs ≡ []
free_says_nothing xs nothing = refl

-- of one in use its activation at most
in_use : (n : ℕ) (xs : List Rsl) → IsOwed 5 (InUse n) xs → (xs ≡ []) ⊎ (xs ≡ activation_ack 5 ∷ [])
in_use n xs began = inl refl
in_use n xs begins = inr refl

-- of one that is releasing its end
releasing : (n : ℕ) (xs : List Rsl) →
    IsOwed 5 (Releasing n) xs →
    (xs ≡ RfChannelReleaseAck 5 ∷ []) ⊎ (xs ≡ activation_ack 5 ∷ RfChannelReleaseAck 5 ∷ [])
releasing n xs ends = inl refl
releasing n xs begins_and_ends = inr refl
