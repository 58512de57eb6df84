-- SPDX-License-Identifier: MIT OR Apache-2.0
-- Why the line is intact, or isn't, step by step.
use Rattle.world_laws.proofs.Prelude.{◌≡◌, Bool, true, false, ◌||◌, ◌⊎◌, inl, inr, refl, on_serving, on_target, moving, after_complete}
use Rattle.world_laws.proofs.Prelude.{IsHereOrGone, Condition, remains, left, sound, left_the_cell, lost_old, lost_serving, lost_target}
use Rattle.world_laws.specs.LineUp.Places.{Seat}

pub condition_intact : {seat : Seat} {o s t ok : Bool} → ok ≡ true → Condition seat o s t ok → (o ≡ false) × (s ≡ false) × (t ≡ false)
condition_intact is sound = (refl, refl, refl)
condition_intact is (lost_target here) = absurd cc
condition_intact is _ = absurd cc

-- while a station takes messages of the mobile, something is missing before its channel alone
pub condition_on_serving : {o s t ok : Bool} → ok ≡ false → s ≡ false → Condition on_serving o s t ok → o ≡ true
condition_on_serving isnt whole sound = absurd cc
condition_on_serving isnt whole lost_old = refl
condition_on_serving isnt whole lost_serving = absurd cc
condition_on_serving isnt whole (lost_target here) = elim here [ ]

pub condition_on_target : {o s t ok : Bool} → ok ≡ false → t ≡ false → Condition on_target o s t ok → (o ≡ true) ⊎ (s ≡ true)
condition_on_target isnt whole sound = absurd cc
condition_on_target isnt whole lost_old = inl refl
condition_on_target isnt whole lost_serving = inr refl
condition_on_target isnt whole (lost_target here) = absurd cc

pub condition_follows : {o s t ok : Bool} → Condition on_serving o s t ok → Condition moving o s t ok
condition_follows sound = sound
condition_follows lost_old = lost_old
condition_follows lost_serving = lost_serving
condition_follows (lost_target here) = elim here [ ]

pub condition_arrives : {o s t ok : Bool} → Condition moving o s t ok → Condition on_target o s t ok
condition_arrives sound = sound
condition_arrives lost_old = lost_old
condition_arrives lost_serving = lost_serving
condition_arrives (lost_target here) = elim here [ ]

pub condition_returns : {o s t ok : Bool} → Condition moving o s t ok → Condition on_serving o s t ok
condition_returns sound = sound
condition_returns lost_old = lost_old
condition_returns lost_serving = lost_serving
condition_returns (lost_target here) = elim here [ ]

pub condition_completes : {seat : Seat} {o s t ok : Bool} → Condition seat o s t ok → Condition (after_complete seat) (o || s) t false ok
condition_completes sound = sound
condition_completes left_the_cell = left_the_cell
condition_completes lost_old = lost_old
condition_completes (lost_serving {old = true}) = lost_old
condition_completes (lost_serving {old = false}) = lost_old
condition_completes (lost_target here) = lost_serving

pub condition_reverts : {seat : Seat} {o s t ok : Bool} →
    IsHereOrGone on_serving seat →
    Condition seat o s t ok →
    Condition seat o s false ok
condition_reverts unchanged sound = sound
condition_reverts unchanged left_the_cell = left_the_cell
condition_reverts unchanged lost_old = lost_old
condition_reverts unchanged lost_serving = lost_serving
condition_reverts unchanged (lost_target remains) = elim unchanged [ ]
condition_reverts unchanged (lost_target left) = left_the_cell
