-- SPDX-License-Identifier: MIT OR Apache-2.0
-- How far a change of channel is, step by step.
use Rattle.world_laws.proofs.Prelude.{◌≡◌, ℕ, ◌+◌, ◌≤◌, Bool, true, false, arith, on_serving, on_target, moving, gone, after_complete}
use Rattle.world_laws.proofs.Prelude.{IsHereOrGone, remains, left}
use Rattle.world_laws.specs.LineUp.Places.{Seat}
use Rattle.world_laws.specs.LineUp.Alive.{ChangePhase}
use Rattle.world_laws.specs.LineUp.Alive.ChangePhase.{opens, rests, waits, leaves, arrives, returns}

-- less on its way
pub phase_fewer : {opening changing : Bool} {seat : Seat} {c s x t k c' s' x' t' k' : ℕ} →
    c' ≤ c →
    s' ≤ s →
    x' ≤ x →
    t' ≤ t →
    k' ≤ k →
    ChangePhase opening changing c seat s x t k →
    ChangePhase opening changing c' seat s' x' t' k'
phase_fewer a b d e f (opens here none) = opens here (omega arith)
phase_fewer a b d e f (rests here none) = rests here (omega arith)
phase_fewer a b d e f (waits here one none) = waits here (omega arith) (omega arith)
phase_fewer a b d e f (leaves none) = leaves (omega arith)
phase_fewer a b d e f (arrives here none one) = arrives here (omega arith) (omega arith)
phase_fewer a b d e f (returns here none one) = returns here (omega arith) (omega arith)

pub phase_serving : {opening changing : Bool} {seat : Seat} {c s x t k s' : ℕ} →
    s' ≤ s →
    ChangePhase opening changing c seat s x t k →
    ChangePhase opening changing c seat s' x t k
phase_serving fewer phase = phase_fewer (omega arith) fewer (omega arith) (omega arith) (omega arith) phase

pub phase_target : {opening changing : Bool} {seat : Seat} {c s x t k x' t' : ℕ} →
    x' ≤ x →
    t' ≤ t →
    ChangePhase opening changing c seat s x t k →
    ChangePhase opening changing c seat s x' t' k
phase_target texts fewer phase = phase_fewer (omega arith) (omega arith) texts fewer (omega arith) phase

pub phase_link : {opening changing : Bool} {seat : Seat} {c s x t k k' : ℕ} →
    k' ≤ k →
    ChangePhase opening changing c seat s x t k →
    ChangePhase opening changing c seat s x t k'
phase_link fewer phase = phase_fewer (omega arith) (omega arith) (omega arith) (omega arith) fewer phase

-- ---- the mobile

pub phase_taken_on_serving : {opening changing : Bool} {c s x t k s' k' : ℕ} →
    s' + k' ≡ s + k →
    ChangePhase opening changing c on_serving s x t k →
    ChangePhase opening changing c on_serving s' x t k'
phase_taken_on_serving same (opens here none) = opens here none
phase_taken_on_serving same (rests here none) = rests here (omega arith)
phase_taken_on_serving same (waits here one none) = waits here one (omega arith)
phase_taken_on_serving same (arrives here none one) = elim here [ ]
phase_taken_on_serving same (returns here none one) = returns here none (omega arith)

pub phase_taken_on_target : {opening changing : Bool} {c s x t k x' t' k' : ℕ} →
    t' + k' ≡ t + k →
    ChangePhase opening changing c on_target s x t k →
    ChangePhase opening changing c on_target s x' t' k'
phase_taken_on_target same (opens here none) = elim here [ ]
phase_taken_on_target same (rests here none) = elim here [ ]
phase_taken_on_target same (waits here one none) = elim here [ ]
phase_taken_on_target same (arrives here none one) = arrives here none (omega arith)
phase_taken_on_target same (returns here none one) = elim here [ ]

pub phase_follows : {opening changing : Bool} {s x t k : ℕ} →
    ChangePhase opening changing 1 on_serving s x t k →
    ChangePhase opening changing 0 moving s x t k
phase_follows (opens here none) = absurd (omega arith)
phase_follows (rests here none) = absurd (omega arith)
phase_follows (waits here one none) = leaves (omega arith)
phase_follows (arrives here none one) = elim here [ ]
phase_follows (returns here none one) = absurd (omega arith)

pub phase_arrives : {opening changing : Bool} {c s x t k k' : ℕ} →
    k' ≡ 1 →
    ChangePhase opening changing c moving s x t k →
    ChangePhase opening changing c on_target s x t k'
phase_arrives one (opens here none) = elim here [ ]
phase_arrives one (rests here none) = elim here [ ]
phase_arrives one (waits here few none) = elim here [ ]
phase_arrives one (leaves none) = arrives remains (omega arith) (omega arith)
phase_arrives one (arrives here none few) = elim here [ ]
phase_arrives one (returns here none few) = elim here [ ]

pub phase_returns : {opening changing : Bool} {c s x t k k' : ℕ} →
    k' ≡ 1 →
    ChangePhase opening changing c moving s x t k →
    ChangePhase opening changing c on_serving s x t k'
phase_returns one (opens here none) = elim here [ ]
phase_returns one (rests here none) = elim here [ ]
phase_returns one (waits here few none) = elim here [ ]
phase_returns one (leaves none) = returns remains (omega arith) (omega arith)
phase_returns one (arrives here none few) = elim here [ ]
phase_returns one (returns here none few) = elim here [ ]

pub phase_dismissed_from_serving : {opening changing : Bool} {c s x t k : ℕ} →
    ChangePhase opening changing c on_serving s x t k →
    ChangePhase opening changing c gone s x t k
phase_dismissed_from_serving (opens here none) = opens left none
phase_dismissed_from_serving (rests here none) = rests left none
phase_dismissed_from_serving (waits here few none) = waits left few none
phase_dismissed_from_serving (arrives here none few) = elim here [ ]
phase_dismissed_from_serving (returns here none few) = returns left none few

pub phase_dismissed_from_target : {opening changing : Bool} {c s x t k : ℕ} →
    ChangePhase opening changing c on_target s x t k →
    ChangePhase opening changing c gone s x t k
phase_dismissed_from_target (opens here none) = elim here [ ]
phase_dismissed_from_target (rests here none) = elim here [ ]
phase_dismissed_from_target (waits here few none) = elim here [ ]
phase_dismissed_from_target (arrives here none few) = arrives left none few
phase_dismissed_from_target (returns here none few) = elim here [ ]

-- nothing of the flow is on its way from the target while the mobile is on the serving channel
pub phase_no_texts : {opening changing : Bool} {c s x t k : ℕ} → ChangePhase opening changing c on_serving s x t k → x ≡ 0
phase_no_texts (opens here none) = omega arith
phase_no_texts (rests here none) = omega arith
phase_no_texts (waits here few none) = omega arith
phase_no_texts (arrives here none few) = elim here [ ]
phase_no_texts (returns here none few) = omega arith

-- ---- the change of channel

pub phase_commands : {c s x t k : ℕ} {seat : Seat} → ChangePhase false false c seat s x t k → ChangePhase false true 1 seat s x t k
phase_commands (rests here none) = waits here (omega arith) (omega arith)

pub phase_completes : {opening : Bool} {c s x t k t' : ℕ} {seat : Seat} →
    t' + 1 ≤ t →
    ChangePhase opening true c seat s x t k →
    ChangePhase opening false c (after_complete seat) t' 0 0 k
phase_completes more (waits here few none) = absurd (omega arith)
phase_completes more (leaves none) = absurd (omega arith)
phase_completes more (arrives remains none few) = rests remains (omega arith)
phase_completes more (arrives left none few) = rests left (omega arith)
phase_completes more (returns here none few) = absurd (omega arith)

pub phase_reverts : {opening : Bool} {c s x t k s' : ℕ} {seat : Seat} →
    s' + 1 ≤ s →
    ChangePhase opening true c seat s x t k →
    IsHereOrGone on_serving seat × ChangePhase opening false c seat s' 0 0 k × (x ≡ 0)
phase_reverts more (waits here few none) = absurd (omega arith)
phase_reverts more (leaves none) = absurd (omega arith)
phase_reverts more (arrives here none few) = absurd (omega arith)
phase_reverts more (returns here none few) = (here, rests here (omega arith), omega arith)
