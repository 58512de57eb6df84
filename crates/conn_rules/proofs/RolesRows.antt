-- SPDX-License-Identifier: MIT OR Apache-2.0
-- The definitions of roles, at literal roles: a connection on channel 41 of station 1, whose target
-- is channel 0A of station 2.
use Rattle.conn_rules.proofs.Prelude.{◌≡◌, ℕ, Bool, true, false, [], ◌∷◌, Option, Some, None, refl, Assignment, Handover, Channel, Place, hex}
use Rattle.conn_rules.proofs.Prelude.{channel_release, rf_channel_release, Drain, unchanged, commands, completes, reverts, leaves, drops}
use Rattle.conn_rules.proofs.Prelude.{dismisses}
use Rattle.conn_rules.specs.declared.input.Input.TheVariants as inputs
use Rattle.conn_rules.specs.Roles.{TargetRole, Roles, after_step, step_by, step_orders, end_messages, those_sent, still_draining}

abbrev channel : ℕ → ℕ → Channel
channel station number = record {
  station = station;
  number = number;
  cell = hex "00 00 f1 10 00 01 00 01";
  description = record { arfcn = 20; ncc = 1; bcc = 2 };
  reference = record { 0 = 0 };
}

abbrev place : ℕ → ℕ → Place
place station number = record { station = station; number = number }

abbrev drain : ℕ → ℕ → Bool → Drain
drain station number is_done = record { channel = channel station number; is_done = is_done }

abbrev target : Bool → TargetRole
target is_commanded = record { target = record { change = Handover; channel = channel 2 0x0a }; is_commanded = is_commanded }

-- 49 of station 1 drains, and 41 of station 2 behind it
abbrev roles : Option TargetRole → Roles
roles to = record { serving = channel 1 0x41; target = to; draining = drain 1 0x49 false ∷ drain 2 0x41 false ∷ [] }

-- ---- which step an input brings

acknowledged_target : step_by (inputs.ActivationAck (place 2 0x0a)) (roles (Some (target false))) ≡ commands
acknowledged_target = refl

acknowledged_elsewhere : step_by (inputs.ActivationAck (place 1 0x0a)) (roles (Some (target false))) ≡ unchanged
acknowledged_elsewhere = refl

acknowledged_again : step_by (inputs.ActivationAck (place 2 0x0a)) (roles (Some (target true))) ≡ unchanged
acknowledged_again = refl

refused_target : step_by (inputs.ActivationNack (place 2 0x0a)) (roles (Some (target false))) ≡ reverts
refused_target = refl

completed_handover : step_by (inputs.Complete (place 2 0x0a) Handover (record { 0 = 0 })) (roles (Some (target true))) ≡ completes
completed_handover = refl

completed_assignment : step_by (inputs.Complete (place 2 0x0a) Assignment (record { 0 = 0 })) (roles (Some (target true))) ≡ unchanged
completed_assignment = refl

completed_uncommanded : step_by (inputs.Complete (place 2 0x0a) Handover (record { 0 = 0 })) (roles (Some (target false))) ≡ unchanged
completed_uncommanded = refl

failed_on_serving : step_by (inputs.Failure (place 1 0x41) Handover (record { 0 = 0 })) (roles (Some (target true))) ≡ reverts
failed_on_serving = refl

failed_on_target : step_by (inputs.Failure (place 2 0x0a) Handover (record { 0 = 0 })) (roles (Some (target true))) ≡ unchanged
failed_on_target = refl

released_second : step_by (inputs.ReleaseAck (place 2 0x41)) (roles None) ≡ leaves 1
released_second = refl

released_serving : step_by (inputs.ReleaseAck (place 1 0x41)) (roles None) ≡ unchanged
released_serving = refl

released_done : step_by (inputs.ReleaseAck (place 2 0x41)) (record { serving = channel 1 0x41; target = None; draining = drain 1 0x49 false ∷ drain 2 0x41 true ∷ [] }) ≡ unchanged
released_done = refl

-- ---- the roles behind it

after_complete : after_step completes (roles (Some (target true))) ≡
    record { serving = channel 2 0x0a; target = None; draining = drain 1 0x49 false ∷ drain 2 0x41 false ∷ drain 1 0x41 false ∷ [] }
after_complete = refl

-- not the oldest: it is done, and is kept
after_second : after_step (leaves 1) (roles None) ≡ record { serving = channel 1 0x41; target = None; draining = drain 1 0x49 false ∷ drain 2 0x41 true ∷ [] }
after_second = refl

after_oldest : after_step (leaves 0) (roles None) ≡ record { serving = channel 1 0x41; target = None; draining = drain 2 0x41 false ∷ [] }
after_oldest = refl

two_leave : still_draining (drain 1 0x49 true ∷ drain 2 0x41 true ∷ drain 1 0x0a false ∷ drain 1 0x0b true ∷ []) ≡ drain 1 0x0a false ∷ drain 1 0x0b true ∷ []
two_leave = refl

-- ---- what is ordered

refused_target_orders : step_orders reverts (roles (Some (target false))) ≡ []
refused_target_orders = refl

failed_target_orders : step_orders reverts (roles (Some (target true))) ≡ rf_channel_release (channel 2 0x0a) ∷ []
failed_target_orders = refl

dismissed : end_messages (dismisses 1) (roles (Some (target false))) ≡ channel_release (channel 1 0x41) 1 ∷ rf_channel_release (channel 1 0x41) ∷ rf_channel_release (channel 2 0x0a) ∷ []
dismissed = refl

dismissed_without_serving : those_sent (inputs.StationDown 1) (end_messages (dismisses 1) (roles (Some (target false)))) ≡ rf_channel_release (channel 2 0x0a) ∷ []
dismissed_without_serving = refl

dismissed_without_target : those_sent (inputs.StationDown 2) (end_messages (dismisses 1) (roles (Some (target false)))) ≡ channel_release (channel 1 0x41) 1 ∷ rf_channel_release (channel 1 0x41) ∷ []
dismissed_without_target = refl

dropped : end_messages drops (roles None) ≡ rf_channel_release (channel 1 0x41) ∷ []
dropped = refl
