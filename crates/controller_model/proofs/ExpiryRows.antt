-- SPDX-License-Identifier: MIT OR Apache-2.0
-- What expires in each state, one millisecond before each timer's time and at it. No two timers
-- have the same time.
use Rattle.controller_model.proofs.Prelude.{◌≡◌, ℕ, Option, Some, None, refl, hex, Assignment, Handover, Channel}
use Rattle.controller_model.proofs.Prelude.{Input, State, Connection, Target, new_connection}
use Rattle.controller_model.proofs.Prelude.{Active, Changing, Draining, Preparing, Closed, Live, Removed, WaitActivation, WaitConfirm, WaitEstablish}
use Rattle.controller_model.proofs.Prelude.{expiry, Complete}
use Rattle.conn_messages.specs.declared.channel.Change.{Change}
use Rattle.conn_rules.specs.declared.input.Input.TheVariants as inputs
use Rattle.settings.specs.declared.timers.Timers.{Timers}

-- T3101 3000 ms, T3103 5000 ms, T3107 7000 ms; the drain time 11000 ms
abbrev timers : Timers
timers = record { t3101_ms = 3000; t3103_ms = 5000; t3107_ms = 7000; drain_ms = 11000 }

abbrev channel : ℕ → Channel
channel number = record {
  station = 1;
  number = number;
  cell = hex "00 00 f1 10 00 01 00 01";
  description = record { arfcn = 20; ncc = 1; bcc = 1 };
  reference = record { 0 = 0 };
}

abbrev target : Change → Target
target change = record { change = change; channel = channel 0x0a }

-- a connection that was in a state for so long, and whose oldest channel drains for so long
abbrev waiting : State → ℕ → ℕ → Connection
waiting state waited drained =
    record (new_connection 1 (channel 0x41) (record { access = 0x7f; frame = 0x0102 }) 5) {
      state = state;
      waited = waited;
      drained = drained;
    }

-- what expires in a state
abbrev after_ms : State → ℕ → Option Input
after_ms state waited = expiry timers (waiting state waited 0)

-- ---- T3101, which begins anew when the mobile was assigned its channel

activation_waits : after_ms WaitActivation 2999 ≡ None
activation_waits = refl

activation_expires : after_ms WaitActivation 3000 ≡ Some inputs.Expiry
activation_expires = refl

establishment_waits : after_ms WaitEstablish 2999 ≡ None
establishment_waits = refl

establishment_expires : after_ms WaitEstablish 3000 ≡ Some inputs.Expiry
establishment_expires = refl

establishment_expires_late : after_ms WaitEstablish 4000000000 ≡ Some inputs.Expiry
establishment_expires_late = refl

-- ---- T3107 for an assignment, T3103 for a handover, in Preparing and anew in Changing

assignment_is_prepared : after_ms (Live 0x800001 (Preparing (target Assignment))) 6999 ≡ None
assignment_is_prepared = refl

prepared_assignment_expires : after_ms (Live 0x800001 (Preparing (target Assignment))) 7000 ≡ Some inputs.Expiry
prepared_assignment_expires = refl

handover_is_prepared : after_ms (Live 0x800001 (Preparing (target Handover))) 4999 ≡ None
handover_is_prepared = refl

prepared_handover_expires : after_ms (Live 0x800001 (Preparing (target Handover))) 5000 ≡ Some inputs.Expiry
prepared_handover_expires = refl

assignment_is_made : after_ms (Live 0x800001 (Changing (target Assignment))) 6999 ≡ None
assignment_is_made = refl

commanded_assignment_expires : after_ms (Live 0x800001 (Changing (target Assignment))) 7000 ≡ Some inputs.Expiry
commanded_assignment_expires = refl

handover_is_made : after_ms (Live 0x800001 (Changing (target Handover))) 4999 ≡ None
handover_is_made = refl

commanded_handover_expires : after_ms (Live 0x800001 (Changing (target Handover))) 5000 ≡ Some inputs.Expiry
commanded_handover_expires = refl

-- ---- the others have no timer, however long they wait

confirmation_has_no_timer : after_ms WaitConfirm 4000000000 ≡ None
confirmation_has_no_timer = refl

rest_has_no_timer : after_ms (Live 0x800001 Active) 4000000000 ≡ None
rest_has_no_timer = refl

draining_has_no_timer : after_ms (Live 0x800001 Draining) 4000000000 ≡ None
draining_has_no_timer = refl

clearing_has_no_timer : after_ms (Closed Complete) 4000000000 ≡ None
clearing_has_no_timer = refl

removed_has_no_timer : after_ms Removed 4000000000 ≡ None
removed_has_no_timer = refl

-- ---- the drain time is a timer of its own, behind the state's

oldest_drains : expiry timers (waiting (Live 0x800001 Draining) 0 10999) ≡ None
oldest_drains = refl

drain_time_expires : expiry timers (waiting (Live 0x800001 Draining) 0 11000) ≡ Some inputs.DrainExpiry
drain_time_expires = refl

drain_time_expires_in_a_change : expiry timers (waiting (Live 0x800001 (Preparing (target Assignment))) 6999 11000) ≡ Some inputs.DrainExpiry
drain_time_expires_in_a_change = refl

state_is_first : expiry timers (waiting (Live 0x800001 (Preparing (target Assignment))) 7000 11000) ≡ Some inputs.Expiry
state_is_first = refl
