-- SPDX-License-Identifier: MIT OR Apache-2.0
-- The views of a controller's connections.
use Rattle.std.specs.Prelude.{List, length, map}
use Rattle.conn_fsm.specs.Views.{joined}
use Rattle.conn_rules.specs.Connection.{Connection}
use Rattle.conn_rules.specs.declared.state.Stage.{Stage}
use Rattle.conn_rules.specs.declared.state.Stage.TheVariants as stages
use Rattle.conn_rules.specs.declared.state.State.{State}
use Rattle.conn_rules.specs.declared.state.State.TheVariants as states
use Rattle.controller_model.specs.Controller.{Entry}
use Rattle.dtap_codec.specs.declared.sapi.Sapi.TheVariants.{Zero, Three}
use Rattle.hold_queue.specs.HoldState.{messages}
use Rattle.connection_notes.specs.declared.sight.Phase.{Phase}
use Rattle.connection_notes.specs.declared.sight.Phase.TheVariants as phases
use Rattle.connection_notes.specs.declared.sight.Sight.{Sight}

abbrev pub phase_in : Stage → Phase
phase_in stages.Active = phases.Active
phase_in (stages.Preparing target) = phases.Preparing
phase_in (stages.Changing target) = phases.Changing
phase_in stages.Draining = phases.Draining

-- the phase of a connection in this state; a removed connection is absent
abbrev pub phase_of : State → Phase
phase_of states.WaitActivation = phases.WaitActivation
phase_of states.WaitEstablish = phases.WaitEstablish
phase_of states.WaitConfirm = phases.WaitConfirm
phase_of (states.Live reference stage) = phase_in stage
phase_of (states.Closed clearing) = phases.Closed
phase_of states.Removed = phases.Absent

abbrev pub sight_of : Connection → Sight
sight_of s = record {
  number = s.number;
  phase = phase_of s.state;
  down_zero = length (messages s.down Zero);
  down_three = length (messages s.down Three);
  up_zero = length (joined Zero s.up.tenures);
  up_three = length (joined Three s.up.tenures);
}

abbrev pub sights_of : List Entry → List Sight
sights_of entries = map (λ e. sight_of e.connection) entries
