-- SPDX-License-Identifier: MIT OR Apache-2.0
-- The inputs with which or right after which a change may begin, and the cell of a handover.
use Rattle.std.specs.Prelude.{◌≤◌, Bool, true, false}
use Rattle.conn_messages.specs.declared.channel.Place.{Place}
use Rattle.conn_rules.specs.declared.input.Input.{Input}
use Rattle.conn_rules.specs.declared.input.Input.TheVariants as inputs
use Rattle.conn_rules.specs.declared.state.Stage.TheVariants.{Preparing}
use Rattle.conn_rules.specs.declared.state.State.{State}
use Rattle.conn_rules.specs.declared.state.State.TheVariants.{WaitActivation, Live}
use Rattle.conn_rules.specs.Connection.{Connection, is_at}
use Rattle.ho_decision.specs.declared.decision.Decision.{Decision}
use Rattle.ho_decision.specs.declared.decision.Decision.TheVariants.{Stay, Move}

-- whether the row of an input may depend on the offer
abbrev pub may_begin : Input → Bool
may_begin (inputs.AssignmentRequest is_speech) = true
may_begin (inputs.Complete at change cause) = true
may_begin (inputs.Failure at change cause) = true
may_begin (inputs.ActivationNack at) = true
may_begin (inputs.ReleaseAck at) = true
may_begin inputs.Move = true
may_begin _ = false

-- if the decision is a handover, its cell has a number of at least 1
abbrev pub HasCell : Decision → Type 0
HasCell Stay = Unit {0}
HasCell (Move cell) = 1 ≤ cell

-- whether a connection waits for the activation of the channel at this place: its access channel or
-- its target
abbrev pub awaits : State → Connection → Place → Bool
awaits WaitActivation s at = is_at at s.serving
awaits (Live reference (Preparing target)) s at = is_at at target.channel
awaits state s at = false
