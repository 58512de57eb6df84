-- SPDX-License-Identifier: MIT OR Apache-2.0
-- The effect of a report for a connection that may not exist.
use Rattle.std.specs.Prelude.{ℕ, Bool, false, [], Option, Some, None}
use Rattle.conn_messages.specs.declared.channel.Place.{Place}
use Rattle.conn_rules.specs.declared.input.Input.TheVariants as inputs
use Rattle.controller_model.specs.Channels.{handover_offer}
use Rattle.controller_model.specs.Controller.{Controller, Entry, Turn, turn}
use Rattle.controller_model.specs.Life.{measured, measures}
use Rattle.controller.specs.Doing.{by_offer}
use Rattle.dtap_codec.specs.declared.report.Report.{Report}
use Rattle.ho_decision.specs.declared.decision.Decision.{Decision}
use Rattle.ho_decision.specs.declared.decision.Decision.TheVariants.{Stay, Move}

abbrev pub measures_in : Place → Option Entry → Bool
measures_in at None = false
measures_in at (Some e) = measures at e

abbrev pub measured_in : ℕ → Report → Controller → Option Entry → Turn
measured_in number report c None = turn [] c
measured_in number report c (Some e) = measured number report c e

-- the turn in which a handover to the cell begins if a row fits; a no-op otherwise
abbrev pub moved_in : ℕ → Controller → Option Entry → Turn
moved_in cell c None = turn [] c
moved_in cell c (Some e) =
    by_offer inputs.Move (handover_offer c e.connection.serving cell) c (Some e)

abbrev pub decided_in : Decision → Controller → Option Entry → Turn
decided_in Stay c o = turn [] c
decided_in (Move cell) c o = moved_in cell c o
