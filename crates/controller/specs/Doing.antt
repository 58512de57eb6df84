-- SPDX-License-Identifier: MIT OR Apache-2.0
-- The effect of a call on the controller and on the outputs.
use Rattle.std.specs.Prelude.{◌≡◌, ℕ, Bool, false, List, [], ◌++◌, fold, Option, Some}
use Rattle.std.specs.Prelude.{None, Result, OnErr}
use Rattle.std.specs.Option.{is_some}
use Rattle.conn_messages.specs.declared.channel.Channel.{Channel}
use Rattle.conn_messages.specs.declared.message.Message.{Message}
use Rattle.conn_messages.specs.declared.out.Out.{Out}
use Rattle.conn_rules.specs.declared.input.Input.{Input}
use Rattle.conn_rules.specs.Table.{row_of}
use Rattle.controller_model.specs.Controller.{Controller, Entry, Turn, turn, channels_after}
use Rattle.controller_model.specs.Life.{by_fitting, handovers_after, row_in}

-- the controller is the one after the turn, and the turn's frames are appended to the outputs
abbrev pub Turns : Turn → Controller → Controller → List Out → List Out → Type 0
Turns t old new outs outs_after = (new ≡ t.next) × (outs_after ≡ outs ++ t.outs)

-- the controller and the outputs are unchanged
abbrev pub IsUnchanged : Controller → Controller → List Out → List Out → Type 0
IsUnchanged old new outs outs_after = (new ≡ old) × (outs_after ≡ outs)

-- an `Err` leaves the controller and the outputs as they were
abbrev pub UnchangedOnErr : {T E : Type 0} → Result T E →
    Controller → Controller → List Out → List Out → Type 0
UnchangedOnErr result old new outs outs_after = OnErr result (IsUnchanged old new outs outs_after)

-- whether there is a connection and a row of it fits the input
abbrev pub fits_in : Controller → Input → Option Entry → Bool
fits_in c input None = false
fits_in c input (Some e) = is_some (row_in c e.connection input)

abbrev pub fits_with : Input → Option Channel → Option Entry → Bool
fits_with input offer None = false
fits_with input offer (Some e) = is_some (row_of e.connection input offer)

-- the turn in which the connection does the row that fits with this offer; a no-op if no row fits
abbrev pub by_offer : Input → Option Channel → Controller → Option Entry → Turn
by_offer input offer c None = turn [] c
by_offer input offer c (Some e) = by_fitting (turn [] c) e (row_of e.connection input offer) c

-- the channels and the count of handovers after a connection put these messages
abbrev pub following : ℕ → List Message → Controller → Controller
following number messages c = record c {
  channels = fold (channels_after number) c.channels messages;
  handovers = handovers_after c.handovers messages;
}
