-- SPDX-License-Identifier: MIT OR Apache-2.0
-- Channels that are given or offered are channels of cells.
use Rattle.controller.proofs.Prelude.{◌≡◌, ℕ, ◌≤◌, ◌<◌, List, length, slice_get, Option, Some, None, refl, rules, Input, Row, ChannelState}
use Rattle.controller.proofs.Prelude.{Entry, Parameters}
use Rattle.std.proofs.Common.{◌-◌, option_map}
use Rattle.std.specs.Option.{option_and_then}
use Rattle.std.proofs.lemmas.Option.{slice_get_within}
use Rattle.conn_rules.specs.Table.{row_of, serving_after}
use Rattle.connections.specs.Entries.{IsKept, IsOfCell, IsOffer, IsStation}
use Rattle.connections.specs.Steps.{after_row}
use Rattle.connections.proofs.Kept.{kept_after}
use Rattle.controller_model.specs.declared.channel_kind.ChannelKind.{ChannelKind}
use Rattle.controller_model.specs.Channels.{channel_in, channel_of_kind, free_channel, free_in}
use Rattle.settings.specs.Parameters.{CellParameters}

given_in : (p : Parameters) (station reference : ℕ) (cell : CellParameters) (number : Option ℕ) →
    IsStation p station →
    IsOffer p (option_map (channel_in p station reference cell) number)
given_in p station reference cell None is = tt
given_in p station reference cell (Some number) is = (is, tt)

in_cell : (p : Parameters) (channels : List (List ChannelState)) (station reference : ℕ) (kind : ChannelKind) (cell : Option CellParameters)
    → slice_get p.cells (station - 1) ≡ cell → 1 ≤ station → IsOffer p (option_and_then (channel_of_kind p channels station reference kind) cell)
in_cell p channels station reference kind None is one = tt
in_cell p channels station reference kind (Some cell) is one =
    given_in p station reference cell (free_in channels station kind cell) (one, reaches station (length p.cells) one (slice_get_within p.cells (station - 1) cell is)) where
      reaches : (n count : ℕ) → 1 ≤ n → n - 1 < count → n ≤ count
      reaches n count one within = search rules

pub free_is_offer : (p : Parameters) (channels : List (List ChannelState)) (station reference : ℕ) (kind : ChannelKind) →
    1 ≤ station →
    IsOffer p (free_channel p channels station reference kind)
free_is_offer p channels station reference kind one = in_cell p channels station reference kind (slice_get p.cells (station - 1)) refl one

serves_in : (p : Parameters) (e : Entry) (r : Option Row) → IsKept p (after_row p e r) → IsOfCell p (serving_after e.connection r)
serves_in p e None kept = kept.serving
serves_in p e (Some r) kept = kept.serving

pub serves_a_cell : (p : Parameters) (e : Entry) (input : Input) →
    IsKept p e →
    IsOfCell p (serving_after e.connection (row_of e.connection input None))
serves_a_cell p e input kept = serves_in p e (row_of e.connection input None) (kept_after p e input None kept tt)
