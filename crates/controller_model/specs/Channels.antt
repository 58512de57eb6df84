-- SPDX-License-Identifier: MIT OR Apache-2.0
-- The channels of the cells, and the channels that are given or offered to a connection.
use Rattle.std.specs.Prelude.{ℕ, ◌+◌, ◌-◌, ◌*◌, ◌/◌, ◌%◌, ◌&&◌, nat_lt}
use Rattle.std.specs.Prelude.{Bool, true, false, if◌then◌else◌, List, [], ◌∷◌, find}
use Rattle.std.specs.Prelude.{slice_get, slice_index_or, Option, None, option_map}
use Rattle.std.specs.Option.{option_and_then}
use Rattle.controller_model.specs.Prelude.{Channel, Input, Connection, row_of, Parameters}
use Rattle.conn_rules.specs.Table.{serving_after}
use Rattle.controller_model.specs.declared.channel_kind.ChannelKind.{ChannelKind}
use Rattle.controller_model.specs.declared.channel_kind.ChannelKind.TheVariants.{Sdcch, Tch}
use Rattle.controller_model.specs.declared.channel_state.ChannelState.{ChannelState}
use Rattle.controller_model.specs.declared.channel_state.ChannelState.TheVariants.{Free}
use Rattle.controller_model.specs.Controller.{Controller, is_up, state_in, place_at}
use Rattle.rsl_codec.specs.declared.channel_number.TheConstants.{FIRST_SDCCH}
use Rattle.settings.specs.declared.network.Network.{Network}
use Rattle.settings.specs.Parameters.{CellParameters}

-- ---- the identifier of a cell (TS 48.008 clause 3.2.2.17): the digits of the country and the
-- network, two in an octet; location area code; cell identity

abbrev pub digit_at : List ℕ → ℕ → ℕ
digit_at text place = slice_index_or text place 48 - 48

-- the third digit of a network code; 15 as filler for a code of two digits
abbrev pub third_digit : List ℕ → ℕ
third_digit (a ∷ b ∷ c ∷ rest) = c - 48
third_digit text = 15

abbrev pub digits : ℕ → ℕ → ℕ
digits high low = 16 * high + low

abbrev pub cell_identifier : Network → CellParameters → List ℕ
cell_identifier n cell =
    0 ∷ digits (digit_at n.mcc 1) (digit_at n.mcc 0)
    ∷ digits (third_digit n.mnc) (digit_at n.mcc 2)
    ∷ digits (digit_at n.mnc 1) (digit_at n.mnc 0)
    ∷ (cell.location_area_code / 256) ∷ (cell.location_area_code % 256)
    ∷ (cell.cell_identity / 256) ∷ (cell.cell_identity % 256) ∷ []

-- ---- channels

abbrev pub channel_in : Parameters → ℕ → ℕ → CellParameters → ℕ → Channel
channel_in p station reference cell number = record {
  station = station;
  number = number;
  cell = cell_identifier p.network cell;
  description = record { arfcn = cell.arfcn; ncc = cell.bsic.ncc; bcc = cell.bsic.bcc };
  reference = record { 0 = reference };
}

-- the kind of a dedicated channel
abbrev pub kind_of : ℕ → ChannelKind
kind_of number = if nat_lt number FIRST_SDCCH then Tch else Sdcch

abbrev pub is_alike : ChannelKind → ChannelKind → Bool
is_alike Sdcch Sdcch = true
is_alike Tch Tch = true
is_alike one other = false

abbrev pub is_unused : ChannelState → Bool
is_unused Free = true
is_unused state = false

abbrev pub is_free : List (List ChannelState) → ℕ → ℕ → Bool
is_free channels station number = is_unused (state_in channels (place_at station number))

-- the first free channel of this kind in a cell, in the order of the settings
abbrev pub free_in : List (List ChannelState) → ℕ → ChannelKind → CellParameters
    → Option ℕ
free_in channels station kind cell =
    find (λ number. is_alike kind (kind_of number) && is_free channels station number)
    cell.channels

abbrev pub channel_of_kind : Parameters → List (List ChannelState) → ℕ → ℕ → ChannelKind
    → CellParameters → Option Channel
channel_of_kind p channels station reference kind cell =
    option_map (channel_in p station reference cell) (free_in channels station kind cell)

-- the first free channel of this kind in the cell of a station; None if there is no such cell;
-- stations are numbered from 1
abbrev pub free_channel : Parameters → List (List ChannelState) → ℕ → ℕ → ChannelKind
    → Option Channel
free_channel p channels station reference kind =
    option_and_then (channel_of_kind p channels station reference kind) (slice_get p.cells (station
    - 1))

-- the first free channel of this kind in the cell of a station; None also if the station's link is
-- down
abbrev pub first_free : Controller → ℕ → ℕ → ChannelKind → Option Channel
first_free c station reference kind =
    if is_up c station then free_channel c.settings c.channels station reference kind else None

-- the channel for the access of a mobile: the first free SDCCH in the cell of a station
abbrev pub access_channel : Controller → ℕ → Option Channel
access_channel c station = first_free c station 0 Sdcch

-- ---- offers

-- the offer for an assignment: a TCH of the serving cell
abbrev pub assignment_offer : Controller → Channel → Option Channel
assignment_offer c serving = first_free c serving.station 0 Tch

-- the offer for a handover: a channel of the serving channel's kind in the cell of `station`
abbrev pub handover_offer : Controller → Channel → ℕ → Option Channel
handover_offer c serving station = first_free c station c.handovers (kind_of serving.number)

-- The offer for an assignment that this input requests, or for a waiting assignment that begins
-- after this input: a TCH of the cell that serves after the row.
abbrev pub request_offer : Controller → Connection → Input → Option Channel
request_offer c s input = assignment_offer c (serving_after s (row_of s input None))
