-- SPDX-License-Identifier: MIT OR Apache-2.0
-- What is known of the channels of the base stations by the frames so far: for each station a list
-- with an entry for each channel number.
use Rattle.std.specs.Prelude.{ℕ, ◌+◌, ◌-◌, ◌==◌, ◌&&◌, Bool, true, false, if◌then◌else◌, zero, suc}
use Rattle.std.specs.Prelude.{List, [], ◌∷◌, ◌++◌, filter, map, Option, Some, None, slice_get}
use Rattle.std.specs.Prelude.{unwrap_or}
use Rattle.std.specs.Str.{bytes_eq}
use Rattle.dtap_codec.specs.declared.rr.CellDescription.{CellDescription}
use Rattle.run_judge.specs.declared.channels.ChannelView.{ChannelView}
use Rattle.run_judge.specs.declared.channels.ChannelView.TheVariants as views
use Rattle.run_judge.specs.declared.channels.Early.{Early}
use Rattle.run_judge.specs.declared.said.StationChannel.{StationChannel}
use Rattle.run_judge.specs.OpeningState.{OpeningState}

-- The list with `item` at this place. A shorter list is padded with `filler` up to the place.
abbrev pub put_at : {A : Type 0} → ℕ → A → A → List A → List A
put_at zero filler item [] = item ∷ []
put_at zero filler item (x ∷ xs) = item ∷ xs
put_at (suc n) filler item [] = filler ∷ put_at n filler item []
put_at (suc n) filler item (x ∷ xs) = x ∷ put_at n filler item xs

abbrev pub views_of : List (List ChannelView) → ℕ → List ChannelView
views_of stations station = unwrap_or (slice_get stations station) []

-- What is known of the channel of a station with this number.
abbrev pub view_of : List ChannelView → ℕ → ChannelView
view_of station number = unwrap_or (slice_get station number) views.Unknown

abbrev pub view_at : List (List ChannelView) → StationChannel → ChannelView
view_at stations at = view_of (views_of stations at.station) at.number

abbrev pub with_view : StationChannel → ChannelView → List (List ChannelView)
    → List (List ChannelView)
with_view at view stations =
    put_at at.station [] (put_at at.number views.Unknown view (views_of stations at.station))
    stations

-- ---- an initial message came

-- A message that came before another initial one is optional: the controller may ignore it.
abbrev pub optional_early : Early → Early
optional_early e = record e { is_optional = true }

abbrev pub early_before : ChannelView → List Early
early_before (views.Opened o) = map optional_early o.early
early_before _ = []

abbrev pub opening_behind : ChannelView → List ℕ → ℕ → OpeningState
opening_behind view message frame =
    record { message = message; frame = frame; early = early_before view }

-- The opening of a channel; an empty opening if the channel isn't `Opened`.
abbrev pub opening_in : ChannelView → OpeningState
opening_in (views.Opened o) = o
opening_in _ = record { message = []; frame = 0; early = [] }

-- The opening with the frame of the CR.
abbrev pub asked_in : ℕ → OpeningState → OpeningState
asked_in frame o = record o { frame = frame }

-- ---- a message came after the initial one

abbrev pub followed_by : Early → OpeningState → OpeningState
followed_by e o = record o { early = o.early ++ e ∷ [] }

abbrev pub early_in : Early → ChannelView → ChannelView
early_in e (views.Opened o) = views.Opened (followed_by e o)
early_in e view = view

-- ---- the channels that pass a test, by station and number

abbrev pub channels_from : (ChannelView → Bool) → ℕ → ℕ → List ChannelView → List StationChannel
channels_from test station number [] = []
channels_from test station number (v ∷ vs) =
    (if test v then record { station = station; number = number } ∷ [] else [])
    ++ channels_from test station (number + 1) vs

abbrev pub stations_from : (ChannelView → Bool) → ℕ → List (List ChannelView)
    → List StationChannel
stations_from test station [] = []
stations_from test station (vs ∷ rest) =
    channels_from test station 0 vs ++ stations_from test (station + 1) rest

-- Whether a mobile sent the initial message `message` on the channel, and no CR for it was sent
-- yet.
abbrev pub is_opened_by : List ℕ → ChannelView → Bool
is_opened_by message (views.Opened opening) = bytes_eq opening.message message
is_opened_by message _ = false

abbrev pub opened_channels : List ℕ → List (List ChannelView) → List StationChannel
opened_channels message stations = stations_from (is_opened_by message) 0 stations

-- Whether the channel was activated with this handover reference and doesn't belong to a
-- connection.
abbrev pub is_offered : ℕ → ChannelView → Bool
is_offered reference (views.Activated (Some offered)) = offered == reference
is_offered reference _ = false

abbrev pub offered_from : ℕ → ℕ → ℕ → List (List ChannelView) → List StationChannel
offered_from number reference station [] = []
offered_from number reference station (vs ∷ rest) =
    (if is_offered reference (view_of vs number)
    then record { station = station; number = number } ∷ [] else [])
    ++ offered_from number reference (station + 1) rest

abbrev pub offered_channels : ℕ → ℕ → List (List ChannelView) → List StationChannel
offered_channels number reference stations = offered_from number reference 0 stations

-- ---- the cells of the stations, as far as they are known

-- The cell of station N is at place N - 1.
abbrev pub cell_at : ℕ → List CellDescription → Option CellDescription
cell_at station cells = if station == 0 then None else slice_get cells (station - 1)

abbrev pub is_same_cell : CellDescription → CellDescription → Bool
is_same_cell one other =
    (one.arfcn == other.arfcn) && ((one.ncc == other.ncc) && (one.bcc == other.bcc))

-- Whether a station can have the cell: its own cell is the same, or isn't known.
abbrev pub may_be_cell : CellDescription → Option CellDescription → Bool
may_be_cell cell None = true
may_be_cell cell (Some known) = is_same_cell known cell

-- The channels whose station has the cell `cell` or a cell that isn't known.
abbrev pub in_cell : CellDescription → List CellDescription → List StationChannel
    → List StationChannel
in_cell cell cells channels =
    filter (λ at. may_be_cell cell (cell_at at.station cells)) channels
