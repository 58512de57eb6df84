-- SPDX-License-Identifier: MIT OR Apache-2.0
-- The controller, as a record of plain lists.
use Rattle.std.specs.Prelude.{ℕ, ◌+◌, ◌==◌, min, Bool, true, false, if◌then◌else◌}
use Rattle.std.specs.Prelude.{List, [], ◌∷◌, ◌++◌, length, replicate, unwrap_or, find}
use Rattle.std.specs.Prelude.{slice_get, slice_index_or, set, Option, Some, None}
use Rattle.controller_model.specs.Prelude.{Channel, Place, Message, Out, State, Connection}
use Rattle.controller_model.specs.Prelude.{Parameters}
use Rattle.conn_messages.specs.declared.uses.ChannelUse.{ChannelUse}
use Rattle.conn_messages.specs.declared.uses.ChannelUse.TheVariants.{Activated, Released, Unchanged}
use Rattle.conn_messages.specs.ChannelUse.{use_by}
use Rattle.conn_rules.specs.declared.state.State.TheVariants.{Removed}
use Rattle.controller_model.specs.declared.channel_state.ChannelState.{ChannelState}
use Rattle.controller_model.specs.declared.channel_state.ChannelState.TheVariants.{Free, InUse}
use Rattle.controller_model.specs.declared.channel_state.ChannelState.TheVariants.{Releasing}
use Rattle.controller_model.specs.declared.limits.TheConstants.{CHANNEL_NUMBERS, MAX_IGNORED}
use Rattle.ho_decision.specs.State.{State as Averages}

-- a connection, and the averages of its serving channel
pub record Entry : Type 0 where
  pub connection : Connection
  pub averages : Averages

pub record Controller : Type 0 where
  pub settings : Parameters
  -- whether each link is up; the first link is the switch's
  pub links : List Bool
  -- the state of each channel, by link and then by channel number; the first link is the switch's
  pub channels : List (List ChannelState)
  -- the connections, by rising number
  pub entries : List Entry
  -- the number of the next connection
  pub next_number : ℕ
  -- the number of handovers begun, modulo 256
  pub handovers : ℕ
  -- the count of ignored items; it saturates
  pub ignored : ℕ

-- the channels of a link, all free
abbrev pub free_channels : List ChannelState
free_channels = replicate CHANNEL_NUMBERS Free

-- a new controller: every link is up, every channel is free, and there are no connections
abbrev pub new_controller : Parameters → Controller
new_controller settings = record {
  settings = settings;
  links = replicate (length settings.cells + 1) true;
  channels = replicate (length settings.cells + 1) free_channels;
  entries = [];
  next_number = 1;
  handovers = 0;
  ignored = 0;
}

-- ---- a turn: the frames that a step puts, in order, and the controller after the step

pub record Turn : Type 0 where
  pub outs : List Out
  pub next : Controller

abbrev pub turn : List Out → Controller → Turn
turn outs next = record { outs = outs; next = next }

-- nothing is put, and the item is counted as ignored
abbrev pub ignoring : Controller → Turn
ignoring c = turn [] (record c { ignored = min (c.ignored + 1) MAX_IGNORED })

-- the same step for each element of a list, one after the other
abbrev pub each : {X : Type 0} → (Controller → X → Turn) → Controller → List X → Turn
each step c [] = turn [] c
each step c (x ∷ xs) =
    turn ((step c x).outs ++ (each step (step c x).next xs).outs)
    (each step (step c x).next xs).next

-- ---- links

-- whether the link is up; false for a link that doesn't exist
abbrev pub is_up : Controller → ℕ → Bool
is_up c source = unwrap_or (slice_get c.links source) false

abbrev pub with_down : ℕ → Controller → Controller
with_down source c = record c { links = set c.links source false }

-- ---- connections

abbrev pub has_number : ℕ → Entry → Bool
has_number number e = e.connection.number == number

abbrev pub entry_of : Controller → ℕ → Option Entry
entry_of c number = find (has_number number) c.entries

-- a list of the entry alone; empty if the connection is removed
abbrev pub remaining : State → Entry → List Entry
remaining Removed e = []
remaining state e = e ∷ []

-- the list with `e` in place of the entry of the same number; without that entry if the connection
-- is removed
abbrev pub put_back : Entry → List Entry → List Entry
put_back e [] = []
put_back e (x ∷ xs) =
    if has_number e.connection.number x then remaining e.connection.state e ++ xs
    else x ∷ put_back e xs

abbrev pub with_entry : Entry → Controller → Controller
with_entry e c = record c { entries = put_back e c.entries }

-- ---- channels

abbrev pub place_at : ℕ → ℕ → Place
place_at station number = record { station = station; number = number }

abbrev pub place_of : Channel → Place
place_of channel = place_at channel.station channel.number

-- the state of a channel; Free if no cell has the channel
abbrev pub state_in : List (List ChannelState) → Place → ChannelState
state_in channels at = slice_index_or (slice_index_or channels at.station []) at.number Free

abbrev pub channel_state : Controller → Place → ChannelState
channel_state c at = state_in c.channels at

-- the number of the connection that has the channel, or that had the channel before RF CHANNEL
-- RELEASE was put
abbrev pub holder : ChannelState → Option ℕ
holder Free = None
holder (InUse number) = Some number
holder (Releasing number) = Some number

abbrev pub with_state : Place → ChannelState → List (List ChannelState)
    → List (List ChannelState)
with_state at state channels =
    set channels at.station (set (slice_index_or channels at.station []) at.number state)

abbrev pub freed : Place → Controller → Controller
freed at c = record c { channels = with_state at Free c.channels }

-- the controller with all channels of a station free, as after a break of the station's link
abbrev pub freed_station : ℕ → Controller → Controller
freed_station station c = record c { channels = set c.channels station free_channels }

-- an activated channel is in use; a channel for which RF CHANNEL RELEASE was put is releasing
abbrev pub after_use : ℕ → List (List ChannelState) → ChannelUse → List (List ChannelState)
after_use number channels (Activated at why) = with_state at (InUse number) channels
after_use number channels (Released at) = with_state at (Releasing number) channels
after_use number channels Unchanged = channels

abbrev pub channels_after : ℕ → List (List ChannelState) → Message
    → List (List ChannelState)
channels_after number channels message = after_use number channels (use_by message)
