-- SPDX-License-Identifier: MIT OR Apache-2.0
-- The state of a connection, as a record.
use Rattle.std.specs.Prelude.{ℕ, suc, ◌==◌, ◌&&◌, not, Bool, false, if◌then◌else◌}
use Rattle.std.specs.Prelude.{List, [], ◌∷◌, length, Option, Some, None, option_map}
use Rattle.conn_messages.specs.declared.channel.Channel.{Channel}
use Rattle.conn_messages.specs.declared.channel.Place.{Place}
use Rattle.conn_rules.specs.declared.limits.TheConstants.{DOWN_LIMIT, UP_LIMIT}
use Rattle.conn_rules.specs.declared.state.Drain.{Drain}
use Rattle.conn_rules.specs.declared.state.ShortMessageLink.{ShortMessageLink}
use Rattle.conn_rules.specs.declared.state.ShortMessageLink.TheVariants.{Down}
use Rattle.conn_rules.specs.declared.state.State.{State}
use Rattle.conn_rules.specs.declared.state.State.TheVariants.{WaitActivation}
use Rattle.hold_queue.specs.ChainState.{ChainState, new_chain}
use Rattle.hold_queue.specs.HoldState.{HoldState, new_hold}
use Rattle.rsl_codec.specs.declared.values.RequestReference.{RequestReference}

pub record Connection : Type 0 where
  -- the number of the connection, which is also its local reference towards the switch
  pub number : ℕ
  -- the request reference and the access delay of the CHANNEL REQUIRED
  pub request : RequestReference
  pub delay : ℕ
  pub state : State
  pub serving : Channel
  -- the link of SAPI 3 on the serving channel
  pub link : ShortMessageLink
  -- the old channels, the oldest first
  pub draining : List Drain
  -- the messages of the switch that are held
  pub down : HoldState
  -- the messages of the mobile that are held: a tenure for each old channel, then the tenure of the
  -- serving channel
  pub up : ChainState
  -- whether an ASSIGNMENT REQUEST of the switch waits
  pub waits : Bool
  -- the milliseconds since the connection entered the state
  pub waited : ℕ
  -- the milliseconds for which the oldest old channel has drained as the oldest
  pub drained : ℕ

abbrev pub new_connection : ℕ → Channel → RequestReference → ℕ → Connection
new_connection number channel request delay = record {
  number = number;
  request = request;
  delay = delay;
  state = WaitActivation;
  serving = channel;
  link = Down;
  draining = [];
  down = new_hold DOWN_LIMIT;
  up = new_chain UP_LIMIT;
  waits = false;
  waited = 0;
  drained = 0;
}

-- the connection once it entered this state; the state's timer begins at 0
abbrev pub enter : State → Connection → Connection
enter state s = record s { state = state; waited = 0 }

-- the connection in this last state: it has no held messages, no waiting request and no old
-- channels, and its timers are at 0
abbrev pub emptied : State → Connection → Connection
emptied state s = record s {
  state = state;
  draining = [];
  down = new_hold s.down.limit;
  up = new_chain s.up.limit;
  waits = false;
  waited = 0;
  drained = 0;
}

-- ---- the channel at a place

abbrev pub is_at : Place → Channel → Bool
is_at at channel = (at.station == channel.station) && (at.number == channel.number)

-- the position in the list of the old channel at this place, if that channel isn't done
abbrev pub drain_at : Place → List Drain → Option ℕ
drain_at at [] = None
drain_at at (d ∷ ds) =
    if (is_at at d.channel && not d.is_done) then Some 0
    else option_map (λ place. suc place) (drain_at at ds)

-- The position of the tenure of the channel at this place. The tenures of old channels come first,
-- the tenure of the serving channel is the last.
abbrev pub tenure_at : Place → Channel → List Drain → Option ℕ
tenure_at at serving draining =
    if is_at at serving then Some (length draining) else drain_at at draining

-- the channel of the first tenure: the oldest old channel, or the serving channel without old ones
abbrev pub first_channel : List Drain → Channel → Channel
first_channel [] serving = serving
first_channel (d ∷ ds) serving = d.channel
