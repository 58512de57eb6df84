-- SPDX-License-Identifier: MIT OR Apache-2.0
-- The steps of which rows consist. A row has the messages that are put, in order, and the
-- connection after the row.
use Rattle.std.specs.Prelude.{ℕ, zero, suc, ◌==◌, ◌&&◌, nat_lt, Bool, true, false, not}
use Rattle.std.specs.Prelude.{if◌then◌else◌, List, [], ◌∷◌, ◌++◌, length, map}
use Rattle.std.specs.Prelude.{filter, drop, Option, Some, None}
use Rattle.conn_messages.specs.declared.causes.TheConstants.{ABNORMAL_RELEASE, EQUIPMENT_FAILURE}
use Rattle.conn_messages.specs.declared.causes.TheConstants.{NO_RADIO_RESOURCE}
use Rattle.conn_messages.specs.declared.channel.Change.{Change}
use Rattle.conn_messages.specs.declared.channel.Change.TheVariants.{Assignment, Handover}
use Rattle.conn_messages.specs.declared.channel.Channel.{Channel}
use Rattle.conn_messages.specs.declared.message.Message.{Message}
use Rattle.conn_messages.specs.declared.message.Message.TheVariants.{Station}
use Rattle.conn_messages.specs.StationMessage.{handing, channel_release, establish_request}
use Rattle.conn_messages.specs.StationMessage.{rf_channel_release, change_activation}
use Rattle.conn_messages.specs.SwitchMessage.{relaying, clear_request, assignment_failure}
use Rattle.conn_messages.specs.SwitchMessage.{sapi_3_reject}
use Rattle.conn_rules.specs.declared.limits.TheConstants.{DRAIN_LIMIT}
use Rattle.conn_rules.specs.declared.state.Clearing.TheVariants.{Due, Asked as WasAsked}
use Rattle.conn_rules.specs.declared.state.Drain.{Drain}
use Rattle.conn_rules.specs.declared.state.ShortMessageLink.{ShortMessageLink}
use Rattle.conn_rules.specs.declared.state.ShortMessageLink.TheVariants.{Down, Asked, Up}
use Rattle.conn_rules.specs.declared.state.Stage.{Stage}
use Rattle.conn_rules.specs.declared.state.Stage.TheVariants.{Active, Preparing, Changing, Draining}
use Rattle.conn_rules.specs.declared.state.State.{State}
use Rattle.conn_rules.specs.declared.state.State.TheVariants.{Live, Closed, Removed}
use Rattle.conn_rules.specs.Connection.{Connection, enter, emptied, first_channel}
use Rattle.dtap_codec.specs.declared.sapi.Sapi.{Sapi}
use Rattle.dtap_codec.specs.declared.sapi.Sapi.TheVariants.{Zero, Three}
use Rattle.hold_queue.specs.ChainState.{TenureHold, empty_tenure, chain_count, put_in}
use Rattle.hold_queue.specs.ChainState.{first_cleared}
use Rattle.hold_queue.specs.HoldState.{count, messages, with_messages}

pub record Row : Type 0 where
  pub outs : List Message
  pub next : Connection

abbrev pub row : List Message → Connection → Row
row outs next = record { outs = outs; next = next }

infixl 20 ◌then◌
-- a row followed by a step: the messages of both in order, and the connection after the step
abbrev pub ◌then◌ : Row → (Connection → Row) → Row
r then step = row (r.outs ++ (step r.next).outs) (step r.next).next

-- ---- ends

-- the RF CHANNEL RELEASE of the target, if there is a target
abbrev pub target_release : State → List Message
target_release (Live reference (Preparing target)) = rf_channel_release target.channel ∷ []
target_release (Live reference (Changing target)) = rf_channel_release target.channel ∷ []
target_release _ = []

-- the messages that end a connection: the mobile is dismissed with a cause, and the serving channel
-- and the target are released
abbrev pub end_outs : State → Channel → ℕ → List Message
end_outs state serving cause =
    channel_release serving cause ∷ rf_channel_release serving ∷ target_release state

-- the row that ends a connection with these messages and empties it in the state `last`
abbrev pub ending : State → Connection → ℕ → State → Row
ending state s cause last = row (end_outs state s.serving cause) (emptied last s)

-- The row for a connection that fails: the mobile is dismissed, and the switch is asked to clear
-- the connection. A connection that the switch hasn't confirmed is to be cleared once it is
-- confirmed.
abbrev pub failing : State → Connection → ℕ → Row
failing (Live reference stage) s cause =
    row (clear_request reference cause
    ∷ end_outs (Live reference stage) s.serving ABNORMAL_RELEASE) (emptied
    (Closed (WasAsked reference)) s)
failing state s cause =
    row (end_outs state s.serving ABNORMAL_RELEASE) (emptied (Closed (Due cause)) s)

-- the row that drops a connection unknown to the switch: its channel is released, and it is removed
abbrev pub dropping : Connection → Row
dropping s = row (rf_channel_release s.serving ∷ []) (emptied Removed s)

-- whether the message is for this station
abbrev pub is_for_station : ℕ → Message → Bool
is_for_station station (Station to message) = to == station
is_for_station station _ = false

-- the row without its messages to this station, whose link is down
abbrev pub without_station : ℕ → Row → Row
without_station station r =
    row (filter (λ message. not (is_for_station station message)) r.outs) r.next

-- ---- changes begin

-- whether a change may begin: in `Active`, and in `Draining` while fewer than `DRAIN_LIMIT` old
-- channels drain
abbrev pub may_begin : Stage → List Drain → Bool
may_begin Active draining = true
may_begin Draining draining = nat_lt (length draining) DRAIN_LIMIT
may_begin _ draining = false

abbrev pub begin_outs : ℕ → Change → Option Channel → List Message
begin_outs reference change (Some channel) = change_activation change channel ∷ []
begin_outs reference Assignment None = assignment_failure reference NO_RADIO_RESOURCE None ∷ []
begin_outs reference Handover None = []

abbrev pub after_begin : ℕ → Change → Option Channel → Connection → Connection
after_begin reference change (Some channel) s =
    enter (Live reference (Preparing (record { change = change; channel = channel }))) s
after_begin reference change None s = s

-- the row that begins a change to the offered channel; without an offer, an assignment fails and a
-- handover is given up
abbrev pub begin : ℕ → Change → Option Channel → Connection → Row
begin reference change offer s =
    row (begin_outs reference change offer) (after_begin reference change offer s)

-- the messages with which the waiting assignment begins; none if it doesn't begin
abbrev pub waiting_outs : Bool → ℕ → Option Channel → List Message
waiting_outs true reference offer = begin_outs reference Assignment offer
waiting_outs false reference offer = []

abbrev pub after_waiting : Bool → ℕ → Option Channel → Connection → Connection
after_waiting true reference offer s =
    after_begin reference Assignment offer (record s { waits = false })
after_waiting false reference offer s = s

-- the row that begins the waiting assignment, if one waits and a change may begin
abbrev pub begin_waiting : Stage → ℕ → Option Channel → Connection → Row
begin_waiting stage reference offer s =
    row (waiting_outs (s.waits && may_begin stage s.draining) reference offer)
    (after_waiting (s.waits && may_begin stage s.draining) reference offer s)

-- ---- where a change ends

abbrev pub resting_stage : List Drain → Stage
resting_stage [] = Active
resting_stage (d ∷ ds) = Draining

-- the connection with no change under way: in `Draining` if it has old channels, else in `Active`
abbrev pub resting : ℕ → Connection → Connection
resting reference s = enter (Live reference (resting_stage s.draining)) s

-- the connection once the target serves; the channel that served becomes the youngest old channel
abbrev pub moved : ℕ → Channel → Connection → Connection
moved reference channel s = record (enter (Live reference Draining) s) {
  serving = channel;
  draining = s.draining ++ record { channel = s.serving; is_done = false } ∷ [];
  up = record s.up { tenures = s.up.tenures ++ empty_tenure ∷ [] };
}

-- ---- the switch's messages

-- the row that holds a message of the switch; if the hold is full, the connection fails
abbrev pub hold_down : State → Sapi → List ℕ → Connection → Row
hold_down state sapi message s =
    if count s.down == s.down.limit then failing state s EQUIPMENT_FAILURE
    else row [] (record s {
      down = with_messages s.down sapi (messages s.down sapi ++ message ∷ []);
    })

-- the row that hands the held messages of a SAPI to the mobile
abbrev pub hand_held : Sapi → Connection → Row
hand_held sapi s =
    row (map (handing s.serving sapi) (messages s.down sapi))
    (record s { down = with_messages s.down sapi [] })

-- the ESTABLISH REQUEST for the link of SAPI 3, if the link is down
abbrev pub request_where : ShortMessageLink → Channel → List Message
request_where Down serving = establish_request serving ∷ []
request_where _ serving = []

-- the row that holds a message of SAPI 3 until the link is up; if the hold is full, the connection
-- fails
abbrev pub hold_short_message : State → List ℕ → Connection → Row
hold_short_message state message s =
    if count s.down == s.down.limit then failing state s EQUIPMENT_FAILURE
    else row (request_where s.link s.serving) (record s {
      link = Asked;
      down = with_messages s.down Three (messages s.down Three ++ message ∷ []);
    })

abbrev pub short_message : State → ShortMessageLink → List ℕ → Connection → Row
short_message state Up message s = row (handing s.serving Three message ∷ []) s
short_message state _ message s = hold_short_message state message s

-- the ESTABLISH REQUEST for the link of SAPI 3 after a change, if messages of SAPI 3 are held
abbrev pub request_for : List (List ℕ) → Channel → List Message
request_for [] serving = []
request_for (first ∷ rest) serving = establish_request serving ∷ []

abbrev pub link_for : List (List ℕ) → ShortMessageLink → ShortMessageLink
link_for [] link = link
link_for (first ∷ rest) link = Asked

abbrev pub ask_for_held : Connection → Row
ask_for_held s =
    row (request_for s.down.three s.serving) (record s { link = link_for s.down.three s.link })

-- the row once the link of SAPI 3 is up: held messages of SAPI 3 are handed
abbrev pub link_up : Connection → Row
link_up s = row [] (record s { link = Up }) then hand_held Three

-- the row once the link of SAPI 3 is down: if the link was asked for, the held messages of SAPI 3
-- are rejected
abbrev pub link_down : ShortMessageLink → ℕ → Connection → Row
link_down Asked reference s =
    row (sapi_3_reject reference s.serving
    ∷ []) (record s { link = Down; down = with_messages s.down Three [] })
link_down _ reference s = row [] (record s { link = Down })

-- ---- the mobile's messages

-- the row that holds a message of the mobile in a tenure; if the tenures are full, the connection
-- fails
abbrev pub hold_up : State → ℕ → Sapi → List ℕ → Connection → Row
hold_up state tenure sapi message s =
    if chain_count s.up == s.up.limit then failing state s EQUIPMENT_FAILURE
    else row [] (record s {
      up =
          record s.up { tenures = put_in tenure sapi message s.up.tenures };
    })

-- the messages to the switch that relay the messages of the first tenure, those of SAPI 0 first
abbrev pub tenure_outs : ℕ → Channel → List TenureHold → List Message
tenure_outs reference channel [] = []
tenure_outs reference channel (first ∷ rest) =
    map (relaying reference channel Zero) first.zero
    ++ map (relaying reference channel Three) first.three

-- the row that relays the messages of the first tenure and empties the tenure
abbrev pub relay_held : ℕ → Connection → Row
relay_held reference s =
    row (tenure_outs reference (first_channel s.draining s.serving) s.up.tenures)
    (record s { up = record s.up { tenures = first_cleared s.up.tenures } })

-- ---- old channels

abbrev pub done_at : ℕ → List Drain → List Drain
done_at place [] = []
done_at zero (d ∷ ds) = record { channel = d.channel; is_done = true } ∷ ds
done_at (suc place) (d ∷ ds) = d ∷ done_at place ds

-- the connection once the oldest old channel left, with its tenure; the drain time begins at 0
-- again
abbrev pub shifted : List Drain → Connection → Connection
shifted draining s =
    record s {
      draining = draining;
      up = record s.up { tenures = drop 1 s.up.tenures };
      drained = 0;
    }

-- the row in which the oldest old channels leave while they are done; each time one leaves, the
-- messages of the next tenure are relayed
abbrev pub leave : ℕ → List Drain → Connection → Row
leave reference [] s = row [] (record s { draining = [] })
leave reference (d ∷ ds) s =
    if d.is_done
    then (row [] (shifted ds s) then relay_held reference then leave reference ds)
    else row [] (record s { draining = d ∷ ds })

-- the stage, but `Active` instead of `Draining` if no old channel is left
abbrev pub settled_stage : Stage → List Drain → Stage
settled_stage Draining [] = Active
settled_stage stage draining = stage

abbrev pub settled : ℕ → Stage → List Drain → Connection → Connection
settled reference Draining [] s = enter (Live reference Active) s
settled reference stage draining s = s
