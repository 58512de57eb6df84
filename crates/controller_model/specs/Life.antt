-- SPDX-License-Identifier: MIT OR Apache-2.0
-- The controller over its steps: the frames that each item and each tick puts, and the controller
-- after that item or tick.
use Rattle.std.specs.Prelude.{ℕ, ◌+◌, ◌%◌, ◌==◌, ◌&&◌, nat_le, Bool, true, false}
use Rattle.std.specs.Prelude.{if◌then◌else◌, List, [], ◌∷◌, ◌++◌, count_by, fold}
use Rattle.std.specs.Prelude.{map, Option, Some, None}
use Rattle.std.specs.Option.{is_some, option_and_then}
use Rattle.conn_messages.specs.declared.channel.Change.{Change}
use Rattle.conn_messages.specs.declared.channel.Change.TheVariants.{Assignment, Handover}
use Rattle.controller_model.specs.Prelude.{Channel, Place, Message, Out, SWITCH_LINK, outs_of}
use Rattle.controller_model.specs.Prelude.{Input, State, Connection, row_of, What}
use Rattle.controller_model.specs.Prelude.{Report, RequestReference, Parameters}
use Rattle.conn_messages.specs.declared.uses.ChannelUse.{ChannelUse}
use Rattle.conn_messages.specs.declared.uses.ChannelUse.TheVariants.{Activated}
use Rattle.conn_messages.specs.ChannelUse.{use_by}
use Rattle.conn_messages.specs.Out.{out_of}
use Rattle.conn_messages.specs.StationMessage.{access_activation}
use Rattle.conn_rules.specs.declared.input.Input.TheVariants as inputs
use Rattle.conn_rules.specs.declared.state.Stage.TheVariants.{Preparing, Changing}
use Rattle.conn_rules.specs.declared.state.State.TheVariants.{WaitActivation, WaitEstablish}
use Rattle.conn_rules.specs.declared.state.State.TheVariants.{WaitConfirm, Live}
use Rattle.conn_rules.specs.Connection.{new_connection, is_at}
use Rattle.conn_rules.specs.Steps.{Row}
use Rattle.conn_rules.specs.Timers.{after_pass}
use Rattle.ruled_relay.specs.declared.item.Item.{Item}
use Rattle.ruled_relay.specs.declared.item.What.TheVariants as whats
use Rattle.controller_model.specs.declared.channel_state.ChannelState.{ChannelState}
use Rattle.controller_model.specs.declared.channel_state.ChannelState.TheVariants.{Releasing}
use Rattle.controller_model.specs.declared.limits.TheConstants.{MAX_CONNECTION_NUMBER}
use Rattle.controller_model.specs.declared.step.Step.{Step}
use Rattle.controller_model.specs.declared.step.Step.TheVariants.{Take, Tick}
use Rattle.controller_model.specs.declared.word.Word.{Word}
use Rattle.controller_model.specs.declared.word.Word.TheVariants.{Nothing, Ping, Asks, OnChannel}
use Rattle.controller_model.specs.declared.word.Word.TheVariants.{Reports, OnConnection}
use Rattle.controller_model.specs.Channels.{access_channel, handover_offer, request_offer}
use Rattle.controller_model.specs.Controller.{Controller, Entry, Turn, turn, each, new_controller}
use Rattle.controller_model.specs.Controller.{ignoring, is_up, with_down, entry_of, with_entry}
use Rattle.controller_model.specs.Controller.{place_of, channel_state, holder, freed, freed_station}
use Rattle.controller_model.specs.Controller.{channels_after}
use Rattle.controller_model.specs.Reading.{word_of}
use Rattle.controller_model.specs.Reports.{decision_over}
use Rattle.ho_decision.specs.declared.decision.Decision.{Decision}
use Rattle.ho_decision.specs.declared.decision.Decision.TheVariants.{Stay, Move}
use Rattle.ho_decision.specs.State.{State as Averages, new_state, after_report}
use Rattle.ipa_framing.specs.declared.streams.TheConstants.{CCM_STREAM, PONG}
use Rattle.rsl_codec.specs.declared.values.TheConstants.{ASYNCHRONOUS_HANDOVER}
use Rattle.settings.specs.declared.timers.Timers.{Timers}
use Rattle.settings.specs.Parameters.{handover_settings_of}

-- ---- a row of the table, in the controller

-- the averages of a channel that begins to serve: no reports yet
abbrev pub new_averages : Parameters → Channel → Averages
new_averages p serving = new_state (handover_settings_of p serving.station)

abbrev pub averages_after : Parameters → Channel → Channel → Averages → Averages
averages_after p before after averages =
    if is_at (place_of before) after then averages else new_averages p after

abbrev pub entry_after : Parameters → Entry → Row → Entry
entry_after p e r =
    record {
      connection = r.next;
      averages = averages_after p e.connection.serving r.next.serving e.averages;
    }

abbrev pub begins_handover : ChannelUse → Bool
begins_handover (Activated at why) = why.0 == ASYNCHRONOUS_HANDOVER.0
begins_handover _ = false

abbrev pub handovers_after : ℕ → List Message → ℕ
handovers_after handovers messages =
    (handovers + count_by (λ m. begins_handover (use_by m)) messages) % 256

-- puts the messages of the row, and updates the connection, its channels and the count of handovers
-- by the row
abbrev pub by_row : Entry → Row → Controller → Turn
by_row e r c =
    turn (outs_of e.connection.number r.outs) (with_entry (entry_after c.settings e r) (record c {
      channels = fold (channels_after e.connection.number) c.channels r.outs;
      handovers = handovers_after c.handovers r.outs;
    }))

-- applies the row; the result is `otherwise` if there is no row
abbrev pub by_fitting : Turn → Entry → Option Row → Controller → Turn
by_fitting otherwise e None c = otherwise
by_fitting otherwise e (Some r) c = by_row e r c

abbrev pub row_in : Controller → Connection → Input → Option Row
row_in c s input = row_of s input (request_offer c s input)

-- Gives an input to a connection. The input is counted as ignored if no row fits or there is no
-- connection.
abbrev pub concerning : Input → Controller → Option Entry → Turn
concerning input c None = ignoring c
concerning input c (Some e) = by_fitting (ignoring c) e (row_in c e.connection input) c

-- Gives an input to a connection. If no row fits or there is no connection, nothing changes, and
-- the input isn't counted as ignored.
abbrev pub concerning_too : Input → Controller → Option Entry → Turn
concerning_too input c None = turn [] c
concerning_too input c (Some e) = by_fitting (turn [] c) e (row_in c e.connection input) c

-- ---- a channel is asked for

abbrev pub new_entry : Parameters → ℕ → Channel → RequestReference → ℕ → Entry
new_entry p number channel request delay =
    record {
      connection =
          new_connection number channel request delay;
      averages = new_averages p channel;
    }

-- the next connection opens, and its channel is activated
abbrev pub with_connection : Controller → Channel → RequestReference → ℕ → Turn
with_connection c channel request delay =
    turn (out_of c.next_number (access_activation channel) ∷ []) (record c {
      channels = channels_after c.next_number c.channels (access_activation channel);
      entries = c.entries ++ new_entry c.settings c.next_number channel request delay ∷ [];
      next_number = c.next_number + 1;
    })

abbrev pub given : Controller → RequestReference → ℕ → Option Channel → Turn
given c request delay None = ignoring c
given c request delay (Some channel) = with_connection c channel request delay

-- whether a connection may open: the switch's link is up and a number is left
abbrev pub may_open : Controller → Bool
may_open c = is_up c SWITCH_LINK && nat_le c.next_number MAX_CONNECTION_NUMBER

abbrev pub asked : Controller → ℕ → RequestReference → ℕ → Turn
asked c station request delay =
    if may_open c then given c request delay (access_channel c station) else ignoring c

-- ---- what arrives on a channel

abbrev pub fits : Option Entry → Input → Bool
fits None input = false
fits (Some e) input = is_some (row_of e.connection input None)

-- Whether an input frees a channel. RF CHANNEL RELEASE ACK frees a channel that is releasing.
-- CHANNEL ACTIVATION NACK frees a channel if a connection waits for the activation of that channel.
abbrev pub frees : ChannelState → Option Entry → Input → Bool
frees (Releasing number) e (inputs.ReleaseAck at) = true
frees state e (inputs.ActivationNack at) = fits e (inputs.ActivationNack at)
frees state e _ = false

-- the entry of the connection that has a channel in this state, or that had the channel before its
-- release
abbrev pub entry_at : Controller → ChannelState → Option Entry
entry_at c state = option_and_then (entry_of c) (holder state)

abbrev pub on_freed : Bool → Place → Input → Controller → Option Entry → Turn
on_freed true at input c e = concerning_too input (freed at c) e
on_freed false at input c e = concerning input c e

abbrev pub on_state : ChannelState → Place → Input → Controller → Option Entry → Turn
on_state state at input c e = on_freed (frees state e input) at input c e

-- ---- a report

-- whether reports count in this state: they do from the connection request on
abbrev pub is_measured : State → Bool
is_measured WaitConfirm = true
is_measured (Live reference stage) = true
is_measured _ = false

abbrev pub measures : Place → Entry → Bool
measures at e = is_at at e.connection.serving && is_measured e.connection.state

-- A `Move` begins a handover if a row fits; otherwise nothing changes.
abbrev pub on_decision : Decision → Controller → Entry → Turn
on_decision Stay c e = turn [] c
on_decision (Move cell) c e =
    by_fitting (turn [] c) e (row_of e.connection inputs.Move
    (handover_offer c e.connection.serving cell)) c

abbrev pub decided : ℕ → Controller → Entry → Turn
decided number c e = on_decision (decision_over e.averages.settings e.averages.reports number) c e

abbrev pub with_report : ℕ → Report → Entry → Entry
with_report number report e = record e { averages = after_report e.averages report number }

abbrev pub measured : ℕ → Report → Controller → Entry → Turn
measured number report c e =
    decided number (with_entry (with_report number report e) c) (with_report number report e)

abbrev pub on_report : Place → ℕ → Report → Controller → Option Entry → Turn
on_report at number report c None = ignoring c
on_report at number report c (Some e) =
    if measures at e then measured number report c e else ignoring c

-- ---- frames

abbrev pub pong : ℕ → Out
pong source =
    record { to = source; conn = 0; frame = record { stream = CCM_STREAM; body = PONG ∷ [] } }

abbrev pub on_word : ℕ → Word → Controller → Turn
on_word source Nothing c = ignoring c
on_word source Ping c = turn (pong source ∷ []) c
on_word source (Asks request delay) c = asked c source request delay
on_word source (OnChannel at input) c =
    on_state (channel_state c at) at input c (entry_at c (channel_state c at))
on_word source (Reports at number report) c =
    on_report at number report c (entry_at c (channel_state c at))
on_word source (OnConnection number input) c = concerning input c (entry_of c number)

-- ---- links break

-- Gives a connection an input that the controller makes itself. If no row fits, the input isn't
-- counted as ignored.
abbrev pub with_own_input : Input → Controller → Entry → Turn
with_own_input input c e = concerning_too input c (Some e)

abbrev pub break_of : ℕ → Input
break_of source = if source == SWITCH_LINK then inputs.SwitchDown else inputs.StationDown source

-- the turn of a break, once each connection has had its input: if a station's link broke, the
-- channels of that station are free
abbrev pub without_link : ℕ → Turn → Turn
without_link source t =
    turn t.outs (if source == SWITCH_LINK then t.next else freed_station source t.next)

abbrev pub on_break : ℕ → Controller → Turn
on_break source c =
    without_link source (each (with_own_input (break_of source)) (with_down source c) c.entries)

-- ---- an item: ignored if its link is down or doesn't exist

abbrev pub on_what : Bool → ℕ → What → Controller → Turn
on_what true source (whats.Frame frame) c = on_word source (word_of source frame) c
on_what true source whats.Down c = on_break source c
on_what false source what c = ignoring c

-- the frames that are put upon an item, and the controller after that item
unfoldable pub take : Item → Controller → Turn
take item c = on_what (is_up c item.source) item.source item.what c

-- ---- time passes

abbrev pub aged : ℕ → Entry → Entry
aged ms e = record e { connection = after_pass ms e.connection }

abbrev pub change_time : Timers → Change → ℕ
change_time timers Assignment = timers.t3107_ms
change_time timers Handover = timers.t3103_ms

-- the duration of a state's timer in ms; None if the state has no timer
abbrev pub time_of : Timers → State → Option ℕ
time_of timers WaitActivation = Some timers.t3101_ms
time_of timers WaitEstablish = Some timers.t3101_ms
time_of timers (Live reference (Preparing target)) = Some (change_time timers target.change)
time_of timers (Live reference (Changing target)) = Some (change_time timers target.change)
time_of timers _ = None

abbrev pub is_over : Option ℕ → ℕ → Bool
is_over None waited = false
is_over (Some time) waited = nat_le time waited

-- The input of an expired timer; None if no timer has expired. The drain timer counts only if the
-- state's timer hasn't expired.
abbrev pub expiry : Timers → Connection → Option Input
expiry timers s =
    if is_over (time_of timers s.state) s.waited then Some inputs.Expiry
    else if nat_le timers.drain_ms s.drained then Some inputs.DrainExpiry else None

abbrev pub on_expiry : Option Input → Controller → Entry → Turn
on_expiry None c e = turn [] c
on_expiry (Some input) c e = with_own_input input c e

abbrev pub timed : Controller → Entry → Turn
timed c e = on_expiry (expiry c.settings.timers e.connection) c e

abbrev pub all_aged : ℕ → Controller → Controller
all_aged ms c = record c { entries = map (aged ms) c.entries }

-- Time passes for all connections. Then the connections whose timers have expired get their inputs,
-- by rising number.
unfoldable pub tick : ℕ → Controller → Turn
tick ms c = each timed (all_aged ms c) (all_aged ms c).entries

-- ---- a life

abbrev pub step : Controller → Step → Turn
step c (Take item) = take item c
step c (Tick ms) = tick ms c

-- a life: all frames that a new controller puts in these steps, in order, and the controller after
-- the last step
unfoldable pub life : Parameters → List Step → Turn
life settings steps = each step (new_controller settings) steps
