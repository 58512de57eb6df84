-- SPDX-License-Identifier: MIT OR Apache-2.0
-- Why an actor can't take an event: the first of the event's own conditions that isn't met.
use Rattle.std.specs.Prelude.{ℕ, if◌then◌else◌, List, [], ◌∷◌, Option, Some, None}
use Rattle.std.specs.Prelude.{option_map}
use Rattle.conn_messages.specs.declared.parameters.TheConstants.{SWITCH_LINK}
use Rattle.msc_end.specs.Switch.{connection_of}
use Rattle.msc_end.specs.declared.connection.Connection.{Connection}
use Rattle.world_model.specs.declared.event.Event.{Event}
use Rattle.world_model.specs.declared.event.Event.TheVariants.{Upper, Connect, AirUp, AirAck}
use Rattle.world_model.specs.declared.event.Event.TheVariants.{AirDown, AirDownLost, Move, Touch}
use Rattle.world_model.specs.declared.event.Event.TheVariants.{Arrive, Return, BaseTakes, BasePush}
use Rattle.world_model.specs.declared.event.Event.TheVariants.{Handle, SwitchTakes, SwitchDoes}
use Rattle.world_model.specs.declared.event.Event.TheVariants.{Tick, BaseDown, Report}
use Rattle.world_model.specs.declared.event.SwitchAction.{SwitchAction}
use Rattle.world_model.specs.declared.event.SwitchAction.TheVariants.{Assign, Clear, Dtap}
use Rattle.world_model.specs.declared.line.OutboxEntry.{OutboxEntry}
use Rattle.world_model.specs.declared.seat.Seat.{Seat}
use Rattle.world_model.specs.declared.seat.Seat.TheVariants.{On, Moving}
use Rattle.world_model.specs.declared.seat.Tenure.{Tenure}
use Rattle.world_model.specs.Life.{event_after}
use Rattle.world_model.specs.Mobiles.{is_new, is_to_handover, may_send}
use Rattle.world_model.specs.SwitchSide.{is_layer_3}
use Rattle.world_model.specs.World.{Actors, is_reached, is_station_up, is_up, mobile_of}
use Rattle.world_model.specs.World.{outbox_of}
use Rattle.world_trace.specs.declared.cause.Cause.{Cause}
use Rattle.world_trace.specs.declared.cause.Cause.TheVariants as causes

-- ---- the cause at a tenure: `lost` if the mobile isn't reached there, `at_channel` if it may be

abbrev pub lost : Actors → Tenure → Cause
lost w tenure =
    if is_station_up w tenure.at.station then causes.ChannelGone else causes.LinkDown

abbrev pub at_channel : Actors → Tenure → Cause → Cause
at_channel w tenure last = if is_reached w tenure then last else lost w tenure

-- ---- the cause of an event at a mobile

abbrev pub on_channel : Actors → Cause → Seat → Cause
on_channel w last (On tenure command) = at_channel w tenure last
on_channel w last _ = causes.NotOnChannel

-- the cause if a mobile can't arrive at the target of its command; `touching` is the cause if it
-- can't touch the target, for which the command must be one of a handover
abbrev pub at_target : Actors → Seat → Cause
at_target w (Moving from command) = lost w command.target
at_target w _ = causes.NotBetween

abbrev pub touching : Actors → Seat → Cause
touching w (Moving from command) =
    if is_to_handover command.change then lost w command.target else causes.NoHandover
touching w _ = causes.NotBetween

abbrev pub returning : Actors → Seat → Cause
returning w (Moving from command) = lost w from
returning w _ = causes.NotBetween

abbrev pub sending : Seat → Cause
sending seat = if may_send seat then causes.BadMessage else causes.NotOnChannel

abbrev pub by_seat : (Seat → Cause) → Option Seat → Cause
by_seat says None = causes.NoMobile
by_seat says (Some seat) = says seat

abbrev pub of_mobile : Actors → ℕ → (Seat → Cause) → Cause
of_mobile w mobile says = by_seat says (option_map (λ p. p.seat) (mobile_of w mobile))

-- ---- the cause of an event at a mobile that connects, at a station, and at the switch

abbrev pub connecting : Actors → ℕ → ℕ → Cause
connecting w mobile station =
    if is_new w mobile
    then (if is_station_up w station then causes.BadMessage else causes.LinkDown)
    else causes.MobileKnown

-- the cause at an outbox; the outbox's first frame is refused only if it activates a channel that
-- had its last tenure
abbrev pub at_outbox : List OutboxEntry → Cause
at_outbox [] = causes.OutboxEmpty
at_outbox (entry ∷ entries) = causes.TenuresSpent

abbrev pub taking : Actors → ℕ → Cause
taking w station =
    if is_station_up w station then at_outbox (outbox_of w station) else causes.LinkDown

abbrev pub on_connection : Option Connection → Cause
on_connection None = causes.NoConnection
on_connection (Some connection) = causes.ConnectionClosed

abbrev pub acting_up : Actors → SwitchAction → Cause
acting_up w (Assign connection) =
    on_connection (connection_of w.switch.connections connection)
acting_up w (Clear connection) =
    on_connection (connection_of w.switch.connections connection)
acting_up w (Dtap connection sapi message) =
    if is_layer_3 message then on_connection (connection_of w.switch.connections connection)
    else causes.BadMessage

abbrev pub acting : Actors → SwitchAction → Cause
acting w action = if is_up w SWITCH_LINK then acting_up w action else causes.LinkDown

-- ---- the cause for each event that isn't taken; a tick is always taken

abbrev pub cause : Actors → Event → Cause
cause w (Upper mobile sapi message) = of_mobile w mobile sending
cause w (Connect mobile station initial accepts) = connecting w mobile station
cause w (AirUp mobile sapi) = of_mobile w mobile (on_channel w causes.NothingInAir)
cause w (AirAck mobile sapi) = of_mobile w mobile (on_channel w causes.FrameNotTaken)
cause w (AirDown mobile) = of_mobile w mobile (on_channel w causes.NothingInAir)
cause w (AirDownLost mobile) = of_mobile w mobile (on_channel w causes.NothingInAir)
cause w (Move mobile) = of_mobile w mobile (on_channel w causes.NoCommand)
cause w (Touch mobile) = of_mobile w mobile (touching w)
cause w (Arrive mobile) = of_mobile w mobile (at_target w)
cause w (Return mobile) = of_mobile w mobile (returning w)
cause w (BaseTakes station) = taking w station
cause w (BasePush source) = causes.NothingMade
cause w Handle = causes.InboxEmpty
cause w SwitchTakes = if is_up w SWITCH_LINK then causes.OutboxEmpty else causes.LinkDown
cause w (SwitchDoes action) = acting w action
cause w (Tick ms) = causes.LinkDown
cause w (BaseDown source) = causes.LinkDown
cause w (Report mobile report) = of_mobile w mobile (on_channel w causes.BadMessage)

-- the cause `why`, or `None` if the event is taken
abbrev pub unless_taken : Option Actors → Cause → Option Cause
unless_taken (Some next) why = None
unless_taken None why = Some why

abbrev pub refusal : Actors → Event → Option Cause
refusal w event = unless_taken (event_after w event) (cause w event)
