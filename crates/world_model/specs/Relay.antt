-- SPDX-License-Identifier: MIT OR Apache-2.0
-- Events at the controller and its queues: a push into the inbox, the handling of an item, a tick,
-- and the break of a link.
use Rattle.std.specs.Prelude.{ℕ, ◌==◌, Bool, true, false, if◌then◌else◌, List, []}
use Rattle.std.specs.Prelude.{◌∷◌, ◌++◌, fold}
use Rattle.std.specs.Prelude.{Option, Some, None, Result, Ok}
use Rattle.bssmap_codec.specs.declared.sccp.Sccp.{Sccp}
use Rattle.bssmap_codec.specs.SccpText.{sccp_text}
use Rattle.conn_messages.specs.declared.out.Out.{Out}
use Rattle.conn_messages.specs.declared.parameters.TheConstants.{SWITCH_LINK}
use Rattle.controller_model.specs.Controller.{Turn, place_at}
use Rattle.controller_model.specs.Life.{take, tick}
use Rattle.dtap_codec.specs.declared.rr.RrMessage.{RrMessage}
use Rattle.dtap_codec.specs.declared.rr.RrMessage.TheVariants.{AssignmentCommand, HandoverCommand}
use Rattle.dtap_codec.specs.declared.rr_fault.RrFault.{RrFault}
use Rattle.dtap_codec.specs.RrReading.{rr_reading}
use Rattle.ipa_framing.specs.declared.streams.TheConstants.{RSL_STREAM, SCCP_STREAM}
use Rattle.link_model.specs.Base.{first_message, after_next, after_take_down}
use Rattle.ruled_relay.specs.declared.item.Item.{Item}
use Rattle.ruled_relay.specs.declared.item.What.{What}
use Rattle.ruled_relay.specs.declared.item.What.TheVariants as whats
use Rattle.rsl_codec.specs.declared.rsl.Rsl.{Rsl}
use Rattle.rsl_codec.specs.declared.rsl.Rsl.TheVariants.{DataRequest, ChannelActivationAck}
use Rattle.rsl_codec.specs.RslText.{rsl_text}
use Rattle.world_model.specs.declared.line.OutboxEntry.{OutboxEntry}
use Rattle.world_model.specs.declared.seat.Tenure.{Tenure}
use Rattle.world_model.specs.Stations.{rsl_in}
use Rattle.world_model.specs.World.{Actors, is_up, outbox_of, with_outbox, broken_link, with_link}
use Rattle.world_model.specs.World.{base_of, with_base, tenure_at}

-- ---- the first message that a source made is put at the end of the inbox

abbrev pub station_item : ℕ → Rsl → Item
station_item station message =
    record {
      source = station;
      what = whats.Frame (record { stream = RSL_STREAM; body = rsl_text message });
    }

abbrev pub switch_item : Sccp → Item
switch_item message =
    record {
      source = SWITCH_LINK;
      what = whats.Frame (record { stream = SCCP_STREAM; body = sccp_text message });
    }

abbrev pub with_item : Item → Actors → Actors
with_item item w = record w { inbox = w.inbox ++ item ∷ [] }

abbrev pub pushed_by_station : ℕ → Option Rsl → Actors → Option Actors
pushed_by_station station None w = None
pushed_by_station station (Some message) w =
    Some (with_item (station_item station message)
    (with_base station (after_next (base_of w station)) w))

abbrev pub pushed_by_switch : List Sccp → Actors → Option Actors
pushed_by_switch [] w = None
pushed_by_switch (first ∷ others) w =
    Some (with_item (switch_item first) (record w { switch_made = others }))

abbrev pub after_base_push : Actors → ℕ → Option Actors
after_base_push w source =
    if source == SWITCH_LINK then pushed_by_switch w.switch_made w
    else pushed_by_station source (first_message (base_of w source)) w

-- ---- an output is put into the outbox of its link; if the link is down, the output is lost

abbrev pub is_change_command : Result RrMessage RrFault → Bool
is_change_command (Ok (AssignmentCommand channel)) = true
is_change_command (Ok (HandoverCommand cell channel reference)) = true
is_change_command _ = false

abbrev pub commands : Option Rsl → Bool
commands (Some (DataRequest d)) = is_change_command (rr_reading d.l3)
commands _ = false

-- The outbox entry of an output. If the handled item acknowledged the activation of a tenure, a
-- command among the outputs leads to this tenure.
abbrev pub entry_of : Option Tenure → Out → OutboxEntry
entry_of None out = record { out = out; target = None }
entry_of (Some target) out =
    record { out = out; target = if commands (rsl_in out.frame) then Some target else None }

abbrev pub joined_by : Option Tenure → Actors → Out → Actors
joined_by target w out =
    if is_up w out.to then with_outbox out.to (outbox_of w out.to ++ entry_of target out ∷ []) w
    else w

abbrev pub with_turn : Option Tenure → Turn → Actors → Actors
with_turn target t w = fold (joined_by target) (record w { controller = t.next }) t.outs

-- ---- the controller handles the first item of the inbox

-- The tenure that a CHANNEL ACTIVATION ACK acknowledges: the last one of its channel. None for any
-- other message.
abbrev pub acknowledged_tenure : Actors → ℕ → Option Rsl → Option Tenure
acknowledged_tenure w station (Some (ChannelActivationAck a)) =
    Some (tenure_at w (place_at station a.channel))
acknowledged_tenure w station _ = None

abbrev pub target_in : Actors → ℕ → What → Option Tenure
target_in w source (whats.Frame frame) = acknowledged_tenure w source (rsl_in frame)
target_in w source whats.Down = None

abbrev pub handled : List Item → Actors → Option Actors
handled [] w = None
handled (item ∷ items) w =
    Some (with_turn (target_in w item.source item.what) (take item w.controller)
    (record w { inbox = items }))

abbrev pub after_handle : Actors → Option Actors
after_handle w = handled w.inbox w

-- ---- time passes for the controller

abbrev pub after_tick : Actors → ℕ → Option Actors
after_tick w ms = Some (with_turn None (tick ms w.controller) w)

-- ---- a link breaks: the messages made at its other end and the entries of its outbox are lost

abbrev pub without_made : ℕ → Actors → Actors
without_made source w =
    if source == SWITCH_LINK then record w { switch_made = [] }
    else with_base source (after_take_down (base_of w source)) w

abbrev pub broken : ℕ → Actors → Actors
broken source w =
    with_item (record { source = source; what = whats.Down })
    (without_made source (with_link source broken_link w))

abbrev pub after_break : Actors → ℕ → Option Actors
after_break w source = if is_up w source then Some (broken source w) else None
