-- SPDX-License-Identifier: MIT OR Apache-2.0
-- How the switch takes the first entry of its outbox, and the actions of the switch that answer no
-- message.
use Rattle.std.specs.Prelude.{ℕ, ◌==◌, ◌&&◌, nat_le, Bool, if◌then◌else◌, List, []}
use Rattle.std.specs.Prelude.{◌∷◌, ◌++◌}
use Rattle.std.specs.Prelude.{length, Option, Some, None}
use Rattle.std.specs.Option.{is_none}
use Rattle.std.specs.Result.{result_ok}
use Rattle.bssmap_codec.specs.declared.bssap.Bssap.{Bssap}
use Rattle.bssmap_codec.specs.declared.bssap.Bssap.TheVariants.{Transfer}
use Rattle.bssmap_codec.specs.declared.sccp.Sccp.{Sccp}
use Rattle.bssmap_codec.specs.SccpReading.{sccp_reading}
use Rattle.conn_messages.specs.declared.parameters.TheConstants.{SWITCH_LINK}
use Rattle.ipa_framing.specs.declared.frame.Frame.{Frame}
use Rattle.ipa_framing.specs.declared.streams.TheConstants.{SCCP_STREAM}
use Rattle.msc_end.specs.Refusal.{send_fault}
use Rattle.msc_end.specs.Switch.{after, after_clear, assignment_request, clear_command}
use Rattle.msc_end.specs.Switch.{connection_of, data_forms_on, dlci_for, replies}
use Rattle.msc_end.specs.SwitchState.{SwitchState}
use Rattle.octets.specs.declared.limits.TheConstants.{MESSAGE_LIMIT}
use Rattle.world_model.specs.declared.event.SwitchAction.{SwitchAction}
use Rattle.world_model.specs.declared.event.SwitchAction.TheVariants.{Assign, Clear, Dtap}
use Rattle.world_model.specs.declared.line.OutboxEntry.{OutboxEntry}
use Rattle.world_model.specs.World.{Actors, is_up, outbox_of, with_outbox}

-- the message of an SCCP frame; None if the frame is of another stream or can't be read
abbrev pub sccp_in : Frame → Option Sccp
sccp_in frame = if frame.stream == SCCP_STREAM then result_ok (sccp_reading frame.body) else None

-- ---- the switch takes a message and makes the replies; an unreadable message changes nothing

abbrev pub switch_took : Option Sccp → Actors → Actors
switch_took None w = w
switch_took (Some message) w =
    record w {
      switch = after w.switch message;
      switch_made = w.switch_made ++ replies w.switch.connections message;
    }

abbrev pub switch_took_first : List OutboxEntry → Actors → Option Actors
switch_took_first [] w = None
switch_took_first (first ∷ others) w =
    Some (switch_took (sccp_in first.out.frame) (with_outbox SWITCH_LINK others w))

abbrev pub after_switch_takes : Actors → Option Actors
after_switch_takes w =
    if is_up w SWITCH_LINK then switch_took_first (outbox_of w SWITCH_LINK) w else None

-- ---- the switch sends on an open connection

abbrev pub may_send_on : Actors → ℕ → Bool
may_send_on w connection =
    is_up w SWITCH_LINK && is_none (send_fault (connection_of w.switch.connections connection))

abbrev pub sent_on : Actors → ℕ → Bssap → SwitchState → Option Actors
sent_on w connection message next =
    if may_send_on w connection
    then Some (record w {
      switch =
          next;
      switch_made = w.switch_made
          ++ data_forms_on (connection_of w.switch.connections connection) message;
    })
    else None

-- a layer 3 message has 1 to 251 octets
abbrev pub is_layer_3 : List ℕ → Bool
is_layer_3 message = nat_le 1 (length message) && nat_le (length message) MESSAGE_LIMIT

abbrev pub after_switch_does : Actors → SwitchAction → Option Actors
after_switch_does w (Assign connection) = sent_on w connection assignment_request w.switch
after_switch_does w (Clear connection) =
    sent_on w connection clear_command (after_clear w.switch connection)
after_switch_does w (Dtap connection sapi message) =
    if is_layer_3 message then sent_on w connection (Transfer (dlci_for sapi) message) w.switch
    else None
