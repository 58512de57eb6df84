-- SPDX-License-Identifier: MIT OR Apache-2.0
-- In any world, the messages that the switch made fit frames of its link.
use Rattle.std.proofs.Common.{ℕ, ◌==◌, Bool, true, false, if◌then◌else◌, List, [], ◌∷◌, ◌++◌, Option, Some, None, unwrap_or, refl, subst, ◌≡◌}
use Rattle.std.specs.List.{AllByRecursion}
use Rattle.bssmap_codec.specs.declared.bssap.Bssap.{Bssap}
use Rattle.bssmap_codec.specs.declared.bssap.Bssap.TheVariants.{Transfer}
use Rattle.bssmap_codec.specs.declared.sccp.Sccp.{Sccp}
use Rattle.conn_messages.specs.declared.parameters.TheConstants.{SWITCH_LINK}
use Rattle.conn_rules.proofs.DownlinkMessages.{AllByRecursion-append}
use Rattle.controller_model.specs.Life.{take, tick}
use Rattle.link_model.specs.Base.{first_message}
use Rattle.msc_end.specs.Switch.{after_clear, assignment_request, clear_command, connection_of, data_forms_on, dlci_for, replies}
use Rattle.msc_end.specs.SwitchState.{SwitchState}
use Rattle.rsl_codec.specs.declared.rsl.Rsl.{Rsl}
use Rattle.world_model.specs.declared.event.Event.{Event}
use Rattle.world_model.specs.declared.event.Event.TheVariants.{BaseDown, BasePush, BaseTakes, Handle, SwitchDoes, SwitchTakes, Tick}
use Rattle.world_model.specs.declared.event.SwitchAction.{SwitchAction}
use Rattle.world_model.specs.declared.event.SwitchAction.TheVariants.{Assign, Clear, Dtap}
use Rattle.world_model.specs.Life.{actors_after, actors_after_all, event_after}
use Rattle.world_model.specs.Relay.{after_base_push, after_break, after_handle, pushed_by_station, pushed_by_switch, target_in}
use Rattle.world_model.specs.Stations.{after_base_takes}
use Rattle.world_model.specs.SwitchSide.{after_switch_does, after_switch_takes, is_layer_3, may_send_on, sccp_in, sent_on, switch_took}
use Rattle.world_model.specs.World.{Actors, base_of, with_outbox}
use Rattle.world_model.proofs.Leads.{FromAir, OfTaken, aerial_leads, after_taken, broken_leads, handle_leads, switch_takes_leads, taking_leads, turn_leads}
use Rattle.relay_order.proofs.ConverseSizes.{FitsFrame, forms_fit, replies_fit}

-- what the switch made and hasn't given
abbrev pub MakesFrames : Actors → Type 0
MakesFrames w = AllByRecursion FitsFrame w.switch_made

took_frames : (w : Actors) (o : Option Sccp) → MakesFrames w → MakesFrames (switch_took o w)
took_frames w None makes = makes
took_frames w (Some message) makes =
    AllByRecursion-append FitsFrame w.switch_made (replies w.switch.connections message) makes (replies_fit w.switch.connections message)

push_frames : (w : Actors) (source : ℕ) → MakesFrames w → MakesFrames (unwrap_or (after_base_push w source) w)
push_frames w source makes = by_source (source == SWITCH_LINK) where
  by_made : (made : List Sccp) → w.switch_made ≡ made → MakesFrames (unwrap_or (pushed_by_switch made w) w)
  by_made [] is = makes
  by_made (first ∷ others) is = (subst (AllByRecursion FitsFrame) is makes).1

  by_message : (o : Option Rsl) → MakesFrames (unwrap_or (pushed_by_station source o w) w)
  by_message None = makes
  by_message (Some message) = makes

  by_source : (b : Bool) →
      MakesFrames (unwrap_or (if b then pushed_by_switch w.switch_made w else pushed_by_station source (first_message (base_of w source)) w) w)
  by_source true = by_made w.switch_made refl
  by_source false = by_message (first_message (base_of w source))

sent_frames : (w : Actors) (connection : ℕ) (message : Bssap) (next : SwitchState) →
    MakesFrames w →
    MakesFrames (unwrap_or (sent_on w connection message next) w)
sent_frames w connection message next makes = by (may_send_on w connection) where
  by : (b : Bool) →
      MakesFrames (unwrap_or (if b then Some (record w { switch = next; switch_made = w.switch_made ++ data_forms_on (connection_of w.switch.connections connection) message }) else None) w)
  by true =
      AllByRecursion-append FitsFrame w.switch_made (data_forms_on (connection_of w.switch.connections connection) message) makes
      (forms_fit (connection_of w.switch.connections connection) message)
  by false = makes

does_frames : (w : Actors) (action : SwitchAction) → MakesFrames w → MakesFrames (unwrap_or (after_switch_does w action) w)
does_frames w (Assign connection) makes = sent_frames w connection assignment_request w.switch makes
does_frames w (Clear connection) makes = sent_frames w connection clear_command (after_clear w.switch connection) makes
does_frames w (Dtap connection sapi message) makes = by (is_layer_3 message) where
  by : (b : Bool) → MakesFrames (unwrap_or (if b then sent_on w connection (Transfer (dlci_for sapi) message) w.switch else None) w)
  by true = sent_frames w connection (Transfer (dlci_for sapi) message) w.switch makes
  by false = makes

leads : (w : Actors) (o : Option Actors) → MakesFrames w → OfTaken MakesFrames o → MakesFrames (unwrap_or o w)
leads w o makes all = after_taken MakesFrames o w all makes

frames_step : (w : Actors) (event : Event) → MakesFrames w → MakesFrames (actors_after w event)
unfolding event_after FromAir
frames_step w (BaseTakes station) makes = leads w (after_base_takes w station) makes (taking_leads MakesFrames w station (λ first others _ _ mobiles stations. makes))
frames_step w (BasePush source) makes = push_frames w source makes
frames_step w Handle makes =
    leads w (after_handle w) makes (handle_leads MakesFrames w (λ item items _. turn_leads MakesFrames (target_in w item.source item.what) (take item w.controller) (record w { inbox = items }) (λ links. makes)))
frames_step w SwitchTakes makes =
    leads w (after_switch_takes w) makes (switch_takes_leads MakesFrames w (λ first others up pending. took_frames (with_outbox SWITCH_LINK others w) (sccp_in first.out.frame) makes))
frames_step w (SwitchDoes action) makes = does_frames w action makes
frames_step w (Tick ms) makes = turn_leads MakesFrames None (tick ms w.controller) w (λ links. makes)
frames_step w (BaseDown source) makes = leads w (after_break w source) makes (broken_leads MakesFrames w source (λ _ _. tt) (λ _ _. makes))
frames_step w event makes = leads w (event_after w event) makes (aerial_leads MakesFrames w event refl (λ mobiles stations. makes))

pub frames_all : (w : Actors) (events : List Event) → MakesFrames w → MakesFrames (actors_after_all w events)
frames_all w [] makes = makes
frames_all w (event ∷ events) makes = frames_all (actors_after w event) events (frames_step w event makes)
