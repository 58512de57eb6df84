-- SPDX-License-Identifier: MIT OR Apache-2.0
-- The names that the proofs of this crate use from its specs and from the crates below it.
pub use Rattle.bssmap_codec.specs.declared.sccp.Sccp.{Sccp}
pub use Rattle.conn_messages.specs.declared.channel.Change.{Change}
pub use Rattle.conn_messages.specs.declared.channel.Change.TheVariants.{Assignment, Handover}
pub use Rattle.conn_messages.specs.declared.channel.Place.{Place}
pub use Rattle.conn_messages.specs.declared.out.Out.{Out}
pub use Rattle.conn_messages.specs.declared.parameters.TheConstants.{SWITCH_LINK}
pub use Rattle.conn_rules.proofs.DownlinkMessages.{AllByRecursion-append, AllByRecursion-filter}
pub use Rattle.conn_rules.specs.Streams.{is_dtap}
pub use Rattle.conn_rules.specs.declared.state.Stage.TheVariants.{Active, Draining}
pub use Rattle.conn_rules.specs.declared.state.State.TheVariants.{Live}
pub use Rattle.controller_model.proofs.Lives.{usual_settings, eager_settings, state_of}
pub use Rattle.controller_model.specs.Controller.{Controller, Turn, channel_state, place_at, each, free_channels, is_up as hears}
pub use Rattle.controller_model.specs.Controller.{new_controller, turn}
pub use Rattle.controller_model.specs.Life.{take, tick, step}
pub use Rattle.controller_model.specs.declared.channel_state.ChannelState.{ChannelState}
pub use Rattle.controller_model.specs.declared.channel_state.ChannelState.TheVariants.{Free, InUse, Releasing}
pub use Rattle.controller_model.specs.declared.limits.TheConstants.{CHANNEL_NUMBERS}
pub use Rattle.controller_model.specs.declared.step.Step.{Step}
pub use Rattle.dtap_codec.specs.Message.{is_flow_message}
pub use Rattle.dtap_codec.specs.Number.{with_number}
pub use Rattle.dtap_codec.specs.RrReading.{rr_reading}
pub use Rattle.dtap_codec.specs.declared.report.TheConstants.{REPORT_LENGTH}
pub use Rattle.dtap_codec.specs.declared.rr.RrMessage.{RrMessage}
pub use Rattle.dtap_codec.specs.declared.rr.RrMessage.TheVariants.{AssignmentCommand, ChannelRelease, HandoverCommand, ImmediateAssignment}
pub use Rattle.dtap_codec.specs.declared.rr_fault.RrFault.{RrFault}
pub use Rattle.dtap_codec.specs.declared.sapi.Sapi.{Sapi}
pub use Rattle.dtap_codec.specs.declared.sapi.Sapi.TheVariants.{Three, Zero}
pub use Rattle.link_model.proofs.Tenures.{Tenures-given, is_active-kept, is_active-push, is_active-released}
pub use Rattle.link_model.specs.AirLink.{after_ack, after_reach, message_in, offered_message}
pub use Rattle.link_model.specs.Base.{after_activate, after_establish, after_next, after_release, after_take_down, after_tell}
pub use Rattle.link_model.specs.Base.{first_message, first_of_messages, is_active, refusal_of_activate, messages_behind_first}
pub use Rattle.link_model.specs.BaseState.{BaseState}
pub use Rattle.link_model.specs.Message.{activation_ack, data_indication, establish_indication}
pub use Rattle.link_model.specs.Tenures.{is_bound_of, Tenures}
pub use Rattle.link_model.specs.declared.air_link.Air.{Air}
pub use Rattle.link_model.specs.declared.air_link.Air.TheVariants.{Empty, Given}
pub use Rattle.link_model.specs.declared.fault.LinkFault.{LinkFault}
pub use Rattle.link_model.specs.declared.fault.LinkFault.TheVariants.{Busy, NotActive}
pub use Rattle.mobile_end.specs.Calls.{Call, after_call, after_calls}
pub use Rattle.mobile_end.specs.Calls.Call.{acknowledges, arrives, connects, frames, gives_up, leaves, sends}
pub use Rattle.mobile_end.specs.Control.{is_control}
pub use Rattle.mobile_end.specs.DataLink.{lent_message, waits, after_load_from}
pub use Rattle.mobile_end.specs.DataLinkState.{DataLinkState}
pub use Rattle.mobile_end.specs.Mobile.{after_acked, after_acked_at, after_arrival, after_connect, after_frame_at, after_number}
pub use Rattle.mobile_end.specs.Mobile.{after_queue, frame_answer, link_of, new_mobile, refusal_of_connect, refusal_of_send, with_link}
pub use Rattle.mobile_end.specs.Mobile.{after_frame, after_leave, frame_answer_at, is_acknowledged, is_on_channel, refusal_before_connect}
pub use Rattle.mobile_end.specs.MobileState.{MobileState}
pub use Rattle.mobile_end.specs.declared.fault.MobileFault.{MobileFault}
pub use Rattle.mobile_end.specs.declared.mobile_end.Stage.{Stage}
pub use Rattle.mobile_end.specs.declared.mobile_end.Stage.TheVariants.{Connected, New}
pub use Rattle.msc_end.specs.SwitchState.{SwitchState}
pub use Rattle.octets.specs.Lists.{IsPrefix}
pub use Rattle.octets.specs.declared.limits.TheConstants.{INITIAL_LIMIT, MESSAGE_LIMIT}
pub use Rattle.rsl_codec.specs.ChannelNumber.{is_channel}
pub use Rattle.rsl_codec.specs.Rsl.{IsL3, IsLawful, IsRsl}
pub use Rattle.rsl_codec.specs.RslReading.{breaks_off, channel_at, elements_of, needed_value, rsl_reading, rsl_reading_by}
pub use Rattle.rsl_codec.specs.RslText.{rsl_text}
pub use Rattle.rsl_codec.specs.declared.dedicated_channel.Activation.{Activation}
pub use Rattle.rsl_codec.specs.declared.rsl.Rsl.{Rsl}
pub use Rattle.rsl_codec.specs.declared.rsl.Rsl.TheVariants.{ChannelActivation, DataRequest, EstablishRequest, ImmediateAssignCommand}
pub use Rattle.rsl_codec.specs.declared.rsl.Rsl.TheVariants.{RfChannelRelease, RfChannelReleaseAck, ChannelActivationNack}
pub use Rattle.ruled_relay.specs.declared.item.Item.{Item}
pub use Rattle.ruled_relay.specs.declared.item.What.{What}
pub use Rattle.settings.specs.Parameters.{CellParameters, Parameters}
pub use Rattle.std.proofs.Common.{Bool, Err, List, None, Ok, Option, Result, Some, [], ap, append_assoc, arith, cond, false, find, fold}
pub use Rattle.std.proofs.Common.{get_or, if◌then◌else◌, inl, inr, is_some, length, map, nat_eq, nat_lt, not, option_map, option_to_list}
pub use Rattle.std.proofs.Common.{refl, replicate, set, slice_index_or, subst, suc, sym, true, unwrap_or, zero, ℕ, ◌&&◌, ◌++◌, ◌+◌, ◌-◌}
pub use Rattle.std.proofs.Common.{◌<◌, ◌==◌, ◌||◌, ◌∙◌, ◌∷◌, ◌≡◌, ◌≢◌, ◌≤◌, ◌⊎◌, Contains, filter, nat_le, ◌%◌}
pub use Rattle.std.proofs.Math.Bool.{or-false}
pub use Rattle.std.proofs.lemmas.Bool.{cases_Bool, eq-eqb, eqb-false, eqb-true, ne_eqb, cond-false, cond-true, le-leb, leb-true, true≢false}
pub use Rattle.std.proofs.lemmas.List.{append-nil, length-set, get_or-set_other, get_or-set_same, length-replicate}
pub use Rattle.std.proofs.lemmas.List.Elements.{filter-append}
pub use Rattle.std.specs.List.{AllByRecursion, flat_map}
pub use Rattle.std.specs.Option.{is_none, option_and_then}
pub use Rattle.std.specs.Result.{result_ok}
pub use Rattle.world_model.specs.Honest.{AreHonest, all_given, given}
pub use Rattle.world_model.specs.Life.{actors_after, actors_after_all, event_after}
pub use Rattle.world_model.specs.CallsMade.{MobilesLive, place_in}
pub use Rattle.world_model.specs.OwnerLines.IsOwed.{began, begins, begins_and_ends, ends, nothing}
pub use Rattle.world_model.specs.Owners.{is_begun, owner_in, user_by, user_of}
pub use Rattle.world_model.specs.Pipe.{ArePipes, acknowledgement, acknowledgements, active_all, due, is_active_then}
pub use Rattle.world_model.specs.Queues.{KeepsQueues, all_popped, all_pushed, all_put, all_taken, first_of, made_item, of_source, outputs}
pub use Rattle.world_model.specs.Queues.{outputs_at, popped, pushed, put, taken, to_link}
pub use Rattle.world_model.specs.Relay.{after_base_push, after_break, after_handle, after_tick, broken, entry_of, handled, joined_by}
pub use Rattle.world_model.specs.Relay.{pushed_by_station, pushed_by_switch, station_item, switch_item, target_in, with_item, with_turn}
pub use Rattle.world_model.specs.Relay.{without_made}
pub use Rattle.world_model.specs.Sized.{HasSized}
pub use Rattle.world_model.specs.Stations.{accepts, activated, activated_unless, after_base_takes, answered, assigned, assigned_from}
pub use Rattle.world_model.specs.Stations.{assigned_to, link_answer, mobile_on, new_tenure, released, rsl_in, took, took_first}
pub use Rattle.world_model.specs.Steps.{FollowsTable, RunsByTable, all_outputs, all_steps, first_taken, step_at}
pub use Rattle.world_model.specs.SwitchSide.{after_switch_does, after_switch_takes, is_layer_3, may_send_on, sccp_in, sent_on, switch_took}
pub use Rattle.world_model.specs.SwitchSide.{switch_took_first}
pub use Rattle.world_model.specs.Tickets.{AllAreBy, AssignsBy, IsBy, LeadsBy, SitsBy, TakesBy, TakesFirstBy, on_seat, senders}
pub use Rattle.world_model.specs.World.{Actors, Link, Mobile, Spot, Station, World, base_of, broken_link, has_number, is_active_at}
pub use Rattle.world_model.specs.World.{is_reached, is_station_up, is_up, mobile_of, modulus_in, new_actors, new_link, new_spot, new_world}
pub use Rattle.world_model.specs.World.{no_station, outbox_of, put_back, spot_at, station_of, stations_from, tenure_at, with_base}
pub use Rattle.world_model.specs.World.{with_mobile, with_outbox, with_spot}
pub use Rattle.world_model.specs.declared.event.Event.{Event}
pub use Rattle.world_model.specs.declared.event.Event.TheVariants.{AirAck, AirDown, AirDownLost, AirUp, Arrive, BaseDown, BasePush}
pub use Rattle.world_model.specs.declared.event.Event.TheVariants.{BaseTakes, Connect, Handle, Move, Report, Return, SwitchDoes}
pub use Rattle.world_model.specs.declared.event.Event.TheVariants.{SwitchTakes, Tick, Touch, Upper}
pub use Rattle.world_model.specs.declared.event.SwitchAction.TheVariants.{Assign, Clear, Dtap}
pub use Rattle.world_model.specs.declared.limits.TheConstants.{MAX_TENURE}
pub use Rattle.world_model.specs.declared.line.AirMessage.{AirMessage}
pub use Rattle.world_model.specs.declared.line.OutboxEntry.{OutboxEntry}
pub use Rattle.world_model.specs.declared.seat.Command.{Command}
pub use Rattle.world_model.specs.declared.seat.Seat.{Seat}
pub use Rattle.world_model.specs.declared.seat.Seat.TheVariants.{Asking, Gone, Moving, On}
pub use Rattle.world_model.specs.declared.seat.Tenure.{Tenure}
