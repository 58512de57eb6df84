-- SPDX-License-Identifier: MIT OR Apache-2.0
-- The names that the definitions of this crate use from the crates below it.
pub use Rattle.bssmap_codec.specs.declared.bssap.Bssap.TheVariants.{Management}
pub use Rattle.bssmap_codec.specs.declared.sccp.Sccp.{Sccp}
pub use Rattle.conn_messages.specs.declared.channel.Channel.{Channel}
pub use Rattle.conn_messages.specs.declared.channel.Place.{Place}
pub use Rattle.conn_messages.specs.declared.out.Out.{Out}
pub use Rattle.conn_messages.specs.declared.parameters.TheConstants.{SWITCH_LINK}
pub use Rattle.conn_rules.specs.Connection.{Connection}
pub use Rattle.conn_rules.specs.Putting.{same_place}
pub use Rattle.conn_rules.specs.Validity.{IsCarried, IsValid}
pub use Rattle.conn_rules.specs.Steps.{Row}
pub use Rattle.conn_rules.specs.Streams.{AreApart, IsOpen, relayed, target_in, undone}
pub use Rattle.conn_rules.specs.Streams.{used_channels}
pub use Rattle.conn_rules.specs.Table.{row_of}
pub use Rattle.conn_rules.specs.declared.input.Input.{Input}
pub use Rattle.conn_rules.specs.declared.state.Drain.{Drain}
pub use Rattle.conn_rules.specs.declared.state.State.{State}
pub use Rattle.conn_rules.specs.declared.state.State.TheVariants.{Closed, Live, Removed}
pub use Rattle.conn_rules.specs.declared.state.State.TheVariants.{WaitActivation, WaitConfirm}
pub use Rattle.conn_rules.specs.declared.state.State.TheVariants.{WaitEstablish}
pub use Rattle.conn_rules.specs.declared.state.Target.{Target}
pub use Rattle.controller_model.specs.Controller.{channel_state, is_up as hears, place_of}
pub use Rattle.controller_model.specs.Life.{take}
pub use Rattle.controller_model.specs.LifeLaws.End.{IsThere}
pub use Rattle.controller_model.specs.LifeLaws.History.{connection_of, word_by, word_in}
pub use Rattle.controller_model.specs.LifeLaws.Sending.{IsOctetStep}
pub use Rattle.controller_model.specs.Reading.{sapi_of}
pub use Rattle.controller_model.specs.Views.{forwarded}
pub use Rattle.controller_model.specs.declared.channel_state.ChannelState.TheVariants.{Free}
pub use Rattle.controller_model.specs.declared.word.Word.{Word}
pub use Rattle.controller_model.specs.declared.word.Word.TheVariants.{OnChannel, OnConnection}
pub use Rattle.dtap_codec.specs.Message.{is_flow_message}
pub use Rattle.dtap_codec.specs.RrReading.{rr_reading}
pub use Rattle.dtap_codec.specs.declared.rr.RrMessage.{RrMessage}
pub use Rattle.dtap_codec.specs.declared.rr_fault.RrFault.{RrFault}
pub use Rattle.dtap_codec.specs.declared.sapi.Sapi.TheVariants.{Zero}
pub use Rattle.mobile_end.specs.Control.{is_control}
pub use Rattle.mobile_end.specs.DataLink.{to_be_taken}
pub use Rattle.mobile_end.specs.DataLinkState.{DataLinkState}
pub use Rattle.mobile_end.specs.RunsToEnd.{RunsToEnd}
pub use Rattle.msc_end.specs.declared.connection.Connection.{Connection as SwitchConnection}
pub use Rattle.rsl_codec.specs.declared.rsl.Rsl.{Rsl}
pub use Rattle.ruled_relay.specs.declared.item.Item.{Item, Item as RelayItem}
pub use Rattle.settings.specs.Parameters.{AreAllowed, Parameters}
pub use Rattle.world_model.specs.Life.{actors_after, actors_after_all}
pub use Rattle.world_model.specs.Stations.{mobile_on, rsl_in}
pub use Rattle.world_model.specs.Steps.{all_steps}
pub use Rattle.world_model.specs.SwitchSide.{sccp_in}
pub use Rattle.world_model.specs.World.{Actors, Mobile, base_of, is_active_at, is_station_up, is_up}
pub use Rattle.world_model.specs.World.{mobile_of, modulus_in, new_actors}
pub use Rattle.world_model.specs.World.{outbox_of, spot_at, tenure_at}
pub use Rattle.world_model.specs.declared.event.Event.{Event}
pub use Rattle.world_model.specs.declared.event.Event.TheVariants.{BaseTakes, Handle, SwitchTakes}
pub use Rattle.world_model.specs.declared.event.Event.TheVariants.{Tick}
pub use Rattle.world_model.specs.declared.line.AirMessage.{AirMessage}
pub use Rattle.world_model.specs.declared.line.OutboxEntry.{OutboxEntry}
pub use Rattle.world_model.specs.declared.seat.Seat.TheVariants.{Asking, On}
pub use Rattle.world_model.specs.declared.seat.Tenure.{Tenure}
