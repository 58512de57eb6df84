-- SPDX-License-Identifier: MIT OR Apache-2.0
-- Names of other crates that are used in the definitions of this crate.
pub use Rattle.bssmap_codec.specs.declared.bssap.Bssap.TheVariants.{Management}
pub use Rattle.conn_messages.specs.Out.{outs_of}
pub use Rattle.conn_messages.specs.declared.channel.Channel.{Channel}
pub use Rattle.conn_messages.specs.declared.channel.Place.{Place}
pub use Rattle.conn_messages.specs.declared.message.Message.{Message}
pub use Rattle.conn_messages.specs.declared.out.Out.{Out}
pub use Rattle.conn_messages.specs.declared.parameters.TheConstants.{SWITCH_LINK}
pub use Rattle.conn_rules.specs.Connection.{Connection}
pub use Rattle.conn_rules.specs.Streams.{IsOpen, handed, is_dtap}
pub use Rattle.conn_rules.specs.Table.{row_of}
pub use Rattle.conn_rules.specs.declared.input.Input.{Input}
pub use Rattle.conn_rules.specs.declared.state.State.{State}
pub use Rattle.dtap_codec.specs.declared.report.Report.{Report}
pub use Rattle.dtap_codec.specs.declared.sapi.Sapi.{Sapi}
pub use Rattle.dtap_codec.specs.declared.sapi.Sapi.TheVariants.{Three, Zero}
pub use Rattle.rsl_codec.specs.declared.values.RequestReference.{RequestReference}
pub use Rattle.ruled_relay.specs.declared.item.What.{What}
pub use Rattle.settings.specs.Parameters.{AreAllowed, Parameters}
