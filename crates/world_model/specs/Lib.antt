-- SPDX-License-Identifier: MIT OR Apache-2.0
pub use Rattle.conn_messages.specs.declared.parameters.TheConstants as LinkNumbers
pub use Rattle.conn_rules.specs.Streams
pub use Rattle.ipa_framing.specs.declared.frame.Frame
pub use Rattle.ipa_framing.specs.declared.streams.TheConstants as StreamNumbers
pub use Rattle.nsd_filter.specs.AcceptedList
pub use Rattle.rsl_codec.specs.declared.rsl.Rsl
pub mod World
pub mod Mobiles
pub mod Stations
pub mod Relay
pub mod SwitchSide
pub mod Life
pub mod Views
pub mod Queues
pub mod Honest
pub mod Steps
pub mod Pipe
pub mod Calls
pub mod CallsMade
pub mod Reading
pub mod Sized
pub mod Takes
pub mod Lists
pub mod Tickets
pub mod OwnerLines
pub mod Owners
