-- SPDX-License-Identifier: MIT OR Apache-2.0
pub use Rattle.conn_rules.proofs.DownlinkMessages
pub use Rattle.nsd_filter.proofs.Accepting
mod Prelude
pub mod Acknowledging
mod ChangeRows
mod ClearRows
pub mod Counting
mod CallRows
mod HistoryRows
pub mod Heard
pub mod Honesty
pub mod Inboxes
pub mod Lawful
pub mod Leads
pub mod Outboxes
pub mod Living
mod MobileRows
pub mod Footprints
pub mod Found
pub mod Mobility
pub mod Repeating
mod Completing
mod MoveRows
pub mod Rows
pub mod Piping
mod QueueRows
pub mod LinkMessages
pub mod Sizing
pub mod Soundness
mod StationRows
pub mod Worlds
pub mod Ticketing
mod TicketRows
mod OwnerRows
mod OwnersRows
pub mod OwnerLines
pub mod OwnerKeeping
pub mod OwnerTenures
pub mod OwnerEvents
pub mod OwnerPuts
pub mod OwnerTakes
pub mod OwnerTurn
pub mod OwnerRuns
pub mod OwnerItems
