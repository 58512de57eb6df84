-- SPDX-License-Identifier: MIT OR Apache-2.0
pub mod FixedKept
pub mod FixedSteps
pub mod Order
pub mod SwitchHistory
pub mod ControlledQueues
pub mod ControlledOrder
pub mod Breaking
pub mod Made
pub mod Cut
pub mod CutMobiles
pub mod CutMoves
pub mod CutStations
pub mod CutRelay
pub mod CutEvents
pub mod CutWorlds
mod Rows
mod HeadlineRows
mod ControlledRows
