-- SPDX-License-Identifier: MIT OR Apache-2.0
mod EndMarks
mod Coming
mod Calling
mod Pairing
mod NewQueues
mod GivingBack
mod Relaying
mod Rows
mod CapacityRows
mod Moves
pub mod Octets
mod OctetRows
