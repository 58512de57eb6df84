-- SPDX-License-Identifier: MIT OR Apache-2.0
pub mod ChannelNumber
pub mod Fields
pub mod LinkIdentifier
pub mod Rsl
pub mod RslFaults
pub mod RslReading
pub mod RslText
pub mod RslType
pub mod WrittenOrder
