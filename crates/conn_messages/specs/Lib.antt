-- SPDX-License-Identifier: MIT OR Apache-2.0
pub mod ChannelUse
pub mod Out
pub mod OutputsState
pub mod StationMessage
pub mod SwitchMessage
pub mod UseOctets
