-- SPDX-License-Identifier: MIT OR Apache-2.0
pub mod Asking
pub mod Making
pub mod OneEach
pub mod LinkEnds
pub mod OldChannels
pub mod Present
pub mod Alone
mod Rows
