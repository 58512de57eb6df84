-- SPDX-License-Identifier: MIT OR Apache-2.0
pub mod Lines
pub mod Phases
pub mod Conditions
pub mod Following
pub mod Relaying
pub mod Changing
pub mod Breaking
pub mod Moving
pub mod Ordering
mod Rows
