-- SPDX-License-Identifier: MIT OR Apache-2.0
pub mod Call
pub mod Advancing
pub mod Links
pub mod Moves
pub mod Seen
pub mod Steps
pub mod Stopping
pub mod Taking
