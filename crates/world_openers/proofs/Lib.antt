-- SPDX-License-Identifier: MIT OR Apache-2.0
pub mod Runs
pub mod Initials
pub mod Beginning
pub mod Connecting
pub mod Taken
pub mod Waiting
pub mod Asking
pub mod Coming
pub mod Openers
mod Rows
