-- SPDX-License-Identifier: MIT OR Apache-2.0
pub mod Courses
pub mod Histories
pub mod Marking
pub mod Outboxes
pub mod Outputs
pub mod Resting
mod Rows
pub mod Runs
pub mod Turns
