-- SPDX-License-Identifier: MIT OR Apache-2.0
pub mod Dropped
pub mod Leaving
pub mod Saying
pub mod Knowing
pub mod Finishing
pub mod Missing
pub mod Turning
pub mod Own
pub mod Beside
pub mod Acting
pub mod Continuing
mod Rows
