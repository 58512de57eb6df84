-- SPDX-License-Identifier: MIT OR Apache-2.0
pub mod Average
pub mod Choice
pub mod Decision
pub mod Heard
pub mod Measure
pub mod Settings
pub mod State
pub mod Strongest
pub mod Sums
