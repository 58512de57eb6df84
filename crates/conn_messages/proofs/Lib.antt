-- SPDX-License-Identifier: MIT OR Apache-2.0
pub mod Readings
mod Rows
pub mod Sizes
pub mod UseReadings
