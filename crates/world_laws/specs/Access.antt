-- SPDX-License-Identifier: MIT OR Apache-2.0
pub mod Coming
pub mod Arriving
pub mod Opened
pub mod Requested
pub mod Begun
