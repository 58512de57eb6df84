-- SPDX-License-Identifier: MIT OR Apache-2.0
pub mod Crossings
pub mod Fates
pub mod Makings
pub mod Marks
pub mod Notes
pub mod Turns
pub mod Causes
