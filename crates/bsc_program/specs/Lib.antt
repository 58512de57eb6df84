-- SPDX-License-Identifier: MIT OR Apache-2.0
pub mod Report
pub mod ScriptOrder
pub mod Breaks
pub mod BreakCounts
pub mod Asked
pub mod Replayed
