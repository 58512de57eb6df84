-- SPDX-License-Identifier: MIT OR Apache-2.0
pub mod Reporting
pub mod ScriptOrder
pub mod Replaying
pub mod Counting
pub mod Breaking
mod Rows
mod ReplayRows
mod PrintedRows
pub mod LineOctets
