-- SPDX-License-Identifier: MIT OR Apache-2.0
pub mod Agreeing
pub mod RoleAcks
pub mod Silence
pub mod BegunRow
pub mod BegunTurn
pub mod BegunRun
mod Rows
