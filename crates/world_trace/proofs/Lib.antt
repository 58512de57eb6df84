-- SPDX-License-Identifier: MIT OR Apache-2.0
pub mod Crosses
pub mod Making
pub mod Noting
pub mod Stepping
pub mod Turning
pub mod Walking
mod Rows
mod CauseRows
mod NoteRows
