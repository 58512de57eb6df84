-- SPDX-License-Identifier: MIT OR Apache-2.0
mod Activating
mod Rows
mod Numbering
pub mod Written
mod Fit
mod Places
mod Index
pub mod SwitchWritten
