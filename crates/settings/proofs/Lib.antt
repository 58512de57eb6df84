-- SPDX-License-Identifier: MIT OR Apache-2.0
mod AnswerRows
mod Blank
mod FaultRows
mod Least
pub mod Lists
mod ParameterRows
mod Parsed
mod ParsedRows
mod Rows
mod SettingsRows
mod Turns
