-- SPDX-License-Identifier: MIT OR Apache-2.0
pub mod Arfcns
pub mod Choice
mod Copies
pub mod Levels
pub mod NoneReaches
mod Rows
pub mod Ten
pub mod TooWeak
pub mod Unique
pub mod Window
