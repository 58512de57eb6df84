-- SPDX-License-Identifier: MIT OR Apache-2.0
pub mod Entries
pub mod Index
pub mod Steps
