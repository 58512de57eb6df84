-- SPDX-License-Identifier: MIT OR Apache-2.0
pub mod ListLemmas
pub mod Hex
mod Rows
pub mod Steps
pub mod Walks
pub mod Grammar
pub mod Fields
