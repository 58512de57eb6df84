-- SPDX-License-Identifier: MIT OR Apache-2.0
pub mod Reading
pub mod Gathering
pub mod Answering
pub mod Found
pub mod Letting
mod Rows
