-- SPDX-License-Identifier: MIT OR Apache-2.0
pub mod Columns
pub mod Line
pub mod Lines
