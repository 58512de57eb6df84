-- SPDX-License-Identifier: MIT OR Apache-2.0
pub mod Decimals
pub mod Parting
mod Rows
pub mod Searching
pub mod Taking
pub mod Wanting
