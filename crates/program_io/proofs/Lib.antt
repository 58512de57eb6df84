-- SPDX-License-Identifier: MIT OR Apache-2.0
pub mod Ends
pub mod Lists
pub mod Putting
pub mod Feeding
mod Rows
