-- SPDX-License-Identifier: MIT OR Apache-2.0
pub mod Lists
pub mod FirstLines
mod Rows
pub mod Decoding
mod NameRows
pub mod NameSizes
mod CommandRows
pub mod Taking
pub mod Entering
pub mod Commanding
pub mod Splitting
mod Decimals
pub mod HexadecimalLemmas
pub mod Reading
pub mod Saying
pub mod Lines
pub mod Scripts
mod LineRows
