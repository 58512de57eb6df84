-- SPDX-License-Identifier: MIT OR Apache-2.0
pub mod Columns
mod Rows
mod LongRows
mod NameRows
