-- SPDX-License-Identifier: MIT OR Apache-2.0
pub mod Giving
mod Rows
mod TenureRows
pub mod Tenures
