-- SPDX-License-Identifier: MIT OR Apache-2.0
mod Leaving
mod LeftRows
pub mod OnLiterals
mod Rows
