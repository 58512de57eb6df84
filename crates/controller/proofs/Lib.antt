-- SPDX-License-Identifier: MIT OR Apache-2.0
mod Prelude
pub mod Carrying
mod Cells
mod Concerning
pub mod Dues
mod Freeing
mod Held
mod Inputs
mod Lives
mod Measuring
mod Moves
pub mod One
pub mod Planning
mod Reporting
mod Rows
mod Stepping
pub mod Wanting
pub mod InOctets
pub mod LifeLaws
