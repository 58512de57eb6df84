-- SPDX-License-Identifier: MIT OR Apache-2.0
pub mod Handovers
pub mod Indexed
pub mod Kept
mod Numbers
pub mod Rising
mod Rows
pub mod Settled
pub mod Vacant
