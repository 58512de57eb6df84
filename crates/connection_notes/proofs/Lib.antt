-- SPDX-License-Identifier: MIT OR Apache-2.0
pub mod Seeing
pub mod Turning
pub mod Walking
mod Rows
