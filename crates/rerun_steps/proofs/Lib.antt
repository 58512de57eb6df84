-- SPDX-License-Identifier: MIT OR Apache-2.0
pub mod Sizes
pub mod Packet
mod Rows
