-- SPDX-License-Identifier: MIT OR Apache-2.0
pub mod Packet
pub mod Capture
pub mod NextNumbers
