-- SPDX-License-Identifier: MIT OR Apache-2.0
pub mod Packet
pub mod Record
pub mod Reading
pub mod Reads
pub mod Places
