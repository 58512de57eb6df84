-- SPDX-License-Identifier: MIT OR Apache-2.0
pub mod Bits
pub mod Message
pub mod Number
pub mod Places
pub mod Report
pub mod Rr
pub mod RrFaults
pub mod RrReading
pub mod RrText
pub mod RrType
