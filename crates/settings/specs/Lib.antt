-- SPDX-License-Identifier: MIT OR Apache-2.0
pub mod Answer
pub mod Faults
pub mod Found
pub mod Keys
pub mod Parameters
pub mod Parsed
pub mod Reading
pub mod Rules
pub mod Tables
