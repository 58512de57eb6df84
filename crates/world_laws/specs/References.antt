-- SPDX-License-Identifier: MIT OR Apache-2.0
pub mod Naming
pub mod Reads
pub mod Agree
pub mod Over
pub mod Taken
