-- SPDX-License-Identifier: MIT OR Apache-2.0
pub mod Faults
pub mod Naming
pub mod Telling
