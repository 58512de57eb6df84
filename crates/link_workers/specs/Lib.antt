-- SPDX-License-Identifier: MIT OR Apache-2.0
pub mod Faults
pub mod Gates
pub mod Unread
pub mod Reading
pub mod Writing
pub mod Switching
