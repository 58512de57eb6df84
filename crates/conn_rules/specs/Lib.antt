-- SPDX-License-Identifier: MIT OR Apache-2.0
pub mod Connection
pub mod Roles
pub mod Validity
pub mod Steps
pub mod Streams
pub mod Table
pub mod Timers
pub mod Putting
