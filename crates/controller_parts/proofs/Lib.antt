-- SPDX-License-Identifier: MIT OR Apache-2.0
pub mod Passed
pub mod Readable
mod Rows
pub mod Valid
pub mod Words
mod Follows
