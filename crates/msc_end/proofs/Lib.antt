-- SPDX-License-Identifier: MIT OR Apache-2.0
pub mod Answering
pub mod Places
mod Rows
pub mod Wanting
