-- SPDX-License-Identifier: MIT OR Apache-2.0
mod Causes
pub mod Steps
pub mod InOrder
pub mod Lines
pub mod WrittenOrder
pub mod Messages
pub mod AnswersInOrder
mod Rows
mod FalseOctetRows
