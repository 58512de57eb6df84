-- SPDX-License-Identifier: MIT OR Apache-2.0
pub mod MessageText
pub mod FaultText
pub mod ConnectionText
pub mod JudgedText
pub mod Sums
