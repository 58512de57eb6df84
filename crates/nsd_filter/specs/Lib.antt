-- SPDX-License-Identifier: MIT OR Apache-2.0
pub mod Judgement
pub mod Filter
pub mod AcceptedList
pub mod Reception
