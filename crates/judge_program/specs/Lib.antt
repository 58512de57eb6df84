-- SPDX-License-Identifier: MIT OR Apache-2.0
pub mod Course
pub mod RunState
pub mod RunLaws
pub mod Judged
pub mod Stopping
