-- SPDX-License-Identifier: MIT OR Apache-2.0
pub mod Places
pub mod Hearing
pub mod Saying
pub mod Agreeing
pub mod Lives
