-- SPDX-License-Identifier: MIT OR Apache-2.0
pub mod OneEach
pub mod Alone
pub mod LinkEnds
