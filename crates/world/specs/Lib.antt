-- SPDX-License-Identifier: MIT OR Apache-2.0
pub mod FixedState
pub mod Fixed
pub mod WorldState
pub mod World
pub mod Beside
pub mod Views
pub mod Openers
pub mod Queues
pub mod Handing
pub mod LineUp
pub mod Headline
