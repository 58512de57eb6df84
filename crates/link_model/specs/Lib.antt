-- SPDX-License-Identifier: MIT OR Apache-2.0
pub mod AirLink
pub mod RestsAfterReach
pub mod BaseState
pub mod Message
pub mod Base
pub mod BaseCalls
pub mod Tenures
