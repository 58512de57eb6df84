-- SPDX-License-Identifier: MIT OR Apache-2.0
pub mod Places
pub mod Alive
pub mod MobileStep
pub mod RelayStep
pub mod ChangeStep
pub mod BreakStep
pub mod Opening
pub mod Order
pub mod Steps
