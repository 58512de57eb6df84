-- SPDX-License-Identifier: MIT OR Apache-2.0
pub mod Openers
pub mod Whereabouts
pub mod Facts
pub mod Order
pub mod Targets
pub mod LineUps
pub mod OctetEvents
pub mod Unanswered
pub mod Beginning
pub mod QuietDown
