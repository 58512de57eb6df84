-- SPDX-License-Identifier: MIT OR Apache-2.0
pub mod Framing
pub mod Parts
pub mod DelayedHeld
pub mod DelayedAir
pub mod DelayedEvents
pub mod DelayedAfter
pub mod Delayed
pub mod Taking
pub mod Reading
pub mod Live
pub mod Up
pub mod Tenures
pub mod Owners
pub mod OwnedTurns
pub mod SomeOf
pub mod Arriving
pub mod Handing
pub mod InTenures
pub mod Down
pub mod Joined
pub mod Shown
pub mod ConverseSizes
pub mod ConverseMade
pub mod ConverseEnds
pub mod ConversePushed
pub mod ConverseOctets
pub mod Converse
mod Rows
mod RunRows
mod HandingRows
mod OrderRows
