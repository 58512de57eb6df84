-- SPDX-License-Identifier: MIT OR Apache-2.0
pub mod Control
pub mod DataLinkState
pub mod DataLink
pub mod Lawful
pub mod MobileState
pub mod Mobile
pub mod RestsFramed
pub mod Calls
pub mod OneRepeat
pub mod Unacknowledged
pub mod RestsLent
pub mod RunsToEnd
