-- SPDX-License-Identifier: MIT OR Apache-2.0
pub mod Among
pub mod Ends
pub mod Inbox
pub mod Left
pub mod Outbox
pub mod Refusals
pub mod Row
pub mod Rule
pub mod Signs
