-- SPDX-License-Identifier: MIT OR Apache-2.0
pub mod NamedRows
pub mod Numbered
pub mod Texts
pub mod Goings
pub mod Moving
pub mod Over
pub mod Right
pub mod Runs
pub mod Places
pub mod Taking
pub mod Peers
pub mod OwnTaking
pub mod FirstTaken
pub mod Pushing
pub mod Events
pub mod Stepping
pub mod Always
pub mod Heard
mod Rows
