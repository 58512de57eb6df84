-- SPDX-License-Identifier: MIT OR Apache-2.0
pub mod Counting
pub mod Keeping
pub mod Later
pub mod Leaving
pub mod OldChannels
pub mod Pushing
mod Rows
