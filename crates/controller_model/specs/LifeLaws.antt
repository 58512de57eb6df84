-- SPDX-License-Identifier: MIT OR Apache-2.0
pub mod Acts
pub mod Downlink
pub mod End
pub mod Handing
pub mod History
pub mod Numbers
pub mod Owning
pub mod Uplink
pub mod Using
pub mod Reach
pub mod Sending
pub mod Concern
pub mod Seen
pub mod Placing
pub mod Naming
