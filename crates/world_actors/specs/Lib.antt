-- SPDX-License-Identifier: MIT OR Apache-2.0
pub mod Handling
pub mod Seats
pub mod Taking
pub mod RelayState
pub mod Links
pub mod Relay
