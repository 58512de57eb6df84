-- SPDX-License-Identifier: MIT OR Apache-2.0
pub mod Calls
pub mod Done
pub mod Given
pub mod Links
pub mod Pairs
pub mod Work
pub mod Octets
