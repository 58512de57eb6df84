-- SPDX-License-Identifier: MIT OR Apache-2.0
pub mod Status
pub mod Input
pub mod Output
pub mod Beginnings
