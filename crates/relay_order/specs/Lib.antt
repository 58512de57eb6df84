-- SPDX-License-Identifier: MIT OR Apache-2.0
pub mod Switch
pub mod Run
pub mod Explains
pub mod Carried
pub mod Stations
pub mod Order
