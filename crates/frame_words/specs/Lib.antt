-- SPDX-License-Identifier: MIT OR Apache-2.0
pub mod CarriedNames
pub mod Carried
pub mod Fields
pub mod MessageName
pub mod Numbered
pub mod LongLine
pub mod Said
