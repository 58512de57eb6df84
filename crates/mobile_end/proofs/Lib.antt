-- SPDX-License-Identifier: MIT OR Apache-2.0
pub mod Numbering
pub mod Resuming
mod Rows
mod RepeatRows
pub mod Slices
pub mod Lives
pub mod Acknowledging
pub mod GoingOn
pub mod GoingOnByCalls
pub mod OnSapiThree
