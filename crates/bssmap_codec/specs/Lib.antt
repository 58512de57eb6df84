-- SPDX-License-Identifier: MIT OR Apache-2.0
pub mod Bssap
pub mod BssapFaults
pub mod BssapReading
pub mod BssapText
pub mod BssmapType
pub mod Layer3
pub mod Reference
pub mod Sccp
pub mod SccpFaults
pub mod SccpReading
pub mod SccpText
pub mod SccpType
pub mod Values
