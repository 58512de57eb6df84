-- SPDX-License-Identifier: MIT OR Apache-2.0
pub mod Doing
pub mod Laws
pub mod Many
pub mod Offers
pub mod Reporting
pub mod Rest
pub mod Consistent
pub mod Wanting
