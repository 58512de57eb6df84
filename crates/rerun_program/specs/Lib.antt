-- SPDX-License-Identifier: MIT OR Apache-2.0
pub mod Stopping
pub mod Done
pub mod Going
pub mod GoingLaws
