-- SPDX-License-Identifier: MIT OR Apache-2.0
pub mod Views
pub mod Words
pub mod Following
