-- SPDX-License-Identifier: MIT OR Apache-2.0
pub mod Answer
pub mod Causes
pub mod Element
pub mod Field
pub mod Front
pub mod Lists
pub mod Refusal
pub mod Walk
