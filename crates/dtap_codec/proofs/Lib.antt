-- SPDX-License-Identifier: MIT OR Apache-2.0
pub mod Fields
pub mod Numbers
pub mod Reports
pub mod Rising
mod Rows
pub mod RrEndings
pub mod RrGrammar
