-- SPDX-License-Identifier: MIT OR Apache-2.0
pub use Rattle.ho_decision.specs.declared.decision.Decision
mod Prelude
pub mod Channels
pub mod Controller
pub mod Life
pub mod Ownership
pub mod Reading
pub mod Reports
pub mod Views
pub mod LifeLaws
