-- SPDX-License-Identifier: MIT OR Apache-2.0
pub mod Judged
pub mod Finding
pub mod Steps
pub mod TrialState
pub mod Trial
pub mod Left
pub mod OrdersState
pub mod Orders
pub mod Shown
