-- SPDX-License-Identifier: MIT OR Apache-2.0
pub mod Doing
pub mod Endings
pub mod Leaving
pub mod PlanState
pub mod Views
