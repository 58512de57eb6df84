-- SPDX-License-Identifier: MIT OR Apache-2.0
pub mod Clock
pub mod Chosen
pub mod StepText
pub mod DifferenceText
