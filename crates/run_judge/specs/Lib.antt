-- SPDX-License-Identifier: MIT OR Apache-2.0
pub mod Reading
pub mod Dues
pub mod StreamState
pub mod FlowState
pub mod Flow
pub mod OpeningState
pub mod Channels
pub mod ConnectionState
pub mod Connection
pub mod ConnectionSteps
pub mod Judging
pub mod JudgeState
pub mod Apart
pub mod Message
