-- SPDX-License-Identifier: MIT OR Apache-2.0
pub mod ChainState
pub mod HoldState
pub mod Refusal
