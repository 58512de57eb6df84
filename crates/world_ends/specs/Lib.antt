-- SPDX-License-Identifier: MIT OR Apache-2.0
pub mod Written
pub mod Stations
pub mod Activations
pub mod Placed
pub mod MobilesState
pub mod Index
pub mod Mobiles
pub mod SwitchWritten
pub mod SwitchSideState
pub mod Switch
