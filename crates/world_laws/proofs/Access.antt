-- SPDX-License-Identifier: MIT OR Apache-2.0
pub mod Passes
pub mod Travels
pub mod Behind
pub mod Mobiles
pub mod Upcoming
pub mod Beginning
pub mod Arriving
pub mod Coming
pub mod RowChannels
pub mod Opened
pub mod EarlyRows
pub mod Requesting
pub mod Brings
pub mod Served
pub mod Turning
pub mod Numbered
pub mod ForOthers
pub mod Came
pub mod CameSteps
pub mod Silent
pub mod Ignored
pub mod CameLaw
pub mod Begins
mod Rows
