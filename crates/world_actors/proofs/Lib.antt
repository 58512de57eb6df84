-- SPDX-License-Identifier: MIT OR Apache-2.0
mod Prelude
mod Airing
mod Bringing
mod Coming
mod Departing
mod Lines
mod Pushing
mod Sitting
mod Turning
mod Upper
mod Rows
mod RelayRows
