-- SPDX-License-Identifier: MIT OR Apache-2.0
mod Rows
mod Writing
mod Numbering
mod Recording
