-- SPDX-License-Identifier: MIT OR Apache-2.0
mod Sending
mod Numbering
mod Rows
