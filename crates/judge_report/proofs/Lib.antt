-- SPDX-License-Identifier: MIT OR Apache-2.0
mod Writing
mod Texts
mod Rows
mod ConnectionRows
