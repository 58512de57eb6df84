-- SPDX-License-Identifier: MIT OR Apache-2.0
mod Rows
mod Written
mod Beginnings
mod Writing
mod Judged
