-- SPDX-License-Identifier: MIT OR Apache-2.0
mod Handing
mod Rounds
mod Rows
