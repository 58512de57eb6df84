-- SPDX-License-Identifier: MIT OR Apache-2.0
mod Printing
mod Running
mod Reporting
mod OnLiterals
mod Rows
mod CaptureRows
