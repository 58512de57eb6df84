-- SPDX-License-Identifier: MIT OR Apache-2.0
mod Prelude
mod AccessRows
mod ChangeRows
pub mod Decides
mod DrainRows
pub mod Entries
mod ExpiryRows
mod LinkIdentifierRows
mod LinkRows
pub mod Lives
pub mod Numbers
pub mod OnLiterals
pub mod ReportBits
pub mod Others
mod ReportRows
mod Rows
mod ViewRows
pub mod LifeLaws
