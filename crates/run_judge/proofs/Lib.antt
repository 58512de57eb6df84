-- SPDX-License-Identifier: MIT OR Apache-2.0
mod ApartRows
mod CellRows
pub mod ChannelLemmas
pub mod JudgeLemmas
pub mod Dues
mod FlowRows
mod Lives
mod MobileRows
pub mod Readable
mod ReadingRows
mod Rows
