-- SPDX-License-Identifier: MIT OR Apache-2.0
pub mod Sights
pub mod Notes
pub mod NoteText
