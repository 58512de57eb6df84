-- SPDX-License-Identifier: MIT OR Apache-2.0
pub mod BssapCauses
pub mod BssapTexts
pub mod Bssaps
pub mod Contents
pub mod Fronts
pub mod Layer3s
pub mod Options
pub mod OptionsGrammar
mod Rows
mod FalseOctetRows
pub mod SccpCauses
pub mod SccpTexts
pub mod Sccps
mod TextRows
