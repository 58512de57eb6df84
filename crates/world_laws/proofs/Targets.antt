-- SPDX-License-Identifier: MIT OR Apache-2.0
pub mod Within
pub mod Places
pub mod Air
pub mod Calm
pub mod Ways
pub mod AckOne
pub mod Settled
pub mod FreeQuiet
pub mod Comings
pub mod Downs
pub mod Givers
pub mod Beside
pub mod AckServes
pub mod RoleMoves
pub mod Begun
pub mod FreshTurn
pub mod Completing
pub mod RemainsFresh
mod Rows
