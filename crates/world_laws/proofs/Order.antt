-- SPDX-License-Identifier: MIT OR Apache-2.0
pub mod Openers
pub mod Controllers
pub mod SwitchDown
pub mod EventKinds
pub mod Steps
pub mod OctetTexts
pub mod OctetLinks
pub mod OctetMakers
pub mod OctetSwitch
pub mod OctetRun
pub mod CauseRows
pub mod CauseLife
pub mod Fairly
pub mod Following
pub mod Modulus
pub mod InOrder
pub mod Whole
pub mod Targets
pub mod LineUps
mod Rows
pub mod Naming
pub mod Unanswered
pub mod Opens
pub mod Beginning
pub mod Coming
mod AnswerRows
pub mod Avoiding
pub mod NoData
pub mod AirDown
pub mod QuietDown
pub mod Early
pub mod Down
pub mod Begin
pub mod Begun
mod BesideRows
