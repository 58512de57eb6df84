-- SPDX-License-Identifier: MIT OR Apache-2.0
mod Prelude
mod Usual
pub mod Spots
pub mod Framing
pub mod Likening
pub mod Projecting
pub mod Events
pub mod Seeing
pub mod Apart
pub mod AirUp
pub mod Quiet
pub mod OwnMobile
pub mod OwnMoves
pub mod MobileEvents
pub mod BesideRelay
pub mod Sublists
pub mod BaseTakes
pub mod StationTakes
mod Rows
pub mod StillToArrive
pub mod SwitchTakes
pub mod Cutting
pub mod Breaks
pub mod Others
pub mod OwnRow
pub mod OwnSteps
pub mod OwnRowLaw
mod StepRows
mod HandleRows
mod AcknowledgedRows
pub mod RolesAfter
pub mod OwnRoles
pub mod OwnFuture
pub mod OwnChannels
pub mod OwnDoes
pub mod OwnReleases
pub mod OwnInput
pub mod OwnTurn
pub mod OwnSeats
pub mod OwnCommand
pub mod OwnHandle
pub mod OwnHandled
pub mod OwnFrame
pub mod OwnFrames
pub mod OwnFrameLaw
pub mod ValidConnections
pub mod Whole
pub mod Acknowledged
pub mod Handled
pub mod Opening
pub mod InOrder
pub mod OthersFrame
pub mod SentGrows
pub mod SwitchTook
pub mod Ending
mod EndedRows
pub mod SapiThree
pub mod SapiThreeHeld
mod SapiThreeRows
pub mod PutAsRead
pub mod AcksBegin
pub mod Refusals
mod RefusalsRows
pub mod TakingTurns
pub mod TurnsLife
pub mod TurnsSteps
mod TakingTurnsRows
pub mod OrderTexts
pub mod OrderRows
pub mod OrderNames
pub mod OrderTurns
pub mod OrderSteps
pub mod OrderHeard
pub mod OrderLeads
pub mod OrderServes
pub mod OwnerRun
pub mod Remaining
mod RemainingRows
pub mod Channels
pub mod Owners
pub mod Targets
pub mod References
pub mod Access
pub mod Handling
pub mod Order
pub mod LineUp
