-- SPDX-License-Identifier: MIT OR Apache-2.0
pub mod Entries
pub mod Acting
pub mod Words
pub mod Turns
pub mod Readings
pub mod Beside
pub mod Fitting
pub mod Silence
pub mod Lives
pub mod Progress
pub mod Sources
pub mod Switched
pub mod DownlinkLife
pub mod Places
pub mod Owning
pub mod OwningRows
pub mod OwningSteps
pub mod OwningWords
pub mod Ordered
pub mod OwningLife
mod OnLiterals
mod Rows
pub mod Tenures
pub mod Following
pub mod FollowingRows
pub mod FollowingChanges
pub mod FollowingTable
pub mod FollowingRests
pub mod FollowingSteps
pub mod UplinkLife
mod UplinkRows
pub mod SilenceLife
pub mod UsualRows
pub mod Reaching
pub mod UsingRows
pub mod UsingChanges
pub mod UsingWords
pub mod UsingLife
pub mod SoundMessages
pub mod SoundRows
pub mod SoundLife
pub mod Concerning
mod UsedRows
mod SentRows
mod OwnRows
mod ActRows
mod EndRows
mod HistoryRows
mod NumberRows
mod OwnedRows
pub mod SeenFrames
pub mod Keeping
pub mod SeenStations
pub mod DownlinkLaw
pub mod Placed
pub mod Naming
pub mod NamingLife
pub mod Passing
pub mod HandingTable
pub mod HandingPut
pub mod HandingSteps
pub mod HandingServing
pub mod HandingLife
mod HandingRows
