-- SPDX-License-Identifier: MIT OR Apache-2.0
mod Prelude
mod AccessRows
mod AccountRows
mod ActiveRows
mod CaseRows
mod ChangingRows
mod ChannelRows
pub mod Channels
pub mod Closing
pub mod Downlink
pub mod DownlinkMessages
pub mod DownlinkSteps
pub mod DownlinkTable
mod DrainingRows
mod Lives
mod PreparingRows
mod PlantedRows
pub mod Roles
pub mod RolesAccount
pub mod RolesApart
mod RolesRows
pub mod RolesSteps
pub mod RolesTable
mod Rows
pub mod ValidParts
pub mod ValidChanges
pub mod ValidSteps
pub mod ValidTable
mod StreamRows
mod TimerRows
pub mod UplinkMessages
pub mod UplinkPlaces
pub mod UplinkRows
pub mod UplinkSteps
pub mod UplinkTable
pub mod UplinkTenures
mod ValidRows
pub mod PutRows
mod PutOnRows
pub mod RowPuts
