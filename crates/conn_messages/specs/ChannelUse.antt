-- SPDX-License-Identifier: MIT OR Apache-2.0
-- How a message to a station changes the state of a channel of that station.
use Rattle.conn_messages.specs.declared.uses.ChannelUse.{ChannelUse}
use Rattle.conn_messages.specs.declared.uses.ChannelUse.TheVariants.{Activated, Released, Unchanged}
use Rattle.conn_messages.specs.declared.message.Message.{Message}
use Rattle.conn_messages.specs.declared.message.Message.TheVariants.{Station}
use Rattle.rsl_codec.specs.declared.rsl.Rsl.TheVariants.{ChannelActivation, RfChannelRelease}

-- A CHANNEL ACTIVATION takes its channel into use; an RF CHANNEL RELEASE starts the release of its
-- channel. All other messages leave channels unchanged.
abbrev pub use_by : Message → ChannelUse
use_by (Station station (ChannelActivation a)) =
    Activated (record { station = station; number = a.channel }) a.activation
use_by (Station station (RfChannelRelease channel)) =
    Released (record { station = station; number = channel })
use_by _ = Unchanged
