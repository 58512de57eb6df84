-- SPDX-License-Identifier: MIT OR Apache-2.0
-- A channel as the controller names it, and as a judge names it.
use Rattle.conn_messages.specs.declared.channel.Channel.{Channel}
use Rattle.conn_messages.specs.declared.channel.Place.{Place}
use Rattle.run_judge.specs.declared.said.StationChannel.{StationChannel}
use Rattle.run_judge.specs.Reading.{channel_at}

abbrev pub spot : StationChannel → Place
spot at = record { station = at.station; number = at.number }

abbrev pub at_of : Channel → StationChannel
at_of c = channel_at c.station c.number
