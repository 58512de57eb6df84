-- SPDX-License-Identifier: MIT OR Apache-2.0
-- Whether a row puts its messages only for channels in use.
use Rattle.std.specs.Prelude.{◌≡◌, ◌==◌, ◌&&◌, ◌||◌, not, Bool, true, List, []}
use Rattle.std.specs.Prelude.{◌∷◌}
use Rattle.std.specs.List.{list_any}
use Rattle.conn_messages.specs.declared.channel.Channel.{Channel}
use Rattle.conn_messages.specs.declared.channel.Place.{Place}
use Rattle.conn_messages.specs.declared.message.Message.{Message}
use Rattle.conn_messages.specs.declared.message.Message.TheVariants.{Station}
use Rattle.conn_rules.specs.Connection.{Connection, is_at}
use Rattle.conn_rules.specs.Roles.{channels_in_use}
use Rattle.rsl_codec.specs.declared.rsl.Rsl.TheVariants.{ChannelActivation, DataRequest}
use Rattle.rsl_codec.specs.declared.rsl.Rsl.TheVariants.{EstablishRequest, RfChannelRelease}

-- for each place, whether its channel is in use
abbrev pub Using : Type 0
Using = Place → Bool

abbrev pub same_place : Place → Place → Bool
same_place one other = (one.station == other.station) && (one.number == other.number)

-- exactly the places of these channels are in use
abbrev pub uses_of : List Channel → Using
uses_of channels = λ at. list_any (λ c. is_at at c) channels

-- the places in use, with this place added
abbrev pub with_use : Place → Using → Using
with_use at uses = λ other. same_place other at || uses other

-- the places in use, with this place removed
abbrev pub without_use : Place → Using → Using
without_use at uses = λ other. not (same_place other at) && uses other

-- the places in use after a message: a CHANNEL ACTIVATION adds the place of its channel, an RF
-- CHANNEL RELEASE removes it
abbrev pub used_after : Using → Message → Using
used_after uses (Station station (ChannelActivation a)) =
    with_use (record { station = station; number = a.channel }) uses
used_after uses (Station station (RfChannelRelease channel)) =
    without_use (record { station = station; number = channel }) uses
used_after uses _ = uses

-- if the message is a DATA REQUEST, an ESTABLISH REQUEST or an RF CHANNEL RELEASE, its channel is
-- in use
abbrev pub IsPutOn : Using → Message → Type 0
IsPutOn uses (Station station (DataRequest d)) =
    uses (record { station = station; number = d.channel }) ≡ true
IsPutOn uses (Station station (EstablishRequest l)) =
    uses (record { station = station; number = l.channel }) ≡ true
IsPutOn uses (Station station (RfChannelRelease channel)) =
    uses (record { station = station; number = channel }) ≡ true
IsPutOn uses _ = Unit {0}

-- `IsPutOn` holds of each message, with the places in use after the messages before it
abbrev pub ArePutOn : Using → List Message → Type 0
ArePutOn uses [] = Unit {0}
ArePutOn uses (m ∷ ms) = IsPutOn uses m × ArePutOn (used_after uses m) ms

-- the messages are put for channels in use; before the row, the serving channel and the target of
-- the connection are in use, if it is open
abbrev pub PutsOnOwn : Connection → List Message → Type 0
PutsOnOwn s outs = ArePutOn (uses_of (channels_in_use s)) outs
