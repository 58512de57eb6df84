-- SPDX-License-Identifier: MIT OR Apache-2.0
-- What is on its way up from a channel: in the messages that its station made, and in the inbox.
use Rattle.std.specs.Prelude.{ℕ, ◌==◌, if◌then◌else◌, List, [], ◌∷◌, ◌++◌}
use Rattle.std.specs.Prelude.{Option, Some, None}
use Rattle.std.specs.List.{flat_map}
use Rattle.world_laws.specs.Prelude.{Place, sapi_of, Zero, Item, Rsl, rsl_in, Actors, base_of}
use Rattle.dtap_codec.specs.declared.sapi.Sapi.{Sapi}
use Rattle.world_laws.specs.LineUp.Places.{Item as Brought}
use Rattle.world_laws.specs.LineUp.Places.Item.{brought, released}
use Rattle.ruled_relay.specs.declared.item.What.{What}
use Rattle.ruled_relay.specs.declared.item.What.TheVariants as whats
use Rattle.rsl_codec.specs.declared.rsl.Rsl.TheVariants.{EstablishIndication, DataIndication}
use Rattle.rsl_codec.specs.declared.rsl.Rsl.TheVariants.{RfChannelReleaseAck}

-- The message if it is of SAPI 0; otherwise the empty list.
abbrev pub of_main : Option Sapi → List ℕ → List Brought
of_main (Some Zero) message = brought message ∷ []
of_main _ message = []

abbrev pub of_establishment : Option Sapi → Option (List ℕ) → List Brought
of_establishment sapi None = []
of_establishment sapi (Some message) = of_main sapi message

-- What a station's message brings from a channel: a layer 3 message of SAPI 0, the end of the
-- channel's tenure, or nothing.
abbrev pub brings : ℕ → Rsl → List Brought
brings channel (EstablishIndication e) =
    if e.channel == channel then of_establishment (sapi_of e.link) e.l3 else []
brings channel (DataIndication d) =
    if d.channel == channel then of_main (sapi_of d.link) d.l3 else []
brings channel (RfChannelReleaseAck number) = if number == channel then released ∷ [] else []
brings channel _ = []

abbrev pub brings_if : ℕ → Option Rsl → List Brought
brings_if channel None = []
brings_if channel (Some message) = brings channel message

-- What an item of the inbox brings from a channel.
abbrev pub brings_by : Place → ℕ → What → List Brought
brings_by at source (whats.Frame frame) =
    if source == at.station then brings_if at.number (rsl_in frame) else []
brings_by at source whats.Down = []

abbrev pub brings_in : Place → Item → List Brought
brings_in at item = brings_by at item.source item.what

-- What these messages of a station bring from a channel.
abbrev pub made_of : ℕ → List Rsl → List Brought
made_of channel messages = flat_map (brings channel) messages

-- What is on its way up from a channel: first in the items of the inbox, then in the messages that
-- the station made.
abbrev pub coming_up : Actors → Place → List Brought
coming_up w at =
    flat_map (brings_in at) w.inbox ++ made_of at.number (base_of w at.station).messages
