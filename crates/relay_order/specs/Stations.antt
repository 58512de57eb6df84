-- SPDX-License-Identifier: MIT OR Apache-2.0
-- The messages that the octets of a station's link hand to mobiles, and the messages that the
-- octets of the switch's link send to mobiles. Both are functions of the octets, so any reader of a
-- capture can compute them.
use Rattle.std.specs.Prelude.{ℕ, ◌+◌, ◌==◌, ◌&&◌, Bool, true, false, if◌then◌else◌}
use Rattle.std.specs.Prelude.{List, [], ◌∷◌, ◌++◌, Option, Some, option_to_list}
use Rattle.std.specs.List.{flat_map}
use Rattle.bssmap_codec.specs.declared.bssap.Bssap.{Bssap}
use Rattle.bssmap_codec.specs.declared.bssap.Bssap.TheVariants.{Transfer}
use Rattle.bssmap_codec.specs.declared.sccp.Sccp.{Sccp}
use Rattle.bssmap_codec.specs.declared.sccp.Sccp.TheVariants.{DataForm1}
use Rattle.conn_rules.specs.Streams.{is_dtap, is_of}
use Rattle.controller_model.specs.Reading.{dlci_sapi}
use Rattle.dtap_codec.specs.declared.sapi.Sapi.{Sapi}
use Rattle.dtap_codec.specs.declared.sapi.Sapi.TheVariants.{Zero, Three}
use Rattle.msc_end.specs.Switch.{message_in}
use Rattle.relay_order.specs.Switch.{sccp_messages}
use Rattle.rsl_codec.specs.declared.rsl.Rsl.{Rsl}
use Rattle.rsl_codec.specs.declared.rsl.Rsl.TheVariants.{ChannelActivation, DataRequest}
use Rattle.station_io.specs.Octets.{frames_in}
use Rattle.world_model.specs.Stations.{rsl_in}

-- ---- to a mobile

-- the RSL messages in these octets: those that are read from the whole frames
abbrev pub rsl_messages : List ℕ → List Rsl
rsl_messages octets = flat_map (λ frame. option_to_list (rsl_in frame)) (frames_in octets)

-- a list of the layer 3 message, if the RSL message is a DATA REQUEST for this channel and SAPI
-- that carries DTAP, else the empty list
abbrev pub handed_by : ℕ → Sapi → Rsl → List (List ℕ)
handed_by channel sapi (DataRequest d) =
    if (d.channel == channel) && (is_of sapi d.link && is_dtap d.l3) then d.l3 ∷ [] else []
handed_by channel sapi _ = []

-- the number of the channel's tenure after a message; a CHANNEL ACTIVATION of the channel begins
-- the next tenure
abbrev pub tenure_after : ℕ → ℕ → Rsl → ℕ
tenure_after channel tenure (ChannelActivation a) =
    if a.channel == channel then tenure + 1 else tenure
tenure_after channel tenure _ = tenure

-- the messages that these RSL messages hand in tenure `tenure` of a channel, if `begun` tenures
-- have begun before them
abbrev pub handed_from : ℕ → ℕ → Sapi → ℕ → List Rsl → List (List ℕ)
handed_from begun channel sapi tenure [] = []
handed_from begun channel sapi tenure (m ∷ ms) =
    (if begun == tenure then handed_by channel sapi m else [])
    ++ handed_from (tenure_after channel begun m) channel sapi tenure ms

-- the messages that these octets hand in a tenure of a channel; the first tenure has number 1
abbrev pub handed_in : List ℕ → ℕ → Sapi → ℕ → List (List ℕ)
handed_in octets channel sapi tenure = handed_from 0 channel sapi tenure (rsl_messages octets)

-- ---- from the switch

abbrev pub is_same : Sapi → Sapi → Bool
is_same Zero Zero = true
is_same Three Three = true
is_same _ _ = false

abbrev pub transferred : Sapi → Option Bssap → List (List ℕ)
transferred sapi (Some (Transfer dlci message)) =
    if is_same (dlci_sapi dlci) sapi && is_dtap message then message ∷ [] else []
transferred sapi _ = []

-- the layer 3 messages of a SAPI in an SCCP message, if it is a DT1 to this reference of the base
-- station controller
abbrev pub sent_by : ℕ → Sapi → Sccp → List (List ℕ)
sent_by reference sapi (DataForm1 destination user) =
    if destination == reference then transferred sapi (message_in user) else []
sent_by reference sapi _ = []

-- the layer 3 messages of a SAPI that the switch's octets send on the connection with this
-- reference
abbrev pub sent_in : List ℕ → ℕ → Sapi → List (List ℕ)
sent_in octets reference sapi = flat_map (sent_by reference sapi) (sccp_messages octets)
