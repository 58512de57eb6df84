-- SPDX-License-Identifier: MIT OR Apache-2.0
-- What a frame says of connections, their channels and their messages (TS 48.058, TS 48.008, TS
-- 44.018, Q.713).
use Rattle.std.specs.Prelude.{◌≡◌, ℕ, ◌%◌, ◌/◌, ◌==◌, ◌&&◌, ◌||◌, not, Bool, true, false}
use Rattle.std.specs.Prelude.{if◌then◌else◌, List, [], ◌∷◌, Option, Some, None, option_map}
use Rattle.std.specs.Prelude.{Result, Ok, IfErr}
use Rattle.bssmap_codec.specs.declared.bssap.Bssap.{Bssap}
use Rattle.bssmap_codec.specs.declared.bssap.Bssap.TheVariants.{Management, Transfer}
use Rattle.bssmap_codec.specs.declared.bssmap.Bssmap.TheVariants.{ClearComplete, SapiNReject}
use Rattle.bssmap_codec.specs.declared.bssmap.Bssmap.TheVariants.{CompleteLayer3Information}
use Rattle.bssmap_codec.specs.declared.fault.InterfaceFault.{InterfaceFault}
use Rattle.bssmap_codec.specs.declared.fault.InterfaceFault.TheVariants as interface
use Rattle.bssmap_codec.specs.declared.sccp.Sccp.{Sccp}
use Rattle.bssmap_codec.specs.declared.sccp.Sccp.TheVariants as sccp
use Rattle.bssmap_codec.specs.BssapReading.{bssap_reading}
use Rattle.bssmap_codec.specs.SccpReading.{sccp_reading}
use Rattle.conn_messages.specs.declared.channel.Change.TheVariants.{Assignment, Handover}
use Rattle.conn_messages.specs.declared.parameters.TheConstants.{SWITCH_LINK}
use Rattle.dtap_codec.specs.declared.message.TheConstants.{RADIO_RESOURCE}
use Rattle.dtap_codec.specs.declared.rr.RrMessage.{RrMessage}
use Rattle.dtap_codec.specs.declared.rr.RrMessage.TheVariants as rr
use Rattle.dtap_codec.specs.declared.rr_fault.RrFault.{RrFault}
use Rattle.dtap_codec.specs.declared.sapi.Sapi.{Sapi}
use Rattle.dtap_codec.specs.declared.sapi.Sapi.TheVariants.{Zero, Three}
use Rattle.dtap_codec.specs.RrReading.{rr_reading}
use Rattle.octets.specs.Element.{Element}
use Rattle.octets.specs.Walk.{first_of, walk}
use Rattle.rsl_codec.specs.declared.fault.RslFault.{RslFault}
use Rattle.rsl_codec.specs.declared.fault.RslFault.TheVariants as radio
use Rattle.rsl_codec.specs.declared.link_identifier.TheConstants.{MAIN_LINK_SAPI_0}
use Rattle.rsl_codec.specs.declared.rsl.Rsl.{Rsl}
use Rattle.rsl_codec.specs.declared.rsl.Rsl.TheVariants as rsl
use Rattle.rsl_codec.specs.RslReading.{octet_of, rsl_reading}
use Rattle.run_judge.specs.declared.activation.TheConstants.{ACTIVATION_ELEMENTS}
use Rattle.run_judge.specs.declared.activation.TheConstants.{HANDOVER_REFERENCE}
use Rattle.run_judge.specs.declared.said.Said.{Said}
use Rattle.run_judge.specs.declared.said.Said.TheVariants as says
use Rattle.run_judge.specs.declared.said.StationChannel.{StationChannel}
use Rattle.run_judge.specs.declared.said.Way.{Way}
use Rattle.run_judge.specs.declared.said.Way.TheVariants.{ToController, FromController}

abbrev pub channel_at : ℕ → ℕ → StationChannel
channel_at station number = record { station = station; number = number }

-- Whether a layer 3 message isn't a message of radio resource management.
abbrev pub is_dtap : List ℕ → Bool
is_dtap [] = true
is_dtap (first ∷ rest) = not (first % 16 == RADIO_RESOURCE)

-- The SAPI of a link identifier from a station: SAPI 0 only on the main link, SAPI 3 on the main
-- link or the SACCH. `None` for any other link identifier.
abbrev pub sapi_of : ℕ → Option Sapi
sapi_of link =
    if link == MAIN_LINK_SAPI_0 then Some Zero
    else if (link % 8 == 3) && ((link / 64 == 0) || (link / 64 == 1)) then Some Three else None

-- The SAPI of a DLCI, 0 or 3.
abbrev pub dlci_sapi : ℕ → Sapi
dlci_sapi dlci = if dlci % 8 == 0 then Zero else Three

-- ---- a station's

abbrev pub established : StationChannel → Option Sapi → Option (List ℕ) → Said
established at (Some Zero) (Some message) = says.Establishes at message
established at sapi message = says.Nothing

-- The mobile's answer to a COMMAND, which comes on SAPI 0.
abbrev pub answer : StationChannel → Result RrMessage RrFault → Said
answer at (Ok (rr.AssignmentComplete cause)) = says.Completes at Assignment
answer at (Ok (rr.HandoverComplete cause)) = says.Completes at Handover
answer at (Ok (rr.AssignmentFailure cause)) = says.Fails at Assignment
answer at (Ok (rr.HandoverFailure cause)) = says.Fails at Handover
answer at _ = says.Nothing

abbrev pub brought : Bool → StationChannel → Option Sapi → List ℕ → Said
brought true at (Some sapi) l3 = says.Brings at sapi l3
brought false at (Some Zero) l3 = answer at (rr_reading l3)
brought _ at _ l3 = says.Nothing

abbrev pub said_by_station : ℕ → Result Rsl RslFault → Said
said_by_station station (Ok (rsl.EstablishIndication e)) =
    established (channel_at station e.channel) (sapi_of e.link) e.l3
said_by_station station (Ok (rsl.DataIndication d)) =
    brought (is_dtap d.l3) (channel_at station d.channel) (sapi_of d.link) d.l3
said_by_station station (Ok (rsl.RfChannelReleaseAck channel)) =
    says.Released (channel_at station channel)
said_by_station station _ = says.Nothing

-- ---- the controller's, to a station

-- The elements of a CHANNEL ACTIVATION.
unfoldable pub activation_elements : List ℕ → List Element
activation_elements body = (walk ACTIVATION_ELEMENTS body).elements

-- The handover reference in the body of a CHANNEL ACTIVATION, wherever its element stands.
abbrev pub handover_reference : List ℕ → Option ℕ
handover_reference (discriminator ∷ octet ∷ body) =
    option_map octet_of (first_of HANDOVER_REFERENCE (activation_elements body))
handover_reference _ = None

-- The SAPI of a link identifier, its bits 3 to 1, whatever its channel.
abbrev pub link_sapi : ℕ → Option Sapi
link_sapi link = if link % 8 == 0 then Some Zero else if link % 8 == 3 then Some Three else None

abbrev pub command : StationChannel → Result RrMessage RrFault → Said
command at (Ok (rr.AssignmentCommand channel)) = says.Assigns at channel.channel.0
command at (Ok (rr.HandoverCommand cell channel reference)) =
    says.HandsOver at cell channel.channel.0 reference
command at _ = says.Nothing

abbrev pub handed : Bool → StationChannel → Option Sapi → List ℕ → Said
handed true at (Some sapi) l3 = says.Hands at sapi l3
handed false at (Some Zero) l3 = command at (rr_reading l3)
handed _ at _ l3 = says.Nothing

abbrev pub said_to_station : ℕ → List ℕ → Result Rsl RslFault → Said
said_to_station station body (Ok (rsl.ChannelActivation a)) =
    says.Activates (channel_at station a.channel) (handover_reference body)
said_to_station station body (Ok (rsl.RfChannelRelease channel)) =
    says.Releases (channel_at station channel)
said_to_station station body (Ok (rsl.DataRequest d)) =
    handed (is_dtap d.l3) (channel_at station d.channel) (link_sapi d.link) d.l3
said_to_station station body _ = says.Nothing

-- ---- the controller's, to the switch

abbrev pub requested : ℕ → Result Bssap InterfaceFault → Said
requested source (Ok (Management (CompleteLayer3Information cell initial))) =
    says.Requests source initial
requested source _ = says.Nothing

abbrev pub passed : ℕ → Result Bssap InterfaceFault → Said
passed destination (Ok (Transfer dlci message)) =
    says.Passes destination (dlci_sapi dlci) message
passed destination (Ok (Management ClearComplete)) = says.Clears destination
passed destination (Ok (Management (SapiNReject dlci cause))) = says.Rejects destination
passed destination _ = says.Manages destination

abbrev pub said_to_switch : Result Sccp InterfaceFault → Said
said_to_switch (Ok (sccp.ConnectionRequest source (Some user))) =
    requested source (bssap_reading user)
said_to_switch (Ok (sccp.DataForm1 destination user)) = passed destination (bssap_reading user)
said_to_switch (Ok (sccp.ReleaseComplete destination source)) = says.Ends source
said_to_switch _ = says.Nothing

-- ---- the switch's

abbrev pub transferred : ℕ → Result Bssap InterfaceFault → Said
transferred destination (Ok (Transfer dlci message)) =
    says.Transfers destination (dlci_sapi dlci) message
transferred destination _ = says.Nothing

abbrev pub said_by_switch : Result Sccp InterfaceFault → Said
said_by_switch (Ok (sccp.ConnectionConfirm destination source)) = says.Confirms destination source
said_by_switch (Ok (sccp.ConnectionRefused destination)) = says.Refuses destination
said_by_switch (Ok (sccp.DataForm1 destination user)) =
    transferred destination (bssap_reading user)
said_by_switch _ = says.Nothing

-- ---- a frame's; link 0 is the switch's, link N that of station N

abbrev pub said_on_switch_link : Way → List ℕ → Said
said_on_switch_link ToController body = said_by_switch (sccp_reading body)
said_on_switch_link FromController body = said_to_switch (sccp_reading body)

abbrev pub said_on_station_link : ℕ → Way → List ℕ → Said
said_on_station_link station ToController body = said_by_station station (rsl_reading body)
said_on_station_link station FromController body =
    said_to_station station body (rsl_reading body)

abbrev pub said_by : ℕ → Way → List ℕ → Said
said_by link way body =
    if link == SWITCH_LINK then said_on_switch_link way body
    else said_on_station_link link way body

-- ---- allocation failure, the last fault of a codec

-- The codec reads the octets, or refuses them only because an allocation fails.
abbrev pub IsReadable : {X F : Type 0} → F → Result X F → Type 0
IsReadable memory read = IfErr read (λ fault. fault ≡ memory)

abbrev pub IsReadableOn : Bool → List ℕ → Type 0
IsReadableOn true body = IsReadable interface.Memory (sccp_reading body)
IsReadableOn false body = IsReadable radio.Memory (rsl_reading body)

-- The codec of the link refuses the body only if an allocation fails.
abbrev pub IsReadableBody : ℕ → List ℕ → Type 0
IsReadableBody link body = IsReadableOn (link == SWITCH_LINK) body
