-- SPDX-License-Identifier: MIT OR Apache-2.0
-- All names of messages by the octets of their types, and the fields of each message: TS 48.008
-- clause 3.2.2.1, TS 44.018 clause 10.4, TS 48.058 clause 8 and Q.713 clause 4.
use Rattle.std.proofs.Common.{◌≡◌, ℕ, List, [], ◌∷◌, map, replicate, Option, Some, None, option_map, refl}
use Rattle.std.specs.Prelude.{codes}
use Rattle.octets.proofs.Hex.{hex}
use Rattle.hex.proofs.OnLiterals.{hex_on_literals}
use Rattle.bssmap_codec.specs.BssmapType.{bssmap_type}
use Rattle.bssmap_codec.specs.declared.sccp.Sccp.TheVariants as connection
use Rattle.dtap_codec.specs.RrType.{rr_type}
use Rattle.rsl_codec.specs.declared.radio_link.Data.{Data}
use Rattle.rsl_codec.specs.declared.radio_link.Link.{Link}
use Rattle.rsl_codec.specs.declared.rsl.Rsl.TheVariants as messages
use Rattle.frame_words.specs.CarriedNames.{bssmap_name, rr_name}
use Rattle.frame_words.specs.Fields.{channel_of, references_text}

-- ---- the name by the octet of the type; an octet of no type that is known has none

abbrev bssmap_named : ℕ → Option (List ℕ)
bssmap_named octet = option_map bssmap_name (bssmap_type octet)

abbrev rr_named : ℕ → Option (List ℕ)
rr_named octet = option_map rr_name (rr_type octet)

bssmap_names : map bssmap_named (0x01 ∷ 0x02 ∷ 0x03 ∷ 0x17 ∷ 0x20 ∷ 0x21 ∷ 0x22 ∷ 0x25 ∷ 0x53 ∷ 0x57 ∷ 0x59 ∷ 0x00 ∷ []) ≡
    Some (codes "ASSIGNMENT REQUEST") ∷ Some (codes "ASSIGNMENT COMPLETE") ∷ Some (codes "ASSIGNMENT FAILURE")
    ∷ Some (codes "HANDOVER PERFORMED") ∷ Some (codes "CLEAR COMMAND") ∷ Some (codes "CLEAR COMPLETE")
    ∷ Some (codes "CLEAR REQUEST") ∷ Some (codes "SAPI N REJECT") ∷ Some (codes "CIPHER MODE COMMAND")
    ∷ Some (codes "COMPLETE LAYER 3 INFORMATION") ∷ Some (codes "CIPHER MODE REJECT") ∷ None ∷ []
unfolding bssmap_type
bssmap_names = refl

rr_names : map rr_named (0x0d ∷ 0x15 ∷ 0x27 ∷ 0x28 ∷ 0x29 ∷ 0x2b ∷ 0x2c ∷ 0x2e ∷ 0x2f ∷ 0x3f ∷ 0x00 ∷ []) ≡
    Some (codes "RR CHANNEL RELEASE") ∷ Some (codes "RR MEASUREMENT REPORT") ∷ Some (codes "RR PAGING RESPONSE")
    ∷ Some (codes "RR HANDOVER FAILURE") ∷ Some (codes "RR ASSIGNMENT COMPLETE") ∷ Some (codes "RR HANDOVER COMMAND")
    ∷ Some (codes "RR HANDOVER COMPLETE") ∷ Some (codes "RR ASSIGNMENT COMMAND") ∷ Some (codes "RR ASSIGNMENT FAILURE")
    ∷ Some (codes "RR IMMEDIATE ASSIGNMENT") ∷ None ∷ []
unfolding rr_type
rr_names = refl

-- ---- the channel number of each message of a station's link

abbrev on_link : Link
on_link = record { channel = 0x41; link = 0x03 }

abbrev with_l3 : Data
with_l3 = record { channel = 0x41; link = 0x03; l3 = hex "03 45" }

channels : map channel_of
    (messages.DataRequest with_l3 ∷ messages.DataIndication with_l3
    ∷ messages.ErrorIndication (record { channel = 0x41; link = 0x03; cause = None })
    ∷ messages.EstablishRequest on_link ∷ messages.EstablishConfirm on_link
    ∷ messages.EstablishIndication (record { channel = 0x41; link = 0x03; l3 = None })
    ∷ messages.ReleaseRequest (record { channel = 0x41; link = 0x03; mode = record { 0 = 0x01 } })
    ∷ messages.ReleaseConfirm on_link ∷ messages.ReleaseIndication on_link
    ∷ messages.ChannelRequired
    (record { channel = 0x41; reference = record { access = 0x7f; frame = 0x0102 }; access_delay = record { 0 = 0x05 } })
    ∷ messages.ImmediateAssignCommand (record { channel = 0x41; information = [] })
    ∷ messages.ChannelActivation (record { channel = 0x41; activation = record { 0 = 0x00 }; mode = record { 0 = [] }; reference = None })
    ∷ messages.ChannelActivationAck (record { channel = 0x41; frame = None })
    ∷ messages.ChannelActivationNack (record { channel = 0x41; cause = None })
    ∷ messages.ConnectionFailure (record { channel = 0x41; cause = None })
    ∷ messages.HandoverDetection (record { channel = 0x41; access_delay = None })
    ∷ messages.MeasurementResult
    (record { channel = 0x41; number = record { 0 = 0x05 }; uplink = None; bs_power = None; l1 = None; l3 = None })
    ∷ messages.RfChannelRelease 0x41 ∷ messages.RfChannelReleaseAck 0x41 ∷ []) ≡ replicate 19 0x41
channels = refl

-- ---- the references of each message of the switch's link

references : map references_text
    (connection.ConnectionRequest 0x000001 None ∷ connection.ConnectionConfirm 0x000002 0x800002 ∷ connection.ConnectionRefused 0x000003
    ∷ connection.Released 0x000004 0x800004 ∷ connection.ReleaseComplete 0x000005 0x800005 ∷ connection.DataForm1 0x000006 [] ∷ []) ≡
    codes " from 000001" ∷ codes " to 000002 from 800002" ∷ codes " to 000003" ∷ codes " to 000004 from 800004"
    ∷ codes " to 000005 from 800005" ∷ codes " to 000006" ∷ []
unfolding hex_on_literals
references = refl
