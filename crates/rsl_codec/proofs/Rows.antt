-- SPDX-License-Identifier: MIT OR Apache-2.0
-- The definitions at literal octets (TS 48.058 clauses 8 and 9).
use Rattle.std.proofs.Common.{◌≡◌, ℕ, Bool, List, [], ◌∷◌, ◌++◌, drop, filter, get_or, length, map, replicate, true, false, Some, None, Ok, Err, refl, ap, inl, inr, arith}
use Rattle.std.specs.List.{range_with_len}
use Rattle.octets.proofs.Hex.{hex}
use Rattle.octets.specs.declared.element.Format.TheVariants.{Tv, Tlv, TlvE}
use Rattle.octets.specs.Element.{format_in}
use Rattle.octets.specs.Walk.{walk}
use Rattle.rsl_codec.specs.declared.fault.RslFault.{RslFault}
use Rattle.rsl_codec.specs.declared.fault.RslFault.TheVariants as faults
use Rattle.rsl_codec.specs.declared.identifiers.TheConstants.{ELEMENTS}
use Rattle.rsl_codec.specs.declared.rsl.Rsl.{Rsl}
use Rattle.rsl_codec.specs.declared.rsl.Rsl.TheVariants as messages
use Rattle.rsl_codec.specs.declared.rsl_type.RslType.{RslType}
use Rattle.rsl_codec.specs.declared.rsl_type.RslType.TheVariants as types
use Rattle.rsl_codec.specs.declared.values.TheConstants.{ASYNCHRONOUS_HANDOVER, IMMEDIATE_ASSIGNMENT, NORMAL_ASSIGNMENT}
use Rattle.rsl_codec.specs.ChannelNumber.{channel_by, is_channel}
use Rattle.rsl_codec.specs.LinkIdentifier.{short_message_link}
use Rattle.rsl_codec.specs.RslFaults.{element_causes, has_l3, needed}
use Rattle.rsl_codec.specs.RslReading.{rsl_reading, message_at, elements_of, breaks_off, channel_only_at, link_at, data_at, error_at, establishment_at, release_at, channel_required_at, assignment_at, activation_at, activation_ack_at, failure_at, detection_at, measurement_result_at}
use Rattle.rsl_codec.specs.RslText.{rsl_text, rsl_element_text, rsl_write_fault}
use Rattle.rsl_codec.specs.RslType.{rsl_discriminator, rsl_octet, rsl_type}
use Rattle.rsl_codec.specs.WrittenOrder.{AreInOrder, IsInOrder}

-- ---- the types: discriminator and octet of each

abbrev all_types : List RslType
all_types = types.DataRequest ∷ types.DataIndication ∷ types.ErrorIndication ∷ types.EstablishRequest ∷ types.EstablishConfirm ∷
    types.EstablishIndication ∷ types.ReleaseRequest ∷ types.ReleaseConfirm ∷ types.ReleaseIndication ∷ types.ChannelRequired ∷
    types.ImmediateAssignCommand ∷ types.ChannelActivation ∷ types.ChannelActivationAck ∷ types.ChannelActivationNack ∷
    types.ConnectionFailure ∷ types.HandoverDetection ∷ types.MeasurementResult ∷ types.RfChannelRelease ∷ types.RfChannelReleaseAck ∷ []

written_pairs : map {B = ℕ × ℕ} (λ kind. (rsl_discriminator kind, rsl_octet kind)) all_types ≡
    (0x03, 0x01) ∷ (0x03, 0x02) ∷ (0x02, 0x03) ∷ (0x02, 0x04) ∷ (0x02, 0x05) ∷ (0x02, 0x06) ∷ (0x02, 0x07) ∷ (0x02, 0x08) ∷ (0x02, 0x09) ∷
    (0x0c, 0x13) ∷ (0x0c, 0x16) ∷ (0x08, 0x21) ∷ (0x08, 0x22) ∷ (0x08, 0x23) ∷ (0x08, 0x24) ∷ (0x08, 0x27) ∷ (0x08, 0x28) ∷
    (0x08, 0x2e) ∷ (0x08, 0x33) ∷ []
written_pairs = refl

read_pairs : map (λ (p : ℕ × ℕ). rsl_type p.0 p.1)
    ((0x03, 0x01) ∷ (0x03, 0x02) ∷ (0x02, 0x03) ∷ (0x02, 0x04) ∷ (0x02, 0x05) ∷ (0x02, 0x06) ∷ (0x02, 0x07) ∷ (0x02, 0x08) ∷ (0x02, 0x09) ∷
    (0x0c, 0x13) ∷ (0x0c, 0x16) ∷ (0x08, 0x21) ∷ (0x08, 0x22) ∷ (0x08, 0x23) ∷ (0x08, 0x24) ∷ (0x08, 0x27) ∷ (0x08, 0x28) ∷ (0x08, 0x2e) ∷
    (0x08, 0x33) ∷ []) ≡
    map (λ kind. Some kind) all_types
unfolding rsl_type
read_pairs = refl

-- bit 1 of the discriminator isn't looked at
read_pairs_of_other_bit_1 : map (λ (p : ℕ × ℕ). rsl_type p.0 p.1)
    ((0x02, 0x01) ∷ (0x02, 0x02) ∷ (0x03, 0x03) ∷ (0x03, 0x04) ∷ (0x03, 0x05) ∷ (0x03, 0x06) ∷ (0x03, 0x07) ∷ (0x03, 0x08) ∷ (0x03, 0x09) ∷
    (0x0d, 0x13) ∷ (0x0d, 0x16) ∷ (0x09, 0x21) ∷ (0x09, 0x22) ∷ (0x09, 0x23) ∷ (0x09, 0x24) ∷ (0x09, 0x27) ∷ (0x09, 0x28) ∷ (0x09, 0x2e) ∷
    (0x09, 0x33) ∷ []) ≡
    map (λ kind. Some kind) all_types
unfolding rsl_type
read_pairs_of_other_bit_1 = refl

unknown_octet : rsl_type 0x0c 0x99 ≡ None
unfolding rsl_type
unknown_octet = refl

octet_of_another_discriminator : rsl_type 0x08 0x04 ≡ None
unfolding rsl_type
octet_of_another_discriminator = refl

-- each other bit of the discriminator is
unknown_discriminators : map (λ discriminator. rsl_type discriminator 0x04) (hex "00 06 0a 12 22 42 82")
    ≡ None ∷ None ∷ None ∷ None ∷ None ∷ None ∷ None ∷ []
unfolding rsl_type
unknown_discriminators = refl

-- ---- the elements

formats : map (λ id. format_in ELEMENTS id) (hex "01 02 03 04 06 08 09 0a 0b 11 13 14 16 19 1a 1b 2b") ≡
    Some (Tv 1) ∷ Some (Tv 1) ∷ Some (Tv 1) ∷ Some (Tv 1) ∷ Some Tlv ∷ Some (Tv 2) ∷ Some (Tv 1) ∷ Some (Tv 2) ∷ Some TlvE ∷ Some (Tv 1) ∷
    Some (Tv 3) ∷ Some (Tv 1) ∷ Some Tlv ∷ Some Tlv ∷ Some Tlv ∷ Some (Tv 1) ∷ Some Tlv ∷ []
formats = refl

unknown_identifiers : map (λ id. format_in ELEMENTS id) (hex "00 05 07 0c 12 1c 2a") ≡ None ∷ None ∷ None ∷ None ∷ None ∷ None ∷ None ∷ []
unknown_identifiers = refl

no_other_element : length ELEMENTS ≡ 17
no_other_element = refl

-- ---- the elements that each message needs, in written order

needed_elements : map needed all_types ≡
    hex "01 02 0b" ∷ hex "01 02 0b" ∷ hex "01 02" ∷ hex "01 02" ∷ hex "01 02" ∷ hex "01 02"
    ∷ hex "01 02 14" ∷ hex "01 02" ∷ hex "01 02" ∷ hex "01 13 11" ∷ hex "01 2b" ∷ hex "01 03 06"
    ∷ hex "01" ∷ hex "01" ∷ hex "01" ∷ hex "01" ∷ hex "01 1b" ∷ hex "01" ∷ hex "01" ∷ []
needed_elements = refl

with_l3 : map has_l3 all_types ≡
    true ∷ true ∷ false ∷ false ∷ false ∷ true ∷ false ∷ false ∷ false ∷ false ∷ false ∷ false ∷ false ∷ false ∷ false ∷ false ∷ true ∷
    false ∷ false ∷ []
with_l3 = refl

-- the faults of elements, in the order in which they are looked for
order_of_faults : map (λ (cause : Bool × RslFault). cause.1) (element_causes types.DataRequest []) ≡
    faults.MissingElement 0x01 ∷ faults.MissingElement 0x02 ∷ faults.MissingElement 0x0b ∷ faults.BadChannel ∷ faults.Short ∷
    faults.TooLong ∷ []
order_of_faults = refl

-- ---- channel numbers: TCH/F, TCH/H, SDCCH/4, SDCCH/8, RACH, PCH and AGCH

channels : map is_channel (hex "08 0f 10 1f 20 3f 40 7f 88 90") ≡ replicate 10 true
channels = refl

no_channels : map is_channel (hex "00 07 80 87 89 8f 91 98 a0 c0 e0 ff") ≡ replicate 12 false
no_channels = refl

-- of all octets: TCH 08 to 1F and SDCCH 20 to 7F, RACH 88, PCH and AGCH 90
all_channels : filter is_channel (range_with_len 0 256) ≡ range_with_len 0x08 24 ++ range_with_len 0x20 96 ++ hex "88 90"
all_channels = refl

channel_read : channel_by 0x0a ≡ Ok 0x0a
channel_read = refl

channel_refused : channel_by 0x80 ≡ Err faults.BadChannel
channel_refused = refl

-- ---- links and activation types

-- SAPI 3 on a TCH/F, the last TCH/H, the first SDCCH/4, an SDCCH/8
short_message_links : map short_message_link (hex "0a 1f 20 41") ≡ hex "43 43 03 03"
short_message_links = refl

-- on each TCH the SACCH, on each SDCCH the main link
all_short_message_links : map short_message_link (range_with_len 0x08 120) ≡ replicate 24 0x43 ++ replicate 96 0x03
all_short_message_links = refl

-- immediate assignment, normal assignment, asynchronous handover
activation_types : map (λ kind. kind.0) (IMMEDIATE_ASSIGNMENT ∷ NORMAL_ASSIGNMENT ∷ ASYNCHRONOUS_HANDOVER ∷ []) ≡ hex "00 01 02"
activation_types = refl

-- ---- each message: what the octets are read as, and what is written of it

abbrev ReadsAndWrites : List ℕ → Rsl → Type 0
ReadsAndWrites octets message = (rsl_reading octets ≡ Ok message) × (rsl_text message ≡ octets)

data_request : ReadsAndWrites (hex "03 01 01 41 02 00 0b 00 06 06 2e 0a 20 14 00")
    (messages.DataRequest (record { channel = 0x41; link = 0x00; l3 = hex "06 2e 0a 20 14 00" }))
unfolding rsl_reading message_at elements_of breaks_off rsl_type walk data_at rsl_element_text
data_request = (refl, refl)

data_indication : ReadsAndWrites (hex "03 02 01 0a 02 43 0b 00 03 06 2c 00")
    (messages.DataIndication (record { channel = 0x0a; link = 0x43; l3 = hex "06 2c 00" }))
unfolding rsl_reading message_at elements_of breaks_off rsl_type walk data_at rsl_element_text
data_indication = (refl, refl)

error_indication : ReadsAndWrites (hex "02 03 01 41 02 03 16 01 01")
    (messages.ErrorIndication (record { channel = 0x41; link = 0x03; cause = Some (record { 0 = hex "01" }) }))
unfolding rsl_reading message_at elements_of breaks_off rsl_type walk error_at rsl_element_text
error_indication = (refl, refl)

error_indication_alone : ReadsAndWrites (hex "02 03 01 41 02 03") (messages.ErrorIndication (record { channel = 0x41; link = 0x03; cause = None }))
unfolding rsl_reading message_at elements_of breaks_off rsl_type walk error_at rsl_element_text
error_indication_alone = (refl, refl)

establish_request : ReadsAndWrites (hex "02 04 01 41 02 03") (messages.EstablishRequest (record { channel = 0x41; link = 0x03 }))
unfolding rsl_reading message_at elements_of breaks_off rsl_type walk link_at rsl_element_text
establish_request = (refl, refl)

establish_confirm : ReadsAndWrites (hex "02 05 01 41 02 03") (messages.EstablishConfirm (record { channel = 0x41; link = 0x03 }))
unfolding rsl_reading message_at elements_of breaks_off rsl_type walk link_at rsl_element_text
establish_confirm = (refl, refl)

establish_indication : ReadsAndWrites (hex "02 06 01 41 02 00 0b 00 03 05 24 71")
    (messages.EstablishIndication (record { channel = 0x41; link = 0x00; l3 = Some (hex "05 24 71") }))
unfolding rsl_reading message_at elements_of breaks_off rsl_type walk establishment_at rsl_element_text
establish_indication = (refl, refl)

establish_indication_alone : ReadsAndWrites (hex "02 06 01 41 02 03")
    (messages.EstablishIndication (record { channel = 0x41; link = 0x03; l3 = None }))
unfolding rsl_reading message_at elements_of breaks_off rsl_type walk establishment_at rsl_element_text
establish_indication_alone = (refl, refl)

release_request : ReadsAndWrites (hex "02 07 01 41 02 03 14 01")
    (messages.ReleaseRequest (record { channel = 0x41; link = 0x03; mode = record { 0 = 0x01 } }))
unfolding rsl_reading message_at elements_of breaks_off rsl_type walk release_at rsl_element_text
release_request = (refl, refl)

release_confirm : ReadsAndWrites (hex "02 08 01 41 02 03") (messages.ReleaseConfirm (record { channel = 0x41; link = 0x03 }))
unfolding rsl_reading message_at elements_of breaks_off rsl_type walk link_at rsl_element_text
release_confirm = (refl, refl)

release_indication : ReadsAndWrites (hex "02 09 01 41 02 03") (messages.ReleaseIndication (record { channel = 0x41; link = 0x03 }))
unfolding rsl_reading message_at elements_of breaks_off rsl_type walk link_at rsl_element_text
release_indication = (refl, refl)

channel_required : ReadsAndWrites (hex "0c 13 01 88 13 7f 01 02 11 05")
    (messages.ChannelRequired
    (record { channel = 0x88; reference = record { access = 0x7f; frame = 0x0102 }; access_delay = record { 0 = 0x05 } }))
unfolding rsl_reading message_at elements_of breaks_off rsl_type walk channel_required_at rsl_element_text
channel_required = (refl, refl)

immediate_assign_command : ReadsAndWrites (hex "0c 16 01 90 2b 04 2d 06 3f 00")
    (messages.ImmediateAssignCommand (record { channel = 0x90; information = hex "2d 06 3f 00" }))
unfolding rsl_reading message_at elements_of breaks_off rsl_type walk assignment_at rsl_element_text
immediate_assign_command = (refl, refl)

channel_activation : ReadsAndWrites (hex "08 21 01 41 03 00 06 04 00 03 01 00")
    (messages.ChannelActivation
    (record { channel = 0x41; activation = record { 0 = 0x00 }; mode = record { 0 = hex "00 03 01 00" }; reference = None }))
unfolding rsl_reading message_at elements_of breaks_off rsl_type walk activation_at rsl_element_text
channel_activation = (refl, refl)

channel_activation_for_handover : ReadsAndWrites (hex "08 21 01 0a 03 02 06 04 00 01 08 01 09 07")
    (messages.ChannelActivation
    (record {
      channel = 0x0a;
      activation = record { 0 = 0x02 };
      mode = record { 0 = hex "00 01 08 01" };
      reference = Some (record { 0 = 0x07 });
    }))
unfolding rsl_reading message_at elements_of breaks_off rsl_type walk activation_at rsl_element_text
channel_activation_for_handover = (refl, refl)

channel_activation_ack : ReadsAndWrites (hex "08 22 01 41 08 01 02")
    (messages.ChannelActivationAck (record { channel = 0x41; frame = Some (record { 0 = 0x0102 }) }))
unfolding rsl_reading message_at elements_of breaks_off rsl_type walk activation_ack_at rsl_element_text
channel_activation_ack = (refl, refl)

channel_activation_ack_alone : ReadsAndWrites (hex "08 22 01 41") (messages.ChannelActivationAck (record { channel = 0x41; frame = None }))
unfolding rsl_reading message_at elements_of breaks_off rsl_type walk activation_ack_at rsl_element_text
channel_activation_ack_alone = (refl, refl)

channel_activation_nack : ReadsAndWrites (hex "08 23 01 41 1a 01 20")
    (messages.ChannelActivationNack (record { channel = 0x41; cause = Some (record { 0 = hex "20" }) }))
unfolding rsl_reading message_at elements_of breaks_off rsl_type walk failure_at rsl_element_text
channel_activation_nack = (refl, refl)

connection_failure : ReadsAndWrites (hex "08 24 01 41 1a 01 01")
    (messages.ConnectionFailure (record { channel = 0x41; cause = Some (record { 0 = hex "01" }) }))
unfolding rsl_reading message_at elements_of breaks_off rsl_type walk failure_at rsl_element_text
connection_failure = (refl, refl)

connection_failure_alone : ReadsAndWrites (hex "08 24 01 41") (messages.ConnectionFailure (record { channel = 0x41; cause = None }))
unfolding rsl_reading message_at elements_of breaks_off rsl_type walk failure_at rsl_element_text
connection_failure_alone = (refl, refl)

handover_detection : ReadsAndWrites (hex "08 27 01 41 11 05")
    (messages.HandoverDetection (record { channel = 0x41; access_delay = Some (record { 0 = 0x05 }) }))
unfolding rsl_reading message_at elements_of breaks_off rsl_type walk detection_at rsl_element_text
handover_detection = (refl, refl)

handover_detection_alone : ReadsAndWrites (hex "08 27 01 41") (messages.HandoverDetection (record { channel = 0x41; access_delay = None }))
unfolding rsl_reading message_at elements_of breaks_off rsl_type walk detection_at rsl_element_text
handover_detection_alone = (refl, refl)

measurement_result : ReadsAndWrites (hex "08 28 01 41 1b 05 19 03 14 15 00 04 06 0a 01 02 0b 00 02 06 15")
    (messages.MeasurementResult
    (record {
      channel = 0x41;
      number = record { 0 = 0x05 };
      uplink = Some (record { 0 = hex "14 15 00" });
      bs_power = Some (record { 0 = 0x06 });
      l1 = Some (record { 0 = 0x0102 });
      l3 = Some (hex "06 15");
    }))
unfolding rsl_reading message_at elements_of breaks_off rsl_type walk measurement_result_at rsl_element_text
measurement_result = (refl, refl)

measurement_result_alone : ReadsAndWrites (hex "08 28 01 41 1b 05")
    (messages.MeasurementResult
    (record { channel = 0x41; number = record { 0 = 0x05 }; uplink = None; bs_power = None; l1 = None; l3 = None }))
unfolding rsl_reading message_at elements_of breaks_off rsl_type walk measurement_result_at rsl_element_text
measurement_result_alone = (refl, refl)

rf_channel_release : ReadsAndWrites (hex "08 2e 01 41") (messages.RfChannelRelease 0x41)
unfolding rsl_reading message_at elements_of breaks_off rsl_type walk channel_only_at rsl_element_text
rf_channel_release = (refl, refl)

rf_channel_release_ack : ReadsAndWrites (hex "08 33 01 41") (messages.RfChannelReleaseAck 0x41)
unfolding rsl_reading message_at elements_of breaks_off rsl_type walk channel_only_at rsl_element_text
rf_channel_release_ack = (refl, refl)

-- ---- the messages of an access, a handover and a report

access_acknowledged : ReadsAndWrites (hex "08 22 01 41 08 00 00")
    (messages.ChannelActivationAck (record { channel = 0x41; frame = Some (record { 0 = 0 }) }))
unfolding rsl_reading message_at elements_of breaks_off rsl_type walk activation_ack_at rsl_element_text
access_acknowledged = (refl, refl)

-- with the whole IMMEDIATE ASSIGNMENT
access_granted : ReadsAndWrites
    (hex "0c 16 01 90 2b 17 2d 06 3f 00 41 20 14 7f 01 02 05 00 2b 2b 2b 2b 2b 2b 2b 2b 2b 2b 2b")
    (messages.ImmediateAssignCommand
    (record { channel = 0x90; information = hex "2d 06 3f 00 41 20 14 7f 01 02 05 00 2b 2b 2b 2b 2b 2b 2b 2b 2b 2b 2b" }))
unfolding rsl_reading message_at elements_of breaks_off rsl_type walk assignment_at rsl_element_text
access_granted = (refl, refl)

target_activated : ReadsAndWrites (hex "08 21 01 41 03 02 06 04 00 03 01 00 09 00")
    (messages.ChannelActivation
    (record {
      channel = 0x41;
      activation = record { 0 = 0x02 };
      mode = record { 0 = hex "00 03 01 00" };
      reference = Some (record { 0 = 0x00 });
    }))
unfolding rsl_reading message_at elements_of breaks_off rsl_type walk activation_at rsl_element_text
target_activated = (refl, refl)

-- with the whole HANDOVER COMMAND
handover_commanded : ReadsAndWrites (hex "03 01 01 41 02 00 0b 00 09 06 2b 12 1e 41 40 1e 00 00")
    (messages.DataRequest (record { channel = 0x41; link = 0x00; l3 = hex "06 2b 12 1e 41 40 1e 00 00" }))
unfolding rsl_reading message_at elements_of breaks_off rsl_type walk data_at rsl_element_text
handover_commanded = (refl, refl)

-- with the whole MEASUREMENT REPORT
report_measured : ReadsAndWrites
    (hex "08 28 01 41 1b 05 19 03 14 14 00 04 00 0b 00 12 06 15 14 14 00 57 02 40 00 00 00 00 00 00 00 00 00 00")
    (messages.MeasurementResult
    (record {
      channel = 0x41;
      number = record { 0 = 5 };
      uplink = Some (record { 0 = hex "14 14 00" });
      bs_power = Some (record { 0 = 0 });
      l1 = None;
      l3 = Some (hex "06 15 14 14 00 57 02 40 00 00 00 00 00 00 00 00 00 00");
    }))
unfolding rsl_reading message_at elements_of breaks_off rsl_type walk measurement_result_at rsl_element_text
report_measured = (refl, refl)

-- ---- what else is read

-- elements in another order, of a repeated one the first, and nothing from the first identifier
-- outside the table on
any_order : rsl_reading (hex "02 04 02 03 01 41 01 42 0c 01") ≡ Ok (messages.EstablishRequest (record { channel = 0x41; link = 0x03 }))
unfolding rsl_reading message_at elements_of breaks_off rsl_type walk link_at
any_order = refl

other_bit_1 : rsl_reading (hex "02 02 01 41 02 00 0b 00 01 06")
    ≡ Ok (messages.DataIndication (record { channel = 0x41; link = 0x00; l3 = hex "06" }))
unfolding rsl_reading message_at elements_of breaks_off rsl_type walk data_at
other_bit_1 = refl

-- an L3 information that the message does not have is walked over
l3_of_no_line : rsl_reading (hex "02 04 01 41 0b 00 00 02 03") ≡ Ok (messages.EstablishRequest (record { channel = 0x41; link = 0x03 }))
unfolding rsl_reading message_at elements_of breaks_off rsl_type walk link_at
l3_of_no_line = refl

-- a value of no octets is one
empty_cause : rsl_reading (hex "08 24 01 41 1a 00")
    ≡ Ok (messages.ConnectionFailure (record { channel = 0x41; cause = Some (record { 0 = [] }) }))
unfolding rsl_reading message_at elements_of breaks_off rsl_type walk failure_at
empty_cause = refl

-- ---- faults, each before those below it

no_octet : rsl_reading [] ≡ Err faults.Short
unfolding rsl_reading message_at elements_of breaks_off rsl_type walk
no_octet = refl

discriminator_alone : rsl_reading (hex "02") ≡ Err faults.Short
unfolding rsl_reading message_at elements_of breaks_off rsl_type walk
discriminator_alone = refl

unknown_type : rsl_reading (hex "0c 99") ≡ Err faults.UnknownType
unfolding rsl_reading message_at elements_of breaks_off rsl_type walk
unknown_type = refl

unknown_type_and_cut : rsl_reading (hex "0c 99 01") ≡ Err faults.UnknownType
unfolding rsl_reading message_at elements_of breaks_off rsl_type walk
unknown_type_and_cut = refl

identifier_cut : rsl_reading (hex "02 04 01 41 02") ≡ Err faults.Short
unfolding rsl_reading message_at elements_of breaks_off rsl_type walk
identifier_cut = refl

cut_and_missing : rsl_reading (hex "02 04 02") ≡ Err faults.Short
unfolding rsl_reading message_at elements_of breaks_off rsl_type walk
cut_and_missing = refl

cut_behind_all : rsl_reading (hex "02 04 01 41 02 03 1a 02 01") ≡ Err faults.Short
unfolding rsl_reading message_at elements_of breaks_off rsl_type walk
cut_behind_all = refl

l3_cut : rsl_reading (hex "03 02 01 41 02 00 0b 00 02 03") ≡ Err faults.Short
unfolding rsl_reading message_at elements_of breaks_off rsl_type walk
l3_cut = refl

both_missing : rsl_reading (hex "02 04") ≡ Err (faults.MissingElement 0x01)
unfolding rsl_reading message_at elements_of breaks_off rsl_type walk link_at
both_missing = refl

channel_missing : rsl_reading (hex "02 04 02 00") ≡ Err (faults.MissingElement 0x01)
unfolding rsl_reading message_at elements_of breaks_off rsl_type walk link_at
channel_missing = refl

link_missing : rsl_reading (hex "02 04 01 41") ≡ Err (faults.MissingElement 0x02)
unfolding rsl_reading message_at elements_of breaks_off rsl_type walk link_at
link_missing = refl

link_missing_and_bad_channel : rsl_reading (hex "02 04 01 ff") ≡ Err (faults.MissingElement 0x02)
unfolding rsl_reading message_at elements_of breaks_off rsl_type walk link_at
link_missing_and_bad_channel = refl

data_l3_missing : rsl_reading (hex "03 01 01 41 02 00") ≡ Err (faults.MissingElement 0x0b)
unfolding rsl_reading message_at elements_of breaks_off rsl_type walk data_at
data_l3_missing = refl

release_link_missing : rsl_reading (hex "02 07 01 41") ≡ Err (faults.MissingElement 0x02)
unfolding rsl_reading message_at elements_of breaks_off rsl_type walk release_at
release_link_missing = refl

release_mode_missing : rsl_reading (hex "02 07 01 ff 02 00") ≡ Err (faults.MissingElement 0x14)
unfolding rsl_reading message_at elements_of breaks_off rsl_type walk release_at
release_mode_missing = refl

error_link_missing : rsl_reading (hex "02 03 01 41") ≡ Err (faults.MissingElement 0x02)
unfolding rsl_reading message_at elements_of breaks_off rsl_type walk error_at
error_link_missing = refl

establish_link_missing : rsl_reading (hex "02 06 01 41") ≡ Err (faults.MissingElement 0x02)
unfolding rsl_reading message_at elements_of breaks_off rsl_type walk establishment_at
establish_link_missing = refl

-- of two that are missing the first in written order
request_reference_and_access_delay_missing : rsl_reading (hex "0c 13 01 80") ≡ Err (faults.MissingElement 0x13)
unfolding rsl_reading message_at elements_of breaks_off rsl_type walk channel_required_at
request_reference_and_access_delay_missing = refl

request_reference_missing : rsl_reading (hex "0c 13 01 88 11 05") ≡ Err (faults.MissingElement 0x13)
unfolding rsl_reading message_at elements_of breaks_off rsl_type walk channel_required_at
request_reference_missing = refl

access_delay_missing : rsl_reading (hex "0c 13 01 80 13 7f 01 02") ≡ Err (faults.MissingElement 0x11)
unfolding rsl_reading message_at elements_of breaks_off rsl_type walk channel_required_at
access_delay_missing = refl

assignment_missing : rsl_reading (hex "0c 16 01 80") ≡ Err (faults.MissingElement 0x2b)
unfolding rsl_reading message_at elements_of breaks_off rsl_type walk assignment_at
assignment_missing = refl

activation_type_missing : rsl_reading (hex "08 21 01 41") ≡ Err (faults.MissingElement 0x03)
unfolding rsl_reading message_at elements_of breaks_off rsl_type walk activation_at
activation_type_missing = refl

channel_mode_missing : rsl_reading (hex "08 21 01 80 03 00") ≡ Err (faults.MissingElement 0x06)
unfolding rsl_reading message_at elements_of breaks_off rsl_type walk activation_at
channel_mode_missing = refl

measurement_number_missing : rsl_reading (hex "08 28 01 80") ≡ Err (faults.MissingElement 0x1b)
unfolding rsl_reading message_at elements_of breaks_off rsl_type walk measurement_result_at
measurement_number_missing = refl

ack_channel_missing : rsl_reading (hex "08 22") ≡ Err (faults.MissingElement 0x01)
unfolding rsl_reading message_at elements_of breaks_off rsl_type walk activation_ack_at
ack_channel_missing = refl

nack_channel_missing : rsl_reading (hex "08 23") ≡ Err (faults.MissingElement 0x01)
unfolding rsl_reading message_at elements_of breaks_off rsl_type walk failure_at
nack_channel_missing = refl

detection_channel_missing : rsl_reading (hex "08 27") ≡ Err (faults.MissingElement 0x01)
unfolding rsl_reading message_at elements_of breaks_off rsl_type walk detection_at
detection_channel_missing = refl

release_channel_missing : rsl_reading (hex "08 2e") ≡ Err (faults.MissingElement 0x01)
unfolding rsl_reading message_at elements_of breaks_off rsl_type walk channel_only_at
release_channel_missing = refl

bad_channel : rsl_reading (hex "02 04 01 ff 02 00") ≡ Err faults.BadChannel
unfolding rsl_reading message_at elements_of breaks_off rsl_type walk link_at
bad_channel = refl

-- of a repeated channel number the first is the one that is looked at
bad_channel_before_another : rsl_reading (hex "02 04 01 98 02 00 01 41") ≡ Err faults.BadChannel
unfolding rsl_reading message_at elements_of breaks_off rsl_type walk link_at
bad_channel_before_another = refl

bad_channel_behind_another : rsl_reading (hex "02 04 01 41 02 00 01 98")
    ≡ Ok (messages.EstablishRequest (record { channel = 0x41; link = 0x00 }))
unfolding rsl_reading message_at elements_of breaks_off rsl_type walk link_at
bad_channel_behind_another = refl

bad_channel_and_empty_l3 : rsl_reading (hex "03 02 01 ff 02 00 0b 00 00") ≡ Err faults.BadChannel
unfolding rsl_reading message_at elements_of breaks_off rsl_type walk data_at
bad_channel_and_empty_l3 = refl

empty_l3 : rsl_reading (hex "03 02 01 41 02 00 0b 00 00") ≡ Err faults.Short
unfolding rsl_reading message_at elements_of breaks_off rsl_type walk data_at
empty_l3 = refl

empty_l3_of_establish : rsl_reading (hex "02 06 01 41 02 00 0b 00 00") ≡ Err faults.Short
unfolding rsl_reading message_at elements_of breaks_off rsl_type walk establishment_at
empty_l3_of_establish = refl

l3_of_251 : rsl_reading (hex "03 02 01 41 02 00 0b 00 fb" ++ replicate 251 0x33) ≡
    Ok (messages.DataIndication (record { channel = 0x41; link = 0x00; l3 = replicate 251 0x33 }))
unfolding rsl_reading message_at elements_of breaks_off rsl_type walk data_at
l3_of_251 = refl

l3_of_252 : rsl_reading (hex "03 02 01 41 02 00 0b 00 fc" ++ replicate 252 0x33) ≡ Err faults.TooLong
unfolding rsl_reading message_at elements_of breaks_off rsl_type walk data_at
l3_of_252 = refl

-- ---- faults of writing

abbrev data_of : ℕ → Rsl
data_of size = messages.DataRequest (record { channel = 0x41; link = 0x00; l3 = replicate size 0x33 })

abbrev failure_of : ℕ → Rsl
failure_of size = messages.ConnectionFailure (record { channel = 0x41; cause = Some (record { 0 = replicate size 0x33 }) })

abbrev measurement_of : ℕ → ℕ → Rsl
measurement_of uplink l3 =
    messages.MeasurementResult
    (record {
      channel = 0x41;
      number = record { 0 = 0 };
      uplink = Some (record { 0 = replicate uplink 0x33 });
      bs_power = None;
      l1 = None;
      l3 = Some (replicate l3 0x33);
    })

-- L3 information of no octet, one, 251 and 252
l3_faults : map (λ size. rsl_write_fault (data_of size)) (0 ∷ 1 ∷ 251 ∷ 252 ∷ []) ≡
    Some faults.Short ∷ None ∷ None ∷ Some faults.TooLong ∷ []
unfolding rsl_write_fault
l3_faults = refl

-- a value of none, 255 and 256
value_faults : map (λ size. rsl_write_fault (failure_of size)) (0 ∷ 255 ∷ 256 ∷ []) ≡ None ∷ None ∷ Some faults.TooLong ∷ []
unfolding rsl_write_fault
value_faults = refl

-- the fault of an empty L3 information is first
write_faults_of_both : map (λ (sizes : ℕ × ℕ). rsl_write_fault (measurement_of sizes.0 sizes.1))
    ((256, 0) ∷ (256, 252) ∷ (255, 252) ∷ (256, 1) ∷ (255, 251) ∷ []) ≡
    Some faults.Short ∷ Some faults.TooLong ∷ Some faults.TooLong ∷ Some faults.TooLong ∷ None ∷ []
unfolding rsl_write_fault
write_faults_of_both = refl

-- ---- elements of a MEASUREMENT RESULT in written order

abbrev ReadsInOrder : List ℕ → Type 0
ReadsInOrder octets = IsInOrder (rsl_reading octets) (drop 2 octets)

-- with L3 information
order_with_l3 : ReadsInOrder (hex "08 28 01 41 1b 05 19 03 14 15 16 04 02 0a 01 03 0b 00 02 06 15")
unfolding rsl_reading message_at elements_of breaks_off rsl_type walk measurement_result_at
order_with_l3 = record {
  message = record {
    channel = 0x41;
    number = record { 0 = 5 };
    uplink = Some (record { 0 = hex "14 15 16" });
    bs_power = Some (record { 0 = 2 });
    l1 = Some (record { 0 = 0x0103 });
    l3 = Some (hex "06 15");
  };
  reads = refl;
  order = inr refl;
}

-- without it, and with what begins with no identifier of the table behind them
order_without_l3 : ReadsInOrder (hex "09 28 01 41 1b 05 19 00 04 02 0a 01 03 0c 01")
unfolding rsl_reading message_at elements_of breaks_off rsl_type walk measurement_result_at
order_without_l3 = record {
  message = record {
    channel = 0x41;
    number = record { 0 = 5 };
    uplink = Some (record { 0 = [] });
    bs_power = Some (record { 0 = 2 });
    l1 = Some (record { 0 = 0x0103 });
    l3 = None;
  };
  reads = refl;
  order = inl refl;
}

-- with the longest L3 information, and with one that is longer
order_with_251 : ReadsInOrder (hex "08 28 01 41 1b 05 19 00 04 02 0a 01 03 0b 00 fb" ++ replicate 251 0x33)
unfolding rsl_reading message_at elements_of breaks_off rsl_type walk measurement_result_at
order_with_251 = record {
  message = record {
    channel = 0x41;
    number = record { 0 = 5 };
    uplink = Some (record { 0 = [] });
    bs_power = Some (record { 0 = 2 });
    l1 = Some (record { 0 = 0x0103 });
    l3 = Some (replicate 251 0x33);
  };
  reads = refl;
  order = inr refl;
}

no_order_with_252 : ReadsInOrder (hex "08 28 01 41 1b 05 19 00 04 02 0a 01 03 0b 00 fc" ++ replicate 252 0x33) → ⊥
unfolding rsl_reading message_at elements_of breaks_off rsl_type walk measurement_result_at
no_order_with_252 is = let no = is.reads in absurd cc

abbrev third_of : List ℕ → ℕ
third_of ids = get_or ids 2 0

abbrev fifth_of : List ℕ → ℕ
fifth_of ids = get_or ids 4 0

-- the power before the uplink
not_ids_of_another : AreInOrder (0x01 ∷ 0x1b ∷ 0x04 ∷ 0x19 ∷ 0x0a ∷ 0x0b ∷ []) → ⊥
not_ids_of_another (inl same) = omega (arith, ap third_of same)
not_ids_of_another (inr same) = omega (arith, ap third_of same)

another_order : ReadsInOrder (hex "08 28 01 41 1b 05 04 02 19 03 14 15 16 0a 01 03 0b 00 02 06 15") → ⊥
unfolding elements_of walk
another_order is = not_ids_of_another is.order

-- no L1 information, as in report_measured, which is read
not_ids_of_missing : AreInOrder (0x01 ∷ 0x1b ∷ 0x19 ∷ 0x04 ∷ 0x0b ∷ []) → ⊥
not_ids_of_missing (inl same) = omega (arith, ap fifth_of same)
not_ids_of_missing (inr same) = omega (arith, ap fifth_of same)

one_is_missing : ReadsInOrder
    (hex "08 28 01 41 1b 05 19 03 14 14 00 04 00 0b 00 12 06 15 14 14 00 57 02 40 00 00 00 00 00 00 00 00 00 00") → ⊥
unfolding elements_of walk
one_is_missing is = not_ids_of_missing is.order

-- the number again behind the L3 information
not_ids_of_repeated : AreInOrder (0x01 ∷ 0x1b ∷ 0x19 ∷ 0x04 ∷ 0x0a ∷ 0x0b ∷ 0x1b ∷ []) → ⊥
not_ids_of_repeated (inl same) = omega (arith, ap length same)
not_ids_of_repeated (inr same) = omega (arith, ap length same)

one_is_repeated : ReadsInOrder (hex "08 28 01 41 1b 05 19 03 14 15 16 04 02 0a 01 03 0b 00 02 06 15 1b 05") → ⊥
unfolding elements_of walk
one_is_repeated is = not_ids_of_repeated is.order

-- an element that is cut, and another message of the same elements
one_is_cut : ReadsInOrder (hex "08 28 01 41 1b 05 19 03 14 15 16 04 02 0a 01 03 0b 00 02 06") → ⊥
unfolding rsl_reading message_at elements_of breaks_off rsl_type walk measurement_result_at
one_is_cut is = let no = is.reads in absurd cc

another_message : ReadsInOrder (hex "08 22 01 41 1b 05 19 03 14 15 16 04 02 0a 01 03") → ⊥
unfolding rsl_reading message_at elements_of breaks_off rsl_type walk activation_ack_at
another_message is = let no = is.reads in absurd cc
