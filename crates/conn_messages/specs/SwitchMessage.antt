-- SPDX-License-Identifier: MIT OR Apache-2.0
-- The messages to the switch (TS 48.006 clause 9.3, TS 48.008 clause 3.2.1).
use Rattle.std.specs.Prelude.{ℕ, nat_le, if◌then◌else◌, List, [], ◌∷◌, Option, Some}
use Rattle.bssmap_codec.specs.declared.bssap.Bssap.TheVariants.{Management, Transfer}
use Rattle.bssmap_codec.specs.declared.bssmap.Bssmap.{Bssmap}
use Rattle.bssmap_codec.specs.declared.bssmap.Bssmap.TheVariants.{AssignmentComplete}
use Rattle.bssmap_codec.specs.declared.bssmap.Bssmap.TheVariants.{AssignmentFailure}
use Rattle.bssmap_codec.specs.declared.bssmap.Bssmap.TheVariants.{HandoverPerformed, ClearComplete}
use Rattle.bssmap_codec.specs.declared.bssmap.Bssmap.TheVariants.{ClearRequest, SapiNReject}
use Rattle.bssmap_codec.specs.declared.bssmap.Bssmap.TheVariants.{CompleteLayer3Information}
use Rattle.bssmap_codec.specs.declared.bssmap.Bssmap.TheVariants.{CipherModeReject}
use Rattle.bssmap_codec.specs.declared.values.Cause.{Cause}
use Rattle.bssmap_codec.specs.declared.values.RrCause.{RrCause}
use Rattle.conn_messages.specs.declared.causes.TheConstants.{BETTER_CELL, BSS_NOT_EQUIPPED}
use Rattle.conn_messages.specs.declared.causes.TheConstants.{CIPHERING_NOT_SUPPORTED}
use Rattle.conn_messages.specs.declared.channel.Change.{Change}
use Rattle.conn_messages.specs.declared.channel.Change.TheVariants.{Assignment, Handover}
use Rattle.conn_messages.specs.declared.channel.Channel.{Channel}
use Rattle.conn_messages.specs.declared.message.Message.{Message}
use Rattle.conn_messages.specs.declared.message.Message.TheVariants.{Request, Data}
use Rattle.conn_messages.specs.declared.message.Message.TheVariants as messages
use Rattle.conn_messages.specs.declared.parameters.TheConstants.{SAPI_0_DLCI, SDCCH_SAPI_3_DLCI}
use Rattle.conn_messages.specs.declared.parameters.TheConstants.{SACCH_SAPI_3_DLCI}
use Rattle.dtap_codec.specs.declared.sapi.Sapi.{Sapi}
use Rattle.dtap_codec.specs.declared.sapi.Sapi.TheVariants.{Zero, Three}
use Rattle.rsl_codec.specs.declared.channel_number.TheConstants.{FIRST_SDCCH}

-- The DLCI of a message that arrived on the channel with this number.
abbrev pub dlci_on : ℕ → Sapi → ℕ
dlci_on number Zero = SAPI_0_DLCI
dlci_on number Three = if nat_le FIRST_SDCCH number then SDCCH_SAPI_3_DLCI else SACCH_SAPI_3_DLCI

-- A cause of one octet.
abbrev pub cause_of : ℕ → Cause
cause_of cause = record { 0 = cause ∷ [] }

-- A BSSMAP message on the connection with this reference of the switch.
abbrev pub management : ℕ → Bssmap → Message
management reference message = Data reference (Management message)

-- DTAP on a connection: relays a layer 3 message that arrived on this channel.
abbrev pub relaying : ℕ → Channel → Sapi → List ℕ → Message
relaying reference c sapi message = Data reference (Transfer (dlci_on c.number sapi) message)

-- The connection request with the mobile's initial message.
abbrev pub complete_layer3 : Channel → List ℕ → Message
complete_layer3 c initial =
    Request (Management (CompleteLayer3Information (record { 0 = c.cell }) initial))

abbrev pub clear_request : ℕ → ℕ → Message
clear_request reference cause = management reference (ClearRequest (cause_of cause))

abbrev pub clear_complete : ℕ → Message
clear_complete reference = management reference ClearComplete

abbrev pub release_complete : ℕ → Message
release_complete destination = messages.ReleaseComplete destination

-- ASSIGNMENT FAILURE, with the mobile's cause if there is one.
abbrev pub assignment_failure : ℕ → ℕ → Option RrCause → Message
assignment_failure reference cause rr_cause =
    management reference (AssignmentFailure (cause_of cause) rr_cause)

-- Reports that the change to `target` is complete. ASSIGNMENT COMPLETE carries the mobile's cause.
-- HANDOVER PERFORMED carries the cause better cell and the target's cell.
abbrev pub change_complete : ℕ → Change → Channel → ℕ → Message
change_complete reference Assignment target cause =
    management reference (AssignmentComplete (Some (record { 0 = cause })))
change_complete reference Handover target cause =
    management reference (HandoverPerformed (cause_of BETTER_CELL) (record { 0 = target.cell }))

-- SAPI N REJECT: SAPI 3 isn't available on this channel.
abbrev pub sapi_3_reject : ℕ → Channel → Message
sapi_3_reject reference c =
    management reference
    (SapiNReject (record { 0 = dlci_on c.number Three }) (cause_of BSS_NOT_EQUIPPED))

abbrev pub cipher_mode_reject : ℕ → Message
cipher_mode_reject reference =
    management reference (CipherModeReject (cause_of CIPHERING_NOT_SUPPORTED))
