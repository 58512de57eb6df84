-- SPDX-License-Identifier: MIT OR Apache-2.0
-- The octets that are written for a message of radio resource management (TS 44.018 clause 9.1).
use Rattle.std.specs.Prelude.{ℕ, ◌==◌, if◌then◌else◌, List, [], ◌∷◌, ◌++◌}
use Rattle.dtap_codec.specs.declared.message.TheConstants.{RADIO_RESOURCE}
use Rattle.dtap_codec.specs.declared.rr.RrMessage.{RrMessage}
use Rattle.dtap_codec.specs.declared.rr.RrMessage.TheVariants.{HandoverCommand, AssignmentCommand}
use Rattle.dtap_codec.specs.declared.rr.RrMessage.TheVariants.{HandoverComplete, HandoverFailure}
use Rattle.dtap_codec.specs.declared.rr.RrMessage.TheVariants.{AssignmentComplete}
use Rattle.dtap_codec.specs.declared.rr.RrMessage.TheVariants.{AssignmentFailure, ChannelRelease}
use Rattle.dtap_codec.specs.declared.rr.RrMessage.TheVariants.{ImmediateAssignment}
use Rattle.dtap_codec.specs.declared.rr.RrMessage.TheVariants.{MeasurementReport, PagingResponse}
use Rattle.dtap_codec.specs.declared.rr.TheConstants.{HIGHEST_POWER, NORMAL_PAGING, IMMEDIATE_END}
use Rattle.dtap_codec.specs.declared.rr_type.TheConstants.{PSEUDO_LENGTH, IMMEDIATE_ASSIGNMENT}
use Rattle.dtap_codec.specs.Rr.{cell_text, channel_text}
use Rattle.dtap_codec.specs.RrType.{rr_octet, type_of}

-- The octets up to and with the type octet `kind`. Only an IMMEDIATE ASSIGNMENT has a pseudo
-- length.
abbrev pub front_text : ℕ → List ℕ
front_text kind =
    if kind == IMMEDIATE_ASSIGNMENT then PSEUDO_LENGTH ∷ RADIO_RESOURCE ∷ kind ∷ []
    else RADIO_RESOURCE ∷ kind ∷ []

-- The octets after the type.
abbrev pub content_text : RrMessage → List ℕ
content_text (HandoverCommand cell channel reference) =
    cell_text cell ++ (channel_text 0 channel ++ reference ∷ HIGHEST_POWER ∷ [])
content_text (AssignmentCommand channel) = channel_text 0 channel ++ HIGHEST_POWER ∷ []
content_text (HandoverComplete cause) = cause.0 ∷ []
content_text (HandoverFailure cause) = cause.0 ∷ []
content_text (AssignmentComplete cause) = cause.0 ∷ []
content_text (AssignmentFailure cause) = cause.0 ∷ []
content_text (ChannelRelease cause) = cause.0 ∷ []
content_text (ImmediateAssignment channel request advance) =
    NORMAL_PAGING ∷ (channel_text 0 channel ++ (request ++ advance ∷ IMMEDIATE_END))
content_text (MeasurementReport value) = value
content_text (PagingResponse rest) = rest

abbrev pub rr_text : RrMessage → List ℕ
rr_text message = front_text (rr_octet (type_of message)) ++ content_text message
