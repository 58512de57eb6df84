-- SPDX-License-Identifier: MIT OR Apache-2.0
-- A message in text: its protocol, its N(SD) and its octets.
use Rattle.std.specs.Prelude.{ℕ, ◌%◌, ◌==◌, if◌then◌else◌, List, [], ◌∷◌, ◌++◌, codes, decimal}
use Rattle.std.specs.Prelude.{Option, Some, None}
use Rattle.dtap_codec.specs.declared.message.TheConstants.{CALL_CONTROL, MOBILITY_MANAGEMENT}
use Rattle.dtap_codec.specs.declared.message.TheConstants.{RADIO_RESOURCE, SHORT_MESSAGES}
use Rattle.dtap_codec.specs.declared.message.TheConstants.{SUPPLEMENTARY_SERVICES}
use Rattle.dtap_codec.specs.Number.{number_in}
use Rattle.hex.specs.Hex.{encode_lower}
use Rattle.judge_report.specs.declared.direction.Direction.{Direction}
use Rattle.judge_report.specs.declared.direction.Direction.TheVariants.{Up, Down}

-- The protocol that a discriminator stands for (TS 24.007 clause 11.2.3.1.1).
abbrev pub protocol_named : ℕ → List ℕ
protocol_named discriminator =
    if discriminator == CALL_CONTROL then codes "CC"
    else if discriminator == MOBILITY_MANAGEMENT then codes "MM"
    else if discriminator == RADIO_RESOURCE then codes "RR"
    else if discriminator == SHORT_MESSAGES then codes "SMS"
    else if discriminator == SUPPLEMENTARY_SERVICES then codes "SS" else codes "unknown"

-- The protocol of a message, by bits 4 to 1 of its first octet.
abbrev pub protocol_text : List ℕ → List ℕ
protocol_text [] = codes "unknown"
protocol_text (first ∷ rest) = protocol_named (first % 16)

-- The N(SD), modulo m, of an uplink message. `None` for a downlink message, or a message without
-- N(SD).
abbrev pub number_said : ℕ → Direction → List ℕ → Option ℕ
number_said m Up message = number_in m message
number_said m Down message = None

abbrev pub number_text : Option ℕ → List ℕ
number_text None = []
number_text (Some number) = codes " N(SD) " ++ decimal number

abbrev pub message_text : ℕ → Direction → List ℕ → List ℕ
message_text m direction message =
    protocol_text message ++ number_text (number_said m direction message)
    ++ codes " " ++ encode_lower message
