-- SPDX-License-Identifier: MIT OR Apache-2.0
-- The messages that a base station end makes (TS 48.058).
use Rattle.std.specs.Prelude.{ℕ, Option, Some, List}
use Rattle.dtap_codec.specs.declared.sapi.Sapi.{Sapi}
use Rattle.dtap_codec.specs.declared.sapi.Sapi.TheVariants.{Zero, Three}
use Rattle.rsl_codec.specs.declared.link_identifier.TheConstants.{MAIN_LINK_SAPI_0}
use Rattle.rsl_codec.specs.declared.rsl.Rsl.{Rsl}
use Rattle.rsl_codec.specs.declared.rsl.Rsl.TheVariants.{DataIndication, EstablishIndication}
use Rattle.rsl_codec.specs.declared.rsl.Rsl.TheVariants.{ChannelActivationAck}
use Rattle.rsl_codec.specs.LinkIdentifier.{short_message_link}

-- the link identifier of a SAPI on a channel: the SACCH for SAPI 3 on a TCH, else the main
-- signalling channel
abbrev pub link_on : ℕ → Sapi → ℕ
link_on channel Zero = MAIN_LINK_SAPI_0
link_on channel Three = short_message_link channel

abbrev pub activation_ack : ℕ → Rsl
activation_ack channel =
    ChannelActivationAck (record { channel = channel; frame = Some (record { 0 = 0 }) })

abbrev pub establish_indication : ℕ → Sapi → Option (List ℕ) → Rsl
establish_indication channel sapi message =
    EstablishIndication (record { channel = channel; link = link_on channel sapi; l3 = message })

abbrev pub data_indication : ℕ → Sapi → List ℕ → Rsl
data_indication channel sapi message =
    DataIndication (record { channel = channel; link = link_on channel sapi; l3 = message })
