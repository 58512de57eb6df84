-- SPDX-License-Identifier: MIT OR Apache-2.0
-- Layer 3 messages as lists of octets (TS 24.007 clause 11.2.3).
use Rattle.std.specs.Prelude.{ℕ, ◌%◌, Bool, false, ◌||◌, ◌==◌, Option, Some, None}
use Rattle.std.specs.Prelude.{List, [], ◌∷◌}
use Rattle.dtap_codec.specs.declared.message.TheConstants.{CALL_CONTROL, MOBILITY_MANAGEMENT}
use Rattle.dtap_codec.specs.declared.message.TheConstants.{SUPPLEMENTARY_SERVICES}

-- The protocol discriminator: the low four bits of the first octet. `None` for an empty message.
abbrev pub discriminator : List ℕ → Option ℕ
discriminator [] = None
discriminator (first ∷ rest) = Some (first % 16)

-- Whether a protocol belongs to the flow. Call control, mobility management and supplementary
-- services share one flow.
abbrev pub is_flow_protocol : ℕ → Bool
is_flow_protocol protocol =
    (protocol == CALL_CONTROL) || (protocol == MOBILITY_MANAGEMENT) ||
    (protocol == SUPPLEMENTARY_SERVICES)

-- Whether a message belongs to the flow: its protocol does, and the message has at least two
-- octets.
abbrev pub is_flow_message : List ℕ → Bool
is_flow_message (first ∷ second ∷ rest) = is_flow_protocol (first % 16)
is_flow_message _ = false
