-- SPDX-License-Identifier: MIT OR Apache-2.0
-- The messages that the upper layers of a mobile may send.
use Rattle.std.specs.Prelude.{ℕ, ◌%◌, Bool, true, false, ◌&&◌, ◌||◌, ◌==◌, not}
use Rattle.std.specs.Prelude.{nat_lt, nat_le, List, [], ◌∷◌, length, if◌then◌else◌}
use Rattle.dtap_codec.specs.Message.{is_flow_protocol}
use Rattle.octets.specs.declared.limits.TheConstants.{MESSAGE_LIMIT}
use Rattle.dtap_codec.specs.declared.message.TheConstants.{MOBILITY_MANAGEMENT}
use Rattle.dtap_codec.specs.declared.message.TheConstants.{RADIO_RESOURCE, SHORT_MESSAGES}
use Rattle.dtap_codec.specs.declared.sapi.Sapi.{Sapi}
use Rattle.dtap_codec.specs.declared.sapi.Sapi.TheVariants.{Zero, Three}
use Rattle.mobile_end.specs.declared.lawful.TheConstants.{NUMBER_BIT}
use Rattle.octets.specs.declared.limits.TheConstants.{INITIAL_LIMIT}

-- whether a message of a protocol of the flow has both octets of its header, with bits 8 and 7 of
-- the second octet clear; true for a message of any other protocol
abbrev pub has_clear_number : List ℕ → Bool
has_clear_number [] = true
has_clear_number (first ∷ []) = not (is_flow_protocol (first % 16))
has_clear_number (first ∷ second ∷ rest) =
    if is_flow_protocol (first % 16) then nat_lt second NUMBER_BIT else true

-- whether messages of a protocol may be sent on a SAPI: short messages on SAPI 3, all other
-- messages on SAPI 0 except those of radio resource management
abbrev pub takes_sapi : Sapi → ℕ → Bool
takes_sapi Zero protocol = not (protocol == SHORT_MESSAGES) && not (protocol == RADIO_RESOURCE)
takes_sapi Three protocol = protocol == SHORT_MESSAGES

abbrev pub is_sendable : Sapi → List ℕ → Bool
is_sendable sapi [] = false
is_sendable sapi (first ∷ rest) =
    nat_le (length (first ∷ rest)) MESSAGE_LIMIT
    && takes_sapi sapi (first % 16)
    && has_clear_number (first ∷ rest)

-- whether a connection may begin with this message: a message of mobility management, or a message
-- of radio resource management, such as a PAGING RESPONSE
abbrev pub is_initial : List ℕ → Bool
is_initial [] = false
is_initial (first ∷ rest) =
    nat_le (length (first ∷ rest)) INITIAL_LIMIT
    && ((first % 16 == MOBILITY_MANAGEMENT) || (first % 16 == RADIO_RESOURCE))
    && has_clear_number (first ∷ rest)
