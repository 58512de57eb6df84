-- SPDX-License-Identifier: MIT OR Apache-2.0
-- The order of the messages that a base station end makes for one channel: in tenures.
use Rattle.std.specs.Prelude.{◌≡◌, ℕ, Bool, true, false, ◌==◌, List, [], ◌∷◌}
use Rattle.link_model.specs.Message.{activation_ack}
use Rattle.rsl_codec.specs.declared.rsl.Rsl.{Rsl}
use Rattle.rsl_codec.specs.declared.rsl.Rsl.TheVariants.{DataIndication, EstablishIndication}
use Rattle.rsl_codec.specs.declared.rsl.Rsl.TheVariants.{ChannelActivationAck, RfChannelReleaseAck}

-- whether the message is an ESTABLISH INDICATION or a DATA INDICATION of the channel
abbrev pub is_brought_on : ℕ → Rsl → Bool
is_brought_on channel (EstablishIndication establishment) = establishment.channel == channel
is_brought_on channel (DataIndication indication) = indication.channel == channel
is_brought_on channel _ = false

-- whether the message is an acknowledgement of the channel's activation or release
abbrev pub is_bound_of : ℕ → Rsl → Bool
is_bound_of channel (ChannelActivationAck acknowledgement) = acknowledgement.channel == channel
is_bound_of channel (RfChannelReleaseAck released) = released == channel
is_bound_of channel _ = false

-- The channel's messages are in tenures. A tenure begins with an activation acknowledgement and
-- ends with the next release acknowledgement. Within a tenure, no activation is acknowledged.
-- Outside of tenures, a release may be acknowledged, but no ESTABLISH INDICATION or DATA INDICATION
-- stands there. The first flag tells whether the list begins within a tenure, the second whether it
-- ends within a tenure.
pub data Tenures (channel : ℕ) : Bool → List Rsl → Bool → Type 0 where
  over : (within : Bool) → Tenures channel within [] within
  begins : {end : Bool} {messages : List Rsl} → Tenures channel true messages end
      → Tenures channel false (activation_ack channel ∷ messages) end
  brings : {end : Bool} {message : Rsl} {messages : List Rsl} → is_brought_on channel message ≡ true
      → Tenures channel true messages end → Tenures channel true (message ∷ messages) end
  ends : {within end : Bool} {messages : List Rsl} → Tenures channel false messages end
      → Tenures channel within (RfChannelReleaseAck channel ∷ messages) end
  apart : {within end : Bool} {message : Rsl} {messages : List Rsl}
      → is_brought_on channel message ≡ false → is_bound_of channel message ≡ false
      → Tenures channel within messages end → Tenures channel within (message ∷ messages) end
