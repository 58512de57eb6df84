-- SPDX-License-Identifier: MIT OR Apache-2.0
-- The channel that a CHANNEL ACTIVATION activates, from the message or from its elements.
use Rattle.std.specs.Prelude.{ℕ, ◌&&◌, Bool, true, false, if◌then◌else◌, List, Option}
use Rattle.std.specs.Prelude.{Some, None}
use Rattle.std.specs.Option.{is_some}
use Rattle.std.specs.Result.{result_ok}
use Rattle.octets.specs.Element.{Element}
use Rattle.octets.specs.Walk.{first_of}
use Rattle.rsl_codec.specs.declared.identifiers.TheConstants.{ACTIVATION_TYPE}
use Rattle.rsl_codec.specs.declared.identifiers.TheConstants.{CHANNEL_MODE, CHANNEL_NUMBER}
use Rattle.rsl_codec.specs.declared.rsl.Rsl.{Rsl}
use Rattle.rsl_codec.specs.declared.rsl.Rsl.TheVariants.{ChannelActivation}
use Rattle.rsl_codec.specs.declared.rsl_type.RslType.{RslType}
use Rattle.rsl_codec.specs.declared.rsl_type.RslType.TheVariants as types
use Rattle.rsl_codec.specs.RslReading.{channel_at}

-- the channel that a message activates; None for any other message
abbrev pub activated_by : Option Rsl → Option ℕ
activated_by (Some (ChannelActivation a)) = Some a.channel
activated_by message = None

-- ---- from the parts of a message, without reading all of it

abbrev pub is_activation : Option RslType → Bool
is_activation (Some types.ChannelActivation) = true
is_activation kind = false

abbrev pub channel_in : Option (List ℕ) → Option ℕ
channel_in None = None
channel_in (Some value) = result_ok (channel_at value)

-- the channel of a CHANNEL ACTIVATION from the elements after its message type; None if a needed
-- element is missing
abbrev pub channel_by_elements : List Element → Option ℕ
channel_by_elements es =
    if is_some (first_of ACTIVATION_TYPE es) && is_some (first_of CHANNEL_MODE es)
    then channel_in (first_of CHANNEL_NUMBER es)
    else None
