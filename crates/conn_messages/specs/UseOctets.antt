-- SPDX-License-Identifier: MIT OR Apache-2.0
-- How a frame changes the state of a channel, found from the octets of the frame.
use Rattle.std.specs.Prelude.{ℕ, ◌==◌, ◌&&◌, if◌then◌else◌, List, slice_index_or}
use Rattle.std.specs.Prelude.{Result, Ok, Err}
use Rattle.conn_messages.specs.declared.out.Out.{Out}
use Rattle.conn_messages.specs.declared.uses.ChannelUse.{ChannelUse}
use Rattle.conn_messages.specs.declared.uses.ChannelUse.TheVariants.{Activated, Released, Unchanged}
use Rattle.ipa_framing.specs.declared.streams.TheConstants.{RSL_STREAM}
use Rattle.rsl_codec.specs.declared.fault.RslFault.{RslFault}
use Rattle.rsl_codec.specs.declared.rsl_type.TheConstants.{CHANNEL_ACTIVATION, DEDICATED_CHANNEL}
use Rattle.rsl_codec.specs.declared.rsl_type.TheConstants.{RF_CHANNEL_RELEASE}
use Rattle.rsl_codec.specs.ChannelNumber.{channel_by}

abbrev pub octet_at : List ℕ → ℕ → ℕ
octet_at octets place = slice_index_or octets place 0

abbrev pub activated_by : ℕ → Result ℕ RslFault → ℕ → ChannelUse
activated_by station (Ok number) activation =
    Activated (record { station = station; number = number }) (record { 0 = activation })
activated_by station (Err fault) activation = Unchanged

abbrev pub released_by : ℕ → Result ℕ RslFault → ChannelUse
released_by station (Ok number) = Released (record { station = station; number = number })
released_by station (Err fault) = Unchanged

-- The use by the message type. Octets are counted from 0. Octet 3, the value of the first element,
-- is the channel number; octet 5, the value of the second element, is the activation type.
abbrev pub use_by_type : ℕ → ℕ → List ℕ → ChannelUse
use_by_type station type octets =
    if type == CHANNEL_ACTIVATION
    then activated_by station (channel_by (octet_at octets 3)) (octet_at octets 5)
    else if type == RF_CHANNEL_RELEASE then released_by station (channel_by (octet_at octets 3))
    else Unchanged

-- The use by a frame to a station. Only a frame of the RSL stream with the discriminator of
-- dedicated channels can change a channel.
abbrev pub use_in : ℕ → ℕ → List ℕ → ChannelUse
use_in station stream octets =
    if (stream == RSL_STREAM) && (octet_at octets 0 == DEDICATED_CHANNEL)
    then use_by_type station (octet_at octets 1) octets
    else Unchanged

abbrev pub use_of : Out → ChannelUse
use_of out = use_in out.to out.frame.stream out.frame.body
