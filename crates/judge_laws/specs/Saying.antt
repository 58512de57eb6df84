-- SPDX-License-Identifier: MIT OR Apache-2.0
-- A frame that the controller puts: the message, and what a judge reads in the frame.
use Rattle.std.specs.Prelude.{◌≡◌, ◌≢◌, ℕ, ◌<◌, ◌^◌, List, [], map, Option, Some, None, Ok}
use Rattle.std.specs.List.{AllByRecursion}
use Rattle.conn_messages.specs.declared.channel.Channel.{Channel}
use Rattle.conn_messages.specs.declared.message.Message.{Message}
use Rattle.conn_messages.specs.declared.message.Message.TheVariants.{Station, Data}
use Rattle.conn_messages.specs.declared.message.Message.TheVariants.{ReleaseComplete, Request}
use Rattle.conn_messages.specs.declared.out.Out.{Out}
use Rattle.conn_messages.specs.declared.parameters.TheConstants.{SWITCH_LINK}
use Rattle.conn_messages.specs.Out.{IsSound, outs_of}
use Rattle.conn_messages.specs.StationMessage.{activation}
use Rattle.rsl_codec.specs.declared.rsl.Rsl.{Rsl}
use Rattle.rsl_codec.specs.declared.rsl.Rsl.TheVariants as rsl
use Rattle.rsl_codec.specs.declared.values.ActivationType.{ActivationType}
use Rattle.rsl_codec.specs.declared.values.HandoverReference.{HandoverReference}
use Rattle.rsl_codec.specs.RslText.{rsl_text}
use Rattle.run_judge.specs.declared.said.Said.{Said}
use Rattle.run_judge.specs.declared.said.Said.TheVariants as says
use Rattle.run_judge.specs.declared.said.Way.TheVariants.{FromController}
use Rattle.run_judge.specs.Reading.{channel_at, handover_reference, passed, requested, said_by}
use Rattle.run_judge.specs.Reading.{said_to_station}

-- What a judge reads in the octets of a frame that the controller puts.
abbrev pub put_says : Out → Said
put_says out = said_by out.to FromController out.frame.body

abbrev pub reference_in : Option HandoverReference → Option ℕ
reference_in None = None
reference_in (Some reference) = Some reference.0

-- What the frame of a message to a station says.
abbrev pub said_to : ℕ → Rsl → Said
said_to station (rsl.ChannelActivation a) =
    says.Activates (channel_at station a.channel) (reference_in a.reference)
said_to station message = said_to_station station [] (Ok message)

-- What the frame of a message of the connection with the number `number` says.
abbrev pub said_of : ℕ → Message → Said
said_of number (Station station message) = said_to station message
said_of number (Request message) = requested number (Ok message)
said_of number (Data destination message) = passed destination (Ok message)
said_of number (ReleaseComplete destination) = says.Ends number

-- A judge finds the handover reference in the octets of a CHANNEL ACTIVATION. Any other message
-- fulfils this trivially.
abbrev pub ShowsReference : Rsl → Type 0
ShowsReference (rsl.ChannelActivation a) =
    handover_reference (rsl_text (rsl.ChannelActivation a)) ≡ reference_in a.reference
ShowsReference message = Unit {0}

-- A message to a station isn't put on the switch's link, and a judge finds the handover reference
-- in it if it is a CHANNEL ACTIVATION.
abbrev pub IsOnLink : Message → Type 0
IsOnLink (Station station message) = (station ≢ SWITCH_LINK) × ShowsReference message
IsOnLink _ = Unit {0}

-- ---- the claims

-- In the frames of a connection's messages, a judge reads exactly what the messages say. Assumes:
-- the connection's number fits 24 bits, the messages are sound, and each message `IsOnLink`.
abbrev pub FramesSayWhatWasPut : Type 0
FramesSayWhatWasPut = (number : ℕ) (messages : List Message) → number < 2 ^ 24
    → AllByRecursion IsSound messages → AllByRecursion IsOnLink messages
    → map put_says (outs_of number messages) ≡ map (said_of number) messages

-- A judge finds the handover reference in each CHANNEL ACTIVATION that the controller builds for a
-- station.
abbrev pub ActivationsShowReferences : Type 0
ActivationsShowReferences = (channel : Channel) (kind : ActivationType)
    (mark : Option HandoverReference) → channel.station ≢ SWITCH_LINK
    → IsOnLink (activation channel kind mark)
