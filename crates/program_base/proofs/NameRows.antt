-- SPDX-License-Identifier: MIT OR Apache-2.0
-- Definitions against literal frames.
use Rattle.std.proofs.Common.{◌≡◌, ℕ, List, [], ◌∷◌, ◌++◌, map, None, refl, ap, inr, lit<, lit≤}
use Rattle.std.specs.Prelude.{codes, decimal}
use Rattle.std.specs.IoError.{error_kind}
use Rattle.std.specs.declared.io.Error.{Error}
use Rattle.std.specs.declared.io.ErrorKind.{ErrorKind}
use Rattle.std.specs.declared.io.ErrorKind.TheVariants as kinds
use Rattle.octets.proofs.Hex.{hex}
use Rattle.hex.proofs.OnLiterals.{hex_on_literals}
use Rattle.ipa_framing.specs.declared.fault.FrameFault.TheVariants as frame_faults
use Rattle.rsl_codec.specs.declared.fault.RslFault.TheVariants as faults
use Rattle.rsl_codec.specs.declared.radio_link.Data.{Data}
use Rattle.rsl_codec.specs.declared.radio_link.Link.{Link}
use Rattle.rsl_codec.specs.declared.rsl.Rsl.TheVariants as messages
use Rattle.bssmap_codec.specs.declared.fault.InterfaceFault.TheVariants as interface
use Rattle.bssmap_codec.specs.declared.sccp.Sccp.TheVariants as connection
use Rattle.program_io.specs.declared.input.Unread.TheVariants as unread
use Rattle.program_io.specs.declared.input.Unread.TheVariants.{Endless, Refused}
use Rattle.program_io.specs.declared.failure.Failure.TheVariants.{Memory, Device}
use Rattle.program_io.specs.Status.{failure_of}
use Rattle.program_base.specs.declared.decode_command.Stop.TheVariants.{TooLong, Failed}
use Rattle.program_base.specs.Decoded.{frame_line, IsOutput, IsRefused, frame_lines, rest_line}
use Rattle.program_base.specs.Names.{ccm_name, rsl_fault_name, rsl_message_name, sccp_fault_name, sccp_message_name}
use Rattle.program_base.specs.Stopping.{stop_of, stop_unread}

-- ---- why a stream isn't decoded to its end

stops : map stop_of (frame_faults.TooLong ∷ frame_faults.Memory ∷ []) ≡ TooLong ∷ Failed Memory ∷ []
stops = refl

unread_streams : map stop_unread (Endless (record { made = 1099511627776 }) ∷ Refused TooLong ∷ Refused (Failed Memory) ∷ []) ≡ Failed Device ∷ TooLong ∷ Failed Memory ∷ []
unread_streams = refl

failed_read_of_a_stream : (error : Error) → error_kind error ≡ kinds.BrokenPipe → stop_unread (unread.Device error) ≡ Failed Device
failed_read_of_a_stream error is = ap (λ (kind : ErrorKind). Failed (failure_of kind)) is

stream_read_without_memory : (error : Error) → error_kind error ≡ kinds.OutOfMemory → stop_unread (unread.Device error) ≡ Failed Memory
stream_read_without_memory error is = ap (λ (kind : ErrorKind). Failed (failure_of kind)) is

-- ---- frames

abbrev line : ℕ → List ℕ → List ℕ
line stream body = frame_lines frame_line ((record { stream = stream; body = body }) ∷ [])

ping : line 0xfe (0x00 ∷ []) ≡ codes "fe PING\n"
unfolding hex_on_literals
ping = refl

pong : line 0xfe (hex "01 02") ≡ codes "fe PONG\n"
unfolding hex_on_literals
pong = refl

other_management : map ccm_name ([] ∷ (0x02 ∷ []) ∷ (hex "02 00") ∷ []) ≡ codes "CCM" ∷ codes "CCM" ∷ codes "CCM" ∷ []
other_management = refl

maintenance : line 0xff [] ≡ codes "ff OML\n"
unfolding hex_on_literals
maintenance = refl

other_streams : line 0x01 [] ++ line 0xfc (0x05 ∷ []) ≡ codes "01 unknown\nfc unknown\n"
unfolding hex_on_literals
other_streams = refl

-- ---- the names of messages

abbrev on_link : Link
on_link = record { channel = 0x41; link = 0x00 }

abbrev with_l3 : Data
with_l3 = record { channel = 0x41; link = 0x00; l3 = hex "03 45" }

station_messages : map rsl_message_name
    (messages.DataRequest with_l3 ∷ messages.DataIndication with_l3
    ∷ messages.ErrorIndication (record { channel = 0x41; link = 0x00; cause = None })
    ∷ messages.EstablishRequest on_link ∷ messages.EstablishConfirm on_link
    ∷ messages.EstablishIndication (record { channel = 0x41; link = 0x00; l3 = None })
    ∷ messages.ReleaseRequest (record { channel = 0x41; link = 0x00; mode = record { 0 = 0x01 } })
    ∷ messages.ReleaseConfirm on_link ∷ messages.ReleaseIndication on_link
    ∷ messages.ChannelRequired
    (record { channel = 0x88; reference = record { access = 0x7f; frame = 0x0102 }; access_delay = record { 0 = 0x05 } })
    ∷ messages.ImmediateAssignCommand (record { channel = 0x90; information = [] })
    ∷ messages.ChannelActivation (record { channel = 0x41; activation = record { 0 = 0x00 }; mode = record { 0 = [] }; reference = None })
    ∷ messages.ChannelActivationAck (record { channel = 0x41; frame = None })
    ∷ messages.ChannelActivationNack (record { channel = 0x41; cause = None })
    ∷ messages.ConnectionFailure (record { channel = 0x41; cause = None })
    ∷ messages.HandoverDetection (record { channel = 0x41; access_delay = None })
    ∷ messages.MeasurementResult
    (record { channel = 0x41; number = record { 0 = 0x05 }; uplink = None; bs_power = None; l1 = None; l3 = None })
    ∷ messages.RfChannelRelease 0x41 ∷ messages.RfChannelReleaseAck 0x41 ∷ []) ≡
    codes "DATA REQUEST" ∷ codes "DATA INDICATION" ∷ codes "ERROR INDICATION"
    ∷ codes "ESTABLISH REQUEST" ∷ codes "ESTABLISH CONFIRM" ∷ codes "ESTABLISH INDICATION"
    ∷ codes "RELEASE REQUEST" ∷ codes "RELEASE CONFIRM" ∷ codes "RELEASE INDICATION"
    ∷ codes "CHANNEL REQUIRED" ∷ codes "IMMEDIATE ASSIGN COMMAND" ∷ codes "CHANNEL ACTIVATION"
    ∷ codes "CHANNEL ACTIVATION ACK" ∷ codes "CHANNEL ACTIVATION NACK" ∷ codes "CONNECTION FAILURE"
    ∷ codes "HANDOVER DETECTION" ∷ codes "MEASUREMENT RESULT" ∷ codes "RF CHANNEL RELEASE" ∷ codes "RF CHANNEL RELEASE ACK" ∷ []
station_messages = refl

switch_messages : map sccp_message_name
    (connection.ConnectionRequest 0x000001 None ∷ connection.ConnectionConfirm 0x000001 0x800001 ∷ connection.ConnectionRefused 0x000001
    ∷ connection.Released 0x000001 0x800001 ∷ connection.ReleaseComplete 0x000001 0x800001 ∷ connection.DataForm1 0x000001 [] ∷ []) ≡
    codes "CR" ∷ codes "CC" ∷ codes "CREF" ∷ codes "RLSD" ∷ codes "RLC" ∷ codes "DT1" ∷ []
switch_messages = refl

-- ---- the names of faults

memory_names : rsl_fault_name faults.Memory ∷ sccp_fault_name interface.Memory ∷ [] ≡ codes "fault S5" ∷ codes "fault A6" ∷ []
memory_names = refl

station_faults : map rsl_fault_name (faults.Short ∷ faults.UnknownType ∷ faults.MissingElement 0x1b ∷ faults.BadChannel ∷ faults.TooLong ∷ []) ≡
    codes "fault S1" ∷ codes "fault S2" ∷ codes "fault S3" ∷ codes "fault S4" ∷ codes "fault S6" ∷ []
station_faults = refl

switch_faults : map sccp_fault_name (interface.Short ∷ interface.UnknownType ∷ interface.MissingElement 0x04 ∷ interface.BadPointer ∷ interface.TooLong ∷ []) ≡
    codes "fault A1" ∷ codes "fault A2" ∷ codes "fault A3" ∷ codes "fault A4" ∷ codes "fault A5" ∷ []
switch_faults = refl

-- PONG, and behind it a frame of 2,049 octets
refused : IsRefused frame_line (hex "00 01 fe 01 08 01") (codes "fe PONG\n")
unfolding hex_on_literals
refused = record {
  frames = (record { stream = 0xfe; body = 0x01 ∷ [] }) ∷ [];
  rest = hex "08 01";
  splits = record { whole = refl; each = (lit≤ tt, tt); stops = inr (lit< tt) };
  long = lit< tt;
  is = refl;
}

its_output : IsOutput frame_line (codes "fault F1\n") (hex "00 01 fe 01 08 01") (codes "fe PONG\nfault F1\n")
its_output = inr (codes "fe PONG\n", refused, refl)

no_rest : rest_line [] ≡ []
no_rest = refl

rest_of_three : rest_line (hex "00 01 ff") ≡ codes "rest " ++ decimal 3 ++ codes "\n"
rest_of_three = refl
