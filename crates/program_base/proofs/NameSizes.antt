-- SPDX-License-Identifier: MIT OR Apache-2.0
-- The name of a frame's contents has at most 24 octets.
use Rattle.std.proofs.Common.{ℕ, ◌≤◌, List, [], ◌∷◌, length, lit≤, Result, Ok, Err, Bool, true, false}
use Rattle.std.specs.Prelude.{◌==◌, if◌then◌else◌}
use Rattle.ipa_framing.specs.declared.frame.Frame.{Frame}
use Rattle.ipa_framing.specs.declared.streams.TheConstants.{CCM_STREAM, OML_STREAM, PING, PONG, RSL_STREAM, SCCP_STREAM}
use Rattle.rsl_codec.specs.declared.rsl.Rsl.{Rsl}
use Rattle.rsl_codec.specs.declared.rsl.Rsl.TheVariants as messages
use Rattle.rsl_codec.specs.declared.fault.RslFault.{RslFault}
use Rattle.rsl_codec.specs.declared.fault.RslFault.TheVariants as faults
use Rattle.rsl_codec.specs.RslReading.{rsl_reading}
use Rattle.bssmap_codec.specs.declared.sccp.Sccp.{Sccp}
use Rattle.bssmap_codec.specs.declared.sccp.Sccp.TheVariants as connection
use Rattle.bssmap_codec.specs.declared.fault.InterfaceFault.{InterfaceFault}
use Rattle.bssmap_codec.specs.declared.fault.InterfaceFault.TheVariants as interface
use Rattle.bssmap_codec.specs.SccpReading.{sccp_reading}
use Rattle.program_base.specs.Names.{ccm_name, name_of, rsl_fault_name, rsl_message_name, rsl_name_by, sccp_fault_name, sccp_message_name, sccp_name_by}

abbrev Short : List ℕ → Type 0
Short name = length name ≤ 24

rsl_message_short : (m : Rsl) → Short (rsl_message_name m)
rsl_message_short (messages.DataRequest _) = lit≤ tt
rsl_message_short (messages.DataIndication _) = lit≤ tt
rsl_message_short (messages.ErrorIndication _) = lit≤ tt
rsl_message_short (messages.EstablishRequest _) = lit≤ tt
rsl_message_short (messages.EstablishConfirm _) = lit≤ tt
rsl_message_short (messages.EstablishIndication _) = lit≤ tt
rsl_message_short (messages.ReleaseRequest _) = lit≤ tt
rsl_message_short (messages.ReleaseConfirm _) = lit≤ tt
rsl_message_short (messages.ReleaseIndication _) = lit≤ tt
rsl_message_short (messages.ChannelRequired _) = lit≤ tt
rsl_message_short (messages.ImmediateAssignCommand _) = lit≤ tt
rsl_message_short (messages.ChannelActivation _) = lit≤ tt
rsl_message_short (messages.ChannelActivationAck _) = lit≤ tt
rsl_message_short (messages.ChannelActivationNack _) = lit≤ tt
rsl_message_short (messages.ConnectionFailure _) = lit≤ tt
rsl_message_short (messages.HandoverDetection _) = lit≤ tt
rsl_message_short (messages.MeasurementResult _) = lit≤ tt
rsl_message_short (messages.RfChannelRelease _) = lit≤ tt
rsl_message_short (messages.RfChannelReleaseAck _) = lit≤ tt

rsl_fault_short : (f : RslFault) → Short (rsl_fault_name f)
rsl_fault_short faults.Short = lit≤ tt
rsl_fault_short faults.UnknownType = lit≤ tt
rsl_fault_short (faults.MissingElement _) = lit≤ tt
rsl_fault_short faults.BadChannel = lit≤ tt
rsl_fault_short faults.Memory = lit≤ tt
rsl_fault_short faults.TooLong = lit≤ tt

rsl_short : (r : Result Rsl RslFault) → Short (rsl_name_by r)
rsl_short (Ok message) = rsl_message_short message
rsl_short (Err fault) = rsl_fault_short fault

sccp_message_short : (m : Sccp) → Short (sccp_message_name m)
sccp_message_short (connection.ConnectionRequest _ _) = lit≤ tt
sccp_message_short (connection.ConnectionConfirm _ _) = lit≤ tt
sccp_message_short (connection.ConnectionRefused _) = lit≤ tt
sccp_message_short (connection.Released _ _) = lit≤ tt
sccp_message_short (connection.ReleaseComplete _ _) = lit≤ tt
sccp_message_short (connection.DataForm1 _ _) = lit≤ tt

sccp_fault_short : (f : InterfaceFault) → Short (sccp_fault_name f)
sccp_fault_short interface.Short = lit≤ tt
sccp_fault_short interface.UnknownType = lit≤ tt
sccp_fault_short (interface.MissingElement _) = lit≤ tt
sccp_fault_short interface.BadPointer = lit≤ tt
sccp_fault_short interface.TooLong = lit≤ tt
sccp_fault_short interface.Memory = lit≤ tt

sccp_short : (r : Result Sccp InterfaceFault) → Short (sccp_name_by r)
sccp_short (Ok message) = sccp_message_short message
sccp_short (Err fault) = sccp_fault_short fault

either_short : (b : Bool) (xs ys : List ℕ) → Short xs → Short ys → Short (if b then xs else ys)
either_short true xs ys first second = first
either_short false xs ys first second = second

ccm_short : (body : List ℕ) → Short (ccm_name body)
ccm_short [] = lit≤ tt
ccm_short (first ∷ rest) = either_short (first == PING) _ _ (lit≤ tt) (either_short (first == PONG) _ _ (lit≤ tt) (lit≤ tt))

pub name_short : (frame : Frame) → length (name_of frame) ≤ 24
name_short frame =
    either_short (frame.stream == RSL_STREAM) _ _ (rsl_short (rsl_reading frame.body))
    (either_short (frame.stream == SCCP_STREAM) _ _ (sccp_short (sccp_reading frame.body))
    (either_short (frame.stream == CCM_STREAM) _ _ (ccm_short frame.body)
    (either_short (frame.stream == OML_STREAM) _ _ (lit≤ tt) (lit≤ tt))))
