-- SPDX-License-Identifier: MIT OR Apache-2.0
-- The names of the messages that frames carry.
use Rattle.std.specs.Prelude.{ℕ, ◌==◌, ◌%◌, if◌then◌else◌, List, codes}
use Rattle.bssmap_codec.specs.declared.bssmap_type.BssmapType.{BssmapType}
use Rattle.bssmap_codec.specs.declared.bssmap_type.BssmapType.TheVariants as kinds
use Rattle.bssmap_codec.specs.declared.fault.InterfaceFault.{InterfaceFault}
use Rattle.program_base.specs.Names.{sccp_fault_name}
use Rattle.dtap_codec.specs.declared.rr_type.RrType.{RrType}
use Rattle.dtap_codec.specs.declared.rr_type.RrType.TheVariants as types

-- the name of a message of BSSMAP (TS 48.008 clause 3.2.1)
abbrev pub bssmap_name : BssmapType → List ℕ
bssmap_name kinds.AssignmentRequest = codes "ASSIGNMENT REQUEST"
bssmap_name kinds.AssignmentComplete = codes "ASSIGNMENT COMPLETE"
bssmap_name kinds.AssignmentFailure = codes "ASSIGNMENT FAILURE"
bssmap_name kinds.HandoverPerformed = codes "HANDOVER PERFORMED"
bssmap_name kinds.ClearCommand = codes "CLEAR COMMAND"
bssmap_name kinds.ClearComplete = codes "CLEAR COMPLETE"
bssmap_name kinds.ClearRequest = codes "CLEAR REQUEST"
bssmap_name kinds.SapiNReject = codes "SAPI N REJECT"
bssmap_name kinds.CipherModeCommand = codes "CIPHER MODE COMMAND"
bssmap_name kinds.CompleteLayer3Information = codes "COMPLETE LAYER 3 INFORMATION"
bssmap_name kinds.CipherModeReject = codes "CIPHER MODE REJECT"

-- `DTAP`, followed by SAPI 3 if bits 3 to 1 of the DLCI give that SAPI, else by SAPI 0 (TS 48.006
-- clause 9.3.2)
abbrev pub dtap_name : ℕ → List ℕ
dtap_name dlci = if dlci % 8 == 3 then codes "DTAP SAPI 3" else codes "DTAP SAPI 0"

-- the name of a fault in the octets of a message of the switch link, as `decode` prints it
abbrev pub interface_fault_name : InterfaceFault → List ℕ
interface_fault_name = sccp_fault_name

-- the name of a message of radio resource management (TS 44.018 clause 9.1)
abbrev pub rr_name : RrType → List ℕ
rr_name types.HandoverCommand = codes "RR HANDOVER COMMAND"
rr_name types.AssignmentCommand = codes "RR ASSIGNMENT COMMAND"
rr_name types.HandoverComplete = codes "RR HANDOVER COMPLETE"
rr_name types.HandoverFailure = codes "RR HANDOVER FAILURE"
rr_name types.AssignmentComplete = codes "RR ASSIGNMENT COMPLETE"
rr_name types.AssignmentFailure = codes "RR ASSIGNMENT FAILURE"
rr_name types.ChannelRelease = codes "RR CHANNEL RELEASE"
rr_name types.ImmediateAssignment = codes "RR IMMEDIATE ASSIGNMENT"
rr_name types.MeasurementReport = codes "RR MEASUREMENT REPORT"
rr_name types.PagingResponse = codes "RR PAGING RESPONSE"
