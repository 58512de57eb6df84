-- SPDX-License-Identifier: MIT OR Apache-2.0
-- The send sequence number N(SD) of the flow message in an uplink frame (TS 24.007 clause
-- 11.2.3.2.3). `m` is the number of sequence numbers.
use Rattle.std.specs.Prelude.{ℕ, ◌==◌, if◌then◌else◌, List, [], ◌++◌, codes, decimal, Option, Some}
use Rattle.std.specs.Prelude.{None, Result, Ok, Err}
use Rattle.bssmap_codec.specs.BssapReading.{bssap_reading}
use Rattle.bssmap_codec.specs.SccpReading.{sccp_reading}
use Rattle.bssmap_codec.specs.declared.bssap.Bssap.{Bssap}
use Rattle.bssmap_codec.specs.declared.bssap.Bssap.TheVariants.{Management, Transfer}
use Rattle.bssmap_codec.specs.declared.fault.InterfaceFault.{InterfaceFault}
use Rattle.bssmap_codec.specs.declared.sccp.Sccp.{Sccp}
use Rattle.bssmap_codec.specs.declared.sccp.Sccp.TheVariants.{DataForm1}
use Rattle.dtap_codec.specs.Number.{number_in}
use Rattle.ipa_framing.specs.declared.frame.Frame.{Frame}
use Rattle.ipa_framing.specs.declared.streams.TheConstants.{RSL_STREAM, SCCP_STREAM}
use Rattle.rsl_codec.specs.RslReading.{rsl_reading}
use Rattle.rsl_codec.specs.declared.fault.RslFault.{RslFault}
use Rattle.rsl_codec.specs.declared.rsl.Rsl.{Rsl}
use Rattle.rsl_codec.specs.declared.rsl.Rsl.TheVariants.{DataIndication}

abbrev pub rsl_number : ℕ → Result Rsl RslFault → Option ℕ
rsl_number m (Ok (DataIndication message)) = number_in m message.l3
rsl_number m (Ok message) = None
rsl_number m (Err fault) = None

-- the number N(SD) in a BSSAP message; only DTAP has such a number
abbrev pub transfer_number : ℕ → Bssap → Option ℕ
transfer_number m (Transfer dlci message) = number_in m message
transfer_number m (Management message) = None

abbrev pub bssap_number : ℕ → Result Bssap InterfaceFault → Option ℕ
bssap_number m (Ok message) = transfer_number m message
bssap_number m (Err fault) = None

abbrev pub sccp_number : ℕ → Result Sccp InterfaceFault → Option ℕ
sccp_number m (Ok (DataForm1 destination octets)) = bssap_number m (bssap_reading octets)
sccp_number m (Ok message) = None
sccp_number m (Err fault) = None

abbrev pub number_in_frame : ℕ → Frame → Option ℕ
number_in_frame m frame =
    if frame.stream == RSL_STREAM then rsl_number m (rsl_reading frame.body)
    else if frame.stream == SCCP_STREAM then sccp_number m (sccp_reading frame.body)
    else None

abbrev pub number_field : Option ℕ → List ℕ
number_field None = []
number_field (Some number) = codes " N(SD) " ++ decimal number
