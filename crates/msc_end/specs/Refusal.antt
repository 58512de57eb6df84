-- SPDX-License-Identifier: MIT OR Apache-2.0
-- The faults with which the switch end sends no message, and the messages for which an allocation
-- can fail.
use Rattle.std.specs.Prelude.{◌≡◌, ◌-◌, Bool, true, false, List, Option, Some, None, Result}
use Rattle.std.specs.Prelude.{IfErr}
use Rattle.bssmap_codec.specs.declared.bssap.Bssap.{Bssap}
use Rattle.bssmap_codec.specs.declared.fault.InterfaceFault.{InterfaceFault}
use Rattle.bssmap_codec.specs.declared.fault.InterfaceFault.TheVariants.{Memory as OutOfMemory}
use Rattle.bssmap_codec.specs.declared.sccp.Sccp.{Sccp}
use Rattle.bssmap_codec.specs.declared.sccp.Sccp.TheVariants.{ConnectionRequest, DataForm1}
use Rattle.bssmap_codec.specs.BssapReading.{bssap_reading}
use Rattle.msc_end.specs.declared.connection.Connection.{Connection}
use Rattle.msc_end.specs.declared.connection.Stage.{Stage}
use Rattle.msc_end.specs.declared.connection.Stage.TheVariants.{Open, Clearing, Ended}
use Rattle.msc_end.specs.declared.fault.MscFault.{MscFault}
use Rattle.msc_end.specs.declared.fault.MscFault.TheVariants.{NoConnection, Closed}
use Rattle.msc_end.specs.declared.parameters.TheConstants.{REFERENCE_BASE}
use Rattle.msc_end.specs.Switch.{connection_of}

abbrev pub stage_fault : Stage → Option MscFault
stage_fault Open = None
stage_fault Clearing = Some Closed
stage_fault Ended = Some Closed

-- the fault with which no message is sent: no connection has that number, or the connection isn't
-- open
abbrev pub send_fault : Option Connection → Option MscFault
send_fault None = Some NoConnection
send_fault (Some c) = stage_fault c.stage

-- ---- allocation failures

-- the CLEAR COMPLETE was received
abbrev pub has_ended : Stage → Bool
has_ended Open = false
has_ended Clearing = false
has_ended Ended = true

-- The data are readable: they have no fault, apart from an allocation failure, which is checked
-- last.
abbrev pub IsReadable : Result Bssap InterfaceFault → Type 0
IsReadable read = IfErr read (λ fault. fault ≡ OutOfMemory)

-- An allocation can fail for data: the connection exists and hasn't ended, and the data are
-- readable.
abbrev pub MayWantData : Option Connection → Result Bssap InterfaceFault → Type 0
MayWantData None read = ⊥
MayWantData (Some c) read = (has_ended c.stage ≡ false) × IsReadable read

-- An allocation can fail for a connection request, and for readable data on a connection that
-- hasn't ended.
abbrev pub MayWantMemory : List Connection → Sccp → Type 0
MayWantMemory connections (ConnectionRequest source user) = Unit {0}
MayWantMemory connections (DataForm1 destination user) =
    MayWantData (connection_of connections (destination - REFERENCE_BASE)) (bssap_reading user)
MayWantMemory connections _ = ⊥
