-- SPDX-License-Identifier: MIT OR Apache-2.0
-- Why a stream isn't decoded to its end.
use Rattle.std.specs.IoError.{error_kind}
use Rattle.ipa_framing.specs.declared.fault.FrameFault.{FrameFault}
use Rattle.ipa_framing.specs.declared.fault.FrameFault.TheVariants as faults
use Rattle.program_io.specs.declared.failure.Failure.TheVariants.{Memory, Device}
use Rattle.program_io.specs.declared.input.Unread.{Unread}
use Rattle.program_io.specs.declared.input.Unread.TheVariants as unread
use Rattle.program_io.specs.declared.input.Unread.TheVariants.{Endless, Refused}
use Rattle.program_io.specs.Status.{failure_of}
use Rattle.program_base.specs.declared.decode_command.Stop.{Stop}
use Rattle.program_base.specs.declared.decode_command.Stop.TheVariants.{TooLong}
use Rattle.program_base.specs.declared.decode_command.Stop.TheVariants.{Failed as StopFailed}

-- why `decode` stops if its input isn't read to its end; an endless input counts as a failed device
abbrev pub stop_unread : Unread Stop → Stop
stop_unread (Endless reads) = StopFailed Device
stop_unread (unread.Device error) = StopFailed (failure_of (error_kind error))
stop_unread (Refused stop) = stop

-- why `decode` stops after a fault of the framer
abbrev pub stop_of : FrameFault → Stop
stop_of faults.TooLong = TooLong
stop_of faults.Memory = StopFailed Memory
