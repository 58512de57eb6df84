-- SPDX-License-Identifier: MIT OR Apache-2.0
-- Why a run isn't done again to its end, and the status that the program then ends with.
use Rattle.std.specs.Prelude.{ℕ}
use Rattle.std.specs.IoError.{error_kind}
use Rattle.program_io.specs.Status.{failure_of}
use Rattle.program_io.specs.declared.failure.Failure.TheVariants as failures
use Rattle.program_io.specs.declared.input.Unread.{Unread}
use Rattle.program_io.specs.declared.input.Unread.TheVariants.{Device, Endless, Refused}
use Rattle.record_steps.specs.declared.step_fault.StepFault.{StepFault}
use Rattle.record_steps.specs.declared.step_fault.StepFault.TheVariants as steps
use Rattle.rerun_steps.specs.declared.packet_fault.PacketFault.{PacketFault}
use Rattle.rerun_steps.specs.declared.packet_fault.PacketFault.TheVariants as packets
use Rattle.rerun_program.specs.declared.stop.Stop.{Stop}
use Rattle.rerun_program.specs.declared.stop.Stop.TheVariants.{BadPacket, BadStep, Behind}
use Rattle.rerun_program.specs.declared.stop.Stop.TheVariants.{Differs, Failed, NoPart}
use Rattle.rerun_program.specs.declared.stop.Stop.TheVariants as stops

-- where memory ran out nothing is said of the packet
abbrev pub stop_by_packet : ℕ → PacketFault → Stop
stop_by_packet number packets.Memory = Failed failures.Memory
stop_by_packet number fault = BadPacket number fault

abbrev pub stop_by_step : ℕ → StepFault → Stop
stop_by_step number steps.Memory = Failed failures.Memory
stop_by_step number fault = BadStep number fault

-- an input that has no end counts as a device that fails
abbrev pub stop_unread : Unread Stop → Stop
stop_unread (Endless reads) = Failed failures.Device
stop_unread (Device error) = Failed (failure_of (error_kind error))
stop_unread (Refused stop) = stop

-- 2 for what a file has, 3 for memory or a device, 5 for a difference
abbrev pub status_of_stop : Stop → ℕ
status_of_stop (BadPacket number fault) = 2
status_of_stop (BadStep number fault) = 2
status_of_stop (NoPart number) = 2
status_of_stop Behind = 2
status_of_stop stops.Settings = 2
status_of_stop Differs = 5
status_of_stop (Failed failure) = 3
