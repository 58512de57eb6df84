-- SPDX-License-Identifier: MIT OR Apache-2.0
-- Why not all lines are judged, and the exit status in this case.
use Rattle.std.specs.Prelude.{ℕ}
use Rattle.std.specs.IoError.{error_kind}
use Rattle.judge_lines.specs.declared.fault.LineFault.{LineFault}
use Rattle.judge_lines.specs.declared.fault.LineFault.TheVariants as faults
use Rattle.program_io.specs.Status.{failure_of}
use Rattle.program_io.specs.declared.failure.Failure.TheVariants as failures
use Rattle.program_io.specs.declared.input.Unread.{Unread}
use Rattle.program_io.specs.declared.input.Unread.TheVariants.{Device, Endless, Refused}
use Rattle.judge_program.specs.declared.stop.Stop.{Stop}
use Rattle.judge_program.specs.declared.stop.Stop.TheVariants.{BadLine, Failed}

-- The stop for a fault of a line. An allocation failure isn't a fault of the line.
abbrev pub stop_of : ℕ → LineFault → Stop
stop_of number faults.Memory = Failed failures.Memory
stop_of number fault = BadLine number fault

-- The stop for an input that wasn't read. An endless input counts as a failed device.
abbrev pub stop_unread : Unread Stop → Stop
stop_unread (Endless reads) = Failed failures.Device
stop_unread (Device error) = Failed (failure_of (error_kind error))
stop_unread (Refused stop) = stop

-- The exit status: 2 for a bad line, 3 for a failed allocation or device.
abbrev pub status_of_stop : Stop → ℕ
status_of_stop (BadLine number fault) = 2
status_of_stop (Failed failure) = 3
