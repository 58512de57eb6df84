-- SPDX-License-Identifier: MIT OR Apache-2.0
-- The exit status of a failure, and the failure of an error.
use Rattle.std.specs.Prelude.{ℕ}
use Rattle.std.specs.declared.io.ErrorKind.{ErrorKind}
use Rattle.std.specs.declared.io.ErrorKind.TheVariants.{OutOfMemory}
use Rattle.std.specs.IoError.{error_kind}
use Rattle.program_io.specs.declared.failure.Failure.{Failure}
use Rattle.program_io.specs.declared.input.Unread.{Unread}
use Rattle.program_io.specs.declared.input.Unread.TheVariants as unread
use Rattle.program_io.specs.declared.input.Unread.TheVariants.{Endless, Refused}
use Rattle.program_io.specs.declared.failure.Failure.TheVariants.{BadEvent, Memory, Device}

-- The exit status: 2 for a bad event, 3 for memory or a device.
abbrev pub status_of : Failure → ℕ
status_of (BadEvent line) = 2
status_of Memory = 3
status_of Device = 3

-- The failure of a read or a write, from the kind of its error: `Memory` if memory ran out, else
-- `Device`.
abbrev pub failure_of : ErrorKind → Failure
failure_of OutOfMemory = Memory
failure_of _ = Device

-- The failure of an input that wasn't read to its end. An input that is endless counts as a failed
-- device.
abbrev pub failure_unread : Unread Failure → Failure
failure_unread (Endless reads) = Device
failure_unread (unread.Device error) = failure_of (error_kind error)
failure_unread (Refused failure) = failure
