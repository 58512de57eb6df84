-- SPDX-License-Identifier: MIT OR Apache-2.0
-- Why the relay didn't run to its end.
use Rattle.std.specs.declared.io.ErrorKind.{ErrorKind}
use Rattle.std.specs.declared.io.ErrorKind.TheVariants.{OutOfMemory}
use Rattle.link_sockets.specs.declared.fault.RunFault.{RunFault}
use Rattle.link_sockets.specs.declared.fault.RunFault.TheVariants.{Memory, Device}

-- The fault of a device's error, from the kind of the error: Memory if memory ran out, else Device.
abbrev pub fault_of : ErrorKind → RunFault
fault_of OutOfMemory = Memory
fault_of _ = Device
