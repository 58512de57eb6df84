-- SPDX-License-Identifier: MIT OR Apache-2.0
-- Which octets are a layer 3 message, by their number.
use Rattle.std.specs.Prelude.{ℕ, ◌≤◌, ◌==◌, nat_lt, if◌then◌else◌, List, length}
use Rattle.std.specs.Prelude.{Option, Some, None}
use Rattle.bssmap_codec.specs.declared.fault.InterfaceFault.{InterfaceFault}
use Rattle.bssmap_codec.specs.declared.fault.InterfaceFault.TheVariants.{Short, TooLong}
use Rattle.octets.specs.declared.limits.TheConstants.{MESSAGE_LIMIT}

-- a layer 3 message has 1 to 251 octets
abbrev pub IsLayer3 : List ℕ → Type 0
IsLayer3 message = (1 ≤ length message) × (length message ≤ MESSAGE_LIMIT)

-- the fault of octets as a layer 3 message; `None` if they are one
abbrev pub layer3_fault : List ℕ → Option InterfaceFault
layer3_fault message =
    if length message == 0 then Some Short
    else (if nat_lt MESSAGE_LIMIT (length message) then Some TooLong else None)
