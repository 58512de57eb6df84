-- SPDX-License-Identifier: MIT OR Apache-2.0
-- The faults of the layers below as faults of a link.
use Rattle.bssmap_codec.specs.declared.fault.InterfaceFault.{InterfaceFault}
use Rattle.bssmap_codec.specs.declared.fault.InterfaceFault.TheVariants as interface
use Rattle.ipa_framing.specs.declared.fault.FrameFault.{FrameFault}
use Rattle.ipa_framing.specs.declared.fault.FrameFault.TheVariants as framing
use Rattle.link_workers.specs.declared.fault.IoFault.{IoFault}
use Rattle.link_workers.specs.declared.fault.IoFault.TheVariants as faults

abbrev pub fault_of_frame : FrameFault → IoFault
fault_of_frame framing.TooLong = faults.FrameFault
fault_of_frame framing.Memory = faults.Memory

-- A reply of the test switch that can't be written counts as a FrameFault.
abbrev pub fault_of_reply : InterfaceFault → IoFault
fault_of_reply interface.Memory = faults.Memory
fault_of_reply _ = faults.FrameFault
