-- SPDX-License-Identifier: MIT OR Apache-2.0
-- Heads of parts, and what is left of a file, by literals.
use Rattle.std.proofs.Common.{◌≡◌, true, false, [], ◌∷◌, map, Some, refl}
use Rattle.std.specs.Fmt.{digits}
use Rattle.std.specs.Prelude.{codes}
use Rattle.rerun_steps.specs.Packets.{fault_of, has_rest, new_entries, opened}
use Rattle.rerun_steps.specs.Parts.{is_part, no_head, with_piece}
use Rattle.rerun_steps.specs.declared.packet_fault.PacketFault.TheVariants.{Length, Octet}
use Rattle.run_record.specs.declared.next.Fault.TheVariants as faults

third : is_part 3 (codes "bsc 0.1.0 (logic dac8208d650f15bf) part 3") ≡ true
unfolding digits
third = refl

-- the thirteenth isn't the third, and a line that is shorter names none
others : map (is_part 3) (codes "bsc 0.1.0 (logic dac8208d650f15bf) part 13" ∷ codes "bsc 0.1.0 part 3 " ∷ codes "part 3" ∷ [] ∷ [])
    ≡ false ∷ false ∷ false ∷ false ∷ []
unfolding digits
others = refl

-- a line, and settings in two pieces
pieces : with_piece (with_piece (with_piece no_head (codes "bsc 0.1.0 part 1")) (codes "[switch]\n")) (codes "port = 1\n")
    ≡ record { line = Some (codes "bsc 0.1.0 part 1"); settings = codes "[switch]\nport = 1\n" }
pieces = refl

-- an empty file has no header; one that ends with its header is whole
rests : map has_rest (new_entries ∷ opened new_entries ∷ opened (record new_entries { octets = codes "0123456789abcdef01234567s" }) ∷ [])
    ≡ true ∷ false ∷ true ∷ []
rests = refl

wrong_packets : map fault_of (faults.Length ∷ faults.Octet 16 ∷ []) ≡ Length ∷ Octet 16 ∷ []
wrong_packets = refl
