-- SPDX-License-Identifier: MIT OR Apache-2.0
-- Local references: three octets, the high one first (Q.713 clause 3.2).
use Rattle.std.specs.Prelude.{ℕ, ◌+◌, ◌*◌, ◌/◌, ◌%◌, ◌^◌, ◌<◌, List, []}
use Rattle.std.specs.Prelude.{◌∷◌, ◌++◌, Result, Ok}
use Rattle.octets.specs.Answer.{◌>>=◌}
use Rattle.octets.specs.Front.{octet_at}
use Rattle.bssmap_codec.specs.declared.fault.InterfaceFault.{InterfaceFault}
use Rattle.bssmap_codec.specs.declared.fault.InterfaceFault.TheVariants.{Short}

abbrev pub IsReference : ℕ → Type 0
IsReference number = number < 2 ^ 24

abbrev pub reference_text : ℕ → List ℕ
reference_text number = (number / 65536) ∷ ((number / 256) % 256) ∷ (number % 256) ∷ []

-- the octets of two references: the receiver's, then the sender's
abbrev pub references_text : ℕ → ℕ → List ℕ
references_text destination source = reference_text destination ++ reference_text source

-- the reference at the front and the octets after the reference, else `Short`
unfoldable pub reference_at : List ℕ → Result (ℕ × List ℕ) InterfaceFault
reference_at octets = do
  high ← octet_at Short octets
  middle ← octet_at Short high.1
  low ← octet_at Short middle.1
  Ok (high.0 * 65536 + middle.0 * 256 + low.0, low.1)

-- the destination and the source reference and the octets after the references, else `Short`
unfoldable pub references_at : List ℕ → Result (ℕ × ℕ × List ℕ) InterfaceFault
references_at octets = do
  destination ← reference_at octets
  source ← reference_at destination.1
  Ok (destination.0, source.0, source.1)
