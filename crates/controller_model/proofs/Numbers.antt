-- SPDX-License-Identifier: MIT OR Apache-2.0
-- A row keeps its connection's number.
use Rattle.controller_model.proofs.Prelude.{◌≡◌, ℕ, Option, Some, None, Channel, Input, Connection, Row, OfRow, KeepsChannels, row_of}
use Rattle.controller_model.proofs.Prelude.{keeps_channels}

abbrev pub Keeps : ℕ → Row → Type 0
Keeps number r = r.next.number ≡ number

of_channels : (s : Connection) (offer : Option Channel) (r : Option Row) → OfRow (KeepsChannels s offer) r → OfRow (Keeps s.number) r
of_channels s offer None kept = tt
of_channels s offer (Some r) kept = kept.number

pub keeps_number : (s : Connection) (input : Input) (offer : Option Channel) → OfRow (Keeps s.number) (row_of s input offer)
keeps_number s input offer = of_channels s offer (row_of s input offer) (keeps_channels s input offer)
