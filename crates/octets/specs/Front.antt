-- SPDX-License-Identifier: MIT OR Apache-2.0
-- Readers of the front of octets. Each gives the part that was read and the octets after that part,
-- or the fault if the octets end too early.
use Rattle.std.specs.Prelude.{ℕ, nat_lt, if◌then◌else◌, List, [], ◌∷◌, length, take}
use Rattle.std.specs.Prelude.{drop, Result}
use Rattle.std.specs.Prelude.{Ok, Err}
use Rattle.octets.specs.Answer.{◌>>=◌}

-- the first octet
unfoldable pub octet_at : {F : Type 0} → F → List ℕ → Result (ℕ × List ℕ) F
octet_at fault [] = Err fault
octet_at fault (octet ∷ rest) = Ok (octet, rest)

-- the first `size` octets
abbrev pub split_at : {F : Type 0} → F → ℕ → List ℕ → Result (List ℕ × List ℕ) F
split_at fault size octets =
    if nat_lt (length octets) size then Err fault else Ok (take size octets, drop size octets)

-- the value whose length is the first octet
unfoldable pub counted_at : {F : Type 0} → F → List ℕ → Result (List ℕ × List ℕ) F
counted_at fault octets = do
  size ← octet_at fault octets
  split_at fault size.0 size.1

-- a length octet, and the value of that length
abbrev pub counted_text : List ℕ → List ℕ
counted_text value = length value ∷ value
