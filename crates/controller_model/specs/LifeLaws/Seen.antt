-- SPDX-License-Identifier: MIT OR Apache-2.0
-- The forwarded messages of each SAPI.
use Rattle.std.specs.Prelude.{ℕ, Bool, true, false, if◌then◌else◌, List, [], ◌∷◌}
use Rattle.std.specs.List.{flat_map}
use Rattle.controller_model.specs.declared.forwarded.Forwarded.{Forwarded}
use Rattle.controller_model.specs.Prelude.{Sapi, Zero, Three}

abbrev pub is_same_sapi : Sapi → Sapi → Bool
is_same_sapi Zero Zero = true
is_same_sapi Three Three = true
is_same_sapi _ _ = false

-- the octets of a forwarded message, if the message is of this SAPI
abbrev pub passed_by : Sapi → Forwarded → List (List ℕ)
passed_by sapi f = if is_same_sapi sapi f.sapi then f.message ∷ [] else []

abbrev pub messages_on : Sapi → List Forwarded → List (List ℕ)
messages_on sapi list = flat_map (passed_by sapi) list
