-- SPDX-License-Identifier: MIT OR Apache-2.0
-- A controller that has nothing left to do, and one that has no number left.
use Rattle.std.specs.Prelude.{ℕ, ◌==◌, nat_lt, ◌&&◌, Bool, true, false, if◌then◌else◌}
use Rattle.std.specs.Prelude.{List, [], ◌∷◌, length, Option, Some, None}
use Rattle.controller_model.specs.Controller.{Controller, new_controller}
use Rattle.controller_model.specs.declared.limits.TheConstants.{MAX_CONNECTION_NUMBER}
use Rattle.settings.specs.Parameters.{Parameters}

-- whether no link is up
abbrev pub all_down : List Bool → Bool
all_down [] = true
all_down (true ∷ links) = false
all_down (false ∷ links) = all_down links

-- whether every link is down and no connection is left
abbrev pub is_at_rest : Controller → Bool
is_at_rest c = (length c.entries == 0) && all_down c.links

-- the number of connections that are left once no number is left for another; `None` while one is
-- left
abbrev pub left_without_number : Controller → Option ℕ
left_without_number c =
    if nat_lt MAX_CONNECTION_NUMBER c.next_number then Some (length c.entries) else None

-- a controller without connections, whose next connection gets this number
abbrev pub new_from : Parameters → ℕ → Controller
new_from settings number = record (new_controller settings) { next_number = number }
