-- SPDX-License-Identifier: MIT OR Apache-2.0
-- The mobile to which a connection belongs: the one on its serving channel when the controller
-- first had asked the switch for the connection.
use Rattle.std.specs.Prelude.{ℕ, Bool, true, false, Option, None, option_map, List, [], ◌∷◌}
use Rattle.std.specs.Prelude.{if◌then◌else◌}
use Rattle.std.specs.Option.{option_and_then, option_or}
use Rattle.world_laws.specs.Prelude.{State, WaitActivation, WaitEstablish, Connection, place_of}
use Rattle.world_laws.specs.Prelude.{Event, actors_after, mobile_on, Actors}
use Rattle.world_laws.specs.Prelude.{tenure_at}
use Rattle.controller_model.specs.Controller.{entry_of}

-- whether the state is one after the controller asked the switch for the connection
abbrev pub has_asked : State → Bool
has_asked WaitActivation = false
has_asked WaitEstablish = false
has_asked _ = true

-- The mobile on the serving channel of a connection; None if the connection hasn't asked the
-- switch, or no mobile is on the channel.
abbrev pub served : Actors → Connection → Option ℕ
served w s =
    if has_asked s.state then option_map (λ p. p.number)
    (mobile_on w (tenure_at w (place_of s.serving))) else None

abbrev pub served_by : Actors → ℕ → Option ℕ
served_by w number =
    option_and_then (λ entry. served w entry.connection) (entry_of w.controller number)

-- The first mobile that the connection of this number served at a moment of these events, from the
-- first on; None if it served none.
abbrev pub first_served : Actors → List Event → ℕ → Option ℕ
first_served w [] number = served_by w number
first_served w (event ∷ events) number =
    option_or (served_by w number) (first_served (actors_after w event) events number)
