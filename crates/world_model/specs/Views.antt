-- SPDX-License-Identifier: MIT OR Apache-2.0
-- Views of the world by the number of a mobile or of a connection of the switch. A view is None if
-- no mobile, or no connection, has the number.
use Rattle.std.specs.Prelude.{ℕ, List, Option, option_map}
use Rattle.msc_end.specs.declared.connection.Connection.{Connection}
use Rattle.msc_end.specs.Switch.{connection_of}
use Rattle.nsd_filter.specs.AcceptedList.{accepted_list, progress, not_of_the_flow}
use Rattle.world_model.specs.World.{Actors, mobile_of}

-- the sent list of a mobile: the messages of the flow that its upper layers sent
abbrev pub sent : Actors → ℕ → Option (List (List ℕ))
sent w mobile = option_map (λ p. p.end.sent) (mobile_of w mobile)

-- the messages that a mobile received
abbrev pub received : Actors → ℕ → Option (List (List ℕ))
received w mobile = option_map (λ p. p.received) (mobile_of w mobile)

abbrev pub of_connection : {X : Type 0} → (Connection → X) → Actors → ℕ → Option X
of_connection seen w connection = option_map seen (connection_of w.switch.connections connection)

-- the messages that the switch took on a connection
abbrev pub taken : Actors → ℕ → Option (List (List ℕ))
taken = of_connection (λ c. c.reception.taken)

-- the accepted list of a connection
abbrev pub accepted : Actors → ℕ → Option (List (List ℕ))
accepted = of_connection (λ c. accepted_list c.reception.modulus c.reception.taken)

-- the messages that the switch took on a connection and that have no number
abbrev pub unnumbered : Actors → ℕ → Option (List (List ℕ))
unnumbered = of_connection (λ c. not_of_the_flow c.reception.taken)

-- How far the flow of a connection has advanced at the switch's filter; the inner option is None
-- after a gap.
abbrev pub progress_of : Actors → ℕ → Option (Option ℕ)
progress_of = of_connection (λ c. progress c.reception.modulus c.reception.taken)
