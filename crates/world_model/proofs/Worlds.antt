-- SPDX-License-Identifier: MIT OR Apache-2.0
-- Notation for rows of the world: events one after the other, and the views after them.
use Rattle.world_model.proofs.Prelude.{ℕ, Bool, List, map, fold, Option, option_map, rsl_text, Event, Seat, World, mobile_of, base_of}
use Rattle.world_model.proofs.Prelude.{outbox_of}
use Rattle.std.specs.Option.{is_some}
use Rattle.controller_model.proofs.OnLiterals.{on_literals as octets_on_literals}
use Rattle.world_model.specs.Life.{event_after, after}

-- a life over literal events computes under one name
unfoldable pub on_literals : Unit {0}
unfolding octets_on_literals event_after
on_literals = tt

abbrev pub after_all : World → List Event → World
after_all w events = fold after w events

-- the bodies in an outbox, and those that a station made
abbrev pub bodies : World → ℕ → List (List ℕ)
bodies w link = map (λ entry. entry.out.frame.body) (outbox_of w.actors link)

abbrev pub made_bodies : World → ℕ → List (List ℕ)
made_bodies w station = map rsl_text (base_of w.actors station).messages

-- where a mobile is
abbrev pub seat_of : World → ℕ → Option Seat
seat_of w mobile = option_map (λ p. p.seat) (mobile_of w.actors mobile)

-- whether an event's actor can take it
abbrev pub takes : World → Event → Bool
takes w event = is_some (event_after w.actors event)
