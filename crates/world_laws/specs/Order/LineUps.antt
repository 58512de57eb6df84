-- SPDX-License-Identifier: MIT OR Apache-2.0
-- In each run: the stage of each connection number, and the rise of the places of a mobile's
-- messages, from the switch down to the mobile.
use Rattle.std.specs.Prelude.{◌≡◌, ◌⊎◌, ℕ, ◌≤◌, true, if◌then◌else◌}
use Rattle.std.specs.Prelude.{length, List, [], ◌++◌, Option}
use Rattle.std.specs.Prelude.{Some}
use Rattle.world_laws.specs.Prelude.{SWITCH_LINK, Connection, to_be_taken, AreAllowed, Parameters}
use Rattle.world_laws.specs.Prelude.{Event}
use Rattle.world_laws.specs.Prelude.{Actors, is_up, modulus_in, new_actors}
use Rattle.world_laws.specs.Runs.{world}
use Rattle.world_laws.specs.LineUp.Places.{LineUp, flow}
use Rattle.world_laws.specs.LineUp.Order.{IsInOrder, arriving}
use Rattle.mobile_end.specs.DataLink.{outstanding_messages}
use Rattle.world_laws.specs.LineUps.{line_up, taken_of}
use Rattle.world_laws.specs.AccountedFor.{IsUnknownForGood, IsOpenAndLinedUp}
use Rattle.world_laws.specs.OthersFrame.{IsHad}
use Rattle.world_laws.specs.OwnFrame.{IsRequested}
use Rattle.world_laws.specs.Order.OctetEvents.{AreOctetEvents}
use Rattle.world_laws.specs.Order.Openers.{first_served}
use Rattle.world_laws.specs.Order.Whereabouts.{Whereabouts}

-- ---- the stage of each connection number

-- Whatever happened, each number that the controller gave or will give to a connection has a stage
-- (`Whereabouts`).
abbrev pub AllNumbersAreSomewhere : Parameters → List Event → Type 0
AllNumbersAreSomewhere settings events =
    (number : ℕ) → AreAllowed settings → AreOctetEvents events → 1 ≤ number
    → Whereabouts (modulus_in settings) (world settings events)
    (first_served (new_actors settings) events number) number

-- ---- the places of messages rise

-- The messages that may still reach the switch. First come those that wait in the outbox to the
-- switch. Then come, channel by channel in the order in which the channels serve, those that the
-- controller holds and those on their way up. The list ends with the first channel of which
-- something is lost. If nothing is lost and the mobile is still there, the messages `of_link` of
-- its link come last.
abbrev pub still_to_arrive : LineUp → List (List ℕ) → List (List ℕ)
still_to_arrive l of_link = arriving l ++ (if l.is_intact then flow of_link else [])

-- The switch accepted the first messages sent. The places of the messages that may still arrive
-- begin with the next message sent, or with the last one accepted, and rise by 1 or 0. `now` is
-- about the messages that stations can still take from the mobile's link. `anew` is about all
-- messages that weren't acknowledged, as the mobile gives them on another channel, the one in the
-- air first. If nothing is lost, the places reach to the last message sent.
pub record PlacesRise (m : ℕ) (taken : List (List ℕ)) (l : LineUp) : Type 0 where
  pub now : IsInOrder m l.sent taken (still_to_arrive l (to_be_taken l.link))
  pub anew : IsInOrder m l.sent taken (still_to_arrive l (outstanding_messages l.link))
  pub whole_now : l.is_intact ≡ true → now.last ≡ length l.sent
  pub whole_anew : l.is_intact ≡ true → anew.last ≡ length l.sent

-- The connection lives with the mobile that it first served, and the places rise.
pub record IsLinedUp (m : ℕ) (w : Actors) (opener : Option ℕ) (s : Connection) : Type 0 where
  pub mobile : ℕ
  pub opened : opener ≡ Some mobile
  pub lined_up : IsOpenAndLinedUp m w mobile s
  pub places : PlacesRise m (taken_of w s.number) (line_up w lined_up.lined.one s)

-- Whatever happened, while the link of the switch is up, each open connection that asked the switch
-- for its connection is lined up (`IsLinedUp`), or the switch never hears of it. Assumes: allowed
-- settings; events carry octets.
abbrev pub AllPlacesRise : Parameters → List Event → Type 0
AllPlacesRise settings events =
    (s : Connection) → AreAllowed settings → AreOctetEvents events
    → is_up (world settings events) SWITCH_LINK ≡ true
    → IsHad (world settings events) s → IsRequested s.state
    → IsLinedUp (modulus_in settings) (world settings events)
    (first_served (new_actors settings) events s.number) s
    ⊎ IsUnknownForGood (world settings events) s.number
