-- SPDX-License-Identifier: MIT OR Apache-2.0
-- A connection remains lined up at an event.
use Rattle.std.specs.Prelude.{◌≡◌, ◌≢◌, ℕ, Bool, true, false, List, [], ◌∷◌}
use Rattle.std.specs.Prelude.{◌++◌, map, Option}
use Rattle.std.specs.Prelude.{Some, None}
use Rattle.std.specs.List.{AllByRecursion}
use Rattle.world_laws.specs.Prelude.{Out, SWITCH_LINK, Connection, undone, used_channels, take}
use Rattle.world_laws.specs.Prelude.{place_of, forwarded, RelayItem, Parameters}
use Rattle.world_laws.specs.Prelude.{Event, BaseTakes, Handle, SwitchTakes, Tick, OutboxEntry}
use Rattle.world_laws.specs.Prelude.{sccp_in, actors_after}
use Rattle.world_laws.specs.Prelude.{Actors, Mobile, mobile_of, modulus_in, outbox_of, Tenure}
use Rattle.world_laws.specs.Runs.{world}
use Rattle.controller_model.specs.Life.{tick}
use Rattle.world_laws.specs.LineUp.Places.{Item}
use Rattle.world_laws.specs.LineUp.Places.Item.{brought, released}
use Rattle.world_model.specs.declared.event.Event.TheVariants.{BaseDown}
use Rattle.world_model.specs.SwitchSide.{switch_took}
use Rattle.world_model.specs.Relay.{entry_of, target_in}
use Rattle.world_laws.specs.ComingUp.{brings_in, coming_up}
use Rattle.world_laws.specs.GoingDown.{leading_from_outbox}
use Rattle.world_laws.specs.LineUps.{commanded_target, taken_of}
use Rattle.world_laws.specs.Seated.{commanded_channels, AreActiveAt, IsAlone, LinedUp}

-- There is a mobile of this number, and the connection is lined up with this mobile.
pub record AreLinedUp (m : ℕ) (w : Actors) (mobile : ℕ) (s : Connection) : Type 0 where
  pub one : Mobile
  pub found : mobile_of w mobile ≡ Some one
  pub lined : LinedUp m w one s

-- Whether neither the controller nor an outbox takes part in the event, and no link breaks: a
-- mobile acts, a station takes a frame from a mobile or gives a message to the inbox, or the switch
-- performs an action of its own.
abbrev pub is_beside_relay : Event → Bool
is_beside_relay (BaseTakes station) = false
is_beside_relay Handle = false
is_beside_relay SwitchTakes = false
is_beside_relay (Tick ms) = false
is_beside_relay (BaseDown source) = false
is_beside_relay _ = true

-- At an event beside the relay (`is_beside_relay`), a connection that is lined up remains lined up.
-- Assumes: no other mobile is on the connection's channels.
abbrev pub MobilesKeepLineUps : Parameters → List Event → Event → Type 0
MobilesKeepLineUps settings events event =
    (mobile : ℕ) (s : Connection) → is_beside_relay event ≡ true
    → IsAlone (world settings events) mobile s
    → AreLinedUp (modulus_in settings) (world settings events) mobile s
    → AreLinedUp (modulus_in settings) (actors_after (world settings events) event) mobile s

-- A connection that is lined up remains lined up when a station takes an entry of its outbox.
-- Assumes: the connection's serving channel, and the target to which its mobile was commanded, are
-- active if they are the station's.
abbrev pub StationsKeepLineUps : Parameters → List Event → ℕ → Type 0
StationsKeepLineUps settings events station =
    (mobile : ℕ) (s : Connection) → AreActiveAt station (world settings events) s
    → AreLinedUp (modulus_in settings) (world settings events) mobile s
    → AreLinedUp (modulus_in settings)
    (actors_after (world settings events) (BaseTakes station)) mobile s

-- ---- the switch takes the first entry of its outbox

-- The messages of a connection that an output carries to the switch.
abbrev pub carried_for : ℕ → Out → List (List ℕ)
carried_for number out = map (λ f. f.message) (forwarded (out ∷ []) number)

-- The switch takes the first entry as it was put: the messages of the connection in the entry are
-- appended to those that the switch took.
abbrev pub DeliversFirst : Actors → ℕ → List OutboxEntry → Type 0
DeliversFirst w number [] = Unit {0}
DeliversFirst w number (first ∷ others) =
    taken_of (switch_took (sccp_in first.out.frame) w) number
    ≡ taken_of w number ++ carried_for number first.out

-- A connection that is lined up remains lined up when the switch takes the first entry as it was
-- put.
abbrev pub SwitchKeepsLineUps : Parameters → List Event → Type 0
SwitchKeepsLineUps settings events =
    (mobile : ℕ) (s : Connection) → DeliversFirst (world settings events) s.number
    (outbox_of (world settings events) SWITCH_LINK)
    → AreLinedUp (modulus_in settings) (world settings events) mobile s
    → AreLinedUp (modulus_in settings) (actors_after (world settings events) SwitchTakes) mobile s

-- ---- the link of a station breaks

-- No item follows an RF CHANNEL RELEASE ACK.
abbrev pub EndsLast : List Item → Type 0
EndsLast [] = Unit {0}
EndsLast (released ∷ items) = items ≡ []
EndsLast (brought message ∷ items) = EndsLast items

-- On each old channel of the connection, no item on its way up follows the RF CHANNEL RELEASE ACK.
abbrev pub EndLast : Actors → Connection → Type 0
EndLast w s = AllByRecursion (λ c. EndsLast (coming_up w (place_of c))) (undone s.draining)

-- A connection that is lined up remains lined up when the link of a station breaks. Assumes: on
-- each of its old channels, nothing follows the RF CHANNEL RELEASE ACK.
abbrev pub StationBreaksKeepLineUps : Parameters → List Event → ℕ → Type 0
StationBreaksKeepLineUps settings events station =
    (mobile : ℕ) (s : Connection) → station ≢ SWITCH_LINK → EndLast (world settings events) s
    → AreLinedUp (modulus_in settings) (world settings events) mobile s
    → AreLinedUp (modulus_in settings)
    (actors_after (world settings events) (BaseDown station)) mobile s

-- ---- the controller handles an item, or time passes, for other connections

-- An output that isn't the connection's: it carries none of the connection's messages to the
-- switch, and is no command on the connection's serving channel or on the target of its mobile.
pub record IsForOthers (target : Option Tenure) (s : Connection) (out : Out) : Type 0 where
  pub carries : carried_for s.number out ≡ []
  pub leads : AllByRecursion (λ c. out.to ≡ c.station
      → leading_from_outbox c.number (entry_of target out)
      ≡ []) (s.serving ∷ commanded_channels (commanded_target s.state))

-- The item isn't the connection's: it brings nothing from the connection's channels.
abbrev pub BringsNothing : Connection → RelayItem → Type 0
BringsNothing s item = AllByRecursion (λ c. brings_in (place_of c) item ≡ []) (used_channels s)

-- Neither the first item of the inbox nor an output that the controller puts for the item is the
-- connection's.
abbrev pub IsOthers : Actors → Connection → List RelayItem → Type 0
IsOthers w s [] = Unit {0}
IsOthers w s (item ∷ items) =
    BringsNothing s item × AllByRecursion (IsForOthers (target_in w item.source item.what) s)
    (take item w.controller).outs

abbrev pub RelayLeavesOthers : Parameters → List Event → Type 0
RelayLeavesOthers settings events =
    (mobile : ℕ) (s : Connection) → IsOthers (world settings events) s (world settings events).inbox
    → AreLinedUp (modulus_in settings) (world settings events) mobile s
    → AreLinedUp (modulus_in settings) (actors_after (world settings events) Handle) mobile s

-- A connection that is lined up remains lined up when time passes and no output is the
-- connection's.
abbrev pub TimeLeavesOthers : Parameters → List Event → ℕ → Type 0
TimeLeavesOthers settings events ms =
    (mobile : ℕ) (s : Connection) → AllByRecursion (IsForOthers None s)
    (tick ms (world settings events).controller).outs
    → AreLinedUp (modulus_in settings) (world settings events) mobile s
    → AreLinedUp (modulus_in settings) (actors_after (world settings events) (Tick ms)) mobile s
