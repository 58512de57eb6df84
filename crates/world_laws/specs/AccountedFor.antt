-- SPDX-License-Identifier: MIT OR Apache-2.0
-- The outcomes of a connection in a run: the connection lives, lined up with its mobile; it ended
-- in order; or the switch never hears of it.
use Rattle.std.specs.Prelude.{◌≡◌, ◌⊎◌, ℕ, ◌≤◌, ◌<◌, ◌==◌, false}
use Rattle.std.specs.Prelude.{if◌then◌else◌, List, [], ◌∷◌}
use Rattle.std.specs.Prelude.{find, Option, Some, None}
use Rattle.std.specs.List.{flat_map, AllByRecursion}
use Rattle.world_laws.specs.Prelude.{Place, State, WaitConfirm, Closed, Removed, Connection}
use Rattle.world_laws.specs.Prelude.{target_in, undone, used_channels, IsThere}
use Rattle.world_laws.specs.Prelude.{connection_of, place_of, sapi_of, Rsl, Actors, Mobile}
use Rattle.world_laws.specs.LineUp.Places.{Item, messages_in, controls_in}
use Rattle.rsl_codec.specs.declared.rsl.Rsl.TheVariants.{EstablishIndication}
use Rattle.world_laws.specs.Acknowledged.{acknowledgements_up, messages_up, NoneReleases}
use Rattle.world_laws.specs.Acknowledged.{ReleasesLast}
use Rattle.world_laws.specs.ComingUp.{coming_up, of_establishment}
use Rattle.world_laws.specs.Ended.{HasEnded}
use Rattle.world_laws.specs.GoingDown.{going_down}
use Rattle.world_laws.specs.Handled.{awaited_in}
use Rattle.world_laws.specs.LineUps.{commanded_target, is_of_peer, waiting_of}
use Rattle.world_laws.specs.OthersFrame.{IsHad}
use Rattle.world_laws.specs.OwnFrame.{IsRequested}
use Rattle.world_laws.specs.Seated.{commanded_channels}
use Rattle.world_laws.specs.KeptLineUps.{AreLinedUp}

-- ---- what is on its way on a connection's channels

-- The acknowledgements on their way agree with the roles of the connection's channels: no
-- acknowledgement of an old channel follows its RF CHANNEL RELEASE ACK, and no other channel has an
-- RF CHANNEL RELEASE ACK on its way.
pub record AcksAgree (w : Actors) (s : Connection) : Type 0 where
  pub old_end : AllByRecursion (λ c. ReleasesLast (acknowledgements_up w (place_of c)))
      (undone s.draining)
  pub others_continue : AllByRecursion (λ c. NoneReleases (acknowledgements_up w (place_of c)))
      (s.serving ∷ target_in s.state)

-- If there are messages among these items, COMPLETE is one of them.
abbrev pub IsLed : List Item → Type 0
IsLed items = (messages_in items ≡ []) ⊎ (1 ≤ controls_in items)

-- The target of a change of channel is fresh. Before the COMMAND, no message is on its way up from
-- the target, and no command is on its way down there. From the COMMAND on, the messages on their
-- way up from the target include COMPLETE, if there are any.
pub record TargetIsFresh (w : Actors) (s : Connection) : Type 0 where
  pub silent : AllByRecursion (λ c. messages_in (coming_up w (place_of c))
      ≡ []) (awaited_in s.state)
  pub uncommanded : AllByRecursion (λ c. going_down w (place_of c) ≡ []) (awaited_in s.state)
  pub led : AllByRecursion (λ c. IsLed (coming_up w (place_of c)))
      (commanded_channels (commanded_target s.state))

-- ---- the initial message arrives once

abbrev pub initial_by : ℕ → Rsl → List (List ℕ)
initial_by channel (EstablishIndication e) =
    if e.channel == channel then messages_in (of_establishment (sapi_of e.link) e.l3) else []
initial_by channel _ = []

-- the initial messages on their way up from a channel
abbrev pub initials_up : Actors → Place → List (List ℕ)
initials_up w at = flat_map (initial_by at.number) (messages_up w at.station)

-- The mobile sent its initial message, and no initial message is on its way from the connection's
-- channels.
pub record HasOpened (w : Actors) (p : Mobile) (s : Connection) : Type 0 where
  pub opened : p.opens ≡ false
  pub none_arrives : AllByRecursion (λ c. initials_up w (place_of c) ≡ []) (used_channels s)

-- ---- the outcomes of a connection

-- The connection is open, asked the switch for its connection, and is lined up with the mobile that
-- asked for it. The target of its change of channel is fresh, and no initial message is on its way.
pub record IsOpenAndLinedUp (m : ℕ) (w : Actors) (mobile : ℕ) (s : Connection) : Type 0 where
  pub had : IsHad w s
  pub requested : IsRequested s.state
  pub asked : s.request.access ≡ mobile
  pub lined : AreLinedUp m w mobile s
  pub fresh : TargetIsFresh w s
  pub opened : HasOpened w lined.one s

-- The state isn't `Live`, and no row puts CR from this state.
abbrev pub IsBeyondAsking : State → Type 0
IsBeyondAsking WaitConfirm = Unit {0}
IsBeyondAsking (Closed clearing) = Unit {0}
IsBeyondAsking Removed = Unit {0}
IsBeyondAsking _ = ⊥

abbrev pub IsUnconfirmed : Option Connection → Type 0
IsUnconfirmed None = Unit {0}
IsUnconfirmed (Some s) = IsBeyondAsking s.state

-- The switch never hears of the connection of this number: the switch has no connection for it, no
-- message of it waits for the switch, and none will be put.
pub record IsUnknownForGood (w : Actors) (number : ℕ) : Type 0 where
  pub past : number < w.controller.next_number
  pub none_taken : find (is_of_peer number) w.switch.connections ≡ None
  pub none_waits : waiting_of w number ≡ []
  pub unconfirmed : IsUnconfirmed (connection_of w.controller number)

-- The connection of this number lives, or ended in order, or the switch never hears of it.
pub data IsAccountedFor (m : ℕ) (w : Actors) (mobile number : ℕ) : Type 0 where
  lined_up : (s : Connection) → s.number ≡ number → IsOpenAndLinedUp m w mobile s
      → IsAccountedFor m w mobile number
  ended : number < w.controller.next_number → (IsThere (connection_of w.controller number) → ⊥)
      → HasEnded m w mobile number → IsAccountedFor m w mobile number
  unknown_for_good : IsUnknownForGood w number → IsAccountedFor m w mobile number
