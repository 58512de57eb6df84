-- SPDX-License-Identifier: MIT OR Apache-2.0
-- The controller handles a frame that says an input to a connection.
use Rattle.std.specs.Prelude.{◌≡◌, ℕ, true, List, [], ◌∷◌, Option}
use Rattle.std.specs.List.{AllByRecursion}
use Rattle.world_laws.specs.Prelude.{Channel, SWITCH_LINK, Input, State, Live, Connection, Row}
use Rattle.world_laws.specs.Prelude.{target_in, undone, place_of, RelayItem}
use Rattle.world_laws.specs.Prelude.{Parameters, Event, Handle, actors_after, Actors, is_up}
use Rattle.world_laws.specs.Prelude.{modulus_in}
use Rattle.world_laws.specs.Runs.{world}
use Rattle.conn_rules.specs.declared.state.Stage.TheVariants.{Preparing}
use Rattle.world_laws.specs.LineUp.Places.{messages_in}
use Rattle.world_laws.specs.Acknowledged.{acknowledgements_up, NoneReleases, ReleasesLast}
use Rattle.world_laws.specs.ComingUp.{coming_up}
use Rattle.world_laws.specs.GoingDown.{going_down}
use Rattle.world_laws.specs.OwnFrame.{IsFrameFor}
use Rattle.world_laws.specs.OwnHandle.{IsPutAsRead}
use Rattle.world_laws.specs.OwnItem.{IsBesideTarget}
use Rattle.world_laws.specs.KeptLineUps.{AreLinedUp}

-- The target of a change of channel to which the mobile isn't commanded yet.
abbrev pub awaited_in : State → List Channel
awaited_in (Live reference (Preparing target)) = target.channel ∷ []
awaited_in _ = []

-- Conditions on the connection's channels and on the link of the switch, under which the connection
-- remains lined up.
pub record IsReadyFor (w : Actors) (s : Connection) (input : Input) : Type 0 where
  pub switch_up : is_up w SWITCH_LINK ≡ true
  -- no acknowledgement on its way from an old channel follows the RF CHANNEL RELEASE ACK, and no
  -- other channel has an RF CHANNEL RELEASE ACK on its way
  pub old_end : AllByRecursion (λ c. ReleasesLast (acknowledgements_up w (place_of c)))
      (undone s.draining)
  pub others_continue : AllByRecursion (λ c. NoneReleases (acknowledgements_up w (place_of c)))
      (s.serving ∷ target_in s.state)
  -- no message is on its way up from a target before the COMMAND, or after the mobile returned
  pub silent : IsBesideTarget input
      → AllByRecursion (λ c. messages_in (coming_up w (place_of c)) ≡ []) (target_in s.state)
  -- no COMMAND is on its way to a target that the mobile isn't commanded to yet
  pub uncommanded : AllByRecursion (λ c. going_down w (place_of c) ≡ []) (awaited_in s.state)

-- A connection that is lined up remains lined up when the controller handles the first item of the
-- inbox, a frame for this connection. Assumes: the connection is ready, and the outputs of the row
-- are read as they were put.
abbrev pub FramesKeepLineUps : Parameters → List Event → Type 0
FramesKeepLineUps settings events =
    (mobile : ℕ) (s : Connection) (item : RelayItem) (items : List RelayItem) (input : Input)
    (offer : Option Channel) (r : Row) → (world settings events).inbox ≡ item ∷ items
    → IsFrameFor (world settings events) item s input offer r
    → IsReadyFor (world settings events) s input → IsPutAsRead s r
    → AreLinedUp (modulus_in settings) (world settings events) mobile s
    → AreLinedUp (modulus_in settings) (actors_after (world settings events) Handle) mobile r.next
