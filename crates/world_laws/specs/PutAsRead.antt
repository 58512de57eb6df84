-- SPDX-License-Identifier: MIT OR Apache-2.0
-- The outputs of the row for a frame are read as they were put.
use Rattle.std.specs.Prelude.{◌≡◌, ℕ, List, ◌∷◌, Option}
use Rattle.world_laws.specs.Prelude.{Channel, Input, Connection, Row, RelayItem, AreAllowed}
use Rattle.world_laws.specs.Prelude.{Parameters, Event, Handle, actors_after}
use Rattle.world_laws.specs.Prelude.{modulus_in}
use Rattle.world_laws.specs.Runs.{world}
use Rattle.controller_model.specs.LifeLaws.Sending.{IsOfOctets}
use Rattle.world_laws.specs.Handled.{IsReadyFor}
use Rattle.world_laws.specs.OthersFrame.{TookOctets}
use Rattle.world_laws.specs.OwnFrame.{IsFrameFor}
use Rattle.world_laws.specs.OwnHandle.{IsPutAsRead}
use Rattle.world_laws.specs.KeptLineUps.{AreLinedUp}

-- Whatever happened before, if the controller handles a frame by a row, the outputs of the row are
-- read as they were put. Assumes: allowed settings; the controller took only octets; the frame is
-- octets.
abbrev pub FramesArePutAsRead : Parameters → List Event → Type 0
FramesArePutAsRead settings events =
    (s : Connection) (item : RelayItem) (items : List RelayItem) (input : Input)
    (offer : Option Channel) (r : Row) → AreAllowed settings → TookOctets settings events
    → IsOfOctets item.what
    → (world settings events).inbox ≡ item ∷ items
    → IsFrameFor (world settings events) item s input offer r → IsPutAsRead s r

-- A connection that is lined up remains lined up when the controller handles a frame that says an
-- input to it, if the row leaves the connection open. Assumes: allowed settings; the controller
-- took only octets; the frame is octets; the connection is ready (`IsReadyFor`).
abbrev pub AllowedFramesKeepLineUps : Parameters → List Event → Type 0
AllowedFramesKeepLineUps settings events =
    (mobile : ℕ) (s : Connection) (item : RelayItem) (items : List RelayItem) (input : Input)
    (offer : Option Channel) (r : Row) → AreAllowed settings → TookOctets settings events
    → IsOfOctets item.what
    → (world settings events).inbox ≡ item ∷ items
    → IsFrameFor (world settings events) item s input offer r
    → IsReadyFor (world settings events) s input
    → AreLinedUp (modulus_in settings) (world settings events) mobile s
    → AreLinedUp (modulus_in settings) (actors_after (world settings events) Handle) mobile r.next
