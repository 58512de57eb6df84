-- SPDX-License-Identifier: MIT OR Apache-2.0
-- A row of the table keeps its connection's line-up.
use Rattle.std.specs.Prelude.{◌≡◌, ℕ, ◌+◌, List, [], ◌∷◌, ◌++◌, Option}
use Rattle.std.specs.Prelude.{Some}
use Rattle.world_laws.specs.Prelude.{Channel, Input, WaitConfirm, Connection, IsCarried}
use Rattle.world_laws.specs.Prelude.{IsValid, Row, AreApart, IsOpen, relayed}
use Rattle.world_laws.specs.Prelude.{used_channels, row_of, Zero, place_of, to_be_taken, RunsToEnd}
use Rattle.world_laws.specs.Prelude.{DataLinkState}
use Rattle.conn_rules.specs.Streams.{Ends, Future, from_input}
use Rattle.hold_queue.specs.ChainState.{empty_tenure}
use Rattle.world_laws.specs.LineUp.Alive.{Alive}
use Rattle.world_laws.specs.LineUp.Places.{Seat, LineUp, flow, messages_in, controls_of}
use Rattle.world_laws.specs.LineUp.Places.{controls_in}
use Rattle.world_laws.specs.LineUp.Places.Seat.{on_serving}
use Rattle.world_laws.specs.LineUps.{old_tenures, serving_hold, serving_tenure, commanded_target}
use Rattle.world_laws.specs.LineUps.{Arriving, UpLinks, target_tenure, assembled}
use Rattle.world_laws.specs.OwnStep.{OwnStep, StillAwaits}
use Rattle.world_laws.specs.ToArrive.{AreLayer3, IsFutureOf}

-- The line-up of a mobile over a connection's channels, given what is on its way up from each
-- channel.
abbrev pub over : Arriving → UpLinks → Connection → List (List ℕ) → DataLinkState
    → Seat → ℕ → List (List ℕ) → List (List ℕ) → LineUp
over arriving up s sent link seat commands out taken =
    assembled sent link seat s.state commands (old_tenures arriving up s.draining s.up.tenures)
    (serving_tenure arriving up s.serving (serving_hold s.draining s.up.tenures))
    (target_tenure arriving up seat (commanded_target s.state)) out taken

-- The row fits an input and leaves the connection open. Before the row, the message of the input
-- was the first on its way up. The row changes the roles of channels by a step that the lists of
-- what is on its way allow. The row isn't the one that puts CR, for which see `Opens`.
pub record DoesRow (s : Connection) (input : Input) (offer : Option Channel) (r : Row)
    (before after : Arriving) (up : UpLinks)
    (commands commands2 : ℕ) (seat seat2 : Seat) : Type 0 where
  pub fits : row_of s input offer ≡ Some r
  pub remains_open : IsOpen r.next.state
  pub awaits : StillAwaits s.state r.next.state
  pub valid : IsValid s
  pub carried : IsCarried input
  pub apart : AreApart (used_channels s)
  pub future : Future
  pub ends : Ends future s.state input
  pub was : IsFutureOf (from_input Zero input future) before up s
  pub now : IsFutureOf future after up r.next
  pub whole : AreLayer3 (relayed Zero r.outs)
  pub step : OwnStep before after up s r.next commands commands2 seat seat2

-- The row keeps the connection alive, and the messages that it relays join those that wait for the
-- switch.
abbrev pub RowKeepsLineUp : ℕ → Connection → Input → Option Channel → Row → Type 0
RowKeepsLineUp m s input offer r =
    (before after : Arriving) (up : UpLinks) (commands commands2 : ℕ) (seat seat2 : Seat)
    (sent : List (List ℕ)) (link : DataLinkState) (out taken : List (List ℕ))
    → DoesRow s input offer r before after up commands commands2 seat seat2
    → Alive m (over before up s sent link seat commands out taken)
    → Alive m (over after up r.next sent link seat2 commands2
    (out ++ flow (relayed Zero r.outs)) taken)

-- The connection after the row that puts CR with the initial message. Nothing is held. The mobile's
-- link continues after the initial message and the messages on their way up after it; no COMPLETE
-- or FAILURE is on its way up or in the link.
pub record Opens (m : ℕ) (sent : List (List ℕ)) (link : DataLinkState) (initial : List ℕ)
    (arriving : Arriving) (s : Connection) : Type 0 where
  pub awaits : s.state ≡ WaitConfirm
  pub none_drains : s.draining ≡ []
  pub none_held : s.up.tenures ≡ empty_tenure ∷ []
  pub carries_on : RunsToEnd m sent
      (flow (initial ∷ messages_in (arriving (place_of s.serving)))) link
  pub no_control : controls_in (arriving (place_of s.serving)) + controls_of (to_be_taken link) ≡ 0

-- A connection after the row that puts CR (`Opens`) lives, and its initial message waits for the
-- switch.
abbrev pub OpeningLinesUp : ℕ → Type 0
OpeningLinesUp m =
    (sent : List (List ℕ)) (link : DataLinkState) (initial : List ℕ) (arriving : Arriving)
    (up : UpLinks) (s : Connection) → Opens m sent link initial arriving s
    → Alive m (over arriving up s sent link on_serving 0 (flow (initial ∷ [])) [])
