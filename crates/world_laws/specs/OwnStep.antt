-- SPDX-License-Identifier: MIT OR Apache-2.0
-- How a row changes the line-up of its connection, by the roles of the connection's channels.
use Rattle.std.specs.Prelude.{◌≡◌, ℕ, ◌+◌, ◌≤◌, ◌&&◌, ◌||◌, not, Bool}
use Rattle.std.specs.Prelude.{true, false, if◌then◌else◌}
use Rattle.std.specs.Prelude.{List, [], ◌∷◌, Option, Some, None}
use Rattle.world_laws.specs.Prelude.{Drain, State, Target, Connection, place_of}
use Rattle.world_laws.specs.LineUp.ChangeStep.{after_complete}
use Rattle.world_laws.specs.LineUp.Places.{Item, Seat, messages_in, controls_in, texts_in}
use Rattle.world_laws.specs.LineUps.{Arriving, UpLinks, is_ended, is_opening, commanded_target}

-- The row doesn't put CR: a connection that waits for its initial message before the row waits for
-- it after the row.
abbrev pub StillAwaits : State → State → Type 0
StillAwaits state next = is_opening state ≡ true → is_opening next ≡ true

-- Whether something of an old channel may be missing: the link of its station is down, and no RF
-- CHANNEL RELEASE ACK of the channel was taken or is on its way.
abbrev pub lacks : Arriving → UpLinks → Drain → Bool
lacks arriving up d =
    if d.is_done then false else (not (up d.channel.station)
    && not (is_ended (arriving (place_of d.channel))))

abbrev pub some_lacks : Arriving → UpLinks → List Drain → Bool
some_lacks arriving up [] = false
some_lacks arriving up (d ∷ ds) = lacks arriving up d || some_lacks arriving up ds

-- ---- what a row does

-- If something of an old channel may be missing before the row, something of an old channel may be
-- missing after it.
abbrev pub Covers : Arriving → Arriving → UpLinks → Connection → Connection → Type 0
Covers before after up s next =
    some_lacks after up next.draining ≡ false → some_lacks before up s.draining ≡ false

-- What is on its way up from the target.
abbrev pub target_items : Arriving → Option Target → List Item
target_items arriving None = []
target_items arriving (Some t) = arriving (place_of t.channel)

pub data OwnStep (before after : Arriving) (up : UpLinks) (s next : Connection)
    (commands commands2 : ℕ) : Seat → Seat → Type 0 where
  -- the channels keep their roles, or old ones leave
  unchanged : {seat : Seat} → next.serving ≡ s.serving
      → commanded_target next.state ≡ commanded_target s.state
      → controls_in (after (place_of s.serving)) ≤ controls_in (before (place_of s.serving))
      → texts_in (target_items after (commanded_target s.state))
      ≤ texts_in (target_items before (commanded_target s.state))
      → controls_in (target_items after (commanded_target s.state))
      ≤ controls_in (target_items before (commanded_target s.state))
      → commands2 ≤ commands → Covers before after up s next
      → OwnStep before after up s next commands commands2 seat seat
  -- the COMMAND is put; no message is on its way up from the target
  tells : {seat : Seat} → next.serving ≡ s.serving → commanded_target s.state ≡ None → (t : Target)
      → commanded_target next.state ≡ Some t
      → controls_in (after (place_of s.serving)) ≤ controls_in (before (place_of s.serving))
      → messages_in (after (place_of t.channel)) ≡ []
      → commands2 ≤ 1 → Covers before after up s next
      → OwnStep before after up s next commands commands2 seat seat
  -- COMPLETE was received: the target becomes the serving channel
  completes : {seat : Seat} → (t : Target) → commanded_target s.state ≡ Some t
      → commanded_target next.state ≡ None → next.serving ≡ t.channel
      → controls_in (after (place_of t.channel)) + 1 ≤ controls_in (before (place_of t.channel))
      → commands2 ≤ commands
      → (some_lacks after up next.draining ≡ false
      → (some_lacks before up s.draining ≡ false) × (not (up s.serving.station) ≡ false))
      → OwnStep before after up s next commands commands2 seat (after_complete seat)
  -- FAILURE was received: the target is given up
  reverts : {seat : Seat} → (t : Target) → commanded_target s.state ≡ Some t
      → commanded_target next.state ≡ None → next.serving ≡ s.serving
      → controls_in (after (place_of s.serving)) + 1 ≤ controls_in (before (place_of s.serving))
      → commands2 ≤ commands
      → Covers before after up s next → OwnStep before after up s next commands commands2 seat seat
