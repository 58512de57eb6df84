-- SPDX-License-Identifier: MIT OR Apache-2.0
-- The acknowledgements of a channel that are still due, by the state that the controller has for
-- the channel.
use Rattle.std.specs.Prelude.{◌≡◌, ℕ, ◌==◌, Bool, true, false, if◌then◌else◌}
use Rattle.std.specs.Prelude.{List, [], ◌∷◌, ◌++◌}
use Rattle.world_laws.specs.Prelude.{Place, Out, Free, Rsl, rsl_in}
use Rattle.controller_model.specs.declared.channel_state.ChannelState.{ChannelState}
use Rattle.controller_model.specs.declared.channel_state.ChannelState.TheVariants.{InUse, Releasing}
use Rattle.world_model.specs.Pipe.{acknowledgement, is_active_then}
use Rattle.world_laws.specs.Acknowledged.{is_release_ack, NoneReleases, ReleasesLast}
use Rattle.world_laws.specs.TakingTurns.{TakesTurns}
use Rattle.world_model.specs.OwnerLines.{is_in_use}

-- The acknowledgements of a channel that are due for these outputs to its station; `active` says
-- whether the channel is active before the outputs.
abbrev pub due_for : Place → Bool → List Out → List Rsl
due_for at active [] = []
due_for at active (out ∷ outs) =
    if out.to == at.station then acknowledgement at.number active (rsl_in out.frame)
    ++ due_for at (is_active_then at.number active (rsl_in out.frame)) outs
    else due_for at active outs

-- The last message is an RF CHANNEL RELEASE ACK, and no other message is.
abbrev pub EndsWithRelease : List Rsl → Type 0
EndsWithRelease [] = ⊥
EndsWithRelease (m ∷ []) = is_release_ack m ≡ true
EndsWithRelease (m ∷ ms) = (is_release_ack m ≡ false) × EndsWithRelease ms

abbrev pub IsDueIn : ChannelState → List Rsl → Type 0
IsDueIn (Releasing n) messages = EndsWithRelease messages
IsDueIn _ messages = NoneReleases messages

-- The acknowledgements due still follow the channel's state after orders that take turns. Before
-- the orders the channel counts as active exactly if it is in use.
abbrev pub OrdersKeepDue : Place → Type 0
OrdersKeepDue at =
    (before after : ChannelState) (messages : List Rsl) (outs : List Out)
    → TakesTurns at before outs after → IsDueIn before messages
    → IsDueIn after (messages ++ due_for at (is_in_use before) outs)

-- The channel's state once the controller took an acknowledgement. An RF CHANNEL RELEASE ACK frees
-- a releasing channel.
abbrev pub after_ack : Bool → ChannelState → ChannelState
after_ack true (Releasing n) = Free
after_ack releases state = state

abbrev pub TakingKeepsDue : Type 0
TakingKeepsDue =
    (state : ChannelState) (m : Rsl) (messages : List Rsl) → IsDueIn state (m ∷ messages)
    → IsDueIn (after_ack (is_release_ack m) state) messages

-- The channel's state shows something of `up`, the first part of the acknowledgements due. While
-- the channel is in use, `up` has no RF CHANNEL RELEASE ACK; while the channel is releasing, no
-- acknowledgement in `up` follows an RF CHANNEL RELEASE ACK.
pub record DueShows (n : ℕ) (up rest : List Rsl) : Type 0 where
  pub using : IsDueIn (InUse n) (up ++ rest) → NoneReleases up
  pub releasing : IsDueIn (Releasing n) (up ++ rest) → ReleasesLast up

pub record KeepsDue (at : Place) : Type 0 where
  pub orders : OrdersKeepDue at
  pub taking : TakingKeepsDue
  pub tells : (n : ℕ) (up rest : List Rsl) → DueShows n up rest
