-- SPDX-License-Identifier: MIT OR Apache-2.0
-- The orders that the controller gives for a channel are by turns activations and releases.
use Rattle.std.specs.Prelude.{◌≡◌, ◌≢◌, ℕ, ◌==◌, true, if◌then◌else◌, List}
use Rattle.std.specs.Prelude.{[], ◌∷◌, Option, Some}
use Rattle.std.specs.Prelude.{None}
use Rattle.std.specs.List.{AllByRecursion}
use Rattle.world_laws.specs.Prelude.{Place, Out, word_in, IsOctetStep, Free, Word, OnChannel}
use Rattle.world_laws.specs.Prelude.{channel_state, Rsl, AreAllowed, Parameters}
use Rattle.world_laws.specs.Prelude.{rsl_in, same_place}
use Rattle.conn_rules.specs.declared.input.Input.TheVariants as inputs
use Rattle.controller_model.specs.declared.channel_state.ChannelState.{ChannelState}
use Rattle.controller_model.specs.declared.channel_state.ChannelState.TheVariants.{InUse, Releasing}
use Rattle.controller_model.specs.declared.step.Step.{Step}
use Rattle.controller_model.specs.declared.step.Step.TheVariants.{Take, Tick}
use Rattle.controller_model.specs.Controller.{is_up}
use Rattle.controller_model.specs.Life.{life, step}
use Rattle.ruled_relay.specs.declared.item.What.TheVariants as whats
use Rattle.rsl_codec.specs.declared.rsl.Rsl.TheVariants.{ChannelActivation, RfChannelRelease}
use Rattle.world_laws.specs.Refusals.{RefusesNone}

pub data Order : Type 0 where
  activates : Order
  releases : Order

abbrev pub order_by : ℕ → Option Rsl → Option Order
order_by channel (Some (ChannelActivation a)) =
    if a.channel == channel then Some activates else None
order_by channel (Some (RfChannelRelease number)) =
    if number == channel then Some releases else None
order_by channel _ = None

-- The order that an output gives for a channel, if any.
abbrev pub order_in : Place → Out → Option Order
order_in at out = if out.to == at.station then order_by at.number (rsl_in out.frame) else None

-- An order fits the channel's state before it: an activation fits a free channel, and a release a
-- channel in use. Without an order the state doesn't change.
abbrev pub Turns : Option Order → ChannelState → ChannelState → Type 0
Turns None before after = after ≡ before
Turns (Some activates) before after = (before ≡ Free) × (n : ℕ) × (after ≡ InUse n)
Turns (Some releases) before after = (n : ℕ) × (before ≡ InUse n) × (after ≡ Releasing n)

-- The orders among the outputs take turns and lead the channel from the first state to the last.
abbrev pub TakesTurns : Place → ChannelState → List Out → ChannelState → Type 0
TakesTurns at before [] after = after ≡ before
TakesTurns at before (out ∷ outs) after =
    (between : ChannelState) × Turns (order_in at out) before between
    × TakesTurns at between outs after

-- The channel's state before the orders of a step. If the step takes the RF CHANNEL RELEASE ACK of
-- a releasing channel, the channel is free first.
abbrev pub freed_by : Place → Word → ChannelState → ChannelState
freed_by at (OnChannel place (inputs.ReleaseAck acknowledged)) (Releasing n) =
    if same_place place at then Free else Releasing n
freed_by at word state = state

-- The step isn't a break of the link of the channel's station.
abbrev pub Spares : Place → Step → Type 0
Spares at (Take item) = item.what ≡ whats.Down → at.station ≢ item.source
Spares at (Tick ms) = Unit {0}

-- The orders of a step for a channel take turns while the link of the channel's station is up.
-- Assumes: allowed settings; the controller took only octets; stations refuse nothing.
abbrev pub OrdersTakeTurns : Parameters → List Step → Step → Type 0
OrdersTakeTurns p steps s =
    (at : Place) → AreAllowed p → AllByRecursion IsOctetStep steps → IsOctetStep s
    → RefusesNone (word_in s) → is_up (life p steps).next at.station ≡ true → Spares at s
    → TakesTurns at (freed_by at (word_in s) (channel_state (life p steps).next at))
    (step (life p steps).next s).outs (channel_state (step (life p steps).next s).next at)
