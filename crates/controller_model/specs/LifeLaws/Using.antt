-- SPDX-License-Identifier: MIT OR Apache-2.0
-- The connection that uses each channel.
use Rattle.std.specs.Prelude.{◌≡◌, ◌↔◌, ℕ, ◌≤◌, ◌<◌, false, List, [], map}
use Rattle.std.specs.Prelude.{Contains, Option, Some}
use Rattle.std.specs.Prelude.{None}
use Rattle.controller_model.specs.Prelude.{Place, SWITCH_LINK, Connection}
use Rattle.conn_rules.specs.Roles.{channels_in_use}
use Rattle.controller_model.specs.LifeLaws.History.{connection_of}
use Rattle.controller_model.specs.declared.channel_state.ChannelState.TheVariants.{Free, InUse}
use Rattle.controller_model.specs.declared.channel_state.ChannelState.TheVariants.{Releasing}
use Rattle.controller_model.specs.Controller.{Controller, channel_state, is_up, place_at, place_of}

-- the places of the channels that a connection uses: the serving channel and the target while the
-- connection is open
abbrev pub used_places : Option Connection → List Place
used_places None = []
used_places (Some s) = map place_of (channels_in_use s)

-- The use of a controller's channels.
pub record AreUsed (c : Controller) : Type 0 where
  -- a channel is in use by a connection exactly if the connection uses it
  pub using : (at : Place) (number : ℕ)
      → channel_state c at ≡ InUse number ↔ Contains (used_places (connection_of c number)) at
  -- no two connections use the same channel
  pub one : (at : Place) (number other : ℕ) → Contains (used_places (connection_of c number)) at
      → Contains (used_places (connection_of c other)) at → number ≡ other
  -- a releasing channel belonged to a connection, which may be gone
  pub releasing : (at : Place) (number : ℕ)
      → channel_state c at ≡ Releasing number → (1 ≤ number) × (number < c.next_number)
  -- the channels of a link that is down or doesn't exist are free
  pub down : (at : Place) → is_up c at.station ≡ false → channel_state c at ≡ Free
  -- the channels of the switch's link are free
  pub switch : (number : ℕ) → channel_state c (place_at SWITCH_LINK number) ≡ Free
