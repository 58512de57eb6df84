-- SPDX-License-Identifier: MIT OR Apache-2.0
-- The owner of each tenure: the mobile for which its channel was activated.
use Rattle.std.specs.Prelude.{ℕ, ◌&&◌, nat_lt, nat_le, Bool, if◌then◌else◌, unwrap_or}
use Rattle.std.specs.Prelude.{List, []}
use Rattle.std.specs.Prelude.{◌∷◌}
use Rattle.conn_messages.specs.declared.channel.Place.{Place}
use Rattle.controller_model.specs.declared.channel_state.ChannelState.{ChannelState}
use Rattle.controller_model.specs.declared.channel_state.ChannelState.TheVariants.{InUse}
use Rattle.controller_model.specs.Controller.{Controller, channel_state}
use Rattle.world_model.specs.declared.event.Event.{Event}
use Rattle.world_model.specs.declared.seat.Tenure.{Tenure}
use Rattle.world_model.specs.Life.{actors_after}
use Rattle.world_model.specs.OwnerLines.{asker, tenure_behind}
use Rattle.world_model.specs.World.{Actors}

-- the mobile of the connection that uses a channel in this state; 0 if no connection uses it
abbrev pub user_by : Controller → ChannelState → ℕ
user_by c (InUse number) = unwrap_or (asker c number) 0
user_by c _ = 0

abbrev pub user_of : Controller → Place → ℕ
user_of c at = user_by c (channel_state c at)

-- Whether the activation that begins this tenure is put at this event. The number of the channel's
-- last tenure, once the station takes all waiting entries, is then lower before the event, and
-- isn't lower after it.
abbrev pub is_begun : Actors → Event → Tenure → Bool
is_begun w event t =
    nat_lt (tenure_behind w t.at).number t.number
    && nat_le t.number (tenure_behind (actors_after w event) t.at).number

-- The owner of a tenure over these events: the mobile whose connection uses the channel when the
-- activation that begins the tenure is put. 0 if no activation that begins the tenure is put.
abbrev pub owner_in : Actors → List Event → Tenure → ℕ
owner_in w [] t = 0
owner_in w (event ∷ events) t =
    if is_begun w event t then user_of (actors_after w event).controller t.at
    else owner_in (actors_after w event) events t
