-- SPDX-License-Identifier: MIT OR Apache-2.0
-- Only the mobile of an open connection is on the connection's channels.
use Rattle.std.specs.Prelude.{◌≡◌, ℕ, true, List}
use Rattle.std.specs.List.{AllByRecursion}
use Rattle.world_laws.specs.Prelude.{Channel, Connection, used_channels, place_of, AreAllowed}
use Rattle.world_laws.specs.Prelude.{Parameters, Event, Tenure}
use Rattle.world_laws.specs.Prelude.{Actors, is_active_at, is_up, new_actors, tenure_at}
use Rattle.world_laws.specs.Runs.{world}
use Rattle.world_model.specs.OwnerLines.{tenure_behind}
use Rattle.world_model.specs.Owners.{owner_in}
use Rattle.world_laws.specs.OthersFrame.{TookOctets, IsHad}
use Rattle.world_laws.specs.Seated.{IsAlone}

-- While the link of the channel's station is up, the mobile owns the last tenure of the channel,
-- waiting entries included. If the channel is active, this last tenure is the present one.
pub record IsMobiles (owner : Tenure → ℕ) (w : Actors) (mobile : ℕ) (c : Channel) : Type 0 where
  pub last : is_up w c.station ≡ true → owner (tenure_behind w (place_of c)) ≡ mobile
  pub present : is_up w c.station ≡ true → is_active_at w (place_of c) ≡ true
      → tenure_behind w (place_of c) ≡ tenure_at w (place_of c)

-- Whatever events happened, each channel that an open connection uses is that of the connection's
-- mobile.
abbrev pub ChannelsAreMobiles : Parameters → List Event → Type 0
ChannelsAreMobiles settings events =
    (s : Connection) → AreAllowed settings → TookOctets settings events
    → IsHad (world settings events) s
    → AllByRecursion (IsMobiles (owner_in (new_actors settings) events)
    (world settings events) s.request.access) (used_channels s)

-- No other mobile is on a channel that an open connection uses.
abbrev pub ConnectionsAreAlone : Parameters → List Event → Type 0
ConnectionsAreAlone settings events =
    (s : Connection) → AreAllowed settings → TookOctets settings events
    → IsHad (world settings events) s
    → IsAlone (world settings events) s.request.access s
