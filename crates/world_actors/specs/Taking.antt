-- SPDX-License-Identifier: MIT OR Apache-2.0
-- Whether a station can take a line of its outbox.
use Rattle.std.specs.Prelude.{ℕ, ◌==◌, not, Bool, false, Option, Some, None}
use Rattle.controller_model.specs.Controller.{place_at}
use Rattle.world_ends.specs.Activations.{activated_by}
use Rattle.world_model.specs.declared.limits.TheConstants.{MAX_TENURE}
use Rattle.world_model.specs.declared.line.OutboxEntry.{OutboxEntry}
use Rattle.world_model.specs.Stations.{rsl_in}
use Rattle.world_model.specs.World.{Actors, spot_at}

-- the channel that is to be activated, if there is one, has had its last tenure
abbrev pub is_spent : Actors → ℕ → Option ℕ → Bool
is_spent w station None = false
is_spent w station (Some channel) = (spot_at w (place_at station channel)).tenure == MAX_TENURE

-- the outbox has a first line, and this line doesn't activate a channel that has had its last
-- tenure
abbrev pub can_take : Actors → ℕ → Option OutboxEntry → Bool
can_take w station None = false
can_take w station (Some entry) = not (is_spent w station (activated_by (rsl_in entry.out.frame)))
