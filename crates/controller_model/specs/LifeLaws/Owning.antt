-- SPDX-License-Identifier: MIT OR Apache-2.0
-- The channels that a connection owns.
use Rattle.std.specs.Prelude.{◌≡◌, ℕ, Bool, true, false, List, ◌∷◌, ◌++◌}
use Rattle.std.specs.Prelude.{slice_get, unwrap_or}
use Rattle.std.specs.Prelude.{Option, Some, None}
use Rattle.std.specs.List.{AllByRecursion}
use Rattle.controller_model.specs.Prelude.{Channel, Connection, IsOpen}
use Rattle.conn_rules.specs.Roles.{Roles, roles_of, target_channels}
use Rattle.conn_rules.specs.Streams.{AreApart, undone}
use Rattle.controller_model.specs.declared.channel_state.ChannelState.{ChannelState}
use Rattle.controller_model.specs.declared.channel_state.ChannelState.TheVariants.{InUse, Releasing}
use Rattle.controller_model.specs.Controller.{place_of, state_in}

-- these channels are in this state
abbrev pub AreIn : List (List ChannelState) → ChannelState → List Channel → Type 0
AreIn channels state cs = AllByRecursion (λ c. state_in channels (place_of c) ≡ state) cs

abbrev pub is_link_up : List Bool → ℕ → Bool
is_link_up links source = unwrap_or (slice_get links source) false

abbrev pub used_in : Roles → List Channel
used_in roles = undone roles.draining ++ roles.serving ∷ target_channels roles.target

-- The serving channel and the target are in use by the connection, and its old channels are
-- releasing. All these channels are different, and the links of their stations are up.
pub record Owns (channels : List (List ChannelState)) (links : List Bool) (number : ℕ)
    (roles : Roles) : Type 0 where
  pub using : AreIn channels (InUse number) (roles.serving ∷ target_channels roles.target)
  pub releasing : AreIn channels (Releasing number) (undone roles.draining)
  pub apart : AreApart (used_in roles)
  pub linked : AllByRecursion (λ c. is_link_up links c.station ≡ true) (used_in roles)

-- a connection owns its channels while it is open
abbrev pub OwnsOpen : List (List ChannelState) → List Bool → ℕ → Option Connection → Type 0
OwnsOpen channels links number None = Unit {0}
OwnsOpen channels links number (Some s) = IsOpen s.state → Owns channels links number (roles_of s)

-- a connection exists only while the switch's link is up
abbrev pub LinkedOf : Bool → Option Connection → Type 0
LinkedOf up None = Unit {0}
LinkedOf up (Some s) = up ≡ true
