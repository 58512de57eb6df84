-- SPDX-License-Identifier: MIT OR Apache-2.0
-- The commands on their way down on a channel: in the outbox of the channel's station, and among
-- the messages for the air.
use Rattle.std.specs.Prelude.{ℕ, ◌==◌, if◌then◌else◌, List, [], ◌∷◌, ◌++◌}
use Rattle.std.specs.Prelude.{Option, Some, None}
use Rattle.std.specs.List.{flat_map}
use Rattle.world_laws.specs.Prelude.{Place, Rsl, AirMessage, OutboxEntry, Tenure, rsl_in, Actors}
use Rattle.world_laws.specs.Prelude.{spot_at, outbox_of}
use Rattle.rsl_codec.specs.declared.rsl.Rsl.TheVariants.{DataRequest}

-- The message if it leads to a tenure; otherwise the empty list.
abbrev pub leading : List ℕ → Option Tenure → List AirMessage
leading message None = []
leading message (Some target) = record { message = message; target = Some target } ∷ []

abbrev pub leading_from_air : AirMessage → List AirMessage
leading_from_air a = leading a.message a.target

abbrev pub leading_by : ℕ → Option Tenure → Option Rsl → List AirMessage
leading_by channel target (Some (DataRequest d)) =
    if d.channel == channel then leading d.l3 target else []
leading_by channel target _ = []

abbrev pub leading_from_outbox : ℕ → OutboxEntry → List AirMessage
leading_from_outbox channel entry = leading_by channel entry.target (rsl_in entry.out.frame)

-- The commands on their way down on a channel: first those for the air, then those in the outbox.
abbrev pub going_down : Actors → Place → List AirMessage
going_down w at =
    flat_map leading_from_air (spot_at w at).air
    ++ flat_map (leading_from_outbox at.number) (outbox_of w at.station)
