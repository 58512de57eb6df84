-- SPDX-License-Identifier: MIT OR Apache-2.0
-- The serving channel of a connection that is coming is quiet until the connection asks the switch.
use Rattle.std.specs.Prelude.{◌≡◌, ℕ, ◌==◌, Bool, true, false, List, [], ◌∷◌}
use Rattle.std.specs.Prelude.{◌++◌, Option, Some}
use Rattle.std.specs.Prelude.{None}
use Rattle.std.specs.List.{AllByRecursion}
use Rattle.world_laws.specs.Prelude.{Place, Connection, connection_of, place_of, Rsl, AreAllowed}
use Rattle.world_laws.specs.Prelude.{Parameters, Event, OutboxEntry}
use Rattle.world_laws.specs.Prelude.{rsl_in, Actors, is_active_at, outbox_of, spot_at}
use Rattle.world_laws.specs.Runs.{world}
use Rattle.rsl_codec.specs.declared.radio_link.Data.{Data as DataMessage}
use Rattle.rsl_codec.specs.declared.rsl.Rsl.TheVariants.{ChannelActivation, DataRequest}
use Rattle.world_laws.specs.OthersFrame.{TookOctets, IsHad}
use Rattle.world_laws.specs.Access.Arriving.{LetsNoneGo}
use Rattle.world_laws.specs.References.Taken.{IsEarlyIn}

-- The message isn't a DATA REQUEST for the channel.
abbrev pub NoDataOn : ℕ → Option Rsl → Type 0
NoDataOn channel o = (d : DataMessage) → o ≡ Some (DataRequest d) → d.channel ≡ channel → ⊥

abbrev pub NoDataEntry : ℕ → OutboxEntry → Type 0
NoDataEntry channel entry = NoDataOn channel (rsl_in entry.out.frame)

abbrev pub activates : ℕ → Option Rsl → Bool
activates channel (Some (ChannelActivation a)) = a.channel == channel
activates channel _ = false

-- An activation of the channel waits, and no DATA REQUEST for the channel follows the first such
-- activation.
pub data Waits (channel : ℕ) : List OutboxEntry → Type 0 where
  here : {entry : OutboxEntry} {entries : List OutboxEntry}
      → activates channel (rsl_in entry.out.frame) ≡ true
      → AllByRecursion (NoDataEntry channel) entries → Waits channel (entry ∷ entries)
  later : {entry : OutboxEntry} {entries : List OutboxEntry}
      → activates channel (rsl_in entry.out.frame) ≡ false → Waits channel entries
      → Waits channel (entry ∷ entries)

-- The channel isn't active and its activation waits; or nothing is in its air, and no DATA REQUEST
-- for it waits.
pub data Quiet (w : Actors) (at : Place) : Type 0 where
  waits : is_active_at w at ≡ false → Waits at.number (outbox_of w at.station) → Quiet w at
  begun : (spot_at w at).air ≡ []
      → AllByRecursion (NoDataEntry at.number) (outbox_of w at.station) → Quiet w at

-- Whatever happened before, the serving channel of a connection remains quiet at an event, if the
-- connection hasn't asked the switch before the event nor after it.
abbrev pub ChannelsRemainQuiet : Parameters → List Event → Event → Type 0
ChannelsRemainQuiet settings events event =
    (old s : Connection) → AreAllowed settings → TookOctets settings (events ++ event ∷ [])
    → IsHad (world settings events) old → IsEarlyIn old.state
    → s.number ≡ old.number → IsHad (world settings (events ++ event ∷ [])) s → IsEarlyIn s.state
    → Quiet (world settings events) (place_of old.serving)
    → Quiet (world settings (events ++ event ∷ [])) (place_of s.serving)

-- The serving channel of a connection that begins at an event is quiet after the event, if the
-- connection hasn't asked the switch.
abbrev pub ChannelsBeginQuiet : Parameters → List Event → Event → Type 0
ChannelsBeginQuiet settings events event =
    (s : Connection) → AreAllowed settings → TookOctets settings (events ++ event ∷ [])
    → connection_of (world settings events).controller s.number ≡ None
    → IsHad (world settings (events ++ event ∷ [])) s → IsEarlyIn s.state
    → Quiet (world settings (events ++ event ∷ [])) (place_of s.serving)

-- No CHANNEL RELEASE is in the air of a serving channel that is quiet.
abbrev pub QuietLetsNoneGo : Parameters → List Event → Type 0
QuietLetsNoneGo settings events =
    (s : Connection) → AreAllowed settings → TookOctets settings events
    → IsHad (world settings events) s → Quiet (world settings events) (place_of s.serving)
    → AllByRecursion LetsNoneGo (spot_at (world settings events) (place_of s.serving)).air
