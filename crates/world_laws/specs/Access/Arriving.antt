-- SPDX-License-Identifier: MIT OR Apache-2.0
-- A connection that is coming, at the events of mobiles, stations, links and the switch.
use Rattle.std.specs.Prelude.{◌≡◌, ◌⊎◌, ℕ, Bool, true, false, List, [], find, None}
use Rattle.std.specs.Prelude.{Result, Ok}
use Rattle.std.specs.List.{AllByRecursion}
use Rattle.world_laws.specs.Prelude.{SWITCH_LINK, WaitEstablish, Connection, place_of, RrMessage}
use Rattle.world_laws.specs.Prelude.{RrFault, rr_reading, AreAllowed}
use Rattle.world_laws.specs.Prelude.{Parameters, Event, BaseTakes, Handle, SwitchTakes, Tick}
use Rattle.world_laws.specs.Prelude.{AirMessage, actors_after}
use Rattle.world_laws.specs.Prelude.{Actors, is_station_up, is_up, modulus_in, outbox_of, spot_at}
use Rattle.world_laws.specs.Runs.{world}
use Rattle.conn_rules.specs.Streams.{is_dtap}
use Rattle.dtap_codec.specs.declared.rr.RrMessage.TheVariants.{ChannelRelease}
use Rattle.world_laws.specs.LineUps.{is_of_peer, waiting_of}
use Rattle.world_laws.specs.AccountedFor.{IsUnknownForGood}
use Rattle.world_laws.specs.Seated.{AreActiveAt, IsAlone}
use Rattle.world_laws.specs.KeptLineUps.{AreLinedUp, DeliversFirst}
use Rattle.world_laws.specs.Access.Coming.{IsComing}

-- ---- what else is known of a connection that is coming

-- Whether the message is CHANNEL RELEASE, which dismisses a mobile.
abbrev pub is_release : Result RrMessage RrFault → Bool
is_release (Ok (ChannelRelease cause)) = true
is_release _ = false

abbrev pub LetsNoneGo : AirMessage → Type 0
LetsNoneGo a = is_dtap a.message ≡ false → is_release (rr_reading a.message) ≡ false

pub record IsKnown (m : ℕ) (w : Actors) (mobile : ℕ) (s : Connection) : Type 0 where
  -- no other mobile is on the connection's channel, and no CHANNEL RELEASE is in the air there
  pub alone : IsAlone w mobile s
  pub kept : AllByRecursion LetsNoneGo (spot_at w (place_of s.serving)).air
  -- The connection's channel is active once the activation was acknowledged. Each connection that
  -- is lined up remains lined up when a station takes an entry.
  pub active : (station : ℕ) → is_station_up w station ≡ true → s.state ≡ WaitEstablish
      → AreActiveAt station w s
  pub stations : (station one : ℕ) (t : Connection) → AreActiveAt station w t → AreLinedUp m w one t
      → AreLinedUp m (actors_after w (BaseTakes station)) one t
  -- The switch has no connection for this one, and no message of this one waits for the switch. The
  -- switch takes the first entry as it was put, or never hears of this connection.
  pub none_taken : find (is_of_peer s.number) w.switch.connections ≡ None
  pub none_waits : waiting_of w s.number ≡ []
  pub delivers : is_up w SWITCH_LINK ≡ true
      → DeliversFirst w s.number (outbox_of w SWITCH_LINK)
      ⊎ IsUnknownForGood (actors_after w SwitchTakes) s.number

-- ---- at the events of others

-- Whether the controller neither handles an item nor has time pass at the event.
abbrev pub is_of_others : Event → Bool
is_of_others Handle = false
is_of_others (Tick ms) = false
is_of_others _ = true

-- A connection that is coming, and for which `IsKnown` holds, is still coming after an event of
-- others (`is_of_others`). Assumes: allowed settings.
abbrev pub OthersKeepComing : Parameters → List Event → Event → Type 0
OthersKeepComing settings events event =
    (mobile : ℕ) (s : Connection) → is_of_others event ≡ true → AreAllowed settings
    → IsKnown (modulus_in settings) (world settings events) mobile s
    → IsComing (modulus_in settings) (world settings events) mobile s
    → IsComing (modulus_in settings) (actors_after (world settings events) event) mobile s
