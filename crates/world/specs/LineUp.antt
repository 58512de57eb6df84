-- SPDX-License-Identifier: MIT OR Apache-2.0
-- The invariant of the order, after any list of events: the stage of each connection, and the rise
-- of the places of its mobile's messages, from the switch down to the mobile.
use Rattle.std.specs.Prelude.{◌≡◌, ◌⊎◌, ℕ, ◌≤◌, true, List, ◌++◌, length}
use Rattle.conn_messages.specs.declared.parameters.TheConstants.{SWITCH_LINK}
use Rattle.conn_rules.specs.Connection.{Connection}
use Rattle.dtap_codec.specs.Places.{Rise}
use Rattle.mobile_end.specs.DataLink.{to_be_taken}
use Rattle.world_laws.specs.AccountedFor.{IsUnknownForGood}
use Rattle.world_laws.specs.Order.LineUps.{IsLinedUp}
use Rattle.world_laws.specs.Order.Openers.{first_served}
use Rattle.world_laws.specs.Order.Whereabouts.{Whereabouts}
use Rattle.world_laws.specs.OthersFrame.{IsHad}
use Rattle.world_laws.specs.OwnFrame.{IsRequested}
use Rattle.world_model.specs.declared.event.Event.{Event}
use Rattle.world_model.specs.Life.{actors_after_all}
use Rattle.world_model.specs.World.{Actors, is_up, modulus_in}
use Rattle.world.specs.declared.world.Scene.{Scene}
use Rattle.world.specs.declared.world.Scene.TheVariants.{Fixed, Controlled}

-- each connection number has a stage, and the messages of each live connection are lined up
pub record AreLinedUp (begin : Actors) (events : List Event) : Type 0 where
  -- Each number is still to be given; or its connection is coming, or is open and lined up with the
  -- mobile that it first served, or ended in order; or the switch never hears of its connection.
  pub numbers : (number : ℕ) → 1 ≤ number
      → Whereabouts (modulus_in begin.controller.settings) (actors_after_all begin events)
      (first_served begin events number) number
  -- While the link of the switch is up, each connection that asked the switch is lined up, or the
  -- switch never hears of it. In a connection that is lined up, the places of the messages that may
  -- still arrive begin with the next message or with the last accepted one, and rise by 1 or 0.
  pub places : (s : Connection) → is_up (actors_after_all begin events) SWITCH_LINK ≡ true
      → IsHad (actors_after_all begin events) s → IsRequested s.state
      → IsLinedUp (modulus_in begin.controller.settings) (actors_after_all begin events)
      (first_served begin events s.number) s
      ⊎ IsUnknownForGood (actors_after_all begin events) s.number

-- In the fixed world, the line consists of the messages that the switch took, those that wait for
-- the switch, and those that the station can still take from the mobile's link. Their places rise
-- by 1 or 0 up to the end of the sent list.
abbrev pub LinesUp : Scene → List Event → Scene → Type 0
LinesUp (Controlled begin) events scene = AreLinedUp begin events
LinesUp (Fixed begin) events (Fixed world) =
    Rise world.mobile.modulus world.mobile.sent 0
    (world.switch.taken ++ (world.outbox ++ to_be_taken world.mobile.zero))
    (length world.mobile.sent)
LinesUp (Fixed begin) events (Controlled w) = Unit {0}
