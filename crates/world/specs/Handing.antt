-- SPDX-License-Identifier: MIT OR Apache-2.0
-- The messages of the switch on their way to the mobiles, after any list of events.
use Rattle.std.specs.Prelude.{ℕ, ◌≤◌, List}
use Rattle.std.specs.List.{AllByRecursion}
use Rattle.controller_model.specs.LifeLaws.Downlink.{DownlinkIsConserved}
use Rattle.controller_model.specs.LifeLaws.End.{SilenceIsKept}
use Rattle.controller_model.specs.LifeLaws.Handing.{HandsInPlace}
use Rattle.controller_model.specs.LifeLaws.Sending.{IsOctetStep}
use Rattle.settings.specs.Parameters.{AreAllowed}
use Rattle.world_model.specs.declared.event.Event.{Event}
use Rattle.world_model.specs.Steps.{all_steps, controller_run}
use Rattle.world_model.specs.World.{Actors}
use Rattle.world.specs.declared.world.Scene.{Scene}
use Rattle.world.specs.declared.world.Scene.TheVariants.{Fixed, Controlled}

-- The order in which the switch's messages are handed to the mobile of a connection, for the
-- controller's steps and outputs at these events.
pub record IsHandedInOrder (begin : Actors) (events : List Event) (connection : ℕ) : Type 0 where
  -- the settings are allowed and the steps carry octets: the messages handed are thus those read
  -- from the frames that were put
  pub allowed : AreAllowed begin.controller.settings
  pub octets : AllByRecursion IsOctetStep (all_steps begin events)
  -- On each SAPI, the messages handed to the mobile are some of those that the switch sent, each at
  -- most once and in order. As long as the connection is open, the messages handed, followed by
  -- those held, are the messages that the switch sent and that weren't rejected.
  pub conserved : DownlinkIsConserved connection begin.controller.settings (all_steps begin events)
      (controller_run begin events)
  -- From the COMMAND on, no message is handed until the mobile answers or the connection is
  -- cleared. Each message is handed on the serving channel, the first of the service list. Once
  -- CLEAR COMPLETE was put, only RLC is put for the switch.
  pub in_place : HandsInPlace connection begin.controller.settings (all_steps begin events)
      (controller_run begin events)
  -- From the step that closes the connection on, no message is handed or relayed.
  pub silent : SilenceIsKept connection begin.controller.settings (all_steps begin events)
      (controller_run begin events)

-- the messages of each connection are handed in order; nothing is claimed of the fixed world, which
-- has no controller
abbrev pub HandsInOrder : Scene → List Event → Type 0
HandsInOrder (Fixed world) events = Unit {0}
HandsInOrder (Controlled w) events =
    (connection : ℕ) → 1 ≤ connection → IsHandedInOrder w events connection
