-- SPDX-License-Identifier: MIT OR Apache-2.0
-- The opener of a connection of the switch: the mobile to which the connection belongs.
use Rattle.std.specs.Prelude.{ℕ, ◌==◌, Option, Some, None, List, if◌then◌else◌}
use Rattle.world_laws.specs.Order.Order.{opener_of}
use Rattle.world_openers.specs.Openers.{OpenersMessageIsFirst}
use Rattle.world_model.specs.declared.event.Event.{Event}
use Rattle.world.specs.declared.fixed.TheConstants.{FIXED_MOBILE, FIXED_CONNECTION}
use Rattle.world.specs.declared.world.Scene.{Scene}
use Rattle.world.specs.declared.world.Scene.TheVariants.{Fixed, Controlled}

-- the opener of a connection of the switch after these events; None if there is no such connection
abbrev pub opener_in : Scene → List Event → ℕ → Option ℕ
opener_in (Fixed world) events connection =
    if connection == FIXED_CONNECTION then Some FIXED_MOBILE else None
opener_in (Controlled w) events connection = opener_of w events connection

-- The messages that the switch took on a connection begin with the message with which the
-- connection's opener connected. Nothing is claimed of the fixed world, whose mobile connected
-- without a message.
abbrev pub IsOpenedByMessage : Scene → List Event → Type 0
IsOpenedByMessage (Fixed world) events = Unit {0}
IsOpenedByMessage (Controlled w) events = OpenersMessageIsFirst w events
