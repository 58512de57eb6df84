-- SPDX-License-Identifier: MIT OR Apache-2.0
-- The controller reads each frame of a station as the message of which it is the text.
use Rattle.std.specs.Prelude.{◌≡◌, ◌≢◌, List, Ok}
use Rattle.std.specs.List.{AllByRecursion}
use Rattle.conn_messages.specs.declared.parameters.TheConstants.{SWITCH_LINK}
use Rattle.ipa_framing.specs.declared.frame.Frame.{Frame}
use Rattle.ipa_framing.specs.declared.streams.TheConstants.{RSL_STREAM}
use Rattle.ruled_relay.specs.declared.item.Item.{Item}
use Rattle.ruled_relay.specs.declared.item.What.{What}
use Rattle.ruled_relay.specs.declared.item.What.TheVariants as whats
use Rattle.rsl_codec.specs.declared.rsl.Rsl.{Rsl}
use Rattle.rsl_codec.specs.RslReading.{rsl_reading}
use Rattle.rsl_codec.specs.RslText.{rsl_text}
use Rattle.settings.specs.Parameters.{Parameters}
use Rattle.world_model.specs.declared.event.Event.{Event}
use Rattle.world_model.specs.Queues.{all_pushed}
use Rattle.world_model.specs.World.{new_actors}

abbrev pub frame_of : Rsl → Frame
frame_of message = record { stream = RSL_STREAM; body = rsl_text message }

-- the frame is an RSL frame with the text of a message, and is read as that message
abbrev pub IsRead : What → Type 0
IsRead (whats.Frame frame) =
    (message : Rsl) × (frame ≡ frame_of message) × (rsl_reading (rsl_text message) ≡ Ok message)
IsRead whats.Down = Unit {0}

abbrev pub IsReadItem : Item → Type 0
IsReadItem item = item.source ≢ SWITCH_LINK → IsRead item.what

-- each frame that a station gave to the inbox is the text of a message, and is read as that message
abbrev pub AreRead : Parameters → List Event → Type 0
AreRead settings events = AllByRecursion IsReadItem (all_pushed (new_actors settings) events)
