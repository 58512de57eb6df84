-- SPDX-License-Identifier: MIT OR Apache-2.0
-- The only premise on the world outside the relay: some network explains the run.
use Rattle.std.specs.Prelude.{◌≡◌, ℕ, List, [], ◌∷◌, map}
use Rattle.std.specs.List.{flat_map}
use Rattle.controller_worker.specs.Steps.{whats_of}
use Rattle.ipa_framing.specs.declared.frame.Frame.{Frame}
use Rattle.link_workers.specs.Reading.{frames_text}
use Rattle.octets.specs.Lists.{IsPrefix}
use Rattle.relay_order.specs.Run.{Run, steps_of_run}
use Rattle.ruled_relay.specs.declared.item.What.{What}
use Rattle.ruled_relay.specs.declared.item.What.TheVariants as whats
use Rattle.settings.specs.Parameters.{AreAllowed, Parameters}
use Rattle.world_laws.specs.Order.OctetEvents.{AreOctetEvents}
use Rattle.world_model.specs.declared.event.Event.{Event}
use Rattle.world_model.specs.Queues.{all_pushed, all_taken}
use Rattle.world_model.specs.Steps.{all_steps}
use Rattle.world_model.specs.World.{new_actors}

abbrev pub frame_of : What → List Frame
frame_of (whats.Frame frame) = frame ∷ []
frame_of whats.Down = []

-- the frames that the network's end of this link, the switch or a station, gave to the relay
abbrev pub frames_given : Parameters → List Event → ℕ → List Frame
frames_given settings events link =
    flat_map frame_of (whats_of link (all_pushed (new_actors settings) events))

-- the frames that the network's end of this link, the switch or a station, took from the relay
abbrev pub frames_taken : Parameters → List Event → ℕ → List Frame
frames_taken settings events link =
    map (λ entry. entry.out.frame) (all_taken link (new_actors settings) events)

-- The events explain the run. They are events of a world with these settings, in which mobiles send
-- and repeat messages by TS 24.007 and TS 44.006, stations report on their channels by TS 48.058,
-- and the switch answers.
pub record Explains (settings : Parameters) (run : Run) (events : List Event) : Type 0 where
  -- `bsc` accepts the settings, and the texts of the events are octets.
  pub allowed : AreAllowed settings
  pub octets : AreOctetEvents events
  -- The world's controller did the steps of the run's controller, in the same order.
  pub steps : all_steps (new_actors settings) events ≡ steps_of_run run
  -- The octets that arrived from each link are a beginning of the octets of the frames that the
  -- network gave.
  pub gave : (link : ℕ) → IsPrefix (run.read link) (frames_text (frames_given settings events link))
  -- The octets of the frames that the network took from each link are a beginning of the octets
  -- that were written.
  pub took : (link : ℕ)
      → IsPrefix (frames_text (frames_taken settings events link)) (run.written link)
