-- SPDX-License-Identifier: MIT OR Apache-2.0
-- The acknowledgements of a channel that are on their way up.
use Rattle.std.specs.Prelude.{◌≡◌, ◌≢◌, ℕ, ◌≤◌, ◌==◌, Bool, true, false}
use Rattle.std.specs.Prelude.{if◌then◌else◌, List, []}
use Rattle.std.specs.Prelude.{◌∷◌, ◌++◌, length, option_to_list}
use Rattle.std.specs.List.{flat_map, AllByRecursion}
use Rattle.world_laws.specs.Prelude.{Place, SWITCH_LINK, Item, Rsl, Parameters, Event, rsl_in}
use Rattle.world_laws.specs.Prelude.{Actors, base_of, is_up}
use Rattle.world_laws.specs.Prelude.{new_actors, outbox_of}
use Rattle.world_laws.specs.Runs.{world}
use Rattle.link_model.specs.Base.{is_active}
use Rattle.ruled_relay.specs.declared.item.What.{What}
use Rattle.ruled_relay.specs.declared.item.What.TheVariants as whats
use Rattle.rsl_codec.specs.declared.rsl.Rsl.TheVariants.{RfChannelReleaseAck}
use Rattle.world_model.specs.Pipe.{acknowledgements, due}
use Rattle.world_model.specs.Queues.{all_popped, all_put}
use Rattle.world_laws.specs.ComingUp.{coming_up}
use Rattle.world_laws.specs.LineUps.{is_ended}
use Rattle.world_laws.specs.KeptLineUps.{EndsLast}

-- The message read in an item, if the item is a frame of this station.
abbrev pub read_by : ℕ → ℕ → What → List Rsl
read_by station source (whats.Frame frame) =
    if source == station then option_to_list (rsl_in frame) else []
read_by station source whats.Down = []

abbrev pub read_of : ℕ → Item → List Rsl
read_of station item = read_by station item.source item.what

-- The messages of a station that are on their way up: first those in the inbox, then those that the
-- station made.
abbrev pub messages_up : Actors → ℕ → List Rsl
messages_up w station = flat_map (read_of station) w.inbox ++ (base_of w station).messages

abbrev pub acknowledgements_up : Actors → Place → List Rsl
acknowledgements_up w at = acknowledgements at.number (messages_up w at.station)

-- The acknowledgements of a channel among the items that the controller took.
abbrev pub acknowledgements_taken : Place → List Item → List Rsl
acknowledgements_taken at items = acknowledgements at.number (flat_map (read_of at.station) items)

-- ---- what the acknowledgements of a channel show of all that is on its way from the channel

abbrev pub is_release_ack : Rsl → Bool
is_release_ack (RfChannelReleaseAck channel) = true
is_release_ack _ = false

-- No message is an RF CHANNEL RELEASE ACK.
abbrev pub NoneReleases : List Rsl → Type 0
NoneReleases messages = AllByRecursion (λ m. is_release_ack m ≡ false) messages

-- No message follows an RF CHANNEL RELEASE ACK.
abbrev pub ReleasesLast : List Rsl → Type 0
ReleasesLast [] = Unit {0}
ReleasesLast (m ∷ ms) = (is_release_ack m ≡ true → ms ≡ []) × ReleasesLast ms

-- If no acknowledgement of the channel follows an RF CHANNEL RELEASE ACK, nothing that the channel
-- brings follows it. If no acknowledgement is an RF CHANNEL RELEASE ACK, no release ends what the
-- channel brings.
pub record AcksShowEnd (w : Actors) (at : Place) : Type 0 where
  pub last : ReleasesLast (acknowledgements_up w at) → EndsLast (coming_up w at)
  pub none : NoneReleases (acknowledgements_up w at) → is_ended (coming_up w at) ≡ false

-- Whatever happened, the acknowledgements of each channel of a station show whether what the
-- channel brings ends.
abbrev pub AllAcksShowEnd : Parameters → List Event → Type 0
AllAcksShowEnd settings events =
    (at : Place) → at.station ≢ SWITCH_LINK → AcksShowEnd (world settings events) at

-- ---- the acknowledgements due, and where each is

-- While the link of the station is up, the acknowledgements due for all that the controller put
-- are, in order: those that the controller took, those on their way up, and those due for the
-- entries that wait in the outbox.
abbrev pub AcksFlow : Parameters → List Event → Type 0
AcksFlow settings events =
    (at : Place) → 1 ≤ at.station → at.station ≤ length settings.cells
    → is_up (world settings events) at.station ≡ true
    → due at.number false (all_put at.station (new_actors settings) events) ≡
    acknowledgements_taken at (all_popped (new_actors settings) events)
    ++ (acknowledgements_up (world settings events) at
    ++ due at.number (is_active (base_of (world settings events) at.station).active at.number)
    (outbox_of (world settings events) at.station))
