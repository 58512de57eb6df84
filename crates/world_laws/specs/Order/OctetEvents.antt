-- SPDX-License-Identifier: MIT OR Apache-2.0
-- Events that carry octets.
use Rattle.std.specs.Prelude.{◌≡◌, ◌≢◌, ℕ, ◌<◌, List, [], ◌∷◌, ◌++◌}
use Rattle.std.specs.Prelude.{Option, Some}
use Rattle.std.specs.List.{AllByRecursion}
use Rattle.bssmap_codec.specs.declared.bssap.Bssap.{Bssap}
use Rattle.world_laws.specs.Prelude.{Management, Sccp, SWITCH_LINK, Item, AreAllowed, Parameters}
use Rattle.world_laws.specs.Prelude.{Event, OutboxEntry}
use Rattle.world_laws.specs.Prelude.{sccp_in, new_actors}
use Rattle.world_laws.specs.Runs.{world}
use Rattle.bssmap_codec.specs.declared.bssmap.Bssmap.TheVariants.{ClearRequest}
use Rattle.bssmap_codec.specs.declared.sccp.Sccp.TheVariants.{ConnectionRequest, DataForm1}
use Rattle.bssmap_codec.specs.Reference.{IsReference}
use Rattle.controller_model.specs.LifeLaws.Sending.{IsOfOctets}
use Rattle.msc_end.specs.Switch.{message_in}
use Rattle.octets.specs.Element.{AreOctets}
use Rattle.world_model.specs.declared.event.Event.TheVariants.{Upper, Connect, SwitchDoes, Report}
use Rattle.world_model.specs.declared.event.SwitchAction.{SwitchAction}
use Rattle.world_model.specs.declared.event.SwitchAction.TheVariants.{Dtap}
use Rattle.world_model.specs.Queues.{all_pushed, put}
use Rattle.world_laws.specs.OthersFrame.{TookOctets}

abbrev pub IsOctetAction : SwitchAction → Type 0
IsOctetAction (Dtap connection sapi message) = AreOctets message
IsOctetAction _ = Unit {0}

-- Each text that a mobile's upper layers, a measurement report or the switch gives is octets. The
-- number of a mobile that connects is below 256, since the access octet of its request carries it.
abbrev pub IsOctetEvent : Event → Type 0
IsOctetEvent (Upper mobile sapi message) = AreOctets message
IsOctetEvent (Connect mobile station initial accepts) = (mobile < 256) × AreOctets initial
IsOctetEvent (SwitchDoes action) = IsOctetAction action
IsOctetEvent (Report mobile report) = AreOctets report
IsOctetEvent _ = Unit {0}

abbrev pub AreOctetEvents : List Event → Type 0
AreOctetEvents events = AllByRecursion IsOctetEvent events

-- An item of a station is octets; of an item of the switch nothing is claimed.
abbrev pub IsOctetItem : Item → Type 0
IsOctetItem item = item.source ≢ SWITCH_LINK → IsOfOctets item.what

abbrev pub StationsGiveOctets : Parameters → List Event → Type 0
StationsGiveOctets settings events =
    AreOctetEvents events → AllByRecursion IsOctetItem (all_pushed (new_actors settings) events)

-- The cause of a CLEAR REQUEST is one octet.
abbrev pub HasFairCause : Option Bssap → Type 0
HasFairCause (Some (Management (ClearRequest cause))) =
    (octet : ℕ) × (octet < 256) × (cause.0 ≡ octet ∷ [])
HasFairCause _ = Unit {0}

abbrev pub IsFair : Option Sccp → Type 0
IsFair (Some (ConnectionRequest source user)) = IsReference source
IsFair (Some (DataForm1 destination user)) = HasFairCause (message_in user)
IsFair _ = Unit {0}

abbrev pub IsFairEntry : OutboxEntry → Type 0
IsFairEntry entry = IsFair (sccp_in entry.out.frame)

-- All that the controller puts for the switch is fair. Assumes: allowed settings; the controller
-- took only octets.
abbrev pub PutsFairly : Parameters → Type 0
PutsFairly settings =
    AreAllowed settings → (events : List Event) (event : Event)
    → TookOctets settings (events ++ event ∷ [])
    → AllByRecursion IsFairEntry (put SWITCH_LINK (world settings events) event)

-- All that the controller takes is octets. Assumes: allowed settings; events carry octets.
abbrev pub ArriveInOctets : Parameters → List Event → Type 0
ArriveInOctets settings events =
    AreAllowed settings → AreOctetEvents events → TookOctets settings events
