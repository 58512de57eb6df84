-- SPDX-License-Identifier: MIT OR Apache-2.0
-- How the queues of a channel agree with an ownership of tenures. The entries that wait for a
-- station agree with the owners of its tenures. The acknowledgements that are still to arrive for a
-- channel fit the state that the controller has for the channel.
use Rattle.std.specs.Prelude.{◌<◌, ◌≤◌, length, ◌≡◌, ℕ, ◌+◌, ◌==◌}
use Rattle.std.specs.Prelude.{◌&&◌, not, Bool, true, false}
use Rattle.std.specs.Prelude.{if◌then◌else◌, List, [], ◌∷◌, ◌++◌, slice_index_or}
use Rattle.std.specs.Prelude.{option_map}
use Rattle.std.specs.Prelude.{option_to_list, Option, Some, Result, Ok}
use Rattle.std.specs.List.{flat_map}
use Rattle.conn_messages.specs.declared.channel.Place.{Place}
use Rattle.controller_model.specs.declared.channel_state.ChannelState.{ChannelState}
use Rattle.controller_model.specs.declared.channel_state.ChannelState.TheVariants.{Free, InUse}
use Rattle.controller_model.specs.declared.channel_state.ChannelState.TheVariants.{Releasing}
use Rattle.controller_model.specs.declared.limits.TheConstants.{CHANNEL_NUMBERS}
use Rattle.controller_model.specs.Controller.{Controller, channel_state, entry_of, is_up as hears}
use Rattle.dtap_codec.specs.declared.rr.RrMessage.{RrMessage}
use Rattle.dtap_codec.specs.declared.rr.RrMessage.TheVariants.{ImmediateAssignment}
use Rattle.dtap_codec.specs.declared.rr_fault.RrFault.{RrFault}
use Rattle.dtap_codec.specs.RrReading.{rr_reading}
use Rattle.link_model.specs.Message.{activation_ack}
use Rattle.ruled_relay.specs.declared.item.Item.{Item}
use Rattle.ruled_relay.specs.declared.item.What.{What}
use Rattle.ruled_relay.specs.declared.item.What.TheVariants as whats
use Rattle.rsl_codec.specs.declared.rsl.Rsl.{Rsl}
use Rattle.rsl_codec.specs.declared.rsl.Rsl.TheVariants.{DataRequest, ImmediateAssignCommand}
use Rattle.rsl_codec.specs.declared.rsl.Rsl.TheVariants.{ChannelActivation, RfChannelReleaseAck}
use Rattle.settings.specs.Parameters.{Parameters}
use Rattle.world_model.specs.declared.line.OutboxEntry.{OutboxEntry}
use Rattle.world_model.specs.declared.seat.Tenure.{Tenure}
use Rattle.world_model.specs.Pipe.{acknowledgements, due, is_active_then, active_all}
use Rattle.world_model.specs.Stations.{rsl_in}
use Rattle.world_model.specs.Tickets.{LeadsBy}
use Rattle.world_model.specs.World.{Actors, base_of, is_active_at, is_up, outbox_of, spot_at}

-- ---- the entries that wait for a station, for one channel: `active` says whether the channel is
-- active, and `tenure` is the number of its last tenure

-- an IMMEDIATE ASSIGNMENT of the channel names the owner of the channel's last tenure
abbrev pub AssignsIn : (Tenure → ℕ) → Place → ℕ → Result RrMessage RrFault → Type 0
AssignsIn owner at tenure (Ok (ImmediateAssignment channel request advance)) =
    channel.channel.0 ≡ at.number → owner (record {
      at =
          at;
      number = tenure;
    }) ≡ slice_index_or request 0 0
AssignsIn owner at tenure _ = Unit {0}

-- An activation of the channel fits if the channel exists and isn't active. A command on the
-- channel fits if the tenure to which it leads has the same owner as the channel's last tenure.
abbrev pub FitsTenure : (Tenure → ℕ) → Place → Bool → ℕ → Option Tenure → Option Rsl
    → Type 0
FitsTenure owner at active tenure target (Some (ChannelActivation a)) =
    a.channel ≡ at.number → (active ≡ false) × (at.number < CHANNEL_NUMBERS)
FitsTenure owner at active tenure target (Some (ImmediateAssignCommand i)) =
    AssignsIn owner at tenure (rr_reading i.information)
FitsTenure owner at active tenure target (Some (DataRequest d)) =
    d.channel ≡ at.number → LeadsBy owner (record { at = at; number = tenure }) target
FitsTenure owner at active tenure target _ = Unit {0}

-- the number of the channel's last tenure once the station took a message
abbrev pub tenure_then : ℕ → Bool → ℕ → Option Rsl → ℕ
tenure_then channel active tenure (Some (ChannelActivation a)) =
    if (a.channel == channel) && not active then tenure + 1 else tenure
tenure_then channel active tenure _ = tenure

-- each of these entries fits once the station took all entries before it
abbrev pub AreFitting : (Tenure → ℕ) → Place → Bool → ℕ → List OutboxEntry → Type 0
AreFitting owner at active tenure [] = Unit {0}
AreFitting owner at active tenure (entry ∷ entries) =
    FitsTenure owner at active tenure entry.target (rsl_in entry.out.frame)
    × AreFitting owner at (is_active_then at.number active (rsl_in entry.out.frame))
    (tenure_then at.number active tenure (rsl_in entry.out.frame)) entries

abbrev pub tenure_all : ℕ → Bool → ℕ → List OutboxEntry → ℕ
tenure_all channel active tenure [] = tenure
tenure_all channel active tenure (entry ∷ entries) =
    tenure_all channel (is_active_then channel active (rsl_in entry.out.frame))
    (tenure_then channel active tenure (rsl_in entry.out.frame)) entries

-- whether the channel is active once the station took all entries that wait for it
abbrev pub active_behind : Actors → Place → Bool
active_behind w at = active_all at.number (is_active_at w at) (outbox_of w at.station)

abbrev pub tenure_behind : Actors → Place → Tenure
tenure_behind w at =
    record {
      at = at;
      number =
          tenure_all at.number (is_active_at w at) (spot_at w at).tenure (outbox_of w at.station);
    }

-- ---- the acknowledgements still to arrive for a channel: those in the inbox, those that the
-- station made, and those due for the entries that wait in its outbox

abbrev pub said_by : What → List Rsl
said_by (whats.Frame frame) = option_to_list (rsl_in frame)
said_by whats.Down = []

abbrev pub said : ℕ → Item → List Rsl
said station item = if item.source == station then said_by item.what else []

abbrev pub acknowledged_in : Place → List Item → List Rsl
acknowledged_in at items = acknowledgements at.number (flat_map (said at.station) items)

abbrev pub to_arrive : Actors → Place → List Rsl
to_arrive w at =
    acknowledged_in at w.inbox ++ (acknowledgements at.number (base_of w at.station).messages
    ++ due at.number (is_active_at w at) (outbox_of w at.station))

-- the acknowledgements still to arrive for a channel that the controller has in this state
pub data IsOwed (channel : ℕ) : ChannelState → List Rsl → Type 0 where
  nothing : IsOwed channel Free []
  began : {number : ℕ} → IsOwed channel (InUse number) []
  begins : {number : ℕ} → IsOwed channel (InUse number) (activation_ack channel ∷ [])
  ends : {number : ℕ} → IsOwed channel (Releasing number) (RfChannelReleaseAck channel ∷ [])
  begins_and_ends : {number : ℕ} → IsOwed channel (Releasing number) (activation_ack channel
      ∷ RfChannelReleaseAck channel ∷ [])

abbrev pub is_in_use : ChannelState → Bool
is_in_use (InUse number) = true
is_in_use _ = false

-- The acknowledgements still to arrive for a channel are those owed for its state at the
-- controller. If the station's link is down, a prefix of those owed is still to arrive; the others
-- are `lost`.
pub record IsOnItsWay (w : Actors) (at : Place) (state : ChannelState) : Type 0 where
  pub lost : List Rsl
  pub owed : IsOwed at.number state (to_arrive w at ++ lost)
  pub all : is_up w at.station ≡ true → lost ≡ []
  pub active : is_up w at.station ≡ true → active_behind w at ≡ is_in_use state

-- ---- a channel agrees with an ownership

-- the mobile of a connection: the access octet of the request that the connection answers
abbrev pub asker : Controller → ℕ → Option ℕ
asker c number = option_map (λ e. e.connection.request.access) (entry_of c number)

pub record Agrees (owner : Tenure → ℕ) (w : Actors) (at : Place) : Type 0 where
  -- the entries that wait for the station fit the ownership
  pub line : AreFitting owner at (is_active_at w at) (spot_at w at).tenure (outbox_of w at.station)
  -- until the controller learns that the station's link broke, the acknowledgements still to arrive
  -- fit the channel's state at the controller
  pub way : hears w.controller at.station ≡ true
      → IsOnItsWay w at (channel_state w.controller at)
  -- The owner of the channel's last tenure, once all waiting entries are taken, is the mobile of
  -- the connection that uses the channel. Not claimed if the link is down and no acknowledgement is
  -- still to arrive, nor once the controller learns that the link broke.
  pub own : (number mobile : ℕ) → hears w.controller at.station ≡ true
      → channel_state w.controller at ≡ InUse number
      → asker w.controller number ≡ Some mobile
      → (is_up w at.station ≡ false → to_arrive w at ≡ [] → ⊥)
      → owner (tenure_behind w at) ≡ mobile

-- each channel of each station of the settings agrees with the ownership
abbrev pub AllAgree : Parameters → (Tenure → ℕ) → Actors → Type 0
AllAgree settings owner w =
    (at : Place) → 1 ≤ at.station → at.station ≤ length settings.cells → Agrees owner w at
