-- SPDX-License-Identifier: MIT OR Apache-2.0
-- The roles of channels in a connection (serving channel, target of a change, old channels), and
-- the effect of rows on them.
use Rattle.std.specs.Prelude.{◌≡◌, ◌⊎◌, ℕ, Bool, true, false, not, ◌&&◌}
use Rattle.std.specs.Prelude.{if◌then◌else◌, List, []}
use Rattle.std.specs.Prelude.{◌∷◌, ◌++◌, filter, Option, Some, None, Contains}
use Rattle.std.specs.List.{AllByRecursion}
use Rattle.std.specs.Option.{option_to_list}
use Rattle.conn_messages.specs.declared.channel.Change.{Change}
use Rattle.conn_messages.specs.declared.channel.Change.TheVariants.{Assignment, Handover}
use Rattle.conn_messages.specs.declared.channel.Channel.{Channel}
use Rattle.conn_messages.specs.declared.channel.Place.{Place}
use Rattle.conn_messages.specs.declared.message.Message.{Message}
use Rattle.conn_messages.specs.declared.message.Message.TheVariants.{Station}
use Rattle.conn_messages.specs.StationMessage.{change_activation, change_command, channel_release}
use Rattle.conn_messages.specs.StationMessage.{rf_channel_release}
use Rattle.conn_rules.specs.declared.input.Input.{Input}
use Rattle.conn_rules.specs.declared.input.Input.TheVariants as inputs
use Rattle.conn_rules.specs.declared.state.Drain.{Drain}
use Rattle.conn_rules.specs.declared.state.Stage.TheVariants.{Preparing, Changing}
use Rattle.conn_rules.specs.declared.state.State.{State}
use Rattle.conn_rules.specs.declared.state.State.TheVariants.{Live, Closed, Removed}
use Rattle.conn_rules.specs.declared.state.Target.{Target}
use Rattle.conn_rules.specs.Connection.{Connection, is_at, drain_at}
use Rattle.conn_rules.specs.Steps.{Row, done_at, is_for_station}
use Rattle.conn_rules.specs.Streams.{IsOpen, undone, IsApart, AreApart, target_in, used_channels}
use Rattle.conn_rules.specs.Table.{same_change}
use Rattle.hold_queue.specs.HoldState.{HoldState}
use Rattle.rsl_codec.specs.declared.rsl.Rsl.TheVariants.{ChannelActivation, DataRequest}
use Rattle.rsl_codec.specs.declared.rsl.Rsl.TheVariants.{RfChannelRelease}

-- the target of a change, and whether the mobile was commanded to the target
pub record TargetRole : Type 0 where
  pub target : Target
  pub is_commanded : Bool

pub record Roles : Type 0 where
  pub serving : Channel
  pub target : Option TargetRole
  -- the old channels, the oldest first
  pub draining : List Drain

abbrev pub target_role : State → Option TargetRole
target_role (Live reference (Preparing target)) =
    Some (record { target = target; is_commanded = false })
target_role (Live reference (Changing target)) =
    Some (record { target = target; is_commanded = true })
target_role _ = None

-- the roles of an open connection
abbrev pub roles_of : Connection → Roles
roles_of s = record { serving = s.serving; target = target_role s.state; draining = s.draining }

-- ---- what a row does to the roles

pub data RoleStep : Type 0 where
  -- no role changes
  unchanged : RoleStep
  -- the mobile is commanded to the target
  commands : RoleStep
  -- the target becomes the serving channel; the channel that served becomes the youngest old
  -- channel
  completes : RoleStep
  -- the target is given up
  reverts : RoleStep
  -- the old channel at this position in the list is done; then the oldest channels leave while they
  -- are done
  leaves : ℕ → RoleStep

abbrev pub commanded : Option TargetRole → Option TargetRole
commanded (Some t) = Some (record t { is_commanded = true })
commanded None = None

abbrev pub completed : Option TargetRole → Roles → Roles
completed (Some t) roles =
    record {
      serving =
          t.target.channel;
      target = None;
      draining = roles.draining
          ++ record { channel = roles.serving; is_done = false } ∷ [];
    }
completed None roles = roles

-- the list without its first channels that are done, up to the first channel that isn't done
abbrev pub still_draining : List Drain → List Drain
still_draining [] = []
still_draining (d ∷ ds) = if d.is_done then still_draining ds else d ∷ ds

-- the roles after a step
abbrev pub after_step : RoleStep → Roles → Roles
after_step unchanged roles = roles
after_step commands roles = record roles { target = commanded roles.target }
after_step completes roles = completed roles.target roles
after_step reverts roles = record roles { target = None }
after_step (leaves place) roles =
    record roles { draining = still_draining (done_at place roles.draining) }

-- the roles once a change to this target begins; unchanged without a target
abbrev pub with_target : Option Target → Roles → Roles
with_target None roles = roles
with_target (Some target) roles =
    record roles { target = Some (record { target = target; is_commanded = false }) }

-- ---- which step an input brings

-- whether the target is at this place and the mobile isn't commanded to the target yet
abbrev pub awaits_at : Place → Option TargetRole → Bool
awaits_at at (Some t) = not t.is_commanded && is_at at t.target.channel
awaits_at at None = false

-- whether the mobile is commanded to a target, by this kind of change
abbrev pub changes_by : Change → Option TargetRole → Bool
changes_by change (Some t) = t.is_commanded && same_change change t.target.change
changes_by change None = false

abbrev pub is_target_at : Place → Option TargetRole → Bool
is_target_at at (Some t) = is_at at t.target.channel
is_target_at at None = false

abbrev pub leaves_at : Option ℕ → RoleStep
leaves_at (Some place) = leaves place
leaves_at None = unchanged

-- the step that an input brings to the roles
abbrev pub step_by : Input → Roles → RoleStep
step_by (inputs.ActivationAck at) roles = if awaits_at at roles.target then commands else unchanged
step_by (inputs.ActivationNack at) roles = if awaits_at at roles.target then reverts else
    unchanged
step_by (inputs.Complete at change cause) roles =
    if (is_target_at at roles.target && changes_by change roles.target) then completes else
    unchanged
step_by (inputs.Failure at change cause) roles =
    if (is_at at roles.serving && changes_by change roles.target) then reverts else unchanged
step_by (inputs.ReleaseAck at) roles = leaves_at (drain_at at roles.draining)
step_by _ roles = unchanged

-- the kind of change that may begin at an input: a handover at `Move`, an assignment at any other
-- input, as its request may have waited
abbrev pub change_by : Input → Change
change_by inputs.Move = Handover
change_by _ = Assignment

-- a change that begins has the offer as its target and the input's kind, and no other change is
-- under way
abbrev pub MayBegin : Option Target → Input → Option Channel → Roles → Type 0
MayBegin None input offer roles = Unit {0}
MayBegin (Some target) input offer roles =
    (target.change ≡ change_by input) × (offer ≡ Some target.channel)
    × (roles.target ≡ None)

-- ---- what is put

-- whether a message orders a station to activate or release a channel
abbrev pub is_order : Message → Bool
is_order (Station station (ChannelActivation activation)) = true
is_order (Station station (RfChannelRelease number)) = true
is_order _ = false

abbrev pub orders : List Message → List Message
orders outs = filter is_order outs

-- the RF CHANNEL RELEASE of the target, if the mobile was commanded to the target
abbrev pub target_orders : Option TargetRole → List Message
target_orders (Some t) = if t.is_commanded then rf_channel_release t.target.channel ∷ [] else []
target_orders None = []

abbrev pub step_orders : RoleStep → Roles → List Message
step_orders completes roles = rf_channel_release roles.serving ∷ []
step_orders reverts roles = target_orders roles.target
step_orders _ roles = []

abbrev pub begin_orders : Option Target → List Message
begin_orders None = []
begin_orders (Some target) = change_activation target.change target.channel ∷ []

-- the messages are one: the COMMAND that sends the mobile to the target
abbrev pub IsCommand : Option TargetRole → Channel → List Message → Type 0
IsCommand (Some t) serving outs =
    outs ≡ change_command serving t.target.change t.target.channel ∷ []
IsCommand None serving outs = ⊥

-- the message for the mobile that an input brings from the switch, if any
abbrev pub brought : Input → List (List ℕ)
brought (inputs.Downlink sapi message) = message ∷ []
brought _ = []

-- if the message is for the mobile, it carries a message of the switch, which was held or which the
-- input brings
abbrev pub IsOfSwitch : HoldState → Input → Message → Type 0
IsOfSwitch down input (Station station (DataRequest request)) =
    Contains (down.zero ++ (down.three ++ brought input)) request.l3
IsOfSwitch down input _ = Unit {0}

abbrev pub Tells : RoleStep → Roles → HoldState → Input → List Message → Type 0
Tells commands before down input outs = IsCommand before.target before.serving outs
Tells _ before down input outs = AllByRecursion (IsOfSwitch down input) outs

-- What holds of a row that leaves the connection open: it takes this step, and then a change may
-- begin.
pub record RemainsOpen (step : RoleStep) (before : Roles) (down : HoldState) (input : Input)
    (offer : Option Channel) (r : Row) : Type 0 where
  pub begun : Option Target
  pub may : MayBegin begun input offer (after_step step before)
  pub roles : roles_of r.next ≡ with_target begun (after_step step before)
  pub ordered : orders r.outs ≡ step_orders step before ++ begin_orders begun
  pub tells : Tells step before down input r.outs

-- ---- ends

pub data RoleEnd : Type 0 where
  -- the activation of the serving channel was refused
  refused : RoleEnd
  -- the serving channel is released
  drops : RoleEnd
  -- the mobile is dismissed with this cause, and the serving channel and the target are released
  dismisses : ℕ → RoleEnd

abbrev pub target_releases : Option TargetRole → List Message
target_releases (Some t) = rf_channel_release t.target.channel ∷ []
target_releases None = []

abbrev pub end_messages : RoleEnd → Roles → List Message
end_messages refused roles = []
end_messages drops roles = rf_channel_release roles.serving ∷ []
end_messages (dismisses cause) roles =
    channel_release roles.serving cause ∷ rf_channel_release roles.serving
    ∷ target_releases roles.target

-- The end fits the roles and the input: `refused` fits only an ACTIVATION NACK of the serving
-- channel; `refused` and `drops` fit only if there is no target.
abbrev pub FitsEnd : RoleEnd → Roles → Input → Type 0
FitsEnd refused roles (inputs.ActivationNack at) =
    (is_at at roles.serving ≡ true) × (roles.target ≡ None)
FitsEnd refused roles _ = ⊥
FitsEnd drops roles input = roles.target ≡ None
FitsEnd (dismisses cause) roles input = Unit {0}

abbrev pub is_to_station : Message → Bool
is_to_station (Station station message) = true
is_to_station _ = false

-- the messages among these that go to stations
abbrev pub to_stations : List Message → List Message
to_stations outs = filter is_to_station outs

-- the messages that are still put at this input: none to a station whose link broke
abbrev pub those_sent : Input → List Message → List Message
those_sent (inputs.StationDown station) outs =
    filter (λ message. not (is_for_station station message)) outs
those_sent _ outs = outs

-- What holds of a row that ends a connection.
pub record Ends (before : Roles) (input : Input) (r : Row) : Type 0 where
  pub end : RoleEnd
  pub fits : FitsEnd end before input
  pub ordered : to_stations r.outs ≡ those_sent input (end_messages end before)

-- ---- the law

-- The effect of a row on the roles. Either the connection remains open, with the step that the
-- input brings; or the row ends the connection; or the connection had ended, and stations get
-- nothing.
pub data ChangesRoles (s : Connection) (input : Input) (offer : Option Channel)
    (r : Row) : Type 0 where
  carries_on : IsOpen s.state → IsOpen r.next.state
      → RemainsOpen (step_by input (roles_of s)) (roles_of s) s.down input offer r
      → ChangesRoles s input offer r
  ends : IsOpen s.state → (IsOpen r.next.state → ⊥) → Ends (roles_of s) input r
      → ChangesRoles s input offer r
  had_ended : (IsOpen s.state → ⊥) → (IsOpen r.next.state → ⊥)
      → to_stations r.outs ≡ []
      → ChangesRoles s input offer r

-- the effect of the row on the roles if a row fits; if no row fits, the input brings no step
abbrev pub ChangesRolesBy : Connection → Input → Option Channel → Option Row → Type 0
ChangesRolesBy s input offer (Some r) = ChangesRoles s input offer r
ChangesRolesBy s input offer None = step_by input (roles_of s) ≡ unchanged

-- ---- the channels in use

-- the channel of the target, if there is one
abbrev pub target_channels : Option TargetRole → List Channel
target_channels (Some t) = t.target.channel ∷ []
target_channels None = []

-- the channels in use: the serving channel and the target while the connection is open, else none
abbrev pub channels_in : State → Roles → List Channel
channels_in (Closed clearing) roles = []
channels_in Removed roles = []
channels_in _ roles = roles.serving ∷ target_channels roles.target

abbrev pub channels_in_use : Connection → List Channel
channels_in_use s = channels_in s.state (roles_of s)

-- the row gives the channel up: its RF CHANNEL RELEASE is put, or the link of its station broke, or
-- its activation was refused
pub data IsGivenUp (c : Channel) (input : Input) (outs : List Message) : Type 0 where
  released : Contains outs (rf_channel_release c) → IsGivenUp c input outs
  broke : input ≡ inputs.StationDown c.station → IsGivenUp c input outs
  not_activated : (at : Place) → input ≡ inputs.ActivationNack at → is_at at c ≡ true
      → IsGivenUp c input outs

-- the row takes the channel: the channel is the offer, and its CHANNEL ACTIVATION is put
abbrev pub IsTaken : Channel → Input → Option Channel → List Message → Type 0
IsTaken c input offer outs =
    (offer ≡ Some c) × Contains outs (change_activation (change_by input) c)

-- the input acknowledges the release of this channel
pub record IsAcknowledged (c : Channel) (input : Input) : Type 0 where
  pub at : Place
  pub acknowledges : input ≡ inputs.ReleaseAck at
  pub there : is_at at c ≡ true

-- The account of a connection's channels: which channels a row gives up, which it takes, which
-- begin to drain, and which are done.
pub record KeepsAccount (s : Connection) (input : Input) (offer : Option Channel)
    (r : Row) : Type 0 where
  pub gives_up : (c : Channel) → Contains (channels_in_use s) c
      → Contains (channels_in_use r.next) c ⊎ IsGivenUp c input r.outs
  pub takes : (c : Channel) → Contains (channels_in_use r.next) c
      → Contains (channels_in_use s) c ⊎ IsTaken c input offer r.outs
  pub begins_to_drain : IsOpen r.next.state → (c : Channel)
      → Contains (undone r.next.draining) c
      → Contains (undone s.draining) c
      ⊎ ((c ≡ s.serving) × Contains r.outs (rf_channel_release c))
  pub drains : IsOpen r.next.state → (c : Channel) → Contains (undone s.draining) c
      → Contains (undone r.next.draining) c ⊎ IsAcknowledged c input

-- ---- no two channels of a connection are the same

-- the offer, if there is one, differs from each of these channels
abbrev pub IsNew : Option Channel → List Channel → Type 0
IsNew (Some c) channels = AllByRecursion (λ other. IsApart other c) channels
IsNew None channels = Unit {0}

abbrev pub IsApartAfter : Row → Type 0
IsApartAfter r = IsOpen r.next.state → AreApart (used_channels r.next)

-- ---- which channels a row knows

-- The row keeps the connection's number. The channel that serves after the row was the serving
-- channel or the target before. The target after the row, if any, was the target before or is the
-- offer.
pub record KeepsChannels (s : Connection) (offer : Option Channel) (r : Row) : Type 0 where
  pub number : r.next.number ≡ s.number
  pub serving : Contains (s.serving ∷ target_in s.state) r.next.serving
  pub target : AllByRecursion
      (Contains (target_in s.state ++ option_to_list offer)) (target_in r.next.state)
