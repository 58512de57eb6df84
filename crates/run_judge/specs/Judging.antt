-- SPDX-License-Identifier: MIT OR Apache-2.0
-- The connections and channels of a controller as its frames show them, and how each frame changes
-- them.
use Rattle.std.specs.Prelude.{ℕ, ◌==◌, Bool, false, if◌then◌else◌}
use Rattle.std.specs.Prelude.{List, [], ◌∷◌, ◌++◌, fold, Option, Some, None, option_map}
use Rattle.std.specs.Prelude.{option_to_list}
use Rattle.std.specs.Option.{is_none, is_some}
use Rattle.conn_messages.specs.declared.channel.Change.{Change}
use Rattle.conn_messages.specs.declared.channel.Change.TheVariants.{Assignment, Handover}
use Rattle.dtap_codec.specs.declared.rr.CellDescription.{CellDescription}
use Rattle.dtap_codec.specs.declared.sapi.Sapi.{Sapi}
use Rattle.run_judge.specs.declared.channels.ChannelView.{ChannelView}
use Rattle.run_judge.specs.declared.channels.ChannelView.TheVariants as views
use Rattle.run_judge.specs.declared.channels.Early.{Early}
use Rattle.run_judge.specs.declared.connection.Reason.{Reason}
use Rattle.run_judge.specs.declared.connection.Reason.TheVariants as reasons
use Rattle.run_judge.specs.declared.judge.Named.{Named}
use Rattle.run_judge.specs.declared.judge.Named.TheVariants.{One, Shared}
use Rattle.run_judge.specs.declared.said.Said.{Said}
use Rattle.run_judge.specs.declared.said.Said.TheVariants as says
use Rattle.run_judge.specs.declared.said.StationChannel.{StationChannel}
use Rattle.run_judge.specs.Channels.{asked_in, followed_by, in_cell, offered_channels}
use Rattle.run_judge.specs.Channels.{opened_channels, opening_behind, opening_in, view_at}
use Rattle.run_judge.specs.Channels.{with_view}
use Rattle.run_judge.specs.Connection.{brought, cleared, commanded, completed, confirmed}
use Rattle.run_judge.specs.Connection.{failed, handed, managed, may_command, new_connection}
use Rattle.run_judge.specs.Connection.{old_rank, opened_connection, passed_up, rejected_down}
use Rattle.run_judge.specs.Connection.{released, sent_down, unjudged_from, while_judged}
use Rattle.run_judge.specs.ConnectionState.{ConnectionState}
use Rattle.run_judge.specs.Flow.{counted}
use Rattle.run_judge.specs.Reading.{channel_at}

pub record Judging : Type 0 where
  -- the number of values of N(SD), 2 or 4
  pub modulus : ℕ
  -- the cells of the stations, from station 1, as far as they are known
  pub cells : List CellDescription
  -- the number of CRs that asked for a connection
  pub begun : ℕ
  -- the open connections, by the controller's references
  pub connections : ℕ → Option ConnectionState
  -- the connections by the switch's references
  pub by_switch : ℕ → Option Named
  pub channels : List (List ChannelView)

abbrev pub new_judging : ℕ → List CellDescription → Judging
new_judging modulus cells = record {
  modulus = modulus;
  cells = cells;
  begun = 0;
  connections = λ reference. None;
  by_switch = λ reference. None;
  channels = [];
}

-- ---- one entry changes

abbrev pub put : {A : Type 0} → ℕ → Option A → (ℕ → Option A) → ℕ → Option A
put key value entries other = if key == other then value else entries other

abbrev pub with_connection : ℕ → (ConnectionState → ConnectionState) → Judging → Judging
with_connection reference change j = record j {
  connections = put reference (option_map change (j.connections reference)) j.connections;
}

-- The connection with this reference changes, if it is judged.
abbrev pub with_judged : ℕ → (ConnectionState → ConnectionState) → Judging → Judging
with_judged reference change j = with_connection reference (while_judged change) j

abbrev pub with_channel : StationChannel → ChannelView → Judging → Judging
with_channel at view j = record j { channels = with_view at view j.channels }

-- ---- the connection of a channel

-- The connection, if it has this number.
abbrev pub numbered_connection : ℕ → Option ConnectionState → Option ConnectionState
numbered_connection number None = None
numbered_connection number (Some c) = if c.number == number then Some c else None

abbrev pub owner_in : ChannelView → Judging → Option ConnectionState
owner_in (views.Owned reference number) j = numbered_connection number (j.connections reference)
owner_in _ j = None

abbrev pub owner_of : StationChannel → Judging → Option ConnectionState
owner_of at j = owner_in (view_at j.channels at) j

abbrev pub with_owner_in : Option ConnectionState → (ConnectionState → ConnectionState) → Judging
    → Judging
with_owner_in None change j = j
with_owner_in (Some c) change j = with_judged c.reference change j

-- The state once the connection that the channel belongs to is changed, if there is one and it is
-- judged.
abbrev pub with_owner : StationChannel → (ConnectionState → ConnectionState) → Judging → Judging
with_owner at change j = with_owner_in (owner_of at j) change j

-- ---- a base station's frames

-- A mobile's initial message opens the channel, unless the channel belongs to a connection or was
-- activated for a handover.
abbrev pub opened_in : ChannelView → Option ConnectionState → StationChannel → List ℕ → ℕ
    → Judging → Judging
opened_in (views.Activated (Some reference)) owner at message frame j = j
opened_in view (Some c) at message frame j = j
opened_in view None at message frame j =
    with_channel at (views.Opened (opening_behind view message frame)) j

abbrev pub opened : StationChannel → List ℕ → ℕ → Judging → Judging
opened at message frame j =
    opened_in (view_at j.channels at) (owner_of at j) at message frame j

abbrev pub early_of : Sapi → List ℕ → ℕ → Early
early_of sapi message frame =
    record { sapi = sapi; message = message; frame = frame; is_optional = false }

-- A mobile's message is kept with the channel's opening, if there is one. Otherwise the message is
-- for the connection of the channel.
abbrev pub brought_by : ChannelView → StationChannel → Sapi → List ℕ → ℕ → Judging → Judging
brought_by (views.Opened o) at sapi message frame j =
    with_channel at (views.Opened (followed_by (early_of sapi message frame) o)) j
brought_by _ at sapi message frame j = with_owner at (brought at sapi message frame) j

abbrev pub brought_on : StationChannel → Sapi → List ℕ → ℕ → Judging → Judging
brought_on at sapi message frame j =
    brought_by (view_at j.channels at) at sapi message frame j

-- The release of a former channel of a connection is acknowledged.
abbrev pub left_by : Option ConnectionState → StationChannel → Judging → Judging
left_by None at j = j
left_by (Some c) at j =
    if is_some (old_rank at c.former)
    then with_channel at views.Unknown (with_judged c.reference (released at) j) else j

abbrev pub released_on : StationChannel → Judging → Judging
released_on at j = left_by (owner_of at j) at j

-- ---- the controller's frames to a base station

-- After RF CHANNEL RELEASE, nothing is known of a channel that doesn't belong to a connection.
abbrev pub given_up : ChannelView → StationChannel → Judging → Judging
given_up (views.Activated reference) at j = with_channel at views.Unknown j
given_up (views.Opened opening) at j = with_channel at views.Unknown j
given_up _ at j = j

-- The mobile of a connection is commanded to a channel, which belongs to the connection from then
-- on.
abbrev pub commanded_to : ConnectionState → StationChannel → Change → Judging → Judging
commanded_to c to change j =
    with_channel to (views.Owned c.reference c.number)
    (with_judged c.reference (commanded to change) j)

abbrev pub assigned_by : Option ConnectionState → StationChannel → ℕ → Judging → Judging
assigned_by None at number j = j
assigned_by (Some c) at number j =
    if may_command at c then commanded_to c (channel_at at.station number) Assignment j
    else j

abbrev pub assigned : StationChannel → ℕ → Judging → Judging
assigned at number j = assigned_by (owner_of at j) at number j

-- The mobile is commanded to the one channel that fits the HANDOVER COMMAND. If no channel or
-- several channels fit, the connection isn't judged from the frame on.
abbrev pub handed_over_to : List StationChannel → ConnectionState → ℕ → Judging → Judging
handed_over_to [] c frame j =
    with_judged c.reference (unjudged_from reasons.UnknownChannel frame) j
handed_over_to (to ∷ []) c frame j = commanded_to c to Handover j
handed_over_to (to ∷ others) c frame j =
    with_judged c.reference (unjudged_from reasons.TwoChannels frame) j

abbrev pub channels_for : CellDescription → ℕ → ℕ → Judging → List StationChannel
channels_for cell number reference j =
    in_cell cell j.cells (offered_channels number reference j.channels)

abbrev pub handed_over_by : Option ConnectionState → StationChannel → CellDescription → ℕ → ℕ → ℕ
    → Judging → Judging
handed_over_by None at cell number reference frame j = j
handed_over_by (Some c) at cell number reference frame j =
    if may_command at c then handed_over_to (channels_for cell number reference j) c frame j
    else j

abbrev pub handed_over : StationChannel → CellDescription → ℕ → ℕ → ℕ → Judging → Judging
handed_over at cell number reference frame j =
    handed_over_by (owner_of at j) at cell number reference frame j

-- ---- a connection ends

-- Frees the switch's reference of a connection that ended, unless the reference is shared.
abbrev pub freed_reference : Option Named → ℕ → ℕ → Judging → Judging
freed_reference (Some (One owner)) source reference j =
    if owner == reference then record j { by_switch = put source None j.by_switch } else j
freed_reference _ source reference j = j

abbrev pub without_switch_reference : Option ℕ → ℕ → Judging → Judging
without_switch_reference None reference j = j
without_switch_reference (Some source) reference j =
    freed_reference (j.by_switch source) source reference j

abbrev pub without : Option ConnectionState → ℕ → Judging → Judging
without None reference j = j
without (Some c) reference j = without_switch_reference c.switch reference (record j {
  connections = put reference None j.connections;
})

abbrev pub ended : ℕ → Judging → Judging
ended reference j = without (j.connections reference) reference j

-- Whether a connection is open and has no switch's reference yet. Only such a connection ends by
-- CREF.
abbrev pub is_unconfirmed : Option ConnectionState → Bool
is_unconfirmed None = false
is_unconfirmed (Some c) = is_none c.switch

abbrev pub refused : ℕ → Judging → Judging
refused reference j =
    if is_unconfirmed (j.connections reference) then ended reference j else j

-- ---- a connection begins

abbrev pub with_begun : Judging → Judging
with_begun j = record j { begun = counted j.begun }

abbrev pub with_new : ℕ → ConnectionState → Judging → Judging
with_new source c j = record j { connections = put source (Some c) j.connections }

abbrev pub begun_at : StationChannel → ℕ → ℕ → Judging → Judging
begun_at at source frame j =
    with_channel at (views.Owned source j.begun)
    (with_new source (opened_connection j.modulus j.begun source at
    (asked_in frame (opening_in (view_at j.channels at)))) j)

-- The channel of a connection whose first channel isn't known.
abbrev pub nowhere : StationChannel
nowhere = channel_at 0 0

abbrev pub begun_nowhere : Reason → ℕ → List ℕ → ℕ → Judging → Judging
begun_nowhere reason source message frame j =
    with_new source (unjudged_from reason frame (new_connection j.modulus j.begun source nowhere
    (record { message = message; frame = frame; early = [] }))) j

-- A connection begins on the one channel with this initial message. If no channel or several
-- channels have it, the connection isn't judged.
abbrev pub begun_on : List StationChannel → ℕ → List ℕ → ℕ → Judging → Judging
begun_on [] source message frame j = begun_nowhere reasons.NoBeginning source message frame j
begun_on (at ∷ []) source message frame j = begun_at at source frame j
begun_on (at ∷ others) source message frame j =
    begun_nowhere reasons.TwoBeginnings source message frame j

-- A CR begins a connection. An open connection with the same controller's reference ends.
abbrev pub requested : ℕ → List ℕ → ℕ → Judging → Judging
requested source message frame j =
    begun_on (opened_channels message j.channels) source message frame
    (ended source (with_begun j))

-- ---- the switch's references

abbrev pub with_named : Option Named → (ConnectionState → ConnectionState) → Judging → Judging
with_named (Some (One reference)) change j = with_judged reference change j
with_named _ change j = j

-- The connection with the switch's reference `destination` changes, if exactly one connection has
-- it and this connection is judged.
abbrev pub with_destination : ℕ → (ConnectionState → ConnectionState) → Judging → Judging
with_destination destination change j = with_named (j.by_switch destination) change j

abbrev pub shared : ℕ → Judging → Judging
shared source j = record j { by_switch = put source (Some Shared) j.by_switch }

-- The switch gives a reference to a connection. If another connection has the reference, messages
-- with the reference can't be attributed, and neither connection is judged.
abbrev pub named_by : Option Named → ℕ → ℕ → ℕ → Judging → Judging
named_by None reference source frame j = record (with_connection reference (confirmed source) j) {
  by_switch = put source (Some (One reference)) j.by_switch;
}
named_by (Some (One other)) reference source frame j =
    shared source (with_judged other (unjudged_from reasons.SharedReference frame)
    (with_judged reference (unjudged_from reasons.SharedReference frame) j))
named_by (Some Shared) reference source frame j =
    with_judged reference (unjudged_from reasons.SharedReference frame) j

-- A CC gives a connection a switch's reference. It is ignored if the connection has a switch's
-- reference already.
abbrev pub confirmed_by : Option ConnectionState → ℕ → ℕ → ℕ → Judging → Judging
confirmed_by None reference source frame j = j
confirmed_by (Some c) reference source frame j =
    if is_some c.switch then j else named_by (j.by_switch source) reference source frame j

abbrev pub confirmed_as : ℕ → ℕ → ℕ → Judging → Judging
confirmed_as reference source frame j =
    confirmed_by (j.connections reference) reference source frame j

-- ---- a frame

-- The state after the frame with the number `frame`.
abbrev pub after : ℕ → Said → Judging → Judging
after frame says.Nothing j = j
after frame (says.Establishes at message) j = opened at message frame j
after frame (says.Brings at sapi message) j = brought_on at sapi message frame j
after frame (says.Completes at change) j = with_owner at (completed at change) j
after frame (says.Fails at change) j = with_owner at (failed at change) j
after frame (says.Released at) j = released_on at j
after frame (says.Activates at reference) j = with_channel at (views.Activated reference) j
after frame (says.Releases at) j = given_up (view_at j.channels at) at j
after frame (says.Assigns at number) j = assigned at number j
after frame (says.HandsOver at cell number reference) j =
    handed_over at cell number reference frame j
after frame (says.Hands at sapi message) j = with_owner at (handed at sapi message frame) j
after frame (says.Requests source message) j = requested source message frame j
after frame (says.Passes destination sapi message) j =
    with_destination destination (passed_up j.modulus sapi message frame) j
after frame (says.Rejects destination) j = with_destination destination (rejected_down frame) j
after frame (says.Clears destination) j = with_destination destination (cleared frame) j
after frame (says.Manages destination) j = with_destination destination (managed frame) j
after frame (says.Ends source) j = ended source j
after frame (says.Confirms destination source) j = confirmed_as destination source frame j
after frame (says.Refuses destination) j = refused destination j
after frame (says.Transfers destination sapi message) j =
    with_judged destination (sent_down sapi message frame) j

-- The connection that the frame ends, if any.
abbrev pub ended_by : Said → Judging → Option ConnectionState
ended_by (says.Requests source message) j = j.connections source
ended_by (says.Ends source) j = j.connections source
ended_by (says.Refuses destination) j =
    if is_unconfirmed (j.connections destination) then j.connections destination else None
ended_by _ j = None

-- ---- frames are missing: the open connections aren't judged from here on

abbrev pub after_hole : ℕ → Judging → Judging
after_hole frame j = record j {
  connections = λ reference. option_map (while_judged (unjudged_from reasons.Hole frame))
      (j.connections reference);
}

-- ---- all frames

-- The number of a frame in the capture, and what the frame says.
pub record Numbered : Type 0 where
  pub frame : ℕ
  pub said : Said

abbrev pub after_one : Judging → Numbered → Judging
after_one j n = after n.frame n.said j

abbrev pub after_all : Judging → List Numbered → Judging
after_all j frames = fold after_one j frames

-- The connections that these frames end.
abbrev pub all_ended : Judging → List Numbered → List ConnectionState
all_ended j [] = []
all_ended j (n ∷ ns) = option_to_list (ended_by n.said j) ++ all_ended (after_one j n) ns
