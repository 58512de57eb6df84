-- SPDX-License-Identifier: MIT OR Apache-2.0
-- If two mobiles sent the same initial message on two channels, the connection of a CR with this
-- message can be that of either mobile. A judge apart takes it as that of one of them.
use Rattle.std.specs.Prelude.{ℕ, ◌==◌, ◌&&◌, Bool, true, false, if◌then◌else◌}
use Rattle.std.specs.Prelude.{List, [], ◌∷◌, Option, Some, None}
use Rattle.std.specs.Option.{is_some}
use Rattle.run_judge.specs.declared.apart.Pair.{Pair}
use Rattle.run_judge.specs.declared.channels.ChannelView.{ChannelView}
use Rattle.run_judge.specs.declared.channels.ChannelView.TheVariants as views
use Rattle.run_judge.specs.declared.connection.Reason.{Reason}
use Rattle.run_judge.specs.declared.connection.Reason.TheVariants as reasons
use Rattle.run_judge.specs.declared.connection.Unjudged.{Unjudged}
use Rattle.run_judge.specs.declared.said.Said.{Said}
use Rattle.run_judge.specs.declared.said.Said.TheVariants as says
use Rattle.run_judge.specs.declared.said.StationChannel.{StationChannel}
use Rattle.run_judge.specs.Channels.{is_opened_by, opened_channels, opening_in, view_at}
use Rattle.run_judge.specs.Channels.{with_view}
use Rattle.run_judge.specs.ConnectionState.{ConnectionState}
use Rattle.run_judge.specs.Judging.{Judging, begun_at, is_unconfirmed, new_judging}

-- ---- whether there are two

abbrev pub is_for_two : Reason → Bool
is_for_two reasons.TwoBeginnings = true
is_for_two _ = false

abbrev pub is_unjudged_for_two : Option Unjudged → Bool
is_unjudged_for_two None = false
is_unjudged_for_two (Some u) = is_for_two u.reason

-- Whether a connection isn't judged because several channels have its initial message.
abbrev pub has_begun_twice : Option ConnectionState → Bool
has_begun_twice None = false
has_begun_twice (Some c) = is_unjudged_for_two c.unjudged

abbrev pub pair_of : StationChannel → StationChannel → Pair
pair_of one other = record { one = one; other = other }

abbrev pub pair_in : List StationChannel → Option Pair
pair_in (one ∷ other ∷ []) = Some (pair_of one other)
pair_in _ = None

-- The two channels on which the connection with the controller's reference `source` may have begun.
-- `message` is the initial message of the connection's CR.
abbrev pub beginnings : ℕ → List ℕ → Judging → Option Pair
beginnings source message j =
    if has_begun_twice (j.connections source) then pair_in (opened_channels message j.channels)
    else None

-- Whether a mobile sent the initial message `message` on the channel, and no CR for it was sent
-- yet.
abbrev pub waits_on : StationChannel → List ℕ → Judging → Bool
waits_on at message j = is_opened_by message (view_at j.channels at)

-- ---- the connection began on one of them

abbrev pub with_opening : StationChannel → Judging → List (List ChannelView)
    → List (List ChannelView)
with_opening at j channels =
    with_view at (views.Opened (opening_in (view_at j.channels at))) channels

-- The state in which only the cells, the number of CRs and the openings of these two channels are
-- known.
abbrev pub apart : StationChannel → StationChannel → Judging → Judging
apart at other j = record (new_judging j.modulus j.cells) {
  begun = j.begun;
  channels = with_opening other j (with_opening at j []);
}

-- The state `apart` after the CR in the frame `frame`, if the CR is that of the mobile on the
-- channel `at`.
abbrev pub begun_apart : StationChannel → StationChannel → ℕ → ℕ → Judging → Judging
begun_apart at other source frame j = begun_at at source frame (apart at other j)

-- ---- the switch's references

-- Whether a CC gives a reference that is in use to a connection that has no switch's reference yet.
abbrev pub gives_again : Said → Judging → Bool
gives_again (says.Confirms destination source) j =
    is_unconfirmed (j.connections destination) && is_some (j.by_switch source)
gives_again _ j = false
