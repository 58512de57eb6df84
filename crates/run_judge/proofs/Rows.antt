-- SPDX-License-Identifier: MIT OR Apache-2.0
-- Rows: the judge's state after small lives of connections.
use Rattle.std.proofs.Common.{◌≡◌, ℕ, true, List, [], ◌∷◌, ◌++◌, Option, Some, None, option_map, refl}
use Rattle.octets.proofs.Hex.{hex}
use Rattle.octets.specs.Front.{octet_at}
use Rattle.conn_messages.specs.declared.channel.Change.TheVariants.{Assignment, Handover}
use Rattle.dtap_codec.specs.declared.sapi.Sapi.TheVariants.{Zero, Three}
use Rattle.dtap_codec.specs.RrReading.{assignment_command_at, cause_at, rr_reading, three_at, typed_at}
use Rattle.dtap_codec.specs.RrType.{rr_type}
use Rattle.run_judge.specs.declared.channels.ChannelView.{ChannelView}
use Rattle.run_judge.specs.declared.channels.ChannelView.TheVariants as views
use Rattle.run_judge.specs.declared.connection.Reason.TheVariants as reasons
use Rattle.run_judge.specs.declared.fault.Fault.TheVariants as faults
use Rattle.run_judge.specs.declared.flow.Order.{Order}
use Rattle.run_judge.specs.declared.flow.Order.TheVariants.{InOrder, Faulty}
use Rattle.run_judge.specs.declared.judge.Named.TheVariants.{One, Shared}
use Rattle.run_judge.specs.declared.said.Said.{Said}
use Rattle.run_judge.specs.declared.said.Said.TheVariants as says
use Rattle.run_judge.specs.Channels.{offered_channels, opened_channels, view_at, with_view}
use Rattle.run_judge.specs.Flow.{passed_in}
use Rattle.run_judge.specs.Judging.{Judging, after_all, after_hole, all_ended, new_judging}
use Rattle.run_judge.proofs.Lives.{at, first, second, target, numbered_from, life, up_of, down_of, counts_of, unjudged_of, due, initial, one, two, three, down, begins, commanded, moved}

-- ---- in order, through a handover, with the new channel's message held
in_order : up_of 7 (life (moved ++ says.Passes 90 Zero two ∷ says.Released first ∷ says.Passes 90 Zero three ∷ []))
    ≡ Some (InOrder (record {
      due = [];
      passed = passed_in 0 3 initial ∷ passed_in 0 6 one ∷ passed_in 0 12 two ∷ passed_in 1 14 three ∷ [];
      reached = 1;
    }))
in_order = refl

in_order_counts : counts_of 7 (life (moved ++ says.Passes 90 Zero two ∷ says.Released first ∷ says.Passes 90 Zero three ∷ []))
    ≡ Some (record { accepted = 4; duplicates = 0; behind_gap = 0 })
in_order_counts = refl

-- ---- the late message is lost, and then passed on after all
lost : up_of 7 (life (moved ++ says.Passes 90 Zero three ∷ [])) ≡ Some (Faulty (faults.Lost (due 0 two 11) 12))
lost = refl

overtaken : up_of 7 (life (moved ++ says.Passes 90 Zero three ∷ says.Passes 90 Zero two ∷ []))
    ≡ Some (Faulty (faults.Overtaken (due 0 two 11) 12 13))
overtaken = refl

-- the switch accepts one, and finds a gap
overtaken_counts : counts_of 7 (life (moved ++ says.Passes 90 Zero three ∷ says.Passes 90 Zero two ∷ []))
    ≡ Some (record { accepted = 2; duplicates = 0; behind_gap = 2 })
overtaken_counts = refl

doubled : up_of 7 (life (commanded ++ says.Passes 90 Zero one ∷ [])) ≡ Some (Faulty (faults.Doubled one 6 9))
doubled = refl

doubled_counts : counts_of 7 (life (commanded ++ says.Passes 90 Zero one ∷ [])) ≡ Some (record { accepted = 2; duplicates = 1; behind_gap = 0 })
doubled_counts = refl

-- ---- down: on the channel that serves, and not while it changes
handed_while_changing : down_of 7 (life (commanded ++ says.Transfers 7 Zero down ∷ says.Hands first Zero down ∷ []))
    ≡ Some (Faulty (faults.HandedWhileChanging down 10))
handed_while_changing = refl

handed_elsewhere : down_of 7 (life (moved ++ says.Transfers 7 Zero down ∷ says.Hands first Zero down ∷ []))
    ≡ Some (Faulty (faults.HandedElsewhere down 13))
handed_elsewhere = refl

handed_there : down_of 7 (life (moved ++ says.Transfers 7 Zero down ∷ says.Hands second Zero down ∷ []))
    ≡ Some (InOrder (record { due = []; passed = passed_in 0 13 down ∷ []; reached = 0 }))
handed_there = refl

-- the mobile comes back by HANDOVER FAILURE
handed_back : down_of 7 (life (commanded ++ says.Fails first Handover ∷ says.Transfers 7 Zero down ∷ says.Hands first Zero down ∷ []))
    ≡ Some (InOrder (record { due = []; passed = passed_in 0 11 down ∷ []; reached = 0 }))
handed_back = refl

-- of the other kind of change it isn't the answer
other_failure : down_of 7 (life (commanded ++ says.Fails first Assignment ∷ says.Transfers 7 Zero down ∷ says.Hands first Zero down ∷ []))
    ≡ Some (Faulty (faults.HandedWhileChanging down 11))
other_failure = refl

-- before CC nothing comes from the switch
before_confirmed : down_of 7 (life (says.Activates first None ∷ says.Establishes first initial ∷ says.Requests 7 initial ∷ says.Transfers 7 Zero down ∷ []))
    ≡ Some (InOrder (record { due = []; passed = []; reached = 0 }))
before_confirmed = refl

-- ---- behind CLEAR COMPLETE
behind_clear : up_of 7 (life (begins first initial 7 90 ++ says.Clears 90 ∷ says.Passes 90 Zero one ∷ []))
    ≡ Some (Faulty (faults.BehindClear one 6))
behind_clear = refl

managed_behind_clear : up_of 7 (life (begins first initial 7 90 ++ says.Clears 90 ∷ says.Manages 90 ∷ []))
    ≡ Some (Faulty (faults.BehindClear [] 6))
managed_behind_clear = refl

managed_before : up_of 7 (life (begins first initial 7 90 ++ says.Manages 90 ∷ says.Clears 90 ∷ []))
    ≡ Some (InOrder (record { due = []; passed = passed_in 0 3 initial ∷ []; reached = 0 }))
managed_before = refl

-- ---- SAPI 3 has flows of its own, and SAPI "n" REJECT is of it alone
abbrev down_three_of : ℕ → Judging → Option Order
down_three_of reference j = option_map (λ c. c.down.three.order) (j.connections reference)

abbrev both_down : List Said
both_down = begins first initial 7 90 ++ says.Transfers 7 Zero down ∷ says.Transfers 7 Three one ∷ says.Rejects 90 ∷ []

rejected_three : down_three_of 7 (life both_down)
    ≡ Some (InOrder (record { due = record { rank = 0; message = one; frame = 6; is_optional = true } ∷ []; passed = []; reached = 0 }))
rejected_three = refl

rejected_zero : down_of 7 (life both_down) ≡ Some (InOrder (record { due = due 0 down 5 ∷ []; passed = []; reached = 0 }))
rejected_zero = refl

up_three : option_map (λ c. c.up.three.order) ((life (begins first initial 7 90 ++ says.Brings first Three one ∷ says.Passes 90 Three one ∷ [])).connections 7)
    ≡ Some (InOrder (record { due = []; passed = passed_in 0 6 one ∷ []; reached = 0 }))
up_three = refl

-- ---- behind an initial message, before the switch is asked
early : up_of 7 (life (says.Establishes first initial ∷ says.Brings first Zero one ∷ says.Requests 7 initial ∷ says.Confirms 7 90 ∷ says.Passes 90 Zero one ∷ []))
    ≡ Some (InOrder (record { due = []; passed = passed_in 0 3 initial ∷ passed_in 0 5 one ∷ []; reached = 0 }))
early = refl

-- the initial message comes again: the controller may have ignored what came before
early_before_another : up_of 7 (life (says.Establishes first initial ∷ says.Brings first Zero one ∷ says.Establishes first initial ∷ says.Brings first Zero two ∷ says.Requests 7 initial ∷ []))
    ≡ Some (InOrder (record {
      due = record { rank = 0; message = one; frame = 2; is_optional = true } ∷ due 0 two 4 ∷ [];
      passed = passed_in 0 5 initial ∷ [];
      reached = 0;
    }))
early_before_another = refl

-- ---- whose channels are
assigned : view_at (life (begins first initial 7 90 ++ says.Assigns first 9 ∷ [])).channels (at 1 9) ≡ views.Owned 7 1
assigned = refl

assigned_elsewhere : view_at (life (begins first initial 7 90 ++ says.Assigns second 9 ∷ [])).channels (at 2 9) ≡ views.Unknown
assigned_elsewhere = refl

assigned_serves : option_map (λ c. c.serving) ((life (begins first initial 7 90 ++ says.Assigns first 9 ∷ says.Completes (at 1 9) Assignment ∷ [])).connections 7)
    ≡ Some (record { at = at 1 9; rank = 1 })
assigned_serves = refl

-- what isn't judged commands no mobile
unjudged_command : view_at (after_all (after_hole 5 (life (begins first initial 7 90))) (numbered_from 5 (says.Activates second (Some 5) ∷ says.HandsOver first target 16 5 ∷ []))).channels second
    ≡ views.Activated (Some 5)
unjudged_command = refl

released_old : view_at (life (moved ++ says.Released first ∷ [])).channels first ≡ views.Unknown
released_old = refl

released_serving : view_at (life (moved ++ says.Released second ∷ [])).channels second ≡ views.Owned 7 1
released_serving = refl

given_up_opened : view_at (life (says.Establishes first initial ∷ says.Releases first ∷ [])).channels first ≡ views.Unknown
given_up_opened = refl

given_up_activated : view_at (life (says.Activates second (Some 5) ∷ says.Releases second ∷ [])).channels second ≡ views.Unknown
given_up_activated = refl

not_given_up : view_at (life (begins first initial 7 90 ++ says.Releases first ∷ [])).channels first ≡ views.Owned 7 1
not_given_up = refl

-- an initial message on a channel that was activated for a handover, or is a connection's
not_opened_for_handover : view_at (life (says.Activates second (Some 5) ∷ says.Establishes second initial ∷ [])).channels second ≡ views.Activated (Some 5)
not_opened_for_handover = refl

not_opened_again : view_at (life (begins first initial 7 90 ++ says.Establishes first one ∷ [])).channels first ≡ views.Owned 7 1
not_opened_again = refl

-- once the connection has ended the channel is open to others
opened_after : view_at (life (begins first initial 7 90 ++ says.Ends 7 ∷ says.Establishes first one ∷ [])).channels first
    ≡ views.Opened (record { message = one; frame = 6; early = [] })
opened_after = refl

-- ---- connections that aren't judged

-- two connections with one reference of the switch: the second CC is frame 8
abbrev sharing : List Said
sharing = begins first initial 7 90 ++ begins second one 9 90

shared_first : unjudged_of 7 (life sharing) ≡ Some (Some (record { reason = reasons.SharedReference; frame = 8 }))
shared_first = refl

shared_second : unjudged_of 9 (life sharing) ≡ Some (Some (record { reason = reasons.SharedReference; frame = 8 }))
shared_second = refl

shared_name : (life sharing).by_switch 90 ≡ Some Shared
shared_name = refl

-- once the first has ended the reference is the second one's alone
not_shared : unjudged_of 9 (life (begins first initial 7 90 ++ says.Ends 7 ∷ begins second one 9 90)) ≡ Some None
not_shared = refl

not_shared_name : (life (begins first initial 7 90 ++ says.Ends 7 ∷ begins second one 9 90)).by_switch 90 ≡ Some (One 9)
not_shared_name = refl

not_shared_other : (life (begins first initial 7 90 ++ begins second one 9 91)).by_switch 90 ≡ Some (One 7)
not_shared_other = refl

-- two mobiles sent the same initial message, or none did
two_beginnings : unjudged_of 7 (life (says.Establishes first initial ∷ says.Establishes second initial ∷ says.Requests 7 initial ∷ []))
    ≡ Some (Some (record { reason = reasons.TwoBeginnings; frame = 3 }))
two_beginnings = refl

no_beginning : unjudged_of 7 (life (says.Establishes first initial ∷ says.Establishes second initial ∷ says.Requests 7 one ∷ []))
    ≡ Some (Some (record { reason = reasons.NoBeginning; frame = 3 }))
no_beginning = refl

one_beginning : unjudged_of 7 (life (says.Establishes first one ∷ says.Establishes second initial ∷ says.Requests 7 one ∷ [])) ≡ Some None
one_beginning = refl

one_owner : view_at (life (says.Establishes first one ∷ says.Establishes second initial ∷ says.Requests 7 one ∷ [])).channels first ≡ views.Owned 7 1
one_owner = refl

-- a COMMAND that names no channel that was activated for it, by the number and by the reference
unknown_number : unjudged_of 7 (life (begins first initial 7 90 ++ says.Activates second (Some 5) ∷ says.HandsOver first target 17 5 ∷ []))
    ≡ Some (Some (record { reason = reasons.UnknownChannel; frame = 6 }))
unknown_number = refl

unknown_reference : unjudged_of 7 (life (begins first initial 7 90 ++ says.Activates second (Some 5) ∷ says.HandsOver first target 16 6 ∷ []))
    ≡ Some (Some (record { reason = reasons.UnknownChannel; frame = 6 }))
unknown_reference = refl

two_channels : unjudged_of 7 (life (begins first initial 7 90 ++ says.Activates second (Some 5) ∷ says.Activates (at 3 16) (Some 5) ∷ says.HandsOver first target 16 5 ∷ []))
    ≡ Some (Some (record { reason = reasons.TwoChannels; frame = 7 }))
two_channels = refl

-- the switch sends an ASSIGNMENT COMMAND as DTAP, or another message of radio resource management
command_of_switch : unjudged_of 7 (life (begins first initial 7 90 ++ says.Transfers 7 Zero (hex "06 2e 41 c2 14 07") ∷ []))
    ≡ Some (Some (record { reason = reasons.CommandOfSwitch; frame = 5 }))
unfolding rr_reading typed_at rr_type assignment_command_at three_at octet_at
command_of_switch = refl

radio_resource : unjudged_of 7 (life (begins first initial 7 90 ++ says.Transfers 7 Zero (hex "06 0d 00") ∷ [])) ≡ Some None
unfolding rr_reading typed_at rr_type cause_at octet_at
radio_resource = refl

radio_resource_order : down_of 7 (life (begins first initial 7 90 ++ says.Transfers 7 Zero (hex "06 0d 00") ∷ [])) ≡ Some (InOrder (record { due = []; passed = []; reached = 0 }))
unfolding rr_reading typed_at rr_type cause_at octet_at
radio_resource_order = refl

-- frames are missing before frame 12: a message that is lost there isn't seen
hole : unjudged_of 7 (after_hole 12 (life moved)) ≡ Some (Some (record { reason = reasons.Hole; frame = 12 }))
hole = refl

behind_hole : up_of 7 (after_all (after_hole 12 (life moved)) (numbered_from 12 (says.Passes 90 Zero three ∷ [])))
    ≡ Some (InOrder (record { due = due 0 two 11 ∷ due 1 three 10 ∷ []; passed = passed_in 0 3 initial ∷ passed_in 0 6 one ∷ []; reached = 0 }))
behind_hole = refl

-- ---- a message outside a tenure of its channel isn't the controller's fault, whatever becomes of it
outside : option_map (λ c. c.outside) ((life (moved ++ says.Passes 90 Zero two ∷ says.Released first ∷ says.Brings first Zero three ∷ [])).connections 7)
    ≡ Some None
outside = refl

-- on the channel to which it was commanded and didn't come, it is the station's
on_a_channel_left : option_map (λ c. c.outside) ((life (commanded ++ says.Fails first Handover ∷ says.Brings second Zero two ∷ [])).connections 7) ≡ Some (Some 10)
on_a_channel_left = refl

on_a_channel_left_unjudged : unjudged_of 7 (life (commanded ++ says.Fails first Handover ∷ says.Brings second Zero two ∷ []))
    ≡ Some (Some (record { reason = reasons.OutsideTenure; frame = 10 }))
on_a_channel_left_unjudged = refl

-- on the channel that is commanded, before the mobile's COMPLETE, it is nobody's
too_early : option_map (λ c. c.outside) ((life (commanded ++ says.Brings second Zero two ∷ [])).connections 7) ≡ Some None
too_early = refl

too_early_unjudged : unjudged_of 7 (life (commanded ++ says.Brings second Zero two ∷ [])) ≡ Some (Some (record { reason = reasons.BeforeComplete; frame = 9 }))
too_early_unjudged = refl

too_early_order : up_of 7 (life (commanded ++ says.Brings second Zero two ∷ []))
    ≡ Some (InOrder (record { due = []; passed = passed_in 0 3 initial ∷ passed_in 0 6 one ∷ []; reached = 0 }))
too_early_order = refl

-- ---- connections end
ended : all_ended (new_judging 4 []) (numbered_from 1 (begins first initial 7 90 ++ says.Ends 9 ∷ says.Refuses 7 ∷ [])) ≡ []
ended = refl

refused : option_map (λ c. c.number) ((life (says.Establishes first initial ∷ says.Requests 7 initial ∷ says.Refuses 7 ∷ [])).connections 7) ≡ None
refused = refl

-- a CR that takes the reference of an open connection
taken_over : option_map (λ c. c.number) ((life (begins first initial 7 90 ++ says.Establishes second one ∷ says.Requests 7 one ∷ [])).connections 7) ≡ Some 2
taken_over = refl

taken_over_name : (life (begins first initial 7 90 ++ says.Establishes second one ∷ says.Requests 7 one ∷ [])).by_switch 90 ≡ None
taken_over_name = refl

-- ---- channels
abbrev channels : List (List ChannelView)
channels =
    with_view (at 2 3) (views.Activated (Some 5)) (with_view (at 1 2) (views.Opened (record { message = initial; frame = 1; early = [] }))
    (with_view (at 1 3) (views.Activated (Some 5)) (with_view (at 0 2) (views.Opened (record { message = initial; frame = 2; early = [] }))
    (with_view (at 0 3) (views.Activated None) []))))

viewed : view_at channels (at 1 2) ≡ views.Opened (record { message = initial; frame = 1; early = [] })
viewed = refl

viewed_short : view_at channels (at 2 4) ≡ views.Unknown
viewed_short = refl

viewed_low : view_at channels (at 1 0) ≡ views.Unknown
viewed_low = refl

viewed_beyond : view_at channels (at 3 2) ≡ views.Unknown
viewed_beyond = refl

opened_ones : opened_channels initial channels ≡ at 0 2 ∷ at 1 2 ∷ []
opened_ones = refl

opened_other : opened_channels one channels ≡ []
opened_other = refl

offered_ones : offered_channels 3 5 channels ≡ at 1 3 ∷ at 2 3 ∷ []
offered_ones = refl

offered_number : offered_channels 2 5 channels ≡ []
offered_number = refl

offered_reference : offered_channels 3 6 channels ≡ []
offered_reference = refl
