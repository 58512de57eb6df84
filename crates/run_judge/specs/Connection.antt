-- SPDX-License-Identifier: MIT OR Apache-2.0
-- How the frames of a connection change its channels and its flows.
use Rattle.std.specs.Prelude.{ℕ, ◌+◌, ◌%◌, ◌==◌, ◌&&◌, not, Bool, true, false}
use Rattle.std.specs.Prelude.{if◌then◌else◌, option_map, Result, Ok}
use Rattle.std.specs.Prelude.{List, [], ◌∷◌, ◌++◌, filter, fold, Option, Some, None}
use Rattle.std.specs.Option.{is_none}
use Rattle.conn_messages.specs.declared.channel.Change.{Change}
use Rattle.conn_messages.specs.declared.channel.Change.TheVariants.{Assignment, Handover}
use Rattle.dtap_codec.specs.declared.rr.RrMessage.{RrMessage}
use Rattle.dtap_codec.specs.declared.rr.RrMessage.TheVariants as rr
use Rattle.dtap_codec.specs.declared.rr_fault.RrFault.{RrFault}
use Rattle.dtap_codec.specs.declared.sapi.Sapi.{Sapi}
use Rattle.dtap_codec.specs.declared.sapi.Sapi.TheVariants.{Zero, Three}
use Rattle.dtap_codec.specs.Number.{number_in}
use Rattle.dtap_codec.specs.RrReading.{rr_reading}
use Rattle.nsd_filter.specs.declared.verdict.Verdict.{Verdict}
use Rattle.nsd_filter.specs.declared.verdict.Verdict.TheVariants.{Accept, Duplicate, Gap}
use Rattle.nsd_filter.specs.Judgement.{judgement, progress_by}
use Rattle.run_judge.specs.declared.channels.Early.{Early}
use Rattle.run_judge.specs.declared.connection.Awaited.{Awaited}
use Rattle.run_judge.specs.declared.connection.Counts.{Counts}
use Rattle.run_judge.specs.declared.connection.Flows.{Flows}
use Rattle.run_judge.specs.declared.connection.Reason.{Reason}
use Rattle.run_judge.specs.declared.connection.Reason.TheVariants as reasons
use Rattle.run_judge.specs.declared.connection.Tenure.{Tenure}
use Rattle.run_judge.specs.declared.connection.Unjudged.{Unjudged}
use Rattle.run_judge.specs.declared.fault.Fault.{Fault}
use Rattle.run_judge.specs.declared.fault.Fault.TheVariants as faults
use Rattle.run_judge.specs.declared.flow.Due.{Due}
use Rattle.run_judge.specs.declared.said.StationChannel.{StationChannel}
use Rattle.run_judge.specs.ConnectionState.{ConnectionState}
use Rattle.run_judge.specs.Flow.{HasNoFault, arrived, begun_flow, counted, is_in_order}
use Rattle.run_judge.specs.Flow.{is_repetition, new_flow, passed_on, passed_wrongly, rejected}
use Rattle.run_judge.specs.Flow.{with_fault}
use Rattle.run_judge.specs.FlowState.{FlowState}
use Rattle.run_judge.specs.OpeningState.{OpeningState}
use Rattle.run_judge.specs.Reading.{is_dtap}

abbrev pub is_same : StationChannel → StationChannel → Bool
is_same at other = (at.station == other.station) && (at.number == other.number)

-- ---- flows by SAPI

abbrev pub with_flow : Sapi → (FlowState → FlowState) → Flows → Flows
with_flow Zero change flows = record flows { zero = change flows.zero }
with_flow Three change flows = record flows { three = change flows.three }

abbrev pub flow_of : Sapi → Flows → FlowState
flow_of Zero flows = flows.zero
flow_of Three flows = flows.three

-- ---- a connection begins

abbrev pub due_of : ℕ → List ℕ → ℕ → Due
due_of rank message frame =
    record { rank = rank; message = message; frame = frame; is_optional = false }

abbrev pub early_due : Early → Due
early_due e =
    record { rank = 0; message = e.message; frame = e.frame; is_optional = e.is_optional }

abbrev pub with_early : Flows → Early → Flows
with_early flows e = with_flow e.sapi (arrived (early_due e)) flows

-- A connection that begins on a channel with these uplink flows.
abbrev pub begun_with : ℕ → ℕ → StationChannel → Flows → ConnectionState
begun_with number reference at up = record {
  number = number;
  reference = reference;
  switch = None;
  serving = record { at = at; rank = 0 };
  former = [];
  awaited = None;
  up = up;
  down = record { zero = new_flow; three = new_flow };
  is_cleared = false;
  counts = record { accepted = 0; duplicates = 0; behind_gap = 0 };
  progress = Some 0;
  outside = None;
  mobile = None;
  unjudged = None;
}

-- A connection that begins on a channel with the initial message and the other messages of an
-- opening.
abbrev pub begun : ℕ → ℕ → StationChannel → OpeningState → ConnectionState
begun number reference at opening =
    begun_with number reference at (fold with_early (record {
      zero = begun_flow opening.message opening.frame;
      three = new_flow;
    }) opening.early)

-- ---- a connection that isn't judged: only its switch's reference changes afterwards

abbrev pub first_of : {A : Type 0} → Option A → A → Option A
first_of (Some first) next = Some first
first_of None next = Some next

abbrev pub unjudged_from : Reason → ℕ → ConnectionState → ConnectionState
unjudged_from reason frame c =
    record c { unjudged = first_of c.unjudged (record { reason = reason; frame = frame }) }

abbrev pub while_judged_of : Option Unjudged → (ConnectionState → ConnectionState)
    → ConnectionState → ConnectionState
while_judged_of None change c = change c
while_judged_of (Some unjudged) change c = c

abbrev pub while_judged : (ConnectionState → ConnectionState) → ConnectionState
    → ConnectionState
while_judged change c = while_judged_of c.unjudged change c

-- ---- a message of the mobile comes on a channel

abbrev pub old_rank : StationChannel → List Tenure → Option ℕ
old_rank at [] = None
old_rank at (t ∷ ts) = if is_same t.at at then Some t.rank else old_rank at ts

-- The rank of the channel's tenure. `None` if the channel neither serves nor is in `former`.
abbrev pub rank_of : StationChannel → ConnectionState → Option ℕ
rank_of at c = if is_same c.serving.at at then Some c.serving.rank else old_rank at c.former

-- Whether the channel is the commanded one, on which COMPLETE is outstanding.
abbrev pub is_early : StationChannel → Option Awaited → Bool
is_early at None = false
is_early at (Some a) = is_same a.at at

abbrev pub astray_reason : Bool → Reason
astray_reason true = reasons.BeforeComplete
astray_reason false = reasons.OutsideTenure

-- The frame of the first message outside a tenure. A message on the commanded channel (`true`)
-- doesn't count.
abbrev pub outside_from : Bool → ℕ → Option ℕ → Option ℕ
outside_from true frame outside = outside
outside_from false frame outside = first_of outside frame

abbrev pub brought_in : Option ℕ → StationChannel → Sapi → List ℕ → ℕ → ConnectionState
    → ConnectionState
brought_in (Some rank) at sapi message frame c =
    record c { up = with_flow sapi (arrived (due_of rank message frame)) c.up }
brought_in None at sapi message frame c =
    unjudged_from (astray_reason (is_early at c.awaited)) frame
    (record c { outside = outside_from (is_early at c.awaited) frame c.outside })

abbrev pub brought : StationChannel → Sapi → List ℕ → ℕ → ConnectionState → ConnectionState
brought at sapi message frame c = brought_in (rank_of at c) at sapi message frame c

-- ---- the channel of a connection changes

abbrev pub is_alike : Change → Change → Bool
is_alike Assignment Assignment = true
is_alike Handover Handover = true
is_alike one other = false

-- Whether a COMMAND on the channel counts: the channel serves, and the connection is judged.
abbrev pub may_command : StationChannel → ConnectionState → Bool
may_command at c = is_same c.serving.at at && is_none c.unjudged

abbrev pub commanded : StationChannel → Change → ConnectionState → ConnectionState
commanded at change c = record c { awaited = Some (record { at = at; change = change }) }

-- The commanded channel serves from the mobile's COMPLETE on.
abbrev pub moved : StationChannel → ConnectionState → ConnectionState
moved at c = record c {
  serving = record { at = at; rank = c.serving.rank + 1 };
  former = c.former ++ c.serving ∷ [];
  awaited = None;
}

abbrev pub completed_by : Option Awaited → StationChannel → Change → ConnectionState
    → ConnectionState
completed_by None at change c = c
completed_by (Some a) at change c =
    if is_same a.at at && is_alike a.change change then moved at c else c

abbrev pub completed : StationChannel → Change → ConnectionState → ConnectionState
completed at change c = completed_by c.awaited at change c

-- After the mobile's FAILURE the serving channel stays.
abbrev pub failed_by : Option Awaited → StationChannel → Change → ConnectionState
    → ConnectionState
failed_by None at change c = c
failed_by (Some a) at change c =
    if is_same c.serving.at at && is_alike a.change change then record c { awaited = None } else c

abbrev pub failed : StationChannel → Change → ConnectionState → ConnectionState
failed at change c = failed_by c.awaited at change c

-- The connection once the release of a former channel is acknowledged.
abbrev pub released : StationChannel → ConnectionState → ConnectionState
released at c = record c { former = filter (λ t. not (is_same t.at at)) c.former }

-- ---- how a switch judges the N(SD) of messages

abbrev pub with_verdict : Verdict → Counts → Counts
with_verdict Accept n = record n { accepted = counted n.accepted }
with_verdict Duplicate n = record n { duplicates = counted n.duplicates }
with_verdict Gap n = record n { behind_gap = counted n.behind_gap }

-- The number of accepted messages, modulo m.
abbrev pub reduced : ℕ → Option ℕ → Option ℕ
reduced m progress = option_map (λ accepted. accepted % m) progress

abbrev pub numbered_by : ℕ → Option ℕ → ConnectionState → ConnectionState
numbered_by m None c = c
numbered_by m (Some number) c = record c {
  counts = with_verdict (judgement m c.progress number) c.counts;
  progress = reduced m (progress_by (judgement m c.progress number) c.progress);
}

-- The switch judges the N(SD) of a message, if it has one; numbers are modulo m.
abbrev pub numbered : ℕ → List ℕ → ConnectionState → ConnectionState
numbered m message c = numbered_by m (number_in m message) c

-- ---- the mobile's numbers

-- Whether an N(SD) with this verdict isn't the mobile's next. A mobile may repeat only its last
-- message, and only if the message wasn't acknowledged (TS 24.007 clause 11.2.3.2.3).
abbrev pub is_wrong : Verdict → Bool → Bool
is_wrong Accept is_repeated = false
is_wrong Duplicate is_repeated = not is_repeated
is_wrong Gap is_repeated = true

abbrev pub is_wrong_number : ℕ → Option ℕ → Bool → Option ℕ → Bool
is_wrong_number m progress is_repeated None = false
is_wrong_number m progress is_repeated (Some number) =
    is_wrong (judgement m progress number) is_repeated

-- Whether the N(SD) of `message` isn't the one that the mobile has to use next in the flow.
abbrev pub is_misnumbered : ℕ → Option ℕ → List ℕ → FlowState → Bool
is_misnumbered m progress message flow =
    is_wrong_number m progress (is_repetition message flow.order) (number_in m message)

-- A wrong N(SD) is the mobile's fault as long as the controller keeps the order of the flow.
abbrev pub blamed : Sapi → ℕ → ConnectionState → ConnectionState
blamed sapi frame c =
    if is_in_order (flow_of sapi c.up).order then record c { mobile = first_of c.mobile frame }
    else c

abbrev pub blamed_if : Bool → Sapi → ℕ → ConnectionState → ConnectionState
blamed_if is_misnumbered sapi frame c = if is_misnumbered then blamed sapi frame c else c

-- ---- a message is passed on to the switch

abbrev pub sent_up : ℕ → Sapi → List ℕ → ℕ → ConnectionState → ConnectionState
sent_up m sapi message frame c =
    blamed_if (is_misnumbered m c.progress message (flow_of sapi c.up)) sapi frame
    (numbered m message (record c { up = with_flow sapi (passed_on message frame) c.up }))

-- Nothing may be sent after CLEAR COMPLETE: neither DTAP nor BSSMAP.
abbrev pub behind_clear : Sapi → List ℕ → ℕ → ConnectionState → ConnectionState
behind_clear sapi message frame c =
    record c { up = with_flow sapi (passed_wrongly (faults.BehindClear message frame)) c.up }

abbrev pub managed_behind_clear : ℕ → ConnectionState → ConnectionState
managed_behind_clear frame c =
    record c { up = with_flow Zero (with_fault (faults.BehindClear [] frame)) c.up }

abbrev pub passed_up : ℕ → Sapi → List ℕ → ℕ → ConnectionState → ConnectionState
passed_up m sapi message frame c =
    if c.is_cleared then behind_clear sapi message frame c else sent_up m sapi message frame c

abbrev pub managed : ℕ → ConnectionState → ConnectionState
managed frame c = if c.is_cleared then managed_behind_clear frame c else c

abbrev pub rejected_down : ℕ → ConnectionState → ConnectionState
rejected_down frame c =
    if c.is_cleared then managed_behind_clear frame c
    else record c { down = with_flow Three rejected c.down }

abbrev pub cleared : ℕ → ConnectionState → ConnectionState
cleared frame c =
    if c.is_cleared then managed_behind_clear frame c else record c { is_cleared = true }

-- A new connection. The switch got the initial message with the CR.
abbrev pub new_connection : ℕ → ℕ → ℕ → StationChannel → OpeningState → ConnectionState
new_connection m number reference at opening =
    numbered m opening.message (begun number reference at opening)

-- A new connection whose opening was seen on the channel. The mobile is blamed if the initial
-- message has an N(SD) other than 0.
abbrev pub opened_connection : ℕ → ℕ → ℕ → StationChannel → OpeningState → ConnectionState
opened_connection m number reference at opening =
    blamed_if (is_misnumbered m (Some 0) opening.message new_flow) Zero opening.frame
    (new_connection m number reference at opening)

-- ---- the switch's messages

abbrev pub confirmed : ℕ → ConnectionState → ConnectionState
confirmed source c = record c { switch = Some source }

-- The switch's messages count from CC on.
abbrev pub transferred_by : Option ℕ → Sapi → List ℕ → ℕ → ConnectionState → ConnectionState
transferred_by None sapi message frame c = c
transferred_by (Some source) sapi message frame c =
    record c { down = with_flow sapi (arrived (due_of 0 message frame)) c.down }

abbrev pub transferred : Sapi → List ℕ → ℕ → ConnectionState → ConnectionState
transferred sapi message frame c = transferred_by c.switch sapi message frame c

-- Whether a message is an ASSIGNMENT COMMAND or a HANDOVER COMMAND. Such a message of the switch
-- looks the same on the radio link as one of the controller. Other radio resource messages of the
-- switch are ignored.
abbrev pub is_command : Result RrMessage RrFault → Bool
is_command (Ok (rr.AssignmentCommand channel)) = true
is_command (Ok (rr.HandoverCommand cell channel reference)) = true
is_command _ = false

abbrev pub sent_down : Sapi → List ℕ → ℕ → ConnectionState → ConnectionState
sent_down sapi message frame c =
    if is_dtap message then transferred sapi message frame c
    else if is_command (rr_reading message) then unjudged_from reasons.CommandOfSwitch frame c
    else c

abbrev pub down_fault : Sapi → Fault → ConnectionState → ConnectionState
down_fault sapi fault c = record c { down = with_flow sapi (passed_wrongly fault) c.down }

-- Messages may be handed on the serving channel only, and not while the channel changes.
abbrev pub handed_by : Option Awaited → StationChannel → Sapi → List ℕ → ℕ → ConnectionState
    → ConnectionState
handed_by (Some a) at sapi message frame c =
    down_fault sapi (faults.HandedWhileChanging message frame) c
handed_by None at sapi message frame c =
    if is_same c.serving.at at
    then record c { down = with_flow sapi (passed_on message frame) c.down }
    else down_fault sapi (faults.HandedElsewhere message frame) c

abbrev pub handed : StationChannel → Sapi → List ℕ → ℕ → ConnectionState → ConnectionState
handed at sapi message frame c = handed_by c.awaited at sapi message frame c

-- ---- what the law says

-- The controller kept the order of each flow.
pub record IsWithoutFault (c : ConnectionState) : Type 0 where
  pub up_zero : HasNoFault c.up.zero
  pub up_three : HasNoFault c.up.three
  pub down_zero : HasNoFault c.down.zero
  pub down_three : HasNoFault c.down.three
