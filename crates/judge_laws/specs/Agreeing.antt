-- SPDX-License-Identifier: MIT OR Apache-2.0
-- An open connection of the controller and a judge's state of the connection agree, row by row.
use Rattle.std.specs.Prelude.{◌≡◌, ℕ, ◌+◌, ◌≤◌, ◌<◌, nat_le, true, false, if◌then◌else◌}
use Rattle.std.specs.Prelude.{List, [], ◌∷◌, ◌++◌, filter, map, Option, Some, None}
use Rattle.std.specs.List.{AllByRecursion}
use Rattle.conn_messages.specs.declared.channel.Channel.{Channel}
use Rattle.conn_messages.specs.declared.channel.Place.{Place}
use Rattle.conn_messages.specs.declared.message.Message.{Message}
use Rattle.conn_rules.specs.Connection.{Connection}
use Rattle.conn_rules.specs.declared.input.Input.{Input}
use Rattle.conn_rules.specs.declared.state.Stage.TheVariants.{Changing}
use Rattle.conn_rules.specs.declared.state.State.{State}
use Rattle.conn_rules.specs.declared.state.State.TheVariants.{Live, WaitConfirm}
use Rattle.conn_rules.specs.Steps.{Row}
use Rattle.conn_rules.specs.Streams.{AreApart, IsOpen, handed, is_dtap, relayed, still_to_relay}
use Rattle.conn_rules.specs.Streams.{undone, used_channels, without_rejected}
use Rattle.conn_rules.specs.Table.{row_of}
use Rattle.conn_rules.specs.Validity.{IsValid}
use Rattle.dtap_codec.specs.declared.sapi.Sapi.{Sapi}
use Rattle.dtap_codec.specs.declared.sapi.Sapi.TheVariants.{Zero, Three}
use Rattle.hold_queue.specs.HoldState.{messages}
use Rattle.run_judge.specs.declared.connection.Awaited.{Awaited}
use Rattle.run_judge.specs.declared.connection.Flows.{Flows}
use Rattle.run_judge.specs.declared.connection.Tenure.{Tenure}
use Rattle.run_judge.specs.declared.flow.Due.{Due}
use Rattle.run_judge.specs.declared.flow.Order.TheVariants.{InOrder}
use Rattle.run_judge.specs.declared.said.Said.{Said}
use Rattle.run_judge.specs.declared.said.Said.TheVariants as says
use Rattle.run_judge.specs.Connection.{cleared, handed as handed_on, managed, passed_up}
use Rattle.run_judge.specs.Connection.{rejected_down}
use Rattle.run_judge.specs.ConnectionState.{ConnectionState}
use Rattle.run_judge.specs.FlowState.{FlowState}
use Rattle.run_judge.specs.Judging.{Numbered}
use Rattle.run_judge.specs.StreamState.{StreamState}
use Rattle.judge_laws.specs.Places.{at_of, spot}
use Rattle.judge_laws.specs.Saying.{said_of}

abbrev pub Messages : Type 0
Messages = List (List ℕ)

-- The messages that may still arrive on each channel.
abbrev pub Future : Type 0
Future = Place → Messages

abbrev pub texts : List Due → Messages
texts ds = map (λ d. d.message) ds

-- `upto`: the due messages at the front that have the rank `rank` or a lower rank. `beyond`: the
-- due messages after these.
abbrev pub upto : ℕ → List Due → List Due
upto rank [] = []
upto rank (d ∷ ds) = if nat_le d.rank rank then d ∷ upto rank ds else []

abbrev pub beyond : ℕ → List Due → List Due
beyond rank [] = []
beyond rank (d ∷ ds) = if nat_le d.rank rank then beyond rank ds else d ∷ ds

-- For each tenure in turn: the due messages of the tenure, then the messages that may still arrive
-- on its channel.
abbrev pub line : Future → List Tenure → List Due → Messages
line future [] ds = texts ds
line future (t ∷ ts) ds =
    texts (upto t.rank ds) ++ (future (spot t.at) ++ line future ts (beyond t.rank ds))

abbrev pub IsFrom : ℕ → Tenure → Type 0
IsFrom rank t = rank ≤ t.rank

-- The message is optional and has rank 0.
abbrev pub IsOptional : Due → Type 0
IsOptional d = (d.is_optional ≡ true) × (d.rank ≡ 0)

abbrev pub IsRequired : Due → Type 0
IsRequired d = d.is_optional ≡ false

-- The flow has no fault. Its due messages are some optional messages, then the messages `held`,
-- which aren't optional. No message with a rank above `low` was passed on.
pub record Carries (f : FlowState) (held : List Due) (low : ℕ) : Type 0 where
  pub stream : StreamState
  pub is : f.order ≡ InOrder stream
  pub optional : List Due
  pub due : stream.due ≡ optional ++ held
  pub may : AllByRecursion IsOptional optional
  pub must : AllByRecursion IsRequired held
  pub reached : stream.reached ≤ low

abbrev pub flow_of : Sapi → Flows → FlowState
flow_of Zero flows = flows.zero
flow_of Three flows = flows.three

-- The messages that `outs` hand to the mobile, followed by the messages that are held afterwards
-- (`rest`), are the due messages without those that a SAPI "n" REJECT in `outs` drops.
pub record DownIs (sapi : Sapi) (rest : Messages) (outs : List Message) (f : FlowState)
    : Type 0 where
  pub held : List Due
  pub carries : Carries f held 0
  pub zero : AllByRecursion (λ (d : Due). d.rank ≡ 0) held
  pub are : handed sapi outs ++ rest ≡ without_rejected sapi outs (texts held)

-- The messages that are still to be relayed (`rest`) are, tenure by tenure, the due messages and
-- the messages that may still arrive.
pub record UpAgrees (rest : Future → Messages) (lines : List Tenure) (far : ℕ) (f : FlowState)
    : Type 0 where
  pub held : List Due
  pub low : ℕ
  pub carries : Carries f held low
  pub from : AllByRecursion (IsFrom low) lines
  pub within : AllByRecursion (λ (d : Due). d.rank ≤ far) held
  pub are : (future : Future) → rest future ≡ line future lines held

abbrev pub IsRising : List Tenure → Type 0
IsRising [] = Unit {0}
IsRising (t ∷ ts) = AllByRecursion (λ (u : Tenure). t.rank < u.rank) ts × IsRising ts

-- The channel to which the mobile was commanded, while the connection changes its channel.
abbrev pub awaited_in : State → Option Awaited
awaited_in (Live reference (Changing target)) =
    Some (record { at = at_of target.channel; change = target.change })
awaited_in _ = None

-- The tenures in the order in which their channels serve. The tenure of the awaited channel is
-- last.
abbrev pub lines_by : List Tenure → Tenure → Option Awaited → List Tenure
lines_by old serving None = old ++ serving ∷ []
lines_by old serving (Some a) =
    (old ++ serving ∷ []) ++ record { at = a.at; rank = serving.rank + 1 } ∷ []

abbrev pub lines_of : ConnectionState → List Tenure
lines_of c = lines_by c.former c.serving c.awaited

-- The messages of the switch that the controller holds are the due messages.
pub record DownAgrees (holds : Messages) (f : FlowState) : Type 0 where
  pub held : List Due
  pub carries : Carries f held 0
  pub zero : AllByRecursion (λ (d : Due). d.rank ≡ 0) held
  pub are : holds ≡ texts held

-- An open connection of the controller and a judge's state of it agree: the channels are the same,
-- no flow has a fault, and the due messages are those that are held or may still be relayed,
-- whatever arrives (`Future`).
pub record Agrees (s : Connection) (c : ConnectionState) : Type 0 where
  pub at : c.serving.at ≡ at_of s.serving
  pub old : map (λ (t : Tenure). t.at) c.former ≡ map at_of (undone s.draining)
  pub awaited : c.awaited ≡ awaited_in s.state
  pub rising : IsRising (c.former ++ c.serving ∷ [])
  pub up : (sapi : Sapi) → UpAgrees (λ future. still_to_relay sapi future s) (lines_of c)
      c.serving.rank (flow_of sapi c.up)
  pub down : (sapi : Sapi)
      → DownAgrees (filter is_dtap (messages s.down sapi)) (flow_of sapi c.down)
  pub is_open : c.is_cleared ≡ false

-- The judge's connection after the row's input and before the row's messages. The channels are
-- those after the row, including the target of the row's COMMAND, if there is one. The due messages
-- are those that the row relays and hands, then those that are still to be relayed or are held
-- after the row.
pub record Prepared (r : Row) (c : ConnectionState) : Type 0 where
  pub at : c.serving.at ≡ at_of r.next.serving
  pub old : map (λ (t : Tenure). t.at) c.former ≡ map at_of (undone r.next.draining)
  pub awaited : c.awaited ≡ awaited_in r.next.state
  pub rising : IsRising (c.former ++ c.serving ∷ [])
  pub up : (sapi : Sapi)
      → UpAgrees (λ future. relayed sapi r.outs ++ still_to_relay sapi future r.next) (lines_of c)
      c.serving.rank (flow_of sapi c.up)
  pub down : (sapi : Sapi) → DownIs sapi (filter is_dtap (messages r.next.down sapi)) r.outs
      (flow_of sapi c.down)
  pub is_open : c.is_cleared ≡ false

-- A row of a valid connection whose channels differ and that is open before and after the row.
pub record IsOpenRow (s : Connection) (input : Input) (offer : Option Channel) (r : Row)
    : Type 0 where
  pub fits : row_of s input offer ≡ Some r
  pub valid : IsValid s
  pub apart : AreApart (used_channels s)
  pub was_open : IsOpen s.state
  pub is_open : IsOpen r.next.state

-- The connection after what one of its messages says. A COMMAND changes nothing here, because
-- `Prepared` includes the effect of the COMMAND.
abbrev pub told : ℕ → ℕ → Said → ConnectionState → ConnectionState
told m frame (says.Passes destination sapi message) c = passed_up m sapi message frame c
told m frame (says.Rejects destination) c = rejected_down frame c
told m frame (says.Clears destination) c = cleared frame c
told m frame (says.Manages destination) c = managed frame c
told m frame (says.Hands at sapi message) c = handed_on at sapi message frame c
told m frame _ c = c

-- The connection after what these frames say, one after the other.
abbrev pub tells : ℕ → List Numbered → ConnectionState → ConnectionState
tells m [] c = c
tells m (n ∷ ns) c = tells m ns (told m n.frame n.said c)

-- The number, the references, the channels, and whether the connection is cleared or judged are
-- unchanged.
pub record Remains (c after : ConnectionState) : Type 0 where
  pub number : after.number ≡ c.number
  pub reference : after.reference ≡ c.reference
  pub switch : after.switch ≡ c.switch
  pub serving : after.serving ≡ c.serving
  pub old : after.former ≡ c.former
  pub awaited : after.awaited ≡ c.awaited
  pub is_cleared : after.is_cleared ≡ c.is_cleared
  pub unjudged : after.unjudged ≡ c.unjudged

-- The switch was asked for the connection, and the connection is open.
abbrev pub IsAsked : State → Type 0
IsAsked WaitConfirm = Unit {0}
IsAsked (Live reference stage) = Unit {0}
IsAsked _ = ⊥

-- ---- the claim

-- For any numbers of the frames and any modulus: a judge's connection that has read the row's
-- messages agrees with the controller's connection after the row. Assumes: the row is an open row,
-- the switch was asked for the connection, and the judge's connection was prepared for the row.
abbrev pub RowsAgree : Type 0
RowsAgree = (modulus number : ℕ) (frames : List Numbered) (s : Connection) (input : Input)
    (offer : Option Channel) (r : Row) (c : ConnectionState)
    → map (λ n. n.said) frames ≡ map (said_of number) r.outs → IsOpenRow s input offer r
    → IsAsked s.state → Prepared r c
    → Agrees r.next (tells modulus frames c) × Remains c (tells modulus frames c)
