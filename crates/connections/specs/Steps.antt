-- SPDX-License-Identifier: MIT OR Apache-2.0
-- What a call does to the connections and to the outputs.
use Rattle.std.specs.Prelude.{◌≡◌, ℕ, Bool, false, List, [], ◌++◌, Option, Some, None}
use Rattle.std.specs.Option.{is_some}
use Rattle.conn_fsm.specs.Doing.{IsAsPlanned, outs_in, AreSound}
use Rattle.conn_fsm.specs.PlanState.{PlanState}
use Rattle.conn_messages.specs.declared.channel.Channel.{Channel}
use Rattle.conn_messages.specs.declared.out.Out.{Out}
use Rattle.conn_rules.specs.declared.input.Input.{Input}
use Rattle.conn_rules.specs.Steps.{Row}
use Rattle.conn_rules.specs.Table.{row_of}
use Rattle.controller_model.specs.Controller.{Entry, put_back}
use Rattle.controller_model.specs.Life.{entry_after, with_report}
use Rattle.dtap_codec.specs.declared.report.Report.{Report}
use Rattle.settings.specs.Parameters.{Parameters}

-- ---- one connection

-- the entry after the row; unchanged if there is no row
abbrev pub after_row : Parameters → Entry → Option Row → Entry
after_row p e None = e
after_row p e (Some r) = entry_after p e r

-- the row that fits the input; None if no row fits or there is no connection
abbrev pub row_at : Input → Option Channel → Option Entry → Option Row
row_at input offer None = None
row_at input offer (Some e) = row_of e.connection input offer

abbrev pub stepped : Parameters → Input → Option Channel → Entry → Entry
stepped p input offer e = after_row p e (row_of e.connection input offer)

abbrev pub number_at : Option Entry → ℕ
number_at None = 0
number_at (Some e) = e.connection.number

-- ---- all connections

-- the entries after the row of `e`, unchanged if there is no row; a removed connection isn't kept
abbrev pub all_after : Parameters → List Entry → Entry → Option Row → List Entry
all_after p es e None = es
all_after p es e (Some r) = put_back (entry_after p e r) es

-- the row is applied to `e` and its frames are appended to the outputs, and the messages of the row
-- are sound; without a row nothing changes
pub record DoesRow (p : Parameters) (e : Entry) (r : Option Row) (old new : List Entry)
    (outs outs_after : List Out) : Type 0 where
  pub entries : new ≡ all_after p old e r
  pub outputs : outs_after ≡ outs ++ outs_in r e.connection.number
  pub sound : AreSound r

pub record IsLeft (old new : List Entry) (outs outs_after : List Out) : Type 0 where
  pub entries : new ≡ old
  pub outputs : outs_after ≡ outs

-- the row of the connection that fits the input is applied; if there is no such row or no
-- connection, nothing changes
abbrev pub StepsFor : Parameters → Option Entry → Input → Option Channel → Bool →
    List Entry → List Entry → List Out → List Out → Type 0
StepsFor p None input offer fits old new outs outs_after =
    (fits ≡ false) × IsLeft old new outs outs_after
StepsFor p (Some e) input offer fits old new outs outs_after =
    (fits ≡ is_some (row_of e.connection input offer))
    × DoesRow p e (row_of e.connection input offer) old new outs outs_after

-- the connection exists, and the plan was made for this connection
abbrev pub IsPlanFor : PlanState → Option Entry → Type 0
IsPlanFor plan None = ⊥
IsPlanFor plan (Some e) = IsAsPlanned plan.was e.connection

abbrev pub CommitsFor : Parameters → Option Entry → Input →
    List Entry → List Entry → List Out → Type 0
CommitsFor p None input old new made = ⊥
CommitsFor p (Some e) input old new made =
    DoesRow p e (row_of e.connection input None) old new [] made

-- the entries once the report is added to the connection; unchanged if there is no connection
abbrev pub all_with_report : ℕ → Report → Option Entry → List Entry → List Entry
all_with_report number report None es = es
all_with_report number report (Some e) es = put_back (with_report number report e) es
