-- SPDX-License-Identifier: MIT OR Apache-2.0
-- A move is to a cell with a number, and the serving channel stays the same.
use Rattle.controller.proofs.Prelude.{◌≡◌, ◌≢◌, ℕ, Bool, true, false, List, [], ◌∷◌, Option, Some, None, refl, rules, Channel, State}
use Rattle.controller.proofs.Prelude.{WaitActivation, WaitEstablish, WaitConfirm, Live, Closed, Removed, Connection, Row, OfRow, Report}
use Rattle.conn_messages.specs.declared.channel.Change.TheVariants.{Handover}
use Rattle.conn_rules.specs.declared.input.Input.TheVariants as inputs
use Rattle.conn_rules.specs.declared.state.Stage.{Stage}
use Rattle.conn_rules.specs.Steps.{begin, may_begin}
use Rattle.conn_rules.specs.Table.{on_move, row_if, row_of}
use Rattle.controller_model.specs.Reports.{best, decision_over, decision_where, moving_to}
use Rattle.controller.specs.Offers.{HasCell}
use Rattle.ho_decision.specs.Decision.{is_due}
use Rattle.ho_decision.specs.Settings.{Settings}

moving_has : (o : Option ℕ) → HasCell (moving_to o)
moving_has None = tt
moving_has (Some place) = search rules

where_has : (b : Bool) (s : Settings) (reports : List Report) → HasCell (decision_where b s reports)
where_has true s reports = moving_has (best s reports)
where_has false s reports = tt

pub decision_has : (s : Settings) (reports : List Report) (number : ℕ) → HasCell (decision_over s reports number)
decision_has s [] number = tt
decision_has s (r ∷ rs) number = where_has (is_due s (r ∷ rs) number) s (r ∷ rs)

-- the connection remains, and the same channel serves
pub record KeepsServing (s : Connection) (r : Row) : Type 0 where
  pub number : r.next.number ≡ s.number
  pub serving : r.next.serving ≡ s.serving
  pub was : s.state ≢ Removed
  pub stays : r.next.state ≢ Removed

live_remains : (s : Connection) (reference : ℕ) (stage : Stage) → s.state ≡ Live reference stage → s.state ≢ Removed
live_remains s reference stage is removed = absurd (cc)

begun_keeps_serving : (s : Connection) (reference : ℕ) (stage : Stage) (offer : Option Channel) →
    s.state ≡ Live reference stage →
    KeepsServing s (begin reference Handover offer s)
begun_keeps_serving s reference stage None is = record { number = refl; serving = refl; was = live_remains s reference stage is; stays = live_remains s reference stage is }
begun_keeps_serving s reference stage (Some channel) is = record { number = refl; serving = refl; was = live_remains s reference stage is; stays = λ removed. absurd (cc) }

move_keeps_serving : (st : State) (s : Connection) (offer : Option Channel) → s.state ≡ st → OfRow (KeepsServing s) (on_move st s offer)
move_keeps_serving (Live reference stage) s offer is = row_if_keeps (may_begin stage s.draining) (begun_keeps_serving s reference stage offer is) where
  row_if_keeps : (b : Bool) {r : Row} → KeepsServing s r → OfRow (KeepsServing s) (row_if b r)
  row_if_keeps true h = h
  row_if_keeps false h = tt
move_keeps_serving WaitActivation s offer is = tt
move_keeps_serving WaitEstablish s offer is = tt
move_keeps_serving WaitConfirm s offer is = tt
move_keeps_serving (Closed clearing) s offer is = tt
move_keeps_serving Removed s offer is = tt

pub carries_on : (s : Connection) (offer : Option Channel) → OfRow (KeepsServing s) (row_of s inputs.Move offer)
unfolding row_of
carries_on s offer = move_keeps_serving s.state s offer refl
