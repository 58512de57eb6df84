-- SPDX-License-Identifier: MIT OR Apache-2.0
-- What holds of a controller and a judge still holds when the controller changes only parts that a
-- judge doesn't see: counters, links, averages, times.
use Rattle.std.proofs.Common.{◌≡◌, ℕ, Option, Some, None, refl, sym, subst, ap, ◌∙◌, option_map}
use Rattle.conn_messages.specs.declared.channel.Place.{Place}
use Rattle.conn_rules.specs.Connection.{Connection}
use Rattle.conn_rules.specs.Timers.{after_pass}
use Rattle.controller_model.specs.declared.channel_state.ChannelState.TheVariants.{InUse}
use Rattle.controller_model.specs.Controller.{Controller, Entry, entry_of, freed, ignoring, state_in, with_down}
use Rattle.controller_model.specs.Life.{aged, all_aged}
use Rattle.controller_model.specs.LifeLaws.History.{connection_of}
use Rattle.controller_model.proofs.LifeLaws.UsingWords.{free_use}
use Rattle.controller_model.proofs.Others.{all_age}
use Rattle.run_judge.specs.ConnectionState.{ConnectionState}
use Rattle.run_judge.specs.Judging.{Judging}
use Rattle.judge_laws.proofs.Fine.{AreFine, IsCalled, IsEarly, IsFine, IsJudged, IsUnasked, IsUnconfirmed}
use Rattle.judge_laws.proofs.StepFine.{KeepsFine, nothing_keeps}
use Rattle.judge_laws.specs.Agreeing.{Agrees}
use Rattle.judge_laws.specs.Places.{spot}

-- the same connections, and no channel more in use
pub same_fine : (c next : Controller) (j : Judging) →
    ((n : ℕ) → connection_of next n ≡ connection_of c n) →
    next.next_number ≡ c.next_number →
    ((at : Place) (n : ℕ) → state_in next.channels at ≡ InUse n → state_in c.channels at ≡ InUse n) →
    AreFine c j →
    AreFine next j
same_fine c next j same numbers using fine = record {
  each = λ n. one n (fine.each n);
  owners = λ at n m number used view. fine.owners at n m number (using (spot at) n used) view;
}
  where
    one : (n : ℕ) → IsFine c j n → IsFine next j n
    one n fine = record {
      unasked = λ un. fine.unasked (subst (λ (k : ℕ). IsUnasked k n (connection_of c n)) numbers (subst (IsUnasked next.next_number n) (same n) un));
      well = fine.well;
      judged = λ s k is. fine.judged s k (sym (same n) ∙ is);
      named = λ s reference is. fine.named s reference (sym (same n) ∙ is);
      unconfirmed = λ s k is. fine.unconfirmed s k (sym (same n) ∙ is);
      present = λ s is. fine.present s (sym (same n) ∙ is);
      access = λ s is. fine.access s (sym (same n) ∙ is);
      offered = λ s reference target is. fine.offered s reference target (sym (same n) ∙ is);
      assigned = λ s reference target is. fine.assigned s reference target (sym (same n) ∙ is);
    }

pub ignoring_keeps : (c : Controller) (j : Judging) → AreFine c j → KeepsFine (ignoring c) j
ignoring_keeps c j fine = nothing_keeps (ignoring c).next j (same_fine c (ignoring c).next j (λ n. refl) refl (λ at n is. is) fine)

pub freed_fine : (at : Place) (c : Controller) (j : Judging) → AreFine c j → AreFine (freed at c) j
freed_fine at c j fine = same_fine c (freed at c) j (λ n. refl) refl (λ other n is. free_use at other c.channels (InUse n) (λ same. absurd cc) is) fine

pub down_fine : (source : ℕ) (c : Controller) (j : Judging) → AreFine c j → AreFine (with_down source c) j
down_fine source c j fine = same_fine c (with_down source c) j (λ n. refl) refl (λ at n is. is) fine

-- ---- time passes

aged_agrees : (ms : ℕ) (s : Connection) (k : ConnectionState) → Agrees s k → Agrees (after_pass ms s) k
aged_agrees ms s k agrees = record { at = agrees.at; old = agrees.old; awaited = agrees.awaited; rising = agrees.rising; up = agrees.up; down = agrees.down; is_open = agrees.is_open }

aged_judged : (ms n : ℕ) (s : Connection) (k : ConnectionState) (j : Judging) → IsJudged n s k j → IsJudged n (after_pass ms s) k j
aged_judged ms n s k j judged = record {
  agrees = λ asked. aged_agrees ms s k (judged.agrees asked);
  owned = judged.owned;
  uncleared = judged.uncleared;
  called = judged.called;
  commandless = judged.commandless;
}

-- as it was before
record Was (ms : ℕ) (o : Option Connection) (s : Connection) : Type 0 where
  pub old : Connection
  pub there : o ≡ Some old
  pub is : s ≡ after_pass ms old

was_one : (ms : ℕ) (o : Option Entry) (s : Connection) →
    option_map (λ (e : Entry). e.connection) (option_map (aged ms) o) ≡ Some s →
    Was ms (option_map (λ (e : Entry). e.connection) o) s
was_one ms None s is = absurd cc
was_one ms (Some e) s is = record { old = e.connection; there = refl; is = of is }
  where
    of : (let o : Option Connection = Some (after_pass ms e.connection) in o) ≡ Some s → s ≡ after_pass ms e.connection
    of is = cc

unasked_was : (ms next n : ℕ) (o : Option Entry) →
    IsUnasked next n (option_map (λ (e : Entry). e.connection) (option_map (aged ms) o)) →
    IsUnasked next n (option_map (λ (e : Entry). e.connection) o)
unasked_was ms next n None un = un
unasked_was ms next n (Some e) un = un

pub aged_fine : (ms : ℕ) (c : Controller) (j : Judging) → AreFine c j → AreFine (all_aged ms c) j
aged_fine ms c j fine = record { each = λ n. one n (fine.each n); owners = fine.owners }
  where
    was : (n : ℕ) (s : Connection) → connection_of (all_aged ms c) n ≡ Some s → Was ms (connection_of c n) s
    was n s is = was_one ms (entry_of c n) s (sym (ap (option_map (λ (e : Entry). e.connection)) (all_age n ms c)) ∙ is)

    one : (n : ℕ) → IsFine c j n → IsFine (all_aged ms c) j n
    one n fine = record {
      unasked = λ un. fine.unasked (unasked_was ms c.next_number n (entry_of c n) (subst (IsUnasked c.next_number n) (ap (option_map (λ (e : Entry). e.connection)) (all_age n ms c)) un));
      well = fine.well;
      judged = λ s k is there judged. (let w = was n s is in subst (λ (x : Connection). IsJudged n x k j) (sym w.is) (aged_judged ms n w.old k j (fine.judged w.old k w.there there judged)));
      named = λ s reference is called. (let w = was n s is in fine.named w.old reference w.there (subst (λ (x : Connection). IsCalled reference x.state) w.is called));
      unconfirmed = λ s k is un. (let w = was n s is in fine.unconfirmed w.old k w.there (subst (λ (x : Connection). IsUnconfirmed x.state) w.is un));
      present = λ s is un. (let w = was n s is in fine.present w.old w.there (subst (λ (x : Connection). IsUnconfirmed x.state) w.is un));
      access = λ s is early. (let w = was n s is in rw w.is (fine.access w.old w.there (subst (λ (x : Connection). IsEarly x.state) w.is early)));
      offered = λ s reference target is state. (let w = was n s is in fine.offered w.old reference target w.there (sym (ap (λ (x : Connection). x.state) w.is) ∙ state));
      assigned = λ s reference target is state change. (let w = was n s is in fine.assigned w.old reference target w.there (sym (ap (λ (x : Connection). x.state) w.is) ∙ state) change ∙ sym (ap (λ (x : Connection). x.serving.station) w.is));
    }
