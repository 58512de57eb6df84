-- SPDX-License-Identifier: MIT OR Apache-2.0
-- The owners of channels after a frame.
use Rattle.controller_model.proofs.Prelude.{◌≡◌, ◌≢◌, ℕ, Bool, true, false, if◌then◌else◌, List, [], Option, Some, None, option_map, refl}
use Rattle.controller_model.proofs.Prelude.{sym, subst, ap, ◌∙◌, true≢false, cond-true, cond-false, and_parts, Channel, Place, Input}
use Rattle.controller_model.proofs.Prelude.{Preparing, State, WaitActivation, Live}
use Rattle.controller_model.proofs.Prelude.{Removed, Connection, drain_at, emptied, is_at, TargetRole, Roles, RoleStep}
use Rattle.controller_model.proofs.Prelude.{ChangesRoles, roles_of, target_role, after_step, awaits_at, end_messages, step_by, step_orders}
use Rattle.controller_model.proofs.Prelude.{leaves_at, unchanged, reverts, IsValid, Row, row, IsOpen, row_if, refuse, on_activation_nack}
use Rattle.controller_model.proofs.Prelude.{serving_after, Report, Decision, Stay, Move, RequestReference, is_some, changes_roles_row}
use Rattle.controller_model.proofs.Prelude.{ChangesRolesBy, target_orders, connection_of, IsNumbered, AreRising, Owns, OwnsOpen, Sdcch, Tch}
use Rattle.controller_model.proofs.Prelude.{ChannelState, Free, InUse, Releasing, Word, Nothing, Ping, Asks, OnChannel, Reports}
use Rattle.controller_model.proofs.Prelude.{OnConnection, access_channel, assignment_offer, handover_offer, request_offer, kind_of}
use Rattle.controller_model.proofs.Prelude.{Controller, Entry, Turn, turn, ignoring, entry_of, with_entry, channel_state, freed, holder}
use Rattle.controller_model.proofs.Prelude.{place_of, with_state, by_fitting, concerning, concerning_too, entry_at, fits, frees, given}
use Rattle.controller_model.proofs.Prelude.{may_open, measured, measures, new_entry, on_decision, on_freed, on_report, on_state, on_word}
use Rattle.controller_model.proofs.Prelude.{row_in, with_connection, with_report, is_measured, decision_over}
use Rattle.conn_rules.specs.declared.input.Input.TheVariants as inputs
use Rattle.conn_rules.specs.Table.{row_of}
use Rattle.controller_model.proofs.LifeLaws.Entries.{back_over, back_found, back_rising, behind_found, behind_over, find_below, found_number}
use Rattle.controller_model.proofs.LifeLaws.Owning.{IsOffered, acknowledged_owns, other_set, refused_owns}
use Rattle.controller_model.proofs.LifeLaws.OwningRows.{StepOwns, ends_mine, orders_after, silent_owns, step_owns}
use Rattle.controller_model.proofs.LifeLaws.OwningRows.IsMine.{free}
use Rattle.controller_model.proofs.LifeLaws.OwningSteps.{IsShaped, RowOwns, by_row_owns, has_target, offered_free, shaped_fold, shaped_set}
use Rattle.controller_model.proofs.LifeLaws.Places.{state_here}
use Rattle.controller_model.proofs.LifeLaws.Sources.{IsAtPlace, IsFrom}
use Rattle.controller_model.proofs.LifeLaws.Words.{decide_same, measured_remains}

-- the channels of all connections, as far as these links are up
pub record Holds (links : List Bool) (c : Controller) : Type 0 where
  pub shaped : IsShaped c.settings c.channels
  pub each : (n : ℕ) → OwnsOpen c.channels links n (connection_of c n)

-- ---- the connection of an entry

pub owns_entry : (links : List Bool) (c : Controller) (e : Entry) →
    entry_of c e.connection.number ≡ Some e →
    Holds links c →
    IsOpen e.connection.state →
    Owns c.channels links e.connection.number (roles_of e.connection)
owns_entry links c e there holds = subst (OwnsOpen c.channels links e.connection.number) (ap (option_map (λ (x : Entry). x.connection)) there) (holds.each e.connection.number)

pub changes_of : (s : Connection) (input : Input) (offer : Option Channel) (r : Row) →
    IsValid s →
    row_of s input offer ≡ Some r →
    ChangesRoles s input offer r
changes_of s input offer r valid is = subst (ChangesRolesBy s input offer) is (changes_roles_row s input offer valid)

-- ---- a row of a frame

pub usual_row : (links : List Bool) (c : Controller) (e : Entry) (input : Input) (offer : Option Channel) (r : Row) → entry_of c e.connection.number ≡ Some e → IsValid e.connection → Holds links c → row_of e.connection input offer ≡ Some r →
    (IsOpen r.next.state → (channel : Channel) → offer ≡ Some channel → IsOffered c.channels links channel) → RowOwns e.connection.number c.channels links e.connection input offer r
usual_row links c e input offer r there valid holds is offers = record {
  changes = changes_of e.connection input offer r valid is;
  steps = λ was_open is_open. step_owns e.connection.number c.channels links (step_by input (roles_of e.connection)) (roles_of e.connection) (has_target input (roles_of e.connection)) (owns_entry links c e there holds was_open);
  mine = λ was_open end. ends_mine e.connection.number c.channels links (roles_of e.connection) end (owns_entry links c e there holds was_open);
  offers = offers;
}

pub fitting_holds : (links : List Bool) (c : Controller) (otherwise : Turn) (e : Entry) (input : Input) (offer : Option Channel) (o : Option Row) → row_of e.connection input offer ≡ o → AreRising c.entries → entry_of c e.connection.number ≡ Some e → IsValid e.connection → Holds links c →
    ((r : Row) → o ≡ Some r → IsOpen r.next.state → (channel : Channel) → offer ≡ Some channel → IsOffered c.channels links channel) → Holds links otherwise.next → Holds links (by_fitting otherwise e o c).next
fitting_holds links c otherwise e input offer None is rising there valid holds offers same = same
fitting_holds links c otherwise e input offer (Some r) is rising there valid holds offers same = record {
  shaped = shaped_fold c.settings e.connection.number c.channels r.outs holds.shaped;
  each = by_row_owns links c e e input offer r rising there is (usual_row links c e input offer r there valid holds is (offers r refl)) (λ n differ. holds.each n);
}

pub assignment_offers : (c : Controller) (serving channel : Channel) →
    IsShaped c.settings c.channels →
    assignment_offer c serving ≡ Some channel →
    IsOffered c.channels c.links channel
assignment_offers c serving channel shaped is = offered_free c c.links serving.station 0 Tch channel refl shaped is

ignoring_holds : (links : List Bool) (c : Controller) → Holds links c → Holds links (ignoring c).next
ignoring_holds links c holds = record { shaped = holds.shaped; each = holds.each }

pub at_number : (c : Controller) (m : ℕ) (e : Entry) → entry_of c m ≡ Some e → entry_of c e.connection.number ≡ Some e
at_number c m e there = subst (λ (n : ℕ). entry_of c n ≡ Some e) (sym (found_number m c.entries e there)) there

pub concerning_holds : (c : Controller) (input : Input) (m : ℕ) (o : Option Entry) →
    entry_of c m ≡ o →
    AreRising c.entries →
    ((e : Entry) → o ≡ Some e → IsValid e.connection) →
    Holds c.links c →
    Holds c.links (concerning input c o).next
concerning_holds c input m None there rising valid holds = ignoring_holds c.links c holds
concerning_holds c input m (Some e) there rising valid holds =
    fitting_holds c.links c (ignoring c) e input (request_offer c e.connection input) (row_in c e.connection input) refl rising (at_number c m e there) (valid e refl) holds
    (λ r is is_open channel offered. assignment_offers c (serving_after e.connection (row_of e.connection input None)) channel holds.shaped offered) (ignoring_holds c.links c holds)

-- ---- a channel is freed first

-- another's, and those of nobody
freed_other : (c : Controller) (links : List Bool) (at : Place) (n k : ℕ) (o : Option Connection) →
    n ≢ k →
    holder (channel_state c at) ≡ Some k →
    OwnsOpen c.channels links n o →
    OwnsOpen (with_state at Free c.channels) links n o
freed_other c links at n k None differ held owns = tt
freed_other c links at n k (Some s) differ held owns = λ is_open.
    other_set c.channels links n (roles_of s) at Free (not_use (channel_state c at) held) (not_release (channel_state c at) held) (owns is_open)
  where
    not_use : (state : ChannelState) → holder state ≡ Some k → state ≢ InUse n
    not_use (InUse m) held same = differ cc
    not_use _ held same = absurd cc

    not_release : (state : ChannelState) → holder state ≡ Some k → state ≢ Releasing n
    not_release (Releasing m) held same = differ cc
    not_release _ held same = absurd cc

-- what a row needs in the controller whose channel was freed
freed_row : (c : Controller) (e : Entry) (at : Place) (input : Input) (offer : Option Channel) (r : Row) → entry_of c e.connection.number ≡ Some e → IsValid e.connection → Holds c.links c → row_of e.connection input offer ≡ Some r →
    (IsOpen e.connection.state → IsOpen r.next.state → StepOwns e.connection.number (with_state at Free c.channels) c.links (step_by input (roles_of e.connection)) (roles_of e.connection)) →
    (IsOpen r.next.state → (channel : Channel) → offer ≡ Some channel → IsOffered (with_state at Free c.channels) c.links channel) → RowOwns e.connection.number (with_state at Free c.channels) c.links e.connection input offer r
freed_row c e at input offer r there valid holds is steps offers = record {
  changes = changes_of e.connection input offer r valid is;
  steps = steps;
  mine = λ was_open end. orders_after e.connection.number c.channels at Free (end_messages end (roles_of e.connection)) (free refl) (ends_mine e.connection.number c.channels c.links (roles_of e.connection) end (owns_entry c.links c e there holds was_open));
  offers = offers;
}

leaves_silent : (o : Option ℕ) (roles : Roles) → step_orders (leaves_at o) roles ≡ []
leaves_silent None roles = refl
leaves_silent (Some place) roles = refl

pub freed_shaped : (at : Place) (c : Controller) → IsShaped c.settings c.channels → IsShaped c.settings (with_state at Free c.channels)
freed_shaped at c shaped = shaped_set c.settings c.channels at Free shaped

-- by RELEASE ACK
acknowledged_holds : (at : Place) (c : Controller) (k : ℕ) (o : Option Entry) →
    channel_state c at ≡ Releasing k →
    entry_of c k ≡ o →
    AreRising c.entries →
    ((e : Entry) → o ≡ Some e → IsValid e.connection) →
    Holds c.links c →
    Holds c.links (concerning_too (inputs.ReleaseAck at) (freed at c) o).next
acknowledged_holds at c k None state there rising valid holds = record {
  shaped = freed_shaped at c holds.shaped;
  each = λ n. decide_same n k (OwnsOpen (with_state at Free c.channels) c.links n (connection_of c n))
      (λ same. subst (λ (m : ℕ). OwnsOpen (with_state at Free c.channels) c.links m (connection_of c m)) (sym same)
      (subst (OwnsOpen (with_state at Free c.channels) c.links k) (sym (ap (option_map (λ (x : Entry). x.connection)) there)) tt))
      (λ differ. freed_other c c.links at n k (connection_of c n) differ (ap holder state) (holds.each n));
}
acknowledged_holds at c k (Some e) state there rising valid holds = by (row_in (freed at c) e.connection (inputs.ReleaseAck at)) refl
  where
    by : (o : Option Row) →
        row_of e.connection (inputs.ReleaseAck at) (request_offer (freed at c) e.connection (inputs.ReleaseAck at)) ≡ o →
        Holds c.links (by_fitting (turn [] (freed at c)) e o (freed at c)).next
    by None none = record {
      shaped = freed_shaped at c holds.shaped;
      each = λ n. decide_same n k (OwnsOpen (with_state at Free c.channels) c.links n (connection_of c n))
          (λ same. subst (λ (m : ℕ). OwnsOpen (with_state at Free c.channels) c.links m (connection_of c m)) (sym same ∙ sym refl)
          (subst (OwnsOpen (with_state at Free c.channels) c.links k) (sym (ap (option_map (λ (x : Entry). x.connection)) there))
          (λ is_open.
          let own = subst (OwnsOpen c.channels c.links k) (ap (option_map (λ (x : Entry). x.connection)) there) (holds.each k) is_open in
          let remain : step_by (inputs.ReleaseAck at) (roles_of e.connection) ≡ unchanged = subst (ChangesRolesBy e.connection (inputs.ReleaseAck at) (request_offer (freed at c) e.connection (inputs.ReleaseAck at))) none (changes_roles_row e.connection (inputs.ReleaseAck at) (request_offer (freed at c) e.connection (inputs.ReleaseAck at)) (valid e refl)) in
          subst (λ (step : RoleStep). Owns (with_state at Free c.channels) c.links k (after_step step (roles_of e.connection))) remain
          (acknowledged_owns c.channels c.links k k at (roles_of e.connection) state own))))
          (λ differ. freed_other c c.links at n k (connection_of c n) differ (ap holder state) (holds.each n));
    }
    by (Some r) is = record {
      shaped = shaped_fold c.settings e.connection.number (with_state at Free c.channels) r.outs (freed_shaped at c holds.shaped);
      each = by_row_owns c.links (freed at c) e e (inputs.ReleaseAck at) (request_offer (freed at c) e.connection (inputs.ReleaseAck at)) r rising (at_number c k e there) is
          (freed_row c e at (inputs.ReleaseAck at) (request_offer (freed at c) e.connection (inputs.ReleaseAck at)) r (at_number c k e there) (valid e refl) holds is
          (λ was_open is_open. silent_owns e.connection.number (with_state at Free c.channels) c.links (step_by (inputs.ReleaseAck at) (roles_of e.connection)) (roles_of e.connection) (leaves_silent (drain_at at e.connection.draining) (roles_of e.connection))
          (acknowledged_owns c.channels c.links e.connection.number k at (roles_of e.connection) state (owns_entry c.links c e (at_number c k e there) holds was_open)))
          (λ is_open channel offered. assignment_offers (freed at c) (serving_after e.connection (row_of e.connection (inputs.ReleaseAck at) None)) channel (freed_shaped at c holds.shaped) offered))
          (λ n differ. freed_other c c.links at n k (connection_of c n) (λ same. differ (same ∙ sym (found_number k c.entries e there))) (ap holder state) (holds.each n));
    }

-- by NACK
pub if_is : (b : Bool) (q r : Row) → row_if b q ≡ Some r → (b ≡ true) × (q ≡ r)
if_is true q r is = (refl, of is)
  where
    of : (let o : Option Row = Some q in o) ≡ Some r → q ≡ r
    of is = cc
if_is false q r is = absurd cc

Awaits : State → Place → Type 0
Awaits state at = (t : TargetRole) × (target_role state ≡ Some t) × (t.is_commanded ≡ false) × (is_at at t.target.channel ≡ true) × (awaits_at at (target_role state) ≡ true)

nack_awaits : (state : State) (s : Connection) (at : Place) (offer : Option Channel) (r : Row) →
    on_activation_nack state s at offer ≡ Some r →
    IsOpen r.next.state →
    Awaits state at
unfolding Awaits
nack_awaits WaitActivation s at offer r is is_open =
    let one = if_is (is_at at s.serving) (row [] (emptied Removed s)) r is in
    absurd (subst (λ (q : Row). IsOpen q.next.state) (sym one.1) is_open)
nack_awaits (Live reference (Preparing target)) s at offer r is is_open =
    let one = if_is (is_at at target.channel) (refuse reference target.change offer s) r is in
    (record { target = target; is_commanded = false }, refl, refl, one.0, one.0)
nack_awaits _ s at offer r is is_open = absurd cc

-- it fits whatever is offered
if_none : (b : Bool) (q r : Row) → is_some (row_if b q) ≡ true → row_if b r ≡ None → ⊥
if_none true q r fits none = absurd cc
if_none false q r fits none = true≢false (sym fits)

nack_fits : (state : State) (s : Connection) (at : Place) (offer : Option Channel) →
    is_some (on_activation_nack state s at None) ≡ true →
    on_activation_nack state s at offer ≡ None →
    ⊥
nack_fits WaitActivation s at offer fits none = if_none (is_at at s.serving) (row [] (emptied Removed s)) (row [] (emptied Removed s)) fits none
nack_fits (Live reference (Preparing target)) s at offer fits none = if_none (is_at at target.channel) (refuse reference target.change None s) (refuse reference target.change offer s) fits none
nack_fits _ s at offer fits none = true≢false (sym fits)

refused_steps : (c : Controller) (e : Entry) (at : Place) → Owns c.channels c.links e.connection.number (roles_of e.connection) → Awaits e.connection.state at →
    StepOwns e.connection.number (with_state at Free c.channels) c.links (step_by (inputs.ActivationNack at) (roles_of e.connection)) (roles_of e.connection)
unfolding Awaits
refused_steps c e at owns awaits =
    let roles : Roles = roles_of e.connection in
    let is : step_by (inputs.ActivationNack at) roles ≡ reverts = cond-true _ reverts unchanged awaits.4 in
    let silent : step_orders reverts roles ≡ [] = ap target_orders awaits.1 ∙ cond-false _ _ _ awaits.2 in
    subst (λ (step : RoleStep). StepOwns e.connection.number (with_state at Free c.channels) c.links step roles) (sym is)
    (silent_owns e.connection.number (with_state at Free c.channels) c.links reverts roles silent
    (refused_owns c.channels c.links e.connection.number at roles awaits.0 awaits.3
    (subst (λ (target : Option TargetRole). Owns c.channels c.links e.connection.number (record roles { target = target })) awaits.1 owns)))

refused_by : (at : Place) (c : Controller) (k : ℕ) (e : Entry) (o : Option Row) →
    row_of e.connection (inputs.ActivationNack at) (request_offer (freed at c) e.connection (inputs.ActivationNack at)) ≡ o →
    holder (channel_state c at) ≡ Some k →
    entry_of c k ≡ Some e →
    fits (Some e) (inputs.ActivationNack at) ≡ true →
    AreRising c.entries →
    IsValid e.connection →
    Holds c.links c →
    Holds c.links (by_fitting (turn [] (freed at c)) e o (freed at c)).next
unfolding row_of
refused_by at c k e None none held there fitting rising valid holds = absurd (nack_fits e.connection.state e.connection at (request_offer (freed at c) e.connection (inputs.ActivationNack at)) fitting none)
refused_by at c k e (Some r) is held there fitting rising valid holds = record {
  shaped = shaped_fold c.settings e.connection.number (with_state at Free c.channels) r.outs (freed_shaped at c holds.shaped);
  each = by_row_owns c.links (freed at c) e e (inputs.ActivationNack at) (request_offer (freed at c) e.connection (inputs.ActivationNack at)) r rising (at_number c k e there) is
      (freed_row c e at (inputs.ActivationNack at) (request_offer (freed at c) e.connection (inputs.ActivationNack at)) r (at_number c k e there) valid holds is
      (λ was_open is_open. refused_steps c e at (owns_entry c.links c e (at_number c k e there) holds was_open) (nack_awaits e.connection.state e.connection at (request_offer (freed at c) e.connection (inputs.ActivationNack at)) r is is_open))
      (λ is_open channel offered. assignment_offers (freed at c) (serving_after e.connection (row_of e.connection (inputs.ActivationNack at) None)) channel (freed_shaped at c holds.shaped) offered))
      (λ n differ. freed_other c c.links at n k (connection_of c n) (λ same. differ (same ∙ sym (found_number k c.entries e there))) held (holds.each n));
}

refused_holds : (at : Place) (c : Controller) (k : ℕ) (o : Option Entry) →
    holder (channel_state c at) ≡ Some k →
    entry_of c k ≡ o →
    fits o (inputs.ActivationNack at) ≡ true →
    AreRising c.entries →
    ((e : Entry) → o ≡ Some e → IsValid e.connection) →
    Holds c.links c →
    Holds c.links (concerning_too (inputs.ActivationNack at) (freed at c) o).next
refused_holds at c k None held there fitting rising valid holds = absurd (true≢false (sym fitting))
refused_holds at c k (Some e) held there fitting rising valid holds = refused_by at c k e (row_in (freed at c) e.connection (inputs.ActivationNack at)) refl held there fitting rising (valid e refl) holds

-- ---- what arrives on a channel

-- one that is free already
freed_free : (at : Place) (c : Controller) → channel_state c at ≡ Free → Holds c.links c → Holds c.links (freed at c)
freed_free at c is holds = record { shaped = freed_shaped at c holds.shaped; each = λ n. by n (connection_of c n) (holds.each n) }
  where
    by : (n : ℕ) (o : Option Connection) → OwnsOpen c.channels c.links n o → OwnsOpen (with_state at Free c.channels) c.links n o
    by n None owns = tt
    by n (Some s) owns = λ is_open. other_set c.channels c.links n (roles_of s) at Free (λ same. (let both : Free ≡ InUse n = sym is ∙ same in absurd cc)) (λ same. (let both : Free ≡ Releasing n = sym is ∙ same in absurd cc)) (owns is_open)

free_holds : (b : Bool) (at : Place) (input : Input) (c : Controller) →
    channel_state c at ≡ Free →
    Holds c.links c →
    Holds c.links (on_freed b at input c None).next
free_holds true at input c is holds = freed_free at c is holds
free_holds false at input c is holds = ignoring_holds c.links c holds

nack_holds : (b : Bool) (at : Place) (c : Controller) (k : ℕ) (o : Option Entry) →
    fits o (inputs.ActivationNack at) ≡ b →
    holder (channel_state c at) ≡ Some k →
    entry_of c k ≡ o →
    AreRising c.entries →
    ((e : Entry) → o ≡ Some e → IsValid e.connection) →
    Holds c.links c →
    Holds c.links (on_freed b at (inputs.ActivationNack at) c o).next
nack_holds true at c k o fitting held there rising valid holds = refused_holds at c k o held there fitting rising valid holds
nack_holds false at c k o fitting held there rising valid holds = concerning_holds c (inputs.ActivationNack at) k o there rising valid holds

using_holds : (at : Place) (input : Input) (c : Controller) (k : ℕ) (o : Option Entry) →
    IsAtPlace at input →
    channel_state c at ≡ InUse k →
    entry_of c k ≡ o →
    AreRising c.entries →
    ((e : Entry) → o ≡ Some e → IsValid e.connection) →
    Holds c.links c →
    Holds c.links (on_state (InUse k) at input c o).next
using_holds at (inputs.ActivationNack place) c k o is state there rising valid holds =
    subst (λ (p : Place). Holds c.links (on_state (InUse k) at (inputs.ActivationNack p) c o).next) (sym is)
    (nack_holds (fits o (inputs.ActivationNack at)) at c k o refl (ap holder state) there rising valid holds)
using_holds at input c k o is state there rising valid holds = concerning_holds c input k o there rising valid holds

releasing_holds : (at : Place) (input : Input) (c : Controller) (k : ℕ) (o : Option Entry) →
    IsAtPlace at input →
    channel_state c at ≡ Releasing k →
    entry_of c k ≡ o →
    AreRising c.entries →
    ((e : Entry) → o ≡ Some e → IsValid e.connection) →
    Holds c.links c →
    Holds c.links (on_state (Releasing k) at input c o).next
releasing_holds at (inputs.ReleaseAck place) c k o is state there rising valid holds =
    subst (λ (p : Place). Holds c.links (on_state (Releasing k) at (inputs.ReleaseAck p) c o).next) (sym is) (acknowledged_holds at c k o state there rising valid holds)
releasing_holds at (inputs.ActivationNack place) c k o is state there rising valid holds =
    subst (λ (p : Place). Holds c.links (on_state (Releasing k) at (inputs.ActivationNack p) c o).next) (sym is)
    (nack_holds (fits o (inputs.ActivationNack at)) at c k o refl (ap holder state) there rising valid holds)
releasing_holds at input c k o is state there rising valid holds = concerning_holds c input k o there rising valid holds

-- all connections are valid
unfoldable pub AllValid : Controller → Type 0
AllValid c = (m : ℕ) (e : Entry) → entry_of c m ≡ Some e → IsValid e.connection

channel_holds : (at : Place) (input : Input) (c : Controller) (state : ChannelState) →
    IsAtPlace at input →
    channel_state c at ≡ state →
    AreRising c.entries →
    AllValid c →
    Holds c.links c →
    Holds c.links (on_state state at input c (entry_at c state)).next
unfolding AllValid
channel_holds at input c Free is state rising are_valid holds = free_holds (frees Free None input) at input c state holds
channel_holds at input c (InUse k) is state rising are_valid holds = using_holds at input c k (entry_of c k) is state refl rising (λ e there. are_valid k e there) holds
channel_holds at input c (Releasing k) is state rising are_valid holds = releasing_holds at input c k (entry_of c k) is state refl rising (λ e there. are_valid k e there) holds

-- ---- a connection begins

given_holds : (c : Controller) (source : ℕ) (request : RequestReference) (delay : ℕ) (o : Option Channel) →
    access_channel c source ≡ o →
    IsNumbered c →
    Holds c.links c →
    Holds c.links (given c request delay o).next
given_holds c source request delay None is numbered holds = ignoring_holds c.links c holds
given_holds c source request delay (Some channel) is numbered holds =
    let m : ℕ = c.next_number in
    let e : Entry = new_entry c.settings c.next_number channel request delay in
    let offered = offered_free c c.links source 0 Sdcch channel refl holds.shaped is in
    let after : List (List ChannelState) = with_state (place_of channel) (InUse m) c.channels in
    record {
      shaped = shaped_set c.settings c.channels (place_of channel) (InUse m) holds.shaped;
      each = λ n. decide_same n m (OwnsOpen after c.links n (connection_of (with_connection c channel request delay).next n))
          (λ same. subst (λ (k : ℕ). OwnsOpen after c.links k (connection_of (with_connection c channel request delay).next k)) (sym same)
          (subst (OwnsOpen after c.links m) (sym (ap (option_map (λ (x : Entry). x.connection)) (behind_found e c.entries (find_below m c.entries numbered.below))))
          (λ is_open. record { using = (state_here c.channels (place_of channel) (InUse m) offered.is_in, tt); releasing = tt; apart = (tt, tt); linked = (offered.is_up, tt) })))
          (λ differ. subst (OwnsOpen after c.links n) (sym (ap (option_map (λ (x : Entry). x.connection)) (behind_over n e c.entries differ)))
          (by n channel offered (connection_of c n) (holds.each n)));
    }
  where
    by : (n : ℕ) (channel : Channel) →
        IsOffered c.channels c.links channel →
        (o : Option Connection) →
        OwnsOpen c.channels c.links n o →
        OwnsOpen (with_state (place_of channel) (InUse c.next_number) c.channels) c.links n o
    by n channel offered None owns = tt
    by n channel offered (Some s) owns = λ is_open. other_set c.channels c.links n (roles_of s) (place_of channel) (InUse c.next_number) (λ same. (let both : Free ≡ InUse n = sym offered.is_free ∙ same in absurd cc)) (λ same. (let both : Free ≡ Releasing n = sym offered.is_free ∙ same in absurd cc)) (owns is_open)

if_holds : (b : Bool) (c : Controller) (t : Turn) →
    Holds c.links c →
    (b ≡ true → Holds c.links t.next) →
    Holds c.links (if b then t else ignoring c).next
if_holds true c t holds after = after refl
if_holds false c t holds after = ignoring_holds c.links c holds

-- ---- a report

decision_holds : (d : Decision) (c : Controller) (e : Entry) →
    AreRising c.entries →
    entry_of c e.connection.number ≡ Some e →
    IsValid e.connection →
    Holds c.links c →
    Holds c.links (on_decision d c e).next
decision_holds Stay c e rising there valid holds = holds
decision_holds (Move cell) c e rising there valid holds =
    fitting_holds c.links c (turn [] c) e inputs.Move (handover_offer c e.connection.serving cell) (row_of e.connection inputs.Move (handover_offer c e.connection.serving cell)) refl rising there valid holds
    (λ r is is_open channel offered. offered_free c c.links cell c.handovers (kind_of e.connection.serving.number) channel refl holds.shaped offered) holds

report_holds : (at : Place) (of : ℕ) (report : Report) (c : Controller) (m : ℕ) (o : Option Entry) →
    entry_of c m ≡ o →
    AreRising c.entries →
    ((e : Entry) → o ≡ Some e → IsValid e.connection) →
    Holds c.links c →
    Holds c.links (on_report at of report c o).next
report_holds at of report c m None there rising valid holds = ignoring_holds c.links c holds
report_holds at of report c m (Some e) there rising valid holds =
    if_holds (measures at e) c (measured of report c e) holds
    (λ measuring.
    let put : Entry = with_report of report e in
    let c' : Controller = with_entry put c in
    let own = at_number c m e there in
    let found : entry_of c' e.connection.number ≡ Some put = back_found put e c.entries rising own ∙ measured_remains e.connection.state put (and_parts (is_at at e.connection.serving) (is_measured e.connection.state) measuring).1 in
    decision_holds (decision_over put.averages.settings put.averages.reports of) c' put (back_rising put c.entries rising) found (valid e refl)
    (record {
      shaped = holds.shaped;
      each = λ n. decide_same n e.connection.number (OwnsOpen c.channels c.links n (connection_of c' n))
          (λ same. subst (λ (k : ℕ). OwnsOpen c.channels c.links k (connection_of c' k)) (sym same)
          (subst (OwnsOpen c.channels c.links e.connection.number) (ap (option_map (λ (x : Entry). x.connection)) own ∙ sym (ap (option_map (λ (x : Entry). x.connection)) found)) (holds.each e.connection.number)))
          (λ differ. subst (OwnsOpen c.channels c.links n) (sym (ap (option_map (λ (x : Entry). x.connection)) (back_over n put c.entries differ))) (holds.each n));
    }))

report_on_holds : (at : Place) (of : ℕ) (report : Report) (c : Controller) (state : ChannelState) →
    AreRising c.entries →
    AllValid c →
    Holds c.links c →
    Holds c.links (on_report at of report c (entry_at c state)).next
unfolding AllValid
report_on_holds at of report c Free rising are_valid holds = ignoring_holds c.links c holds
report_on_holds at of report c (InUse k) rising are_valid holds = report_holds at of report c k (entry_of c k) refl rising (λ e there. are_valid k e there) holds
report_on_holds at of report c (Releasing k) rising are_valid holds = report_holds at of report c k (entry_of c k) refl rising (λ e there. are_valid k e there) holds

-- ---- a frame

pub word_holds : (source : ℕ) (word : Word) (c : Controller) →
    IsFrom source word →
    IsNumbered c →
    AllValid c →
    Holds c.links c →
    Holds c.links (on_word source word c).next
unfolding AllValid
word_holds source Nothing c from numbered are_valid holds = ignoring_holds c.links c holds
word_holds source Ping c from numbered are_valid holds = holds
word_holds source (Asks request delay) c from numbered are_valid holds =
    if_holds (may_open c) c (given c request delay (access_channel c source)) holds (λ may. given_holds c source request delay (access_channel c source) refl numbered holds)
word_holds source (OnChannel at input) c from numbered are_valid holds = channel_holds at input c (channel_state c at) from.1 refl numbered.rising are_valid holds
word_holds source (Reports at of report) c from numbered are_valid holds = report_on_holds at of report c (channel_state c at) numbered.rising are_valid holds
word_holds source (OnConnection m input) c from numbered are_valid holds = concerning_holds c input m (entry_of c m) refl numbered.rising (λ e there. are_valid m e there) holds
