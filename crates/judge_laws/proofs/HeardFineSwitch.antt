-- SPDX-License-Identifier: MIT OR Apache-2.0
-- The judge after a frame of the switch: a DT1, CC or CREF of a connection.
use Rattle.std.proofs.Common.{◌≡◌, ℕ, Bool, true, false, List, Option, Some, None, refl, sym, subst, ap, ◌∙◌, option_map}
use Rattle.std.proofs.lemmas.Bool.{cond-false, cond-true}
use Rattle.std.specs.List.{AllByRecursion}
use Rattle.std.specs.Prelude.{if◌then◌else◌, Ok, Result}
use Rattle.conn_messages.specs.declared.channel.Channel.{Channel}
use Rattle.conn_rules.specs.Connection.{Connection}
use Rattle.conn_rules.specs.declared.input.Input.TheVariants as inputs
use Rattle.conn_rules.specs.declared.state.Stage.{Stage}
use Rattle.conn_rules.specs.declared.state.Stage.TheVariants.{Changing}
use Rattle.conn_rules.specs.declared.state.State.{State}
use Rattle.conn_rules.specs.declared.state.State.TheVariants.{Closed, Live, Removed, WaitActivation, WaitConfirm, WaitEstablish}
use Rattle.conn_rules.specs.Roles.{roles_of}
use Rattle.conn_rules.specs.Steps.{Row}
use Rattle.conn_rules.specs.Table.{on_downlink, row_of}
use Rattle.controller_model.specs.Controller.{Controller}
use Rattle.controller_model.proofs.LifeLaws.Words.{decide_same}
use Rattle.dtap_codec.specs.declared.rr.RrMessage.{RrMessage}
use Rattle.dtap_codec.specs.declared.rr.RrMessage.TheVariants as rr
use Rattle.dtap_codec.specs.declared.rr_fault.RrFault.{RrFault}
use Rattle.dtap_codec.specs.declared.sapi.Sapi.{Sapi}
use Rattle.dtap_codec.specs.declared.sapi.Sapi.TheVariants.{Zero, Three}
use Rattle.dtap_codec.specs.RrReading.{rr_reading}
use Rattle.run_judge.specs.declared.channels.ChannelView.TheVariants as views
use Rattle.run_judge.specs.declared.connection.Reason.TheVariants as reasons
use Rattle.run_judge.specs.declared.connection.Tenure.{Tenure}
use Rattle.run_judge.specs.declared.connection.Unjudged.{Unjudged}
use Rattle.run_judge.specs.declared.said.Said.TheVariants as says
use Rattle.run_judge.specs.declared.said.StationChannel.{StationChannel}
use Rattle.run_judge.specs.Channels.{view_at}
use Rattle.run_judge.specs.Connection.{first_of, is_command, sent_down, transferred, transferred_by, unjudged_from, while_judged}
use Rattle.run_judge.specs.ConnectionState.{ConnectionState}
use Rattle.run_judge.specs.Judging.{Judging, after}
use Rattle.run_judge.specs.Reading.{command, is_dtap}
use Rattle.judge_laws.proofs.Agreeing.{prepared_unchanged}
use Rattle.judge_laws.proofs.Arrivals.{arrived_downlink, arrived_other}
use Rattle.judge_laws.proofs.Fine.{IsCalled, IsNoCommand, IsUnconfirmed}
use Rattle.judge_laws.proofs.HeardFine.{Follows, no_command_step}
use Rattle.judge_laws.proofs.HeardFine.Follows.{prepared}
use Rattle.judge_laws.proofs.HeardFineChanges.{Arrives, Changes, IsTame, owned_same, sees_same}
use Rattle.judge_laws.proofs.HeardFineChanges.Changes.{moves, still}
use Rattle.judge_laws.proofs.HeardFineChannels.{if_one}
use Rattle.judge_laws.proofs.Hearing.{transfers_moves}
use Rattle.judge_laws.proofs.Moving.{Moves}
use Rattle.judge_laws.proofs.Told.{same_dtap}
use Rattle.judge_laws.proofs.Well.{well_sent_down}
use Rattle.judge_laws.specs.Agreeing.{Agrees, IsAsked, IsOpenRow, lines_of}

abbrev Entry : Type 0
Entry = Option ConnectionState

-- ---- DT1

module _ (sapi : Sapi) (message : List ℕ) (frame : ℕ) where
  sent_keeps : (P : ConnectionState → Type 0) (k : ConnectionState) →
      P k →
      ((o : Option ℕ) → P (transferred_by o sapi message frame k)) →
      P (unjudged_from reasons.CommandOfSwitch frame k) →
      P (sent_down sapi message frame k)
  sent_keeps P k same sends unjudged =
      if_one (is_dtap message) (transferred sapi message frame k) (if is_command (rr_reading message) then unjudged_from reasons.CommandOfSwitch frame k else k) k P (sends k.switch)
      (if_one (is_command (rr_reading message)) (unjudged_from reasons.CommandOfSwitch frame k) k k P unjudged same)

  sends_same : (P : ConnectionState → Type 0) (k : ConnectionState) →
      P k →
      ((source : ℕ) → P (transferred_by (Some source) sapi message frame k)) →
      (o : Option ℕ) →
      P (transferred_by o sapi message frame k)
  sends_same P k same sends None = same
  sends_same P k same sends (Some source) = sends source

  pub tame_sent : IsTame (sent_down sapi message frame)
  tame_sent = record {
    well = λ n k well. well_sent_down n sapi message frame k well;
    switch = λ k. sent_keeps (λ x. x.switch ≡ k.switch) k refl (sends_same (λ x. x.switch ≡ k.switch) k refl (λ source. refl)) refl;
    cleared = λ k. sent_keeps (λ x. x.is_cleared ≡ k.is_cleared) k refl (sends_same (λ x. x.is_cleared ≡ k.is_cleared) k refl (λ source. refl)) refl;
    number = λ k. sent_keeps (λ x. x.number ≡ k.number) k refl (sends_same (λ x. x.number ≡ k.number) k refl (λ source. refl)) refl;
  }

  lines_sent : (k : ConnectionState) → lines_of (sent_down sapi message frame k) ≡ lines_of k
  lines_sent k = sent_keeps (λ x. lines_of x ≡ lines_of k) k refl (sends_same (λ x. lines_of x ≡ lines_of k) k refl (λ source. refl)) refl

  pub transfers_arrives : (m : ℕ) (c : Controller) (j : Judging) →
      Arrives (λ n k. n ≡ m) (sent_down sapi message frame) c j (after frame (says.Transfers m sapi message) j)
  transfers_arrives m c j = record {
    entries = λ n. decide_same n m (Changes (λ k. n ≡ m) change c j next n)
        (λ same. subst (λ (x : ℕ). Changes (λ k. x ≡ m) change c j next x) (sym same) (own (j.connections m) refl))
        (λ differ. still (moved.others n differ) (λ k had hit. differ hit) (λ k had owned. owned_same j next moved.channels n k.number (lines_of k) owned));
    names = moved.by_switch;
    sees = sees_same j next moved.channels;
    owners = λ at n number view. view;
  }
    where
      change : ConnectionState → ConnectionState
      change = sent_down sapi message frame

      next : Judging
      next = after frame (says.Transfers m sapi message) j

      moved : Moves m (sent_down sapi message frame) j (after frame (says.Transfers m sapi message) j)
      moved = transfers_moves m frame sapi message j

      own : (o : Entry) →
          j.connections m ≡ o →
          Changes (λ k. m ≡ m) (sent_down sapi message frame) c j (after frame (says.Transfers m sapi message) j) m
      own None none = still (moved.mine ∙ ap (option_map (while_judged (sent_down sapi message frame))) none ∙ sym none) (λ k had hit. (let both : None ≡ Some k = sym none ∙ had in cc)) (λ k had owned. absurd (let both : None ≡ Some k = sym none ∙ had in cc))
      own (Some k) had = moves k had refl moved.mine (λ s there asked agrees owned.
          subst (λ (ts : List Tenure). AllByRecursion (λ (t : Tenure). view_at j.channels t.at ≡ views.Owned m k.number) ts) (sym (lines_sent k)) owned)

  -- what leaves it judged isn't taken for a COMMAND
  unjudged_never : {P : Type 0} (u : Option Unjudged) (x : Unjudged) → u ≡ None → first_of u x ≡ None → P
  unjudged_never None x same none = absurd cc
  unjudged_never (Some y) x same none = absurd cc

  pub sends_no_command : (k : ConnectionState) →
      k.unjudged ≡ None →
      (sent_down sapi message frame k).unjudged ≡ None →
      is_dtap message ≡ false →
      is_command (rr_reading message) ≡ false
  sends_no_command k judged after_it other = by (is_command (rr_reading message)) refl
    where
      by : (b : Bool) → is_command (rr_reading message) ≡ b → is_command (rr_reading message) ≡ false
      by false is = is
      by true is =
          let goes : sent_down sapi message frame k ≡ unjudged_from reasons.CommandOfSwitch frame k = cond-false _ _ _ other ∙ cond-true _ _ _ is in
          unjudged_never k.unjudged _ judged (ap (λ (x : ConnectionState). x.unjudged) (sym goes) ∙ after_it)

  no_command : (at : StationChannel) (r : Result RrMessage RrFault) → is_command r ≡ false → command at r ≡ says.Nothing
  no_command at (Ok (rr.AssignmentCommand channel)) is = absurd cc
  no_command at (Ok (rr.HandoverCommand cell channel reference)) is = absurd cc
  no_command at _ is = refl

  pub brings_none : (k : ConnectionState) → k.unjudged ≡ None → (sent_down sapi message frame k).unjudged ≡ None → IsNoCommand message
  brings_none k judged after_it = λ other at. no_command at (rr_reading message) (sends_no_command k judged after_it other)

  -- a row of a connection that the switch confirmed
  in_live : (s : Connection) (offer : Option Channel) (r : Row) →
      row_of s (inputs.Downlink sapi message) offer ≡ Some r →
      IsAsked s.state →
      (reference : ℕ) × IsCalled reference s.state
  unfolding row_of
  in_live s offer r fits asked = by s.state asked fits
    where
      by : (state : State) → IsAsked state → on_downlink state s sapi message ≡ Some r → (reference : ℕ) × IsCalled reference state
      by (Live reference stage) asked fits = (reference, refl)
      by WaitConfirm asked fits = absurd (let none : (let o : Option Row = None in o) ≡ Some r = fits in cc)
      by WaitActivation asked fits = absurd asked
      by WaitEstablish asked fits = absurd asked
      by (Closed clearing) asked fits = absurd asked
      by Removed asked fits = absurd asked

  pub downlink_follows : (s : Connection) (offer : Option Channel) (r : Row) (k : ConnectionState) →
      IsOpenRow s (inputs.Downlink sapi message) offer r →
      ((reference : ℕ) → IsCalled reference s.state → k.switch ≡ Some reference) →
      k.unjudged ≡ None →
      (sent_down sapi message frame k).unjudged ≡ None →
      IsAsked s.state →
      Agrees s k →
      Follows s (inputs.Downlink sapi message) r (sent_down sapi message frame k)
  downlink_follows s offer r k row called judged after_it asked agrees = by (is_dtap message) refl
    where
      by : (b : Bool) → is_dtap message ≡ b → Follows s (inputs.Downlink sapi message) r (sent_down sapi message frame k)
      by true dtap =
          let known = in_live s offer r row.fits asked in
          let came = arrived_downlink s k sapi message frame known.0 (called known.0 known.1) (same_dtap message ∙ dtap) agrees in
          subst (Follows s (inputs.Downlink sapi message) r) (sym (cond-true _ _ _ dtap)) (prepared (no_command_step (inputs.Downlink sapi message) (roles_of s) tt) (prepared_unchanged s (inputs.Downlink sapi message) offer r (transferred sapi message frame k) row refl (λ future. tt) came))
      by false other =
          let goes : sent_down sapi message frame k ≡ k = cond-false _ _ _ other ∙ cond-false _ _ _ (sends_no_command k judged after_it other) in
          subst (Follows s (inputs.Downlink sapi message) r) (sym goes) (prepared (no_command_step (inputs.Downlink sapi message) (roles_of s) tt) (prepared_unchanged s (inputs.Downlink sapi message) offer r k row refl (λ future. tt) (arrived_other s k sapi message (same_dtap message ∙ other) agrees)))

  -- before CC no row fits, and the judge leaves it too
  waits_unless : (s : Connection) (offer : Option Channel) →
      row_of s (inputs.Downlink sapi message) offer ≡ None →
      IsAsked s.state →
      IsUnconfirmed s.state
  unfolding row_of
  waits_unless s offer misses asked = by s.state asked misses
    where
      never : (reference : ℕ) (stage : Stage) (of : Sapi) → on_downlink (Live reference stage) s of message ≡ None → ⊥
      never reference (Changing target) of misses = cc
      never reference stage Zero misses = cc
      never reference stage Three misses = cc

      by : (state : State) → IsAsked state → on_downlink state s sapi message ≡ None → IsUnconfirmed state
      by WaitConfirm asked misses = tt
      by (Live reference stage) asked misses = never reference stage sapi misses
      by WaitActivation asked misses = asked
      by WaitEstablish asked misses = asked
      by (Closed clearing) asked misses = absurd asked
      by Removed asked misses = asked

  pub downlink_misses : (s : Connection) (offer : Option Channel) (k : ConnectionState) →
      row_of s (inputs.Downlink sapi message) offer ≡ None →
      (IsUnconfirmed s.state → k.switch ≡ None) →
      k.unjudged ≡ None →
      (sent_down sapi message frame k).unjudged ≡ None →
      IsAsked s.state →
      Agrees s k →
      Agrees s (sent_down sapi message frame k)
  downlink_misses s offer k misses unconfirmed judged after_it asked agrees = subst (Agrees s) (sym (by (is_dtap message) refl)) agrees
    where
      none : k.switch ≡ None
      none = unconfirmed (waits_unless s offer misses asked)

      by : (b : Bool) → is_dtap message ≡ b → sent_down sapi message frame k ≡ k
      by true dtap = cond-true _ _ _ dtap ∙ ap (λ (o : Option ℕ). transferred_by o sapi message frame k) none
      by false other = cond-false _ _ _ other ∙ cond-false _ _ _ (sends_no_command k judged after_it other)
