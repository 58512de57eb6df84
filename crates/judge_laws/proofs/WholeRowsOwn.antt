-- SPDX-License-Identifier: MIT OR Apache-2.0
-- The connection of a row, after the row.
use Rattle.std.proofs.Common.{◌≡◌, ℕ, ◌<◌, ◌≤◌, Bool, true, false, List, [], ◌∷◌, ◌++◌, Option, Some, None, refl, sym, subst, ap, ◌∙◌, arith}
use Rattle.std.proofs.lemmas.Bool.{cond-false, cond-true}
use Rattle.std.specs.List.{AllByRecursion}
use Rattle.std.specs.Prelude.{if◌then◌else◌, Contains}
use Rattle.conn_messages.specs.declared.channel.Change.{Change}
use Rattle.conn_messages.specs.declared.channel.Change.TheVariants.{Assignment, Handover}
use Rattle.conn_messages.specs.declared.channel.Channel.{Channel}
use Rattle.conn_messages.specs.declared.message.Message.{Message}
use Rattle.conn_messages.specs.declared.message.Message.TheVariants.{Station, Data, ReleaseComplete, Request}
use Rattle.conn_messages.specs.StationMessage.{change_activation}
use Rattle.conn_rules.specs.Connection.{Connection}
use Rattle.conn_rules.specs.declared.input.Input.{Input}
use Rattle.conn_rules.specs.declared.state.Stage.TheVariants.{Active, Changing, Draining, Preparing}
use Rattle.conn_rules.specs.declared.state.State.{State}
use Rattle.conn_rules.specs.declared.state.State.TheVariants.{Closed, Live, Removed, WaitActivation, WaitConfirm, WaitEstablish}
use Rattle.conn_rules.specs.declared.state.Target.{Target}
use Rattle.conn_rules.specs.Roles.{ChangesRoles, KeepsChannels, RemainsOpen, RoleStep, Roles, TargetRole, after_step, begin_orders, change_by, completed, commanded, orders, roles_of, step_by, step_orders, target_role, with_target, MayBegin}
use Rattle.conn_rules.specs.Roles.ChangesRoles.{carries_on, ends, had_ended}
use Rattle.conn_rules.specs.Roles.RoleStep.{unchanged, commands, completes, reverts, leaves}
use Rattle.conn_rules.specs.Steps.{Row}
use Rattle.conn_rules.specs.Streams.{IsOpen, OfRow, target_in}
use Rattle.conn_rules.specs.Table.{serving_after}
use Rattle.controller_model.specs.Controller.{Controller, Entry}
use Rattle.controller_model.specs.LifeLaws.History.{connection_of}
use Rattle.conn_rules.proofs.Channels.{keeps_channels}
use Rattle.controller_model.proofs.LifeLaws.UsingRows.{all_contained}
use Rattle.rsl_codec.specs.declared.rsl.Rsl.TheVariants as rsl
use Rattle.run_judge.specs.declared.channels.ChannelView.{ChannelView}
use Rattle.run_judge.specs.declared.channels.ChannelView.TheVariants as views
use Rattle.run_judge.specs.declared.judge.Named.{Named}
use Rattle.run_judge.specs.declared.judge.Named.TheVariants.{One, Shared}
use Rattle.run_judge.specs.declared.said.StationChannel.{StationChannel}
use Rattle.run_judge.specs.Channels.{view_at}
use Rattle.run_judge.specs.Connection.{is_same}
use Rattle.run_judge.specs.ConnectionState.{ConnectionState}
use Rattle.run_judge.specs.Judging.{Judging}
use Rattle.run_judge.specs.Reading.{channel_at}
use Rattle.judge_laws.proofs.Fine.{IsCalled, IsEarly, IsFine, IsJudged, IsNotOffered, IsPresent, IsUnconfirmed}
use Rattle.judge_laws.proofs.HeardFine.{IsReadyOwn}
use Rattle.judge_laws.proofs.Moving.{IsIdle, IsNamed}
use Rattle.judge_laws.proofs.Putting.{KeepsName}
use Rattle.judge_laws.proofs.Ranks.{is_itself}
use Rattle.judge_laws.proofs.Well.{Well}
use Rattle.judge_laws.proofs.WholeRowsHeld.{serving_alike}
use Rattle.judge_laws.proofs.WholeRowsKinds.{Leads}
use Rattle.judge_laws.proofs.WholeRowsMessages.{Unopened, begun_role, commanded_in}
use Rattle.judge_laws.proofs.WholeRowsNow.{RowNow}
use Rattle.judge_laws.proofs.WholeRowsViews.{IsUnopened, released_view, view_by, views_by}
use Rattle.judge_laws.specs.Places.{at_of}

-- ---- what has to hold of it

-- as in `IsFine`, of this connection
pub record OwnFine (n : ℕ) (s : Connection) (j : Judging) : Type 0 where
  pub unasked : IsEarly s.state → j.connections n ≡ None
  pub well : (k : ConnectionState) → j.connections n ≡ Some k → Well n k
  pub judged : (k : ConnectionState) → j.connections n ≡ Some k → k.unjudged ≡ None → IsJudged n s k j
  pub named : (reference : ℕ) → IsCalled reference s.state → IsNamed n (j.by_switch reference) (j.connections n)
  pub unconfirmed : (k : ConnectionState) → IsUnconfirmed s.state → j.connections n ≡ Some k → k.switch ≡ None
  pub present : IsUnconfirmed s.state → IsPresent (j.connections n)
  pub access : IsEarly s.state → IsNotOffered (view_at j.channels (at_of s.serving))
  pub offered : (reference : ℕ) (target : Target) →
      s.state ≡ Live reference (Preparing target) →
      target.change ≡ Handover →
      view_at j.channels (at_of target.channel) ≡ views.Activated (Some target.channel.reference.0)
  pub assigned : (reference : ℕ) (target : Target) →
      s.state ≡ Live reference (Preparing target) →
      target.change ≡ Assignment →
      target.channel.station ≡ s.serving.station

pub own_is_fine : (c : Controller) (n : ℕ) (s : Connection) (j : Judging) →
    connection_of c n ≡ Some s →
    n < c.next_number →
    OwnFine n s j →
    IsFine c j n
own_is_fine c n s j is below own = record {
  unasked = λ un. own.unasked (subst (λ (o : Option Connection). of_unasked o) is un);
  well = own.well;
  judged = λ t k there here judged. subst (λ (x : Connection). IsJudged n x k j) (one t (sym is ∙ there)) (own.judged k here judged);
  named = λ t reference there called. own.named reference (subst (λ (x : Connection). IsCalled reference x.state) (sym (one t (sym is ∙ there))) called);
  unconfirmed = λ t k there un here. own.unconfirmed k (subst (λ (x : Connection). IsUnconfirmed x.state) (sym (one t (sym is ∙ there))) un) here;
  present = λ t there un. own.present (subst (λ (x : Connection). IsUnconfirmed x.state) (sym (one t (sym is ∙ there))) un);
  access = λ t there early. subst (λ (x : Connection). IsNotOffered (view_at j.channels (at_of x.serving))) (one t (sym is ∙ there)) (own.access (subst (λ (x : Connection). IsEarly x.state) (sym (one t (sym is ∙ there))) early));
  offered = λ t reference target there state change. own.offered reference target (ap (λ (x : Connection). x.state) (one t (sym is ∙ there)) ∙ state) change;
  assigned = λ t reference target there state change. own.assigned reference target (ap (λ (x : Connection). x.state) (one t (sym is ∙ there)) ∙ state) change ∙ ap (λ (x : Connection). x.serving.station) (one t (sym is ∙ there));
}
  where
    of_unasked : Option Connection → Type 0
    of_unasked None = c.next_number ≤ n
    of_unasked (Some x) = IsEarly x.state

    one : (t : Connection) → (let o : Option Connection = Some s in o) ≡ Some t → s ≡ t
    one t is = cc

-- it is removed
pub gone_is_fine : (c : Controller) (n : ℕ) (j : Judging) →
    connection_of c n ≡ None →
    n < c.next_number →
    ((k : ConnectionState) → j.connections n ≡ Some k → Well n k) →
    IsFine c j n
gone_is_fine c n j is below well = record {
  unasked = λ un. absurd (let over : c.next_number ≤ n = subst (λ (o : Option Connection). of_unasked o) is un in omega arith);
  well = well;
  judged = λ t k there here judged. absurd (none t (sym is ∙ there));
  named = λ t reference there called. absurd (none t (sym is ∙ there));
  unconfirmed = λ t k there un here. absurd (none t (sym is ∙ there));
  present = λ t there un. absurd (none t (sym is ∙ there));
  access = λ t there early. absurd (none t (sym is ∙ there));
  offered = λ t reference target there state change. absurd (none t (sym is ∙ there));
  assigned = λ t reference target there state change. absurd (none t (sym is ∙ there));
}
  where
    of_unasked : Option Connection → Type 0
    of_unasked None = c.next_number ≤ n
    of_unasked (Some x) = IsEarly x.state

    none : (t : Connection) → None ≡ Some t → ⊥
    none t is = cc

-- ---- views behind the row

either_view : (P : ChannelView → Type 0) (b : Bool) (x y : ChannelView) → P x → P y → P (if b then x else y)
either_view P true x y one other = one
either_view P false x y one other = other

released_offer : (view : ChannelView) → IsNotOffered view → IsNotOffered (released_view view)
released_offer views.Unknown is = tt
released_offer (views.Activated reference) is = tt
released_offer (views.Opened opening) is = tt
released_offer (views.Owned reference number) is = tt

one_not_offered : (at : StationChannel) (m : Message) (view : ChannelView) →
    IsUnopened at m →
    IsNotOffered view →
    IsNotOffered (view_by at m view)
one_not_offered at (Station station (rsl.ChannelActivation a)) view un is = subst IsNotOffered (sym (cond-false _ _ _ un)) is
one_not_offered at (Station station (rsl.RfChannelRelease channel)) view un is = either_view IsNotOffered (is_same (channel_at station channel) at) (released_view view) view (released_offer view is) is
one_not_offered at (Station station x) view un is = is
one_not_offered at (Request message) view un is = is
one_not_offered at (Data destination message) view un is = is
one_not_offered at (ReleaseComplete destination) view un is = is

all_not_offered : (at : StationChannel) (ms : List Message) (view : ChannelView) →
    AllByRecursion (IsUnopened at) ms →
    IsNotOffered view →
    IsNotOffered (views_by at ms view)
all_not_offered at [] view un is = is
all_not_offered at (m ∷ ms) view un is = all_not_offered at ms (view_by at m view) un.1 (one_not_offered at m view un.0 is)

-- messages that neither activate nor release count for nothing
orders_view : (at : StationChannel) (ms : List Message) (view : ChannelView) → views_by at ms view ≡ views_by at (orders ms) view
orders_view at [] view = refl
orders_view at (Station station (rsl.ChannelActivation a) ∷ ms) view = orders_view at ms (view_by at (Station station (rsl.ChannelActivation a)) view)
orders_view at (Station station (rsl.RfChannelRelease channel) ∷ ms) view = orders_view at ms (view_by at (Station station (rsl.RfChannelRelease channel)) view)
orders_view at (Station station x ∷ ms) view = orders_view at ms view
orders_view at (Request message ∷ ms) view = orders_view at ms view
orders_view at (Data destination message ∷ ms) view = orders_view at ms view
orders_view at (ReleaseComplete destination ∷ ms) view = orders_view at ms view

-- for a handover
last_activated : (t : Channel) (xs : List Message) (view : ChannelView) →
    views_by (at_of t) (xs ++ change_activation Handover t ∷ []) view ≡ views.Activated (Some t.reference.0)
last_activated t [] view = cond-true _ _ _ (is_itself (at_of t))
last_activated t (x ∷ xs) view = last_activated t xs (view_by (at_of t) x view)

-- ---- the target of a change that is prepared

some_target : (t u : Target) →
    (let o : Option TargetRole = Some (record { target = t; is_commanded = false }) in o) ≡ Some (record { target = u; is_commanded = false }) →
    t ≡ u
some_target t u is = ap (target_of t) is
  where
    target_of : Target → Option TargetRole → Target
    target_of other None = other
    target_of other (Some role) = role.target

preparing_of : (state : State) (target : Target) →
    target_role state ≡ Some (record { target = target; is_commanded = false }) →
    (reference : ℕ) × (state ≡ Live reference (Preparing target))
preparing_of (Live reference (Preparing t)) target is = (reference, ap (λ (u : Target). Live reference (Preparing u)) (some_target t target is))
preparing_of (Live reference (Changing t)) target is = absurd (let differ : true ≡ false = ap (commanded_in false) is in cc)
preparing_of (Live reference Active) target is = absurd cc
preparing_of (Live reference Draining) target is = absurd cc
preparing_of WaitActivation target is = absurd cc
preparing_of WaitEstablish target is = absurd cc
preparing_of WaitConfirm target is = absurd cc
preparing_of (Closed clearing) target is = absurd cc
preparing_of Removed target is = absurd cc

-- no step makes a target: it was there before, and nothing is ordered
pub record IsStill (step : RoleStep) (roles : Roles) (target : Target) : Type 0 where
  pub was : roles.target ≡ Some (record { target = target; is_commanded = false })
  pub silent : step_orders step roles ≡ []
  pub serving : (after_step step roles).serving ≡ roles.serving

still_target : (step : RoleStep) (roles : Roles) (target : Target) →
    (after_step step roles).target ≡ Some (record { target = target; is_commanded = false }) →
    IsStill step roles target
still_target unchanged roles target is = record { was = is; silent = refl; serving = refl }
still_target (leaves place) roles target is = record { was = is; silent = refl; serving = refl }
still_target reverts roles target is = absurd cc
still_target commands roles target is = absurd (never roles.target is)
  where
    never : (o : Option TargetRole) → commanded o ≡ Some (record { target = target; is_commanded = false }) → ⊥
    never None is = absurd cc
    never (Some t) is = (let differ : true ≡ false = ap (commanded_in false) is in absurd cc)
still_target completes roles target is = absurd (never roles.target refl is)
  where
    never : (o : Option TargetRole) →
        roles.target ≡ o →
        (completed o roles).target ≡ Some (record { target = target; is_commanded = false }) →
        ⊥
    never None none is = (let both : None ≡ Some (record { target = target; is_commanded = false }) = sym none ∙ is in absurd cc)
    never (Some t) some is = absurd cc

-- ---- behind a row that keeps the connection

module _ (links : List Bool) (c : Controller) (e : Entry) (input : Input) (offer : Option Channel) (r : Row) (now : RowNow links c e input offer r) (j next : Judging) (ready : IsReadyOwn e.connection.number e.connection input r j) (leads : Leads input e.connection.state r.next.state) (unopened : Unopened r) where
  abbrev Views : Type 0
  Views = (at : StationChannel) → view_at next.channels at ≡ views_by at r.outs (view_at j.channels at)

  -- a channel for access serves on
  serves_on : IsEarly e.connection.state → r.next.serving ≡ e.connection.serving
  serves_on early = by e.connection.state early (subst (OfRow (λ (q : Row). KeepsChannels e.connection offer q)) now.fits (keeps_channels e.connection input offer)).serving
    where
      of : (cs : List Channel) → cs ≡ [] → Contains (e.connection.serving ∷ cs) r.next.serving → r.next.serving ≡ e.connection.serving
      of cs none there = all_contained (λ (d : Channel). d ≡ e.connection.serving) (e.connection.serving ∷ cs) r.next.serving (refl, subst (AllByRecursion (λ (d : Channel). d ≡ e.connection.serving)) (sym none) tt) there

      by : (state : State) →
          IsEarly state →
          Contains (e.connection.serving ∷ target_in state) r.next.serving →
          r.next.serving ≡ e.connection.serving
      by WaitActivation early there = of [] refl there
      by WaitEstablish early there = of [] refl there
      by WaitConfirm early there = absurd early
      by (Live reference stage) early there = absurd early
      by (Closed clearing) early there = absurd early
      by Removed early there = absurd early

  access : Views → IsEarly r.next.state → IsNotOffered (view_at next.channels (at_of r.next.serving))
  access exact early =
      let was : IsEarly e.connection.state = leads.early early in
      let before : IsNotOffered (view_at j.channels (at_of r.next.serving)) = subst (λ (d : Channel). IsNotOffered (view_at j.channels (at_of d))) (sym (serves_on was)) (ready.access was) in
      subst IsNotOffered (sym (exact (at_of r.next.serving))) (all_not_offered (at_of r.next.serving) r.outs (view_at j.channels (at_of r.next.serving)) unopened.serving before)

  -- the target is one that the row begins with, or it was there before
  targeted : {P : Type 0} (reference : ℕ) (target : Target) → r.next.state ≡ Live reference (Preparing target) →
      ((on : RemainsOpen (step_by input (roles_of e.connection)) (roles_of e.connection) e.connection.down input offer r) → on.begun ≡ Some target → P) →
      ((own : ℕ) → e.connection.state ≡ Live own (Preparing target) → orders r.outs ≡ [] → r.next.serving ≡ e.connection.serving → P) → P
  targeted {P = P} reference target state begins remains = by now.owns.changes
    where
      role : target_role r.next.state ≡ Some (record { target = target; is_commanded = false })
      role = ap target_role state

      is_open : IsOpen r.next.state
      is_open = subst IsOpen (sym state) tt

      of : (on : RemainsOpen (step_by input (roles_of e.connection)) (roles_of e.connection) e.connection.down input offer r) (begun : Option Target) →
          on.begun ≡ begun →
          P
      of on (Some t) is =
          let begun : target_role r.next.state ≡ Some (record { target = t; is_commanded = false }) = ap (λ (x : Roles). x.target) on.roles ∙ begun_role on.begun (after_step (step_by input (roles_of e.connection)) (roles_of e.connection)) t is in
          begins on (is ∙ ap (λ (x : Target). Some x) (some_target t target (sym begun ∙ role)))
      of on None is =
          let roles : roles_of r.next ≡ after_step (step_by input (roles_of e.connection)) (roles_of e.connection) = on.roles ∙ ap (λ (b : Option Target). with_target b (after_step (step_by input (roles_of e.connection)) (roles_of e.connection))) is in
          let still = still_target (step_by input (roles_of e.connection)) (roles_of e.connection) target (sym (ap (λ (x : Roles). x.target) roles) ∙ role) in
          let was = preparing_of e.connection.state target still.was in
          remains was.0 was.1 (on.ordered ∙ ap (λ (ms : List Message). ms ++ begin_orders on.begun) still.silent ∙ ap begin_orders is) (ap (λ (x : Roles). x.serving) roles ∙ still.serving)

      by : ChangesRoles e.connection input offer r → P
      by (carries_on was_open is_open on) = of on on.begun refl
      by (ends was_open shut over) = absurd (shut is_open)
      by (had_ended was_shut shut nothing) = absurd (shut is_open)

  offered : Views →
      (reference : ℕ) (target : Target) →
      r.next.state ≡ Live reference (Preparing target) →
      target.change ≡ Handover →
      view_at next.channels (at_of target.channel) ≡ views.Activated (Some target.channel.reference.0)
  offered exact reference target state change =
      let at : StationChannel = at_of target.channel in
      exact at ∙ orders_view at r.outs (view_at j.channels at)
      ∙ targeted reference target state
      (λ on begun.
      ap (λ (ms : List Message). views_by at ms (view_at j.channels at)) (on.ordered ∙ ap (λ (b : Option Target). step_orders (step_by input (roles_of e.connection)) (roles_of e.connection) ++ begin_orders b) begun
      ∙ ap (λ (x : Change). step_orders (step_by input (roles_of e.connection)) (roles_of e.connection) ++ change_activation x target.channel ∷ []) change)
      ∙ last_activated target.channel (step_orders (step_by input (roles_of e.connection)) (roles_of e.connection)) (view_at j.channels at))
      (λ own was silent serving. ap (λ (ms : List Message). views_by at ms (view_at j.channels at)) silent ∙ ready.offered own target was change)

  assigned : (reference : ℕ) (target : Target) →
      r.next.state ≡ Live reference (Preparing target) →
      target.change ≡ Assignment →
      target.channel.station ≡ r.next.serving.station
  assigned reference target state change = targeted reference target state
      (λ on begun. on_begun on begun)
      (λ own was silent serving. ready.assigned own target was change ∙ ap (λ (d : Channel). d.station) (sym serving))
    where
      on_begun : (on : RemainsOpen (step_by input (roles_of e.connection)) (roles_of e.connection) e.connection.down input offer r) →
          on.begun ≡ Some target →
          target.channel.station ≡ r.next.serving.station
      on_begun on begun =
          let may = subst (λ (b : Option Target). MayBegin b input offer (after_step (step_by input (roles_of e.connection)) (roles_of e.connection))) begun on.may in
          now.asked (λ moves. (let both : Assignment ≡ Handover = sym change ∙ may.0 ∙ ap change_by moves in absurd cc)) target.channel may.1
          ∙ ap (λ (d : Channel). d.station) (serving_alike e.connection input offer ∙ ap (serving_after e.connection) now.fits)

  -- one that isn't there, or isn't judged
  pub idle_own : Views →
      next.connections e.connection.number ≡ j.connections e.connection.number →
      ((source : ℕ) → next.by_switch source ≡ j.by_switch source) →
      IsIdle (j.connections e.connection.number) →
      (IsUnconfirmed r.next.state → IsUnconfirmed e.connection.state) →
      OwnFine e.connection.number r.next next
  idle_own exact same names idle waits = record {
    unasked = λ early. same ∙ ready.unasked (leads.early early);
    well = λ k there. ready.well k (sym same ∙ there);
    judged = λ k there judged. absurd (never (j.connections e.connection.number) k idle (sym same ∙ there) judged);
    named = λ reference called. subst (λ (o : Option ConnectionState). IsNamed e.connection.number (next.by_switch reference) o) (sym same) (subst (λ (o : Option Named). IsNamed e.connection.number o (j.connections e.connection.number)) (sym (names reference)) (ready.named reference (leads.called reference called)));
    unconfirmed = λ k un there. ready.unconfirmed k (waits un) un (sym same ∙ there);
    present = λ un. subst IsPresent (sym same) (ready.present (waits un) un);
    access = access exact;
    offered = offered exact;
    assigned = assigned;
  }
    where
      never : (o : Option ConnectionState) (k : ConnectionState) → IsIdle o → o ≡ Some k → k.unjudged ≡ None → ⊥
      never None k idle is judged = absurd cc
      never (Some x) k idle is judged = (let same : x ≡ k = of is in let both : None ≡ Some idle.0 = sym judged ∙ ap (λ (y : ConnectionState). y.unjudged) (sym same) ∙ idle.1 in absurd cc)
        where
          of : (let a : Option ConnectionState = Some x in a) ≡ Some k → x ≡ k
          of is = cc

  -- one that is judged
  pub judged_own : Views →
      (k0 k : ConnectionState) →
      j.connections e.connection.number ≡ Some k0 →
      k0.unjudged ≡ None →
      next.connections e.connection.number ≡ Some k →
      KeepsName k0 k →
      ((source : ℕ) → next.by_switch source ≡ j.by_switch source) →
      Well e.connection.number k →
      IsJudged e.connection.number r.next k next →
      OwnFine e.connection.number r.next next
  judged_own exact k0 k before judged there name names well fine = record {
    unasked = λ early. absurd (let both : None ≡ Some k0 = sym (ready.unasked (leads.early early)) ∙ before in cc);
    well = λ x here. subst (Well e.connection.number) (one x here) well;
    judged = λ x here none. subst (λ (y : ConnectionState). IsJudged e.connection.number r.next y next) (one x here) fine;
    named = λ reference called. subst (λ (o : Option ConnectionState). IsNamed e.connection.number (next.by_switch reference) o) (sym there)
        (subst (λ (o : Option Named). IsNamed e.connection.number o (Some k)) (sym (names reference)) (of_name reference (j.by_switch reference) (subst (λ (o : Option ConnectionState). IsNamed e.connection.number (j.by_switch reference) o) before (ready.named reference (leads.called reference called)))));
    unconfirmed = λ x un here. subst (λ (y : ConnectionState). y.switch ≡ None) (one x here) (name.switch ∙ ready.unconfirmed k0 (leads.unconfirmed un) un before);
    present = λ un. subst IsPresent (sym there) tt;
    access = access exact;
    offered = offered exact;
    assigned = assigned;
  }
    where
      one : (x : ConnectionState) → next.connections e.connection.number ≡ Some x → k ≡ x
      one x here = of (sym there ∙ here)
        where
          of : (let a : Option ConnectionState = Some k in a) ≡ Some x → k ≡ x
          of is = cc

      of_name : (reference : ℕ) (o : Option Named) → IsNamed e.connection.number o (Some k0) → IsNamed e.connection.number o (Some k)
      of_name reference None named = absurd named
      of_name reference (Some (One m)) named = named
      of_name reference (Some Shared) named = (let both : None ≡ Some named.0 = sym judged ∙ named.1 in absurd cc)
