-- SPDX-License-Identifier: MIT OR Apache-2.0
-- A row of a connection in the whole judge: its frames keep what holds of the judge, and no
-- connection that ends by them has a fault.
use Rattle.std.proofs.Common.{◌≡◌, ◌≢◌, ◌⊎◌, ℕ, ◌+◌, Bool, false, List, [], ◌∷◌, ◌++◌, Option, Some, None, refl, sym, subst, ap, ◌∙◌, inl, inr, fold}
use Rattle.std.specs.List.{AllByRecursion}
use Rattle.std.specs.Prelude.{map}
use Rattle.conn_messages.specs.declared.channel.Channel.{Channel}
use Rattle.conn_messages.specs.declared.message.Message.{Message}
use Rattle.conn_messages.specs.declared.message.Message.TheVariants.{Station, Data, ReleaseComplete, Request}
use Rattle.conn_messages.specs.StationMessage.{change_command}
use Rattle.conn_rules.specs.Connection.{Connection}
use Rattle.conn_rules.specs.declared.input.Input.{Input}
use Rattle.conn_rules.specs.declared.input.Input.TheVariants as inputs
use Rattle.conn_rules.specs.declared.state.Clearing.TheVariants.{Due, Asked as WasAsked, Complete}
use Rattle.conn_rules.specs.declared.state.Stage.TheVariants.{Changing, Preparing}
use Rattle.conn_rules.specs.declared.state.State.{State}
use Rattle.conn_rules.specs.declared.state.State.TheVariants.{Closed, Live, Removed, WaitActivation, WaitConfirm, WaitEstablish}
use Rattle.conn_rules.specs.declared.state.Target.{Target}
use Rattle.conn_rules.specs.Putting.{uses_of}
use Rattle.conn_rules.specs.Roles.{ChangesRoles, Ends, channels_in_use, roles_of, step_by, to_stations}
use Rattle.conn_rules.specs.Roles.ChangesRoles.{carries_on, ends, had_ended}
use Rattle.conn_rules.specs.Roles.RoleStep.{commands as command_step}
use Rattle.conn_rules.specs.Steps.{Row}
use Rattle.conn_rules.specs.Streams.{IsFinal, IsOpen, OfRow}
use Rattle.conn_rules.specs.Table.{command_to}
use Rattle.conn_rules.proofs.Closing.{IsFinal-row}
use Rattle.controller_model.specs.Controller.{Controller, Entry, channels_after}
use Rattle.controller_model.specs.LifeLaws.Owning.{Owns}
use Rattle.controller_model.proofs.LifeLaws.UplinkLife.{used_apart}
use Rattle.run_judge.specs.declared.connection.Awaited.{Awaited}
use Rattle.run_judge.specs.declared.connection.Tenure.{Tenure}
use Rattle.run_judge.specs.declared.connection.Unjudged.{Unjudged}
use Rattle.run_judge.specs.declared.channels.ChannelView.{ChannelView}
use Rattle.run_judge.specs.declared.channels.ChannelView.TheVariants as views
use Rattle.run_judge.specs.declared.judge.Named.{Named}
use Rattle.run_judge.specs.declared.judge.Named.TheVariants.{One, Shared}
use Rattle.run_judge.specs.declared.said.Said.{Said}
use Rattle.run_judge.specs.declared.said.StationChannel.{StationChannel}
use Rattle.run_judge.specs.Channels.{view_at}
use Rattle.run_judge.specs.ConnectionState.{ConnectionState}
use Rattle.run_judge.specs.Judging.{Judging, Numbered, after, after_all, all_ended}
use Rattle.judge_laws.proofs.Closing.{IsBefore, IsOver, row_over}
use Rattle.judge_laws.proofs.Fine.{KnowsNone, IsCalled, IsEarly, IsJudged, IsNoCommand, IsUncleared}
use Rattle.judge_laws.proofs.HeardFine.{BringsNoCommand, Follows, IsCalledBy, IsReady, IsReadyJudged, commands, prepared}
use Rattle.judge_laws.proofs.IdlePuts.{Idles}
use Rattle.judge_laws.proofs.Moving.{IsIdle, IsNamed}
use Rattle.judge_laws.proofs.NamedRows.{named_row}
use Rattle.judge_laws.proofs.Naming.{AreQuiet, From, IsNamedRow}
use Rattle.judge_laws.proofs.Over.{IsSilentKind, all_silent, are_mild}
use Rattle.judge_laws.proofs.Putting.{Holds, IsOwn, KeepsName, put_all, told_name}
use Rattle.judge_laws.proofs.RowTold.{row_agrees, row_sapi}
use Rattle.judge_laws.proofs.Well.{Well}
use Rattle.judge_laws.proofs.WholeRowsBare.{IsDataOf, data_all}
use Rattle.judge_laws.proofs.WholeRowsCommand.{IsCommanded, command_row}
use Rattle.judge_laws.proofs.WholeRowsHeld.{BringsSuch, held_row}
use Rattle.judge_laws.proofs.WholeRowsKinds.{Directs, IsDirected, Leads, directed_unending, names, quiet, quiet_unending}
use Rattle.judge_laws.proofs.WholeRowsMessages.{Unopened, all_own_to, ended_own_to, lines_unopened, mine_uses, puts_on, row_handed, row_no_command, row_unopened}
use Rattle.judge_laws.proofs.WholeRowsNow.{AreMine, RowNow}
use Rattle.judge_laws.proofs.WholeRowsOthers.{Changes}
use Rattle.judge_laws.proofs.WholeRowsOwn.{OwnFine, idle_own, judged_own}
use Rattle.judge_laws.proofs.WholeRowsPuts.{IsNamedPut, IsOwnTo, all_unended, idle_walk, own_station, put_views}
use Rattle.judge_laws.proofs.WholeRowsWhole.{next_owns}
use Rattle.judge_laws.proofs.WholeRowsViews.{IsUnopened, all_owned, views_by}
use Rattle.judge_laws.specs.Agreeing.{Agrees, IsAsked, IsFrom, IsOpenRow, Prepared, Remains, lines_by, lines_of, tells, told}
use Rattle.judge_laws.specs.Places.{at_of}
use Rattle.judge_laws.specs.Saying.{said_of}

-- ---- one that agrees is well

front_lines : (P : Tenure → Type 0) (ts us : List Tenure) → AllByRecursion P (ts ++ us) → AllByRecursion P ts
front_lines P [] us all = tt
front_lines P (t ∷ ts) us all = (all.0, front_lines P ts us all.1)

last_line : (P : Tenure → Type 0) (ts : List Tenure) (u : Tenure) → AllByRecursion P (ts ++ u ∷ []) → P u
last_line P [] u all = all.0
last_line P (t ∷ ts) u all = last_line P ts u all.1

served_lines : (P : Tenure → Type 0) (k : ConnectionState) → AllByRecursion P (lines_of k) → AllByRecursion P (k.former ++ k.serving ∷ [])
served_lines P k = by k.awaited
  where
    by : (o : Option Awaited) → AllByRecursion P (lines_by k.former k.serving o) → AllByRecursion P (k.former ++ k.serving ∷ [])
    by None all = all
    by (Some a) all = front_lines P (k.former ++ k.serving ∷ []) (record { at = a.at; rank = k.serving.rank + 1 } ∷ []) all

pub serving_line : (P : Tenure → Type 0) (k : ConnectionState) → AllByRecursion P (lines_of k) → P k.serving
serving_line P k all = last_line P k.former k.serving (served_lines P k all)

agrees_well : (n : ℕ) (s : Connection) (k : ConnectionState) → k.reference ≡ n → Agrees s k → Well n k
agrees_well n s k is agrees = record {
  is = is;
  up = λ sapi. (let up = agrees.up sapi in record { held = up.held; low = up.low; carries = up.carries; from = served_lines (IsFrom up.low) k up.from });
  down = λ sapi. (let down = agrees.down sapi in record { held = down.held; carries = down.carries; zero = down.zero });
}

-- ---- its name remains

tells_name : (m : ℕ) (ns : List Numbered) (k : ConnectionState) → KeepsName k (tells m ns k)
tells_name m [] k = record { number = refl; reference = refl; switch = refl; unjudged = refl }
tells_name m (x ∷ xs) k =
    let one = told_name m x.frame x.said k in
    let rest = tells_name m xs (told m x.frame x.said k) in
    record { number = rest.number ∙ one.number; reference = rest.reference ∙ one.reference; switch = rest.switch ∙ one.switch; unjudged = rest.unjudged ∙ one.unjudged }

-- ---- its tenures remain its own

lines_owned : (n number : ℕ) (outs : List Message) (j next : Judging) →
    ((at : StationChannel) → view_at next.channels at ≡ views_by at outs (view_at j.channels at)) →
    (ts : List Tenure) →
    AllByRecursion (λ (t : Tenure). AllByRecursion (IsUnopened t.at) outs) ts →
    AllByRecursion (λ (t : Tenure). view_at j.channels t.at ≡ views.Owned n number) ts →
    AllByRecursion (λ (t : Tenure). view_at next.channels t.at ≡ views.Owned n number) ts
lines_owned n number outs j next exact [] un owned = tt
lines_owned n number outs j next exact (t ∷ ts) un owned = (exact t.at ∙ all_owned t.at outs (view_at j.channels t.at) n number un.0 owned.0, lines_owned n number outs j next exact ts un.1 owned.1)

-- ---- whose the destinations are

one_named : (n : ℕ) (o : Option Named) (k : ConnectionState) → k.unjudged ≡ None → IsNamed n o (Some k) → o ≡ Some (One n)
one_named n None k judged named = absurd named
one_named n (Some (One m)) k judged named = ap (λ (x : ℕ). some_one x) named
  where
    some_one : ℕ → Option Named
    some_one x = Some (One x)
one_named n (Some Shared) k judged named = (let both : None ≡ Some named.0 = sym judged ∙ named.1 in absurd cc)

-- ---- states

asked_open : (state : State) → IsAsked state → IsOpen state
asked_open WaitConfirm asked = tt
asked_open (Live reference stage) asked = tt
asked_open WaitActivation asked = absurd asked
asked_open WaitEstablish asked = absurd asked
asked_open (Closed clearing) asked = absurd asked
asked_open Removed asked = absurd asked

asked_before : (state : State) → IsAsked state → IsBefore state
asked_before WaitConfirm asked = tt
asked_before (Live reference stage) asked = tt
asked_before WaitActivation asked = absurd asked
asked_before WaitEstablish asked = absurd asked
asked_before (Closed clearing) asked = absurd asked
asked_before Removed asked = absurd asked

before_uncleared : (state : State) → IsBefore state → IsUncleared state
before_uncleared WaitConfirm before = tt
before_uncleared (Live reference stage) before = tt
before_uncleared (Closed (Due cause)) before = tt
before_uncleared (Closed (WasAsked reference)) before = tt
before_uncleared (Closed Complete) before = absurd before
before_uncleared WaitActivation before = tt
before_uncleared WaitEstablish before = tt
before_uncleared Removed before = tt

closed_before : (state : State) → (IsOpen state → ⊥) → (state ≢ Removed) → IsBefore state ⊎ (state ≡ Closed Complete)
closed_before (Closed (Due cause)) shut there = inl tt
closed_before (Closed (WasAsked reference)) shut there = inl tt
closed_before (Closed Complete) shut there = inr refl
closed_before Removed shut there = absurd (there refl)
closed_before WaitConfirm shut there = inl tt
closed_before (Live reference stage) shut there = inl tt
closed_before WaitActivation shut there = absurd (shut tt)
closed_before WaitEstablish shut there = absurd (shut tt)

pub open_asked : (state : State) → IsOpen state → (IsEarly state → ⊥) → IsAsked state
open_asked WaitConfirm is_open late = tt
open_asked (Live reference stage) is_open late = tt
open_asked WaitActivation is_open late = absurd (late tt)
open_asked WaitEstablish is_open late = absurd (late tt)
open_asked (Closed clearing) is_open late = absurd is_open
open_asked Removed is_open late = absurd is_open

-- of one message alone
pub one_frame : (n : ℕ) (ns : List Numbered) (m : Message) (j : Judging) (P : Judging → Type 0) →
    map (λ (k : Numbered). k.said) ns ≡ map (said_of n) (m ∷ []) →
    ((frame : ℕ) → P (after frame (said_of n m) j)) →
    P (after_all j ns)
one_frame n [] m j P are each = absurd cc
one_frame n (x ∷ []) m j P are each = (let said : x.said ≡ said_of n m = cc in subst (λ (s : Said). P (after x.frame s j)) (sym said) (each x.frame))
one_frame n (x ∷ (y ∷ ys)) m j P are each = absurd cc

brings_such : (input : Input) → BringsNoCommand input → BringsSuch IsNoCommand input
brings_such (inputs.Downlink sapi message) brings = brings
brings_such _ brings = tt

-- nothing for stations
silent_view : (at : StationChannel) (ms : List Message) (view : ChannelView) → to_stations ms ≡ [] → views_by at ms view ≡ view
silent_view at [] view none = refl
silent_view at (Station station x ∷ ms) view none = absurd cc
silent_view at (Data destination message ∷ ms) view none = silent_view at ms view none
silent_view at (Request message ∷ ms) view none = silent_view at ms view none
silent_view at (ReleaseComplete destination ∷ ms) view none = silent_view at ms view none

remaining_lines : (k after : ConnectionState) → Remains k after → lines_of after ≡ lines_of k
remaining_lines k after remains = rw (remains.serving, remains.old, remains.awaited) refl

module _ (links : List Bool) (c : Controller) (e : Entry) (input : Input) (offer : Option Channel) (r : Row) (j : Judging) (ns : List Numbered) (now : RowNow links c e input offer r) (mine : AreMine e j) (ready : IsReady c e input r j) (unknown : KnowsNone j) (are : map (λ (k : Numbered). k.said) ns ≡ map (said_of e.connection.number) r.outs) where
  abbrev Number : ℕ
  Number = e.connection.number

  abbrev Next : Judging
  Next = after_all j ns

  final : IsFinal e.connection r
  final = subst (OfRow (IsFinal e.connection)) now.fits (IsFinal-row e.connection input offer)

  -- ---- where it remains

  named_put : Directs input r.outs e.connection.state → AllByRecursion (IsNamedPut Number j) r.outs
  named_put (quiet all) = of r.outs all
    where
      of : (ms : List Message) → AreQuiet ms → AllByRecursion (IsNamedPut Number j) ms
      of [] all = tt
      of (Station station message ∷ ms) all = (tt, of ms all.1)
      of (Data destination message ∷ ms) all = absurd all.0
      of (Request message ∷ ms) all = absurd all.0
      of (ReleaseComplete destination ∷ ms) all = absurd all.0
  named_put (names reference called all) = of r.outs all
    where
      of : (ms : List Message) → AllByRecursion (IsDirected reference) ms → AllByRecursion (IsNamedPut Number j) ms
      of [] all = tt
      of (Station station message ∷ ms) all = (tt, of ms all.1)
      of (Data destination message ∷ ms) all = (subst (λ (x : ℕ). IsNamed Number (j.by_switch x) (j.connections Number)) (sym all.0) (ready.own.named reference called), of ms all.1)
      of (Request message ∷ ms) all = absurd all.0
      of (ReleaseComplete destination ∷ ms) all = absurd all.0

  pub unending : Directs input r.outs e.connection.state → all_ended j ns ≡ []
  unending (quiet all) = all_unended Number ns r.outs j are (quiet_unending r.outs all)
  unending (names reference called all) = all_unended Number ns r.outs j are (directed_unending reference r.outs all)

  changes_by : ((k : ℕ) → k ≢ Number → Next.connections k ≡ j.connections k) →
      ((source : ℕ) → Next.by_switch source ≡ j.by_switch source) →
      ((at : StationChannel) → view_at Next.channels at ≡ views_by at r.outs (view_at j.channels at)) →
      Changes Number c.channels r.outs j Next
  changes_by others switched exact = record {
    others = others;
    named = λ k reference entry differ named. subst (λ (o : Option Named). IsNamed k o entry) (sym (switched reference)) named;
    own = λ at m number is. inl (sym (exact at) ∙ is);
    views = λ at differ. exact at;
  }

  abbrev IsFineBehind : Type 0
  IsFineBehind = OwnFine Number r.next Next × Changes Number c.channels r.outs j Next

  unopened : Unopened r
  unopened = row_unopened e.connection input offer r now.owns.changes (λ is_open. (next_owns links c e input offer r now is_open).apart)

  -- one that isn't there, or isn't judged
  idle_row : Idles Number j → Directs input r.outs e.connection.state → Leads input e.connection.state r.next.state → IsFineBehind
  idle_row idles directs leads =
      let walk = idle_walk Number ns r.outs (uses_of (channels_in_use e.connection)) j are idles (mine_uses e j mine) (puts_on links c e input offer r now) (named_put directs) in (
        idle_own links c e input offer r now j Next ready.own leads unopened walk.views (walk.connections Number) walk.by_switch idles.idle leads.unconfirmed,
        changes_by (λ k differ. walk.connections k) walk.by_switch walk.views,
      )

  -- ---- where it is judged

  module _ (k : ConnectionState) (there : j.connections Number ≡ Some k) (judged : k.unjudged ≡ None) (directs : Directs input r.outs e.connection.state) (leads : Leads input e.connection.state r.next.state) where
    abbrev Behind : ConnectionState
    Behind = tells j.modulus ns k

    known : IsReadyJudged Number e.connection input r k j
    known = ready.own.judged k there judged

    well : Well Number k
    well = ready.own.well k there

    named_one : (destination reference : ℕ) →
        destination ≡ reference →
        IsCalledBy input reference e.connection.state →
        j.by_switch destination ≡ Some (One Number)
    named_one destination reference same called =
        ap j.by_switch same ∙ one_named Number (j.by_switch reference) k judged (subst (λ (o : Option ConnectionState). IsNamed Number (j.by_switch reference) o) there (ready.own.named reference called))

    own_put : (serving : StationChannel) →
        Directs input r.outs e.connection.state →
        AllByRecursion (IsOwnTo serving) r.outs →
        AllByRecursion (IsOwn Number serving j) r.outs
    own_put serving (quiet all) own = of r.outs all own
      where
        of : (ms : List Message) → AreQuiet ms → AllByRecursion (IsOwnTo serving) ms → AllByRecursion (IsOwn Number serving j) ms
        of [] all own = tt
        of (Station station x ∷ ms) all own = (own_station Number serving j station x own.0, of ms all.1 own.1)
        of (Data destination message ∷ ms) all own = absurd all.0
        of (Request message ∷ ms) all own = absurd all.0
        of (ReleaseComplete destination ∷ ms) all own = absurd all.0
    own_put serving (names reference called all) own = of r.outs all own
      where
        of : (ms : List Message) →
            AllByRecursion (IsDirected reference) ms →
            AllByRecursion (IsOwnTo serving) ms →
            AllByRecursion (IsOwn Number serving j) ms
        of [] all own = tt
        of (Station station x ∷ ms) all own = (own_station Number serving j station x own.0, of ms all.1 own.1)
        of (Data destination message ∷ ms) all own = (named_one destination reference all.0 called, of ms all.1 own.1)
        of (Request message ∷ ms) all own = absurd all.0
        of (ReleaseComplete destination ∷ ms) all own = absurd all.0

    held : AllByRecursion IsNoCommand r.next.down.zero × AllByRecursion IsNoCommand r.next.down.three
    held = subst (OfRow (λ (q : Row). AllByRecursion IsNoCommand q.next.down.zero × AllByRecursion IsNoCommand q.next.down.three)) now.fits (held_row IsNoCommand e.connection input offer known.commandless.0 known.commandless.1 (brings_such input known.brings))

    -- what is known of it behind the row
    fine_behind : (after : ConnectionState) →
        after.switch ≡ k.switch →
        (IsAsked r.next.state → Agrees r.next after × AllByRecursion (λ (t : Tenure). view_at Next.channels t.at ≡ views.Owned Number after.number) (lines_of after)) →
        (IsUncleared r.next.state → after.is_cleared ≡ false) →
        IsJudged Number r.next after Next
    fine_behind after switch agrees uncleared = record {
      agrees = λ asked. (agrees asked).0;
      owned = λ asked. (agrees asked).1;
      uncleared = uncleared;
      called = λ reference called. switch ∙ known.called reference (leads.called reference called);
      commandless = held;
    }

    owned_here : IsAsked e.connection.state → view_at j.channels k.serving.at ≡ views.Owned Number k.number
    owned_here asked = serving_line (λ (t : Tenure). view_at j.channels t.at ≡ views.Owned Number k.number) k (known.owned asked)

    -- by messages that are all its own
    by_puts : (serving : StationChannel) →
        view_at j.channels serving ≡ views.Owned Number k.number →
        AllByRecursion (IsOwnTo serving) r.outs →
        (((at : StationChannel) → view_at Next.channels at ≡ views_by at r.outs (view_at j.channels at)) → Well Number Behind × IsJudged Number r.next Behind Next) →
        IsFineBehind
    by_puts serving view own behind =
        let puts : AllByRecursion (IsOwn Number serving j) r.outs = own_put serving directs own in
        let holds : Holds Number serving j k = record { there = there; judged = judged; own = well.is; view = view } in
        let all = put_all Number serving ns r.outs j k are puts holds in
        let exact : (at : StationChannel) → view_at Next.channels at ≡ views_by at r.outs (view_at j.channels at) = λ at. put_views Number serving ns r.outs j k at are puts holds in
        let is = behind exact in (
          judged_own links c e input offer r now j Next ready.own leads unopened exact k Behind there judged all.holds.there (tells_name j.modulus ns k) all.by_switch is.0 is.1,
          changes_by all.others all.by_switch exact,
        )

    -- it was open, and remains so
    open_row : IsAsked e.connection.state →
        IsOpen r.next.state →
        step_by input (roles_of e.connection) ≢ command_step →
        Prepared r k →
        IsFineBehind
    open_row asked is_open differ plan =
        let own = all_own_to r.next.serving r.outs (row_handed e.connection input offer r now.fits now.here.valid) (row_no_command e.connection input offer r now.owns.changes (λ was is. differ) known.commandless known.brings) unopened.serving in
        let was_open : IsOpen e.connection.state = asked_open e.connection.state asked in
        let row : IsOpenRow e.connection input offer r = record { fits = now.fits; valid = now.here.valid; apart = used_apart e.connection (now.apart was_open); was_open = was_open; is_open = is_open } in
        let agreed = row_agrees j.modulus Number ns e.connection input offer r k are row asked plan in
        let name = tells_name j.modulus ns k in
        by_puts (at_of r.next.serving) (ap (view_at j.channels) (sym plan.at) ∙ owned_here asked) own
        (λ exact. (
          agrees_well Number r.next Behind (name.reference ∙ well.is) agreed.0,
          fine_behind Behind name.switch
              (λ asks. (
                agreed.0,
                subst (AllByRecursion (λ (t : Tenure). view_at Next.channels t.at ≡ views.Owned Number Behind.number)) (sym (remaining_lines k Behind agreed.1))
                    (subst (λ (x : ℕ). AllByRecursion (λ (t : Tenure). view_at Next.channels t.at ≡ views.Owned Number x) (lines_of k)) (sym name.number)
                    (lines_owned Number k.number r.outs j Next exact (lines_of k) (lines_unopened r k unopened plan.at plan.old plan.awaited) (known.owned asked))),
              ))
              (λ un. agreed.0.is_open),
        ))

    over_row : IsBefore e.connection.state → (IsOpen r.next.state → ⊥) → IsOver Number r Behind
    over_row before shut = row_over j.modulus Number ns e.connection input offer r k are now.fits before shut well (known.uncleared (before_uncleared e.connection.state before))

    shut_behind : (IsOpen r.next.state → ⊥) → IsOver Number r Behind → Well Number Behind × IsJudged Number r.next Behind Next
    shut_behind shut over = (over.well, fine_behind Behind (tells_name j.modulus ns k).switch (λ asked. absurd (shut (asked_open r.next.state asked))) over.uncleared)

    -- the row closes it
    closing_row : IsAsked e.connection.state → (IsOpen r.next.state → ⊥) → Ends (roles_of e.connection) input r → IsFineBehind
    closing_row asked shut over = by_puts k.serving.at (owned_here asked) (ended_own_to k.serving.at (roles_of e.connection) input r over) (λ exact. shut_behind shut (over_row (asked_before e.connection.state asked) shut))

    -- it was closed
    closed_data : to_stations r.outs ≡ [] → Directs input r.outs e.connection.state → AllByRecursion (IsDataOf Number j) r.outs
    closed_data none (quiet all) = of r.outs none all
      where
        of : (ms : List Message) → to_stations ms ≡ [] → AreQuiet ms → AllByRecursion (IsDataOf Number j) ms
        of [] none all = tt
        of (Station station x ∷ ms) none all = absurd cc
        of (Data destination message ∷ ms) none all = absurd all.0
        of (Request message ∷ ms) none all = absurd all.0
        of (ReleaseComplete destination ∷ ms) none all = absurd all.0
    closed_data none (names reference called all) = of r.outs none all
      where
        of : (ms : List Message) → to_stations ms ≡ [] → AllByRecursion (IsDirected reference) ms → AllByRecursion (IsDataOf Number j) ms
        of [] none all = tt
        of (Station station x ∷ ms) none all = absurd cc
        of (Data destination message ∷ ms) none all = (named_one destination reference all.0 called, of ms none all.1)
        of (Request message ∷ ms) none all = absurd all.0
        of (ReleaseComplete destination ∷ ms) none all = absurd all.0

    behind_clear : (IsOpen r.next.state → ⊥) →
        e.connection.state ≡ Closed Complete →
        Directs input r.outs e.connection.state →
        IsOver Number r Behind
    behind_clear shut complete (names reference called all) = absurd (subst (IsCalledBy input reference) complete called)
    behind_clear shut complete (quiet all) =
        let mild = are_mild r.outs (final.relays shut) (final.hands shut) (row_sapi e.connection input offer r now.fits) in
        let same : Behind ≡ k = all_silent j.modulus Number ns r.outs k are mild (kinds r.outs all) in
        record { well = subst (Well Number) (sym same) well; uncleared = λ un. absurd (subst IsUncleared complete (leads.uncleared un)) }
      where
        kinds : (ms : List Message) → AreQuiet ms → AllByRecursion IsSilentKind ms
        kinds [] all = tt
        kinds (Station station x ∷ ms) all = (tt, kinds ms all.1)
        kinds (Data destination message ∷ ms) all = absurd all.0
        kinds (Request message ∷ ms) all = absurd all.0
        kinds (ReleaseComplete destination ∷ ms) all = absurd all.0

    not_removed : e.connection.state ≢ Removed
    not_removed removed = subst (λ (x : State). From input r.outs x r.next.state) removed (subst (OfRow (IsNamedRow input e.connection.state)) now.fits (named_row e.connection input offer))

    closed_row : (IsOpen e.connection.state → ⊥) → (IsOpen r.next.state → ⊥) → to_stations r.outs ≡ [] → IsFineBehind
    closed_row was_shut shut none =
        let all = data_all Number ns r.outs j k are (closed_data none directs) (record { there = there; judged = judged; own = well.is }) in
        let exact : (at : StationChannel) → view_at Next.channels at ≡ views_by at r.outs (view_at j.channels at) = λ at. ap (λ stations. view_at stations at) all.channels ∙ sym (silent_view at r.outs (view_at j.channels at) none) in
        let is = shut_behind shut (elim (closed_before e.connection.state was_shut not_removed) [ inl before ↦ over_row before shut | inr complete ↦ behind_clear shut (complete) directs ]) in (
          judged_own links c e input offer r now j Next ready.own leads unopened exact k Behind there judged all.bare.there (tells_name j.modulus ns k) all.by_switch is.0 is.1,
          changes_by all.others all.by_switch exact,
        )

    -- the row of a COMMAND
    command_row_fine : (reference : ℕ) (target : Target) →
        IsAsked e.connection.state →
        IsOpen r.next.state →
        e.connection.state ≡ Live reference (Preparing target) →
        r ≡ command_to reference target e.connection →
        Agrees e.connection k →
        IsFineBehind
    command_row_fine reference target asked is_open state is agrees =
        let used = subst (λ (q : Row). Owns (fold (channels_after Number) c.channels q.outs) links Number (roles_of q.next)) is (next_owns links c e input offer r now is_open) in
        let said : map (λ (x : Numbered). x.said) ns ≡ map (said_of Number) (change_command e.connection.serving target.change target.channel ∷ []) = are ∙ ap (λ (q : Row). map (said_of Number) q.outs) is in
        let does : IsCommanded Number e.connection (command_to reference target e.connection).next target c.channels k j Next = one_frame Number ns (change_command e.connection.serving target.change target.channel) j (IsCommanded Number e.connection (command_to reference target e.connection).next target c.channels k j) said
        (λ frame. command_row Number frame reference e.connection target c.channels j k unknown state agrees well there judged (known.owned asked) (ready.own.offered reference target state) (ready.own.assigned reference target state) used.using.1.0) in
        subst (λ (q : Row). OwnFine Number q.next Next × Changes Number c.channels q.outs j Next) (sym is) (of does, does.changes)
      where
        live : IsOpen r.next.state → r ≡ command_to reference target e.connection → r.next.state ≡ Live reference (Changing target)
        live is_open is = ap (λ (q : Row). q.next.state) is

        of : IsCommanded Number e.connection (command_to reference target e.connection).next target c.channels k j Next →
            OwnFine Number (command_to reference target e.connection).next Next
        of does = record {
          unasked = λ early. absurd early;
          well = λ x here. subst (Well Number) (one does.k x (sym does.there ∙ here)) does.well;
          judged = λ x here none. subst (λ (y : ConnectionState). IsJudged Number (command_to reference target e.connection).next y Next) (one does.k x (sym does.there ∙ here))
              (subst (λ (q : Row). IsJudged Number q.next does.k Next) is
              (fine_behind does.k does.switch
              (λ asked. subst (λ (q : Row). Agrees q.next does.k × AllByRecursion (λ (t : Tenure). view_at Next.channels t.at ≡ views.Owned Number does.k.number) (lines_of does.k)) (sym is) (does.judged (ap (λ (y : ConnectionState). y.unjudged) (one does.k x (sym does.there ∙ here)) ∙ none)))
              (λ un. does.uncleared ∙ agrees.is_open)));
          named = λ reference called. subst (λ (o : Option ConnectionState). IsNamed Number (Next.by_switch reference) o) (sym does.there)
              (subst (λ (o : Option Named). IsNamed Number o (Some does.k)) (sym (does.by_switch reference ∙ named_one reference reference refl (leads.called reference (subst (IsCalled reference) (sym (live is_open is)) called)))) refl);
          unconfirmed = λ x un here. absurd un;
          present = λ un. absurd un;
          access = λ early. absurd early;
          offered = λ own t state change. absurd (never own t state);
          assigned = λ own t state change. absurd (never own t state);
        }
          where
            one : (x y : ConnectionState) → (let o : Option ConnectionState = Some x in o) ≡ Some y → x ≡ y
            one x y is = cc

            never : (own : ℕ) (t : Target) → Live reference (Changing target) ≡ Live own (Preparing t) → ⊥
            never own t is = absurd cc

    judged_row : IsFineBehind
    judged_row = by now.owns.changes
      where
        asked : IsOpen e.connection.state → IsAsked e.connection.state
        asked was_open = open_asked e.connection.state was_open (λ early. (let both : None ≡ Some k = sym (ready.own.unasked early) ∙ there in absurd cc))

        open_by : (was_open : IsOpen e.connection.state) (is_open : IsOpen r.next.state) → Follows e.connection input r k → IsFineBehind
        open_by was_open is_open (prepared differ before) = open_row (asked was_open) is_open differ before
        open_by was_open is_open (commands reference target state by_input is agrees) = command_row_fine reference target (asked was_open) is_open state is agrees

        by : ChangesRoles e.connection input offer r → IsFineBehind
        by (carries_on was_open is_open on) = open_by was_open is_open (known.follows (asked was_open) is_open)
        by (ends was_open shut over) = closing_row (asked was_open) shut over
        by (had_ended was_shut shut nothing) = closed_row was_shut shut nothing

  pub kept_row : Directs input r.outs e.connection.state → Leads input e.connection.state r.next.state → IsFineBehind
  kept_row directs leads = by (j.connections Number) refl
    where
      by : (o : Option ConnectionState) → j.connections Number ≡ o → IsFineBehind
      by None none = idle_row (record { idle = subst IsIdle (sym none) tt; own = λ x there. (ready.own.well x there).is }) directs leads
      by (Some k) there = of k.unjudged refl
        where
          of : (u : Option Unjudged) → k.unjudged ≡ u → IsFineBehind
          of None judged = judged_row k there judged directs leads
          of (Some u) un = idle_row (record { idle = subst IsIdle (sym there) (u, un); own = λ x here. (ready.own.well x here).is }) directs leads
