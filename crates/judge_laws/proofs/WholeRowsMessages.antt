-- SPDX-License-Identifier: MIT OR Apache-2.0
-- Lemmas: on which channels a row puts messages, and of which kinds they aren't.
use Rattle.std.proofs.Common.{◌≡◌, ◌≢◌, ℕ, ◌==◌, ◌||◌, not, Bool, true, false, List, [], ◌∷◌, ◌++◌, Option, Some, None, refl, sym, subst, ap, ◌∙◌, inl, inr, filter}
use Rattle.std.proofs.lemmas.Bool.{and_parts, cases_Bool, eqb-true, true≢false}
use Rattle.std.specs.List.{AllByRecursion, list_any}
use Rattle.std.specs.Prelude.{if◌then◌else◌, map}
use Rattle.conn_messages.specs.declared.channel.Change.{Change}
use Rattle.conn_messages.specs.declared.channel.Change.TheVariants.{Assignment, Handover}
use Rattle.conn_messages.specs.declared.channel.Channel.{Channel}
use Rattle.conn_messages.specs.declared.channel.Place.{Place}
use Rattle.conn_messages.specs.declared.message.Message.{Message}
use Rattle.conn_messages.specs.declared.message.Message.TheVariants.{Station, Data, ReleaseComplete, Request}
use Rattle.conn_messages.specs.StationMessage.{change_activation, channel_release}
use Rattle.conn_rules.specs.Connection.{Connection, is_at}
use Rattle.conn_rules.specs.declared.input.Input.{Input}
use Rattle.conn_rules.specs.declared.input.Input.TheVariants as inputs
use Rattle.conn_rules.specs.declared.state.Stage.TheVariants.{Active, Changing, Draining, Preparing}
use Rattle.conn_rules.specs.declared.state.State.{State}
use Rattle.conn_rules.specs.declared.state.State.TheVariants.{Closed, Live, Removed, WaitActivation, WaitConfirm, WaitEstablish}
use Rattle.conn_rules.specs.declared.state.Target.{Target}
use Rattle.conn_rules.specs.Putting.{ArePutOn, uses_of}
use Rattle.conn_rules.specs.Roles.{ChangesRoles, Ends, IsOfSwitch, RemainsOpen, RoleEnd, RoleStep, Roles, TargetRole, Tells, after_step, begin_orders, brought, channels_in, channels_in_use, end_messages, is_order, is_to_station, roles_of, step_by, step_orders, target_channels, target_releases, target_role, those_sent, to_stations, with_target}
use Rattle.conn_rules.specs.Roles.ChangesRoles.{carries_on, ends, had_ended}
use Rattle.conn_rules.specs.Roles.RoleEnd.{refused, drops, dismisses}
use Rattle.conn_rules.specs.Roles.RoleStep.{unchanged, commands, completes, reverts, leaves}
use Rattle.conn_rules.specs.Steps.{Row, is_for_station}
use Rattle.conn_rules.specs.Streams.{AreApart, IsApart, IsHandedTo, IsOpen, KeepsDownlink, OfRow, undone}
use Rattle.conn_rules.specs.Table.{row_of}
use Rattle.conn_rules.proofs.Downlink.{KeepsDownlink-row}
use Rattle.conn_rules.proofs.DownlinkMessages.{AllByRecursion-append, AllByRecursion-filter}
use Rattle.conn_rules.proofs.PutRows.{puts_on_own}
use Rattle.controller_model.specs.Controller.{Controller, Entry}
use Rattle.controller_model.specs.LifeLaws.Owning.{used_in}
use Rattle.controller_model.proofs.LifeLaws.UplinkLife.{used_apart}
use Rattle.controller_model.proofs.LifeLaws.UsingRows.{all_contained}
use Rattle.dtap_codec.specs.RrReading.{rr_reading, typed_at, cause_at}
use Rattle.dtap_codec.specs.RrType.{rr_type}
use Rattle.octets.specs.Front.{octet_at}
use Rattle.conn_rules.specs.Validity.{IsValid}
use Rattle.dtap_codec.specs.declared.sapi.Sapi.TheVariants.{Zero}
use Rattle.hold_queue.specs.HoldState.{HoldState}
use Rattle.rsl_codec.specs.declared.rsl.Rsl.TheVariants as rsl
use Rattle.run_judge.specs.declared.connection.Tenure.{Tenure}
use Rattle.run_judge.specs.declared.said.StationChannel.{StationChannel}
use Rattle.run_judge.specs.Channels.{view_at}
use Rattle.run_judge.specs.Connection.{is_same}
use Rattle.run_judge.specs.ConnectionState.{ConnectionState}
use Rattle.run_judge.specs.Judging.{Judging}
use Rattle.run_judge.specs.Reading.{channel_at}
use Rattle.judge_laws.proofs.Fine.{IsNoCommand}
use Rattle.judge_laws.proofs.HeardFine.{BringsNoCommand}
use Rattle.judge_laws.proofs.Idling.{IsMine}
use Rattle.judge_laws.proofs.Ranks.{is_itself, same_is}
use Rattle.judge_laws.proofs.Told.{same_dtap}
use Rattle.judge_laws.proofs.WholeRowsNow.{AreMine, RowNow}
use Rattle.judge_laws.proofs.WholeRowsOthers.{lines_all}
use Rattle.judge_laws.proofs.WholeRowsPuts.{IsOwnTo, Uses, place_channel}
use Rattle.judge_laws.proofs.WholeRowsViews.{IsUnopened}
use Rattle.judge_laws.specs.Agreeing.{awaited_in, lines_of}
use Rattle.judge_laws.specs.Places.{at_of}

-- ---- on channels in use

pub puts_on : (links : List Bool) (c : Controller) (e : Entry) (input : Input) (offer : Option Channel) (r : Row) →
    RowNow links c e input offer r →
    ArePutOn (uses_of (channels_in_use e.connection)) r.outs
puts_on links c e input offer r now =
    subst (OfRow (λ (q : Row). ArePutOn (uses_of (channels_in_use e.connection)) q.outs)) now.fits
    (puts_on_own e.connection input offer now.here.valid (λ is_open. used_apart e.connection (now.apart is_open)))

any_of : (P : Type 0) (p : Place) (cs : List Channel) →
    AllByRecursion (λ (d : Channel). is_at p d ≡ true → P) cs →
    list_any (λ (d : Channel). is_at p d) cs ≡ true →
    P
any_of P p [] all is = absurd (true≢false (sym is))
any_of P p (d ∷ ds) all is = by (is_at p d) refl (any_of P p ds all.1) is
  where
    by : (b : Bool) →
        is_at p d ≡ b →
        (list_any (λ (x : Channel). is_at p x) ds ≡ true → P) →
        (b || list_any (λ (x : Channel). is_at p x) ds) ≡ true →
        P
    by true here rest is = all.0 here
    by false away rest is = rest is

at_place : (p : Place) (d : Channel) → is_at p d ≡ true → place_channel p ≡ at_of d
at_place p d here =
    let parts = and_parts (p.station == d.station) (p.number == d.number) here in
    ap (λ (k : ℕ). channel_at k p.number) (eqb-true p.station d.station parts.0) ∙ ap (λ (k : ℕ). channel_at d.station k) (eqb-true p.number d.number parts.1)

mine_of : (n : ℕ) (j : Judging) (p : Place) (cs : List Channel) →
    AllByRecursion (λ (d : Channel). IsMine n (view_at j.channels (at_of d))) cs →
    AllByRecursion (λ (d : Channel). is_at p d ≡ true → IsMine n (view_at j.channels (place_channel p))) cs
mine_of n j p [] all = tt
mine_of n j p (d ∷ ds) all = ((λ here. subst (λ (at : StationChannel). IsMine n (view_at j.channels at)) (sym (at_place p d here)) all.0), mine_of n j p ds all.1)

pub mine_uses : (e : Entry) (j : Judging) → AreMine e j → Uses e.connection.number (uses_of (channels_in_use e.connection)) j
mine_uses e j mine p used = by e.connection.state mine used
  where
    n : ℕ
    n = e.connection.number

    of : (cs : List Channel) →
        AllByRecursion (λ (d : Channel). IsMine n (view_at j.channels (at_of d))) cs →
        uses_of cs p ≡ true →
        IsMine n (view_at j.channels (place_channel p))
    of cs all is = any_of (IsMine n (view_at j.channels (place_channel p))) p cs (mine_of n j p cs all) is

    by : (state : State) →
        (IsOpen state → AllByRecursion (λ (d : Channel). IsMine n (view_at j.channels (at_of d))) (e.connection.serving ∷ target_channels (target_role e.connection.state))) →
        uses_of (channels_in state (roles_of e.connection)) p ≡ true →
        IsMine n (view_at j.channels (place_channel p))
    by (Closed clearing) mine is = absurd (true≢false (sym is))
    by Removed mine is = absurd (true≢false (sym is))
    by WaitActivation mine is = of (e.connection.serving ∷ target_channels (target_role e.connection.state)) (mine tt) is
    by WaitEstablish mine is = of (e.connection.serving ∷ target_channels (target_role e.connection.state)) (mine tt) is
    by WaitConfirm mine is = of (e.connection.serving ∷ target_channels (target_role e.connection.state)) (mine tt) is
    by (Live reference stage) mine is = of (e.connection.serving ∷ target_channels (target_role e.connection.state)) (mine tt) is

-- ---- of some messages alone

pub filtered_all : (P : Message → Type 0) (test : Message → Bool) (ms : List Message) →
    ((m : Message) → test m ≡ false → P m) →
    AllByRecursion P (filter test ms) →
    AllByRecursion P ms
filtered_all P test [] other all = tt
filtered_all P test (m ∷ ms) other all = by (test m) refl (filtered_all P test ms other) all
  where
    by : (b : Bool) →
        test m ≡ b →
        (AllByRecursion P (filter test ms) → AllByRecursion P ms) →
        AllByRecursion P (if b then m ∷ filter test ms else filter test ms) →
        P m × AllByRecursion P ms
    by true is rest all = (all.0, rest all.1)
    by false is rest all = (other m is, rest all)

sent_all : (P : Message → Type 0) (input : Input) (ms : List Message) → AllByRecursion P ms → AllByRecursion P (those_sent input ms)
sent_all P (inputs.StationDown station) ms all = AllByRecursion-filter P (λ message. not (is_for_station station message)) ms all
sent_all P _ ms all = all

-- ---- no channel of the connection is activated

unordered : (at : StationChannel) (m : Message) → is_order m ≡ false → IsUnopened at m
unordered at (Station station (rsl.ChannelActivation a)) is = absurd (true≢false is)
unordered at (Station station x) is = tt
unordered at (Request message) is = tt
unordered at (Data destination message) is = tt
unordered at (ReleaseComplete destination) is = tt

for_switch : (at : StationChannel) (m : Message) → is_to_station m ≡ false → IsUnopened at m
for_switch at (Station station x) is = absurd (true≢false is)
for_switch at (Request message) is = tt
for_switch at (Data destination message) is = tt
for_switch at (ReleaseComplete destination) is = tt

step_unopened : (at : StationChannel) (step : RoleStep) (roles : Roles) → AllByRecursion (IsUnopened at) (step_orders step roles)
step_unopened at unchanged roles = tt
step_unopened at commands roles = tt
step_unopened at completes roles = (tt, tt)
step_unopened at (leaves place) roles = tt
step_unopened at reverts roles = by roles.target
  where
    by : (o : Option TargetRole) → AllByRecursion (IsUnopened at) (step_orders reverts (record roles { target = o }))
    by None = tt
    by (Some t) = of t.is_commanded
      where
        of : (b : Bool) →
            AllByRecursion (IsUnopened at) (if b then (Station t.target.channel.station (rsl.RfChannelRelease t.target.channel.number)) ∷ [] else [])
        of true = (tt, tt)
        of false = tt

begin_unopened : (at : StationChannel) (begun : Option Target) →
    ((t : Target) → begun ≡ Some t → is_same (at_of t.channel) at ≡ false) →
    AllByRecursion (IsUnopened at) (begin_orders begun)
begin_unopened at None apart = tt
begin_unopened at (Some t) apart = (of t.change, tt)
  where
    of : (change : Change) → IsUnopened at (change_activation change t.channel)
    of Assignment = apart t refl
    of Handover = apart t refl

-- a row that remains open, but for the target of a change that begins
pub open_unopened : (at : StationChannel) (step : RoleStep) (before : Roles) (down : HoldState) (input : Input) (offer : Option Channel) (r : Row) (on : RemainsOpen step before down input offer r) →
    ((t : Target) → on.begun ≡ Some t → is_same (at_of t.channel) at ≡ false) →
    AllByRecursion (IsUnopened at) r.outs
open_unopened at step before down input offer r on apart =
    filtered_all (IsUnopened at) is_order r.outs (unordered at)
    (subst (AllByRecursion (IsUnopened at)) (sym on.ordered) (AllByRecursion-append (IsUnopened at) (step_orders step before) (begin_orders on.begun) (step_unopened at step before) (begin_unopened at on.begun apart)))

end_unopened : (at : StationChannel) (end : RoleEnd) (roles : Roles) → AllByRecursion (IsUnopened at) (end_messages end roles)
end_unopened at refused roles = tt
end_unopened at drops roles = (tt, tt)
end_unopened at (dismisses cause) roles = (tt, (tt, by roles.target))
  where
    by : (o : Option TargetRole) → AllByRecursion (IsUnopened at) (target_releases o)
    by None = tt
    by (Some t) = (tt, tt)

-- a row that ends a connection, or of one that had ended
pub ended_unopened : (at : StationChannel) (before : Roles) (input : Input) (r : Row) →
    Ends before input r →
    AllByRecursion (IsUnopened at) r.outs
ended_unopened at before input r over =
    filtered_all (IsUnopened at) is_to_station r.outs (for_switch at)
    (subst (AllByRecursion (IsUnopened at)) (sym over.ordered) (sent_all (IsUnopened at) input (end_messages over.end before) (end_unopened at over.end before)))

silent_unopened : (at : StationChannel) (ms : List Message) → to_stations ms ≡ [] → AllByRecursion (IsUnopened at) ms
silent_unopened at ms none = filtered_all (IsUnopened at) is_to_station ms (for_switch at) (subst (AllByRecursion (IsUnopened at)) (sym none) tt)

-- ---- the channels of the connection behind the row

not_same : (at other : StationChannel) → is_same at other ≡ false → is_same other at ≡ false
not_same at other differ = elim (cases_Bool (is_same other at)) [
  | inr miss ↦ miss
  | inl hit ↦ absurd (true≢false (sym (is_itself at) ∙ ap (λ (x : StationChannel). is_same at x) (sym (same_is other at hit)) ∙ differ))
]

apart_last : (t : Channel) (ds : List Channel) (serving : Channel) →
    AreApart (ds ++ serving ∷ t ∷ []) →
    AllByRecursion (λ (d : Channel). is_same (at_of t) (at_of d) ≡ false) ds × (is_same (at_of t) (at_of serving) ≡ false)
apart_last t [] serving apart = (tt, not_same (at_of serving) (at_of t) apart.0.0)
apart_last t (d ∷ ds) serving apart = (let rest = apart_last t ds serving apart.1 in ((not_same (at_of d) (at_of t) (last ds apart.0), rest.0), rest.1))
  where
    last : (ds : List Channel) → AllByRecursion (IsApart d) (ds ++ serving ∷ t ∷ []) → IsApart d t
    last [] all = all.1.0
    last (x ∷ xs) all = last xs all.1

pub begun_role : (begun : Option Target) (roles : Roles) (t : Target) →
    begun ≡ Some t →
    (with_target begun roles).target ≡ Some (record { target = t; is_commanded = false })
begun_role None roles t is = absurd (let none : None ≡ Some t = is in cc)
begun_role (Some u) roles t is = ap (λ (x : Target). some_role x) (of is)
  where
    some_role : Target → Option TargetRole
    some_role x = Some (record { target = x; is_commanded = false })

    of : (let o : Option Target = Some u in o) ≡ Some t → u ≡ t
    of is = cc

abbrev pub commanded_in : Bool → Option TargetRole → Bool
commanded_in other None = other
commanded_in other (Some t) = t.is_commanded

not_awaited : (state : State) (t : Target) →
    target_role state ≡ Some (record { target = t; is_commanded = false }) →
    awaited_in state ≡ None
not_awaited (Live reference (Changing target)) t is = absurd (let differ : true ≡ false = ap (commanded_in false) is in cc)
not_awaited (Live reference Active) t is = refl
not_awaited (Live reference Draining) t is = refl
not_awaited (Live reference (Preparing target)) t is = refl
not_awaited WaitActivation t is = refl
not_awaited WaitEstablish t is = refl
not_awaited WaitConfirm t is = refl
not_awaited (Closed clearing) t is = refl
not_awaited Removed t is = refl

-- none of the channels that a row leaves is activated by it, but for the target
pub record Unopened (r : Row) : Type 0 where
  pub serving : AllByRecursion (IsUnopened (at_of r.next.serving)) r.outs
  pub drains : AllByRecursion (λ (d : Channel). AllByRecursion (IsUnopened (at_of d)) r.outs) (undone r.next.draining)
  pub targets : awaited_in r.next.state ≢ None →
      AllByRecursion (λ (d : Channel). AllByRecursion (IsUnopened (at_of d)) r.outs) (target_channels (target_role r.next.state))

every_channel : (P : StationChannel → Type 0) (ds : List Channel) →
    ((at : StationChannel) → P at) →
    AllByRecursion (λ (d : Channel). P (at_of d)) ds
every_channel P [] all = tt
every_channel P (d ∷ ds) all = (all (at_of d), every_channel P ds all)

some_channel : (P Q : StationChannel → Type 0) (ds : List Channel) →
    ((at : StationChannel) → P at → Q at) →
    AllByRecursion (λ (d : Channel). P (at_of d)) ds →
    AllByRecursion (λ (d : Channel). Q (at_of d)) ds
some_channel P Q [] so all = tt
some_channel P Q (d ∷ ds) so all = (so (at_of d) all.0, some_channel P Q ds so all.1)

any_unopened : (r : Row) → ((at : StationChannel) → AllByRecursion (IsUnopened at) r.outs) → Unopened r
any_unopened r all = record {
  serving = all (at_of r.next.serving);
  drains = every_channel (λ at. AllByRecursion (IsUnopened at) r.outs) (undone r.next.draining) all;
  targets = λ some. every_channel (λ at. AllByRecursion (IsUnopened at) r.outs) (target_channels (target_role r.next.state)) all;
}

remains_unopened : (step : RoleStep) (before : Roles) (down : HoldState) (input : Input) (offer : Option Channel) (r : Row) →
    RemainsOpen step before down input offer r →
    AreApart (used_in (roles_of r.next)) →
    Unopened r
remains_unopened step before down input offer r on apart = by on.begun refl
  where
    by : (begun : Option Target) → on.begun ≡ begun → Unopened r
    by None is = any_unopened r (λ at. open_unopened at step before down input offer r on (λ t some. absurd (let none : None ≡ Some t = sym is ∙ some in cc)))
    by (Some t) is =
        let role : target_role r.next.state ≡ Some (record { target = t; is_commanded = false }) = ap (λ (x : Roles). x.target) on.roles ∙ begun_role on.begun (after_step step before) t is in
        let parts = apart_last t.channel (undone r.next.draining) r.next.serving (subst (λ (o : Option TargetRole). AreApart (undone r.next.draining ++ r.next.serving ∷ target_channels o)) role apart) in
        let of : (at : StationChannel) → is_same (at_of t.channel) at ≡ false → AllByRecursion (IsUnopened at) r.outs = λ at differ. open_unopened at step before down input offer r on (λ u some. subst (λ (x : Target). is_same (at_of x.channel) at ≡ false) (one t u (sym is ∙ some)) differ) in
        record {
          serving = of (at_of r.next.serving) parts.1;
          drains = some_channel (λ at. is_same (at_of t.channel) at ≡ false) (λ at. AllByRecursion (IsUnopened at) r.outs) (undone r.next.draining) of parts.0;
          targets = λ some. absurd (some (not_awaited r.next.state t role));
        }
      where
        one : (t u : Target) → (let o : Option Target = Some t in o) ≡ Some u → t ≡ u
        one t u is = cc

pub row_unopened : (s : Connection) (input : Input) (offer : Option Channel) (r : Row) →
    ChangesRoles s input offer r →
    (IsOpen r.next.state → AreApart (used_in (roles_of r.next))) →
    Unopened r
row_unopened s input offer r (carries_on was_open is_open on) apart = remains_unopened (step_by input (roles_of s)) (roles_of s) s.down input offer r on (apart is_open)
row_unopened s input offer r (ends was_open shut over) apart = any_unopened r (λ at. ended_unopened at (roles_of s) input r over)
row_unopened s input offer r (had_ended was_shut shut nothing) apart = any_unopened r (λ at. silent_unopened at r.outs nothing)

-- of the judge's tenures, which are those behind the row
pub lines_unopened : (r : Row) (k : ConnectionState) →
    Unopened r →
    k.serving.at ≡ at_of r.next.serving →
    map (λ (t : Tenure). t.at) k.former ≡ map at_of (undone r.next.draining) →
    k.awaited ≡ awaited_in r.next.state →
    AllByRecursion (λ (t : Tenure). AllByRecursion (IsUnopened t.at) r.outs) (lines_of k)
lines_unopened r k un at old awaited =
    lines_all (λ (x : StationChannel). AllByRecursion (IsUnopened x) r.outs) r.next k at old awaited un.serving (λ some. un.targets (λ none. some (awaited ∙ none))) un.drains

-- ---- no COMMAND, but where the row is one

abbrev pub IsNoCommandPut : Message → Type 0
IsNoCommandPut (Station station (rsl.DataRequest d)) = IsNoCommand d.l3
IsNoCommandPut _ = Unit {0}

undirected : (m : Message) → is_to_station m ≡ false → IsNoCommandPut m
undirected (Station station x) is = absurd (true≢false is)
undirected (Request message) is = tt
undirected (Data destination message) is = tt
undirected (ReleaseComplete destination) is = tt

release_says : (c : Channel) (cause : ℕ) → IsNoCommandPut (channel_release c cause)
unfolding rr_reading typed_at cause_at octet_at rr_type
release_says c cause rr at = refl

end_no_command : (end : RoleEnd) (roles : Roles) → AllByRecursion IsNoCommandPut (end_messages end roles)
end_no_command refused roles = tt
end_no_command drops roles = (tt, tt)
end_no_command (dismisses cause) roles = (release_says roles.serving cause, (tt, by roles.target))
  where
    by : (o : Option TargetRole) → AllByRecursion IsNoCommandPut (target_releases o)
    by None = tt
    by (Some t) = (tt, tt)

of_switch : (down : HoldState) (input : Input) (m : Message) →
    AllByRecursion IsNoCommand (down.zero ++ (down.three ++ brought input)) →
    IsOfSwitch down input m →
    IsNoCommandPut m
of_switch down input (Station station (rsl.DataRequest d)) all there = all_contained IsNoCommand (down.zero ++ (down.three ++ brought input)) d.l3 all there
of_switch down input (Station station x) all there = tt
of_switch down input (Request message) all there = tt
of_switch down input (Data destination message) all there = tt
of_switch down input (ReleaseComplete destination) all there = tt

all_of_switch : (down : HoldState) (input : Input) (ms : List Message) →
    AllByRecursion IsNoCommand (down.zero ++ (down.three ++ brought input)) →
    AllByRecursion (IsOfSwitch down input) ms →
    AllByRecursion IsNoCommandPut ms
all_of_switch down input [] all there = tt
all_of_switch down input (m ∷ ms) all there = (of_switch down input m all there.0, all_of_switch down input ms all there.1)

brought_no_command : (input : Input) → BringsNoCommand input → AllByRecursion IsNoCommand (brought input)
brought_no_command (inputs.Downlink sapi message) brings = (brings, tt)
brought_no_command _ brings = tt

told_by : (step : RoleStep) (before : Roles) (down : HoldState) (input : Input) (outs : List Message) →
    step ≢ commands →
    Tells step before down input outs →
    AllByRecursion (IsOfSwitch down input) outs
told_by commands before down input outs differ tells = absurd (differ refl)
told_by unchanged before down input outs differ tells = tells
told_by completes before down input outs differ tells = tells
told_by reverts before down input outs differ tells = tells
told_by (leaves place) before down input outs differ tells = tells

pub row_no_command : (s : Connection) (input : Input) (offer : Option Channel) (r : Row) →
    ChangesRoles s input offer r →
    (IsOpen s.state → IsOpen r.next.state → step_by input (roles_of s) ≢ commands) →
    AllByRecursion IsNoCommand s.down.zero × AllByRecursion IsNoCommand s.down.three →
    BringsNoCommand input →
    AllByRecursion IsNoCommandPut r.outs
row_no_command s input offer r (carries_on was_open is_open on) plain held brings =
    all_of_switch s.down input r.outs
    (AllByRecursion-append IsNoCommand s.down.zero (s.down.three ++ brought input) held.0 (AllByRecursion-append IsNoCommand s.down.three (brought input) held.1 (brought_no_command input brings)))
    (told_by (step_by input (roles_of s)) (roles_of s) s.down input r.outs (plain was_open is_open) on.tells)
row_no_command s input offer r (ends was_open shut over) plain held brings =
    filtered_all IsNoCommandPut is_to_station r.outs undirected
    (subst (AllByRecursion IsNoCommandPut) (sym over.ordered) (sent_all IsNoCommandPut input (end_messages over.end (roles_of s)) (end_no_command over.end (roles_of s))))
row_no_command s input offer r (had_ended was_shut shut nothing) plain held brings =
    filtered_all IsNoCommandPut is_to_station r.outs undirected (subst (AllByRecursion IsNoCommandPut) (sym nothing) tt)

-- ---- all that is for the mobile is for the channel that serves

own_to : (c : Channel) (m : Message) → IsHandedTo c m → IsNoCommandPut m → IsUnopened (at_of c) m → IsOwnTo (at_of c) m
own_to c (Station station (rsl.DataRequest d)) handed plain un = (λ dtap. of (handed (sym (same_dtap d.l3) ∙ dtap)), λ rr. plain rr (channel_at station d.channel))
  where
    of : (station ≡ c.station) × (d.channel ≡ c.number) → channel_at station d.channel ≡ at_of c
    of same = ap (λ (k : ℕ). channel_at k d.channel) same.0 ∙ ap (λ (k : ℕ). channel_at c.station k) same.1
own_to c (Station station (rsl.ChannelActivation a)) handed plain un = un
own_to c (Station station x) handed plain un = tt
own_to c (Request message) handed plain un = tt
own_to c (Data destination message) handed plain un = tt
own_to c (ReleaseComplete destination) handed plain un = tt

pub all_own_to : (c : Channel) (ms : List Message) →
    AllByRecursion (IsHandedTo c) ms →
    AllByRecursion IsNoCommandPut ms →
    AllByRecursion (IsUnopened (at_of c)) ms →
    AllByRecursion (IsOwnTo (at_of c)) ms
all_own_to c [] handed plain un = tt
all_own_to c (m ∷ ms) handed plain un = (own_to c m handed.0 plain.0 un.0, all_own_to c ms handed.1 plain.1 un.1)

pub row_handed : (s : Connection) (input : Input) (offer : Option Channel) (r : Row) →
    row_of s input offer ≡ Some r →
    IsValid s →
    AllByRecursion (IsHandedTo r.next.serving) r.outs
row_handed s input offer r fits valid = (subst (OfRow (KeepsDownlink Zero s input)) fits (KeepsDownlink-row Zero s input offer valid)).serving

-- a row that ends a connection hands nothing
end_own_to : (at : StationChannel) (end : RoleEnd) (roles : Roles) → AllByRecursion (IsOwnTo at) (end_messages end roles)
end_own_to at refused roles = tt
end_own_to at drops roles = (tt, tt)
end_own_to at (dismisses cause) roles = (((λ dtap. absurd (true≢false (sym dtap))), (λ rr. release_says roles.serving cause rr (at_of roles.serving))), (tt, by roles.target))
  where
    by : (o : Option TargetRole) → AllByRecursion (IsOwnTo at) (target_releases o)
    by None = tt
    by (Some t) = (tt, tt)

switch_own_to : (at : StationChannel) (m : Message) → is_to_station m ≡ false → IsOwnTo at m
switch_own_to at (Station station x) is = absurd (true≢false is)
switch_own_to at (Request message) is = tt
switch_own_to at (Data destination message) is = tt
switch_own_to at (ReleaseComplete destination) is = tt

pub ended_own_to : (at : StationChannel) (before : Roles) (input : Input) (r : Row) →
    Ends before input r →
    AllByRecursion (IsOwnTo at) r.outs
ended_own_to at before input r over =
    filtered_all (IsOwnTo at) is_to_station r.outs (switch_own_to at)
    (subst (AllByRecursion (IsOwnTo at)) (sym over.ordered) (sent_all (IsOwnTo at) input (end_messages over.end before) (end_own_to at over.end before)))
