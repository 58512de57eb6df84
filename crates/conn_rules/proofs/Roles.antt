-- SPDX-License-Identifier: MIT OR Apache-2.0
-- The effect of steps on the roles of channels.
use Rattle.conn_rules.proofs.Prelude.{◌≡◌, ℕ, Bool, true, false, not, ◌&&◌, List, [], ◌∷◌, ◌++◌, map, filter, refl, sym, ◌∙◌, ap, subst}
use Rattle.conn_rules.proofs.Prelude.{Option, Some, None, true≢false, Contains, if◌then◌else◌, filter-append, Contains-push}
use Rattle.conn_rules.proofs.Prelude.{Contains-append_left, Contains-append_right, AllByRecursion, ABNORMAL_RELEASE, Change, Assignment}
use Rattle.conn_rules.proofs.Prelude.{Handover, Channel, Message, Station, handing, change_activation, relaying, Sapi, Zero, Three, TenureHold}
use Rattle.conn_rules.proofs.Prelude.{HoldState, DataRequest, Input, Drain, ShortMessageLink, Down, Stage, Preparing, Changing, State, Live}
use Rattle.conn_rules.proofs.Prelude.{Target, Connection, unchanged, commands, leaves, drops, dismisses, carries_on, ends, had_ended, IsOpen}
use Rattle.conn_rules.proofs.Prelude.{ChannelActivation, RfChannelRelease}
use Rattle.conn_rules.specs.declared.input.Input.TheVariants as inputs
use Rattle.conn_rules.specs.Roles.{Roles, target_role, roles_of, RoleStep, after_step, with_target, step_by, change_by, MayBegin, is_order, orders, step_orders, begin_orders, IsOfSwitch, brought, Tells, RemainsOpen, end_messages, is_to_station, to_stations, those_sent, Ends, ChangesRoles, ChangesRolesBy}
use Rattle.conn_rules.specs.Steps.{Row, row, end_outs, failing, dropping, without_station, is_for_station, may_begin, begin_outs, after_begin, waiting_outs, after_waiting, begin_waiting, request_where, request_for, tenure_outs}
use Rattle.conn_rules.specs.Table.{row_if}
use Rattle.conn_rules.proofs.DownlinkMessages.{AllByRecursion-append, AllByRecursion-so}

-- the roles, in a state that is known
abbrev pub roles_in : State → Connection → Roles
roles_in state s = record { serving = s.serving; target = target_role state; draining = s.draining }

pub roles_known : (state : State) (s : Connection) → s.state ≡ state → roles_of s ≡ roles_in state s
roles_known state s is = ap (λ (state : State). roles_in state s) is

pub equal_roles : (a b : Roles) → a.serving ≡ b.serving → a.target ≡ b.target → a.draining ≡ b.draining → a ≡ b
equal_roles a b serving target draining = λ i. record { serving = serving i; target = target i; draining = draining i }

-- ---- the law, in a state that is known

pub continues_in : (state : State) (s : Connection) (input : Input) (offer : Option Channel) (r : Row) →
    s.state ≡ state →
    IsOpen state →
    IsOpen r.next.state →
    RemainsOpen (step_by input (roles_in state s)) (roles_in state s) s.down input offer r →
    ChangesRoles s input offer r
continues_in state s input offer r is was_open is_open on =
    carries_on (subst IsOpen (sym is) was_open) is_open (subst (λ (state : State). RemainsOpen (step_by input (roles_in state s)) (roles_in state s) s.down input offer r) (sym is) on)

-- where the step is known
pub continues_by : (step : RoleStep) (state : State) (s : Connection) (input : Input) (offer : Option Channel) (r : Row) →
    step_by input (roles_in state s) ≡ step →
    s.state ≡ state →
    IsOpen state →
    IsOpen r.next.state →
    RemainsOpen step (roles_in state s) s.down input offer r →
    ChangesRoles s input offer r
continues_by step state s input offer r same is was_open is_open on =
    continues_in state s input offer r is was_open is_open (subst (λ (step : RoleStep). RemainsOpen step (roles_in state s) s.down input offer r) (sym same) on)

pub ends_in : (state : State) (s : Connection) (input : Input) (offer : Option Channel) (r : Row) →
    s.state ≡ state →
    IsOpen state →
    (IsOpen r.next.state → ⊥) →
    Ends (roles_in state s) input r →
    ChangesRoles s input offer r
ends_in state s input offer r is was_open shut over =
    ends (subst IsOpen (sym is) was_open) shut (subst (λ (state : State). Ends (roles_in state s) input r) (sym is) over)

pub had_ended_in : (state : State) (s : Connection) (input : Input) (offer : Option Channel) (r : Row) →
    s.state ≡ state →
    (IsOpen state → ⊥) →
    (IsOpen r.next.state → ⊥) →
    to_stations r.outs ≡ [] →
    ChangesRoles s input offer r
had_ended_in state s input offer r is was_shut shut nothing = had_ended (λ is_open. was_shut (subst IsOpen is is_open)) shut nothing

pub none_in : (state : State) (s : Connection) (input : Input) (offer : Option Channel) →
    s.state ≡ state →
    step_by input (roles_in state s) ≡ unchanged →
    ChangesRolesBy s input offer None
none_in state s input offer is same = subst (λ (state : State). step_by input (roles_in state s) ≡ unchanged) (sym is) same

-- a row that fits where a test holds
pub changes_roles_by_row_if : (s : Connection) (input : Input) (offer : Option Channel) (test : Bool) (r : Row) →
    (test ≡ true → ChangesRoles s input offer r) →
    (test ≡ false → ChangesRolesBy s input offer None) →
    ChangesRolesBy s input offer (row_if test r)
changes_roles_by_row_if s input offer true r fits apart = fits refl
changes_roles_by_row_if s input offer false r fits apart = apart refl

-- ---- messages that order nothing and send the mobile nothing

abbrev pub IsNoDataRequest : Message → Type 0
IsNoDataRequest (Station station (DataRequest request)) = ⊥
IsNoDataRequest _ = Unit {0}

abbrev pub IsPlain : Message → Type 0
IsPlain (Station station (DataRequest request)) = ⊥
IsPlain (Station station (ChannelActivation activation)) = ⊥
IsPlain (Station station (RfChannelRelease number)) = ⊥
IsPlain _ = Unit {0}

abbrev pub ArePlain : List Message → Type 0
ArePlain outs = AllByRecursion IsPlain outs

is_order-plain : (m : Message) → IsPlain m → is_order m ≡ false
is_order-plain (Station station (DataRequest request)) plain = absurd plain
is_order-plain (Station station (ChannelActivation activation)) plain = absurd plain
is_order-plain (Station station (RfChannelRelease number)) plain = absurd plain
is_order-plain _ plain = refl

pub orders-plain : (outs : List Message) → ArePlain outs → orders outs ≡ []
orders-plain [] plain = refl
orders-plain (m ∷ ms) plain = rw (is_order-plain m plain.0) (orders-plain ms plain.1)

plain_is_no_data : (m : Message) → IsPlain m → IsNoDataRequest m
plain_is_no_data (Station station (DataRequest request)) plain = absurd plain
plain_is_no_data _ plain = tt

no_data_is_of_switch : (down : HoldState) (input : Input) (m : Message) → IsNoDataRequest m → IsOfSwitch down input m
no_data_is_of_switch down input (Station station (DataRequest request)) no_data_request = absurd no_data_request
no_data_is_of_switch down input _ no_data_request = tt

pub no_data_of_switch : (down : HoldState) (input : Input) (outs : List Message) →
    AllByRecursion IsNoDataRequest outs →
    AllByRecursion (IsOfSwitch down input) outs
no_data_of_switch down input outs no_data_request = AllByRecursion-so IsNoDataRequest (IsOfSwitch down input) (no_data_is_of_switch down input) outs no_data_request

pub plain_of_switch : (down : HoldState) (input : Input) (outs : List Message) → ArePlain outs → AllByRecursion (IsOfSwitch down input) outs
plain_of_switch down input outs plain = no_data_of_switch down input outs (AllByRecursion-so IsPlain IsNoDataRequest plain_is_no_data outs plain)

pub orders-append : (xs ys : List Message) → orders (xs ++ ys) ≡ orders xs ++ orders ys
orders-append xs ys = filter-append is_order xs ys

-- messages are handed
pub orders-handing : (c : Channel) (sapi : Sapi) (ms : List (List ℕ)) → orders (map (handing c sapi) ms) ≡ []
orders-handing c sapi [] = refl
orders-handing c sapi (m ∷ ms) = orders-handing c sapi ms

pub handing_of_switch : (down : HoldState) (input : Input) (c : Channel) (sapi : Sapi) (ms : List (List ℕ)) →
    ((m : List ℕ) → Contains ms m → Contains (down.zero ++ (down.three ++ brought input)) m) →
    AllByRecursion (IsOfSwitch down input) (map (handing c sapi) ms)
handing_of_switch down input c sapi [] held = tt
handing_of_switch down input c sapi (m ∷ ms) held = (
  held m (Contains-append_left (m ∷ []) ms m (Contains-push [] m)),
  handing_of_switch down input c sapi ms (λ other there. held other (Contains-append_right (m ∷ []) ms other there)),
)

-- messages of the mobile are relayed, links are asked for
are_plain_relaying : (reference : ℕ) (channel : Channel) (sapi : Sapi) (messages : List (List ℕ)) →
    ArePlain (map (relaying reference channel sapi) messages)
are_plain_relaying reference channel sapi [] = tt
are_plain_relaying reference channel sapi (m ∷ ms) = (tt, are_plain_relaying reference channel sapi ms)

pub are_plain_tenure : (reference : ℕ) (channel : Channel) (tenures : List TenureHold) → ArePlain (tenure_outs reference channel tenures)
are_plain_tenure reference channel [] = tt
are_plain_tenure reference channel (first ∷ rest) =
    AllByRecursion-append IsPlain (map (relaying reference channel Zero) first.zero) (map (relaying reference channel Three) first.three)
    (are_plain_relaying reference channel Zero first.zero) (are_plain_relaying reference channel Three first.three)

pub are_plain_request_where : (link : ShortMessageLink) (serving : Channel) → ArePlain (request_where link serving)
are_plain_request_where Down serving = (tt, tt)
are_plain_request_where _ serving = tt

pub are_plain_request_for : (three : List (List ℕ)) (serving : Channel) → ArePlain (request_for three serving)
are_plain_request_for [] serving = tt
are_plain_request_for (first ∷ rest) serving = (tt, tt)

-- ---- rows without a step

-- nothing is ordered, nothing is sent to the mobile, no change begins
pub continues_plain : (before : Roles) (down : HoldState) (input : Input) (offer : Option Channel) (r : Row) →
    roles_of r.next ≡ before →
    ArePlain r.outs →
    RemainsOpen unchanged before down input offer r
continues_plain before down input offer r same plain = record {
  begun = None;
  may = tt;
  roles = same;
  ordered = orders-plain r.outs plain;
  tells = plain_of_switch down input r.outs plain;
}

-- ---- a change begins

pub record BeginsBy (input : Input) (offer : Option Channel) (t : Connection) (outs : List Message) (next : Connection) : Type 0 where
  pub begun : Option Target
  pub may : MayBegin begun input offer (roles_of t)
  pub roles : roles_of next ≡ with_target begun (roles_of t)
  pub ordered : orders outs ≡ begin_orders begun
  pub no_data_request : AllByRecursion IsNoDataRequest outs
  pub remains_open : IsOpen t.state → IsOpen next.state

is_order_activation : (change : Change) (channel : Channel) →
    (orders (change_activation change channel ∷ []) ≡ change_activation change channel ∷ []) × IsNoDataRequest (change_activation change channel)
is_order_activation Assignment channel = (refl, tt)
is_order_activation Handover channel = (refl, tt)

pub begins_by_begin : (input : Input) (offer : Option Channel) (reference : ℕ) (change : Change) (t : Connection) →
    change ≡ change_by input →
    target_role t.state ≡ None →
    BeginsBy input offer t (begin_outs reference change offer) (after_begin reference change offer t)
begins_by_begin input (Some channel) reference change t kind free = record {
  begun = Some (record { change = change; channel = channel });
  may = (kind, refl, free);
  roles = refl;
  ordered = (is_order_activation change channel).0;
  no_data_request = ((is_order_activation change channel).1, tt);
  remains_open = λ _. tt;
}
begins_by_begin input None reference Assignment t kind free = record { begun = None; may = tt; roles = refl; ordered = refl; no_data_request = (tt, tt); remains_open = λ is_open. is_open }
begins_by_begin input None reference Handover t kind free = record { begun = None; may = tt; roles = refl; ordered = refl; no_data_request = tt; remains_open = λ is_open. is_open }

-- no change is under way where one may begin
free_in : (stage : Stage) (draining : List Drain) (reference : ℕ) →
    may_begin stage draining ≡ true →
    target_role (Live reference stage) ≡ None
free_in (Preparing target) draining reference may = absurd (true≢false (sym may))
free_in (Changing target) draining reference may = absurd (true≢false (sym may))
free_in _ draining reference may = refl

pub free_where : (stage : Stage) (reference : ℕ) (t : Connection) →
    t.state ≡ Live reference stage →
    may_begin stage t.draining ≡ true →
    target_role t.state ≡ None
free_where stage reference t is may = ap target_role is ∙ free_in stage t.draining reference may

second_true : (a b : Bool) → (a && b) ≡ true → b ≡ true
second_true true b both = both
second_true false b both = absurd (true≢false (sym both))

begins_by_after : (waits : Bool) (input : Input) (offer : Option Channel) (reference : ℕ) (t : Connection) →
    Assignment ≡ change_by input →
    (waits ≡ true → target_role t.state ≡ None) →
    BeginsBy input offer t (waiting_outs waits reference offer) (after_waiting waits reference offer t)
begins_by_after true input offer reference t kind free =
    let begins = begins_by_begin input offer reference Assignment (record t { waits = false }) kind (free refl) in
    record { begun = begins.begun; may = begins.may; roles = begins.roles; ordered = begins.ordered; no_data_request = begins.no_data_request; remains_open = begins.remains_open }
begins_by_after false input offer reference t kind free = record { begun = None; may = tt; roles = refl; ordered = refl; no_data_request = tt; remains_open = λ is_open. is_open }

pub begins_by_waiting : (stage : Stage) (input : Input) (offer : Option Channel) (reference : ℕ) (t : Connection) →
    Assignment ≡ change_by input →
    t.state ≡ Live reference stage →
    BeginsBy input offer t (begin_waiting stage reference offer t).outs (begin_waiting stage reference offer t).next
begins_by_waiting stage input offer reference t kind is =
    begins_by_after (t.waits && may_begin stage t.draining) input offer reference t kind
    (λ both. free_where stage reference t is (second_true t.waits (may_begin stage t.draining) both))

-- a step that isn't the COMMAND, and then perhaps a change begins
abbrev pub IsNoCommand : RoleStep → Type 0
IsNoCommand commands = ⊥
IsNoCommand _ = Unit {0}

tells_by : (step : RoleStep) (before : Roles) (down : HoldState) (input : Input) (outs : List Message) →
    IsNoCommand step →
    AllByRecursion (IsOfSwitch down input) outs →
    Tells step before down input outs
tells_by commands before down input outs no_data_request of_switch = absurd no_data_request
tells_by (leaves place) before down input outs no_data_request of_switch = of_switch
tells_by _ before down input outs no_data_request of_switch = of_switch

pub continues_begins : (step : RoleStep) (before : Roles) (down : HoldState) (input : Input) (offer : Option Channel) (outs : List Message) (t : Connection) (behind : List Message) (next : Connection) →
    IsNoCommand step → roles_of t ≡ after_step step before → orders outs ≡ step_orders step before → AllByRecursion (IsOfSwitch down input) outs → BeginsBy input offer t behind next → RemainsOpen step before down input offer (row (outs ++ behind) next)
continues_begins step before down input offer outs t behind next no_data_request same ordered of_switch begins = record {
  begun = begins.begun;
  may = subst (MayBegin begins.begun input offer) same begins.may;
  roles = begins.roles ∙ ap (with_target begins.begun) same;
  ordered = orders-append outs behind ∙ rw (ordered, begins.ordered) refl;
  tells = tells_by step before down input (outs ++ behind) no_data_request
      (AllByRecursion-append (IsOfSwitch down input) outs behind of_switch (no_data_of_switch down input behind begins.no_data_request));
}

-- ---- ends

pub to_stations-end : (state : State) (s : Connection) (cause : ℕ) →
    to_stations (end_outs state s.serving cause) ≡ end_messages (dismisses cause) (roles_in state s)
to_stations-end (Live reference (Preparing target)) s cause = refl
to_stations-end _ s cause = refl

to_stations-failing : (state : State) (s : Connection) (cause : ℕ) →
    to_stations (failing state s cause).outs ≡ to_stations (end_outs state s.serving ABNORMAL_RELEASE)
to_stations-failing (Live reference stage) s cause = refl
to_stations-failing _ s cause = refl

filter-filter : (p q : Message → Bool) (xs : List Message) → filter p (filter q xs) ≡ filter q (filter p xs)
filter-filter p q [] = refl
filter-filter p q (x ∷ xs) = by (p x) (q x) refl refl (filter-filter p q xs)
  where
    by : (b c : Bool) →
        p x ≡ b →
        q x ≡ c →
        filter p (filter q xs) ≡ filter q (filter p xs) →
        filter p (if q x then x ∷ filter q xs else filter q xs) ≡ filter q (if p x then x ∷ filter p xs else filter p xs)
    by true true is also rest = simp (is, also) (ap (λ (xs : List Message). x ∷ xs) rest)
    by true false is also rest = simp (is, also) rest
    by false true is also rest = simp (is, also) rest
    by false false is also rest = simp (is, also) rest

pub ends_failing : (state : State) (s : Connection) (input : Input) (cause : ℕ) →
    ((outs : List Message) → those_sent input outs ≡ outs) →
    Ends (roles_in state s) input (failing state s cause)
ends_failing state s input cause all_go = record {
  end = dismisses ABNORMAL_RELEASE;
  fits = tt;
  ordered = to_stations-failing state s cause ∙ to_stations-end state s ABNORMAL_RELEASE ∙ sym (all_go (end_messages (dismisses ABNORMAL_RELEASE) (roles_in state s)));
}

pub ends_broken : (state : State) (s : Connection) (station cause : ℕ) →
    Ends (roles_in state s) (inputs.StationDown station) (without_station station (failing state s cause))
ends_broken state s station cause = record {
  end = dismisses ABNORMAL_RELEASE;
  fits = tt;
  ordered = filter-filter is_to_station (λ message. not (is_for_station station message)) (failing state s cause).outs
      ∙ ap (filter (λ message. not (is_for_station station message))) (to_stations-failing state s cause ∙ to_stations-end state s ABNORMAL_RELEASE);
}

pub ends_dropping : (state : State) (s : Connection) (input : Input) →
    target_role state ≡ None →
    ((outs : List Message) → those_sent input outs ≡ outs) →
    Ends (roles_in state s) input (dropping s)
ends_dropping state s input none all_go = record { end = drops; fits = none; ordered = sym (all_go (end_messages drops (roles_in state s))) }

pub ends_broken_drop : (state : State) (s : Connection) (station : ℕ) →
    target_role state ≡ None →
    Ends (roles_in state s) (inputs.StationDown station) (without_station station (dropping s))
ends_broken_drop state s station none = record { end = drops; fits = none; ordered = filter-filter is_to_station (λ message. not (is_for_station station message)) (dropping s).outs }
