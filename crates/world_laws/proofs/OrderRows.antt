-- SPDX-License-Identifier: MIT OR Apache-2.0
-- What a row of the table does to one channel: at most one of its messages activates or releases
-- it.
use Rattle.world_laws.proofs.Prelude.{◌≡◌, ◌≢◌, ◌⊎◌, inl, inr, ℕ, ◌==◌, ◌&&◌, ◌≤◌, ◌<◌, Bool, true, false, if◌then◌else◌, List, [], ◌∷◌}
use Rattle.world_laws.proofs.Prelude.{◌++◌, filter, fold, Option, Some, None, refl, sym, ap, ◌∙◌, subst, true≢false, AllByRecursion}
use Rattle.world_laws.proofs.Prelude.{Change, Assignment, Handover, Channel, Place, Message, Station}
use Rattle.world_laws.proofs.Prelude.{outs_of, change_activation, rf_channel_release, AllByRecursion-append, Input, Target, Connection}
use Rattle.world_laws.proofs.Prelude.{ChangesRoles, MayBegin, RoleEnd, RoleStep, Roles, TargetRole, after_step, begin_orders}
use Rattle.world_laws.proofs.Prelude.{end_messages, is_order, roles_of, step_by, step_orders, target_channels, those_sent, carries_on}
use Rattle.world_laws.proofs.Prelude.{ends, had_ended, refused, drops, dismisses, unchanged, commands, completes, reverts, leaves, Row}
use Rattle.world_laws.proofs.Prelude.{IsOpen, AreIn, IsSent, Avoids, IsIn, free≢use, is_there, state_else, state_here, ChannelState, Free}
use Rattle.world_laws.proofs.Prelude.{InUse, Releasing, CHANNEL_NUMBERS, place_of, state_in, Activation, cases_Bool, eqb-true, eq-eqb}
use Rattle.world_laws.proofs.Prelude.{and_parts, RunsThrough, Runs, runs, first_passes, activates, over, passes, releases}
use Rattle.world_laws.proofs.Prelude.{AllByRecursion-filter}
use Rattle.world_laws.proofs.Prelude.{out_of, is_to_station, to_stations, from_stations, sent_avoid, still_there, channels_after}
use Rattle.conn_rules.specs.declared.input.Input.TheVariants as inputs
use Rattle.rsl_codec.specs.declared.rsl.Rsl.TheVariants as rsl
use Rattle.world_laws.proofs.OrderTexts.{seen_activation, seen_avoids, seen_release}

abbrev pub States : Type 0
States = List (List ChannelState)

-- ---- one order of a channel among messages

pub data OneOrder (P : Message → Type 0) (at : Place) : List Message → Type 0 where
  here : {m : Message} {ms : List Message} → P m → AllByRecursion (Avoids at) ms → OneOrder P at (m ∷ ms)
  later : {m : Message} {ms : List Message} → Avoids at m → OneOrder P at ms → OneOrder P at (m ∷ ms)

abbrev pub Releases : Place → Message → Type 0
Releases at m = m ≡ Station at.station (rsl.RfChannelRelease at.number)

abbrev pub Activates : Place → Message → Type 0
Activates at m = (a : Activation) × (m ≡ Station at.station (rsl.ChannelActivation a)) × (a.channel ≡ at.number)

unfiltered : (P : Message → Type 0) (at : Place) (test : Message → Bool) →
    ((m : Message) → test m ≡ false → Avoids at m) →
    (ms : List Message) →
    (AllByRecursion (Avoids at) (filter test ms) → AllByRecursion (Avoids at) ms) × (OneOrder P at (filter test ms) → OneOrder P at ms)
unfiltered P at test free [] = (λ all. all, λ one. one)
unfiltered P at test free (m ∷ ms) = by (test m) refl (unfiltered P at test free ms) where
  by : (b : Bool) → test m ≡ b → (AllByRecursion (Avoids at) (filter test ms) → AllByRecursion (Avoids at) ms) × (OneOrder P at (filter test ms) → OneOrder P at ms) →
      (AllByRecursion (Avoids at) (if b then m ∷ filter test ms else filter test ms) → AllByRecursion (Avoids at) (m ∷ ms)) × (OneOrder P at (if b then m ∷ filter test ms else filter test ms) → OneOrder P at (m ∷ ms))
  by true is rest = (λ all. (all.0, rest.0 all.1), λ one. through one rest) where
    through : OneOrder P at (m ∷ filter test ms) →
        (AllByRecursion (Avoids at) (filter test ms) → AllByRecursion (Avoids at) ms) × (OneOrder P at (filter test ms) → OneOrder P at ms) →
        OneOrder P at (m ∷ ms)
    through (here p all) rest = here p (rest.0 all)
    through (later avoids one) rest = later avoids (rest.1 one)
  by false is rest = (λ all. (free m is, rest.0 all), λ one. later (free m is) (rest.1 one))

-- fewer messages: it is among them still, or not
refiltered : (P : Message → Type 0) (at : Place) (test : Message → Bool) (ms : List Message) →
    OneOrder P at ms →
    OneOrder P at (filter test ms) ⊎ AllByRecursion (Avoids at) (filter test ms)
refiltered P at test [] one = inl one
refiltered P at test (m ∷ ms) (here p all) = by (test m) where
  by : (b : Bool) →
      OneOrder P at (if b then m ∷ filter test ms else filter test ms) ⊎ AllByRecursion (Avoids at) (if b then m ∷ filter test ms else filter test ms)
  by true = inl (here p (AllByRecursion-filter (Avoids at) test ms all))
  by false = inr (AllByRecursion-filter (Avoids at) test ms all)
refiltered P at test (m ∷ ms) (later avoids one) = by (test m) (refiltered P at test ms one) where
  by : (b : Bool) →
      OneOrder P at (filter test ms) ⊎ AllByRecursion (Avoids at) (filter test ms) →
      OneOrder P at (if b then m ∷ filter test ms else filter test ms) ⊎ AllByRecursion (Avoids at) (if b then m ∷ filter test ms else filter test ms)
  by true (inl found) = inl (later avoids found)
  by true (inr none) = inr (avoids, none)
  by false rest = rest

no_order : (at : Place) (m : Message) → is_order m ≡ false → Avoids at m
no_order at (Station station (rsl.ChannelActivation a)) is = absurd (true≢false is)
no_order at (Station station (rsl.RfChannelRelease channel)) is = absurd (true≢false is)
no_order at _ is = tt

no_station : (at : Place) (m : Message) → is_to_station m ≡ false → Avoids at m
no_station at (Station station x) is = absurd (true≢false is)
no_station at _ is = tt

-- ---- the state that they lead to

one_avoids : (n : ℕ) (at : Place) (channels : States) (m : Message) →
    Avoids at m →
    state_in (channels_after n channels m) at ≡ state_in channels at
one_avoids n at channels (Station station (rsl.ChannelActivation a)) differ = state_else channels (record { station = station; number = a.channel }) at (InUse n) (λ same. differ (sym same))
one_avoids n at channels (Station station (rsl.RfChannelRelease channel)) differ = state_else channels (record { station = station; number = channel }) at (Releasing n) (λ same. differ (sym same))
one_avoids n at channels _ differ = refl

all_avoid : (n : ℕ) (at : Place) (channels : States) (ms : List Message) →
    AllByRecursion (Avoids at) ms →
    state_in (fold (channels_after n) channels ms) at ≡ state_in channels at
all_avoid n at channels [] all = refl
all_avoid n at channels (m ∷ ms) all = all_avoid n at (channels_after n channels m) ms all.1 ∙ one_avoids n at channels m all.0

one_releases : (n : ℕ) (at : Place) (channels : States) (ms : List Message) →
    OneOrder (Releases at) at ms →
    state_in channels at ≡ InUse n →
    state_in (fold (channels_after n) channels ms) at ≡ Releasing n
one_releases n at channels [] one used = elim one [ ]
one_releases n at channels (m ∷ ms) (here is all) used =
    all_avoid n at (channels_after n channels m) ms all
    ∙ ap (λ (x : Message). state_in (channels_after n channels x) at) is
    ∙ state_here channels at (Releasing n) (is_there channels at (λ free. free≢use n (sym free ∙ used)))
one_releases n at channels (m ∷ ms) (later avoids one) used = one_releases n at (channels_after n channels m) ms one (one_avoids n at channels m avoids ∙ used)

pub record IsFreeThere (channels : States) (at : Place) : Type 0 where
  pub free : state_in channels at ≡ Free
  pub is_in : IsIn channels at
  pub few : at.number < CHANNEL_NUMBERS

still_in : (n : ℕ) (at : Place) (channels : States) (m : Message) → IsIn channels at → IsIn (channels_after n channels m) at
still_in n at channels (Station station (rsl.ChannelActivation a)) is = still_there channels (record { station = station; number = a.channel }) at (InUse n) is
still_in n at channels (Station station (rsl.RfChannelRelease channel)) is = still_there channels (record { station = station; number = channel }) at (Releasing n) is
still_in n at channels _ is = is

one_activates : (n : ℕ) (at : Place) (channels : States) (ms : List Message) →
    OneOrder (Activates at) at ms →
    IsIn channels at →
    state_in (fold (channels_after n) channels ms) at ≡ InUse n
one_activates n at channels [] one is_in = elim one [ ]
one_activates n at channels (m ∷ ms) (here is all) is_in =
    all_avoid n at (channels_after n channels m) ms all
    ∙ ap (λ (x : Message). state_in (channels_after n channels x) at) is.1
    ∙ ap (λ (k : ℕ). state_in (channels_after n channels (Station at.station (rsl.ChannelActivation (record is.0 { channel = k })))) at) is.2
    ∙ state_here channels at (InUse n) is_in
one_activates n at channels (m ∷ ms) (later avoids one) is_in = one_activates n at (channels_after n channels m) ms one (still_in n at channels m is_in)

-- ---- and the outputs

avoids_run : (n : ℕ) (at : Place) (state : ChannelState) (ms : List Message) →
    1 ≤ at.station →
    AllByRecursion IsSent (outs_of n ms) →
    AllByRecursion (Avoids at) ms →
    Runs at state (outs_of n ms) state
avoids_run n at state [] least sent all = over
avoids_run n at state (m ∷ ms) least sent all = passes (seen_avoids n m at least sent.0 all.0) (avoids_run n at state ms least sent.1 all.1)

release_runs : (n k : ℕ) (at : Place) (ms : List Message) →
    1 ≤ at.station →
    AllByRecursion IsSent (outs_of n ms) →
    OneOrder (Releases at) at ms →
    Runs at (InUse k) (outs_of n ms) (Releasing k)
release_runs n k at [] least sent one = elim one [ ]
release_runs n k at (m ∷ ms) least sent (here is all) =
    subst (λ (x : Message). Runs at (InUse k) (out_of n x ∷ outs_of n ms) (Releasing k)) (sym is)
    (releases (seen_release n at (subst (λ (x : Message). IsSent (out_of n x)) is sent.0)) (avoids_run n at (Releasing k) ms least sent.1 all))
release_runs n k at (m ∷ ms) least sent (later avoids one) = passes (seen_avoids n m at least sent.0 avoids) (release_runs n k at ms least sent.1 one)

activation_runs : (n k : ℕ) (at : Place) (ms : List Message) →
    1 ≤ at.station →
    at.number < CHANNEL_NUMBERS →
    AllByRecursion IsSent (outs_of n ms) →
    OneOrder (Activates at) at ms →
    RunsThrough at Free (outs_of n ms) (InUse k)
activation_runs n k at [] least few sent one = elim one [ ]
activation_runs n k at (m ∷ ms) least few sent (here is all) =
    let seen = seen_activation n at is.0 (subst (λ (x : Message). IsSent (out_of n x)) is.1 sent.0) in
    subst (λ (x : Message). RunsThrough at Free (out_of n x ∷ outs_of n ms) (InUse k)) (sym is.1)
    (activates seen.0 seen.1 (seen.2 ∙ is.2) few (avoids_run n at (InUse k) ms least sent.1 all))
activation_runs n k at (m ∷ ms) least few sent (later avoids one) = first_passes (seen_avoids n m at least sent.0 avoids) (activation_runs n k at ms least few sent.1 one)

-- ---- what touches a channel

pub data Touches (n : ℕ) (at : Place) (channels : States) (ms : List Message) : Type 0 where
  leaves_it : AllByRecursion (Avoids at) ms → Touches n at channels ms
  ends_it : state_in channels at ≡ InUse n → OneOrder (Releases at) at ms → Touches n at channels ms
  begins_it : IsFreeThere channels at → OneOrder (Activates at) at ms → Touches n at channels ms

-- where nothing is activated
pub data Ends (n : ℕ) (at : Place) (channels : States) (ms : List Message) : Type 0 where
  leaves_it : AllByRecursion (Avoids at) ms → Ends n at channels ms
  ends_it : state_in channels at ≡ InUse n → OneOrder (Releases at) at ms → Ends n at channels ms

pub touches_runs : (n : ℕ) (at : Place) (channels : States) (ms : List Message) →
    1 ≤ at.station →
    AllByRecursion IsSent (outs_of n ms) →
    Touches n at channels ms →
    RunsThrough at (state_in channels at) (outs_of n ms) (state_in (fold (channels_after n) channels ms) at)
touches_runs n at channels ms least sent (leaves_it all) =
    subst (RunsThrough at (state_in channels at) (outs_of n ms)) (sym (all_avoid n at channels ms all)) (runs (avoids_run n at (state_in channels at) ms least sent all))
touches_runs n at channels ms least sent (ends_it used one) =
    subst (λ (s : ChannelState). RunsThrough at s (outs_of n ms) (state_in (fold (channels_after n) channels ms) at)) (sym used)
    (subst (RunsThrough at (InUse n) (outs_of n ms)) (sym (one_releases n at channels ms one used))
    (runs (release_runs n n at ms least sent one)))
touches_runs n at channels ms least sent (begins_it there one) =
    subst (λ (s : ChannelState). RunsThrough at s (outs_of n ms) (state_in (fold (channels_after n) channels ms) at)) (sym there.free)
    (subst (RunsThrough at Free (outs_of n ms)) (sym (one_activates n at channels ms one there.is_in)) (activation_runs n n at ms least there.few sent one))

pub ends_run : (n : ℕ) (at : Place) (channels : States) (ms : List Message) →
    1 ≤ at.station →
    AllByRecursion IsSent (outs_of n ms) →
    Ends n at channels ms →
    Runs at (state_in channels at) (outs_of n ms) (state_in (fold (channels_after n) channels ms) at)
ends_run n at channels ms least sent (leaves_it all) =
    subst (Runs at (state_in channels at) (outs_of n ms)) (sym (all_avoid n at channels ms all)) (avoids_run n at (state_in channels at) ms least sent all)
ends_run n at channels ms least sent (ends_it used one) =
    subst (λ (s : ChannelState). Runs at s (outs_of n ms) (state_in (fold (channels_after n) channels ms) at)) (sym used)
    (subst (Runs at (InUse n) (outs_of n ms)) (sym (one_releases n at channels ms one used)) (release_runs n n at ms least sent one))

-- ---- the roles of a connection

-- the serving channel and the target are in use by it, and differ
pub record IsOf (n : ℕ) (channels : States) (roles : Roles) : Type 0 where
  pub using : AreIn channels (InUse n) (roles.serving ∷ target_channels roles.target)
  pub apart : (t : TargetRole) → roles.target ≡ Some t → place_of t.target.channel ≢ place_of roles.serving

pub place_or : (at other : Place) → (other ≡ at) ⊎ (other ≢ at)
place_or at other = elim (cases_Bool ((other.station == at.station) && (other.number == at.number))) [
  | inl hit ↦
      let parts = and_parts (other.station == at.station) (other.number == at.number) hit in
      inl (ap (λ (n : ℕ). record other { station = n }) (eqb-true other.station at.station parts.0) ∙ ap (λ (n : ℕ). record at { number = n }) (eqb-true other.number at.number parts.1))
  | inr miss ↦ inr (λ same. absurd (true≢false (sym (ap (λ (b : Bool). b && (other.number == at.number)) (eq-eqb other.station at.station (ap (λ (p : Place). p.station) same)) ∙ eq-eqb other.number at.number (ap (λ (p : Place). p.number) same)) ∙ miss)))
]

-- the messages release the channel, or avoid it
abbrev pub MayEnd : ℕ → Place → States → List Message → Type 0
MayEnd n at channels ms = AllByRecursion (Avoids at) ms ⊎ ((state_in channels at ≡ InUse n) × OneOrder (Releases at) at ms)

release_of : (at : Place) (c : Channel) → place_of c ≡ at → Releases at (rf_channel_release c)
release_of at c same = ap (λ (p : Place). Station p.station (rsl.RfChannelRelease p.number)) same

one_release : (n : ℕ) (at : Place) (channels : States) (c : Channel) →
    state_in channels (place_of c) ≡ InUse n →
    MayEnd n at channels (rf_channel_release c ∷ [])
one_release n at channels c used = elim (place_or at (place_of c)) [
  | inl same ↦ inr (sym (ap (state_in channels) same) ∙ used, here (release_of at c same) tt)
  | inr differ ↦ inl (differ, tt)
]

step_ends : (n : ℕ) (at : Place) (channels : States) (step : RoleStep) (roles : Roles) (target : Option TargetRole) →
    IsOf n channels (record roles { target = target }) →
    MayEnd n at channels (step_orders step (record roles { target = target }))
step_ends n at channels unchanged roles target of = inl tt
step_ends n at channels commands roles target of = inl tt
step_ends n at channels completes roles target of = one_release n at channels roles.serving of.using.0
step_ends n at channels reverts roles None of = inl tt
step_ends n at channels reverts roles (Some t) of = by t.is_commanded where
  by : (b : Bool) → MayEnd n at channels (if b then rf_channel_release t.target.channel ∷ [] else [])
  by true = one_release n at channels t.target.channel of.using.1.0
  by false = inl tt
step_ends n at channels (leaves place) roles target of = inl tt

pub station_activates : (at : Place) (station : ℕ) (a : Activation) →
    station ≡ at.station →
    a.channel ≡ at.number →
    Activates at (Station station (rsl.ChannelActivation a))
station_activates at station a same number = (a, ap (λ (s : ℕ). Station s (rsl.ChannelActivation a)) same, number)

activation_of : (at : Place) (change : Change) (c : Channel) → place_of c ≡ at → Activates at (change_activation change c)
activation_of at Assignment c same = station_activates at c.station _ (ap (λ (p : Place). p.station) same) (ap (λ (p : Place). p.number) same)
activation_of at Handover c same = station_activates at c.station _ (ap (λ (p : Place). p.station) same) (ap (λ (p : Place). p.number) same)

activation_avoids : (at : Place) (change : Change) (c : Channel) → place_of c ≢ at → Avoids at (change_activation change c)
activation_avoids at Assignment c differ = differ
activation_avoids at Handover c differ = differ

abbrev MayBe : Place → States → List Message → Type 0
MayBe at channels ms = AllByRecursion (Avoids at) ms ⊎ (IsFreeThere channels at × OneOrder (Activates at) at ms)

begin_begins : (at : Place) (channels : States) (begun : Option Target) →
    ((t : Target) → begun ≡ Some t → IsFreeThere channels (place_of t.channel)) →
    MayBe at channels (begin_orders begun)
begin_begins at channels None free = inl tt
begin_begins at channels (Some target) free = elim (place_or at (place_of target.channel)) [
  | inl same ↦ inr (subst (IsFreeThere channels) same (free target refl), here (activation_of at target.change target.channel same) tt)
  | inr differ ↦ inl (activation_avoids at target.change target.channel differ, tt)
]

one_left : (P : Message → Type 0) (at : Place) (xs ys : List Message) →
    OneOrder P at xs →
    AllByRecursion (Avoids at) ys →
    OneOrder P at (xs ++ ys)
one_left P at [] ys one all = elim one [ ]
one_left P at (x ∷ xs) ys (here p avoid) all = here p (AllByRecursion-append (Avoids at) xs ys avoid all)
one_left P at (x ∷ xs) ys (later a one) all = later a (one_left P at xs ys one all)

one_right : (P : Message → Type 0) (at : Place) (xs ys : List Message) →
    AllByRecursion (Avoids at) xs →
    OneOrder P at ys →
    OneOrder P at (xs ++ ys)
one_right P at [] ys all one = one
one_right P at (x ∷ xs) ys all one = later all.0 (one_right P at xs ys all.1 one)

both_touch : (n : ℕ) (at : Place) (channels : States) (xs ys : List Message) →
    MayEnd n at channels xs →
    MayBe at channels ys →
    Touches n at channels (xs ++ ys)
both_touch n at channels xs ys (inl all) (inl none) = leaves_it (AllByRecursion-append (Avoids at) xs ys all none)
both_touch n at channels xs ys (inl all) (inr begins) = begins_it begins.0 (one_right (Activates at) at xs ys all begins.1)
both_touch n at channels xs ys (inr found) (inl none) = ends_it found.0 (one_left (Releases at) at xs ys found.1 none)
both_touch n at channels xs ys (inr found) (inr begins) = absurd (free≢use n (sym begins.0.free ∙ found.0))

touches_back : (n : ℕ) (at : Place) (channels : States) (test : Message → Bool) →
    ((m : Message) → test m ≡ false → Avoids at m) →
    (ms : List Message) →
    Touches n at channels (filter test ms) →
    Touches n at channels ms
touches_back n at channels test free ms (leaves_it all) = leaves_it ((unfiltered (Releases at) at test free ms).0 all)
touches_back n at channels test free ms (ends_it used one) = ends_it used ((unfiltered (Releases at) at test free ms).1 one)
touches_back n at channels test free ms (begins_it there one) = begins_it there ((unfiltered (Activates at) at test free ms).1 one)

-- ---- ends

dismissal_ends : (n : ℕ) (at : Place) (channels : States) (cause : ℕ) (roles : Roles) (target : Option TargetRole) →
    IsOf n channels (record roles { target = target }) →
    MayEnd n at channels (end_messages (dismisses cause) (record roles { target = target }))
dismissal_ends n at channels cause roles None of = elim (place_or at (place_of roles.serving)) [
  | inl same ↦ inr (sym (ap (state_in channels) same) ∙ of.using.0, later tt (here (release_of at roles.serving same) tt))
  | inr differ ↦ inl (tt, (differ, tt))
]
dismissal_ends n at channels cause roles (Some t) of = elim (place_or at (place_of roles.serving)) [
  | inl same ↦ inr (sym (ap (state_in channels) same) ∙ of.using.0, later tt (here (release_of at roles.serving same) ((λ is. of.apart t refl (is ∙ sym same)), tt)))
  | inr differ ↦ elim (place_or at (place_of t.target.channel)) [
    | inl same ↦ inr (sym (ap (state_in channels) same) ∙ of.using.1.0, later tt (later differ (here (release_of at t.target.channel same) tt)))
    | inr other ↦ inl (tt, (differ, (other, tt)))
  ]
]

end_ends : (n : ℕ) (at : Place) (channels : States) (end : RoleEnd) (roles : Roles) →
    IsOf n channels roles →
    MayEnd n at channels (end_messages end roles)
end_ends n at channels refused roles of = inl tt
end_ends n at channels drops roles of = one_release n at channels roles.serving of.using.0
end_ends n at channels (dismisses cause) roles of = dismissal_ends n at channels cause roles roles.target of

going_ends : (n : ℕ) (at : Place) (channels : States) (input : Input) (ms : List Message) →
    MayEnd n at channels ms →
    MayEnd n at channels (those_sent input ms)
going_ends n at channels input ms (inl all) = inl (sent_avoid at input ms all)
going_ends n at channels (inputs.StationDown station) ms (inr found) = elim (refiltered (Releases at) at _ ms found.1) [
  | inl one ↦ inr (found.0, one)
  | inr none ↦ inl none
]
going_ends n at channels _ ms (inr found) = inr found

ends_back : (n : ℕ) (at : Place) (channels : States) (ms : List Message) → MayEnd n at channels (to_stations ms) → Ends n at channels ms
ends_back n at channels ms (inl all) = leaves_it (from_stations at ms all)
ends_back n at channels ms (inr found) = ends_it found.0 ((unfiltered (Releases at) at is_to_station (no_station at) ms).1 found.1)

pub ends_touch : (n : ℕ) (at : Place) (channels : States) (ms : List Message) → Ends n at channels ms → Touches n at channels ms
ends_touch n at channels ms (leaves_it all) = leaves_it all
ends_touch n at channels ms (ends_it used one) = ends_it used one

-- ---- a row

pub row_ends : (n : ℕ) (at : Place) (channels : States) (s : Connection) (input : Input) (offer : Option Channel) (r : Row) →
    ChangesRoles s input offer r →
    (IsOpen r.next.state → ⊥) →
    (IsOpen s.state → IsOf n channels (roles_of s)) →
    Ends n at channels r.outs
row_ends n at channels s input offer r (carries_on was_open is_open on) shut of = absurd (shut is_open)
row_ends n at channels s input offer r (ends was_open is_shut ending) shut of =
    ends_back n at channels r.outs (subst (MayEnd n at channels) (sym ending.ordered) (going_ends n at channels input (end_messages ending.end (roles_of s)) (end_ends n at channels ending.end (roles_of s) (of was_open))))
row_ends n at channels s input offer r (had_ended was_shut is_shut nothing) shut of = leaves_it (from_stations at r.outs (subst (AllByRecursion (Avoids at)) (sym nothing) tt))

pub row_touches : (n : ℕ) (at : Place) (channels : States) (s : Connection) (input : Input) (offer : Option Channel) (r : Row) →
    ChangesRoles s input offer r →
    (IsOpen s.state → IsOf n channels (roles_of s)) →
    (IsOpen s.state → (d : Channel) → offer ≡ Some d → IsFreeThere channels (place_of d)) →
    Touches n at channels r.outs
row_touches n at channels s input offer r (carries_on was_open is_open on) of free =
    let step : RoleStep = step_by input (roles_of s) in
    touches_back n at channels is_order (no_order at) r.outs
    (subst (Touches n at channels) (sym on.ordered)
    (both_touch n at channels (step_orders step (roles_of s)) (begin_orders on.begun) (step_ends n at channels step (roles_of s) (roles_of s).target (of was_open)) (begin_begins at channels on.begun (λ t begun. offered on.begun t begun on.may))))
  where
    offered : (begun : Option Target) (t : Target) →
        begun ≡ Some t →
        MayBegin begun input offer (after_step (step_by input (roles_of s)) (roles_of s)) →
        IsFreeThere channels (place_of t.channel)
    offered None t is may = absurd cc
    offered (Some x) t is may =
        let same : x ≡ t = cc in
        subst (λ (y : Target). IsFreeThere channels (place_of y.channel)) same (free was_open x.channel may.1)
row_touches n at channels s input offer r (ends was_open is_shut ending) of free = ends_touch n at channels r.outs (row_ends n at channels s input offer r (ends was_open is_shut ending) is_shut of)
row_touches n at channels s input offer r (had_ended was_shut is_shut nothing) of free = ends_touch n at channels r.outs (row_ends n at channels s input offer r (had_ended was_shut is_shut nothing) is_shut of)
