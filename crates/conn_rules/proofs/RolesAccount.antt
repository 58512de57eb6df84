-- SPDX-License-Identifier: MIT OR Apache-2.0
-- The account of a connection's channels follows from what rows do to their roles.
use Rattle.conn_rules.proofs.Prelude.{◌≡◌, inl, inr, ℕ, zero, suc, Bool, true, false, not, ◌&&◌, eqb, List, [], ◌∷◌, ◌++◌, filter, refl}
use Rattle.conn_rules.proofs.Prelude.{sym, ◌∙◌, ap, subst, Option, Some, None, true≢false, Contains, if◌then◌else◌, arith, Contains-push}
use Rattle.conn_rules.proofs.Prelude.{Contains-append_left, Contains-append_right, Change, Channel, Place, Message, change_activation}
use Rattle.conn_rules.proofs.Prelude.{channel_release, rf_channel_release, cond_both, ◌⊎◌, ⊎_elim, option_map, Contains-append_cases, Input}
use Rattle.conn_rules.proofs.Prelude.{Drain, State, Closed, Removed, Target, Connection, is_at, drain_at, unchanged, commands, completes}
use Rattle.conn_rules.proofs.Prelude.{reverts, leaves, refused, drops, dismisses, carries_on, ends, had_ended, OfRow, IsOpen, undone}
use Rattle.std.proofs.Common.{eqb-true}
use Rattle.conn_rules.specs.declared.input.Input.TheVariants as inputs
use Rattle.conn_rules.specs.Roles.{TargetRole, Roles, roles_of, RoleStep, still_draining, after_step, with_target, awaits_at, changes_by, is_target_at, leaves_at, step_by, MayBegin, is_order, orders, step_orders, begin_orders, RemainsOpen, RoleEnd, end_messages, target_releases, FitsEnd, is_to_station, to_stations, those_sent, ChangesRoles, ChangesRolesBy, target_channels, channels_in, IsGivenUp, IsTaken, IsAcknowledged, KeepsAccount}
use Rattle.conn_rules.specs.Roles.IsGivenUp.{released, broke, not_activated}
use Rattle.conn_rules.specs.Steps.{Row, done_at, is_for_station}

-- ---- members of lists

contains_none : {A : Type 0} (x : A) → Contains [] x → ⊥
contains_none x there = let short = there.1 in omega arith

contains_one : {A : Type 0} (x y : A) → Contains (x ∷ []) y → x ≡ y
contains_one x y (zero, short, is) = is
contains_one x y (suc k, short, is) = absurd (omega arith)

contains_first : {A : Type 0} (x : A) (xs : List A) → Contains (x ∷ xs) x
contains_first x xs = Contains-append_left (x ∷ []) xs x (Contains-push [] x)

contains_behind : {A : Type 0} (x y : A) (xs : List A) → Contains xs y → Contains (x ∷ xs) y
contains_behind x y xs there = Contains-append_right (x ∷ []) xs y there

contains_cases : {A : Type 0} (x y : A) (xs : List A) → Contains (x ∷ xs) y → (x ≡ y) ⊎ Contains xs y
contains_cases x y xs there = ⊎_elim (λ at_first. inl (contains_one x y at_first)) (λ behind. inr behind) (Contains-append_cases (x ∷ []) xs y there)

contains_filtered : {A : Type 0} (p : A → Bool) (xs : List A) (y : A) → Contains (filter p xs) y → Contains xs y
contains_filtered p [] y there = there
contains_filtered p (x ∷ xs) y there = by (p x) (λ t. contains_filtered p xs y t) there
  where
    by : (b : Bool) →
        (Contains (filter p xs) y → Contains xs y) →
        Contains (if b then x ∷ filter p xs else filter p xs) y →
        Contains (x ∷ xs) y
    by true rest t = elim (contains_cases x y (filter p xs) t) [
      | inl same ↦ subst (λ z. Contains (x ∷ xs) z) same (contains_first x xs)
      | inr behind ↦ contains_behind x y xs (rest behind)
    ]
    by false rest t = contains_behind x y xs (rest t)

contains_kept : {A : Type 0} (p : A → Bool) (xs : List A) (y : A) → Contains xs y → p y ≡ true → Contains (filter p xs) y
contains_kept p [] y there holds = there
contains_kept p (x ∷ xs) y there holds = by (p x) refl (λ t. contains_kept p xs y t holds) (contains_cases x y xs there)
  where
    by : (b : Bool) →
        p x ≡ b →
        (Contains xs y → Contains (filter p xs) y) →
        (x ≡ y) ⊎ Contains xs y →
        Contains (if b then x ∷ filter p xs else filter p xs) y
    by true is rest (inl same) = subst (λ z. Contains (x ∷ filter p xs) z) same (contains_first x (filter p xs))
    by true is rest (inr behind) = contains_behind x y (filter p xs) (rest behind)
    by false is rest (inl same) = absurd (true≢false (sym holds ∙ ap p (sym same) ∙ is))
    by false is rest (inr behind) = rest behind

-- what is ordered is put, and so is what is for stations
contains_ordered : (outs list : List Message) (m : Message) → orders outs ≡ list → Contains list m → Contains outs m
contains_ordered outs list m is there = contains_filtered is_order outs m (subst (λ (list : List Message). Contains list m) (sym is) there)

contains_to_station : (outs list : List Message) (m : Message) → to_stations outs ≡ list → Contains list m → Contains outs m
contains_to_station outs list m is there = contains_filtered is_to_station outs m (subst (λ (list : List Message). Contains list m) (sym is) there)

-- ---- channels in use

abbrev used : Roles → List Channel
used roles = roles.serving ∷ target_channels roles.target

used_where : (state : State) (roles : Roles) (c : Channel) → Contains (channels_in state roles) c → IsOpen state × Contains (used roles) c
used_where (Closed clearing) roles c there = absurd (contains_none c there)
used_where Removed roles c there = absurd (contains_none c there)
used_where _ roles c there = (tt, there)

in_use_where : (state : State) (roles : Roles) (c : Channel) → IsOpen state → Contains (used roles) c → Contains (channels_in state roles) c
in_use_where (Closed clearing) roles c is_open there = absurd is_open
in_use_where Removed roles c is_open there = absurd is_open
in_use_where _ roles c is_open there = there

-- ---- which inputs bring a step

reverts≢unchanged : reverts ≡ unchanged → ⊥
reverts≢unchanged same = cc

if_true : (test : Bool) (step : RoleStep) →
    (step ≡ unchanged → ⊥) →
    (other : RoleStep) →
    (if test then other else unchanged) ≡ step →
    (test ≡ true) × (other ≡ step)
if_true true step moves other is = (refl, is)
if_true false step moves other is = absurd (moves (sym is))

pub both_true : (a b : Bool) → (a && b) ≡ true → (a ≡ true) × (b ≡ true)
both_true true b both = (refl, both)
both_true false b both = absurd (true≢false (sym both))

-- a target to which the mobile wasn't commanded is given up where its activation was refused
was_refused : (input : Input) (roles : Roles) (t : TargetRole) →
    step_by input roles ≡ reverts →
    roles.target ≡ Some t →
    t.is_commanded ≡ false →
    (at : Place) × (input ≡ inputs.ActivationNack at) × (is_at at t.target.channel ≡ true)
was_refused (inputs.ActivationNack at) roles t back is awaits =
    let refused : awaits_at at (Some t) ≡ true = ap (awaits_at at) (sym is) ∙ (if_true (awaits_at at roles.target) reverts reverts≢unchanged reverts back).0 in
    (at, refl, (both_true (not t.is_commanded) (is_at at t.target.channel) refused).1)
was_refused (inputs.Failure at change cause) roles t back is awaits =
    let tested = (if_true (is_at at roles.serving && changes_by change roles.target) reverts reverts≢unchanged reverts back).0 in
    let by : changes_by change (Some t) ≡ true = ap (changes_by change) (sym is) ∙ (both_true (is_at at roles.serving) (changes_by change roles.target) tested).1 in
    absurd (true≢false (sym (both_true t.is_commanded _ by).0 ∙ awaits))
was_refused (inputs.ActivationAck at) roles t back is awaits =
    let other : commands ≡ reverts = (if_true (awaits_at at roles.target) reverts reverts≢unchanged commands back).1 in absurd cc
was_refused (inputs.Complete at change cause) roles t back is awaits =
    let other : completes ≡ reverts = (if_true (is_target_at at roles.target && changes_by change roles.target) reverts reverts≢unchanged completes back).1 in absurd cc
was_refused (inputs.ReleaseAck at) roles t back is awaits = absurd (never (drain_at at roles.draining) back)
  where
    never : (found : Option ℕ) → leaves_at found ≡ reverts → ⊥
    never (Some place) same = cc
    never None same = cc
was_refused _ roles t back is awaits = absurd (reverts≢unchanged (sym back))

leaves≢unchanged : (place : ℕ) → leaves place ≡ unchanged → ⊥
leaves≢unchanged place same = cc

-- an old channel is done where its release was acknowledged
was_acknowledged : (input : Input) (roles : Roles) (place : ℕ) →
    step_by input roles ≡ leaves place →
    (at : Place) × (input ≡ inputs.ReleaseAck at) × (drain_at at roles.draining ≡ Some place)
was_acknowledged (inputs.ReleaseAck at) roles place is = (at, refl, found (drain_at at roles.draining) is)
  where
    found : (o : Option ℕ) → leaves_at o ≡ leaves place → o ≡ Some place
    found (Some other) same = cc
    found None same = absurd (leaves≢unchanged place (sym same))
was_acknowledged (inputs.ActivationNack at) roles place is =
    let other : reverts ≡ leaves place = (if_true (awaits_at at roles.target) (leaves place) (leaves≢unchanged place) reverts is).1 in absurd cc
was_acknowledged (inputs.Failure at change cause) roles place is =
    let other : reverts ≡ leaves place = (if_true (is_at at roles.serving && changes_by change roles.target) (leaves place) (leaves≢unchanged place) reverts is).1 in absurd cc
was_acknowledged (inputs.ActivationAck at) roles place is =
    let other : commands ≡ leaves place = (if_true (awaits_at at roles.target) (leaves place) (leaves≢unchanged place) commands is).1 in absurd cc
was_acknowledged (inputs.Complete at change cause) roles place is =
    let other : completes ≡ leaves place = (if_true (is_target_at at roles.target && changes_by change roles.target) (leaves place) (leaves≢unchanged place) completes is).1 in absurd cc
was_acknowledged _ roles place is = absurd (leaves≢unchanged place (sym is))

-- ---- what is given up

-- a release is put, or its station broke
handed_or_broke : (input : Input) (c : Channel) (list : List Message) →
    Contains list (rf_channel_release c) →
    Contains (those_sent input list) (rf_channel_release c) ⊎ (input ≡ inputs.StationDown c.station)
handed_or_broke (inputs.StationDown station) c list there = by (eqb c.station station) refl
  where
    by : (b : Bool) →
        eqb c.station station ≡ b →
        Contains (those_sent (inputs.StationDown station) list) (rf_channel_release c) ⊎ (inputs.StationDown station ≡ inputs.StationDown c.station)
    by true is = inr (ap (λ (station : ℕ). inputs.StationDown station) (sym (eqb-true c.station station is)))
    by false is = inl (contains_kept (λ message. not (is_for_station station message)) list (rf_channel_release c) there (ap not is))
handed_or_broke _ c list there = inl there

given_up_ordered : (c : Channel) (input : Input) (outs list : List Message) →
    to_stations outs ≡ those_sent input list →
    Contains list (rf_channel_release c) →
    IsGivenUp c input outs
given_up_ordered c input outs list is there = elim (handed_or_broke input c list there) [
  | inl leaving ↦ released (contains_to_station outs (those_sent input list) (rf_channel_release c) is leaving)
  | inr down ↦ broke down
]

-- of a connection that was refused
given_up_refused : (input : Input) (roles : Roles) (outs : List Message) (c : Channel) →
    FitsEnd refused roles input →
    Contains (used roles) c →
    IsGivenUp c input outs
given_up_refused (inputs.ActivationNack at) roles outs c fits there =
    let alone : Contains (roles.serving ∷ []) c = subst (λ (target : Option TargetRole). Contains (roles.serving ∷ target_channels target) c) fits.1 there in
    not_activated at refl (subst (λ (c : Channel). is_at at c ≡ true) (contains_one roles.serving c alone) fits.0)
given_up_refused _ roles outs c fits there = absurd fits

-- the serving channel and the target are released
released_both : (serving : Channel) (target : Option TargetRole) (c : Channel) →
    Contains (serving ∷ target_channels target) c →
    Contains (rf_channel_release serving ∷ target_releases target) (rf_channel_release c)
released_both serving None c there = subst (λ (c : Channel). Contains (rf_channel_release serving ∷ []) (rf_channel_release c)) (contains_one serving c there) (contains_first (rf_channel_release serving) [])
released_both serving (Some t) c there = elim (contains_cases serving c (t.target.channel ∷ []) there) [
  | inl same ↦ subst (λ (c : Channel). Contains (rf_channel_release serving ∷ rf_channel_release t.target.channel ∷ []) (rf_channel_release c)) same (contains_first (rf_channel_release serving) (rf_channel_release t.target.channel ∷ []))
  | inr behind ↦ subst (λ (c : Channel). Contains (rf_channel_release serving ∷ rf_channel_release t.target.channel ∷ []) (rf_channel_release c)) (contains_one t.target.channel c behind)
      (contains_behind (rf_channel_release serving) (rf_channel_release t.target.channel) (rf_channel_release t.target.channel ∷ []) (contains_first (rf_channel_release t.target.channel) []))
]

given_up_end : (end : RoleEnd) (input : Input) (roles : Roles) (outs : List Message) (c : Channel) →
    FitsEnd end roles input →
    to_stations outs ≡ those_sent input (end_messages end roles) →
    Contains (used roles) c →
    IsGivenUp c input outs
given_up_end refused input roles outs c fits ordered there = given_up_refused input roles outs c fits there
given_up_end drops input roles outs c fits ordered there =
    let alone : Contains (roles.serving ∷ []) c = subst (λ (target : Option TargetRole). Contains (roles.serving ∷ target_channels target) c) fits there in
    given_up_ordered c input outs (rf_channel_release roles.serving ∷ []) ordered (released_both roles.serving None c alone)
given_up_end (dismisses cause) input roles outs c fits ordered there =
    given_up_ordered c input outs (end_messages (dismisses cause) roles) ordered
    (contains_behind (channel_release roles.serving cause) (rf_channel_release c) (rf_channel_release roles.serving ∷ target_releases roles.target) (released_both roles.serving roles.target c there))

-- a step leaves a channel in use, or gives it up
step_gives_up : (step : RoleStep) (input : Input) (roles : Roles) (target : Option TargetRole) (outs behind : List Message) (c : Channel) → step_by input roles ≡ step → roles.target ≡ target → orders outs ≡ step_orders step (record roles { target = target }) ++ behind → Contains (roles.serving ∷ target_channels target) c →
    Contains (used (after_step step (record roles { target = target }))) c ⊎ IsGivenUp c input outs
step_gives_up unchanged input roles target outs behind c by is ordered there = inl there
step_gives_up commands input roles (Some t) outs behind c by is ordered there = inl there
step_gives_up commands input roles None outs behind c by is ordered there = inl there
step_gives_up completes input roles None outs behind c by is ordered there = inl there
step_gives_up completes input roles (Some t) outs behind c by is ordered there = elim (contains_cases roles.serving c (t.target.channel ∷ []) there) [
  | inl same ↦ inr (released (contains_ordered outs (rf_channel_release roles.serving ∷ behind) (rf_channel_release c) ordered
      (subst (λ (c : Channel). Contains (rf_channel_release roles.serving ∷ behind) (rf_channel_release c)) same (contains_first (rf_channel_release roles.serving) behind))))
  | inr target ↦ inl target
]
step_gives_up reverts input roles None outs behind c by is ordered there = inl there
step_gives_up reverts input roles (Some t) outs behind c by is ordered there = elim (contains_cases roles.serving c (t.target.channel ∷ []) there) [
  | inl same ↦ inl (subst (λ (c : Channel). Contains (roles.serving ∷ []) c) same (contains_first roles.serving []))
  | inr target ↦ inr (leaving t.is_commanded refl ordered (contains_one t.target.channel c target))
]
  where
    leaving : (is_commanded : Bool) →
        t.is_commanded ≡ is_commanded →
        orders outs ≡ (if is_commanded then rf_channel_release t.target.channel ∷ [] else []) ++ behind →
        t.target.channel ≡ c →
        IsGivenUp c input outs
    leaving true was ordered same =
        released (contains_ordered outs (rf_channel_release t.target.channel ∷ behind) (rf_channel_release c) ordered
        (subst (λ (c : Channel). Contains (rf_channel_release t.target.channel ∷ behind) (rf_channel_release c)) same (contains_first (rf_channel_release t.target.channel) behind)))
    leaving false was ordered same =
        let nack = was_refused input roles t by is was in
        not_activated nack.0 nack.1 (subst (λ (c : Channel). is_at nack.0 c ≡ true) same nack.2)
step_gives_up (leaves place) input roles target outs behind c by is ordered there = inl there

-- a change begins where none is under way, so all remain in use
begin_keeps : (begun : Option Target) (input : Input) (offer : Option Channel) (roles : Roles) (c : Channel) →
    MayBegin begun input offer roles →
    Contains (used roles) c →
    Contains (used (with_target begun roles)) c
begin_keeps None input offer roles c may there = there
begin_keeps (Some target) input offer roles c may there =
    let alone : Contains (roles.serving ∷ []) c = subst (λ (role : Option TargetRole). Contains (roles.serving ∷ target_channels role) c) may.2 there in
    Contains-append_left (roles.serving ∷ []) (target.channel ∷ []) c alone

-- what is in use behind it was in use, or is taken
begin_takes : (begun : Option Target) (input : Input) (offer : Option Channel) (roles : Roles) (outs front : List Message) (c : Channel) →
    MayBegin begun input offer roles →
    orders outs ≡ front ++ begin_orders begun →
    Contains (used (with_target begun roles)) c →
    Contains (used roles) c ⊎ IsTaken c input offer outs
begin_takes None input offer roles outs front c may ordered there = inl there
begin_takes (Some target) input offer roles outs front c may ordered there = elim (contains_cases roles.serving c (target.channel ∷ []) there) [
  | inl same ↦ inl (subst (λ (c : Channel). Contains (used roles) c) same (contains_first roles.serving (target_channels roles.target)))
  | inr is_target ↦ inr (taken (contains_one target.channel c is_target))
]
  where
    taken : target.channel ≡ c → IsTaken c input offer outs
    taken same = subst (λ (c : Channel). IsTaken c input offer outs) same (
      may.1,
      subst (λ (change : Change). Contains outs (change_activation change target.channel)) may.0
          (contains_ordered outs (front ++ change_activation target.change target.channel ∷ []) (change_activation target.change target.channel) ordered (Contains-push front (change_activation target.change target.channel))),
    )

-- a step takes nothing
step_takes : (step : RoleStep) (roles : Roles) (target : Option TargetRole) (c : Channel) →
    Contains (used (after_step step (record roles { target = target }))) c →
    Contains (roles.serving ∷ target_channels target) c
step_takes unchanged roles target c there = there
step_takes commands roles (Some t) c there = there
step_takes commands roles None c there = there
step_takes completes roles (Some t) c there = Contains-append_right (roles.serving ∷ []) (t.target.channel ∷ []) c there
step_takes completes roles None c there = there
step_takes reverts roles target c there = Contains-append_left (roles.serving ∷ []) (target_channels target) c there
step_takes (leaves place) roles target c there = there

-- ---- old channels

pub undone-still_draining : (ds : List Drain) → undone (still_draining ds) ≡ undone ds
undone-still_draining [] = refl
undone-still_draining (d ∷ ds) =
    cond_both d.is_done (still_draining ds) (d ∷ ds) (λ (left : List Drain). undone left ≡ undone (d ∷ ds))
    (λ done. rw done (undone-still_draining ds)) (λ drains. refl)

contains_undone : (d : Drain) (ds : List Drain) (c : Channel) → Contains (undone ds) c → Contains (undone (d ∷ ds)) c
contains_undone d ds c there = cond_both d.is_done (undone ds) (d.channel ∷ undone ds) (λ (cs : List Channel). Contains cs c) (λ _. there) (λ _. contains_behind d.channel c (undone ds) there)

undone_cases : (d : Drain) (ds : List Drain) (c : Channel) →
    Contains (undone (d ∷ ds)) c →
    ((d.is_done ≡ false) × (d.channel ≡ c)) ⊎ Contains (undone ds) c
undone_cases d ds c there = by d.is_done refl there
  where
    by : (b : Bool) →
        d.is_done ≡ b →
        Contains (if b then undone ds else d.channel ∷ undone ds) c →
        ((d.is_done ≡ false) × (d.channel ≡ c)) ⊎ Contains (undone ds) c
    by true is there = inr there
    by false is there = elim (contains_cases d.channel c (undone ds) there) [ inl same ↦ inl (is, same) | inr behind ↦ inr behind ]

undone_here : (d : Drain) (ds : List Drain) (c : Channel) → d.is_done ≡ false → d.channel ≡ c → Contains (undone (d ∷ ds)) c
undone_here d ds c drains same = rw drains (subst (λ (c : Channel). Contains (d.channel ∷ undone ds) c) same (contains_first d.channel (undone ds)))

-- another old channel
undone_more : (ds : List Drain) (c serving : Channel) →
    Contains (undone (ds ++ record { channel = serving; is_done = false } ∷ [])) c →
    Contains (undone ds) c ⊎ (c ≡ serving)
undone_more [] c serving there = inr (sym (contains_one serving c there))
undone_more (d ∷ ds) c serving there = elim (undone_cases d (ds ++ record { channel = serving; is_done = false } ∷ []) c there) [
  | inl here ↦ inl (undone_here d ds c here.0 here.1)
  | inr behind ↦ elim (undone_more ds c serving behind) [ inl rest ↦ inl (contains_undone d ds c rest) | inr same ↦ inr same ]
]

undone_kept : (ds : List Drain) (more : List Drain) (c : Channel) → Contains (undone ds) c → Contains (undone (ds ++ more)) c
undone_kept [] more c there = absurd (contains_none c there)
undone_kept (d ∷ ds) more c there = elim (undone_cases d ds c there) [
  | inl here ↦ undone_here d (ds ++ more) c here.0 here.1
  | inr behind ↦ contains_undone d (ds ++ more) c (undone_kept ds more c behind)
]

-- one is done
undone_done_at : (place : ℕ) (ds : List Drain) (c : Channel) → Contains (undone (done_at place ds)) c → Contains (undone ds) c
undone_done_at place [] c there = there
undone_done_at zero (d ∷ ds) c there = contains_undone d ds c there
undone_done_at (suc place) (d ∷ ds) c there = elim (undone_cases d (done_at place ds) c there) [
  | inl here ↦ undone_here d ds c here.0 here.1
  | inr behind ↦ contains_undone d ds c (undone_done_at place ds c behind)
]

pub some_suc : (found : Option ℕ) (place : ℕ) →
    option_map (λ place. suc place) found ≡ Some place →
    (before : ℕ) × (found ≡ Some before) × (suc before ≡ place)
some_suc (Some before) place is = (before, refl, cc)
some_suc None place is = absurd cc

still_undone : (at : Place) (ds : List Drain) (place : ℕ) (c : Channel) →
    drain_at at ds ≡ Some place →
    Contains (undone ds) c →
    Contains (undone (done_at place ds)) c ⊎ (is_at at c ≡ true)
still_undone at [] place c found there = inl there
still_undone at (d ∷ ds) place c found there = by (is_at at d.channel && not d.is_done) refl found (λ before at_before behind. still_undone at ds before c at_before behind)
  where
    by : (test : Bool) → (is_at at d.channel && not d.is_done) ≡ test → (if test then Some 0 else option_map (λ place. suc place) (drain_at at ds)) ≡ Some place →
        ((before : ℕ) → drain_at at ds ≡ Some before → Contains (undone ds) c → Contains (undone (done_at before ds)) c ⊎ (is_at at c ≡ true)) → Contains (undone (done_at place (d ∷ ds))) c ⊎ (is_at at c ≡ true)
    by true is found rest =
        let first : 0 ≡ place = cc in
        subst (λ (place : ℕ). Contains (undone (done_at place (d ∷ ds))) c ⊎ (is_at at c ≡ true)) first (elim (undone_cases d ds c there) [
          | inl here ↦ inr (ap (is_at at) (sym here.1) ∙ (both_true (is_at at d.channel) (not d.is_done) is).0)
          | inr behind ↦ inl behind
        ])
    by false is found rest =
        let later = some_suc (drain_at at ds) place found in
        subst (λ (place : ℕ). Contains (undone (done_at place (d ∷ ds))) c ⊎ (is_at at c ≡ true)) later.2 (elim (undone_cases d ds c there) [
          | inl here ↦ inl (undone_here d (done_at later.0 ds) c here.0 here.1)
          | inr behind ↦ elim (rest later.0 later.1 behind) [ inl kept ↦ inl (contains_undone d (done_at later.0 ds) c kept) | inr done ↦ inr done ]
        ])

step_begins_to_drain : (step : RoleStep) (roles : Roles) (target : Option TargetRole) (outs behind : List Message) (c : Channel) → orders outs ≡ step_orders step (record roles { target = target }) ++ behind → Contains (undone (after_step step (record roles { target = target })).draining) c →
    Contains (undone roles.draining) c ⊎ ((c ≡ roles.serving) × Contains outs (rf_channel_release c))
step_begins_to_drain unchanged roles target outs behind c ordered there = inl there
step_begins_to_drain commands roles target outs behind c ordered there = inl there
step_begins_to_drain completes roles None outs behind c ordered there = inl there
step_begins_to_drain completes roles (Some t) outs behind c ordered there = elim (undone_more roles.draining c roles.serving there) [
  | inl was ↦ inl was
  | inr same ↦ inr (
    same,
    contains_ordered outs (rf_channel_release roles.serving ∷ behind) (rf_channel_release c) ordered
        (subst (λ (c : Channel). Contains (rf_channel_release roles.serving ∷ behind) (rf_channel_release c)) (sym same) (contains_first (rf_channel_release roles.serving) behind)),
  )
]
step_begins_to_drain reverts roles target outs behind c ordered there = inl there
step_begins_to_drain (leaves place) roles target outs behind c ordered there =
    inl (undone_done_at place roles.draining c (subst (λ (cs : List Channel). Contains cs c) (undone-still_draining (done_at place roles.draining)) there))

step_drains : (step : RoleStep) (input : Input) (roles : Roles) (target : Option TargetRole) (c : Channel) → step_by input roles ≡ step → Contains (undone roles.draining) c →
    Contains (undone (after_step step (record roles { target = target })).draining) c ⊎ IsAcknowledged c input
step_drains unchanged input roles target c by there = inl there
step_drains commands input roles target c by there = inl there
step_drains completes input roles None c by there = inl there
step_drains completes input roles (Some t) c by there = inl (undone_kept roles.draining (record { channel = roles.serving; is_done = false } ∷ []) c there)
step_drains reverts input roles target c by there = inl there
step_drains (leaves place) input roles target c by there =
    let ack = was_acknowledged input roles place by in
    elim (still_undone ack.0 roles.draining place c ack.2 there) [
      | inl still ↦ inl (subst (λ (cs : List Channel). Contains cs c) (sym (undone-still_draining (done_at place roles.draining))) still)
      | inr done ↦ inr (record { at = ack.0; acknowledges = ack.1; there = done })
    ]

-- ---- the account

draining-begin : (begun : Option Target) (roles : Roles) → (with_target begun roles).draining ≡ roles.draining
draining-begin None roles = refl
draining-begin (Some target) roles = refl

keeps_account_continues : (s : Connection) (input : Input) (offer : Option Channel) (r : Row) →
    IsOpen s.state →
    IsOpen r.next.state →
    RemainsOpen (step_by input (roles_of s)) (roles_of s) s.down input offer r →
    KeepsAccount s input offer r
keeps_account_continues s input offer r was_open is_open on = record {
  gives_up = λ c there. elim (step_gives_up step input roles roles.target r.outs (begin_orders on.begun) c refl refl on.ordered (used_where s.state roles c there).1) [
    | inl kept ↦ inl (in_use_where r.next.state (roles_of r.next) c is_open (subst (λ (roles : Roles). Contains (used roles) c) (sym on.roles) (begin_keeps on.begun input offer after c on.may kept)))
    | inr given_up ↦ inr given_up
  ];
  takes = λ c there. elim (begin_takes on.begun input offer after r.outs (step_orders step roles) c on.may on.ordered
      (subst (λ (roles : Roles). Contains (used roles) c) on.roles (used_where r.next.state (roles_of r.next) c there).1)) [
        | inl kept ↦ inl (in_use_where s.state roles c was_open (step_takes step roles roles.target c kept))
        | inr taken ↦ inr taken
      ];
  begins_to_drain = λ _ c there. step_begins_to_drain step roles roles.target r.outs (begin_orders on.begun) c on.ordered (subst (λ (ds : List Drain). Contains (undone ds) c) draining there);
  drains = λ _ c there. elim (step_drains step input roles roles.target c refl there) [
    | inl still ↦ inl (subst (λ (ds : List Drain). Contains (undone ds) c) (sym draining) still)
    | inr done ↦ inr done
  ];
}
  where
    roles : Roles
    roles = roles_of s

    step : RoleStep
    step = step_by input roles

    after : Roles
    after = after_step step roles

    draining : r.next.draining ≡ after.draining
    draining = ap (λ (roles : Roles). roles.draining) on.roles ∙ draining-begin on.begun after

pub KeepsAccount-by : (s : Connection) (input : Input) (offer : Option Channel) (r : Row) →
    ChangesRoles s input offer r →
    KeepsAccount s input offer r
KeepsAccount-by s input offer r (carries_on was_open is_open on) = keeps_account_continues s input offer r was_open is_open on
KeepsAccount-by s input offer r (ends was_open shut over) = record {
  gives_up = λ c there. inr (given_up_end over.end input (roles_of s) r.outs c over.fits over.ordered (used_where s.state (roles_of s) c there).1);
  takes = λ c there. absurd (shut (used_where r.next.state (roles_of r.next) c there).0);
  begins_to_drain = λ is_open. absurd (shut is_open);
  drains = λ is_open. absurd (shut is_open);
}
KeepsAccount-by s input offer r (had_ended was_shut shut nothing) = record {
  gives_up = λ c there. absurd (was_shut (used_where s.state (roles_of s) c there).0);
  takes = λ c there. absurd (shut (used_where r.next.state (roles_of r.next) c there).0);
  begins_to_drain = λ is_open. absurd (shut is_open);
  drains = λ is_open. absurd (shut is_open);
}

pub keeps_account_row : (s : Connection) (input : Input) (offer : Option Channel) (o : Option Row) →
    ChangesRolesBy s input offer o →
    OfRow (KeepsAccount s input offer) o
keeps_account_row s input offer (Some r) changes = KeepsAccount-by s input offer r changes
keeps_account_row s input offer None none = tt
