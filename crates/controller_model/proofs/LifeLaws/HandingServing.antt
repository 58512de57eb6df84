-- SPDX-License-Identifier: MIT OR Apache-2.0
-- The first tenure of the service list is that of the serving channel, row by row.
use Rattle.controller_model.proofs.Prelude.{◌≡◌, ℕ, ◌==◌, ◌&&◌, Bool, true, false, if◌then◌else◌, List, [], ◌∷◌, Option, Some, None, refl}
use Rattle.controller_model.proofs.Prelude.{sym, subst, ap, ◌∙◌, inl, inr, Channel, Place, Message, complete_layer3, same_place, Input}
use Rattle.controller_model.proofs.Prelude.{State, WaitActivation, WaitEstablish, WaitConfirm, Live, Closed, Removed, Connection, drain_at}
use Rattle.controller_model.proofs.Prelude.{emptied, is_at, RemainsOpen, RoleStep, Roles, TargetRole, after_step, awaits_at, changes_by}
use Rattle.controller_model.proofs.Prelude.{leaves_at, roles_of, step_by, unchanged, commands, completes, reverts, IsValid, Row, row, dropping}
use Rattle.controller_model.proofs.Prelude.{without_station, IsOpen, OfRow, assign_immediately, where_fits, Sapi, Zero, Three, handed}
use Rattle.controller_model.proofs.Prelude.{row_of, requests, ServedTenure, after_input, after_word, begin_first, begin_next, heard, is_on}
use Rattle.controller_model.proofs.Prelude.{with_message, performs, Word, OnChannel, place_of}
use Rattle.conn_rules.specs.declared.input.Input.TheVariants as inputs
use Rattle.controller_model.proofs.LifeLaws.Following.{begun_same}
use Rattle.controller_model.proofs.LifeLaws.FollowingChanges.{complete_is, completes_step}
use Rattle.controller_model.proofs.LifeLaws.FollowingSteps.{word_none}
use Rattle.controller_model.proofs.LifeLaws.FollowingTable.{access_open, early_none, going, row_by, row_is_by}
use Rattle.controller_model.proofs.LifeLaws.Progress.{Advances, IsLive, Next, advances}
use Rattle.controller_model.proofs.LifeLaws.Switched.{was}

-- ---- the first tenure

abbrev pub first_place : List ServedTenure → Option Place
first_place [] = None
first_place (t ∷ old) = Some t.place

-- before access there is none; then it is that of the serving channel
abbrev pub ServesIn : State → Connection → List ServedTenure → Type 0
ServesIn WaitActivation s ts = ts ≡ []
ServesIn WaitEstablish s ts = ts ≡ []
ServesIn WaitConfirm s ts = first_place ts ≡ Some (place_of s.serving)
ServesIn (Live reference stage) s ts = first_place ts ≡ Some (place_of s.serving)
ServesIn _ s ts = Unit {0}

-- ---- where no channel begins to serve

abbrev pub NotComplete : Input → Type 0
NotComplete (inputs.Complete at change cause) = ⊥
NotComplete _ = Unit {0}

heard_place : (at : Place) (sapi : Sapi) (message : List ℕ) (t : ServedTenure) → (heard at sapi message t).place ≡ t.place
heard_place at sapi message t = by sapi (is_on at t)
  where
    by : (sapi : Sapi) (b : Bool) → (if b then with_message sapi message t else t).place ≡ t.place
    by Zero true = refl
    by Three true = refl
    by Zero false = refl
    by Three false = refl

begun_place : (b : Bool) (at : Place) (initial : List ℕ) (t : ServedTenure) (old : List ServedTenure) →
    first_place (begin_first b at initial (t ∷ old)) ≡ Some t.place
begun_place true at initial t old = refl
begun_place false at initial t old = refl

kept_place : (input : Input) (put : List Message) (t : ServedTenure) (old : List ServedTenure) →
    NotComplete input →
    first_place (after_input input put (t ∷ old)) ≡ Some t.place
kept_place (inputs.Complete at change cause) put t old other = absurd other
kept_place (inputs.EstablishIndication at Zero (Some initial)) put t old other = begun_place (requests put) at initial t old
kept_place (inputs.Dtap at sapi message) put t old other = ap (λ (p : Place). let o : Option Place = Some p in o) (heard_place at sapi message t)
kept_place _ put t old other = refl

-- with nothing put
quiet_place : (input : Input) (t : ServedTenure) (old : List ServedTenure) → first_place (after_input input [] (t ∷ old)) ≡ Some t.place
quiet_place (inputs.Complete at change cause) t old = refl
quiet_place input t old = kept_place input [] t old tt

quiet_word : (word : Word) (ts : List ServedTenure) → first_place (after_word word [] ts) ≡ first_place ts
quiet_word (OnChannel at input) [] = ap first_place (early_none input [] refl)
quiet_word (OnChannel at input) (t ∷ old) = quiet_place input t old
quiet_word _ ts = refl

quiet_early : (word : Word) (ts : List ServedTenure) → ts ≡ [] → after_word word [] ts ≡ []
quiet_early word ts none = ap (after_word word []) none ∙ word_none word [] refl

pub quiet_serves : (state : State) (s : Connection) (word : Word) (ts : List ServedTenure) →
    ServesIn state s ts →
    ServesIn state s (after_word word [] ts)
quiet_serves WaitConfirm s word ts serves = quiet_word word ts ∙ serves
quiet_serves (Live reference stage) s word ts serves = quiet_word word ts ∙ serves
quiet_serves (Closed clearing) s word ts serves = tt
quiet_serves Removed s word ts serves = tt
quiet_serves _ s word ts serves = quiet_early word ts serves

-- ---- a row from access on

same_serving : (b : Bool) (one other : RoleStep) (roles : Roles) →
    (after_step one roles).serving ≡ roles.serving →
    (after_step other roles).serving ≡ roles.serving →
    (after_step (if b then one else other) roles).serving ≡ roles.serving
same_serving true one other roles h k = h
same_serving false one other roles h k = k

leaving_serving : (o : Option ℕ) (roles : Roles) → (after_step (leaves_at o) roles).serving ≡ roles.serving
leaving_serving None roles = refl
leaving_serving (Some place) roles = refl

kept_serving : (input : Input) (roles : Roles) → NotComplete input → (after_step (step_by input roles) roles).serving ≡ roles.serving
kept_serving (inputs.ActivationAck at) roles other = same_serving (awaits_at at roles.target) commands unchanged roles refl refl
kept_serving (inputs.ActivationNack at) roles other = same_serving (awaits_at at roles.target) reverts unchanged roles refl refl
kept_serving (inputs.Failure at change cause) roles other = same_serving (is_at at roles.serving && changes_by change roles.target) reverts unchanged roles refl refl
kept_serving (inputs.Complete at change cause) roles other = absurd other
kept_serving (inputs.ReleaseAck at) roles other = leaving_serving (drain_at at roles.draining) roles
kept_serving _ roles other = refl

next_serving : (s : Connection) (input : Input) (offer : Option Channel) (r : Row) →
    RemainsOpen (step_by input (roles_of s)) (roles_of s) s.down input offer r →
    r.next.serving ≡ (after_step (step_by input (roles_of s)) (roles_of s)).serving
next_serving s input offer r on = ap (λ (roles : Roles). roles.serving) on.roles ∙ (begun_same on.begun (after_step (step_by input (roles_of s)) (roles_of s))).serving

some_place : (place other : Place) → place ≡ other → (let o : Option Place = Some place in o) ≡ Some other
some_place place other is = ap (λ (p : Place). let o : Option Place = Some p in o) is

complete_place : (s : Connection) (at : Place) (change : _) (cause : _) (offer : Option Channel) (r : Row) (ts : List ServedTenure) → row_of s (inputs.Complete at change cause) offer ≡ Some r →
    RemainsOpen (step_by (inputs.Complete at change cause) (roles_of s)) (roles_of s) s.down (inputs.Complete at change cause) offer r → first_place ts ≡ Some (place_of s.serving) → first_place (begin_next ts (performs r.outs) at) ≡ Some (place_of r.next.serving)
complete_place s at change cause offer r [] is on serves = absurd cc
complete_place s at change cause offer r (t ∷ old) is on serves =
    let input : Input = inputs.Complete at change cause in
    let c = complete_is s at change cause offer r is in
    let serving : r.next.serving ≡ c.t.target.channel =
    next_serving s input offer r on ∙ ap (λ (k : RoleStep). (after_step k (roles_of s)).serving) (completes_step s at change cause r c) ∙ ap (λ (target : Option TargetRole). (after_step completes (record (roles_of s) { target = target })).serving) c.target in
    ap (λ (b : Bool). first_place (begin_next (t ∷ old) b at)) c.performed
    ∙ some_place at (place_of r.next.serving) (same_place at c.t.target.channel c.here ∙ ap place_of (sym serving))

other_place : (s : Connection) (input : Input) (offer : Option Channel) (r : Row) (ts : List ServedTenure) →
    NotComplete input →
    RemainsOpen (step_by input (roles_of s)) (roles_of s) s.down input offer r →
    first_place ts ≡ Some (place_of s.serving) →
    first_place (after_input input r.outs ts) ≡ Some (place_of r.next.serving)
other_place s input offer r [] other on serves = absurd cc
other_place s input offer r (t ∷ old) other on serves =
    kept_place input r.outs t old other ∙ serves
    ∙ some_place (place_of s.serving) (place_of r.next.serving) (ap place_of (sym (next_serving s input offer r on ∙ kept_serving input (roles_of s) other)))

row_place : (s : Connection) (input : Input) (offer : Option Channel) (r : Row) (ts : List ServedTenure) →
    IsValid s →
    row_of s input offer ≡ Some r →
    IsOpen r.next.state →
    first_place ts ≡ Some (place_of s.serving) →
    first_place (after_input input r.outs ts) ≡ Some (place_of r.next.serving)
row_place s (inputs.Complete at change cause) offer r ts valid is there serves = complete_place s at change cause offer r ts is (going s (inputs.Complete at change cause) offer r valid is there) serves
row_place s input offer r ts valid is there serves = other_place s input offer r ts tt (going s input offer r valid is there) serves

-- ---- a row

live_serves : (state : State) (s : Connection) (ts : List ServedTenure) →
    IsLive state →
    first_place ts ≡ Some (place_of s.serving) →
    ServesIn state s ts
live_serves (Live reference stage) s ts live serves = serves
live_serves (Closed clearing) s ts live serves = tt
live_serves Removed s ts live serves = tt
live_serves _ s ts live serves = absurd live

pub next_in : (state : State) (s : Connection) →
    s.state ≡ state →
    (input : Input) (offer : Option Channel) (r : Row) →
    row_of s input offer ≡ Some r →
    IsOpen r.next.state →
    Next state input r.next.state r.outs
next_in state s same input offer r is there = subst (λ (state : State). Next state input r.next.state r.outs) same (subst (OfRow (Advances s.state input)) is (advances s input offer) there)

by_state : (state : State) (s : Connection) →
    s.state ≡ state →
    (input : Input) (offer : Option Channel) (r : Row) (ts : List ServedTenure) →
    IsValid s →
    row_of s input offer ≡ Some r →
    IsOpen r.next.state →
    ServesIn state s ts →
    ServesIn r.next.state r.next (after_input input r.outs ts)
by_state WaitActivation s same input offer r ts valid is there serves =
    let next = next_in WaitActivation s same input offer r is there in
    subst (λ (state : State). ServesIn state r.next (after_input input r.outs ts)) (sym next.0) (ap (after_input input r.outs) serves ∙ early_none input r.outs next.1)
by_state WaitEstablish s same input offer r ts valid is there serves =
    let a = access_open s input offer r (ap (λ (state : State). row_by state s input offer) (sym same) ∙ sym (row_is_by s input offer) ∙ is) there in
    subst (λ (q : Row). ServesIn q.next.state q.next (after_input input q.outs ts)) (sym a.is)
    (subst (λ (i : Input). first_place (after_input i (complete_layer3 s.serving a.initial ∷ []) ts) ≡ Some (place_of s.serving)) (sym a.establishes)
    (subst (λ (us : List ServedTenure). first_place (begin_first true a.at a.initial us) ≡ Some (place_of s.serving)) (sym serves)
    (some_place a.at (place_of s.serving) (same_place a.at s.serving a.here))))
by_state WaitConfirm s same input offer r ts valid is there serves =
    let next = next_in WaitConfirm s same input offer r is there in
    let place = row_place s input offer r ts valid is there serves in
    elim next.1 [
      | inl remains_so ↦ subst (λ (state : State). ServesIn state r.next (after_input input r.outs ts)) (sym remains_so.0) place
      | inr is_live ↦ live_serves r.next.state r.next (after_input input r.outs ts) is_live.0 place
    ]
by_state (Live reference stage) s same input offer r ts valid is there serves =
    live_serves r.next.state r.next (after_input input r.outs ts) (next_in (Live reference stage) s same input offer r is there) (row_place s input offer r ts valid is there serves)
by_state _ s same input offer r ts valid is there serves = absurd (subst IsOpen same (was s input offer r is there))

while_open : (state : State) (s : Connection) (ts : List ServedTenure) → (IsOpen state → ServesIn state s ts) → ServesIn state s ts
while_open (Closed clearing) s ts serves = tt
while_open Removed s ts serves = tt
while_open _ s ts serves = serves tt

pub row_serves : (s : Connection) (input : Input) (offer : Option Channel) (r : Row) (ts : List ServedTenure) →
    IsValid s →
    row_of s input offer ≡ Some r →
    ServesIn s.state s ts →
    ServesIn r.next.state r.next (after_input input r.outs ts)
row_serves s input offer r ts valid is serves = while_open r.next.state r.next (after_input input r.outs ts) (λ there. by_state s.state s refl input offer r ts valid is there serves)

-- ---- before access nothing is handed

abbrev pub HandsNone : Row → Type 0
HandsNone r = IsOpen r.next.state → (sapi : Sapi) → handed sapi r.outs ≡ []

assign_hands : (sapi : Sapi) (s : Connection) → handed sapi (assign_immediately s).outs ≡ []
assign_hands Zero s = refl
assign_hands Three s = refl

pub early_row : (s : Connection) (input : Input) (offer : Option Channel) → OfRow HandsNone (row_by WaitActivation s input offer)
unfolding row_by
early_row s (inputs.ActivationAck at) offer = where_fits HandsNone (is_at at s.serving) (assign_immediately s) (λ there sapi. assign_hands sapi s)
early_row s (inputs.ActivationNack at) offer = where_fits HandsNone (is_at at s.serving) (row [] (emptied Removed s)) (λ there. absurd there)
early_row s inputs.Expiry offer = λ there. absurd there
early_row s (inputs.StationDown station) offer = where_fits HandsNone (s.serving.station == station) (without_station station (dropping s)) (λ there. absurd there)
early_row s inputs.SwitchDown offer = λ there. absurd there
early_row s _ offer = tt
