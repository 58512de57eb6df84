-- SPDX-License-Identifier: MIT OR Apache-2.0
-- The owners of channels after a row: its own connection, and all others.
use Rattle.controller_model.proofs.Prelude.{◌≡◌, ◌≢◌, ◌⊎◌, ℕ, zero, suc, ◌==◌, ◌&&◌, Bool, true, false, not, if◌then◌else◌, List, [], ◌∷◌}
use Rattle.controller_model.proofs.Prelude.{◌++◌, fold, Option, Some, None, option_map, refl, sym, subst, ap, ◌∙◌, inl, inr, true≢false}
use Rattle.controller_model.proofs.Prelude.{cases_Bool, cond-true, cond-false, eqb-true, eq-eqb, and_parts, AllByRecursion, Channel, Place}
use Rattle.controller_model.proofs.Prelude.{rf_channel_release, AllByRecursion-append, AreAway, drain_at_drains, same_place, Input, Drain}
use Rattle.controller_model.proofs.Prelude.{Target, is_at, drain_at, TargetRole, Roles, RoleStep, after_step, step_by, step_orders}
use Rattle.controller_model.proofs.Prelude.{target_channels, with_target, leaves_at, MayBegin, unchanged, commands, completes, reverts}
use Rattle.controller_model.proofs.Prelude.{leaves, done_at, AreApart, IsApart, undone, undone-still_draining, DrainsAt, all_away}
use Rattle.controller_model.proofs.Prelude.{apart_first, apart_rest, drain_away, apart_behind, IsNew, AreIn, Owns, is_link_up, used_in}
use Rattle.controller_model.proofs.Prelude.{ChannelState, Free, InUse, Releasing, channels_after, place_of, state_in, with_state}
use Rattle.conn_rules.proofs.RolesApart.{IsPart, IsPart-step, AreApart-begin, undone-begins}
use Rattle.conn_rules.proofs.ValidParts.{AllByRecursion-push}
use Rattle.conn_rules.specs.declared.input.Input.TheVariants as inputs
use Rattle.controller_model.proofs.LifeLaws.Places.{IsIn, state_here, state_else, is_there, still_in, use≢release, free≢use, free≢release}

abbrev States : Type 0
States = List (List ChannelState)

-- ---- states

-- two channels at different places
pub places_differ : (c d : Channel) → IsApart c d → place_of c ≢ place_of d
places_differ c d apart same =
    let station : c.station ≡ d.station = ap (λ (p : Place). p.station) same in
    let number : c.number ≡ d.number = ap (λ (p : Place). p.number) same in
    true≢false (sym (ap (λ (b : Bool). b && (c.number == d.number)) (eq-eqb c.station d.station station) ∙ eq-eqb c.number d.number number) ∙ apart)

both_or : (c d : Channel) → (place_of c ≡ place_of d) ⊎ IsApart c d
both_or c d = elim (cases_Bool ((c.station == d.station) && (c.number == d.number))) [
  | inl hit ↦
      let parts = and_parts (c.station == d.station) (c.number == d.number) hit in
      inl (ap (λ (n : ℕ). record (place_of c) { station = n }) (eqb-true c.station d.station parts.0) ∙ ap (λ (n : ℕ). record (place_of d) { number = n }) (eqb-true c.number d.number parts.1))
  | inr miss ↦ inr miss
]

-- ---- another's places are set

pub other_set : (channels : States) (links : List Bool) (n : ℕ) (roles : Roles) (at : Place) (state : ChannelState) →
    state_in channels at ≢ InUse n →
    state_in channels at ≢ Releasing n →
    Owns channels links n roles →
    Owns (with_state at state channels) links n roles
other_set channels links n roles at state using releasing owns = record {
  using = still_in channels at state (InUse n) (roles.serving ∷ target_channels roles.target) using owns.using;
  releasing = still_in channels at state (Releasing n) (undone roles.draining) releasing owns.releasing;
  apart = owns.apart;
  linked = owns.linked;
}

-- ---- lists of old channels

away_places : (at : Place) (c : Channel) → is_at at c ≡ false → place_of c ≢ at
away_places at c away same =
    true≢false (sym (ap (λ (b : Bool). b && (at.number == c.number)) (eq-eqb at.station c.station (ap (λ (p : Place). p.station) (sym same))) ∙ eq-eqb at.number c.number (ap (λ (p : Place). p.number) (sym same))) ∙ away)

pub away_done : (at : Place) (place : ℕ) (ds : List Drain) (rest : List Channel) →
    DrainsAt at place ds →
    AreApart (undone ds ++ rest) →
    AreAway at (undone (done_at place ds))
away_done at place [] rest drains apart = tt
away_done at zero (d ∷ ds) rest drains apart = front (undone ds) rest (all_away at d.channel (undone ds ++ rest) drains.0 (apart_first d.is_done d.channel (undone ds) rest drains.1 apart))
  where
    front : (cs rest : List Channel) → AreAway at (cs ++ rest) → AreAway at cs
    front [] rest away = tt
    front (c ∷ cs) rest away = (away.0, front cs rest away.1)
away_done at (suc place) (d ∷ ds) rest drains apart =
    by d.is_done refl (away_done at place ds rest drains (apart_rest d.is_done d.channel (undone ds) rest apart))
  where
    by : (b : Bool) →
        d.is_done ≡ b →
        AreAway at (undone (done_at place ds)) →
        AreAway at (if b then undone (done_at place ds) else d.channel ∷ undone (done_at place ds))
    by true is others = others
    by false is others = (drain_away at d.channel place ds rest drains (apart_first d.is_done d.channel (undone ds) rest is apart), others)

none_there : (at : Place) (c : Channel) (done : Bool) (rest : Option ℕ) →
    (if (is_at at c && not done) then Some 0 else option_map (λ place. suc place) rest) ≡ None →
    (done ≡ false → is_at at c ≡ false) × (rest ≡ None)
none_there at c done rest none = elim (cases_Bool (is_at at c && not done)) [
  | inl hit ↦ absurd (let found : Some 0 ≡ None = sym (cond-true _ (Some 0) (option_map (λ (place : ℕ). suc place) rest) hit) ∙ none in cc)
  | inr miss ↦ (away done miss, of rest (sym (cond-false _ (Some 0) (option_map (λ (place : ℕ). suc place) rest) miss) ∙ none))
]
  where
    away : (done : Bool) → (is_at at c && not done) ≡ false → done ≡ false → is_at at c ≡ false
    away true miss undone_one = absurd (true≢false undone_one)
    away false miss undone_one = by (is_at at c) miss
      where
        by : (b : Bool) → (b && true) ≡ false → b ≡ false
        by true is = is
        by false is = refl

    of : (o : Option ℕ) → option_map (λ place. suc place) o ≡ None → o ≡ None
    of None is = refl
    of (Some n) is = absurd cc

pub away_none : (at : Place) (ds : List Drain) → drain_at at ds ≡ None → AreAway at (undone ds)
away_none at [] none = tt
away_none at (d ∷ ds) none =
    let parts = none_there at d.channel d.is_done (drain_at at ds) none in
    by d.is_done refl parts.0 (away_none at ds parts.1)
  where
    by : (b : Bool) →
        d.is_done ≡ b →
        (d.is_done ≡ false → is_at at d.channel ≡ false) →
        AreAway at (undone ds) →
        AreAway at (if b then undone ds else d.channel ∷ undone ds)
    by true is away others = others
    by false is away others = (away is, others)

pub all_done_at : (P : Channel → Type 0) (place : ℕ) (ds : List Drain) →
    AllByRecursion P (undone ds) →
    AllByRecursion P (undone (done_at place ds))
all_done_at P place [] all = tt
all_done_at P zero (d ∷ ds) all = by d.is_done all
  where
    by : (b : Bool) → AllByRecursion P (if b then undone ds else d.channel ∷ undone ds) → AllByRecursion P (undone ds)
    by true all = all
    by false all = all.1
all_done_at P (suc place) (d ∷ ds) all = by d.is_done (λ rest. all_done_at P place ds rest) all
  where
    by : (b : Bool) →
        (AllByRecursion P (undone ds) → AllByRecursion P (undone (done_at place ds))) →
        AllByRecursion P (if b then undone ds else d.channel ∷ undone ds) →
        AllByRecursion P (if b then undone (done_at place ds) else d.channel ∷ undone (done_at place ds))
    by true others all = others all
    by false others all = (all.0, others all.1)

-- a place that none of them is at is set
away_in : (channels : States) (at : Place) (state was : ChannelState) (cs : List Channel) →
    AreAway at cs →
    AreIn channels was cs →
    AreIn (with_state at state channels) was cs
away_in channels at state was [] away all = tt
away_in channels at state was (c ∷ cs) away all = (state_else channels at (place_of c) state (away_places at c away.0) ∙ all.0, away_in channels at state was cs away.1 all.1)

-- ---- its own step

part : (step : RoleStep) (roles : Roles) → IsPart (used_in roles) (used_in (after_step step roles))
part step roles = IsPart-step step roles roles.target

with_states : (channels next : States) (links : List Bool) (n : ℕ) (step : RoleStep) (roles : Roles) →
    Owns channels links n roles →
    AreIn next (InUse n) ((after_step step roles).serving ∷ target_channels (after_step step roles).target) →
    AreIn next (Releasing n) (undone (after_step step roles).draining) →
    Owns next links n (after_step step roles)
with_states channels next links n step roles owns using releasing = record {
  using = using;
  releasing = releasing;
  apart = (part step roles).apart owns.apart;
  linked = (part step roles).each (λ c. is_link_up links c.station ≡ true) owns.linked;
}

in_use : (channels : States) (at : Place) (n : ℕ) → state_in channels at ≡ InUse n → IsIn channels at
in_use channels at n is = is_there channels at (λ free. free≢use n (sym free ∙ is))

back_owns : (channels : States) (links : List Bool) (n : ℕ) (roles : Roles) (t : TargetRole) (b : Bool) →
    Owns channels links n (record roles { target = Some t }) →
    Owns (fold (channels_after n) channels (if b then rf_channel_release t.target.channel ∷ [] else [])) links n (record roles { target = None })
back_owns channels links n roles t true owns =
    let differ = places_differ roles.serving t.target.channel (apart_behind (undone roles.draining) (roles.serving ∷ t.target.channel ∷ []) owns.apart).0.0 in
    with_states channels (with_state (place_of t.target.channel) (Releasing n) channels) links n reverts (record roles { target = Some t }) owns
    (state_else channels (place_of t.target.channel) (place_of roles.serving) (Releasing n) differ ∙ owns.using.0, tt)
    (still_in channels (place_of t.target.channel) (Releasing n) (Releasing n) (undone roles.draining) (λ is. use≢release n n (sym owns.using.1.0 ∙ is)) owns.releasing)
back_owns channels links n roles t false owns = with_states channels channels links n reverts (record roles { target = Some t }) owns (owns.using.0, tt) owns.releasing

-- the target that completes is there
unfoldable pub HasTarget : RoleStep → Option TargetRole → Type 0
HasTarget completes None = ⊥
HasTarget _ _ = Unit {0}

pub own_step : (channels : States) (links : List Bool) (n : ℕ) (step : RoleStep) (roles : Roles) (target : Option TargetRole) → HasTarget step target → Owns channels links n (record roles { target = target }) →
    Owns (fold (channels_after n) channels (step_orders step (record roles { target = target }))) links n (after_step step (record roles { target = target }))
unfolding HasTarget
own_step channels links n unchanged roles target has owns = owns
own_step channels links n commands roles None has owns = owns
own_step channels links n commands roles (Some t) has owns = with_states channels channels links n commands (record roles { target = Some t }) owns owns.using owns.releasing
own_step channels links n completes roles None has owns = absurd has
own_step channels links n completes roles (Some t) has owns =
    let old : Roles = record roles { target = Some t } in
    let next : States = with_state (place_of roles.serving) (Releasing n) channels in
    let differ = places_differ roles.serving t.target.channel (apart_behind (undone roles.draining) (roles.serving ∷ t.target.channel ∷ []) owns.apart).0.0 in
    with_states channels next links n completes old owns
    (state_else channels (place_of roles.serving) (place_of t.target.channel) (Releasing n) (λ same. differ (sym same)) ∙ owns.using.1.0, tt)
    (subst (AreIn next (Releasing n)) (sym (undone-begins roles.draining roles.serving))
    (AllByRecursion-push (λ c. state_in next (place_of c) ≡ Releasing n) (undone roles.draining) roles.serving
    (still_in channels (place_of roles.serving) (Releasing n) (Releasing n) (undone roles.draining) (λ is. use≢release n n (sym owns.using.0 ∙ is)) owns.releasing)
    (state_here channels (place_of roles.serving) (Releasing n) (in_use channels (place_of roles.serving) n owns.using.0))))
own_step channels links n reverts roles None has owns = owns
own_step channels links n reverts roles (Some t) has owns = back_owns channels links n roles t t.is_commanded owns
own_step channels links n (leaves place) roles target has owns =
    let old : Roles = record roles { target = target } in
    with_states channels channels links n (leaves place) old owns owns.using
    (subst (AreIn channels (Releasing n)) (sym (undone-still_draining (done_at place roles.draining))) (all_done_at (λ c. state_in channels (place_of c) ≡ Releasing n) place roles.draining owns.releasing))

-- ---- a change begins

new_places : (channels : States) (free : Channel) (was : ChannelState) (cs : List Channel) →
    was ≢ Free →
    state_in channels (place_of free) ≡ Free →
    AreIn channels was cs →
    AllByRecursion (λ other. IsApart other free) cs
new_places channels free was [] used is_free all = tt
new_places channels free was (c ∷ cs) used is_free all = (
  elim (both_or c free) [ inl same ↦ absurd (used (sym all.0 ∙ ap (state_in channels) same ∙ is_free)) | inr apart ↦ apart ],
  new_places channels free was cs used is_free all.1,
)

-- a channel that is offered
pub record IsOffered (channels : States) (links : List Bool) (c : Channel) : Type 0 where
  pub is_free : state_in channels (place_of c) ≡ Free
  pub is_in : IsIn channels (place_of c)
  pub is_up : is_link_up links c.station ≡ true

pub begin_owns : (channels : States) (links : List Bool) (n : ℕ) (target : Target) (input : Input) (offer : Option Channel) (roles : Roles) → MayBegin (Some target) input offer roles → IsOffered channels links target.channel → Owns channels links n roles →
    Owns (with_state (place_of target.channel) (InUse n) channels) links n (with_target (Some target) roles)
begin_owns channels links n target input offer roles may offered owns =
    let next : States = with_state (place_of target.channel) (InUse n) channels in
    let is_new : IsNew (Some target.channel) (used_in roles) =
    AllByRecursion-append (λ other. IsApart other target.channel) (undone roles.draining) (roles.serving ∷ target_channels roles.target)
    (new_places channels target.channel (Releasing n) (undone roles.draining) (λ same. free≢release n (sym same)) offered.is_free owns.releasing)
    (new_places channels target.channel (InUse n) (roles.serving ∷ target_channels roles.target) (λ same. free≢use n (sym same)) offered.is_free owns.using) in
    let linked = owns.linked in
    record {
      using = (
        state_else channels (place_of target.channel) (place_of roles.serving) (InUse n) (λ same. free≢use n (sym offered.is_free ∙ ap (state_in channels) (sym same) ∙ owns.using.0)) ∙ owns.using.0,
        (state_here channels (place_of target.channel) (InUse n) offered.is_in, tt),
      );
      releasing = still_in channels (place_of target.channel) (InUse n) (Releasing n) (undone roles.draining) (λ is. free≢release n (sym offered.is_free ∙ is)) owns.releasing;
      apart = AreApart-begin (Some target) input offer roles may owns.apart (subst (λ (o : Option Channel). IsNew o (used_in roles)) (sym may.1) is_new);
      linked = AllByRecursion-append (λ c. is_link_up links c.station ≡ true) (undone roles.draining) (roles.serving ∷ target.channel ∷ [])
          (front (undone roles.draining) (roles.serving ∷ target_channels roles.target) linked)
          ((behind (undone roles.draining) (roles.serving ∷ target_channels roles.target) linked).0, (offered.is_up, tt));
    }
  where
    front : (xs ys : List Channel) →
        AllByRecursion (λ c. is_link_up links c.station ≡ true) (xs ++ ys) →
        AllByRecursion (λ c. is_link_up links c.station ≡ true) xs
    front [] ys all = tt
    front (x ∷ xs) ys all = (all.0, front xs ys all.1)

    behind : (xs ys : List Channel) →
        AllByRecursion (λ c. is_link_up links c.station ≡ true) (xs ++ ys) →
        AllByRecursion (λ c. is_link_up links c.station ≡ true) ys
    behind [] ys all = all
    behind (x ∷ xs) ys all = behind xs ys all.1

-- ---- a channel was freed first

-- by its RELEASE ACK
left_using : (channels : States) (links : List Bool) (n k : ℕ) (at : Place) (roles : Roles) →
    state_in channels at ≡ Releasing k →
    Owns channels links n roles →
    AreIn (with_state at Free channels) (InUse n) (roles.serving ∷ target_channels roles.target)
left_using channels links n k at roles is owns = still_in channels at Free (InUse n) (roles.serving ∷ target_channels roles.target) (λ same. use≢release n k (sym same ∙ is)) owns.using

left_owns : (channels : States) (links : List Bool) (n k : ℕ) (at : Place) (roles : Roles) (o : Option ℕ) →
    drain_at at roles.draining ≡ o →
    state_in channels at ≡ Releasing k →
    Owns channels links n roles →
    Owns (with_state at Free channels) links n (after_step (leaves_at o) roles)
left_owns channels links n k at roles None none is owns =
    record { using = left_using channels links n k at roles is owns; releasing = away_in channels at Free (Releasing n) (undone roles.draining) (away_none at roles.draining none) owns.releasing; apart = owns.apart; linked = owns.linked }
left_owns channels links n k at roles (Some place) some is owns =
    with_states channels (with_state at Free channels) links n (leaves place) roles owns (left_using channels links n k at roles is owns)
    (subst (AreIn (with_state at Free channels) (Releasing n)) (sym (undone-still_draining (done_at place roles.draining)))
    (away_in channels at Free (Releasing n) (undone (done_at place roles.draining))
    (away_done at place roles.draining (roles.serving ∷ target_channels roles.target) (drain_at_drains at roles.draining place some) owns.apart)
    (all_done_at (λ c. state_in channels (place_of c) ≡ Releasing n) place roles.draining owns.releasing)))

pub acknowledged_owns : (channels : States) (links : List Bool) (n k : ℕ) (at : Place) (roles : Roles) →
    state_in channels at ≡ Releasing k →
    Owns channels links n roles →
    Owns (with_state at Free channels) links n (after_step (step_by (inputs.ReleaseAck at) roles) roles)
acknowledged_owns channels links n k at roles is owns = left_owns channels links n k at roles (drain_at at roles.draining) refl is owns

-- by the NACK of the target
pub refused_owns : (channels : States) (links : List Bool) (n : ℕ) (at : Place) (roles : Roles) (t : TargetRole) →
    is_at at t.target.channel ≡ true →
    Owns channels links n (record roles { target = Some t }) →
    Owns (with_state at Free channels) links n (record roles { target = None })
refused_owns channels links n at roles t here owns =
    let old : Roles = record roles { target = Some t } in
    let is : at ≡ place_of t.target.channel = same_place at t.target.channel here in
    let differ = places_differ roles.serving t.target.channel (apart_behind (undone roles.draining) (roles.serving ∷ t.target.channel ∷ []) owns.apart).0.0 in
    with_states channels (with_state at Free channels) links n reverts old owns
    (state_else channels at (place_of roles.serving) Free (λ same. differ (same ∙ is)) ∙ owns.using.0, tt)
    (still_in channels at Free (Releasing n) (undone roles.draining) (λ same. use≢release n n (sym owns.using.1.0 ∙ ap (state_in channels) (sym is) ∙ same)) owns.releasing)
