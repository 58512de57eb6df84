-- SPDX-License-Identifier: MIT OR Apache-2.0
-- The messages relayed follow the tenures when a change is complete, and at access; which rows fit.
use Rattle.controller_model.proofs.Prelude.{◌≡◌, ℕ, ◌&&◌, Bool, true, false, if◌then◌else◌, List, [], ◌∷◌, ◌++◌, Option, Some, None, refl}
use Rattle.controller_model.proofs.Prelude.{sym, subst, ap, ◌∙◌, inl, inr, append_assoc, append-nil, cases_Bool, cond-true, cond-false}
use Rattle.controller_model.proofs.Prelude.{and_parts, Change, Assignment, Handover, Channel, Place, Message, AreAway, drain_at_drains}
use Rattle.controller_model.proofs.Prelude.{same_place, Input, Drain, Stage, Changing, State, WaitEstablish, WaitConfirm, Live, Connection}
use Rattle.controller_model.proofs.Prelude.{is_at, tenure_at, TargetRole, Roles, RoleStep, RemainsOpen, after_step, changes_by, roles_of}
use Rattle.controller_model.proofs.Prelude.{step_by, target_channels, target_role, unchanged, completes, IsValid, Row, failing, AreApart, Future}
use Rattle.controller_model.proofs.Prelude.{IsApart, IsOpen, from_input, of_target, relayed, still_of, undone, used_channels, complete}
use Rattle.controller_model.proofs.Prelude.{dtap_in, on_complete, on_dtap, EQUIPMENT_FAILURE, Sapi, Zero, Three, away_of, drain_behind_away}
use Rattle.controller_model.proofs.Prelude.{is_target_at, same_change, used_in, ServedTenure, begin_next, beginning, of_sapi, performs}
use Rattle.controller_model.proofs.Prelude.{place_of}
use Rattle.conn_rules.specs.declared.input.Input.TheVariants as inputs
use Rattle.conn_rules.specs.Table.{row_of}
use Rattle.controller_model.proofs.LifeLaws.Following.{Follows, Serves, begun_same, begun_killed, joins, keeps, none_on, of_target_role, role_target}
use Rattle.controller_model.proofs.LifeLaws.OwningWords.{if_is}
use Rattle.controller_model.proofs.LifeLaws.Tenures.{joined_with}

-- ---- COMPLETE

pub record Completes (s : Connection) (at : Place) (change : Change) (r : Row) : Type 0 where
  pub t : TargetRole
  pub target : target_role s.state ≡ Some t
  pub commanded : t.is_commanded ≡ true
  pub here : is_at at t.target.channel ≡ true
  pub alike : same_change change t.target.change ≡ true
  pub performed : performs r.outs ≡ true

pub performs_complete : (reference : ℕ) (change : Change) (channel : Channel) (cause : ℕ) (offer : Option Channel) (s : Connection) →
    performs (complete reference change channel cause offer s).outs ≡ true
performs_complete reference Assignment channel cause offer s = refl
performs_complete reference Handover channel cause offer s = refl

complete_by : (state : State) (s : Connection) →
    s.state ≡ state →
    (at : Place) (change : Change) (cause : ℕ) (offer : Option Channel) (r : Row) →
    on_complete state s at change cause offer ≡ Some r →
    Completes s at change r
complete_by (Live reference (Changing target)) s same at change cause offer r is =
    let one = if_is (is_at at target.channel && same_change change target.change) (complete reference change target.channel cause offer s) r is in
    let parts = and_parts (is_at at target.channel) (same_change change target.change) one.0 in
    record {
      t = record { target = target; is_commanded = true };
      target = ap target_role same;
      commanded = refl;
      here = parts.0;
      alike = parts.1;
      performed = ap (λ (q : Row). performs q.outs) (sym one.1) ∙ performs_complete reference change target.channel cause offer s;
    }
complete_by _ s same at change cause offer r is = absurd cc

pub complete_is : (s : Connection) (at : Place) (change : Change) (cause : _) (offer : Option Channel) (r : Row) →
    row_of s (inputs.Complete at change cause) offer ≡ Some r →
    Completes s at change r
unfolding row_of
complete_is s at change cause offer r is = complete_by s.state s refl at change cause.0 offer r is

pub completes_step : (s : Connection) (at : Place) (change : Change) (cause : _) (r : Row) →
    Completes s at change r →
    step_by (inputs.Complete at change cause) (roles_of s) ≡ completes
completes_step s at change cause r c =
    ap (λ (target : Option TargetRole). if (is_target_at at target && changes_by change target) then completes else unchanged) c.target
    ∙ cond-true _ completes unchanged (ap (λ (b : Bool). b && (c.t.is_commanded && same_change change c.t.target.change)) c.here ∙ ap (λ (b : Bool). b && same_change change c.t.target.change) c.commanded ∙ c.alike)

undone_next : (ds : List Drain) (serving : Channel) (at : Place) →
    AreAway at (undone (ds ++ record { channel = serving; is_done = false } ∷ [])) →
    AreAway at (undone ds) × (is_at at serving ≡ false)
undone_next [] serving at away = (tt, away.0)
undone_next (d ∷ ds) serving at away = by d.is_done away (λ rest. undone_next ds serving at rest)
  where
    by : (b : Bool) → AreAway at (if b then undone (ds ++ record { channel = serving; is_done = false } ∷ []) else d.channel ∷ undone (ds ++ record { channel = serving; is_done = false } ∷ [])) →
        (AreAway at (undone (ds ++ record { channel = serving; is_done = false } ∷ [])) → AreAway at (undone ds) × (is_at at serving ≡ false)) → AreAway at (if b then undone ds else d.channel ∷ undone ds) × (is_at at serving ≡ false)
    by true away others = others away
    by false away others = let rest = others away.1 in ((away.0, rest.0), rest.1)

begins : (ts : List ServedTenure) (serving : Channel) (b : Bool) (at : Place) →
    Serves serving ts →
    b ≡ true →
    begin_next ts b at ≡ beginning at [] ∷ ts
begins [] serving b at serves is = absurd serves
begins (t ∷ old) serving b at serves is = cond-true _ _ _ is

pub complete_follows : (s : Connection) (at : Place) (change : Change) (cause : _) (offer : Option Channel) (r : Row) (before : List Message) (ts : List ServedTenure) → IsValid s → AreApart (used_channels s) → row_of s (inputs.Complete at change cause) offer ≡ Some r → IsOpen r.next.state →
    RemainsOpen (step_by (inputs.Complete at change cause) (roles_of s)) (roles_of s) s.down (inputs.Complete at change cause) offer r → Follows s before ts → Follows r.next (before ++ r.outs) (begin_next ts (performs r.outs) at)
unfolding role_target
complete_follows s at change cause offer r before ts valid apart is there on follows =
    let input : Input = inputs.Complete at change cause in
    let c = complete_is s at change cause offer r is in
    let step = completes_step s at change cause r c in
    let after : after_step (step_by input (roles_of s)) (roles_of s) ≡ record { serving = c.t.target.channel; target = None; draining = s.draining ++ record { channel = s.serving; is_done = false } ∷ [] } =
    ap (λ (k : RoleStep). after_step k (roles_of s)) step ∙ ap (λ (target : Option TargetRole). after_step completes (record (roles_of s) { target = target })) c.target in
    let two = begun_same on.begun (after_step (step_by input (roles_of s)) (roles_of s)) in
    let serving : r.next.serving ≡ c.t.target.channel = ap (λ (roles : Roles). roles.serving) on.roles ∙ two.serving ∙ ap (λ (roles : Roles). roles.serving) after in
    let draining : r.next.draining ≡ s.draining ++ record { channel = s.serving; is_done = false } ∷ [] = ap (λ (roles : Roles). roles.draining) on.roles ∙ two.draining ∙ ap (λ (roles : Roles). roles.draining) after in
    let place : at ≡ place_of c.t.target.channel = same_place at c.t.target.channel c.here in
    subst (Follows r.next (before ++ r.outs)) (sym (begins ts s.serving (performs r.outs) at follows.serves c.performed)) (record {
      serves = (refl, place ∙ ap place_of (sym serving));
      old = λ other away.
          let parts = undone_next s.draining s.serving other (subst (λ (ds : List Drain). AreAway other (undone ds)) draining away) in
          none_on s before ts other follows parts.0 parts.1;
      up = λ sapi f.
          let next : of_target f r.next.state ≡ [] =
          of_target_role f r.next.state ∙ ap (λ (roles : Roles). role_target f roles.target) on.roles
          ∙ begun_killed f on.begun (after_step (step_by input (roles_of s)) (roles_of s)) (ap (λ (roles : Roles). role_target f roles.target) after) in
          let now : of_target f s.state ≡ f at =
          of_target_role f s.state ∙ ap (role_target f) c.target ∙ cond-true _ _ _ c.commanded ∙ ap f (sym place) in
          let all : relayed sapi r.outs ++ still_of sapi f r.next.serving r.next.draining r.next.up.tenures ≡ still_of sapi f s.serving s.draining s.up.tenures ++ f at =
          ap (λ (xs : List (List ℕ)). relayed sapi r.outs ++ xs) (sym (append-nil (still_of sapi f r.next.serving r.next.draining r.next.up.tenures)) ∙ ap (λ (xs : List (List ℕ)). still_of sapi f r.next.serving r.next.draining r.next.up.tenures ++ xs) (sym next))
          ∙ keeps sapi s input offer r f valid apart tt is there
          ∙ ap (λ (g : Future). still_of sapi g s.serving s.draining s.up.tenures ++ of_target g s.state) (plain sapi f)
          ∙ ap (λ (xs : List (List ℕ)). still_of sapi f s.serving s.draining s.up.tenures ++ xs) now in
          joins sapi before r.outs (still_of sapi f r.next.serving r.next.draining r.next.up.tenures) (still_of sapi f s.serving s.draining s.up.tenures ++ f at) all
          ∙ sym (append_assoc (relayed sapi before) (still_of sapi f s.serving s.draining s.up.tenures) (f at))
          ∙ ap (λ (xs : List (List ℕ)). xs ++ f at) (follows.up sapi f)
          ∙ ap (λ (xs : List (List ℕ)). joined_with sapi f ts ++ xs) (begun sapi (f at));
    })
  where
    plain : (sapi : Sapi) (f : Future) → from_input sapi (inputs.Complete at change cause) f ≡ f
    plain Zero f = refl
    plain Three f = refl

    begun : (sapi : Sapi) (xs : List (List ℕ)) → xs ≡ of_sapi sapi (beginning at []) ++ xs
    begun Zero xs = refl
    begun Three xs = refl

-- ---- a message arrives on a channel that serves or drains

dtap_by : (o : Option ℕ) (reference : ℕ) (stage : Stage) (s : Connection) (at : Place) (of : Sapi) (message : List ℕ) (r : Row) →
    dtap_in o reference stage s at of message ≡ Some r →
    IsOpen r.next.state →
    (place : ℕ) × (o ≡ Some place)
dtap_by (Some place) reference stage s at of message r is there = (place, refl)
dtap_by None reference (Changing target) s at Zero message r is there =
    let one = if_is (is_at at target.channel) (failing (Live reference (Changing target)) s EQUIPMENT_FAILURE) r is in
    absurd (subst (λ (q : Row). IsOpen q.next.state) (sym one.1) there)
dtap_by _ reference _ s at _ message r is there = absurd cc

target_off : (s : Connection) (at : Place) (target : Option TargetRole) (place : ℕ) →
    AreApart (undone s.draining ++ s.serving ∷ target_channels target) →
    tenure_at at s.serving s.draining ≡ Some place →
    AreAway at (target_channels target)
target_off s at None place apart is = tt
target_off s at (Some t) place apart is = elim (cases_Bool (is_at at s.serving)) [
  | inl here ↦ (away_of at s.serving t.target.channel (last (undone s.draining) apart) here, tt)
  | inr other ↦ (drain_behind_away at place s.draining (s.serving ∷ t.target.channel ∷ []) (drain_at_drains at s.draining place (sym (cond-false _ _ _ other) ∙ is)) apart).1
]
  where
    last : (cs : List Channel) → AreApart (cs ++ s.serving ∷ t.target.channel ∷ []) → IsApart s.serving t.target.channel
    last [] apart = apart.0.0
    last (c ∷ cs) apart = last cs apart.1

off_by : (state : State) (s : Connection) →
    s.state ≡ state →
    (at : Place) (of : Sapi) (message : List ℕ) (r : Row) →
    AreApart (used_in (roles_of s)) →
    on_dtap state s at of message ≡ Some r →
    IsOpen r.next.state →
    AreAway at (target_channels (target_role s.state))
off_by (Live reference stage) s same at of message r apart is there =
    let found = dtap_by (tenure_at at s.serving s.draining) reference stage s at of message r is there in
    target_off s at (target_role s.state) found.0 apart found.1
off_by WaitConfirm s same at of message r apart is there = subst (λ (state : State). AreAway at (target_channels (target_role state))) (sym same) tt
off_by WaitEstablish s same at of message r apart is there = subst (λ (state : State). AreAway at (target_channels (target_role state))) (sym same) tt
off_by _ s same at of message r apart is there = absurd cc

pub dtap_off : (s : Connection) (at : Place) (of : Sapi) (message : List ℕ) (offer : Option Channel) (r : Row) →
    AreApart (used_in (roles_of s)) →
    row_of s (inputs.Dtap at of message) offer ≡ Some r →
    IsOpen r.next.state →
    AreAway at (target_channels (target_role s.state))
unfolding row_of
dtap_off s at of message offer r apart is there = off_by s.state s refl at of message r apart is there
