-- SPDX-License-Identifier: MIT OR Apache-2.0
-- What a step of the controller does to the target of one connection.
use Rattle.world_laws.proofs.Prelude.{◌≡◌, ℕ, ◌&&◌, not, Bool, true, false, if◌then◌else◌, List, [], ◌∷◌, ◌++◌, Option, Some, None, refl}
use Rattle.world_laws.proofs.Prelude.{sym, ap, ◌∙◌, subst, and_parts, Change, Channel, Place, Message, change_activation}
use Rattle.world_laws.proofs.Prelude.{changes_roles_row, Input, Target, Connection, drain_at, ChangesRoles, ChangesRolesBy, RemainsOpen}
use Rattle.world_laws.proofs.Prelude.{RoleStep, Roles, TargetRole, after_step, awaits_at, begin_orders, changes_by, completed}
use Rattle.world_laws.proofs.Prelude.{is_target_at, leaves_at, orders, roles_of, step_by, step_orders, target_role, with_target, carries_on}
use Rattle.world_laws.proofs.Prelude.{ends, had_ended, unchanged, commands, completes, reverts, leaves, IsValid, Row, IsOpen, Acts}
use Rattle.world_laws.proofs.Prelude.{Brought}
use Rattle.world_laws.proofs.Prelude.{FitsNone, IsBrought, rests, ages, opens, takes_row, aged_holds, pass_valid, changes_of, same_Some}
use Rattle.world_laws.proofs.Prelude.{commanded_role, RrCause, of_frame}
use Rattle.conn_rules.specs.declared.input.Input.TheVariants as inputs
use Rattle.controller_model.specs.LifeLaws.Acts.Brought.{passes}
use Rattle.world_laws.proofs.Channels.BegunRun.{kept_some}

abbrev pub role : Target → Bool → TargetRole
role t is_commanded = record { target = t; is_commanded = is_commanded }

-- COMPLETE of this target is what was brought
abbrev pub IsComplete : Brought → Option TargetRole → Type 0
IsComplete brought target = (at : Place) × (change : Change) × (cause : RrCause) × (brought ≡ of_frame (inputs.Complete at change cause)) × (is_target_at at target && changes_by change target ≡ true)

pub data RoleMoves (s s2 : Connection) (brought : Brought) (put : List Message) : Type 0 where
  keeps : target_role s2.state ≡ target_role s.state → (IsComplete brought (target_role s.state) → ⊥) → RoleMoves s s2 brought put
  commanded : (t : Target) →
      target_role s.state ≡ Some (role t false) →
      target_role s2.state ≡ Some (role t true) →
      RoleMoves s s2 brought put
  idle : target_role s2.state ≡ None → RoleMoves s s2 brought put
  begins : (t : Target) (firsts : List Message) →
      target_role s2.state ≡ Some (role t false) →
      orders put ≡ firsts ++ change_activation t.change t.channel ∷ [] →
      RoleMoves s s2 brought put

-- COMPLETE ends the change
complete_step : (at : Place) (change : Change) (cause : RrCause) (roles : Roles) →
    is_target_at at roles.target && changes_by change roles.target ≡ true →
    step_by (inputs.Complete at change cause) roles ≡ completes
complete_step at change cause roles hit = ap (λ (b : Bool). if b then completes else unchanged) hit

-- the mobile is commanded to a target that was prepared
not_true : (b : Bool) → not b ≡ true → b ≡ false
not_true false is = refl
not_true true is = absurd cc

commands_of : (input : Input) (roles : Roles) → step_by input roles ≡ commands → (t : Target) × (roles.target ≡ Some (role t false))
commands_of (inputs.ActivationAck at) roles is = by roles.target refl is where
  by : (o : Option TargetRole) →
      roles.target ≡ o →
      (if awaits_at at o then commands else unchanged) ≡ commands →
      (t : Target) × (roles.target ≡ Some (role t false))
  by None target same = absurd cc
  by (Some t) target same = (t.target, target ∙ ap (λ (b : Bool). Some (role t.target b)) (inner (awaits_at at (Some t)) refl same)) where
    inner : (b : Bool) → awaits_at at (Some t) ≡ b → (if b then commands else unchanged) ≡ commands → t.is_commanded ≡ false
    inner true waits hit = not_true t.is_commanded (and_parts (not t.is_commanded) _ waits).0
    inner false waits hit = absurd cc
commands_of (inputs.ActivationNack at) roles is = by (awaits_at at roles.target) is where
  by : (b : Bool) → (if b then reverts else unchanged) ≡ commands → (t : Target) × (roles.target ≡ Some (role t false))
  by true same = absurd cc
  by false same = absurd cc
commands_of (inputs.Complete at change cause) roles is = by (is_target_at at roles.target && changes_by change roles.target) is where
  by : (b : Bool) → (if b then completes else unchanged) ≡ commands → (t : Target) × (roles.target ≡ Some (role t false))
  by true same = absurd cc
  by false same = absurd cc
commands_of (inputs.Failure at change cause) roles is = by _ is where
  by : (b : Bool) → (if b then reverts else unchanged) ≡ commands → (t : Target) × (roles.target ≡ Some (role t false))
  by true same = absurd cc
  by false same = absurd cc
commands_of (inputs.ReleaseAck at) roles is = by (drain_at at roles.draining) is where
  by : (o : Option ℕ) → leaves_at o ≡ commands → (t : Target) × (roles.target ≡ Some (role t false))
  by (Some place) same = absurd cc
  by None same = absurd cc
commands_of _ roles is = absurd cc

completed-none : (o : Option TargetRole) (roles : Roles) → roles.target ≡ o → (completed o roles).target ≡ None
completed-none (Some t) roles is = refl
completed-none None roles is = is

-- ---- a row

row_keeps_uses : (s x s2 : Connection) (input : Input) (brought : Brought) (offer : Option Channel) (r : Row) (put : List Message) →
    roles_of x ≡ roles_of s →
    r.next ≡ s2 →
    IsBrought brought input →
    put ≡ r.outs →
    RemainsOpen (step_by input (roles_of x)) (roles_of x) x.down input offer r →
    RoleMoves s s2 brought put
row_keeps_uses s x s2 input brought offer r put same next brought_is put_is on = by on.begun on.roles on.ordered where
  old : (roles_of x).target ≡ target_role s.state
  old = ap (λ (roles : Roles). roles.target) same

  now : (roles : Roles) → roles_of r.next ≡ roles → target_role s2.state ≡ roles.target
  now roles is = ap (λ (y : Connection). target_role y.state) (sym next) ∙ ap (λ (y : Roles). y.target) is

  -- no COMPLETE was brought where another step is done
  no_complete : (step : RoleStep) →
      step_by input (roles_of x) ≡ step →
      (completes ≡ step → ⊥) →
      IsComplete brought (target_role s.state) →
      ⊥
  no_complete step is other (at, change, cause, arrival, hit) =
      let says : input ≡ inputs.Complete at change cause = subst (λ (b : Brought). IsBrought b input) arrival brought_is in
      other (sym (complete_step at change cause (roles_of x) (ap (λ (o : Option TargetRole). is_target_at at o && changes_by change o) old ∙ hit)) ∙ ap (λ (i : Input). step_by i (roles_of x)) (sym says) ∙ is)

  by_step : (step : RoleStep) →
      step_by input (roles_of x) ≡ step →
      roles_of r.next ≡ after_step step (roles_of x) →
      RoleMoves s s2 brought put
  by_step unchanged is roles = keeps (now (roles_of x) roles ∙ old) (no_complete unchanged is (λ e. absurd cc))
  by_step (leaves place) is roles = keeps (now (after_step (leaves place) (roles_of x)) roles ∙ old) (no_complete (leaves place) is (λ e. absurd cc))
  by_step commands is roles =
      let waits = commands_of input (roles_of x) is in
      commanded waits.0 (sym old ∙ waits.1) (now (after_step commands (roles_of x)) roles ∙ ap commanded_role waits.1)
  by_step completes is roles = idle (now (after_step completes (roles_of x)) roles ∙ completed-none (roles_of x).target (roles_of x) refl)
  by_step reverts is roles = idle (now (after_step reverts (roles_of x)) roles)

  by : (begun : Option Target) →
      roles_of r.next ≡ with_target begun (after_step (step_by input (roles_of x)) (roles_of x)) →
      orders r.outs ≡ step_orders (step_by input (roles_of x)) (roles_of x) ++ begin_orders begun →
      RoleMoves s s2 brought put
  by None roles ordered = by_step (step_by input (roles_of x)) refl roles
  by (Some t) roles ordered = begins t (step_orders (step_by input (roles_of x)) (roles_of x)) (now (with_target (Some t) (after_step (step_by input (roles_of x)) (roles_of x))) roles) (ap orders put_is ∙ ordered)

-- ---- a step

pub acts_role : (number next : ℕ) (up : Bool) (brought : Brought) (before : Option Connection) (put : List Message) (after : Option Connection) (s s2 : Connection) →
    Acts number next up brought before put after →
    before ≡ Some s →
    after ≡ Some s2 →
    IsValid s →
    IsOpen s.state →
    IsOpen s2.state →
    RoleMoves s s2 brought put
acts_role number next up brought before put after s s2 (rests nothing same fits) was is valid is_open open_then = keeps (ap (λ (y : Connection). target_role y.state) (same_Some _ _ (sym is ∙ same ∙ was))) none where
  none : IsComplete brought (target_role s.state) → ⊥
  none (at, change, cause, arrival, hit) =
      let misses = subst (λ (o : Option Connection). FitsNone (of_frame (inputs.Complete at change cause)) o) was (subst (λ (b : Brought). FitsNone b before) arrival fits) in
      let remains_so : step_by (inputs.Complete at change cause) (roles_of s) ≡ unchanged = subst (ChangesRolesBy s (inputs.Complete at change cause) misses.0) misses.1 (changes_roles_row s (inputs.Complete at change cause) misses.0 valid) in
      let both : completes ≡ unchanged = sym (complete_step at change cause (roles_of s) hit) ∙ remains_so in
      absurd cc
acts_role number next up brought before put after s s2 (ages old x passing had aged nothing now) was is valid is_open open_then =
    keeps (ap (λ (y : Connection). target_role y.state) (same_Some _ _ (sym is ∙ now)) ∙ ap target_role (aged_holds (λ y. y.state ≡ old.state) (λ ms y h. h) old x aged refl) ∙ ap (λ (y : Connection). target_role y.state) (same_Some _ _ (sym had ∙ was))) none where
      none : IsComplete brought (target_role s.state) → ⊥
      none (at, change, cause, arrival, hit) = let both : of_frame (inputs.Complete at change cause) ≡ passes = sym arrival
          ∙ passing in absurd cc
acts_role number next up brought before put after s s2 (opens here link channel request delay nothing none said now) was is valid is_open open_then = absurd (let both : None ≡ Some s = sym none ∙ was in cc)
acts_role number next up brought before put after s s2 (takes_row old x input offer r had aged arrival fits said now) was is valid is_open open_then =
    by (changes_of x input offer r (aged_holds IsValid pass_valid old x aged (subst IsValid (sym own) valid)) fits) where
      own : old ≡ s
      own = same_Some _ _ (sym had ∙ was)

      ended : r.next ≡ s2
      ended = kept_some r.next.state r.next s2 (sym now ∙ is)

      same_state : x.state ≡ s.state
      same_state = aged_holds (λ y. y.state ≡ old.state) (λ ms y h. h) old x aged refl ∙ ap (λ (y : Connection). y.state) own

      same_roles : roles_of x ≡ roles_of s
      same_roles = aged_holds (λ y. roles_of y ≡ roles_of old) (λ ms y h. h) old x aged refl ∙ ap roles_of own

      by : ChangesRoles x input offer r → RoleMoves s s2 brought put
      by (carries_on open_x open_r on) = row_keeps_uses s x s2 input brought offer r put same_roles ended arrival said on
      by (ends open_x closed e) = absurd (closed (subst (λ (y : Connection). IsOpen y.state) (sym ended) open_then))
      by (had_ended closed then_closed nothing) = absurd (closed (subst IsOpen (sym same_state) is_open))
