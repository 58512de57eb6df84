-- SPDX-License-Identifier: MIT OR Apache-2.0
-- The channels that a connection uses after a row: those that it used, and one that it awaits.
use Rattle.world_laws.proofs.Prelude.{◌≡◌, ℕ, zero, suc, Bool, true, false, if◌then◌else◌, List, [], ◌∷◌, ◌++◌, Option, Some, None, refl}
use Rattle.world_laws.proofs.Prelude.{sym, ap, subst, AllByRecursion, Channel, Input, Drain, Preparing, Changing, State}
use Rattle.world_laws.proofs.Prelude.{Live, Target, Connection, ChangesRoles}
use Rattle.world_laws.proofs.Prelude.{ChangesRolesBy, RoleStep, Roles, TargetRole, after_step, completed, commanded, roles_of, step_by}
use Rattle.world_laws.proofs.Prelude.{target_channels, target_role, with_target, carries_on, ends, had_ended, IsValid, Row, done_at, IsOpen}
use Rattle.world_laws.proofs.Prelude.{undone, used_channels, target_in_role, changes_roles_row, same_Some, AllByRecursion-append}
use Rattle.world_laws.proofs.Prelude.{still_draining, it_is_unchanged, it_commands, it_completes, it_reverts, it_leaves, row_of, used_in}
use Rattle.world_laws.proofs.Prelude.{awaited_in}
use Rattle.world_laws.proofs.Framing.{all_left, all_right}

module _ (P : Channel → Type 0) where
  -- ---- old channels

  undone_done : (place : ℕ) (ds : List Drain) → AllByRecursion P (undone ds) → AllByRecursion P (undone (done_at place ds))
  undone_done place [] all = tt
  undone_done zero (d ∷ ds) all = by d.is_done all where
    by : (b : Bool) → AllByRecursion P (if b then undone ds else d.channel ∷ undone ds) → AllByRecursion P (undone ds)
    by true all = all
    by false all = all.1
  undone_done (suc place) (d ∷ ds) all = by d.is_done all (undone_done place ds) where
    by : (b : Bool) →
        AllByRecursion P (if b then undone ds else d.channel ∷ undone ds) →
        (AllByRecursion P (undone ds) → AllByRecursion P (undone (done_at place ds))) →
        AllByRecursion P (if b then undone (done_at place ds) else d.channel ∷ undone (done_at place ds))
    by true all others = others all
    by false all others = (all.0, others all.1)

  undone_still : (ds : List Drain) → AllByRecursion P (undone ds) → AllByRecursion P (undone (still_draining ds))
  undone_still [] all = tt
  undone_still (d ∷ ds) all = by d.is_done refl all (undone_still ds) where
    by : (b : Bool) →
        d.is_done ≡ b →
        AllByRecursion P (if b then undone ds else d.channel ∷ undone ds) →
        (AllByRecursion P (undone ds) → AllByRecursion P (undone (still_draining ds))) →
        AllByRecursion P (undone (if b then still_draining ds else d ∷ ds))
    by true is all others = others all
    by false is all others = subst (λ (b : Bool). AllByRecursion P (if b then undone ds else d.channel ∷ undone ds)) (sym is) all

  undone_more : (ds : List Drain) (c : Channel) →
      AllByRecursion P (undone ds) →
      P c →
      AllByRecursion P (undone (ds ++ record { channel = c; is_done = false } ∷ []))
  undone_more [] c all own = (own, tt)
  undone_more (d ∷ ds) c all own = by d.is_done all (undone_more ds c) where
    by : (b : Bool) →
        AllByRecursion P (if b then undone ds else d.channel ∷ undone ds) →
        (AllByRecursion P (undone ds) → P c → AllByRecursion P (undone (ds ++ record { channel = c; is_done = false } ∷ []))) →
        AllByRecursion P (if b then undone (ds ++ record { channel = c; is_done = false } ∷ []) else d.channel ∷ undone (ds ++ record { channel = c; is_done = false } ∷ []))
    by true all others = others all own
    by false all others = (all.0, others all.1 own)

  -- ---- steps

  step_uses : (step : RoleStep) (roles : Roles) → AllByRecursion P (used_in roles) → AllByRecursion P (used_in (after_step step roles))
  step_uses it_is_unchanged roles all = all
  step_uses it_commands roles all = by roles.target (all_left P (undone roles.draining) (roles.serving ∷ target_channels roles.target) all) (all_right P (undone roles.draining) (roles.serving ∷ target_channels roles.target) all) where
    by : (o : Option TargetRole) →
        AllByRecursion P (undone roles.draining) →
        AllByRecursion P (roles.serving ∷ target_channels o) →
        AllByRecursion P (undone roles.draining ++ roles.serving ∷ target_channels (commanded o))
    by None old others = AllByRecursion-append P (undone roles.draining) (roles.serving ∷ []) old others
    by (Some t) old others = AllByRecursion-append P (undone roles.draining) (roles.serving ∷ t.target.channel ∷ []) old others
  step_uses it_completes roles all = by roles.target (all_left P (undone roles.draining) (roles.serving ∷ target_channels roles.target) all) (all_right P (undone roles.draining) (roles.serving ∷ target_channels roles.target) all) all where
    by : (o : Option TargetRole) →
        AllByRecursion P (undone roles.draining) →
        AllByRecursion P (roles.serving ∷ target_channels o) →
        AllByRecursion P (used_in roles) →
        AllByRecursion P (used_in (completed o roles))
    by None old others all = all
    by (Some t) old others all = AllByRecursion-append P (undone (roles.draining ++ record { channel = roles.serving; is_done = false } ∷ [])) (t.target.channel ∷ []) (undone_more roles.draining roles.serving old others.0) (others.1.0, tt)
  step_uses it_reverts roles all =
      AllByRecursion-append P (undone roles.draining) (roles.serving ∷ []) (all_left P (undone roles.draining) (roles.serving ∷ target_channels roles.target) all) ((all_right P (undone roles.draining) (roles.serving ∷ target_channels roles.target) all).0, tt)
  step_uses (it_leaves place) roles all =
      AllByRecursion-append P (undone (still_draining (done_at place roles.draining))) (roles.serving ∷ target_channels roles.target)
      (undone_still (done_at place roles.draining) (undone_done place roles.draining (all_left P (undone roles.draining) (roles.serving ∷ target_channels roles.target) all)))
      (all_right P (undone roles.draining) (roles.serving ∷ target_channels roles.target) all)

  -- a change that begins
  awaited : (state : State) (t : Target) →
      target_role state ≡ Some (record { target = t; is_commanded = false }) →
      AllByRecursion P (awaited_in state) →
      P t.channel
  awaited (Live reference (Preparing target)) t is all = subst (λ (x : TargetRole). P x.target.channel) (same_Some _ _ is) all.0
  awaited (Live reference (Changing target)) t is all = absurd (let both : true ≡ false = ap (λ (x : TargetRole). x.is_commanded) (same_Some _ _ is) in cc)
  awaited _ t is all = absurd cc

  begin_uses : (begun : Option Target) (old : Roles) (next : Connection) →
      roles_of next ≡ with_target begun old →
      AllByRecursion P (used_in old) →
      AllByRecursion P (awaited_in next.state) →
      AllByRecursion P (used_in (roles_of next))
  begin_uses None old next is all new = subst (λ (r : Roles). AllByRecursion P (used_in r)) (sym is) all
  begin_uses (Some t) old next is all new =
      subst (λ (r : Roles). AllByRecursion P (used_in r)) (sym is)
      (AllByRecursion-append P (undone old.draining) (old.serving ∷ t.channel ∷ []) (all_left P (undone old.draining) (old.serving ∷ target_channels old.target) all)
      ((all_right P (undone old.draining) (old.serving ∷ target_channels old.target) all).0, (awaited next.state t (ap (λ (r : Roles). r.target) is) new, tt)))

  of_roles : (s : Connection) → AllByRecursion P (used_in (roles_of s)) → AllByRecursion P (used_channels s)
  of_roles s all = subst (λ (cs : List Channel). AllByRecursion P (undone s.draining ++ s.serving ∷ cs)) (target_in_role s.state) all

  to_roles : (s : Connection) → AllByRecursion P (used_channels s) → AllByRecursion P (used_in (roles_of s))
  to_roles s all = subst (λ (cs : List Channel). AllByRecursion P (undone s.draining ++ s.serving ∷ cs)) (sym (target_in_role s.state)) all

  changed_uses : (s : Connection) (input : Input) (offer : Option Channel) (r : Row) →
      ChangesRoles s input offer r →
      IsOpen r.next.state →
      AllByRecursion P (used_channels s) →
      AllByRecursion P (awaited_in r.next.state) →
      AllByRecursion P (used_channels r.next)
  changed_uses s input offer r (carries_on was is on) remains_open all new = of_roles r.next (begin_uses on.begun (after_step (step_by input (roles_of s)) (roles_of s)) r.next on.roles (step_uses (step_by input (roles_of s)) (roles_of s) (to_roles s all)) new)
  changed_uses s input offer r (ends was shut over) remains_open all new = absurd (shut remains_open)
  changed_uses s input offer r (had_ended was shut nothing) remains_open all new = absurd (shut remains_open)

  pub row_uses : (s : Connection) (input : Input) (offer : Option Channel) (r : Row) →
      IsValid s →
      row_of s input offer ≡ Some r →
      IsOpen r.next.state →
      AllByRecursion P (used_channels s) →
      AllByRecursion P (awaited_in r.next.state) →
      AllByRecursion P (used_channels r.next)
  row_uses s input offer r valid fits remains_open all new = changed_uses s input offer r (subst (ChangesRolesBy s input offer) fits (changes_roles_row s input offer valid)) remains_open all new
