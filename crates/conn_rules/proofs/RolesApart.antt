-- SPDX-License-Identifier: MIT OR Apache-2.0
-- No two channels of a connection are the same, if the offer is none of them.
use Rattle.conn_rules.proofs.Prelude.{◌≡◌, ℕ, zero, suc, Bool, true, false, List, [], ◌∷◌, ◌++◌, refl, sym, ◌∙◌, ap, subst, Option, Some}
use Rattle.conn_rules.proofs.Prelude.{None, append_assoc, if◌then◌else◌, AllByRecursion, Channel, Input, Drain, Preparing, State, Live}
use Rattle.conn_rules.proofs.Prelude.{Target, Connection, unchanged, commands, completes, reverts, leaves, carries_on, ends, had_ended}
use Rattle.conn_rules.proofs.Prelude.{OfRow}
use Rattle.conn_rules.proofs.Prelude.{undone, target_in, used_channels, IsApart, AreApart}
use Rattle.conn_rules.specs.Roles.{TargetRole, Roles, target_role, roles_of, RoleStep, after_step, with_target, step_by, MayBegin, ChangesRoles, ChangesRolesBy, target_channels, IsNew, IsApartAfter}
use Rattle.conn_rules.specs.Steps.{Row, done_at}
use Rattle.conn_rules.proofs.ValidParts.{AllByRecursion-push}
use Rattle.conn_rules.proofs.RolesAccount.{undone-still_draining}

-- ---- lists of channels

all_front : {A : Type 0} (P : A → Type 0) (xs ys : List A) → AllByRecursion P (xs ++ ys) → AllByRecursion P xs
all_front P [] ys all = tt
all_front P (x ∷ xs) ys all = (all.0, all_front P xs ys all.1)

pub are_apart_front : (xs ys : List Channel) → AreApart (xs ++ ys) → AreApart xs
are_apart_front [] ys apart = tt
are_apart_front (x ∷ xs) ys apart = (all_front (IsApart x) xs ys apart.0, are_apart_front xs ys apart.1)

are_apart_push : (xs : List Channel) (c : Channel) → AreApart xs → AllByRecursion (λ x. IsApart x c) xs → AreApart (xs ++ c ∷ [])
are_apart_push [] c apart others = (tt, tt)
are_apart_push (x ∷ xs) c apart others = (AllByRecursion-push (IsApart x) xs c apart.0 others.0, are_apart_push xs c apart.1 others.1)

-- a list of channels that keeps what holds of each, and that they are apart
pub record IsPart (old new : List Channel) : Type 1 where
  pub each : (P : Channel → Type 0) → AllByRecursion P old → AllByRecursion P new
  pub apart : AreApart old → AreApart new

is_part_same : (old new : List Channel) → old ≡ new → IsPart old new
is_part_same old new same = record { each = λ P all. subst (AllByRecursion P) same all; apart = λ apart. subst AreApart same apart }

is_part_front : (xs ys : List Channel) → IsPart (xs ++ ys) xs
is_part_front xs ys = record { each = λ P all. all_front P xs ys all; apart = are_apart_front xs ys }

is_part_behind : (c : Channel) (old new : List Channel) → IsPart old new → IsPart (c ∷ old) (c ∷ new)
is_part_behind c old new part = record { each = λ P all. (all.0, part.each P all.1); apart = λ apart. (part.each (IsApart c) apart.0, part.apart apart.1) }

is_part_without : (c : Channel) (old new : List Channel) → IsPart old new → IsPart (c ∷ old) new
is_part_without c old new part = record { each = λ P all. part.each P all.1; apart = λ apart. part.apart apart.1 }

-- one is done
is_part_done_at : (place : ℕ) (ds : List Drain) (rest : List Channel) → IsPart (undone ds ++ rest) (undone (done_at place ds) ++ rest)
is_part_done_at place [] rest = is_part_same rest rest refl
is_part_done_at zero (d ∷ ds) rest = by d.is_done
  where
    by : (b : Bool) → IsPart ((if b then undone ds else d.channel ∷ undone ds) ++ rest) (undone ds ++ rest)
    by true = is_part_same (undone ds ++ rest) (undone ds ++ rest) refl
    by false = is_part_without d.channel (undone ds ++ rest) (undone ds ++ rest) (is_part_same (undone ds ++ rest) (undone ds ++ rest) refl)
is_part_done_at (suc place) (d ∷ ds) rest = by d.is_done (is_part_done_at place ds rest)
  where
    by : (b : Bool) →
        IsPart (undone ds ++ rest) (undone (done_at place ds) ++ rest) →
        IsPart ((if b then undone ds else d.channel ∷ undone ds) ++ rest) ((if b then undone (done_at place ds) else d.channel ∷ undone (done_at place ds)) ++ rest)
    by true part = part
    by false part = is_part_behind d.channel (undone ds ++ rest) (undone (done_at place ds) ++ rest) part

-- one more drains
pub undone-begins : (ds : List Drain) (serving : Channel) →
    undone (ds ++ record { channel = serving; is_done = false } ∷ []) ≡ undone ds ++ serving ∷ []
undone-begins [] serving = refl
undone-begins (d ∷ ds) serving = by d.is_done (undone-begins ds serving)
  where
    by : (b : Bool) → undone (ds ++ record { channel = serving; is_done = false } ∷ []) ≡ undone ds ++ serving ∷ [] →
        (if b then undone (ds ++ record { channel = serving; is_done = false } ∷ []) else d.channel ∷ undone (ds ++ record { channel = serving; is_done = false } ∷ [])) ≡ (if b then undone ds else d.channel ∷ undone ds) ++ serving ∷ []
    by true same = same
    by false same = ap (λ (cs : List Channel). d.channel ∷ cs) same

-- ---- the channels of roles

abbrev pub channels_of : Roles → List Channel
channels_of roles = undone roles.draining ++ roles.serving ∷ target_channels roles.target

pub target_in_role : (state : State) → target_channels (target_role state) ≡ target_in state
target_in_role (Live reference (Preparing target)) = refl
target_in_role _ = refl

pub channels_of-roles : (s : Connection) → channels_of (roles_of s) ≡ used_channels s
channels_of-roles s = ap (λ (targets : List Channel). undone s.draining ++ s.serving ∷ targets) (target_in_role s.state)

pub IsPart-step : (step : RoleStep) (roles : Roles) (target : Option TargetRole) →
    IsPart (undone roles.draining ++ roles.serving ∷ target_channels target) (channels_of (after_step step (record roles { target = target })))
IsPart-step unchanged roles target = is_part_same _ (undone roles.draining ++ roles.serving ∷ target_channels target) refl
IsPart-step commands roles None = is_part_same _ (undone roles.draining ++ roles.serving ∷ []) refl
IsPart-step commands roles (Some t) = is_part_same _ (undone roles.draining ++ roles.serving ∷ t.target.channel ∷ []) refl
IsPart-step completes roles None = is_part_same _ (undone roles.draining ++ roles.serving ∷ []) refl
IsPart-step completes roles (Some t) =
    is_part_same (undone roles.draining ++ roles.serving ∷ t.target.channel ∷ []) (undone (roles.draining ++ record { channel = roles.serving; is_done = false } ∷ []) ++ t.target.channel ∷ [])
    (sym (ap (λ (cs : List Channel). cs ++ t.target.channel ∷ []) (undone-begins roles.draining roles.serving) ∙ append_assoc (undone roles.draining) (roles.serving ∷ []) (t.target.channel ∷ [])))
IsPart-step reverts roles target =
    subst (λ (old : List Channel). IsPart old (undone roles.draining ++ roles.serving ∷ [])) (append_assoc (undone roles.draining) (roles.serving ∷ []) (target_channels target))
    (is_part_front (undone roles.draining ++ roles.serving ∷ []) (target_channels target))
IsPart-step (leaves place) roles target =
    subst (λ (cs : List Channel). IsPart (undone roles.draining ++ roles.serving ∷ target_channels target) (cs ++ roles.serving ∷ target_channels target)) (sym (undone-still_draining (done_at place roles.draining)))
    (is_part_done_at place roles.draining (roles.serving ∷ target_channels target))

pub AreApart-begin : (begun : Option Target) (input : Input) (offer : Option Channel) (roles : Roles) →
    MayBegin begun input offer roles →
    AreApart (channels_of roles) →
    IsNew offer (channels_of roles) →
    AreApart (channels_of (with_target begun roles))
AreApart-begin None input offer roles may apart new = apart
AreApart-begin (Some target) input offer roles may apart new =
    let alone : channels_of roles ≡ undone roles.draining ++ roles.serving ∷ [] = ap (λ (role : Option TargetRole). undone roles.draining ++ roles.serving ∷ target_channels role) may.2 in
    subst AreApart (append_assoc (undone roles.draining) (roles.serving ∷ []) (target.channel ∷ []))
    (are_apart_push (undone roles.draining ++ roles.serving ∷ []) target.channel (subst AreApart alone apart)
    (subst (AllByRecursion (λ x. IsApart x target.channel)) alone (subst (λ (offer : Option Channel). IsNew offer (channels_of roles)) may.1 new)))

is_new_part : (offer : Option Channel) (old new : List Channel) → IsPart old new → IsNew offer old → IsNew offer new
is_new_part None old new part is_new = tt
is_new_part (Some c) old new part is_new = part.each (λ other. IsApart other c) is_new

remains_apart_by : (s : Connection) (input : Input) (offer : Option Channel) (r : Row) →
    AreApart (used_channels s) →
    IsNew offer (used_channels s) →
    ChangesRoles s input offer r →
    IsApartAfter r
remains_apart_by s input offer r apart is_new (ends was_open shut over) = λ is_open. absurd (shut is_open)
remains_apart_by s input offer r apart is_new (had_ended was_shut shut nothing) = λ is_open. absurd (shut is_open)
remains_apart_by s input offer r apart is_new (carries_on was_open is_open on) = λ _.
    subst AreApart (ap channels_of (sym on.roles) ∙ channels_of-roles r.next)
    (AreApart-begin on.begun input offer after on.may (part.apart (subst AreApart (sym (channels_of-roles s)) apart))
    (is_new_part offer (channels_of (roles_of s)) (channels_of after) part (subst (IsNew offer) (sym (channels_of-roles s)) is_new)))
  where
    after : Roles
    after = after_step (step_by input (roles_of s)) (roles_of s)

    part : IsPart (channels_of (roles_of s)) (channels_of after)
    part = IsPart-step (step_by input (roles_of s)) (roles_of s) (target_role s.state)

pub remains_apart_row : (s : Connection) (input : Input) (offer : Option Channel) (o : Option Row) →
    AreApart (used_channels s) →
    IsNew offer (used_channels s) →
    ChangesRolesBy s input offer o →
    OfRow IsApartAfter o
remains_apart_row s input offer (Some r) apart is_new changes = remains_apart_by s input offer r apart is_new changes
remains_apart_row s input offer None apart is_new none = tt
