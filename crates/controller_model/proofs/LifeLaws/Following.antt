-- SPDX-License-Identifier: MIT OR Apache-2.0
-- The messages relayed follow the tenures, row by row.
use Rattle.controller_model.proofs.Prelude.{◌≡◌, ℕ, ◌==◌, ◌&&◌, Bool, true, false, not, if◌then◌else◌, List, [], ◌∷◌, ◌++◌, Option, Some}
use Rattle.controller_model.proofs.Prelude.{None, refl, sym, subst, ap, ◌∙◌, append_assoc, append-nil, cond-true, eq-eqb, flat_map-append}
use Rattle.controller_model.proofs.Prelude.{Channel, Place, Message, AreAway, Input, Drain, Preparing, Changing, State, Live, Target}
use Rattle.controller_model.proofs.Prelude.{Connection, is_at, TargetRole, Roles, RoleStep, RemainsOpen, after_step, awaits_at, changes_by}
use Rattle.controller_model.proofs.Prelude.{roles_of, step_by, target_channels, target_role, with_target, unchanged, commands, completes}
use Rattle.controller_model.proofs.Prelude.{reverts, leaves, IsValid, Row, AreApart, Future, IsApart, IsOpen, OfRow, from_input, of_target}
use Rattle.controller_model.proofs.Prelude.{relayed, still_of, undone, used_channels, Sapi, Zero, Three, HeldTenure, all_behind}
use Rattle.controller_model.proofs.Prelude.{away_of_other, Ends, KeepsUplink, of_prepared, on_channel, relayed_by, row_of, used_in}
use Rattle.controller_model.proofs.Prelude.{ServedTenure}
use Rattle.controller_model.proofs.Prelude.{is_on, is_same, place_of}
use Rattle.conn_rules.proofs.UplinkTable.{row_keeps}
use Rattle.conn_rules.specs.declared.input.Input.TheVariants as inputs
use Rattle.controller_model.proofs.LifeLaws.Tenures.{NoneOn, clear, joined_clear, joined_with, same_false, still_clear}

-- ---- a connection that serves, and its tenures

abbrev pub Serves : Channel → List ServedTenure → Type 0
Serves serving [] = ⊥
Serves serving (t ∷ old) = (t.is_over ≡ false) × (t.place ≡ place_of serving)

abbrev pub older : List ServedTenure → List ServedTenure
older [] = []
older (t ∷ old) = old

-- The youngest tenure is that of the serving channel; older ones that aren't over are on old
-- channels; and what was relayed, then what is still to be relayed, is what arrived, then what may
-- still arrive.
pub record Follows (s : Connection) (put : List Message) (ts : List ServedTenure) : Type 0 where
  pub serves : Serves s.serving ts
  pub old : (at : Place) → AreAway at (undone s.draining) → NoneOn at (older ts)
  pub up : (sapi : Sapi) (f : Future) → relayed sapi put ++ still_of sapi f s.serving s.draining s.up.tenures ≡ joined_with sapi f ts

pub serving_off : (at : Place) (serving : Channel) (t : ServedTenure) →
    t.is_over ≡ false →
    t.place ≡ place_of serving →
    is_at at serving ≡ false →
    is_on at t ≡ false
serving_off at serving t is place away = ap (λ (b : Bool). not b && is_same t.place at) is ∙ ap (λ (p : Place). is_same p at) place ∙ same_false at serving away

pub none_on : (s : Connection) (put : List Message) (ts : List ServedTenure) (at : Place) →
    Follows s put ts →
    AreAway at (undone s.draining) →
    is_at at s.serving ≡ false →
    NoneOn at ts
none_on s put [] at follows away here = tt
none_on s put (t ∷ old) at follows away here = (serving_off at s.serving t follows.serves.0 follows.serves.1 here, follows.old at away)

-- ---- the target's future

unfoldable pub role_target : Future → Option TargetRole → List (List ℕ)
role_target f None = []
role_target f (Some t) = if t.is_commanded then on_channel f t.target.channel else []

pub of_target_role : (f : Future) (state : State) → of_target f state ≡ role_target f (target_role state)
unfolding role_target
of_target_role f (Live reference (Changing target)) = refl
of_target_role f _ = refl

-- nothing arrives on the target
unfoldable pub Killed : Future → Option TargetRole → Type 0
Killed f None = Unit {0}
Killed f (Some t) = on_channel f t.target.channel ≡ []

killed_none : (f : Future) (b : Bool) (xs : List (List ℕ)) → xs ≡ [] → (if b then xs else []) ≡ []
killed_none f true xs is = is
killed_none f false xs is = refl

pub role_killed : (f : Future) (target : Option TargetRole) → Killed f target → role_target f target ≡ []
unfolding role_target Killed
role_killed f None killed = refl
role_killed f (Some t) killed = killed_none f t.is_commanded (on_channel f t.target.channel) killed

pub step_killed : (f : Future) (step : RoleStep) (roles : Roles) (target : Option TargetRole) →
    Killed f target →
    role_target f (after_step step (record roles { target = target })).target ≡ []
unfolding role_target Killed
step_killed f unchanged roles target killed = role_killed f target killed
step_killed f commands roles None killed = refl
step_killed f commands roles (Some t) killed = killed
step_killed f completes roles None killed = refl
step_killed f completes roles (Some t) killed = refl
step_killed f reverts roles target killed = refl
step_killed f (leaves place) roles target killed = role_killed f target killed

pub begun_killed : (f : Future) (begun : Option Target) (roles : Roles) →
    role_target f roles.target ≡ [] →
    role_target f (with_target begun roles).target ≡ []
unfolding role_target
begun_killed f None roles is = is
begun_killed f (Some target) roles is = refl

-- without the target's
abbrev pub kill : Option TargetRole → Future → Future
kill None f = f
kill (Some t) f = clear (place_of t.target.channel) f

pub same_true : (p : Place) → is_same p p ≡ true
same_true p = ap (λ (b : Bool). b && (p.number == p.number)) (eq-eqb p.station p.station refl) ∙ eq-eqb p.number p.number refl

pub kill_kills : (target : Option TargetRole) (f : Future) → Killed (kill target f) target
unfolding Killed
kill_kills None f = tt
kill_kills (Some t) f = cond-true _ _ _ (same_true (place_of t.target.channel))

prepared_killed : (f : Future) (state : State) → Killed f (target_role state) → of_prepared f state ≡ []
unfolding Killed
prepared_killed f (Live reference (Preparing target)) killed = killed
prepared_killed f _ killed = refl

-- ---- a row, where nothing arrives on the target any more

pub keeps : (sapi : Sapi) (s : Connection) (input : Input) (offer : Option Channel) (r : Row) (f : Future) → IsValid s → AreApart (used_channels s) → Ends f s.state input → row_of s input offer ≡ Some r → IsOpen r.next.state →
    relayed sapi r.outs ++ (still_of sapi f r.next.serving r.next.draining r.next.up.tenures ++ of_target f r.next.state) ≡ still_of sapi (from_input sapi input f) s.serving s.draining s.up.tenures ++ of_target (from_input sapi input f) s.state
keeps sapi s input offer r f valid apart ends is there = subst (OfRow (KeepsUplink sapi f s input)) is (row_keeps s input offer sapi f valid apart ends) there

pub quiet_keeps : (sapi : Sapi) (s : Connection) (input : Input) (offer : Option Channel) (r : Row) (f : Future) → IsValid s → AreApart (used_channels s) → Ends f s.state input → row_of s input offer ≡ Some r → IsOpen r.next.state → RemainsOpen (step_by input (roles_of s)) (roles_of s) s.down input offer r → from_input sapi input f ≡ f → Killed f (target_role s.state) →
    relayed sapi r.outs ++ still_of sapi f r.next.serving r.next.draining r.next.up.tenures ≡ still_of sapi f s.serving s.draining s.up.tenures
quiet_keeps sapi s input offer r f valid apart ends is there on same killed =
    let next : of_target f r.next.state ≡ [] =
    of_target_role f r.next.state ∙ ap (λ (roles : Roles). role_target f roles.target) on.roles
    ∙ begun_killed f on.begun (after_step (step_by input (roles_of s)) (roles_of s)) (step_killed f (step_by input (roles_of s)) (roles_of s) (target_role s.state) killed) in
    let now : of_target f s.state ≡ [] = of_target_role f s.state ∙ role_killed f (target_role s.state) killed in
    ap (λ (xs : List (List ℕ)). relayed sapi r.outs ++ xs) (sym (append-nil (still_of sapi f r.next.serving r.next.draining r.next.up.tenures)) ∙ ap (λ (xs : List (List ℕ)). still_of sapi f r.next.serving r.next.draining r.next.up.tenures ++ xs) (sym next))
    ∙ keeps sapi s input offer r f valid apart ends is there
    ∙ ap (λ (g : Future). still_of sapi g s.serving s.draining s.up.tenures ++ of_target g s.state) same
    ∙ ap (λ (xs : List (List ℕ)). still_of sapi f s.serving s.draining s.up.tenures ++ xs) now
    ∙ append-nil (still_of sapi f s.serving s.draining s.up.tenures)

-- ---- inputs that bring nothing and end nothing

abbrev pub IsPlain : Input → Type 0
IsPlain (inputs.Dtap at sapi message) = ⊥
IsPlain (inputs.Complete at change cause) = ⊥
IsPlain (inputs.ReleaseAck at) = ⊥
IsPlain (inputs.EstablishIndication at Zero message) = ⊥
IsPlain _ = Unit {0}

plain_future : (sapi : Sapi) (input : Input) (f : Future) → IsPlain input → from_input sapi input f ≡ f
plain_future sapi (inputs.Dtap at of message) f plain = absurd plain
plain_future sapi (inputs.EstablishIndication at Zero message) f plain = absurd plain
plain_future Zero (inputs.EstablishIndication at Three message) f plain = refl
plain_future Three (inputs.EstablishIndication at Three message) f plain = refl
plain_future Zero _ f plain = refl
plain_future Three _ f plain = refl

plain_ends : (input : Input) (f : Future) (state : State) → IsPlain input → Killed f (target_role state) → Ends f state input
plain_ends (inputs.ReleaseAck at) f state plain killed = absurd plain
plain_ends (inputs.Failure at change cause) f state plain killed = of_target_role f state ∙ role_killed f (target_role state) killed
plain_ends (inputs.ActivationAck at) f state plain killed = prepared_killed f state killed
plain_ends _ f state plain killed = tt

-- the serving channel and the old ones are unchanged
pub record SameChannels (before after : Roles) : Type 0 where
  pub serving : after.serving ≡ before.serving
  pub draining : after.draining ≡ before.draining

pub if_same : (b : Bool) (one other : RoleStep) (roles : Roles) →
    SameChannels roles (after_step one roles) →
    SameChannels roles (after_step other roles) →
    SameChannels roles (after_step (if b then one else other) roles)
if_same true one other roles h k = h
if_same false one other roles h k = k

plain_same : (input : Input) (roles : Roles) → IsPlain input → SameChannels roles (after_step (step_by input roles) roles)
plain_same (inputs.ActivationAck at) roles plain = if_same (awaits_at at roles.target) commands unchanged roles (record { serving = refl; draining = refl }) (record { serving = refl; draining = refl })
plain_same (inputs.ActivationNack at) roles plain = if_same (awaits_at at roles.target) reverts unchanged roles (record { serving = refl; draining = refl }) (record { serving = refl; draining = refl })
plain_same (inputs.Failure at change cause) roles plain = if_same (is_at at roles.serving && changes_by change roles.target) reverts unchanged roles (record { serving = refl; draining = refl }) (record { serving = refl; draining = refl })
plain_same (inputs.Complete at change cause) roles plain = absurd plain
plain_same (inputs.ReleaseAck at) roles plain = absurd plain
plain_same _ roles plain = record { serving = refl; draining = refl }

pub begun_same : (begun : Option Target) (roles : Roles) → SameChannels roles (with_target begun roles)
begun_same None roles = record { serving = refl; draining = refl }
begun_same (Some target) roles = record { serving = refl; draining = refl }

-- the target is none of the others
pub target_away : (s : Connection) (target : Option TargetRole) →
    AreApart (undone s.draining ++ s.serving ∷ target_channels target) →
    (t : TargetRole) →
    target ≡ Some t →
    AreAway (place_of t.target.channel) (undone s.draining) × (is_at (place_of t.target.channel) s.serving ≡ false)
target_away s None apart t is = absurd cc
target_away s (Some u) apart t is =
    let same : u ≡ t = of is in
    subst (λ (v : TargetRole). AreAway (place_of v.target.channel) (undone s.draining) × (is_at (place_of v.target.channel) s.serving ≡ false)) same
    (old (undone s.draining) apart, last (undone s.draining) apart)
  where
    of : (let o : Option TargetRole = Some u in o) ≡ Some t → u ≡ t
    of is = cc

    turned : (c : Channel) → IsApart c u.target.channel → is_at (place_of u.target.channel) c ≡ false
    turned c apart = away_of_other (place_of u.target.channel) c u.target.channel apart (same_true (place_of u.target.channel))

    old : (cs : List Channel) → AreApart (cs ++ s.serving ∷ u.target.channel ∷ []) → AreAway (place_of u.target.channel) cs
    old [] apart = tt
    old (c ∷ cs) apart = (turned c (all_behind (IsApart c) cs (s.serving ∷ u.target.channel ∷ []) apart.0).1.0, old cs apart.1)

    last : (cs : List Channel) → AreApart (cs ++ s.serving ∷ u.target.channel ∷ []) → is_at (place_of u.target.channel) s.serving ≡ false
    last [] apart = turned s.serving apart.0.0
    last (c ∷ cs) apart = last cs apart.1

pub still_kill : (sapi : Sapi) (f : Future) (s : Connection) (target : Option TargetRole) (serving : Channel) (ds : List Drain) (ts : List HeldTenure) →
    AreApart (undone s.draining ++ s.serving ∷ target_channels target) →
    serving ≡ s.serving →
    ((at : Place) → AreAway at (undone s.draining) → AreAway at (undone ds)) →
    still_of sapi (kill target f) serving ds ts ≡ still_of sapi f serving ds ts
still_kill sapi f s None serving ds ts apart same less = refl
still_kill sapi f s (Some t) serving ds ts apart same less =
    let away = target_away s (Some t) apart t refl in
    still_clear sapi (place_of t.target.channel) f serving ds ts (less (place_of t.target.channel) away.0) (ap (is_at (place_of t.target.channel)) same ∙ away.1)

pub joined_kill : (sapi : Sapi) (f : Future) (s : Connection) (put : List Message) (ts : List ServedTenure) (target : Option TargetRole) →
    AreApart (undone s.draining ++ s.serving ∷ target_channels target) →
    Follows s put ts →
    joined_with sapi (kill target f) ts ≡ joined_with sapi f ts
joined_kill sapi f s put ts None apart follows = refl
joined_kill sapi f s put ts (Some t) apart follows =
    let away = target_away s (Some t) apart t refl in
    joined_clear sapi (place_of t.target.channel) f ts (none_on s put ts (place_of t.target.channel) follows away.0 away.1)

pub relayed_append : (sapi : Sapi) (xs ys : List Message) → relayed sapi (xs ++ ys) ≡ relayed sapi xs ++ relayed sapi ys
relayed_append sapi xs ys = flat_map-append (relayed_by sapi) xs ys

-- what was relayed before, then by the row
pub joins : (sapi : Sapi) (before put : List Message) (next now : List (List ℕ)) →
    relayed sapi put ++ next ≡ now →
    relayed sapi (before ++ put) ++ next ≡ relayed sapi before ++ now
joins sapi before put next now is = ap (λ (xs : List (List ℕ)). xs ++ next) (relayed_append sapi before put) ∙ append_assoc (relayed sapi before) (relayed sapi put) next ∙ ap (λ (xs : List (List ℕ)). relayed sapi before ++ xs) is

pub plain_follows : (s : Connection) (input : Input) (offer : Option Channel) (r : Row) (before : List Message) (ts : List ServedTenure) →
    IsValid s →
    AreApart (used_channels s) →
    AreApart (used_in (roles_of s)) →
    row_of s input offer ≡ Some r →
    IsOpen r.next.state →
    RemainsOpen (step_by input (roles_of s)) (roles_of s) s.down input offer r →
    IsPlain input →
    Follows s before ts →
    Follows r.next (before ++ r.outs) ts
plain_follows s input offer r before ts valid apart roles_apart is there on plain follows =
    let step : RoleStep = step_by input (roles_of s) in
    let one = plain_same input (roles_of s) plain in
    let two = begun_same on.begun (after_step step (roles_of s)) in
    let serving : r.next.serving ≡ s.serving = ap (λ (roles : Roles). roles.serving) on.roles ∙ two.serving ∙ one.serving in
    let draining : r.next.draining ≡ s.draining = ap (λ (roles : Roles). roles.draining) on.roles ∙ two.draining ∙ one.draining in
    record {
      serves = subst (λ (c : Channel). Serves c ts) (sym serving) follows.serves;
      old = λ at away. follows.old at (subst (λ (ds : List Drain). AreAway at (undone ds)) draining away);
      up = λ sapi f.
          let g : Future = kill (target_role s.state) f in
          let killed = kill_kills (target_role s.state) f in
          let quiet = quiet_keeps sapi s input offer r g valid apart (plain_ends input g s.state plain killed) is there on (plain_future sapi input g plain) killed in
          ap (λ (xs : List (List ℕ)). relayed sapi (before ++ r.outs) ++ xs) (sym (still_kill sapi f s (target_role s.state) r.next.serving r.next.draining r.next.up.tenures roles_apart serving (λ at away. subst (λ (ds : List Drain). AreAway at (undone ds)) (sym draining) away)))
          ∙ joins sapi before r.outs (still_of sapi g r.next.serving r.next.draining r.next.up.tenures) (still_of sapi g s.serving s.draining s.up.tenures) quiet
          ∙ follows.up sapi g ∙ joined_kill sapi f s before ts (target_role s.state) roles_apart follows;
    }
