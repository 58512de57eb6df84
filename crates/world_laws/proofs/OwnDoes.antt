-- SPDX-License-Identifier: MIT OR Apache-2.0
-- The row that fits an input keeps its connection's line-up: what it does to the channels, by the
-- step that the input brings.
use Rattle.world_laws.proofs.Prelude.{◌≡◌, ℕ, suc, ◌+◌, Bool, true, false, if◌then◌else◌, List, [], ◌∷◌, ◌++◌, length, Option, Some, None}
use Rattle.world_laws.proofs.Prelude.{refl, sym, ap, ◌∙◌, subst, arith, AllByRecursion, Channel, Place, Input, Drain, State}
use Rattle.world_laws.proofs.Prelude.{WaitConfirm, Live, Closed, Removed, Connection, TargetRole, Roles, RoleStep}
use Rattle.world_laws.proofs.Prelude.{target_role, roles_of, after_step, target_channels, commanded, completed, roles_unchanged}
use Rattle.world_laws.proofs.Prelude.{role_commands}
use Rattle.world_laws.proofs.Prelude.{role_completes, role_reverts, role_leaves, IsValid, IsValidState, AreApart, Future, IsApart, from_input}
use Rattle.world_laws.proofs.Prelude.{undone, used_channels, target_in_role, place_of, Zero, Held, apart_behind, AllByRecursion-so}
use Rattle.world_laws.proofs.Prelude.{IsHeldTenure, messages_in, is_ended, EndsLast, AreLayer3, texts_of, AsOld, AsServing, AsTarget}
use Rattle.world_laws.proofs.Prelude.{AreHeld, IsFutureOf}
use Rattle.conn_rules.specs.Streams.{target_in}
use Rattle.world_laws.specs.LineUp.Places.{Item}
use Rattle.world_laws.specs.OwnItem.{said_by, IsBesideTarget, Finds}
use Rattle.world_laws.proofs.Apart.{all_both}
use Rattle.world_laws.proofs.Framing.{all_left, all_right}
use Rattle.world_laws.proofs.OwnChannels.{passes_target, passes_apart, to_arrive, IsHeard, MayCome, IsTarget, old_before, old_after}
use Rattle.world_laws.proofs.OwnChannels.{serving_before, serving_after, target_before, target_after, continues_behind}
use Rattle.world_laws.proofs.RolesAfter.{commanded_of, commanded_role, ChannelsAfter}

-- ---- lists

pub all_under : {X A : Type 0} (P : X → Type 0) (xs : List X) → (A → AllByRecursion P xs) → AllByRecursion (λ x. A → P x) xs
all_under P [] h = tt
all_under P (x ∷ xs) h = (λ a. (h a).0, all_under P xs (λ a. (h a).1))

-- each of the first is apart from all others
pub apart_from : (xs ys : List Channel) → AreApart (xs ++ ys) → AllByRecursion (λ c. AllByRecursion (IsApart c) ys) xs
apart_from [] ys apart = tt
apart_from (x ∷ xs) ys apart = (all_right (IsApart x) xs ys apart.0, apart_from xs ys apart.1)

-- ---- what is held

held_all : (ds : List Drain) (ts : List Held) → length ts ≡ length ds + 1 → AllByRecursion IsHeldTenure ts → AreHeld ds ts
held_all ds [] many held = absurd (none (length ds) many) where
  none : (n : ℕ) → 0 ≡ n + 1 → ⊥
  none n is = omega arith
held_all [] (t ∷ ts) many held = held.0.0
held_all (d ∷ ds) (t ∷ ts) many held = (held.0.0, held_all ds ts (one_less (length ts) (length ds) many) held.1) where
  one_less : (a b : ℕ) → suc a ≡ suc b + 1 → a ≡ b + 1
  one_less a b is = omega arith

pub are_held : (s : Connection) → IsValid s → AreHeld s.draining s.up.tenures
are_held s valid = held_all s.draining s.up.tenures (many s.state valid.state) valid.up_messages where
  one_more_than_none : (ds : List Drain) (n : ℕ) → ds ≡ [] → n ≡ 1 → n ≡ length ds + 1
  one_more_than_none ds n none one = one ∙ ap (λ (xs : List Drain). length xs + 1) (sym none)

  many : (state : State) → IsValidState state s.draining s.down s.up.tenures s.link s.waits → length s.up.tenures ≡ length s.draining + 1
  many WaitConfirm by = one_more_than_none s.draining (length s.up.tenures) by.none_drains by.one_tenure
  many (Live reference stage) by = by.a_tenure_each
  many (Closed clearing) by = one_more_than_none s.draining (length s.up.tenures) by.none_drains (ap length by.one_tenure)
  many Removed by = one_more_than_none s.draining (length s.up.tenures) by.none_drains (ap length by.one_tenure)
  many _ by = one_more_than_none s.draining (length s.up.tenures) by.0.none_drains (ap length by.0.one_tenure)

-- ---- before the row

pub record IsKnown (input : Input) (text : List ℕ) (before after : Place → List Item) (s : Connection) : Type 0 where
  pub finds : Finds input text before after s
  pub apart : AreApart (used_channels s)

pub passes_old : {input : Input} {text : List ℕ} {before after : Place → List Item} {s : Connection} →
    IsKnown input text before after s →
    AllByRecursion (λ c. passes_target input (target_in s.state) (place_of c) ≡ false) (undone s.draining)
passes_old {input} {s = s} known =
    AllByRecursion-so (λ c. AllByRecursion (IsApart c) (s.serving ∷ target_in s.state)) (λ c. passes_target input (target_in s.state) (place_of c) ≡ false) (λ c apart. passes_apart input (target_in s.state) c apart.1) (undone s.draining) (apart_from (undone s.draining) (s.serving ∷ target_in s.state) known.apart)

pub whole_old : {input : Input} {text : List ℕ} {before after : Place → List Item} {s : Connection} →
    IsKnown input text before after s →
    AllByRecursion (λ c. AreLayer3 (texts_of (before (place_of c)))) (undone s.draining)
whole_old {before = before} {s = s} known = all_left (λ c. AreLayer3 (texts_of (before (place_of c)))) (undone s.draining) (s.serving ∷ target_in s.state) known.finds.whole

pub whole_rest : {input : Input} {text : List ℕ} {before after : Place → List Item} {s : Connection} →
    IsKnown input text before after s →
    AllByRecursion (λ c. AreLayer3 (texts_of (before (place_of c)))) (s.serving ∷ target_in s.state)
whole_rest {before = before} {s = s} known = all_right (λ c. AreLayer3 (texts_of (before (place_of c)))) (undone s.draining) (s.serving ∷ target_in s.state) known.finds.whole

pub serving_heard : {input : Input} {text : List ℕ} {before after : Place → List Item} {s : Connection} →
    IsKnown input text before after s →
    IsHeard input text (target_in s.state) before s.serving
serving_heard {input} {text} {before} {after} {s} known = record {
  carries_on = (continues_behind input text before after (place_of s.serving) (known.finds.first (place_of s.serving)) known.finds.others_continue.0).0;
  passes_not = passes_apart input (target_in s.state) s.serving (apart_behind (undone s.draining) (s.serving ∷ target_in s.state) known.apart).0;
  whole = (whole_rest known).0;
}

pub are_targets : {input : Input} {text : List ℕ} {before after : Place → List Item} {s : Connection} →
    IsKnown input text before after s →
    AllByRecursion (IsTarget input text (target_in s.state) before after) (target_in s.state)
are_targets {input} {text} {before} {after} {s} known =
    all_both (λ c. is_ended (before (place_of c)) ≡ false) (λ c. (IsBesideTarget input → messages_in (before (place_of c)) ≡ []) × AreLayer3 (texts_of (before (place_of c)))) (IsTarget input text (target_in s.state) before after) (target_in s.state)
    (λ c none rest. record { read = known.finds.read; first = known.finds.first (place_of c); carries_on = none; silent = rest.0; whole = rest.1 }) known.finds.others_continue.1
    (all_both (λ c. IsBesideTarget input → messages_in (before (place_of c)) ≡ []) (λ c. AreLayer3 (texts_of (before (place_of c)))) (λ c. (IsBesideTarget input → messages_in (before (place_of c)) ≡ []) × AreLayer3 (texts_of (before (place_of c)))) (target_in s.state) (λ c a b. (a, b))
    (all_under (λ c. messages_in (before (place_of c)) ≡ []) (target_in s.state) known.finds.silent) (whole_rest known).1)

of_role : (future : Future) (arriving : Place → List Item) (o : Option TargetRole) →
    AllByRecursion (MayCome future arriving) (target_channels o) →
    AsTarget future arriving (commanded_of o)
unfolding commanded_of
of_role future arriving None all = tt
of_role future arriving (Some t) all = by t.is_commanded where
  by : (b : Bool) → AsTarget future arriving (if b then Some t.target else None)
  by true = all.0
  by false = tt

pub known_before : {input : Input} {text : List ℕ} {before after : Place → List Item} {s : Connection} (up : ℕ → Bool) →
    IsKnown input text before after s →
    IsValid s →
    IsFutureOf (from_input Zero input (to_arrive input text (target_in s.state) after up)) before up s
known_before {input} {text} {before} {after} {s} up known valid = record {
  old = all_both (λ c. EndsLast (before (place_of c))) (λ c. (passes_target input (target_in s.state) (place_of c) ≡ false) × AreLayer3 (texts_of (before (place_of c)))) (AsOld (from_input Zero input (to_arrive input text (target_in s.state) after up)) before up) (undone s.draining)
      (λ c last rest. old_before input text (target_in s.state) before after up c known.finds.read (known.finds.first (place_of c)) last rest.0 rest.1) known.finds.old_end
      (all_both (λ c. passes_target input (target_in s.state) (place_of c) ≡ false) (λ c. AreLayer3 (texts_of (before (place_of c)))) (λ c. (passes_target input (target_in s.state) (place_of c) ≡ false) × AreLayer3 (texts_of (before (place_of c)))) (undone s.draining) (λ c a b. (a, b)) (passes_old known) (whole_old known));
  serving = serving_before input text (target_in s.state) before after up s.serving known.finds.read (known.finds.first (place_of s.serving)) known.finds.others_continue.0 (serving_heard known);
  target = subst (AsTarget (from_input Zero input (to_arrive input text (target_in s.state) after up)) before) (sym (commanded_role s.state))
      (of_role (from_input Zero input (to_arrive input text (target_in s.state) after up)) before (target_role s.state) (subst (AllByRecursion (MayCome (from_input Zero input (to_arrive input text (target_in s.state) after up)) before)) (sym (target_in_role s.state))
      (AllByRecursion-so (IsTarget input text (target_in s.state) before after) (MayCome (from_input Zero input (to_arrive input text (target_in s.state) after up)) before) (λ c t. target_before input text (target_in s.state) before after up c t) (target_in s.state) (are_targets known))));
  held = are_held s valid;
}

-- ---- after it, by the roles

pub old_heard : {input : Input} {text : List ℕ} {before after : Place → List Item} {s : Connection} →
    IsKnown input text before after s →
    AllByRecursion (λ c. is_ended (said_by input text (place_of c)) ≡ false) (undone s.draining) →
    AllByRecursion (IsHeard input text (target_in s.state) before) (undone s.draining)
old_heard {input} {text} {before} {after} {s} known none_ends =
    all_both (λ c. is_ended (said_by input text (place_of c)) ≡ false) (λ c. (passes_target input (target_in s.state) (place_of c) ≡ false) × AreLayer3 (texts_of (before (place_of c)))) (IsHeard input text (target_in s.state) before) (undone s.draining)
    (λ c a b. record { carries_on = a; passes_not = b.0; whole = b.1 }) none_ends
    (all_both (λ c. passes_target input (target_in s.state) (place_of c) ≡ false) (λ c. AreLayer3 (texts_of (before (place_of c)))) (λ c. (passes_target input (target_in s.state) (place_of c) ≡ false) × AreLayer3 (texts_of (before (place_of c)))) (undone s.draining) (λ c a b. (a, b)) (passes_old known) (whole_old known))

-- a step leaves no target but that which was there
pub kept_targets : (P : Channel → Type 0) (step : RoleStep) (roles : Roles) →
    AllByRecursion P (target_channels roles.target) →
    AllByRecursion P (target_channels (after_step step roles).target)
kept_targets P roles_unchanged roles all = all
kept_targets P role_commands roles all = by roles.target all where
  by : (o : Option TargetRole) → AllByRecursion P (target_channels o) → AllByRecursion P (target_channels (commanded o))
  by None all = tt
  by (Some t) all = all
kept_targets P role_completes roles all = by roles.target refl all where
  by : (o : Option TargetRole) →
      roles.target ≡ o →
      AllByRecursion P (target_channels o) →
      AllByRecursion P (target_channels (completed o roles).target)
  by None is all = subst (λ (o : Option TargetRole). AllByRecursion P (target_channels o)) (sym is) all
  by (Some t) is all = tt
kept_targets P role_reverts roles all = tt
kept_targets P (role_leaves place) roles all = all

pub known_after : {input : Input} {text : List ℕ} {before after : Place → List Item} {s : Connection} (up : ℕ → Bool) (step : RoleStep) (next : Connection) → IsKnown input text before after s → IsValid next → ChannelsAfter next (after_step step (roles_of s))
    → AllByRecursion (IsHeard input text (target_in s.state) before) (undone (after_step step (roles_of s)).draining)
    → IsHeard input text (target_in s.state) before (after_step step (roles_of s)).serving → is_ended (before (place_of (after_step step (roles_of s)).serving)) ≡ false
    → IsFutureOf (to_arrive input text (target_in s.state) after up) after up next
known_after {input} {text} {before} {after} {s} up step next known valid now old serving serving_continues = record {
  old = subst (λ (ds : List Drain). AllByRecursion (AsOld F after up) (undone ds)) (sym now.draining)
      (AllByRecursion-so (IsHeard input text (target_in s.state) before) (AsOld F after up) (λ c heard. old_after input text (target_in s.state) before after up c (known.finds.first (place_of c)) heard) (undone (after_step step (roles_of s)).draining) old);
  serving = subst (AsServing F after up) (sym now.serving) (serving_after input text (target_in s.state) before after up (after_step step (roles_of s)).serving (known.finds.first (place_of (after_step step (roles_of s)).serving)) serving_continues serving);
  target = subst (AsTarget F after) (sym now.target) (of_role F after (after_step step (roles_of s)).target (kept_targets (MayCome F after) step (roles_of s) (subst (AllByRecursion (MayCome F after)) (sym (target_in_role s.state))
      (AllByRecursion-so (IsTarget input text (target_in s.state) before after) (MayCome F after) (λ c t. target_after input text (target_in s.state) before after up c t) (target_in s.state) (are_targets known)))));
  held = are_held next valid;
} where
  F : Future
  F = to_arrive input text (target_in s.state) after up
