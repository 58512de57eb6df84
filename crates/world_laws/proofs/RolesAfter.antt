-- SPDX-License-Identifier: MIT OR Apache-2.0
-- The channels of a connection after a row, by the step that the row does to their roles.
use Rattle.world_laws.proofs.Prelude.{◌≡◌, ℕ, suc, Bool, true, false, ◌&&◌, ◌||◌, not, if◌then◌else◌, cond, List, [], ◌∷◌, Option, Some}
use Rattle.world_laws.proofs.Prelude.{None, option_map, refl, sym, ap, ◌∙◌, subst, inl, inr, AllByRecursion, cases_Bool, Channel}
use Rattle.world_laws.proofs.Prelude.{Place, Input, Drain, Preparing, Changing, State, Live, Target, Connection, is_at, drain_at}
use Rattle.world_laws.proofs.Prelude.{TargetRole, Roles, RoleStep, target_role, after_step, with_target, MayBegin, RemainsOpen, Row, done_at}
use Rattle.world_laws.proofs.Prelude.{place_of, same_Some, and_left, still_draining, HoldState, is_ended, commanded_target, lacks}
use Rattle.world_laws.proofs.Prelude.{some_lacks}
use Rattle.world_laws.specs.LineUp.Places.{Item}

-- ---- the roles after a row

unfoldable pub commanded_of : Option TargetRole → Option Target
commanded_of None = None
commanded_of (Some t) = if t.is_commanded then Some t.target else None

pub commanded_role : (state : State) → commanded_target state ≡ commanded_of (target_role state)
unfolding commanded_of
commanded_role (Live reference (Changing target)) = refl
commanded_role (Live reference (Preparing target)) = refl
commanded_role (Live reference _) = refl
commanded_role _ = refl

pub record ChannelsAfter (next : Connection) (roles : Roles) : Type 0 where
  pub serving : next.serving ≡ roles.serving
  pub draining : next.draining ≡ roles.draining
  pub target : commanded_target next.state ≡ commanded_of roles.target

begun_roles : (begun : Option Target) (input : Input) (offer : Option Channel) (roles : Roles) → MayBegin begun input offer roles
    → ((with_target begun roles).serving ≡ roles.serving) × ((with_target begun roles).draining ≡ roles.draining) × (commanded_of (with_target begun roles).target ≡ commanded_of roles.target)
unfolding commanded_of
begun_roles None input offer roles may = (refl, refl, refl)
begun_roles (Some target) input offer roles may = (refl, refl, sym (ap commanded_of may.2))

-- a change that begins leaves them, as its mobile isn't commanded yet
pub channels_after : (step : RoleStep) (before : Roles) (down : HoldState) (input : Input) (offer : Option Channel) (r : Row) →
    RemainsOpen step before down input offer r →
    ChannelsAfter r.next (after_step step before)
channels_after step before down input offer r remains =
    let begun = begun_roles remains.begun input offer (after_step step before) remains.may in
    record {
      serving = ap (λ (roles : Roles). roles.serving) remains.roles ∙ begun.0;
      draining = ap (λ (roles : Roles). roles.draining) remains.roles ∙ begun.1;
      target = commanded_role r.next.state ∙ ap (λ (roles : Roles). commanded_of roles.target) remains.roles ∙ begun.2;
    }

-- ---- an old channel is released, and leaves

-- those that leave lack nothing
pub still_lacks : (arriving : Place → List Item) (up : ℕ → Bool) (ds : List Drain) →
    some_lacks arriving up (still_draining ds) ≡ some_lacks arriving up ds
still_lacks arriving up [] = refl
still_lacks arriving up (d ∷ ds) =
    elim (cases_Bool d.is_done) [
      | inl done ↦ ap (λ (b : Bool). some_lacks arriving up (cond b (still_draining ds) (d ∷ ds))) done ∙ still_lacks arriving up ds ∙ ap (λ (b : Bool). (cond b false (not (up d.channel.station) && not (is_ended (arriving (place_of d.channel))))) || some_lacks arriving up ds) (sym done)
      | inr drains ↦ ap (λ (b : Bool). some_lacks arriving up (cond b (still_draining ds) (d ∷ ds))) drains
    ]

-- All of the released channel's messages arrived; of the others as much is missing as before.
abbrev pub AreReleased : (Place → List Item) → (Place → List Item) → (ℕ → Bool) → Place → List Drain → Type 0
AreReleased before after up at ds = AllByRecursion (λ d. (is_at at d.channel ≡ true → lacks before up d ≡ false) × (is_at at d.channel ≡ false → lacks after up d ≡ lacks before up d)) ds

pub both_false : (a b : Bool) → a || b ≡ false → (a ≡ false) × (b ≡ false)
both_false false b is = (refl, is)
both_false true b is = absurd cc

-- where nothing was released the list is as it was
same_lacks : (before after : Place → List Item) (up : ℕ → Bool) (at : Place) (ds : List Drain) →
    AreReleased before after up at ds →
    some_lacks after up ds ≡ false →
    some_lacks before up ds ≡ false
same_lacks before after up at [] released none = refl
same_lacks before after up at (d ∷ ds) released none =
    let both = both_false (lacks after up d) (some_lacks after up ds) none in
    ap (λ (b : Bool). b || some_lacks before up ds) (elim (cases_Bool (is_at at d.channel)) [
      | inl here ↦ released.0.0 here
      | inr other ↦ sym (released.0.1 other) ∙ both.0
    ]) ∙ same_lacks before after up at ds released.1 both.1

pub done_lacks : (before after : Place → List Item) (up : ℕ → Bool) (at : Place) (place : ℕ) (ds : List Drain) →
    drain_at at ds ≡ Some place →
    AreReleased before after up at ds →
    some_lacks after up (done_at place ds) ≡ false →
    some_lacks before up ds ≡ false
done_lacks before after up at place [] found released none = absurd cc
done_lacks before after up at place (d ∷ ds) found released none =
    elim (cases_Bool (is_at at d.channel && not d.is_done)) [
      | inl here ↦ first here (same_Some _ _ (sym (ap (λ (b : Bool). cond b (Some 0) (option_map (λ place. suc place) (drain_at at ds))) here) ∙ found)) none
      | inr other ↦ behind (drain_at at ds) refl (sym (ap (λ (b : Bool). cond b (Some 0) (option_map (λ place. suc place) (drain_at at ds))) other) ∙ found) (λ later is. done_lacks before after up at later ds is released.1)
    ] where
      first : is_at at d.channel && not d.is_done ≡ true →
          0 ≡ place →
          some_lacks after up (done_at place (d ∷ ds)) ≡ false →
          some_lacks before up (d ∷ ds) ≡ false
      first here is none =
          ap (λ (b : Bool). b || some_lacks before up ds) (released.0.0 (and_left (is_at at d.channel) (not d.is_done) here))
          ∙ same_lacks before after up at ds released.1 (subst (λ (n : ℕ). some_lacks after up (done_at n (d ∷ ds)) ≡ false) (sym is) none)

      one : lacks after up d ≡ false → lacks before up d ≡ false
      one none = elim (cases_Bool (is_at at d.channel)) [
        | inl here ↦ released.0.0 here
        | inr other ↦ sym (released.0.1 other) ∙ none
      ]

      behind : (o : Option ℕ) →
          drain_at at ds ≡ o →
          option_map (λ place. suc place) o ≡ Some place →
          ((later : ℕ) → drain_at at ds ≡ Some later → some_lacks after up (done_at later ds) ≡ false → some_lacks before up ds ≡ false) →
          some_lacks before up (d ∷ ds) ≡ false
      behind None is place_is rest = absurd cc
      behind (Some later) is place_is rest =
          let both = both_false (lacks after up d) (some_lacks after up (done_at later ds)) (subst (λ (n : ℕ). some_lacks after up (done_at n (d ∷ ds)) ≡ false) (sym (same_Some _ _ place_is)) none) in
          ap (λ (b : Bool). b || some_lacks before up ds) (one both.0) ∙ rest later is both.1

-- so a channel that leaves, leaves nothing missing behind
pub leaves_covers : (before after : Place → List Item) (up : ℕ → Bool) (at : Place) (place : ℕ) (ds : List Drain) →
    drain_at at ds ≡ Some place →
    AreReleased before after up at ds →
    some_lacks after up (still_draining (done_at place ds)) ≡ false →
    some_lacks before up ds ≡ false
leaves_covers before after up at place ds found released none = done_lacks before after up at place ds found released (sym (still_lacks after up (done_at place ds)) ∙ none)
