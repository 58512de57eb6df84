-- SPDX-License-Identifier: MIT OR Apache-2.0
-- Commands that wait for a station, in the tenures of their channel.
use Rattle.world_laws.proofs.Prelude.{◌≡◌, ℕ, ◌==◌, ◌&&◌, ◌||◌, not, Bool, true, false, if◌then◌else◌, List, [], ◌∷◌, ◌++◌, Option, Some}
use Rattle.world_laws.proofs.Prelude.{refl, sym, ap, ◌∙◌, subst, flat_map, AllByRecursion, activation_ack, Rsl, ChannelActivation}
use Rattle.world_laws.proofs.Prelude.{RfChannelRelease, RfChannelReleaseAck, AirMessage, OutboxEntry, acknowledgement, active_all, due}
use Rattle.world_laws.proofs.Prelude.{is_active_then, rsl_in, both_empty, leading_from_outbox, AreOnActive}

pub within_append : (k : ℕ) (active : Bool) (xs ys : List OutboxEntry) →
    AreOnActive k active xs →
    AreOnActive k (active_all k active xs) ys →
    AreOnActive k active (xs ++ ys)
within_append k active [] ys here rest = rest
within_append k active (x ∷ xs) ys here rest = (here.0, within_append k (is_active_then k active (rsl_in x.out.frame)) xs ys here.1 rest)

pub within_behind : (k : ℕ) (active : Bool) (xs ys : List OutboxEntry) →
    AreOnActive k active (xs ++ ys) →
    AreOnActive k (active_all k active xs) ys
within_behind k active [] ys all = all
within_behind k active (x ∷ xs) ys all = within_behind k (is_active_then k active (rsl_in x.out.frame)) xs ys all.1

-- where there is no command
pub within_none : (k : ℕ) (active : Bool) (xs : List OutboxEntry) →
    AllByRecursion (λ x. leading_from_outbox k x ≡ []) xs →
    AreOnActive k active xs
within_none k active [] none = tt
within_none k active (x ∷ xs) none = ((λ _. none.0), within_none k (is_active_then k active (rsl_in x.out.frame)) xs none.1)

-- ---- where nothing is due

-- where no acknowledgement is due, a channel remains active, or inactive
pub still_then : (k : ℕ) (active : Bool) (o : Option Rsl) → acknowledgement k active o ≡ [] → is_active_then k active o ≡ active
still_then k false (Some (ChannelActivation a)) none = by (a.channel == k) none where
  by : (b : Bool) → (if b && not false then activation_ack k ∷ [] else []) ≡ [] → false || b ≡ false
  by true is = absurd cc
  by false is = refl
still_then k active (Some (RfChannelRelease number)) none = by (number == k) none where
  by : (b : Bool) → (if b then RfChannelReleaseAck k ∷ [] else []) ≡ [] → not b && active ≡ active
  by true is = absurd cc
  by false is = refl
still_then k _ _ none = refl

-- the channel is unchanged
pub still_all : (k : ℕ) (active : Bool) (xs : List OutboxEntry) → due k active xs ≡ [] → active_all k active xs ≡ active
still_all k active [] none = refl
still_all k active (x ∷ xs) none =
    let o : Option Rsl = rsl_in x.out.frame in
    let parts = both_empty (acknowledgement k active o) (due k (is_active_then k active o) xs) (sym none) in
    let still : is_active_then k active o ≡ active = still_then k active o parts.0 in
    ap (λ (b : Bool). active_all k b xs) still ∙ still_all k active xs (subst (λ (b : Bool). due k b xs ≡ []) still parts.1)

-- and where it isn't active no command waits
pub none_leads : (k : ℕ) (xs : List OutboxEntry) → due k false xs ≡ [] → AreOnActive k false xs → flat_map (leading_from_outbox k) xs ≡ []
none_leads k [] none within = refl
none_leads k (x ∷ xs) none within =
    let o : Option Rsl = rsl_in x.out.frame in
    let parts = both_empty (acknowledgement k false o) (due k (is_active_then k false o) xs) (sym none) in
    let still : is_active_then k false o ≡ false = still_then k false o parts.0 in
    ap (λ (ys : List AirMessage). ys ++ flat_map (leading_from_outbox k) xs) (within.0 refl)
    ∙ none_leads k xs (subst (λ (b : Bool). due k b xs ≡ []) still parts.1) (subst (λ (b : Bool). AreOnActive k b xs) still within.1)
