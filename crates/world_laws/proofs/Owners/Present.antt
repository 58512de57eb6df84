-- SPDX-License-Identifier: MIT OR Apache-2.0
-- The present tenure of an active channel is its last one after all that waits.
use Rattle.world_laws.proofs.Prelude.{◌≡◌, ◌⊎◌, ℕ, ◌+◌, ◌==◌, ◌&&◌, ◌||◌, not, Bool, true, false, if◌then◌else◌, List, [], ◌∷◌, ◌++◌}
use Rattle.world_laws.proofs.Prelude.{Option, Some, refl, sym, ap, ◌∙◌, inl, inr, append_assoc, append-nil, Place, channel_state}
use Rattle.world_laws.proofs.Prelude.{hears, ChannelState, activation_ack, Rsl, ChannelActivation, RfChannelRelease, RfChannelReleaseAck}
use Rattle.world_laws.proofs.Prelude.{OutboxEntry, Tenure, Agrees, acknowledged_in, tenure_behind, to_arrive, began, begins, begins_and_ends}
use Rattle.world_laws.proofs.Prelude.{acknowledgement, acknowledgements, due, is_active_then, rsl_in, Actors, base_of, is_active_at, is_up}
use Rattle.world_laws.proofs.Prelude.{outbox_of, spot_at, tenure_at, both_empty, IsOwed, tenure_all, tenure_then, nothing_is_due}
use Rattle.world_model.specs.OwnerLines.IsOwed.{nothing, ends}

-- ---- what is due of a channel that is active

-- an entry leaves it active, with nothing due, or ends its tenure
RemainsActive : ℕ → ℕ → Option Rsl → Type 0
RemainsActive k tenure o = (acknowledgement k true o ≡ []) × (is_active_then k true o ≡ true) × (tenure_then k true tenure o ≡ tenure)

EndsTenure : ℕ → ℕ → Option Rsl → Type 0
EndsTenure k tenure o = (acknowledgement k true o ≡ RfChannelReleaseAck k ∷ []) × (tenure_then k true tenure o ≡ tenure)

one_entry : (k tenure : ℕ) (o : Option Rsl) → RemainsActive k tenure o ⊎ EndsTenure k tenure o
unfolding RemainsActive EndsTenure
one_entry k tenure (Some (ChannelActivation a)) = by (a.channel == k) where
  by : (b : Bool) →
      (((if b && not true then activation_ack k ∷ [] else []) ≡ []) × ((true || b) ≡ true) × ((if b && not true then tenure + 1 else tenure) ≡ tenure)) ⊎ (((if b && not true then activation_ack k ∷ [] else []) ≡ RfChannelReleaseAck k ∷ []) × ((if b && not true then tenure + 1 else tenure) ≡ tenure))
  by true = inl (refl, refl, refl)
  by false = inl (refl, refl, refl)
one_entry k tenure (Some (RfChannelRelease number)) = by (number == k) where
  by : (b : Bool) →
      (((if b then RfChannelReleaseAck k ∷ [] else []) ≡ []) × ((not b && true) ≡ true) × (tenure ≡ tenure)) ⊎ (((if b then RfChannelReleaseAck k ∷ [] else []) ≡ RfChannelReleaseAck k ∷ []) × (tenure ≡ tenure))
  by true = inr (refl, refl)
  by false = inl (refl, refl, refl)
one_entry k tenure _ = inl (refl, refl, refl)

-- no activation is due first
never_begins : (k : ℕ) (entries : List OutboxEntry) (rest : List Rsl) → due k true entries ≡ activation_ack k ∷ rest → ⊥
unfolding RemainsActive EndsTenure
never_begins k [] rest is = absurd cc
never_begins k (x ∷ xs) rest is = elim (one_entry k 0 (rsl_in x.out.frame)) [
  | inl unchanged ↦ never_begins k xs rest (sym (ap (λ (ms : List Rsl). ms ++ due k (is_active_then k true (rsl_in x.out.frame)) xs) unchanged.0 ∙ ap (λ (b : Bool). due k b xs) unchanged.1) ∙ is)
  | inr over ↦ absurd (let both : RfChannelReleaseAck k ∷ due k (is_active_then k true (rsl_in x.out.frame)) xs ≡ activation_ack k ∷ rest = sym (ap (λ (ms : List Rsl). ms ++ due k (is_active_then k true (rsl_in x.out.frame)) xs) over.0) ∙ is in cc)
]

-- where its end alone is due, no tenure begins
ends_alone : (k tenure : ℕ) (entries : List OutboxEntry) →
    due k true entries ≡ RfChannelReleaseAck k ∷ [] →
    tenure_all k true tenure entries ≡ tenure
unfolding RemainsActive EndsTenure
ends_alone k tenure [] is = absurd cc
ends_alone k tenure (x ∷ xs) is = elim (one_entry k tenure (rsl_in x.out.frame)) [
  | inl unchanged ↦
      ap (λ (b : Bool). tenure_all k b (tenure_then k true tenure (rsl_in x.out.frame)) xs) unchanged.1 ∙ ap (λ (n : ℕ). tenure_all k true n xs) unchanged.2
      ∙ ends_alone k tenure xs (sym (ap (λ (ms : List Rsl). ms ++ due k (is_active_then k true (rsl_in x.out.frame)) xs) unchanged.0 ∙ ap (λ (b : Bool). due k b xs) unchanged.1) ∙ is)
  | inr over ↦
      let rest : due k (is_active_then k true (rsl_in x.out.frame)) xs ≡ [] = behind_same (sym (ap (λ (ms : List Rsl). ms ++ due k (is_active_then k true (rsl_in x.out.frame)) xs) over.0) ∙ is) in
      nothing_is_due k (is_active_then k true (rsl_in x.out.frame)) (tenure_then k true tenure (rsl_in x.out.frame)) xs rest ∙ over.1
] where
  behind_same : {a b : Rsl} {others more : List Rsl} → a ∷ others ≡ b ∷ more → others ≡ more
  behind_same same = cc

-- ---- what is due is the last of what arrives

data Last (k : ℕ) (ms : List Rsl) : Type 0 where
  none_due : ms ≡ [] → Last k ms
  end_due : ms ≡ RfChannelReleaseAck k ∷ [] → Last k ms
  begin_due : (rest : List Rsl) → ms ≡ activation_ack k ∷ rest → Last k ms

tail_is : {a b : Rsl} {others more : List Rsl} → a ∷ others ≡ b ∷ more → others ≡ more
tail_is same = cc

last_none : (k : ℕ) (xs ds : List Rsl) → [] ≡ xs ++ ds → Last k ds
last_none k xs ds is = none_due (both_empty xs ds is).1

last_end : (k : ℕ) (xs ds : List Rsl) → RfChannelReleaseAck k ∷ [] ≡ xs ++ ds → Last k ds
last_end k [] ds is = end_due (sym is)
last_end k (x ∷ xs) ds is = last_none k xs ds (tail_is is)

last_begin : (k : ℕ) (xs ds : List Rsl) → activation_ack k ∷ [] ≡ xs ++ ds → Last k ds
last_begin k [] ds is = begin_due [] (sym is)
last_begin k (x ∷ xs) ds is = last_none k xs ds (tail_is is)

last_both : (k : ℕ) (xs ds : List Rsl) → activation_ack k ∷ RfChannelReleaseAck k ∷ [] ≡ xs ++ ds → Last k ds
last_both k [] ds is = begin_due (RfChannelReleaseAck k ∷ []) (sym is)
last_both k (x ∷ xs) ds is = last_end k xs ds (tail_is is)

last_of : (k : ℕ) (state : ChannelState) (all xs ds : List Rsl) → IsOwed k state all → all ≡ xs ++ ds → Last k ds
last_of k state all xs ds nothing is = last_none k xs ds is
last_of k state all xs ds began is = last_none k xs ds is
last_of k state all xs ds begins is = last_begin k xs ds is
last_of k state all xs ds ends is = last_end k xs ds is
last_of k state all xs ds begins_and_ends is = last_both k xs ds is

-- ---- so the present tenure is the last

pub present_last : (owner : Tenure → ℕ) (w : Actors) (at : Place) →
    Agrees owner w at →
    hears w.controller at.station ≡ true →
    is_up w at.station ≡ true →
    is_active_at w at ≡ true →
    tenure_behind w at ≡ tenure_at w at
present_last owner w at agrees hearing up active =
    let way = agrees.way hearing in
    let waits : List OutboxEntry = outbox_of w at.station in
    let front : List Rsl = acknowledged_in at w.inbox ++ acknowledgements at.number (base_of w at.station).messages in
    let whole : to_arrive w at ++ way.lost ≡ front ++ due at.number true waits = ap (λ (ms : List Rsl). to_arrive w at ++ ms) (way.all up) ∙ append-nil (to_arrive w at)
    ∙ sym (append_assoc (acknowledged_in at w.inbox) (acknowledgements at.number (base_of w at.station).messages) (due at.number (is_active_at w at) waits)) ∙ ap (λ (b : Bool). front ++ due at.number b waits) active in
    ap (λ (n : ℕ). record { at = at; number = n }) (ap (λ (b : Bool). tenure_all at.number b (spot_at w at).tenure waits) active ∙ by waits (last_of at.number (channel_state w.controller at) (to_arrive w at ++ way.lost) front (due at.number true waits) way.owed whole))
  where
    by : (entries : List OutboxEntry) →
        Last at.number (due at.number true entries) →
        tenure_all at.number true (spot_at w at).tenure entries ≡ (spot_at w at).tenure
    by entries (none_due is) = nothing_is_due at.number true (spot_at w at).tenure entries is
    by entries (end_due is) = ends_alone at.number (spot_at w at).tenure entries is
    by entries (begin_due rest is) = absurd (never_begins at.number entries rest is)
