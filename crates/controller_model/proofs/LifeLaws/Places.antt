-- SPDX-License-Identifier: MIT OR Apache-2.0
-- The states of channels after one was set.
use Rattle.controller_model.proofs.Prelude.{◌≡◌, ◌≢◌, ◌⊎◌, ℕ, zero, suc, ◌==◌, ◌<◌, ◌&&◌, Bool, false, List, [], ◌∷◌, length, fold, set}
use Rattle.controller_model.proofs.Prelude.{slice_index_or, refl, sym, subst, ap, ◌∙◌, inl, inr, arith, true≢false, cases_Bool, cond-true}
use Rattle.controller_model.proofs.Prelude.{cond-false, eqb-true, eq-eqb, and_parts, get_or-set_other, AllByRecursion, Channel, Place}
use Rattle.controller_model.proofs.Prelude.{Message, Station, is_order, orders, get_or-set_same, AreIn, ChannelState, Free, InUse}
use Rattle.controller_model.proofs.Prelude.{Releasing, channels_after, place_of, state_in, with_state}
use Rattle.rsl_codec.specs.declared.rsl.Rsl.TheVariants as rsl

-- ---- states

pub use_other : (m n : ℕ) → InUse m ≡ InUse n → m ≡ n
use_other m n is = cc

pub release_other : (m n : ℕ) → Releasing m ≡ Releasing n → m ≡ n
release_other m n is = cc

pub use≢release : (m n : ℕ) → InUse m ≢ Releasing n
use≢release m n is = cc

pub release≢use : (m n : ℕ) → Releasing m ≢ InUse n
release≢use m n is = cc

pub free≢use : (n : ℕ) → Free ≢ InUse n
free≢use n is = cc

pub free≢release : (n : ℕ) → Free ≢ Releasing n
free≢release n is = cc

-- ---- lists, where an element is set

set_cases : {A : Type 0} (xs : List A) (i : ℕ) (a d : A) → (slice_index_or (set xs i a) i d ≡ a) ⊎ (set xs i a ≡ xs)
set_cases [] i a d = inr refl
set_cases (x ∷ xs) zero a d = inl refl
set_cases (x ∷ xs) (suc i) a d = elim (set_cases xs i a d) [ inl hit ↦ inl hit | inr same ↦ inr (ap (λ ys. x ∷ ys) same) ]

pub all_set : {A : Type 0} (P : A → Type 0) (f : A → A) (xs : List A) (i : ℕ) (d : A) →
    ((x : A) → P x → P (f x)) →
    AllByRecursion P xs →
    AllByRecursion P (set xs i (f (slice_index_or xs i d)))
all_set P f [] i d keeps all = tt
all_set P f (x ∷ xs) zero d keeps all = (keeps x all.0, all.1)
all_set P f (x ∷ xs) (suc i) d keeps all = (all.0, all_set P f xs i d keeps all.1)

pub length_set : {A : Type 0} (xs : List A) (i : ℕ) (a : A) → length (set xs i a) ≡ length xs
length_set [] i a = refl
length_set (x ∷ xs) zero a = refl
length_set (x ∷ xs) (suc i) a = ap (λ (n : ℕ). suc n) (length_set xs i a)

pub all_at : {A : Type 0} (P : A → Type 0) (xs : List A) (i : ℕ) (d : A) → i < length xs → AllByRecursion P xs → P (slice_index_or xs i d)
all_at P [] i d less all = absurd (omega arith)
all_at P (x ∷ xs) zero d less all = all.0
all_at P (x ∷ xs) (suc i) d less all = all_at P xs i d (omega arith) all.1

get_past : {A : Type 0} (xs : List A) (i : ℕ) (d : A) → slice_index_or xs i d ≢ d → i < length xs
get_past [] i d differ = absurd (differ refl)
get_past (x ∷ xs) zero d differ = omega arith
get_past (x ∷ xs) (suc i) d differ = let rest = get_past xs i d differ in omega arith

-- ---- states

pub record IsIn (channels : List (List ChannelState)) (at : Place) : Type 0 where
  pub station : at.station < length channels
  pub number : at.number < length (slice_index_or channels at.station [])

pub state_here : (channels : List (List ChannelState)) (at : Place) (state : ChannelState) →
    IsIn channels at →
    state_in (with_state at state channels) at ≡ state
state_here channels at state is_in =
    ap (λ (row : List ChannelState). slice_index_or row at.number Free) (get_or-set_same channels at.station (set (slice_index_or channels at.station []) at.number state) [] is_in.station)
    ∙ get_or-set_same (slice_index_or channels at.station []) at.number state Free is_in.number

differ_by : (at other : Place) → other ≢ at → (other.station ≢ at.station) ⊎ ((other.station ≡ at.station) × (other.number ≢ at.number))
differ_by at other differ = elim (cases_Bool (other.station == at.station)) [
  | inl hit ↦
      let same : other.station ≡ at.station = eqb-true other.station at.station hit in
      inr (same, λ number. differ (ap (λ (n : ℕ). record other { station = n }) same ∙ ap (λ (n : ℕ). record at { number = n }) number))
  | inr miss ↦ inl (λ same. absurd (true≢false (sym (eq-eqb other.station at.station same) ∙ miss)))
]

row_else : (channels : List (List ChannelState)) (at : Place) (state : ChannelState) (number : ℕ) →
    number ≢ at.number →
    slice_index_or (slice_index_or (with_state at state channels) at.station []) number Free ≡ slice_index_or (slice_index_or channels at.station []) number Free
row_else channels at state number differ = elim (set_cases channels at.station (set (slice_index_or channels at.station []) at.number state) []) [
  | inl hit ↦ ap (λ (row : List ChannelState). slice_index_or row number Free) hit ∙ get_or-set_other (slice_index_or channels at.station []) at.number number state Free differ
  | inr same ↦ ap (λ (all : List (List ChannelState)). slice_index_or (slice_index_or all at.station []) number Free) same
]

pub state_else : (channels : List (List ChannelState)) (at other : Place) (state : ChannelState) →
    other ≢ at →
    state_in (with_state at state channels) other ≡ state_in channels other
state_else channels at other state differ = elim (differ_by at other differ) [
  | inl station ↦ ap (λ (row : List ChannelState). slice_index_or row other.number Free) (get_or-set_other channels at.station other.station (set (slice_index_or channels at.station []) at.number state) [] station)
  | inr number ↦
      subst (λ (station : ℕ). slice_index_or (slice_index_or (with_state at state channels) station []) other.number Free ≡ slice_index_or (slice_index_or channels station []) other.number Free) (sym number.0)
      (row_else channels at state other.number number.1)
]

row_length : (channels : List (List ChannelState)) (at : Place) (station : ℕ) (state : ChannelState) →
    length (slice_index_or (with_state at state channels) station []) ≡ length (slice_index_or channels station [])
row_length channels at station state = elim (cases_Bool (station == at.station)) [
  | inl hit ↦
      subst (λ (n : ℕ). length (slice_index_or (with_state at state channels) n []) ≡ length (slice_index_or channels n [])) (sym (eqb-true station at.station hit))
      (elim (set_cases channels at.station (set (slice_index_or channels at.station []) at.number state) []) [
        | inl is ↦ ap length is ∙ length_set (slice_index_or channels at.station []) at.number state
        | inr same ↦ ap (λ (all : List (List ChannelState)). length (slice_index_or all at.station [])) same
      ])
  | inr miss ↦ ap length (get_or-set_other channels at.station station (set (slice_index_or channels at.station []) at.number state) [] (λ same. absurd (true≢false (sym (eq-eqb station at.station same) ∙ miss))))
]

pub set_or_not : (channels : List (List ChannelState)) (at other : Place) (state : ChannelState) →
    (state_in (with_state at state channels) other ≡ state) ⊎ (state_in (with_state at state channels) other ≡ state_in channels other)
set_or_not channels at other state = elim (cases_Bool ((other.station == at.station) && (other.number == at.number))) [
  | inl hit ↦
      let parts = and_parts (other.station == at.station) (other.number == at.number) hit in
      let same : other ≡ at = ap (λ (n : ℕ). record other { station = n }) (eqb-true other.station at.station parts.0) ∙ ap (λ (n : ℕ). record at { number = n }) (eqb-true other.number at.number parts.1) in
      subst (λ (p : Place). (state_in (with_state at state channels) p ≡ state) ⊎ (state_in (with_state at state channels) p ≡ state_in channels p)) (sym same) (here (set_cases (slice_index_or channels at.station []) at.number state Free) (set_cases channels at.station (set (slice_index_or channels at.station []) at.number state) []))
  | inr miss ↦ inr (state_else channels at other state (λ same. absurd (true≢false (sym (ap (λ (b : Bool). b && (other.number == at.number)) (eq-eqb other.station at.station (ap (λ (p : Place). p.station) same)) ∙ eq-eqb other.number at.number (ap (λ (p : Place). p.number) same)) ∙ miss))))
]
  where
    here : (slice_index_or (set (slice_index_or channels at.station []) at.number state) at.number Free ≡ state) ⊎ (set (slice_index_or channels at.station []) at.number state ≡ slice_index_or channels at.station []) →
        (slice_index_or (set channels at.station (set (slice_index_or channels at.station []) at.number state)) at.station [] ≡ set (slice_index_or channels at.station []) at.number state) ⊎ (set channels at.station (set (slice_index_or channels at.station []) at.number state) ≡ channels) →
        (state_in (with_state at state channels) at ≡ state) ⊎ (state_in (with_state at state channels) at ≡ state_in channels at)
    here (inl number) (inl station) = inl (ap (λ (xs : List ChannelState). slice_index_or xs at.number Free) station ∙ number)
    here (inr number) (inl station) = inr (ap (λ (xs : List ChannelState). slice_index_or xs at.number Free) (station ∙ number))
    here number (inr same) = inr (ap (λ (all : List (List ChannelState)). slice_index_or (slice_index_or all at.station []) at.number Free) same)

pub still_there : (channels : List (List ChannelState)) (at other : Place) (state : ChannelState) →
    IsIn channels other →
    IsIn (with_state at state channels) other
still_there channels at other state is_in = record {
  station = subst (λ (n : ℕ). other.station < n) (sym (length_set channels at.station (set (slice_index_or channels at.station []) at.number state))) is_in.station;
  number = subst (λ (n : ℕ). other.number < n) (sym (row_length channels at other.station state)) is_in.number;
}

-- a channel that isn't free is there
pub is_there : (channels : List (List ChannelState)) (at : Place) → state_in channels at ≢ Free → IsIn channels at
is_there channels at used =
    let number = get_past (slice_index_or channels at.station []) at.number Free used in
    record {
      station = get_past channels at.station [] (λ none. used (ap (λ (row : List ChannelState). slice_index_or row at.number Free) none));
      number = number;
    }

-- ---- channels in a state

pub still_in : (channels : List (List ChannelState)) (at : Place) (state was : ChannelState) (cs : List Channel) →
    state_in channels at ≢ was →
    AreIn channels was cs →
    AreIn (with_state at state channels) was cs
still_in channels at state was [] other all = tt
still_in channels at state was (c ∷ cs) other all = (
  state_else channels at (place_of c) state (λ same. other (ap (state_in channels) (sym same) ∙ all.0)) ∙ all.0,
  still_in channels at state was cs other all.1,
)

-- ---- the messages of a row, of which only orders count

other_message : (number : ℕ) (channels : List (List ChannelState)) (m : Message) →
    is_order m ≡ false →
    channels_after number channels m ≡ channels
other_message number channels (Station station (rsl.ChannelActivation a)) none = absurd (true≢false none)
other_message number channels (Station station (rsl.RfChannelRelease channel)) none = absurd (true≢false none)
other_message number channels _ none = refl

pub fold_orders : (number : ℕ) (channels : List (List ChannelState)) (ms : List Message) →
    fold (channels_after number) channels ms ≡ fold (channels_after number) channels (orders ms)
fold_orders number channels [] = refl
fold_orders number channels (m ∷ ms) = elim (cases_Bool (is_order m)) [
  | inl hit ↦ fold_orders number (channels_after number channels m) ms ∙ ap (fold (channels_after number) channels) (sym (cond-true _ (m ∷ orders ms) (orders ms) hit))
  | inr miss ↦ ap (λ (now : List (List ChannelState)). fold (channels_after number) now ms) (other_message number channels m miss) ∙ fold_orders number channels ms ∙ ap (fold (channels_after number) channels) (sym (cond-false _ (m ∷ orders ms) (orders ms) miss))
]
