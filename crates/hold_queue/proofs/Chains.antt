-- SPDX-License-Identifier: MIT OR Apache-2.0
-- How the calls of a chain change the number of its tenures and the number of their messages.
use Rattle.std.proofs.Common.{◌≡◌, ℕ, zero, suc, ◌+◌, ◌<◌, ◌≤◌, List, [], ◌∷◌, ◌++◌, length, slice_index_or, slice_set, refl, ap, arith, sum_by}
use Rattle.std.proofs.lemmas.List.Recursion.{is_sum_by}
use Rattle.dtap_codec.specs.declared.sapi.Sapi.{Sapi}
use Rattle.hold_queue.specs.ChainState.{TenureHold, empty_tenure, tenure_messages, with_tenure_messages, tenure_count, tenures_count, messages_in, put_in}

pub tenures_count_is_sum : (tenures : List TenureHold) → tenures_count tenures ≡ sum_by tenure_count tenures
tenures_count_is_sum = is_sum_by tenures_count tenure_count refl (λ _ _. refl)

pub count_added : (tenures : List TenureHold) → tenures_count (tenures ++ empty_tenure ∷ []) ≡ tenures_count tenures
count_added [] = refl
count_added (first ∷ rest) = grind (arith, count_added rest)

-- the list with another tenure at this place is what the put says
pub put_in_at : (place : ℕ) (sapi : Sapi) (message : List ℕ) (tenures : List TenureHold) (there : TenureHold) → place < length tenures →
    slice_set tenures place (with_tenure_messages (slice_index_or tenures place there) sapi (tenure_messages (slice_index_or tenures place there) sapi ++ message ∷ [])) ≡ put_in place sapi message tenures
put_in_at place sapi message [] there within = refl
put_in_at zero sapi message (first ∷ rest) there within = refl
put_in_at (suc place) sapi message (first ∷ rest) there within = let step : place < length rest = omega arith in rw (put_in_at place sapi message rest there step) refl

-- how many messages there are with another tenure at a place
count_set : (place : ℕ) (tenures : List TenureHold) (there next : TenureHold) → place < length tenures →
    tenures_count (slice_set tenures place next) + tenure_count (slice_index_or tenures place there) ≡ tenures_count tenures + tenure_count next
count_set place [] there next within = absurd (omega (arith, within))
count_set zero (first ∷ rest) there next within = omega arith
count_set (suc place) (first ∷ rest) there next within = let step : tenures_count (slice_set rest place next) + tenure_count (slice_index_or rest place there) ≡ tenures_count rest + tenure_count next = count_set place rest there next (omega arith) in omega arith

-- how many messages there are, where a tenure has one more at most
pub count_put : (tenures : List TenureHold) (place : ℕ) (there next : TenureHold) →
    place < length tenures →
    there ≡ slice_index_or tenures place there →
    tenure_count next ≤ tenure_count there + 1 →
    tenures_count (slice_set tenures place next) ≤ tenures_count tenures + 1
count_put tenures place there next within is grows =
    let same : tenure_count there ≡ tenure_count (slice_index_or tenures place there) = ap tenure_count is in
    omega (arith, count_set place tenures there next within)

pub messages_at : (place : ℕ) (sapi : Sapi) (tenures : List TenureHold) (there : TenureHold) →
    place < length tenures →
    messages_in place sapi tenures ≡ tenure_messages (slice_index_or tenures place there) sapi
messages_at place sapi [] there within = absurd (omega (arith, within))
messages_at zero sapi (first ∷ rest) there within = refl
messages_at (suc place) sapi (first ∷ rest) there within = messages_at place sapi rest there (omega arith)

pub messages_none : (place : ℕ) (sapi : Sapi) (tenures : List TenureHold) → length tenures ≤ place → messages_in place sapi tenures ≡ []
messages_none place sapi [] beyond = refl
messages_none zero sapi (first ∷ rest) beyond = absurd (omega (arith, beyond))
messages_none (suc place) sapi (first ∷ rest) beyond = messages_none place sapi rest (omega arith)
