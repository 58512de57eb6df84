-- SPDX-License-Identifier: MIT OR Apache-2.0
-- The parts of a connection keep their share of the invariant: its holds, its tenures, its list of
-- old channels.
use Rattle.conn_rules.proofs.Prelude.{◌≡◌, ℕ, zero, suc, ◌+◌, ◌≤◌, false, List, [], ◌∷◌, ◌++◌, length, refl, arith, eqb, AllByRecursion}
use Rattle.conn_rules.proofs.Prelude.{IsLayer3, Sapi, Zero, Three, TenureHold, empty_tenure, chain_count, put_in, HoldState, count, messages}
use Rattle.conn_rules.proofs.Prelude.{with_messages, drop, le_trans, length-append, eqb-false, DOWN_LIMIT, UP_LIMIT, Drain, IsHeldTenure}
use Rattle.conn_rules.proofs.Prelude.{FirstIsEmpty, OldestDrains, DrainTime, ChainState, new_chain, tenures_count, first_cleared, new_hold}
use Rattle.conn_rules.specs.Steps.{done_at}

-- ---- lists

pub AllByRecursion-push : {A : Type 0} (P : A → Type 0) (xs : List A) (x : A) → AllByRecursion P xs → P x → AllByRecursion P (xs ++ x ∷ [])
AllByRecursion-push P [] x all this = (this, tt)
AllByRecursion-push P (y ∷ ys) x all this = (all.0, AllByRecursion-push P ys x all.1 this)

pub nothing : {A : Type 0} (xs : List A) → length xs ≡ 0 → xs ≡ []
nothing [] none = refl
nothing (x ∷ xs) none = absurd (omega arith)

-- ---- the hold of the switch's messages

pub record ValidDown (down : HoldState) : Type 0 where
  pub limit : down.limit ≡ DOWN_LIMIT
  pub within : count down ≤ DOWN_LIMIT
  pub zero : AllByRecursion IsLayer3 down.zero
  pub three : AllByRecursion IsLayer3 down.three

pub valid_down_new : (limit : ℕ) → limit ≡ DOWN_LIMIT → ValidDown (new_hold limit)
valid_down_new limit is = record { limit = is; within = omega arith; zero = tt; three = tt }

pub valid_down_put : (sapi : Sapi) (message : List ℕ) (down : HoldState) →
    ValidDown down →
    eqb (count down) down.limit ≡ false →
    IsLayer3 message →
    ValidDown (with_messages down sapi (messages down sapi ++ message ∷ []))
valid_down_put Zero message down valid room carried =
    let apart = eqb-false (count down) down.limit room in
    let limit = valid.limit in
    let within = valid.within in
    record {
      limit = limit;
      within = omega (arith, length-append {A = List ℕ});
      zero = AllByRecursion-push IsLayer3 down.zero message valid.zero carried;
      three = valid.three;
    }
valid_down_put Three message down valid room carried =
    let apart = eqb-false (count down) down.limit room in
    let limit = valid.limit in
    let within = valid.within in
    record {
      limit = limit;
      within = omega (arith, length-append {A = List ℕ});
      zero = valid.zero;
      three = AllByRecursion-push IsLayer3 down.three message valid.three carried;
    }

-- a SAPI's messages go
pub valid_down_without : (sapi : Sapi) (down : HoldState) → ValidDown down → ValidDown (with_messages down sapi [])
valid_down_without Zero down valid =
    let within = valid.within in record { limit = valid.limit; within = omega arith; zero = tt; three = valid.three }
valid_down_without Three down valid =
    let within = valid.within in record { limit = valid.limit; within = omega arith; zero = valid.zero; three = tt }

-- ---- the tenures of the mobile's messages

pub record ValidUp (up : ChainState) : Type 0 where
  pub limit : up.limit ≡ UP_LIMIT
  pub within : chain_count up ≤ UP_LIMIT
  pub each : AllByRecursion IsHeldTenure up.tenures

pub valid_up_new : (limit : ℕ) → limit ≡ UP_LIMIT → ValidUp (new_chain limit)
valid_up_new limit is = record { limit = is; within = omega arith; each = ((tt, tt), tt) }

pub length-put_in : (place : ℕ) (sapi : Sapi) (message : List ℕ) (ts : List TenureHold) → length (put_in place sapi message ts) ≡ length ts
length-put_in place sapi message [] = refl
length-put_in zero sapi message (t ∷ ts) = refl
length-put_in (suc place) sapi message (t ∷ ts) = let rest = length-put_in place sapi message ts in cc

tenures_count_put_in : (place : ℕ) (sapi : Sapi) (message : List ℕ) (ts : List TenureHold) →
    tenures_count (put_in place sapi message ts) ≤ tenures_count ts + 1
tenures_count_put_in place sapi message [] = omega arith
tenures_count_put_in zero Zero message (t ∷ ts) = omega (arith, length-append {A = List ℕ})
tenures_count_put_in zero Three message (t ∷ ts) = omega (arith, length-append {A = List ℕ})
tenures_count_put_in (suc place) sapi message (t ∷ ts) = let rest = tenures_count_put_in place sapi message ts in omega arith

each_put_in : (place : ℕ) (sapi : Sapi) (message : List ℕ) (ts : List TenureHold) →
    AllByRecursion IsHeldTenure ts →
    IsLayer3 message →
    AllByRecursion IsHeldTenure (put_in place sapi message ts)
each_put_in place sapi message [] all carried = tt
each_put_in zero Zero message (t ∷ ts) all carried = ((AllByRecursion-push IsLayer3 t.zero message all.0.0 carried, all.0.1), all.1)
each_put_in zero Three message (t ∷ ts) all carried = ((all.0.0, AllByRecursion-push IsLayer3 t.three message all.0.1 carried), all.1)
each_put_in (suc place) sapi message (t ∷ ts) all carried = (all.0, each_put_in place sapi message ts all.1 carried)

pub valid_up_put : (place : ℕ) (sapi : Sapi) (message : List ℕ) (up : ChainState) →
    ValidUp up →
    eqb (chain_count up) up.limit ≡ false →
    IsLayer3 message →
    ValidUp (record up { tenures = put_in place sapi message up.tenures })
valid_up_put place sapi message up valid room carried =
    let apart = eqb-false (chain_count up) up.limit room in
    let limit = valid.limit in
    let within = valid.within in
    let more = tenures_count_put_in place sapi message up.tenures in
    record { limit = limit; within = omega arith; each = each_put_in place sapi message up.tenures valid.each carried }

-- the first tenure is relayed
count_first_cleared : (ts : List TenureHold) → tenures_count (first_cleared ts) ≤ tenures_count ts
count_first_cleared [] = omega arith
count_first_cleared (t ∷ ts) = omega arith

each_first_cleared : (ts : List TenureHold) → AllByRecursion IsHeldTenure ts → AllByRecursion IsHeldTenure (first_cleared ts)
each_first_cleared [] all = tt
each_first_cleared (t ∷ ts) all = ((tt, tt), all.1)

pub length-first_cleared : (ts : List TenureHold) → length (first_cleared ts) ≡ length ts
length-first_cleared [] = refl
length-first_cleared (t ∷ ts) = refl

pub first_is_empty_cleared : (ts : List TenureHold) → length ts ≡ 1 → FirstIsEmpty (first_cleared ts)
first_is_empty_cleared [] one = absurd (omega arith)
first_is_empty_cleared (t ∷ ts) one = refl

pub valid_up_cleared : (up : ChainState) → ValidUp up → ValidUp (record up { tenures = first_cleared up.tenures })
valid_up_cleared up valid = record {
  limit = valid.limit;
  within = le_trans (count_first_cleared up.tenures) valid.within;
  each = each_first_cleared up.tenures valid.each;
}

-- the first tenure ends, and what is held of the next is relayed
count_ended : (ts : List TenureHold) → tenures_count (first_cleared (drop 1 ts)) ≤ tenures_count ts
count_ended [] = omega arith
count_ended (t ∷ ts) = let rest = count_first_cleared ts in omega arith

each_ended : (ts : List TenureHold) → AllByRecursion IsHeldTenure ts → AllByRecursion IsHeldTenure (first_cleared (drop 1 ts))
each_ended [] all = tt
each_ended (t ∷ ts) all = each_first_cleared ts all.1

pub length-ended : (ts : List TenureHold) (more : ℕ) → length ts ≡ suc more + 1 → length (first_cleared (drop 1 ts)) ≡ more + 1
length-ended [] more long = omega arith
length-ended (t ∷ ts) more long = let rest = length-first_cleared ts in omega arith

pub first_is_empty_ended : (ts : List TenureHold) (more : ℕ) → length ts ≡ suc more + 1 → FirstIsEmpty (first_cleared (drop 1 ts))
first_is_empty_ended (t ∷ next ∷ ts) more long = refl
first_is_empty_ended _ more long = absurd (omega arith)

pub valid_up_ended : (up : ChainState) → ValidUp up → ValidUp (record up { tenures = first_cleared (drop 1 up.tenures) })
valid_up_ended up valid = record {
  limit = valid.limit;
  within = le_trans (count_ended up.tenures) valid.within;
  each = each_ended up.tenures valid.each;
}

-- a tenure begins
count_begun : (ts : List TenureHold) → tenures_count (ts ++ empty_tenure ∷ []) ≡ tenures_count ts
count_begun [] = refl
count_begun (t ∷ ts) = let rest = count_begun ts in omega arith

pub valid_up_begun : (up : ChainState) → ValidUp up → ValidUp (record up { tenures = up.tenures ++ empty_tenure ∷ [] })
valid_up_begun up valid =
    let within = valid.within in
    let same = count_begun up.tenures in
    record { limit = valid.limit; within = omega arith; each = AllByRecursion-push IsHeldTenure up.tenures empty_tenure valid.each (tt, tt) }

pub first_is_empty_begun : (ts : List TenureHold) → FirstIsEmpty ts → FirstIsEmpty (ts ++ empty_tenure ∷ [])
first_is_empty_begun [] first = refl
first_is_empty_begun (t ∷ ts) first = first

-- ---- old channels

pub oldest_drains_more : (ds : List Drain) (d : Drain) → OldestDrains ds → d.is_done ≡ false → OldestDrains (ds ++ d ∷ [])
oldest_drains_more [] d oldest drains = drains
oldest_drains_more (first ∷ ds) d oldest drains = oldest

pub drain_time_more : (ds : List Drain) (d : Drain) (drained : ℕ) → DrainTime (ds ++ d ∷ []) drained
drain_time_more [] d drained = tt
drain_time_more (first ∷ ds) d drained = tt

pub length-done_at : (place : ℕ) (ds : List Drain) → length (done_at place ds) ≡ length ds
length-done_at place [] = refl
length-done_at zero (d ∷ ds) = refl
length-done_at (suc place) (d ∷ ds) = let rest = length-done_at place ds in cc

pub drain_time_anew : (ds : List Drain) → DrainTime ds 0
drain_time_anew [] = refl
drain_time_anew (d ∷ ds) = tt

pub drain_time_done_at : (place : ℕ) (ds : List Drain) (drained : ℕ) → DrainTime ds drained → DrainTime (done_at place ds) drained
drain_time_done_at place [] drained time = time
drain_time_done_at zero (d ∷ ds) drained time = tt
drain_time_done_at (suc place) (d ∷ ds) drained time = tt
