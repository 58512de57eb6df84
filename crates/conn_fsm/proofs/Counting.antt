-- SPDX-License-Identifier: MIT OR Apache-2.0
-- Counting messages one after the other, by their places.
use Rattle.std.proofs.Common.{◌≡◌, ◌≤◌, ◌+◌, ℕ, zero, suc, Bool, false, List, [], ◌∷◌, ◌++◌, take, length, slice_get, Some, None, refl, ap, sym, ◌∙◌, arith}
use Rattle.std.proofs.Common.{length-append}
use Rattle.std.proofs.lemmas.Option.{slice_get_within}
use Rattle.dtap_codec.specs.declared.sapi.Sapi.{Sapi}
use Rattle.dtap_codec.specs.declared.sapi.Sapi.TheVariants.{Zero, Three}
use Rattle.conn_rules.specs.declared.state.Drain.{Drain}
use Rattle.conn_rules.specs.declared.state.ShortMessageLink.{ShortMessageLink}
use Rattle.conn_rules.specs.declared.state.State.{State}
use Rattle.conn_rules.specs.declared.state.State.TheVariants.{WaitActivation, WaitEstablish, WaitConfirm, Live, Closed, Removed}
use Rattle.conn_rules.specs.Connection.{Connection}
use Rattle.conn_rules.specs.Validity.{FirstIsEmpty, IsValid, IsValidState}
use Rattle.hold_queue.specs.ChainState.{TenureHold, empty_tenure, messages_in, tenure_messages, tenures_count}
use Rattle.hold_queue.specs.HoldState.{HoldState, count, messages}
use Rattle.conn_fsm.specs.Views.{awaits_switch, joined}
use Rattle.conn_fsm.proofs.Pushing.{few_in, joined_more}

-- all are counted, where there is none at the next place
pub all_counted : {X : Type 0} (xs : List X) (n : ℕ) → slice_get xs n ≡ None → n ≤ length xs → n ≡ length xs
all_counted [] n none le = omega (arith, le)
all_counted (x ∷ xs) zero none le = absurd (grind (arith, none))
all_counted (x ∷ xs) (suc n) none le = ap (λ k. suc k) (all_counted xs n none (omega (arith, le)))

-- one more is counted
pub one_counted : {X : Type 0} (xs : List X) (n : ℕ) (x : X) → slice_get xs n ≡ Some x → n + 1 ≤ length xs
one_counted xs n x got = omega (arith, slice_get_within xs n x got)

-- nothing is held
pub none_held : (hold : HoldState) (sapi : Sapi) → count hold ≡ 0 → 0 ≡ length (messages hold sapi)
none_held hold Zero none = omega (arith, none)
none_held hold Three none = omega (arith, none)

few_of : (t : TenureHold) (sapi : Sapi) → length (tenure_messages t sapi) ≤ length t.zero + length t.three
few_of t Zero = omega arith
few_of t Three = omega arith

pub few_joined : (sapi : Sapi) (ts : List TenureHold) → length (joined sapi ts) ≤ tenures_count ts
few_joined sapi [] = omega arith
few_joined sapi (t ∷ ts) = omega (arith, length-append (tenure_messages t sapi) (joined sapi ts), few_of t sapi, few_joined sapi ts)

-- ---- the mobile's, where no old channel is there

none_in : (sapi : Sapi) → 0 ≡ length (joined sapi (empty_tenure ∷ []))
none_in Zero = refl
none_in Three = refl

bare : (sapi : Sapi) (ts : List TenureHold) → ts ≡ empty_tenure ∷ [] → 0 ≡ length (joined sapi ts)
bare sapi ts is = none_in sapi ∙ sym (ap (λ (xs : List TenureHold). length (joined sapi xs)) is)

first_alone : (sapi : Sapi) (ts : List TenureHold) → FirstIsEmpty ts → length ts ≡ 1 → 0 ≡ length (joined sapi ts)
first_alone sapi [] first one = absurd first
first_alone sapi (t ∷ []) first one = bare sapi (t ∷ []) (ap (λ (x : TenureHold). x ∷ []) first)
first_alone sapi (t ∷ u ∷ ts) first one = absurd (omega (arith, one))

none_up_by : (sapi : Sapi) (state : State) (ds : List Drain) (down : HoldState) (ts : List TenureHold) (link : ShortMessageLink) (waits : Bool)
    → IsValidState state ds down ts link waits → ds ≡ [] → awaits_switch state ≡ false → 0 ≡ length (joined sapi ts)
none_up_by sapi WaitActivation ds down ts link waits valid none other = bare sapi ts valid.0.one_tenure
none_up_by sapi WaitEstablish ds down ts link waits valid none other = bare sapi ts valid.0.one_tenure
none_up_by sapi WaitConfirm ds down ts link waits valid none other = absurd (cc other)
none_up_by sapi (Live reference stage) ds down ts link waits valid none other =
    first_alone sapi ts valid.first (omega (arith, valid.a_tenure_each, ap (λ (xs : List Drain). length xs) none))
none_up_by sapi (Closed clearing) ds down ts link waits valid none other = bare sapi ts valid.one_tenure
none_up_by sapi Removed ds down ts link waits valid none other = bare sapi ts valid.one_tenure

pub none_up : (sapi : Sapi) (s : Connection) →
    IsValid s →
    s.draining ≡ [] →
    awaits_switch s.state ≡ false →
    0 ≡ length (joined sapi s.up.tenures)
none_up sapi s valid none other = none_up_by sapi s.state s.draining s.down s.up.tenures s.link s.waits valid.state none other

-- those of one tenure more
few_taken : (ts : List TenureHold) (n : ℕ) → tenures_count (take n ts) ≤ tenures_count ts
few_taken [] zero = omega arith
few_taken [] (suc n) = omega arith
few_taken (t ∷ ts) zero = omega arith
few_taken (t ∷ ts) (suc n) = omega (arith, few_taken ts n)

pub tenure_counted : (sapi : Sapi) (ts : List TenureHold) (n count more : ℕ) → count ≡ length (joined sapi (take n ts)) → more ≡ length (messages_in n sapi ts)
    → count + more ≡ length (joined sapi (take (n + 1) ts))
tenure_counted sapi ts n count more is one =
    omega (
      arith,
      is,
      one,
      length-append (joined sapi (take n ts)) (messages_in n sapi ts),
      ap (λ (xs : List (List ℕ)). length xs) (joined_more sapi ts n (joined sapi (take n ts)) (joined sapi (take n ts) ++ messages_in n sapi ts) refl refl),
    )

pub few_counted : (sapi : Sapi) (ts : List TenureHold) (n count more : ℕ) → count ≡ length (joined sapi (take n ts)) → more ≡ length (messages_in n sapi ts)
    → count + more ≤ tenures_count ts
few_counted sapi ts n count more is one = omega (arith, tenure_counted sapi ts n count more is one, few_joined sapi (take (n + 1) ts), few_taken ts (n + 1))

-- ---- what a function's attribute names together

-- messages that are counted one by one
pub ruleset counting = (all_counted, one_counted)

-- those of tenures, one tenure after the other
pub ruleset tenures_counting = (few_in, few_counted, tenure_counted)
