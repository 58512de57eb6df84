-- SPDX-License-Identifier: MIT OR Apache-2.0
-- The switch's connections by place: the first of a peer.
use Rattle.world_laws.proofs.Prelude.{◌≡◌, ℕ, zero, suc, ◌+◌, ◌-◌, ◌==◌, Bool, true, false, cond, List, [], ◌∷◌, ◌++◌, length, find}
use Rattle.world_laws.proofs.Prelude.{Option, Some, None, refl, sym, ap, ◌∙◌, subst, arith, slice_get, slice_set, eq-eqb, ne_eqb}
use Rattle.world_laws.proofs.Prelude.{REFERENCE_BASE, same_Some, is_of_peer}
use Rattle.msc_end.specs.declared.connection.Connection.{Connection}
use Rattle.msc_end.specs.Switch.{connection_of}
use Rattle.world_laws.specs.References.Agree.{IsFirstAt}

pub first_at_find : (n place : ℕ) (c : Connection) (cs : List Connection) → IsFirstAt n place c cs → find (is_of_peer n) cs ≡ Some c
first_at_find n place c [] first_at = absurd first_at
first_at_find n zero c (x ∷ cs) first_at = ap (λ (b : Bool). cond b (Some x) (find (is_of_peer n) cs)) (eq-eqb x.peer n first_at.1) ∙ ap (λ (y : Connection). Some y) first_at.0
first_at_find n (suc place) c (x ∷ cs) first_at = ap (λ (b : Bool). cond b (Some x) (find (is_of_peer n) cs)) (ne_eqb x.peer n first_at.0) ∙ first_at_find n place c cs first_at.1

pub first_at_peer : (n place : ℕ) (c : Connection) (cs : List Connection) → IsFirstAt n place c cs → c.peer ≡ n
first_at_peer n place c [] first_at = absurd first_at
first_at_peer n zero c (x ∷ cs) first_at = subst (λ (y : Connection). y.peer ≡ n) first_at.0 first_at.1
first_at_peer n (suc place) c (x ∷ cs) first_at = first_at_peer n place c cs first_at.1

pub first_at_get : (n place : ℕ) (c : Connection) (cs : List Connection) → IsFirstAt n place c cs → slice_get cs place ≡ Some c
first_at_get n place c [] first_at = absurd first_at
first_at_get n zero c (x ∷ cs) first_at = ap (λ (y : Connection). Some y) first_at.0
first_at_get n (suc place) c (x ∷ cs) first_at = first_at_get n place c cs first_at.1

-- the connection of its reference
pub first_at_slot : (n place : ℕ) (c : Connection) (cs : List Connection) →
    IsFirstAt n place c cs →
    connection_of cs (REFERENCE_BASE + (place + 1) - REFERENCE_BASE) ≡ Some c
first_at_slot n place c cs first_at =
    let is : REFERENCE_BASE + (place + 1) - REFERENCE_BASE ≡ place + 1 = omega arith in
    let back : place + 1 - 1 ≡ place = omega arith in
    ap (connection_of cs) is ∙ ap (λ (b : Bool). cond b None (slice_get cs (place + 1 - 1))) (ne_eqb (place + 1) 0 some) ∙ ap (slice_get cs) back ∙ first_at_get n place c cs first_at
  where
    some : place + 1 ≡ 0 → ⊥
    some is = omega (arith, is)

-- ---- one is changed

pub set_own : (n place : ℕ) (c own : Connection) (cs : List Connection) →
    IsFirstAt n place c cs →
    own.peer ≡ n →
    IsFirstAt n place own (slice_set cs place own)
set_own n place c own [] first_at is = absurd first_at
set_own n zero c own (x ∷ cs) first_at is = (refl, is)
set_own n (suc place) c own (x ∷ cs) first_at is = (first_at.0, set_own n place c own cs first_at.1 is)

pub set_other : (n place : ℕ) (c : Connection) (cs : List Connection) (i : ℕ) (x own : Connection) →
    slice_get cs i ≡ Some x →
    (x.peer ≡ n → ⊥) →
    (own.peer ≡ n → ⊥) →
    IsFirstAt n place c cs →
    IsFirstAt n place c (slice_set cs i own)
set_other n place c [] i x own is other also first_at = absurd first_at
set_other n zero c (y ∷ cs) zero x own is other also first_at = absurd (other (subst (λ (z : Connection). z.peer ≡ n) (same_Some _ _ is) first_at.1))
set_other n zero c (y ∷ cs) (suc i) x own is other also first_at = (first_at.0, first_at.1)
set_other n (suc place) c (y ∷ cs) zero x own is other also first_at = (also, first_at.1)
set_other n (suc place) c (y ∷ cs) (suc i) x own is other also first_at =
    (first_at.0, set_other n place c cs i x own is other also first_at.1)

pub none_first : (n : ℕ) (x : Connection) (cs : List Connection) →
    find (is_of_peer n) (x ∷ cs) ≡ None →
    (x.peer ≡ n → ⊥) × (find (is_of_peer n) cs ≡ None)
none_first n x cs none = (not_first, rest (x.peer == n) none) where
  found : (let o : Option Connection = Some x in o) ≡ None → ⊥
  found is = absurd cc

  not_first : x.peer ≡ n → ⊥
  not_first is = found (sym (ap (λ (b : Bool). cond b (Some x) (find (is_of_peer n) cs)) (eq-eqb x.peer n is)) ∙ none)

  rest : (b : Bool) → cond b (Some x) (find (is_of_peer n) cs) ≡ None → find (is_of_peer n) cs ≡ None
  rest true is = absurd (found is)
  rest false is = is

pub none_behind : (n : ℕ) (x : Connection) (cs : List Connection) →
    (x.peer ≡ n → ⊥) →
    find (is_of_peer n) cs ≡ None →
    find (is_of_peer n) (x ∷ cs) ≡ None
none_behind n x cs other none = ap (λ (b : Bool). cond b (Some x) (find (is_of_peer n) cs)) (ne_eqb x.peer n other) ∙ none

pub set_none : (n : ℕ) (cs : List Connection) (i : ℕ) (own : Connection) →
    (own.peer ≡ n → ⊥) →
    find (is_of_peer n) cs ≡ None →
    find (is_of_peer n) (slice_set cs i own) ≡ None
set_none n [] i own other none = none
set_none n (x ∷ cs) zero own other none = none_behind n own cs other (none_first n x cs none).1
set_none n (x ∷ cs) (suc i) own other none = none_behind n x (slice_set cs i own) (none_first n x cs none).0 (set_none n cs i own other (none_first n x cs none).1)

-- of its peer there is none, so the one that is changed is another's
pub got_other : (n : ℕ) (cs : List Connection) (i : ℕ) (x : Connection) →
    slice_get cs i ≡ Some x →
    find (is_of_peer n) cs ≡ None →
    x.peer ≡ n →
    ⊥
got_other n [] i x is none own = absurd (let got : None ≡ Some x = is in cc)
got_other n (y ∷ cs) zero x is none own = (none_first n y cs none).0 (subst (λ (z : Connection). z.peer ≡ n) (sym (same_Some _ _ is)) own)
got_other n (y ∷ cs) (suc i) x is none own = got_other n cs i x is (none_first n y cs none).1 own

-- ---- one more

pub first_at_push : (n place : ℕ) (c : Connection) (cs : List Connection) (x : Connection) →
    IsFirstAt n place c cs →
    IsFirstAt n place c (cs ++ x ∷ [])
first_at_push n place c [] x first_at = absurd first_at
first_at_push n zero c (y ∷ cs) x first_at = (first_at.0, first_at.1)
first_at_push n (suc place) c (y ∷ cs) x first_at = (first_at.0, first_at_push n place c cs x first_at.1)

pub push_own : (n : ℕ) (cs : List Connection) (x : Connection) →
    find (is_of_peer n) cs ≡ None →
    x.peer ≡ n →
    IsFirstAt n (length cs) x (cs ++ x ∷ [])
push_own n [] x none is = (refl, is)
push_own n (y ∷ cs) x none is = ((none_first n y cs none).0, push_own n cs x (none_first n y cs none).1 is)

pub push_none : (n : ℕ) (cs : List Connection) (x : Connection) →
    (x.peer ≡ n → ⊥) →
    find (is_of_peer n) cs ≡ None →
    find (is_of_peer n) (cs ++ x ∷ []) ≡ None
push_none n [] x other none = none_behind n x [] other none
push_none n (y ∷ cs) x other none = none_behind n y (cs ++ x ∷ []) (none_first n y cs none).0 (push_none n cs x other (none_first n y cs none).1)
