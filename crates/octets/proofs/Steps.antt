-- SPDX-License-Identifier: MIT OR Apache-2.0
-- Values of steps that succeeded, and calls that return what octets are read as.
use Rattle.std.proofs.Common.{◌≡◌, ◌⊎◌, ℕ, ◌≤◌, Bool, true, false, cond, ltb, List, [], ◌∷◌, length, take, drop, None, Result, Ok, Err, IfOk, refl, sym, ap, ◌∙◌, inl, inr}
use Rattle.std.specs.Prelude.{IsOk}
use Rattle.std.proofs.lemmas.Bool.{ltb-false}
use Rattle.std.specs.Result.{result_err}
use Rattle.octets.specs.Answer.{◌>>=◌, result_map, Gives}
use Rattle.octets.specs.Front.{octet_at, split_at, counted_at}
use Rattle.octets.specs.Refusal.{RefusesBy}

-- the value of a step that was not refused
pub bind_ok : {A B F : Type 0} (r : Result A F) (f : A → Result B F) (y : B) → (r >>= f) ≡ Ok y → (x : A) × (r ≡ Ok x) × (f x ≡ Ok y)
bind_ok (Ok x) f y e = (x, refl, e)
bind_ok (Err fault) f y e = absurd cc

pub ok_is : {A F : Type 0} (x y : A) → (let r : Result A F = Ok x in r) ≡ Ok y → x ≡ y
ok_is x y e = cc

pub result_map_ok : {A B F : Type 0} (f : A → B) (r : Result A F) (y : B) → result_map f r ≡ Ok y → (x : A) × (r ≡ Ok x) × (f x ≡ y)
result_map_ok {A} {B} {F} f (Ok x) y e = (x, refl, ok_is {A = B} {F = F} (f x) y e)
result_map_ok f (Err fault) y e = absurd cc

-- what a test lets through
pub guard : {A F : Type 0} (b : Bool) (fault : F) (r : Result A F) (y : A) → cond b (Err fault) r ≡ Ok y → (b ≡ false) × (r ≡ Ok y)
guard true fault r y e = absurd cc
guard false fault r y e = (refl, e)

pub passed : {A F : Type 0} (b : Bool) (fault : F) (r : Result A F) (y : A) → cond b r (Err fault) ≡ Ok y → (b ≡ true) × (r ≡ Ok y)
passed true fault r y e = (refl, e)
passed false fault r y e = absurd cc

-- ---- what is at the front

pub octet_ok : {F : Type 0} (fault : F) (octets : List ℕ) (p : ℕ × List ℕ) → octet_at fault octets ≡ Ok p → octets ≡ p.0 ∷ p.1
unfolding octet_at
octet_ok fault [] p e = absurd cc
octet_ok {F} fault (x ∷ octets) p e = let is = ok_is {A = ℕ × List ℕ} {F = F} (x, octets) p e in ap (λ (q : ℕ × List ℕ). q.0 ∷ q.1) is

-- what is split off is there
pub record IsSplit (size : ℕ) (octets : List ℕ) (p : List ℕ × List ℕ) : Type 0 where
  pub long : size ≤ length octets
  pub front : take size octets ≡ p.0
  pub back : drop size octets ≡ p.1

pub split_ok : {F : Type 0} (fault : F) (size : ℕ) (octets : List ℕ) (p : List ℕ × List ℕ) →
    split_at fault size octets ≡ Ok p → IsSplit size octets p
split_ok {F} fault size octets p e =
    let g = guard (ltb (length octets) size) fault (Ok (take size octets, drop size octets)) p e in
    let is = ok_is {A = List ℕ × List ℕ} {F = F} (take size octets, drop size octets) p g.1 in
    record { long = ltb-false _ _ g.0; front = ap (λ (q : List ℕ × List ℕ). q.0) is; back = ap (λ (q : List ℕ × List ℕ). q.1) is }

-- a counted value with what is behind it
pub record IsCounted (octets : List ℕ) (p : List ℕ × List ℕ) : Type 0 where
  pub size : ℕ
  pub rest : List ℕ
  pub is : octets ≡ size ∷ rest
  pub split : IsSplit size rest p

pub counted_ok : {F : Type 0} (fault : F) (octets : List ℕ) (p : List ℕ × List ℕ) → counted_at fault octets ≡ Ok p → IsCounted octets p
unfolding counted_at
counted_ok fault octets p e =
    let a = bind_ok (octet_at fault octets) (λ size. split_at fault size.0 size.1) p e in
    record { size = a.0.0; rest = a.0.1; is = octet_ok fault octets a.0 a.1; split = split_ok fault a.0.0 a.0.1 p a.2 }

-- ---- what a call answers that gives what is read

ok_none : {V F : Type 0} (read : Result V F) → IsOk read → result_err read ≡ None
ok_none (Ok v) h = refl
ok_none (Err fault) h = absurd cc

pub refused_by : {V F : Type 0} (memory : F) (r : Result V F) (read : Result V F) → Gives memory (λ v. v) r read →
    RefusesBy memory r (result_err read)
refused_by memory (Ok v) read g = ap result_err g
refused_by memory (Err fault) read (inl g) = inl (ap result_err g)
refused_by memory (Err fault) read (inr g) = inr (g.0, ok_none read g.1)

pub only_by : {V F : Type 0} (memory : F) (r : Result V F) (read : Result V F) (v : V) → read ≡ Ok v →
    Gives memory (λ v. v) r read → (r ≡ Ok v) ⊎ (r ≡ Err memory)
only_by memory (Ok w) read v is g = inl (sym g ∙ is)
only_by memory (Err fault) read v is (inl g) = absurd (cc (g, is))
only_by {V} {F} memory (Err fault) read v is (inr g) = inr (ap (λ (f : F). Err f) g.0)

pub found_by : {V F : Type 0} (memory : F) (r : Result V F) (read : Result V F) (P : V → Type 0) →
    ((v : V) → read ≡ Ok v → P v) → Gives memory (λ v. v) r read → IfOk r P
found_by memory (Ok v) read P ok g = ok v g
found_by memory (Err fault) read P ok g = tt
