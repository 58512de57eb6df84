-- SPDX-License-Identifier: MIT OR Apache-2.0
-- What happens to a mobile happens to the one of its number.
use Rattle.world_actors.proofs.Prelude.{◌≡◌, ℕ, Bool, true, false, ◌&&◌, if◌then◌else◌, List, [], ◌∷◌, set, Option, Some, None, Result, Ok}
use Rattle.world_actors.proofs.Prelude.{Err, OnErr, IsSome, refl, sym, ap, ◌∙◌, subst, option_and_then, option_map, find_at, Sapi, Memory}
use Rattle.world_actors.proofs.Prelude.{by_mobile_in, MobilesState, by_mobile, only_if, Takes, Actors, Mobile, has_number, mobile_of}
use Rattle.world_actors.proofs.Prelude.{put_back, some_same}
use Rattle.std.proofs.Common.{zero, suc, ◌+◌, cond, not, find, IfOk, inl, inr, arith}
use Rattle.std.specs.Option.{is_none}
use Rattle.std.proofs.lemmas.Bool.{cases_Bool, eqb-true}
use Rattle.mobile_end.specs.Mobile.{after_queue, refusal_of_send}
use Rattle.world_ends.specs.Mobiles.{place_in, sending, with_mobile_in}
use Rattle.world_model.specs.Mobiles.{after_upper, may_send, sent_by}
use Rattle.world_model.specs.World.{with_mobile}

-- ---- the place of a number

length_place : (number : ℕ) (p : Mobile) (ps : List Mobile) (b : Bool) →
    has_number number p ≡ b →
    place_in number (p ∷ ps) ≡ cond b zero (suc (place_in number ps))
length_place number p ps true is = ap (λ (b : Bool). cond (not b) (1 + place_in number ps) zero) is
length_place number p ps false is = ap (λ (b : Bool). cond (not b) (1 + place_in number ps) zero) is ∙ one (place_in number ps) where
  one : (n : ℕ) → 1 + n ≡ suc n
  one n = omega arith

pub back_at : (mobiles : List Mobile) (q : Mobile) → put_back q mobiles ≡ set mobiles (place_in q.number mobiles) q
back_at [] q = refl
back_at (p ∷ ps) q =
    elim (cases_Bool (has_number q.number p)) [
      | inl here ↦
          ap (λ (b : Bool). if b then q ∷ ps else p ∷ put_back q ps) here ∙ sym (ap (λ (k : ℕ). set (p ∷ ps) k q) (length_place q.number p ps true here))
      | inr other ↦
          ap (λ (b : Bool). if b then q ∷ ps else p ∷ put_back q ps) other ∙ ap (λ (xs : List Mobile). p ∷ xs) (back_at ps q)
          ∙ sym (ap (λ (k : ℕ). set (p ∷ ps) k q) (length_place q.number p ps false other))
    ]

pub first_found : (number : ℕ) (x p : Mobile) (xs : List Mobile) →
    has_number number x ≡ true →
    find (has_number number) (x ∷ xs) ≡ Some p →
    x ≡ p
first_found number x p xs here is = some_same (sym (ap (λ (b : Bool). cond b (Some x) (find (has_number number) xs)) here) ∙ is)

pub found_number : (number : ℕ) (mobiles : List Mobile) (p : Mobile) → find (has_number number) mobiles ≡ Some p → p.number ≡ number
found_number number [] p is = absurd cc
found_number number (x ∷ xs) p is =
    elim (cases_Bool (has_number number x)) [
      | inl here ↦
          subst (λ (m : Mobile). m.number ≡ number) (first_found number x p xs here is) (eqb-true x.number number here)
      | inr other ↦ found_number number xs p (sym (ap (λ (b : Bool). cond b (Some x) (find (has_number number) xs)) other) ∙ is)
    ]

-- ---- the mobiles of a world

abbrev pub mobiles_of : Actors → MobilesState
mobiles_of w = record { modulus = w.modulus; mobiles = w.mobiles }

abbrev pub with_mobiles : Actors → MobilesState → Actors
with_mobiles w s = record w { modulus = s.modulus; mobiles = s.mobiles }

-- what a mobile does by itself
pub by_itself : (w : Actors) (number : ℕ) (happens : Mobile → Option Mobile) → ((p q : Mobile) → happens p ≡ Some q → q.number ≡ p.number)
    → by_mobile w number (λ p. option_map (λ q. with_mobile q w) (happens p)) ≡ option_map (with_mobiles w) (by_mobile_in number happens (mobiles_of w))
by_itself w number happens keeps =
    by_found (find (has_number number) w.mobiles) refl
    ∙ ap (λ (o : Option Mobile). option_map (with_mobiles w) (option_map (λ p. with_mobile_in number p (mobiles_of w)) (option_and_then happens o))) (find_at (has_number number) w.mobiles) where
      back : (q : Mobile) → q.number ≡ number → with_mobile q w ≡ with_mobiles w (with_mobile_in number q (mobiles_of w))
      back q is = ap (λ (mobiles : List Mobile). record w { mobiles = mobiles }) (back_at w.mobiles q ∙ ap (λ (n : ℕ). set w.mobiles (place_in n w.mobiles) q) is)

      by_next : (p : Mobile) → find (has_number number) w.mobiles ≡ Some p → (o : Option Mobile) → happens p ≡ o
          → option_map (λ q. with_mobile q w) o ≡ option_map (with_mobiles w) (option_map (λ q. with_mobile_in number q (mobiles_of w)) o)
      by_next p found None is = refl
      by_next p found (Some q) is = ap (λ (v : Actors). Some v) (back q (keeps p q is ∙ found_number number w.mobiles p found))

      by_found : (o : Option Mobile) → find (has_number number) w.mobiles ≡ o
          → option_and_then (λ p. option_map (λ q. with_mobile q w) (happens p)) o ≡ option_map (with_mobiles w) (option_map (λ p. with_mobile_in number p (mobiles_of w)) (option_and_then happens o))
      by_found None is = refl
      by_found (Some p) is = by_next p is (happens p) refl

-- ---- its upper layers send

sends_by : (w : Actors) (sapi : Sapi) (message : List ℕ) (p : Mobile) →
    sent_by w sapi message p ≡ option_map (λ q. with_mobile q w) (sending sapi message p)
sends_by w sapi message p = by_may (may_send p.seat && is_none (refusal_of_send p.end sapi message)) where
  by_may : (b : Bool) → only_if b (with_mobile (record p { end = after_queue p.end sapi message }) w)
      ≡ option_map (λ q. with_mobile q w) (if b then Some (record p { end = after_queue p.end sapi message }) else None)
  by_may true = refl
  by_may false = refl

sends_keep : (sapi : Sapi) (message : List ℕ) (p q : Mobile) → sending sapi message p ≡ Some q → q.number ≡ p.number
sends_keep sapi message p q is = by_may (may_send p.seat && is_none (refusal_of_send p.end sapi message)) is where
  by_may : (b : Bool) → (if b then Some (record p { end = after_queue p.end sapi message }) else None) ≡ Some q → q.number ≡ p.number
  by_may true h = sym (same h) where
    same : {x : Mobile} → Some x ≡ Some q → x.number ≡ q.number
    same e = cc
  by_may false h = absurd cc

upper_is : (w : Actors) (number : ℕ) (sapi : Sapi) (message : List ℕ) →
    after_upper w number sapi message ≡ option_map (with_mobiles w) (by_mobile_in number (sending sapi message) (mobiles_of w))
upper_is w number sapi message = by_found (mobile_of w number) ∙ by_itself w number (sending sapi message) (sends_keep sapi message) where
  by_found : (o : Option Mobile) →
      option_and_then (sent_by w sapi message) o ≡ option_and_then (λ p. option_map (λ q. with_mobile q w) (sending sapi message p)) o
  by_found None = refl
  by_found (Some p) = sends_by w sapi message p

-- ---- a part of the world that takes an event takes it for the world

pub takes_for : (w : Actors) (o : Option MobilesState) (taken : Bool) (new : MobilesState) →
    Takes (mobiles_of w) o taken new →
    Takes w (option_map (with_mobiles w) o) taken (with_mobiles w new)
takes_for w None taken new (not, same) = (not, ap (with_mobiles w) same)
takes_for w (Some next) taken new (is, same) = (is, ap (with_mobiles w) same)

pub upper_takes : (r : Result Bool Memory) (w : Actors) (number : ℕ) (sapi : Sapi) (message : List ℕ) (new : MobilesState)
    → IfOk r (λ taken. Takes (mobiles_of w) (by_mobile_in number (sending sapi message) (mobiles_of w)) taken new)
    → IfOk r (λ taken. Takes w (after_upper w number sapi message) taken (with_mobiles w new))
upper_takes (Err memory) w number sapi message new takes = tt
upper_takes (Ok taken) w number sapi message new takes =
    subst (λ (o : Option Actors). Takes w o taken (with_mobiles w new)) (sym (upper_is w number sapi message)) (takes_for w _ taken new takes)

pub upper_wants : (r : Result Bool Memory) (w : Actors) (number : ℕ) (sapi : Sapi) (message : List ℕ)
    → OnErr r (IsSome (by_mobile_in number (sending sapi message) (mobiles_of w))) → OnErr r (IsSome (after_upper w number sapi message))
upper_wants (Ok taken) w number sapi message wants = tt
upper_wants (Err memory) w number sapi message wants =
    subst (λ (o : Option Actors). IsSome o) (sym (upper_is w number sapi message)) (some_for (by_mobile_in number (sending sapi message) (mobiles_of w)) wants) where
      some_for : (o : Option MobilesState) → IsSome o → IsSome (option_map (with_mobiles w) o)
      some_for None some = some
      some_for (Some s) some = refl
