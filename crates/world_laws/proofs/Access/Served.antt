-- SPDX-License-Identifier: MIT OR Apache-2.0
-- The mobile on a tenure is the one whose tenure it is.
use Rattle.world_laws.proofs.Prelude.{◌≡◌, ℕ, ◌==◌, ◌&&◌, Bool, true, false, cond, List, [], ◌∷◌, find, option_map, Some, None, refl, sym}
use Rattle.world_laws.proofs.Prelude.{ap, ◌∙◌, AllByRecursion, eqb-true, eq-eqb, Seat, On, Tenure, mobile_on, AllSitBy, Actors, Mobile}
use Rattle.world_laws.proofs.Prelude.{has_number, mobile_of, number_found, and_left, and_right, found_all, same_Some, is_on, is_same}
use Rattle.world_laws.proofs.Prelude.{SitsBy}

same_itself : (t : Tenure) → is_same t t ≡ true
same_itself t =
    ap (λ (b : Bool). (b && (t.at.number == t.at.number)) && (t.number == t.number)) (eq-eqb t.at.station t.at.station refl)
    ∙ ap (λ (b : Bool). b && (t.number == t.number)) (eq-eqb t.at.number t.at.number refl) ∙ eq-eqb t.number t.number refl

same_is : (t other : Tenure) → is_same t other ≡ true → other ≡ t
same_is t other is =
    let places : (t.at.station == other.at.station) && (t.at.number == other.at.number) ≡ true = and_left ((t.at.station == other.at.station) && (t.at.number == other.at.number)) (t.number == other.number) is in
    let station = eqb-true t.at.station other.at.station (and_left (t.at.station == other.at.station) (t.at.number == other.at.number) places) in
    let number = eqb-true t.at.number other.at.number (and_right (t.at.station == other.at.station) (t.at.number == other.at.number) places) in
    let last = eqb-true t.number other.number (and_right ((t.at.station == other.at.station) && (t.at.number == other.at.number)) (t.number == other.number) is) in
    ap (λ (s : ℕ). record { at = record { station = s; number = other.at.number }; number = other.number }) (sym station)
    ∙ ap (λ (k : ℕ). record { at = record { station = t.at.station; number = k }; number = other.number }) (sym number)
    ∙ ap (λ (k : ℕ). record { at = t.at; number = k }) (sym last)

owner-of : (owner : Tenure → ℕ) (t : Tenure) (number : ℕ) (seat : Seat) → SitsBy owner number seat → is_on t seat ≡ true → owner t ≡ number
owner-of owner t number (On other None) sits is = ap owner (sym (same_is t other is)) ∙ sits
owner-of owner t number (On other (Some command)) sits is = ap owner (sym (same_is t other is)) ∙ sits.0
owner-of owner t number _ sits is = absurd cc

on_itself : (t : Tenure) (seat : Seat) → seat ≡ On t None → is_on t seat ≡ true
on_itself t seat is = ap (is_on t) is ∙ same_itself t

first_on : (owner : Tenure → ℕ) (t : Tenure) (mobile : ℕ) (one : Mobile) (ms : List Mobile) → owner t ≡ mobile → one.seat ≡ On t None → find (has_number mobile) ms ≡ Some one → AllByRecursion (λ p. SitsBy owner p.number p.seat) ms
    → option_map (λ p. p.number) (find (λ p. is_on t p.seat) ms) ≡ Some mobile
first_on owner t mobile one [] own seat found all = absurd cc
first_on owner t mobile one (x ∷ ms) own seat found all = by (is_on t x.seat) refl (has_number mobile x) refl (λ rest. first_on owner t mobile one ms own seat rest all.1) where
  by : (b : Bool) → is_on t x.seat ≡ b → (d : Bool) → has_number mobile x ≡ d → (find (has_number mobile) ms ≡ Some one → option_map (λ p. p.number) (find (λ p. is_on t p.seat) ms) ≡ Some mobile)
      → option_map (λ p. p.number) (find (λ p. is_on t p.seat) (x ∷ ms)) ≡ Some mobile
  by true is d number others = ap (λ (b : Bool). option_map (λ (p : Mobile). p.number) (cond b (Some x) (find (λ p. is_on t p.seat) ms))) is ∙ ap (λ (n : ℕ). Some n) (sym (owner-of owner t x.number x.seat all.0 is) ∙ own)
  by false isnt false number others =
      ap (λ (b : Bool). option_map (λ (p : Mobile). p.number) (cond b (Some x) (find (λ p. is_on t p.seat) ms))) isnt ∙ others (sym (ap (λ (b : Bool). cond b (Some x) (find (has_number mobile) ms)) number) ∙ found)
  by false isnt true number others =
      let x_is : x ≡ one = same_Some _ _ (sym (ap (λ (b : Bool). cond b (Some x) (find (has_number mobile) ms)) number) ∙ found) in
      absurd (let both : true ≡ false = sym (on_itself t x.seat (ap (λ (p : Mobile). p.seat) x_is ∙ seat)) ∙ isnt in cc)

pub served_by : (owner : Tenure → ℕ) (w : Actors) (t : Tenure) (mobile : ℕ) (one : Mobile) →
    AllSitBy owner w →
    mobile_of w mobile ≡ Some one →
    one.seat ≡ On t None →
    option_map (λ p. p.number) (mobile_on w t) ≡ Some mobile
served_by owner w t mobile one all found seat =
    let own : SitsBy owner one.number one.seat = found_all (λ p. SitsBy owner p.number p.seat) mobile w.mobiles one all found in
    first_on owner t mobile one w.mobiles (owner-of owner t one.number one.seat own (on_itself t one.seat seat) ∙ number_found mobile w.mobiles one found) seat found all
