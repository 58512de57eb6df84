-- SPDX-License-Identifier: MIT OR Apache-2.0
-- The mobile of a number, and the channel that it is on.
use Rattle.world_actors.proofs.Prelude.{◌≡◌, ℕ, Bool, true, false, if◌then◌else◌, List, [], ◌∷◌, set, Option, Some, None, refl, sym, ap}
use Rattle.world_actors.proofs.Prelude.{◌∙◌, subst, option_and_then, option_map, find_at, at_mobile, mobile_in, Seat, Asking, On, Moving}
use Rattle.world_actors.proofs.Prelude.{Gone, Tenure, by_mobile, Actors, Mobile, Station, has_number, is_reached, mobile_of, no_station}
use Rattle.world_actors.proofs.Prelude.{put_back, some_same}
use Rattle.std.proofs.Common.{zero, suc, cond, slice_index_or, find, inl, inr}
use Rattle.std.specs.Option.{is_some}
use Rattle.std.proofs.lemmas.Bool.{cases_Bool}
use Rattle.world_ends.specs.Mobiles.{at_found, place_in}
use Rattle.world_model.specs.declared.seat.Command.{Command}
use Rattle.world_actors.specs.Seats.{reached_by, reached_from}
use Rattle.world_actors.proofs.Upper.{back_at, first_found, found_number, mobiles_of}

-- ---- a mobile

pub record Sits (w : Actors) (number : ℕ) (seat : Seat) : Type 0 where
  pub mobile : Mobile
  pub found : mobile_of w number ≡ Some mobile
  pub sits : mobile.seat ≡ seat

pub seat_found : (w : Actors) (number : ℕ) (seat : Seat) →
    option_map (λ (p : Mobile). p.seat) (mobile_in number w.mobiles) ≡ Some seat →
    Sits w number seat
seat_found w number seat is = by_found (mobile_in number w.mobiles) (find_at (has_number number) w.mobiles) is where
  by_found : (o : Option Mobile) → mobile_of w number ≡ o → option_map (λ (p : Mobile). p.seat) o ≡ Some seat → Sits w number seat
  by_found None are h = absurd cc
  by_found (Some p) are h = record { mobile = p; found = are; sits = some_same h }

-- what a mobile does by its seat
pub when_sits : (w : Actors) (number : ℕ) (seat : Seat) (act : Mobile → Seat → Option Actors) (s : Sits w number seat) →
    by_mobile w number (λ p. act p p.seat) ≡ act s.mobile seat
when_sits w number seat act s = ap (λ (o : Option Mobile). option_and_then (λ p. act p p.seat) o) s.found ∙ ap (λ (x : Seat). act s.mobile x) s.sits

-- none of a mobile that isn't there
pub when_missing : (w : Actors) (number : ℕ) (act : Mobile → Seat → Option Actors) → option_map (λ (p : Mobile). p.seat) (mobile_in number w.mobiles) ≡ None
    → by_mobile w number (λ p. act p p.seat) ≡ None
when_missing w number act none = by_found (mobile_in number w.mobiles) (find_at (has_number number) w.mobiles) none where
  by_found : (o : Option Mobile) →
      mobile_of w number ≡ o →
      option_map (λ (p : Mobile). p.seat) o ≡ None →
      by_mobile w number (λ p. act p p.seat) ≡ None
  by_found None are h = ap (λ (o : Option Mobile). option_and_then (λ p. act p p.seat) o) are
  by_found (Some p) are h = absurd cc

pub same_acts : (w : Actors) (number : ℕ) (f g : Mobile → Seat → Option Actors) → ((p : Mobile) (s : Seat) → f p s ≡ g p s)
    → by_mobile w number (λ p. f p p.seat) ≡ by_mobile w number (λ p. g p p.seat)
same_acts w number f g same = by_found (mobile_of w number) where
  by_found : (o : Option Mobile) → option_and_then (λ p. f p p.seat) o ≡ option_and_then (λ p. g p p.seat) o
  by_found None = refl
  by_found (Some p) = same p p.seat

-- ---- on a channel where it is reached

pub record Reached (w : Actors) (number : ℕ) (tenure : Tenure) : Type 0 where
  pub command : Option Command
  pub on : Sits w number (On tenure command)
  pub reached : is_reached w tenure ≡ true

pub reaches : (w : Actors) (number : ℕ) (tenure : Tenure) → reached_by w number ≡ Some tenure → Reached w number tenure
reaches w number tenure is = by_found (mobile_in number w.mobiles) (find_at (has_number number) w.mobiles) is where
  by_reach : (p : Mobile) (t : Tenure) (c : Option Command) (b : Bool) →
      mobile_of w number ≡ Some p →
      p.seat ≡ On t c →
      is_reached w t ≡ b →
      (if b then Some t else None) ≡ Some tenure →
      Reached w number tenure
  by_reach p t c true are sits reached h =
      let same : t ≡ tenure = some_same h in
      record {
        command = c;
        on = record { mobile = p; found = are; sits = sits ∙ ap (λ (x : Tenure). On x c) same };
        reached = subst (λ (x : Tenure). is_reached w x ≡ true) same reached;
      }
  by_reach p t c false are sits reached h = absurd cc

  by_seat : (p : Mobile) (seat : Seat) →
      mobile_of w number ≡ Some p →
      p.seat ≡ seat →
      reached_from w seat ≡ Some tenure →
      Reached w number tenure
  by_seat p (On t c) are sits h = by_reach p t c (is_reached w t) are sits refl h
  by_seat p Asking are sits h = absurd cc
  by_seat p (Moving from command) are sits h = absurd cc
  by_seat p Gone are sits h = absurd cc

  by_found : (o : Option Mobile) →
      mobile_of w number ≡ o →
      option_and_then (λ (p : Mobile). reached_from w p.seat) o ≡ Some tenure →
      Reached w number tenure
  by_found None are h = absurd cc
  by_found (Some p) are h = by_seat p p.seat are refl h

pub none_reached : (o : Option Tenure) → is_some o ≡ false → o ≡ None
none_reached None is = refl
none_reached (Some tenure) is = absurd cc

pub some_reached : (w : Actors) (number : ℕ) (o : Option Tenure) →
    o ≡ reached_by w number →
    is_some o ≡ true →
    (tenure : Tenure) × Reached w number tenure
some_reached w number None are is = absurd cc
some_reached w number (Some tenure) are is = (tenure, reaches w number tenure (sym are))

abbrev pub at_reached : Actors → (Mobile → Tenure → Option Actors) → Mobile → Seat → Option Actors
at_reached w act p (On tenure command) = if is_reached w tenure then act p tenure else None
at_reached w act p seat = None

pub when_reached : (w : Actors) (number : ℕ) (tenure : Tenure) (act : Mobile → Tenure → Option Actors) (r : Reached w number tenure)
    → by_mobile w number (λ p. at_reached w act p p.seat) ≡ act r.on.mobile tenure
when_reached w number tenure act r =
    when_sits w number (On tenure r.command) (at_reached w act) r.on ∙ ap (λ (b : Bool). if b then act r.on.mobile tenure else None) r.reached

pub when_not_reached : (w : Actors) (number : ℕ) (act : Mobile → Tenure → Option Actors) →
    reached_by w number ≡ None →
    by_mobile w number (λ p. at_reached w act p p.seat) ≡ None
when_not_reached w number act none = by_found (mobile_in number w.mobiles) (find_at (has_number number) w.mobiles) none where
  by_reach : (p : Mobile) (t : Tenure) (b : Bool) → (if b then Some t else None) ≡ None → (if b then act p t else None) ≡ None
  by_reach p t true h = absurd cc
  by_reach p t false h = refl

  by_seat : (p : Mobile) (seat : Seat) → reached_from w seat ≡ None → at_reached w act p seat ≡ None
  by_seat p (On t c) h = by_reach p t (is_reached w t) h
  by_seat p Asking h = refl
  by_seat p (Moving from command) h = refl
  by_seat p Gone h = refl

  by_found : (o : Option Mobile) →
      mobile_of w number ≡ o →
      option_and_then (λ (p : Mobile). reached_from w p.seat) o ≡ None →
      by_mobile w number (λ p. at_reached w act p p.seat) ≡ None
  by_found None are h = ap (λ (o : Option Mobile). option_and_then (λ p. at_reached w act p p.seat) o) are
  by_found (Some p) are h = ap (λ (o : Option Mobile). option_and_then (λ p. at_reached w act p p.seat) o) are ∙ by_seat p p.seat h

-- ---- it is put back in its place

pub at_mobile_is : (w : Actors) (number : ℕ) (p : Mobile) (happens : Mobile → Mobile) → mobile_of w number ≡ Some p → (happens p).number ≡ p.number
    → at_mobile number happens (mobiles_of w) ≡ record (mobiles_of w) { mobiles = put_back (happens p) w.mobiles }
at_mobile_is w number p happens found keeps =
    ap (λ (o : Option Mobile). at_found number happens (mobiles_of w) o) (sym (find_at (has_number number) w.mobiles) ∙ found)
    ∙ sym (ap (λ (mobiles : List Mobile). record (mobiles_of w) { mobiles = mobiles }) (back_at w.mobiles (happens p) ∙ ap (λ (n : ℕ). set w.mobiles (place_in n w.mobiles) (happens p)) (keeps ∙ found_number number w.mobiles p found)))

pub put_back_same : (number : ℕ) (mobiles : List Mobile) (p : Mobile) →
    p.number ≡ number →
    find (has_number number) mobiles ≡ Some p →
    put_back p mobiles ≡ mobiles
put_back_same number [] p is h = absurd cc
put_back_same number (x ∷ xs) p is h =
    ap (λ (n : ℕ). if has_number n x then p ∷ xs else x ∷ put_back p xs) is
    ∙ elim (cases_Bool (has_number number x)) [
      | inl here ↦
          let same : x ≡ p = first_found number x p xs here h in
          ap (λ (b : Bool). if b then p ∷ xs else x ∷ put_back p xs) here ∙ ap (λ (y : Mobile). y ∷ xs) (sym same)
      | inr other ↦
          ap (λ (b : Bool). if b then p ∷ xs else x ∷ put_back p xs) other
          ∙ ap (λ (all : List Mobile). x ∷ all) (put_back_same number xs p is (sym (ap (λ (b : Bool). cond b (Some x) (find (has_number number) xs)) other) ∙ h))
    ]

-- ---- a station is changed twice

pub twice : (stations : List Station) (k : ℕ) (one : Station) (happens : Station → Station)
    → set (set stations k one) k (happens (slice_index_or (set stations k one) k no_station)) ≡ set stations k (happens one)
twice [] k one happens = refl
twice (s ∷ rest) zero one happens = refl
twice (s ∷ rest) (suc k) one happens = ap (λ (all : List Station). s ∷ all) (twice rest k one happens)
