-- SPDX-License-Identifier: MIT OR Apache-2.0
-- The octets that links gave and got in a run of `serve_links`, by the number of the link.
use Rattle.std.proofs.Common.{◌≡◌, ℕ, zero, suc, ◌≤◌, ◌<◌, List, [], ◌∷◌, length, refl, sym, ap, subst, arith}
use Rattle.std.proofs.Math.ListN.{get_elem?}
use Rattle.std.specs.Io.KnownBytes.{Appends, Consumes}
use mathlib.Core.Option.{some}
use Rattle.controller_model.specs.Controller.{new_controller}
use Rattle.octets.specs.Lists.{IsPrefix}
use Rattle.relay_order.specs.Run.{IsRun, IsShownBy, Run}
use Rattle.settings.specs.Parameters.{Parameters}
use Rattle.station_io.specs.Links.{Ended, LinkView}
use Rattle.station_io.specs.Octets.{AreFirstOf, Passes, PassesOctets, octets_put}

-- ---- what is got of each pair of two lists, by its place

module _ {A B X : Type 0} (nothing : X) where
  abbrev at_pair : (P : ℕ → A → B → Type 0) → ((n : ℕ) (a : A) (b : B) → P n a b → X) → (xs : List A) (ys : List B)
      → ((n : ℕ) (a : A) (b : B) → get_elem? xs n ≡ some a → get_elem? ys n ≡ some b → P n a b) → ℕ → X
  at_pair P seen [] ys each n = nothing
  at_pair P seen (a ∷ xs) [] each n = nothing
  at_pair P seen (a ∷ xs) (b ∷ ys) each zero = seen 0 a b (each 0 a b refl refl)
  at_pair P seen (a ∷ xs) (b ∷ ys) each (suc n) = at_pair (λ k. P (suc k)) (λ k. seen (suc k)) xs ys (λ k x y. each (suc k) x y) n

  pair_is : (P : ℕ → A → B → Type 0) (seen : (n : ℕ) (a : A) (b : B) → P n a b → X) (xs : List A) (ys : List B)
      (each : (n : ℕ) (a : A) (b : B) → get_elem? xs n ≡ some a → get_elem? ys n ≡ some b → P n a b) (n : ℕ) (a : A) (b : B)
      → get_elem? xs n ≡ some a → get_elem? ys n ≡ some b → (p : P n a b) × (at_pair P seen xs ys each n ≡ seen n a b p)
  pair_is P seen [] ys each n a b is_a is_b = absurd (cc is_a)
  pair_is P seen (x ∷ xs) [] each n a b is_a is_b = absurd (cc is_b)
  pair_is P seen (x ∷ xs) (y ∷ ys) each zero a b is_a is_b =
      let same_a : x ≡ a = cc is_a in
      let same_b : y ≡ b = cc is_b in
      subst (λ (c : A). (p : P 0 c b) × (at_pair P seen (x ∷ xs) (y ∷ ys) each 0 ≡ seen 0 c b p)) same_a
      (subst (λ (d : B). (p : P 0 x d) × (at_pair P seen (x ∷ xs) (y ∷ ys) each 0 ≡ seen 0 x d p)) same_b (each 0 x y refl refl, refl))
  pair_is P seen (x ∷ xs) (y ∷ ys) each (suc n) a b is_a is_b = pair_is (λ k. P (suc k)) (λ k. seen (suc k)) xs ys (λ k x y. each (suc k) x y) n a b is_a is_b

  none_past : (P : ℕ → A → B → Type 0) (seen : (n : ℕ) (a : A) (b : B) → P n a b → X) (xs : List A) (ys : List B)
      (each : (n : ℕ) (a : A) (b : B) → get_elem? xs n ≡ some a → get_elem? ys n ≡ some b → P n a b) (n : ℕ)
      → length xs ≤ n → at_pair P seen xs ys each n ≡ nothing
  none_past P seen [] ys each n past = refl
  none_past P seen (a ∷ xs) [] each n past = refl
  none_past P seen (a ∷ xs) (b ∷ ys) each zero past = absurd (omega (arith, past))
  none_past P seen (a ∷ xs) (b ∷ ys) each (suc n) past = none_past (λ k. P (suc k)) (λ k. seen (suc k)) xs ys (λ k x y. each (suc k) x y) n (omega (arith, past))

one_there : {A : Type 0} (xs : List A) (n : ℕ) → n < length xs → (a : A) × (get_elem? xs n ≡ some a)
one_there [] n less = absurd (omega (arith, less))
one_there (a ∷ xs) zero less = (a, refl)
one_there (a ∷ xs) (suc n) less = one_there xs n (omega (arith, less))

-- ---- a run of `serve_links`

module _ (settings : Parameters) (links : List LinkView) (ended : List Ended) (count : length ended ≡ length links) (passes : PassesOctets (new_controller settings) links ended) where
  abbrev PassesAt : ℕ → LinkView → Ended → Type 0
  PassesAt number old now = Passes (new_controller settings) passes.0 passes.1 number old now

  abbrev octets_of : (number : ℕ) (old : LinkView) (now : Ended) → PassesAt number old now → List ℕ × List ℕ
  octets_of number old now p = (p.octets, p.part.0)

  abbrev both : ℕ → List ℕ × List ℕ
  both = at_pair ([], []) PassesAt octets_of links ended passes.4

  abbrev run_of : Run
  run_of = record { read = λ number. (both number).0; written = λ number. (both number).1; came = passes.1; order = passes.0 }

  at_link : (number : ℕ) (old : LinkView) (now : Ended) → get_elem? links number ≡ some old → get_elem? ended number ≡ some now
      → (p : PassesAt number old now) × (both number ≡ (p.octets, p.part.0))
  at_link number old now is_old is_now = pair_is ([], []) PassesAt octets_of links ended passes.4 number old now is_old is_now

  shown : IsShownBy run_of links ended
  shown number old now is_old is_now =
      let at = at_link number old now is_old is_now in (
        subst (λ (x : List ℕ × List ℕ). Consumes old.unread now.link.unread x.0) (sym at.1) at.0.read,
        subst (λ (x : List ℕ × List ℕ). Appends old.written now.link.written x.1) (sym at.1) at.0.part.3,
      )

  there : (number : ℕ) →
      number < length links →
      (old : LinkView) × (now : Ended) × (p : PassesAt number old now) × (both number ≡ (p.octets, p.part.0))
  there number less =
      let old = one_there links number less in
      let now = one_there ended number (omega (arith, less, count)) in
      let at = at_link number old.0 now.0 old.1 now.1 in
      (old.0, now.0, at.0, at.1)

  is_run : IsRun settings (length links) run_of
  is_run = record {
    first = λ link less. let at = there link less in subst (λ (x : List ℕ × List ℕ). AreFirstOf x.0 (passes.1 link)) (sym at.3) at.2.first;
    others = passes.3;
    part = λ link less.
        let at = there link less in
        subst (λ (x : List ℕ × List ℕ). IsPrefix x.1 (octets_put (new_controller settings) passes.0 passes.1 link)) (sym at.3) (at.2.part.1, sym at.2.part.2);
    no_others = λ link past. ap (λ (x : List ℕ × List ℕ). x.1) (none_past ([], []) PassesAt octets_of links ended passes.4 link past);
  }

pub runs_are_shown : (settings : Parameters) (links : List LinkView) (ended : List Ended) → length ended ≡ length links → PassesOctets (new_controller settings) links ended
    → (run : Run) × IsShownBy run links ended × IsRun settings (length links) run
runs_are_shown settings links ended count passes = (run_of settings links ended count passes, shown settings links ended count passes, is_run settings links ended count passes)
