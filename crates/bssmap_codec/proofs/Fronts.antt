-- SPDX-License-Identifier: MIT OR Apache-2.0
-- The reading of references, counted values and pointers agrees with the grammar.
use Rattle.std.proofs.Common.{◌≡◌, ◌≢◌, ℕ, suc, ◌+◌, ◌*◌, ◌/◌, ◌%◌, ◌<◌, ◌≤◌, Bool, true, false, ◌||◌, eqb, leb, List, ◌∷◌, ◌++◌, length, drop, Ok, refl, sym, ap, subst, ◌∙◌, append_assoc, arith}
use Rattle.std.proofs.lemmas.Bool.{le-ltb, lt-leb, leb-false, ne_eqb, eqb-false}
use Rattle.std.proofs.lemmas.List.{take_at, drop_at, take-append-drop, length-append, length-take, length-drop}
use Rattle.octets.specs.Element.{AreOctets}
use Rattle.octets.proofs.Steps.{bind_ok, ok_is, guard, octet_ok, counted_ok}
use Rattle.octets.specs.Front.{octet_at, counted_at, counted_text}
use Rattle.bssmap_codec.specs.declared.fault.InterfaceFault.{InterfaceFault}
use Rattle.bssmap_codec.specs.declared.fault.InterfaceFault.TheVariants.{Short, BadPointer}
use Rattle.octets.specs.declared.limits.TheConstants.{LENGTH_LIMIT}
use Rattle.bssmap_codec.specs.declared.sccp_parameters.TheConstants.{NO_PART}
use Rattle.bssmap_codec.specs.Reference.{IsReference, reference_text, references_text, reference_at, references_at}
use Rattle.bssmap_codec.specs.Sccp.{Points, IsCounted as Counted, AreReferences}
use Rattle.bssmap_codec.specs.SccpReading.{part_at}

-- the octets behind the first
pub octets_behind : (x : ℕ) (octets all : List ℕ) → all ≡ x ∷ octets → AreOctets all → AreOctets octets
octets_behind x octets all is fits = λ i. subst AreOctets is fits (suc i)

pub octet_first : (x : ℕ) (octets all : List ℕ) → all ≡ x ∷ octets → AreOctets all → x < 256
octet_first x octets all is fits = subst AreOctets is fits 0

-- ---- references

pub reference_again : (n : ℕ) (rest : List ℕ) → IsReference n → reference_at (reference_text n ++ rest) ≡ Ok (n, rest)
unfolding reference_at octet_at
reference_again n rest h =
    let is : n / 65536 * 65536 + (n / 256) % 256 * 256 + n % 256 ≡ n = omega arith in
    ap (λ (m : ℕ). Ok (m, rest)) is

pub record IsReferred (octets : List ℕ) (p : ℕ × List ℕ) : Type 0 where
  pub is : octets ≡ reference_text p.0 ++ p.1
  pub fits : IsReference p.0
  pub octets_rest : AreOctets p.1

three : (a b c : ℕ) (octets rest : List ℕ) → a < 256 → b < 256 → c < 256 → octets ≡ a ∷ b ∷ c ∷ rest → AreOctets rest →
    IsReferred octets (a * 65536 + b * 256 + c, rest)
three a b c octets rest ha hb hc is fits =
    let first : (a * 65536 + b * 256 + c) / 65536 ≡ a = omega arith in
    let second : ((a * 65536 + b * 256 + c) / 256) % 256 ≡ b = omega arith in
    let third : (a * 65536 + b * 256 + c) % 256 ≡ c = omega arith in
    record { is = is ∙ rw (first, second, third) refl; fits = omega arith; octets_rest = fits }

pub reference_ok : (octets : List ℕ) (p : ℕ × List ℕ) → AreOctets octets → reference_at octets ≡ Ok p → IsReferred octets p
unfolding reference_at
reference_ok octets p fits e =
    let a = bind_ok (octet_at Short octets) _ p e in
    let b = bind_ok (octet_at Short a.0.1) _ p a.2 in
    let c = bind_ok (octet_at Short b.0.1) _ p b.2 in
    let ia = octet_ok Short octets a.0 a.1 in
    let ib = octet_ok Short a.0.1 b.0 b.1 in
    let ic = octet_ok Short b.0.1 c.0 c.1 in
    let fa = octets_behind a.0.0 a.0.1 octets ia fits in
    let fb = octets_behind b.0.0 b.0.1 a.0.1 ib fa in
    let fc = octets_behind c.0.0 c.0.1 b.0.1 ic fb in
    let is : octets ≡ a.0.0 ∷ b.0.0 ∷ c.0.0 ∷ c.0.1 =
    ia ∙ ap (λ (xs : List ℕ). a.0.0 ∷ xs) ib ∙ ap (λ (xs : List ℕ). a.0.0 ∷ b.0.0 ∷ xs) ic in
    subst (IsReferred octets) (ok_is {A = ℕ × List ℕ} {F = InterfaceFault} (a.0.0 * 65536 + b.0.0 * 256 + c.0.0, c.0.1) p c.2)
    (three a.0.0 b.0.0 c.0.0 octets c.0.1 (octet_first a.0.0 a.0.1 octets ia fits) (octet_first b.0.0 b.0.1 a.0.1 ib fa) (octet_first c.0.0 c.0.1 b.0.1 ic fb) is fc)

pub references_again : (octets : List ℕ) (destination source : ℕ) (more : List ℕ) →
    AreReferences octets destination source more → references_at octets ≡ Ok (destination, source, more)
unfolding references_at
references_again octets destination source more r =
    let is : octets ≡ reference_text destination ++ (reference_text source ++ more) = r.is ∙ append_assoc (reference_text destination) (reference_text source) more in
    ap references_at is ∙ rw (reference_again destination (reference_text source ++ more) r.to, reference_again source more r.from) refl

-- what two references are read of, and that octets are behind them
pub record ArePair (octets : List ℕ) (p : ℕ × ℕ × List ℕ) : Type 0 where
  pub are : AreReferences octets p.0 p.1 p.2
  pub octets_rest : AreOctets p.2

pub references_ok : (octets : List ℕ) (p : ℕ × ℕ × List ℕ) → AreOctets octets → references_at octets ≡ Ok p → ArePair octets p
unfolding references_at
references_ok octets p fits e =
    let a = bind_ok (reference_at octets) _ p e in
    let b = bind_ok (reference_at a.0.1) _ p a.2 in
    let ra = reference_ok octets a.0 fits a.1 in
    let rb = reference_ok a.0.1 b.0 ra.octets_rest b.1 in
    let is : octets ≡ references_text a.0.0 b.0.0 ++ b.0.1 =
    ra.is ∙ ap (λ (xs : List ℕ). reference_text a.0.0 ++ xs) rb.is ∙ sym (append_assoc (reference_text a.0.0) (reference_text b.0.0) b.0.1) in
    subst (ArePair octets) (ok_is {A = ℕ × ℕ × List ℕ} {F = InterfaceFault} (a.0.0, b.0.0, b.0.1) p b.2)
    (record { are = record { is = is; to = ra.fits; from = rb.fits }; octets_rest = rb.octets_rest })

-- ---- values with their length before them

pub counted_text_is_read : (value more : List ℕ) → counted_at Short (counted_text value ++ more) ≡ Ok (value, more)
unfolding counted_at octet_at
counted_text_is_read value more =
    rw (le-ltb (length (value ++ more)) (length value) (omega (arith, length-append value more)), take_at value more (length value) refl, drop_at value more (length value) refl) refl

pub counted_again : (octets value : List ℕ) (c : Counted octets value) → counted_at Short octets ≡ Ok (value, c.more)
counted_again octets value c = ap (counted_at Short) c.is ∙ counted_text_is_read value c.more

pub counted_is : (octets : List ℕ) (p : List ℕ × List ℕ) → AreOctets octets → counted_at Short octets ≡ Ok p →
    (octets ≡ counted_text p.0 ++ p.1) × (length p.0 ≤ LENGTH_LIMIT)
counted_is octets p fits e =
    let c = counted_ok Short octets p e in
    let long : length p.0 ≡ c.size = omega (arith, length-take c.size c.rest, ap length c.split.front, c.split.long) in
    let parts : c.rest ≡ p.0 ++ p.1 =
    sym (take-append-drop c.size c.rest) ∙ ap (λ (xs : List ℕ). xs ++ drop c.size c.rest) c.split.front ∙ ap (λ (xs : List ℕ). p.0 ++ xs) c.split.back in
    let first = octet_first c.size c.rest octets c.is fits in
    (c.is ∙ ap (λ (n : ℕ). n ∷ c.rest) (sym long) ∙ ap (λ (xs : List ℕ). length p.0 ∷ xs) parts, omega arith)

pub counted_shorter : (octets : List ℕ) (p : List ℕ × List ℕ) → counted_at Short octets ≡ Ok p → length p.1 < length octets
counted_shorter octets p e =
    let c = counted_ok Short octets p e in
    omega (arith, length-drop c.size c.rest, ap length c.split.back, ap length c.is)

-- ---- pointers

pub part_again : (pointer : ℕ) (octets : List ℕ) → 0 < pointer → pointer < length octets → part_at pointer octets ≡ Ok (drop pointer octets)
unfolding part_at
part_again pointer octets forward within =
    let ne : pointer ≢ NO_PART = omega arith in
    rw (ne_eqb pointer NO_PART ne, lt-leb (length octets) pointer within) refl

or_false : (a b : Bool) → (a || b) ≡ false → (a ≡ false) × (b ≡ false)
or_false true b e = absurd cc
or_false false b e = (refl, e)

pub part_ok : (pointer : ℕ) (rest part : List ℕ) → part_at pointer (pointer ∷ rest) ≡ Ok part → Points (pointer ∷ rest) part
unfolding part_at
part_ok pointer rest part e =
    let g = guard (eqb pointer NO_PART || leb (length (pointer ∷ rest)) pointer) BadPointer (Ok (drop pointer (pointer ∷ rest))) part e in
    let tests = or_false (eqb pointer NO_PART) (leb (length (pointer ∷ rest)) pointer) g.0 in
    let ne : pointer ≢ NO_PART = eqb-false pointer NO_PART tests.0 in
    record {
      pointer = pointer;
      rest = rest;
      is = refl;
      forward = omega arith;
      within = leb-false (length (pointer ∷ rest)) pointer tests.1;
      leads = ok_is {A = List ℕ} {F = InterfaceFault} (drop pointer (pointer ∷ rest)) part g.1;
    }
