-- SPDX-License-Identifier: MIT OR Apache-2.0
-- Lemmas on joining and comparing fields of bits.
use Rattle.std.proofs.Common.{◌≡◌, ℕ, ◌+◌, ◌*◌, ◌^◌, ◌<◌, List, [], ◌∷◌, ◌++◌, refl, sym, ap, ◌∙◌, subst, arith}
use Rattle.std.proofs.Math.Nat.{mul_assoc, mul_comm, add-mul}
use Rattle.std.proofs.lemmas.Nat.{pow-add, same_from_place, mul-add-lt}
use Rattle.dtap_codec.specs.Bits.{Field, field, width_of, number_of, Fit, Begin}

-- two steps of reading, joined
pub together : (a b c d e : ℕ) → a * (b * c) + (d * c + e) ≡ (a * b + d) * c + e
together a b c d e = omega (arith, mul_assoc a b c, add-mul (a * b) d c)

width_of-append : (fs gs : List Field) → width_of (fs ++ gs) ≡ width_of fs + width_of gs
width_of-append [] gs = omega arith
width_of-append (f ∷ fs) gs = omega (arith, width_of-append fs gs)

number_of-append : (fs gs : List Field) → number_of (fs ++ gs) ≡ number_of fs * 2 ^ width_of gs + number_of gs
number_of-append [] gs = omega arith
number_of-append (f ∷ fs) gs =
    ap (λ n. f.value * 2 ^ n + number_of (fs ++ gs)) (width_of-append fs gs)
    ∙ ap (λ n. f.value * n + number_of (fs ++ gs)) (pow-add 2 (width_of fs) (width_of gs))
    ∙ ap (λ n. f.value * (2 ^ width_of fs * 2 ^ width_of gs) + n) (number_of-append fs gs)
    ∙ together f.value (2 ^ width_of fs) (2 ^ width_of gs) (number_of fs) (number_of gs)

Fit-append : (fs gs : List Field) → Fit fs → Fit gs → Fit (fs ++ gs)
Fit-append [] gs h k = k
Fit-append (f ∷ fs) gs h k = (h.0, Fit-append fs gs h.1 k)

-- fields behind fields
pub Begin-append : {fs gs : List Field} {many number left rest left' rest' : ℕ} → Begin fs many number left rest →
    Begin gs left rest left' rest' → Begin (fs ++ gs) many number left' rest'
Begin-append {fs} {gs} {many} {number} {left} {rest} {left'} {rest'} h k = record {
  bits = omega (arith, width_of-append fs gs, h.bits, k.bits);
  writes =
      h.writes
      ∙ ap (λ n. number_of fs * 2 ^ n + rest) (sym k.bits)
      ∙ ap (λ n. number_of fs * 2 ^ (left' + width_of gs) + n) k.writes
      ∙ ap (λ n. number_of fs * 2 ^ n + (number_of gs * 2 ^ left' + rest')) (omega arith)
      ∙ ap (λ n. number_of fs * n + (number_of gs * 2 ^ left' + rest')) (pow-add 2 (width_of gs) left')
      ∙ together (number_of fs) (2 ^ width_of gs) (2 ^ left') (number_of gs) rest'
      ∙ ap (λ n. n * 2 ^ left' + rest') (sym (number_of-append fs gs));
  fit = Fit-append fs gs h.fit k.fit;
}

-- one field
pub Begin-one : (width value many number left rest : ℕ) → left + width ≡ many → number ≡ value * 2 ^ left + rest →
    value < 2 ^ width → Begin (field width value ∷ []) many number left rest
Begin-one width value many number left rest bits writes fit =
    let one : value ≡ value * 1 + 0 = omega arith in
    record {
      bits = omega arith;
      writes = writes ∙ ap (λ n. n * 2 ^ left + rest) one;
      fit = (fit, tt);
    }

-- fields behind which no bit is left
pub Begin-end : (fs : List Field) (many number left rest : ℕ) → Begin fs many number left rest → left ≡ 0 →
    rest < 2 ^ left → Begin fs many number 0 0
Begin-end fs many number left rest h none fits =
    let P : ℕ → Type 0 = λ n. rest < 2 ^ n in
    let below : rest < 2 ^ 0 = subst P none fits in
    let nothing : rest ≡ 0 = omega arith in
    record {
      bits = omega (arith, h.bits);
      writes = h.writes ∙ ap (λ n. number_of fs * 2 ^ n + rest) none ∙ ap (λ n. number_of fs * 1 + n) nothing;
      fit = h.fit;
    }

-- the number is below what the bits can write
pub number_of-below : (fs : List Field) → Fit fs → number_of fs < 2 ^ width_of fs
number_of-below [] h = omega arith
number_of-below (f ∷ fs) h =
    let P : ℕ → Type 0 = λ n. f.value * 2 ^ width_of fs + number_of fs < n in
    subst P
    (mul_comm (2 ^ width_of fs) (2 ^ f.width) ∙ sym (pow-add 2 f.width (width_of fs)))
    (mul-add-lt f.value (2 ^ width_of fs) (number_of fs) (2 ^ f.width) h.0 (number_of-below fs h.1))

-- how many bits each field has
abbrev pub widths : List Field → List ℕ
widths [] = []
widths (f ∷ fs) = f.width ∷ widths fs

width_of-same : (fs gs : List Field) → widths fs ≡ widths gs → width_of fs ≡ width_of gs
width_of-same [] [] e = refl
width_of-same [] (g ∷ gs) e = absurd cc
width_of-same (f ∷ fs) [] e = absurd cc
width_of-same (f ∷ fs) (g ∷ gs) e =
    let first : f.width ≡ g.width = cc in
    let others : widths fs ≡ widths gs = cc in
    omega (arith, width_of-same fs gs others)

-- Fields of the same widths that write one number are the same.
pub same_fields : (fs gs : List Field) → widths fs ≡ widths gs → Fit fs → Fit gs → number_of fs ≡ number_of gs → fs ≡ gs
same_fields [] [] e h k n = refl
same_fields [] (g ∷ gs) e h k n = absurd cc
same_fields (f ∷ fs) [] e h k n = absurd cc
same_fields (f ∷ fs) (g ∷ gs) e h k n =
    let first : f.width ≡ g.width = cc in
    let others : widths fs ≡ widths gs = cc in
    let width : width_of fs ≡ width_of gs = width_of-same fs gs others in
    let P : ℕ → Type 0 = λ m. number_of gs < 2 ^ m in
    let below : number_of gs < 2 ^ width_of fs = subst P (sym width) (number_of-below gs k.1) in
    let n' : f.value * 2 ^ width_of fs + number_of fs ≡ g.value * 2 ^ width_of fs + number_of gs =
    n ∙ ap (λ m. g.value * 2 ^ m + number_of gs) (sym width) in
    let parts = same_from_place f.value (number_of fs) g.value (number_of gs) (2 ^ width_of fs) (number_of-below fs h.1) below n' in
    let rest : fs ≡ gs = same_fields fs gs others h.1 k.1 parts.1 in
    ap (λ m. field m f.value ∷ fs) first ∙ ap (λ m. field g.width m ∷ fs) parts.0 ∙ ap (λ r. g ∷ r) rest
