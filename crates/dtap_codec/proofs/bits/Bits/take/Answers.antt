-- SPDX-License-Identifier: MIT OR Apache-2.0
-- The taken bits are a number below 2 ^ width, since the number of all bits is below 2 ^ self.left.
use Rattle.std.proofs.Common.{◌≡◌, ℕ, ◌+◌, ◌-◌, ◌/◌, ◌%◌, ◌^◌, ◌<◌, ◌≤◌, [], ◌∷◌, arith, sym, subst}
use Rattle.std.proofs.lemmas.Nat.{shr_below, shr_split, one_shl}
use Rattle.std.proofs.Math.Nat.{pow-le-pow_right}
use Rattle.dtap_codec.specs.Bits.{Begin, field}
use Rattle.dtap_codec.proofs.Fields.{Begin-one}
use Rattle.dtap_codec.proofs.bits.Bits.take.Goals as goal

below : (number left width : ℕ) → width ≤ left → number < 2 ^ left → number / 2 ^ (left - width) < 2 ^ width
below number left width enough fits =
    let parts : width + (left - width) ≡ left = omega arith in
    let P : ℕ → Type 0 = λ n. number < 2 ^ n in
    shr_below number width (left - width) (subst P (sym parts) fits)

pub overflow_cast-result : goal.overflow_cast-result
overflow_cast-result c =
    let some : 0 < 2 = omega arith in
    omega (arith, below c.args.self.now.number c.args.self.now.left c.args.width c.requires.enough c.args.self.now.fits, pow-le-pow_right some c.requires.octet)

pub returns : goal.returns
returns c =
    let number = c.args.self.now.number in
    let width = c.args.width in
    let left = c.args.self.now.left - width in
    let some : left < 128 = omega (arith, c.args.self.now.few, c.requires.some, c.requires.enough) in
    let P : ℕ → Type 0 = λ m. Begin (field width (number / 2 ^ left) ∷ []) c.args.self.now.left number left (number % m) in
    subst P
    (sym (one_shl left 128 some))
    (Begin-one width (number / 2 ^ left) c.args.self.now.left number left (number % 2 ^ left) (omega (arith, c.requires.enough)) (sym (shr_split number left)) (below number c.args.self.now.left width c.requires.enough c.args.self.now.fits))
