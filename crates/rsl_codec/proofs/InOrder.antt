-- SPDX-License-Identifier: MIT OR Apache-2.0
-- A body of three elements in written order.
use Rattle.std.proofs.Common.{◌≡◌, ℕ, ◌+◌, ◌*◌, ◌/◌, ◌%◌, ◌<◌, ◌≤◌, ◌-◌, false, List, [], ◌∷◌, length, get_or, take, drop, ap, refl, sym, ◌∙◌, append-nil, arith}
use Rattle.std.proofs.lemmas.List.{take_all}
use Rattle.octets.specs.declared.element.Format.TheVariants.{Tv, TlvE}
use Rattle.octets.specs.Element.{element, AreOctets, IsElement}
use Rattle.octets.specs.Walk.{finding, walk}
use Rattle.octets.proofs.Grammar.{walk_only}
use Rattle.rsl_codec.specs.declared.identifiers.TheConstants.{ELEMENTS}
use Rattle.rsl_codec.specs.RslReading.{data_elements}

l3_is : (high low : ℕ) (l3 : List ℕ) → high < 256 → low < 256 → length l3 ≡ 256 * high + low →
    IsElement ELEMENTS (element 0x0b l3) (0x0b ∷ high ∷ low ∷ l3)
l3_is high low l3 one two long =
    let first : length l3 / 256 ≡ high = omega arith in
    let second : length l3 % 256 ≡ low = omega arith in
    record { format = TlvE; known = refl; size = omega arith; text = rw (first, second) refl }

pub in_order : (channel link high low : ℕ) (l3 : List ℕ) → high < 256 → low < 256 → length l3 ≡ 256 * high + low
    → walk ELEMENTS (0x01 ∷ channel ∷ 0x02 ∷ link ∷ 0x0b ∷ high ∷ low ∷ l3) ≡ finding (data_elements channel link l3) false
in_order channel link high low l3 one two long =
    walk_only ELEMENTS _ (data_elements channel link l3) false (
      0x01 ∷ channel ∷ [],
      0x02 ∷ link ∷ 0x0b ∷ high ∷ low ∷ l3,
      record { format = Tv 1; known = refl; size = refl; text = refl },
      refl,
      (
        0x02 ∷ link ∷ [],
        0x0b ∷ high ∷ low ∷ l3,
        record { format = Tv 1; known = refl; size = refl; text = refl },
        refl,
        (0x0b ∷ high ∷ low ∷ l3, [], l3_is high low l3 one two long, sym (append-nil (0x0b ∷ high ∷ low ∷ l3)), tt),
      ),
    )

-- the same of the octets of a body
pub in_body : (body : List ℕ) → 7 ≤ length body → AreOctets body → get_or body 0 0 ≡ 0x01 → get_or body 2 0 ≡ 0x02 → get_or body 4 0 ≡ 0x0b
    → length (take (length body - 7) (drop 7 body)) ≡ 256 * get_or body 5 0 + get_or body 6 0
    → walk ELEMENTS body ≡ finding (data_elements (get_or body 1 0) (get_or body 3 0) (take (length body - 7) (drop 7 body))) false
in_body [] enough fits a b c long = absurd (omega arith)
in_body (x ∷ []) enough fits a b c long = absurd (omega arith)
in_body (x ∷ channel ∷ []) enough fits a b c long = absurd (omega arith)
in_body (x ∷ channel ∷ y ∷ []) enough fits a b c long = absurd (omega arith)
in_body (x ∷ channel ∷ y ∷ link ∷ []) enough fits a b c long = absurd (omega arith)
in_body (x ∷ channel ∷ y ∷ link ∷ z ∷ []) enough fits a b c long = absurd (omega arith)
in_body (x ∷ channel ∷ y ∷ link ∷ z ∷ high ∷ []) enough fits a b c long = absurd (omega arith)
in_body (x ∷ channel ∷ y ∷ link ∷ z ∷ high ∷ low ∷ l3) enough fits a b c long =
    let all : take (length (x ∷ channel ∷ y ∷ link ∷ z ∷ high ∷ low ∷ l3) - 7) l3 ≡ l3 = take_all (length (x ∷ channel ∷ y ∷ link ∷ z ∷ high ∷ low ∷ l3) - 7) l3 (omega arith) in
    rw (a, b, c, all) (in_order channel link high low l3 (fits 5) (fits 6) (sym (ap length all) ∙ long))
