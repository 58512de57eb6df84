-- SPDX-License-Identifier: MIT OR Apache-2.0
-- Lemmas: the first line feed of octets whose front was searched before.
use Rattle.std.proofs.Common.{◌≡◌, ℕ, ◌+◌, ◌-◌, ◌<◌, ◌≤◌, true, false, List, ◌++◌, length, take, drop, get_or, sym, ap, subst, ◌∙◌, arith, inl, inr, Some, None}
use Rattle.std.proofs.lemmas.Bool.{cases_lt}
use Rattle.std.proofs.lemmas.List.{get_or-drop, get_or-take, length-drop, length-take, take-append-drop, take_rest}
use Rattle.std.proofs.lemmas.List.Elements.{All-append}
use Rattle.memchr.specs.Find.{IsFirstByte, is_byte}
use Rattle.judge_lines.specs.Lines.{HasNoFeed, is_feed}
use Rattle.judge_lines.proofs.Parting.{lacks_all}

-- the octets behind the front
abbrev pub behind : ℕ → List ℕ → List ℕ
behind n octets = take (length octets - n) (drop n octets)

pub no_feed_at_all : (n : ℕ) (octets : List ℕ) →
    HasNoFeed (take n octets) →
    IsFirstByte (is_byte 10) (behind n octets) None →
    HasNoFeed octets
no_feed_at_all n octets front none =
    let whole : take n octets ++ behind n octets ≡ octets = ap (λ (back : List ℕ). take n octets ++ back) (take_rest octets n) ∙ take-append-drop n octets in
    subst HasNoFeed whole (All-append (λ o. is_feed o ≡ false) (take n octets) (behind n octets) front (lacks_all 10 (behind n octets) none))

pub found_none : (octets : List ℕ) → HasNoFeed octets → IsFirstByte (is_byte 10) octets None
found_none octets none = λ k low below passes. let fails = none k 0 below in absurd (cc (fails, passes))

not_in_front : (n : ℕ) (octets : List ℕ) (i : ℕ) →
    n ≤ length octets →
    HasNoFeed (take n octets) →
    i < n →
    is_feed (get_or octets i 0) ≡ false
not_in_front n octets i within front below =
    subst (λ (o : ℕ). is_feed o ≡ false) (get_or-take n octets i 0 below) (front i 0 (omega (arith, length-take n octets)))

pub found_behind : (n : ℕ) (octets : List ℕ) (k : ℕ) → n ≤ length octets → HasNoFeed (take n octets) → IsFirstByte (is_byte 10) (behind n octets) (Some k)
    → IsFirstByte (is_byte 10) octets (Some (n + k))
found_behind n octets k within front found =
    let first : IsFirstByte (is_byte 10) (drop n octets) (Some k) = subst (λ (back : List ℕ). IsFirstByte (is_byte 10) back (Some k)) (take_rest octets n) found in
    let high : k < length (drop n octets) = first.0.high in (
      record {
        low = omega arith;
        high = omega (arith, high, length-drop n octets);
        before = λ i low below passes.
            elim (cases_lt i n) [
              | inl early ↦ let fails = not_in_front n octets i within front early in absurd (cc (fails, passes))
              | inr late ↦
                  let place : n + (i - n) ≡ i = omega arith in
                  let same : get_or (drop n octets) (i - n) 0 ≡ get_or octets i 0 = get_or-drop n octets (i - n) 0 ∙ ap (λ (j : ℕ). get_or octets j 0) place in
                  first.0.before (i - n) (omega arith) (omega arith) (subst (λ (o : ℕ). is_feed o ≡ true) (sym same) passes)
            ];
      },
      subst (λ (o : ℕ). is_feed o ≡ true) (get_or-drop n octets k 0) first.1,
    )
