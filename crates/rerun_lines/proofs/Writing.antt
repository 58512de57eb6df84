-- SPDX-License-Identifier: MIT OR Apache-2.0
-- Texts that are appended piece by piece.
use Rattle.std.proofs.Common.{◌≡◌, ℕ, ◌+◌, ◌<◌, ◌≤◌, List, [], ◌∷◌, ◌++◌, length, take, get_or, sym, ap, ◌∙◌, append_assoc}
use Rattle.conn_messages.specs.declared.out.Out.{Out}
use Rattle.std.specs.List.{flat_map}
use Rattle.std.proofs.lemmas.List.{flat_map_more, take_more}

pub two_appended : (old a b mid new : List ℕ) → mid ≡ old ++ a → new ≡ mid ++ b → new ≡ old ++ (a ++ b)
two_appended old a b mid new one two = two ∙ ap (λ (xs : List ℕ). xs ++ b) one ∙ append_assoc old a b

pub three_appended : (old a b c first second new : List ℕ) → first ≡ old ++ a → second ≡ first ++ b → new ≡ second ++ c
    → new ≡ old ++ (a ++ b ++ c)
three_appended old a b c first second new one two three =
    two_appended old (a ++ b) c second new (two_appended old a b first second one two) three

pub four_appended : (old a b c d first second third new : List ℕ) → first ≡ old ++ a → second ≡ first ++ b → third ≡ second ++ c
    → new ≡ third ++ d → new ≡ old ++ (a ++ b ++ c ++ d)
four_appended old a b c d first second third new one two three four =
    two_appended old (a ++ b ++ c) d third new (three_appended old a b c first second third one two three) four

pub six_appended : (old a b c d e f first second third fourth fifth new : List ℕ) → first ≡ old ++ a → second ≡ first ++ b
    → third ≡ second ++ c → fourth ≡ third ++ d → fifth ≡ fourth ++ e → new ≡ fifth ++ f → new ≡ old ++ (a ++ b ++ c ++ d ++ e ++ f)
six_appended old a b c d e f first second third fourth fifth new one two three four five six =
    two_appended old (a ++ b ++ c ++ d ++ e) f fifth new
    (two_appended old (a ++ b ++ c ++ d) e fourth fifth (four_appended old a b c d first second third fourth one two three four) five) six

-- one more frame
pub outs_more : (f : Out → List ℕ) (next : ℕ) (xs : List Out) (x : Out) (old mid new : List ℕ) → mid ≡ old ++ flat_map f (take next xs)
    → next < length xs → x ≡ get_or xs next x → new ≡ mid ++ f x → new ≡ old ++ flat_map f (take (next + 1) xs)
outs_more f next xs x old mid new some less is line =
    let front : List Out = take next xs in
    let longer : front ++ x ∷ [] ≡ take (next + 1) xs = ap (λ (y : Out). front ++ y ∷ []) is ∙ sym (take_more xs next x less) in
    two_appended old (flat_map f front) (f x) mid new some line
    ∙ ap (λ (ys : List ℕ). old ++ ys) (flat_map_more f [] front x ∙ ap (flat_map f) longer)
