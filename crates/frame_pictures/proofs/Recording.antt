-- SPDX-License-Identifier: MIT OR Apache-2.0
-- Lemmas: one more record, and the sequence numbers after it.
use Rattle.std.proofs.Common.{◌≡◌, ℕ, zero, suc, ◌+◌, ◌%◌, ◌==◌, Bool, true, false, if◌then◌else◌, List, [], ◌∷◌, ◌++◌, length, take, drop, slice_get, unwrap_or}
use Rattle.std.proofs.Common.{Some, refl, sym, ap, ◌∙◌, subst, arith}
use Rattle.std.proofs.lemmas.List.{append_assoc}
use Rattle.std.proofs.lemmas.Option.{get_or_from_slice_get, slice_get_within}
use Rattle.std.proofs.Math.Seq.{take-suc}
use Rattle.std.proofs.Math.Numerals.{add-one}
use Rattle.frame_pictures.specs.declared.link_frame.LinkFrame.{LinkFrame}
use Rattle.frame_pictures.specs.Packet.{framed}
use Rattle.frame_pictures.specs.Capture.{next_number, record_behind, record_of, records_behind, sent_on, way}
use Rattle.frame_pictures.specs.NextNumbers.{AreNext, Moves, number_at}

-- ---- a place of a list

take_more : {X : Type 0} (xs : List X) (n : ℕ) (x : X) → slice_get xs n ≡ Some x → take (n + 1) xs ≡ take n xs ++ x ∷ []
take_more xs n x got = rw (add-one n, take-suc xs n x (slice_get_within xs n x got), get_or_from_slice_get xs n x x got) refl

drop_more : {X : Type 0} (xs : List X) (n : ℕ) (x : X) → slice_get xs n ≡ Some x → drop n xs ≡ x ∷ drop (suc n) xs
drop_more [] n x got = absurd (omega (arith, slice_get_within [] n x got))
drop_more (y ∷ ys) zero x got = ap (λ z. z ∷ ys) (ap (λ o. unwrap_or o x) got)
drop_more (y ∷ ys) (suc n) x got = drop_more ys n x got

-- ---- the file so far

pub record_more : (frames : List LinkFrame) (n : ℕ) (this : LinkFrame) (file more whole : List ℕ) → slice_get frames n ≡ Some this
    → file ++ records_behind (take n frames) (drop n frames) ≡ whole → more ≡ file ++ record_behind (take n frames) this
    → more ++ records_behind (take (n + 1) frames) (drop (n + 1) frames) ≡ whole
record_more frames n this file more whole got some is =
    let before : List LinkFrame = take n frames in
    let rest : List LinkFrame = drop (suc n) frames in
    ap (λ (k : ℕ). more ++ records_behind (take (n + 1) frames) (drop k frames)) (add-one n)
    ∙ ap (λ (front : List LinkFrame). more ++ records_behind front rest) (take_more frames n this got)
    ∙ ap (λ (octets : List ℕ). octets ++ records_behind (before ++ this ∷ []) rest) is
    ∙ append_assoc file (record_behind before this) (records_behind (before ++ this ∷ []) rest)
    ∙ ap (λ (left : List LinkFrame). file ++ records_behind before left) (sym (drop_more frames n this got))
    ∙ some

pub record_is : (before : List LinkFrame) (this : LinkFrame) (numbers file more : List ℕ) → AreNext before numbers
    → more ≡ file ++ record_of (number_at numbers (way this.from this.to)) (number_at numbers (way this.to this.from)) this → more ≡ file ++ record_behind before this
record_is before this numbers file more are is =
    is ∙ ap (λ (sequence : ℕ). file ++ record_of sequence (number_at numbers (way this.to this.from)) this) (are (way this.from this.to))
    ∙ ap (λ (acknowledged : ℕ). file ++ record_of (next_number (way this.from this.to) before) acknowledged this) (are (way this.to this.from))

-- ---- the numbers so far

abbrev here : ℕ → LinkFrame → ℕ
here number this = if way this.from this.to == number then length (framed this.frame) else 0

one_and_none : (n : ℕ) → n + 0 ≡ 0 + n
one_and_none n = omega arith

regrouped : (a b c : ℕ) → a + (b + c) ≡ a + b + c
regrouped a b c = omega arith

sent_on-more : (number : ℕ) (before : List LinkFrame) (this : LinkFrame) →
    sent_on number (before ++ this ∷ []) ≡ sent_on number before + here number this
sent_on-more number [] this = one_and_none (here number this)
sent_on-more number (first ∷ before) this = ap (λ (sum : ℕ). here number first + sum) (sent_on-more number before this)
    ∙ regrouped (here number first) (sent_on number before) (here number this)

by_way : (is : Bool) (old sum size new : ℕ) → old ≡ (1 + sum) % 4294967296
    → new ≡ (if is then (old + size % 4294967296) % 4294967296 else old)
    → new ≡ (1 + (sum + (if is then size else 0))) % 4294967296
by_way true old sum size new was is = is ∙ omega (arith, was)
by_way false old sum size new was is = is ∙ omega (arith, was)

numbers_more : (before : List LinkFrame) (this : LinkFrame) (old new : List ℕ) → AreNext before old
    → Moves old new (way this.from this.to) (length (framed this.frame) % 4294967296) → AreNext (before ++ this ∷ []) new
numbers_more before this old new are moves number =
    by_way (way this.from this.to == number) (number_at old number) (sent_on number before) (length (framed this.frame)) (number_at new number) (are number) (moves number)
    ∙ ap (λ (sum : ℕ). (1 + sum) % 4294967296) (sym (sent_on-more number before this))

pub place_more : (frames : List LinkFrame) (n : ℕ) (this : LinkFrame) (old new : List ℕ) → slice_get frames n ≡ Some this → AreNext (take n frames) old
    → Moves old new (way this.from this.to) (length (framed this.frame) % 4294967296) → AreNext (take (n + 1) frames) new
place_more frames n this old new got are moves =
    subst (λ (front : List LinkFrame). AreNext front new) (sym (take_more frames n this got)) (numbers_more (take n frames) this old new are moves)
