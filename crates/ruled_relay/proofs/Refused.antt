-- SPDX-License-Identifier: MIT OR Apache-2.0
-- The counts of a putter are those of all frames handed back.
use Rattle.std.proofs.Common.{◌≡◌, ℕ, ◌+◌, ◌≤◌, min, max, List, [], ◌∷◌, ◌++◌, sym, ap, ◌∙◌, arith, append_assoc, append-nil}
use Rattle.ruled_relay.specs.declared.outbox.Line.TheVariants.{Frame, End}
use Rattle.ruled_relay.specs.Outbox.{PutterView, TakerView, AreNewOutbox}
use Rattle.ruled_relay.specs.Refusals.{Fate, accepted, refused, Meets, refused_first, most_refused, lines_put}

first_is_within : (fates : List Fate) → refused_first fates ≤ most_refused fates
first_is_within [] = omega arith
first_is_within (fate ∷ fates) = omega arith

-- so it is from a putter whose frames were given back so often, since a line was put last and at
-- most so far
counted : (old now : PutterView) (fates : List Fate) (running so_far : ℕ) → running ≤ so_far → old.refused ≡ min running 4294967295 → old.refusals ≡ min so_far 4294967295 → Meets old fates now
    → now.refusals ≡ min (max so_far (max (running + refused_first fates) (most_refused fates))) 4294967295
counted old now [] running so_far within r m h = let e = ap (λ (p : PutterView). p.refusals) h in omega arith
counted old now (accepted line ∷ fates) running so_far within r m h =
    let a = ap (λ (p : PutterView). p.refused) h.1 in
    let b = ap (λ (p : PutterView). p.refusals) h.1 in
    let e = counted h.0 now fates 0 so_far (omega arith) (omega arith) (omega arith) h.2 in
    let f = first_is_within fates in
    omega arith
counted old now (refused (Frame frame) ∷ fates) running so_far within r m h =
    let a = ap (λ (p : PutterView). p.refused) h.1.2 in
    let b = ap (λ (p : PutterView). p.refusals) h.1.2 in
    let rest = counted h.0 now fates (running + 1) (max so_far (running + 1)) (omega arith) (omega arith) (omega arith) h.2 in
    omega arith
counted old now (refused End ∷ fates) running so_far within r m h =
    let a = ap (λ (p : PutterView). p.refused) h.1.2 in
    let b = ap (λ (p : PutterView). p.refusals) h.1.2 in
    let rest = counted h.0 now fates running so_far within (omega arith) (omega arith) h.2 in
    omega arith

kept : (old now : PutterView) (fates : List Fate) → Meets old fates now → now.put ≡ old.put ++ lines_put fates
kept old now [] h = ap (λ (p : PutterView). p.put) h ∙ sym (append-nil old.put)
kept old now (accepted line ∷ fates) h = kept h.0 now fates h.2 ∙ ap (λ (p : PutterView). p.put ++ lines_put fates) h.1 ∙ append_assoc old.put (line ∷ []) (lines_put fates)
kept old now (refused (Frame frame) ∷ fates) h = kept h.0 now fates h.2 ∙ ap (λ (p : PutterView). p.put ++ lines_put fates) h.1.2
kept old now (refused End ∷ fates) h = kept h.0 now fates h.2 ∙ ap (λ (p : PutterView). p.put ++ lines_put fates) h.1.2

pub all_counted : (capacity : ℕ) (putter now : PutterView) (taker : TakerView) (fates : List Fate) → AreNewOutbox capacity putter taker → Meets putter fates now
    → now.refusals ≡ min (most_refused fates) 4294967295
all_counted capacity putter now taker fates new h =
    let a = ap (λ (p : PutterView). p.refused) new.0 in
    let b = ap (λ (p : PutterView). p.refusals) new.0 in
    let e = counted putter now fates 0 0 (omega arith) (omega arith) (omega arith) h in
    let f = first_is_within fates in
    omega arith

pub all_kept : (capacity : ℕ) (putter now : PutterView) (taker : TakerView) (fates : List Fate) →
    AreNewOutbox capacity putter taker →
    Meets putter fates now →
    now.put ≡ lines_put fates
all_kept capacity putter now taker fates new h = kept putter now fates h ∙ ap (λ (p : PutterView). p.put ++ lines_put fates) new.0
