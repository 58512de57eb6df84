-- SPDX-License-Identifier: MIT OR Apache-2.0
-- New outboxes, one after the other.
use Rattle.std.proofs.Common.{◌≡◌, ℕ, zero, suc, ◌+◌, ◌⊎◌, inl, inr, List, [], ◌∷◌, ◌++◌, length, sym, ap, ◌∙◌, subst, ⊎_elim, arith, length-append}
use mathlib.Core.Option.{some, some-injective, some-ne-none}
use lib.ListN.{get_elem?}
use Rattle.controller_worker.specs.Call.{AreNew, IsNew}
use Rattle.ruled_relay.specs.Outbox.{AreNewOutbox, PutterView, TakerView}

-- of one more at the end, a place is an old one or the last
at_more : (row : List PutterView) (a b : PutterView) (at : ℕ) →
    get_elem? (row ++ a ∷ []) at ≡ some b →
    (get_elem? row at ≡ some b) ⊎ (a ≡ b)
at_more [] a b zero e = inr (some-injective a b e)
at_more [] a b (suc at) e = absurd (some-ne-none b (sym e))
at_more (x ∷ xs) a b zero e = inl e
at_more (x ∷ xs) a b (suc at) e = at_more xs a b at e

-- one new outbox more, of those that the loop has made so far
pub one_more : (n capacity : ℕ) (old now : List PutterView) (putter : PutterView) (taker : TakerView)
    → AreNew old × (length old ≡ n) → AreNewOutbox capacity putter taker → now ≡ old ++ putter ∷ [] → AreNew now × (length now ≡ n + 1)
one_more n capacity old now putter taker before new is = (
  (λ at p here. ⊎_elim (λ h. before.0 at p h)
      (λ (h : putter ≡ p). subst IsNew h (ap (λ (q : PutterView). q.put) new.0, ap (λ (q : PutterView). q.refused) new.0, ap (λ (q : PutterView). q.refusals) new.0))
      (at_more old putter p at (ap (λ (r : List PutterView). get_elem? r at) (sym is) ∙ here))),
  ap length is ∙ (let size = before.1 in omega (arith, length-append old (putter ∷ []))),
)
