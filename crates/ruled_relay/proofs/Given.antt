-- SPDX-License-Identifier: MIT OR Apache-2.0
-- Repeated calls of `next` give all items that are left.
use Rattle.std.proofs.Common.{◌≡◌, ℕ, zero, suc, ◌+◌, ◌<◌, List, [], ◌∷◌, ◌++◌, length, drop, slice_set, refl, sym, ap, ◌∙◌, arith, append_assoc}
use Rattle.std.proofs.Math.Seq.{drop-append_seam, drop-length}
use mathlib.Core.Option.{some, some-injective, some-ne-none}
use lib.ListN.{get_elem?}
use Rattle.ruled_relay.specs.declared.item.Item.{Item}
use Rattle.ruled_relay.specs.declared.item.What.{What}
use Rattle.ruled_relay.specs.Rule.{left_over}
use Rattle.ruled_relay.specs.Ends.{EndView, knowing}
use Rattle.ruled_relay.specs.Row.{Row}
use Rattle.ruled_relay.specs.Inbox.{IsAllGiven}
use Rattle.ruled_relay.specs.Left.{GivesAll, items_of, left_from, left_of}

-- the end once the item was given
abbrev after_giving : EndView What → What → EndView What
after_giving e what = knowing e (left_over e.seen.put (e.seen.taken ++ what ∷ []))

none_left : (e : EndView What) → e.seen.put ≡ e.seen.taken → left_of e ≡ []
none_left e spent = ap (λ (l : List What). drop (length e.seen.taken) l) spent ∙ drop-length e.seen.taken

one_left : (e : EndView What) (what : What) (rest : List What) →
    e.seen.put ≡ e.seen.taken ++ what ∷ rest →
    left_of e ≡ what ∷ left_of (after_giving e what)
one_left e what rest is =
    let now : left_of e ≡ what ∷ rest = ap (λ (l : List What). drop (length e.seen.taken) l) is ∙ drop-append_seam e.seen.taken (what ∷ rest) in
    let again : e.seen.put ≡ (e.seen.taken ++ what ∷ []) ++ rest = is ∙ sym (append_assoc e.seen.taken (what ∷ []) rest) in
    let then : left_of (after_giving e what) ≡ rest =
    ap (λ (l : List What). drop (length (e.seen.taken ++ what ∷ [])) l) again ∙ drop-append_seam (e.seen.taken ++ what ∷ []) rest in
    now ∙ ap (λ (l : List What). what ∷ l) (sym then)

gives_one : (n : ℕ) (row : Row) (k : ℕ) (e : EndView What) (item : Item) (rest : List What) → item.source ≡ n + k → get_elem? row k ≡ some e → e.seen.put ≡ e.seen.taken ++ item.what ∷ rest
    → ((at : ℕ) (d : EndView What) → at < k → get_elem? row at ≡ some d → d.seen.put ≡ d.seen.taken) → left_from n row ≡ item ∷ left_from n (slice_set row k (after_giving e item.what))
gives_one n [] k e item rest source here is before = absurd (some-ne-none e (sym here))
gives_one n (d ∷ row) zero e item rest source here is before =
    let same : d ≡ e = some-injective d e here in
    let first : left_of d ≡ item.what ∷ left_of (after_giving e item.what) = ap left_of same ∙ one_left e item.what rest is in
    let at_n : item.source ≡ n = omega arith in
    ap (λ (l : List What). items_of n l ++ left_from (n + 1) row) first
    ∙ ap (λ (s : ℕ). record { source = s; what = item.what } ∷ (items_of n (left_of (after_giving e item.what)) ++ left_from (n + 1) row)) (sym at_n)
gives_one n (d ∷ row) (suc k) e item rest source here is before =
    let spent : left_of d ≡ [] = none_left d (before 0 d (omega arith) refl) in
    let further = gives_one (n + 1) row k e item rest (omega arith) here is (λ at f small there. before (suc at) f (omega arith) there) in
    ap (λ (l : List What). items_of n l ++ left_from (n + 1) row) spent ∙ further
    ∙ sym (ap (λ (l : List What). item ∷ (items_of n l ++ left_from (n + 1) (slice_set row k (after_giving e item.what)))) spent)

gives_none : (n : ℕ) (row : Row) → IsAllGiven row → left_from n row ≡ []
gives_none n [] all = refl
gives_none n (e ∷ row) all =
    ap (λ (l : List What). items_of n l ++ left_from (n + 1) row) (none_left e (all 0 e refl)) ∙ gives_none (n + 1) row (λ at d here. all (suc at) d here)

pub gives_all : (row : Row) (items : List Item) → GivesAll row items → items ≡ left_from 0 row
gives_all row [] all = sym (gives_none 0 row all)
gives_all row (item ∷ items) h =
    let g = h.1 in
    let now = gives_one 0 row item.source g.0 item g.3.0 (omega arith) g.1 g.3.1 g.4 in
    ap (λ (l : List Item). item ∷ l) (gives_all h.0 items h.2 ∙ ap (left_from 0) g.2) ∙ sym now
