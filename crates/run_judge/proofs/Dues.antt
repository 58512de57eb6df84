-- SPDX-License-Identifier: MIT OR Apache-2.0
-- Lemmas: the places of due messages.
use Rattle.std.proofs.Common.{◌≡◌, ℕ, zero, suc, ◌+◌, ◌<◌, ◌≤◌, Bool, true, false, not, cond, if◌then◌else◌, ltb, List, [], ◌∷◌, ◌++◌, length, get_or, map, take, drop, set, Option, Some, None, refl, ap, sym, ◌∙◌, subst, arith}
use Rattle.std.proofs.lemmas.Bool.{le-ltb}
use Rattle.std.proofs.lemmas.List.{append-nil, drop_all, take_all}
use Rattle.std.proofs.lemmas.List.Elements.{All-append, All-cons, All-drop, All-take}
use Rattle.std.proofs.lemmas.List.Sums.{prefix_len-le-length}
use Rattle.std.proofs.Math.Seq.{drop-cons}
use Rattle.std.specs.Prelude.{max, option_to_list, slice_get}
use Rattle.std.specs.List.{insert, position_or_len}
use Rattle.std.specs.Str.{bytes_eq}
use Rattle.run_judge.specs.declared.flow.Due.{Due}
use Rattle.run_judge.specs.declared.flow.Order.TheVariants.{InOrder}
use Rattle.run_judge.specs.declared.flow.Passed.{Passed}
use Rattle.run_judge.specs.Dues.{NoneAbove, is_first}
use Rattle.run_judge.specs.Flow.{Taken, among_optional, at_head, fault_by, fault_with, insert_due, is_due, next_due, optional, or_optional, passed_before, passed_in, standing, stream_passed, taken_at, taken_from}
use Rattle.run_judge.specs.StreamState.{StreamState}

-- ---- what is found by a test

pub place-within : (test : Due → Bool) (ds : List Due) → position_or_len test ds ≤ length ds
place-within test ds = prefix_len-le-length (λ d. not (test d)) ds

-- ---- a step behind the first message

suc-drop : (n : ℕ) (d : Due) (ds : List Due) → drop (1 + n) (d ∷ ds) ≡ drop n ds
suc-drop n d ds = let one : 1 + n ≡ suc n = omega arith in ap (λ k. drop k (d ∷ ds)) one

suc-take : (n : ℕ) (d : Due) (ds : List Due) → take (1 + n) (d ∷ ds) ≡ d ∷ take n ds
suc-take n d ds = let one : 1 + n ≡ suc n = omega arith in ap (λ k. take k (d ∷ ds)) one

-- ---- what isn't optional

standing_by : (b : Bool) (n : ℕ) (d : Due) (ds rest : List Due) →
    rest ≡ drop n ds →
    (if b then rest else d ∷ ds) ≡ drop (cond (not (not b)) (1 + n) 0) (d ∷ ds)
standing_by true n d ds rest e = e ∙ sym (suc-drop n d ds)
standing_by false n d ds rest e = refl

pub standing-drop : (ds : List Due) → standing ds ≡ drop (position_or_len (λ d. not d.is_optional) ds) ds
standing-drop [] = refl
standing-drop (d ∷ ds) = standing_by d.is_optional (position_or_len (λ x. not x.is_optional) ds) d ds (standing ds) (standing-drop ds)

-- ---- what is taken

abbrev pub first_taken : List Due → Option Taken
first_taken [] = None
first_taken (d ∷ ds) = Some (taken_from d ds)

pub taken-drop : (place : ℕ) (ds : List Due) → taken_at place ds ≡ first_taken (drop place ds)
taken-drop zero [] = refl
taken-drop zero (d ∷ ds) = refl
taken-drop (suc place) [] = refl
taken-drop (suc place) (d ∷ ds) = taken-drop place ds

-- ---- insertion

insert_by : (b : Bool) (n : ℕ) (d x : Due) (xs rest : List Due) → rest ≡ insert xs n d →
    (if b then d ∷ x ∷ xs else x ∷ rest) ≡ insert (x ∷ xs) (cond (not b) (1 + n) 0) d
insert_by true n d x xs rest e = refl
insert_by false n d x xs rest e = rw (suc-take n x xs, suc-drop n x xs) (ap (λ l. x ∷ l) e)

pub insert-place : (d : Due) (ds : List Due) → insert_due d ds ≡ insert ds (position_or_len (λ x. ltb d.rank x.rank) ds) d
insert-place d [] = refl
insert-place d (x ∷ xs) = insert_by (ltb d.rank x.rank) (position_or_len (λ y. ltb d.rank y.rank) xs) d x xs (insert_due d xs) (insert-place d xs)

above-first : (high : ℕ) (x : Due) (xs : List Due) → NoneAbove high (x ∷ xs) → x.rank ≤ high
above-first high x xs h = h 0 x (omega arith)

above-rest : (high : ℕ) (x : Due) (xs : List Due) → NoneAbove high (x ∷ xs) → NoneAbove high xs
above-rest high x xs h k d within = h (suc k) d (omega (arith, within))

last_by : (b : Bool) (d x : Due) (xs rest : List Due) →
    b ≡ false →
    rest ≡ xs ++ d ∷ [] →
    (if b then d ∷ x ∷ xs else x ∷ rest) ≡ x ∷ xs ++ d ∷ []
last_by true d x xs rest h e = absurd cc
last_by false d x xs rest h e = ap (λ l. x ∷ l) e

pub insert-last : (high : ℕ) (d : Due) (ds : List Due) → NoneAbove high ds → high ≤ d.rank → insert_due d ds ≡ ds ++ d ∷ []
insert-last high d [] h above = refl
insert-last high d (x ∷ xs) h above =
    last_by (ltb d.rank x.rank) d x xs (insert_due d xs)
    (le-ltb d.rank x.rank (let first = above-first high x xs h in omega (arith, first, above)))
    (insert-last high d xs (above-rest high x xs h) above)

-- ---- no rank is higher

pub above-more : (high more : ℕ) (ds : List Due) → NoneAbove high ds → high ≤ more → NoneAbove more ds
above-more high more ds h le k d within = let one = h k d within in omega (arith, one, le)

pub above-insert : (high place : ℕ) (d : Due) (ds : List Due) → NoneAbove high ds → d.rank ≤ high → NoneAbove high (insert ds place d)
above-insert high place d ds h le =
    All-append (λ x. x.rank ≤ high) _ _ (All-take (λ x. x.rank ≤ high) place ds h)
    (All-cons (λ x. x.rank ≤ high) d _ le (All-drop (λ x. x.rank ≤ high) place ds h))

pub above-append : (high : ℕ) (d : Due) (ds : List Due) → NoneAbove high ds → d.rank ≤ high → NoneAbove high (ds ++ d ∷ [])
above-append high d ds h le = All-append (λ x. x.rank ≤ high) _ _ h (All-cons (λ x. x.rank ≤ high) d [] le (λ k x within. absurd (omega (arith, within))))

pub above-optional : (high : ℕ) (ds : List Due) → NoneAbove high ds → NoneAbove high (map optional ds)
above-optional high [] h = h
above-optional high (d ∷ ds) h = All-cons (λ x. x.rank ≤ high) (optional d) (map optional ds) (above-first high d ds h) (above-optional high ds (above-rest high d ds h))

-- ---- all are made optional

abbrev pub front_optional : ℕ → List Due → List Due
front_optional i ds = map optional (take i ds) ++ drop i ds

step : (i : ℕ) (ds : List Due) (d : Due) →
    i < length ds →
    d ≡ get_or (front_optional i ds) i d →
    set (front_optional i ds) i (optional d) ≡ front_optional (suc i) ds
step i [] d within is = absurd (omega (arith, within))
step zero (x ∷ xs) d within is = ap (λ y. optional y ∷ xs) is
step (suc i) (x ∷ xs) d within is = ap (λ l. optional x ∷ l) (step i xs d (omega (arith, within)) is)

pub optional-step : (i j : ℕ) (ds now : List Due) (d : Due) →
    i < length ds →
    now ≡ front_optional i ds →
    d ≡ get_or now i d →
    j ≡ i + 1 →
    set now i (optional d) ≡ front_optional j ds
optional-step i j ds now d within e is next =
    let suc_i : suc i ≡ j = omega (arith, next) in
    ap (λ l. set l i (optional d)) e ∙ step i ds d within (is ∙ ap (λ l. get_or l i d) e) ∙ ap (λ k. front_optional k ds) suc_i

pub all-optional : (k : ℕ) (ds : List Due) → length ds ≤ k → front_optional k ds ≡ map optional ds
all-optional k ds over = rw (take_all k ds over, drop_all k ds over, append-nil (map optional ds)) refl

-- ---- a search from the front on, up to a place

at-place : (ds : List Due) (place : ℕ) (d : Due) → place < length ds → d ≡ get_or ds place d → drop place ds ≡ d ∷ drop (suc place) ds
at-place ds place d within is = drop-cons ds place d within ∙ ap (λ x. x ∷ drop (suc place) ds) (sym is)

among_first : (message : List ℕ) (d : Due) (ds : List Due) →
    d.is_optional ≡ true →
    bytes_eq d.message message ≡ true →
    among_optional message (d ∷ ds) ≡ Some (taken_from d ds)
among_first message d ds h same = rw h (rw same refl)

pub among-found : (message : List ℕ) (ds : List Due) (place : ℕ) (d : Due) → among_optional message (drop place ds) ≡ among_optional message ds → place < length ds
    → d ≡ get_or ds place d → d.is_optional ≡ true → bytes_eq d.message message ≡ true → among_optional message ds ≡ taken_at place ds
among-found message ds place d so_far within is h same =
    let here = at-place ds place d within is in
    sym so_far ∙ ap (among_optional message) here ∙ among_first message d (drop (suc place) ds) h same ∙ sym (taken-drop place ds ∙ ap first_taken here)

-- ---- what is first at a place

pub first-at : (message : List ℕ) (ds : List Due) (place : ℕ) (d : Due) →
    place < length ds →
    d ≡ get_or ds place d →
    is_first message (drop place ds) ≡ bytes_eq d.message message
first-at message ds place d within is = ap (is_first message) (at-place ds place d within is)

pub first-nowhere : (message : List ℕ) (ds : List Due) (place : ℕ) → length ds ≤ place → is_first message (drop place ds) ≡ false
first-nowhere message ds place over = ap (is_first message) (drop_all place ds over)

pub first-within : (message : List ℕ) (place : ℕ) (ds : List Due) → is_first message (drop place ds) ≡ true → place < length ds
first-within message zero [] h = absurd cc
first-within message zero (d ∷ ds) h = omega arith
first-within message (suc place) [] h = absurd cc
first-within message (suc place) (d ∷ ds) h = let below = first-within message place ds h in omega (arith, below)

head_yes : (message : List ℕ) (xs ds : List Due) → is_first message xs ≡ true → or_optional (at_head message xs) message ds ≡ first_taken xs
head_yes message [] ds h = absurd cc
head_yes message (x ∷ xs) ds h = rw h refl

head_no : (message : List ℕ) (xs ds : List Due) →
    is_first message xs ≡ false →
    or_optional (at_head message xs) message ds ≡ among_optional message ds
head_no message [] ds h = refl
head_no message (x ∷ xs) ds h = rw h refl

standing-at : (ds : List Due) (place : ℕ) → place ≡ position_or_len (λ d. not d.is_optional) ds → standing ds ≡ drop place ds
standing-at ds place at = standing-drop ds ∙ ap (λ k. drop k ds) (sym at)

pub next-standing : (message : List ℕ) (ds : List Due) (place : ℕ) →
    place ≡ position_or_len (λ d. not d.is_optional) ds →
    is_first message (drop place ds) ≡ true →
    next_due message ds ≡ taken_at place ds
next-standing message ds place at h =
    ap (λ l. or_optional (at_head message l) message ds) (standing-at ds place at)
    ∙ head_yes message (drop place ds) ds h
    ∙ sym (taken-drop place ds)

pub next-optional : (message : List ℕ) (ds : List Due) (place : ℕ) →
    place ≡ position_or_len (λ d. not d.is_optional) ds →
    is_first message (drop place ds) ≡ false →
    next_due message ds ≡ among_optional message ds
next-optional message ds place at h =
    ap (λ l. or_optional (at_head message l) message ds) (standing-at ds place at)
    ∙ head_no message (drop place ds) ds h

-- ---- a message is taken

pub taken-first : (place : ℕ) (ds : List Due) (d : Due) (now : List Due) →
    drop place ds ≡ d ∷ now →
    taken_at place ds ≡ Some (taken_from d now)
taken-first place ds d now e = taken-drop place ds ∙ ap first_taken e

above-popped : (high : ℕ) (r : Option Due) (now : List Due) → NoneAbove high (option_to_list r ++ now) → NoneAbove high now
above-popped high None now h = h
above-popped high (Some d) now h = above-rest high d now h

pub above-taken : (high place : ℕ) (ds now : List Due) (r : Option Due) →
    drop place ds ≡ option_to_list r ++ now →
    NoneAbove high ds →
    NoneAbove high now
above-taken high place ds now r e h =
    let P : List Due → Type 0 = λ l. NoneAbove high l in
    above-popped high r now (subst P e (All-drop (λ x. x.rank ≤ high) place ds h))

pub not-beyond : (place : ℕ) (ds : List Due) → place < length ds → None ≡ slice_get (drop place ds) 0 → ⊥
not-beyond zero [] h e = omega (arith, h)
not-beyond zero (d ∷ ds) h e = cc
not-beyond (suc place) [] h e = omega (arith, h)
not-beyond (suc place) (d ∷ ds) h e = not-beyond place ds (omega (arith, h)) e

first-standing : (ds : List Due) (place : ℕ) →
    place ≡ position_or_len (λ d. not d.is_optional) ds →
    slice_get (drop place ds) 0 ≡ slice_get (standing ds) 0
first-standing ds place at = ap (λ l. slice_get l 0) (sym (standing-at ds place at))

-- ---- a stream

pub passed-some : (s : StreamState) (place : ℕ) (d : Due) (now : List Due) (passed : List Passed) (reached : ℕ) (message : List ℕ) (frame : ℕ) →
    drop place s.due ≡ d ∷ now → passed ≡ s.passed ++ passed_in d.rank frame message ∷ [] → reached ≡ max d.rank s.reached →
    InOrder (record { due = now; passed = passed; reached = reached }) ≡ stream_passed message frame s (taken_at place s.due)
passed-some s place d now passed reached message frame taken more high =
    ap (λ r. InOrder (record { due = now; passed = passed; reached = r })) high
    ∙ ap (λ p. InOrder (record { due = now; passed = p; reached = max d.rank s.reached })) more
    ∙ ap (λ t. stream_passed message frame s t) (sym (taken-first place s.due d now taken))

pub faulted : (s : StreamState) (place : ℕ) (among : Bool) (before : Option ℕ) (next : Option Due) (message : List ℕ) (frame : ℕ) →
    among ≡ is_due message s.due → before ≡ passed_before message s.passed → place ≡ position_or_len (λ d. not d.is_optional) s.due → next ≡ slice_get (drop place s.due) 0 →
    fault_with among before message frame next ≡ fault_by message frame s
faulted s place among before next message frame is was at first =
    ap (λ b. fault_with b before message frame next) is
    ∙ ap (λ b. fault_with (is_due message s.due) b message frame next) was
    ∙ ap (λ n. fault_with (is_due message s.due) (passed_before message s.passed) message frame n) (first ∙ first-standing s.due place at)
