-- SPDX-License-Identifier: MIT OR Apache-2.0
-- The frames of the queues that are noted so far, and how a place and a link extend them.
use Rattle.std.proofs.Common.{◌≡◌, ℕ, zero, suc, ◌+◌, ◌<◌, ◌≤◌, List, [], ◌∷◌, ◌++◌, get_or, length, map, drop, option_to_list}
use Rattle.std.proofs.Common.{refl, sym, ap, ◌∙◌, subst, append_assoc, append-nil, arith}
use Rattle.std.proofs.Math.ListN.{drop_of_length-le}
use Rattle.std.proofs.lemmas.Grind.{flat_map-append}
use Rattle.std.proofs.lemmas.List.{length-append, map-append}
use Rattle.std.specs.List.{flat_map}
use Rattle.ruled_relay.specs.declared.item.Item.{Item}
use Rattle.world_model.specs.declared.line.OutboxEntry.{OutboxEntry}
use Rattle.world_model.specs.Lists.{first_in}
use Rattle.world_model.specs.World.{Actors, outbox_of}
use Rattle.world_trace.specs.declared.crossing.Crossing.{Crossing}
use Rattle.world_trace.specs.declared.crossing.Passage.TheVariants.{Sent}
use Rattle.world_trace.specs.Crossings.{down, up}
use Rattle.world_trace.specs.Marks.{behind_below}

-- ---- a place of a queue

front_at : {X : Type 0} (xs : List X) (n : ℕ) → option_to_list (first_in (drop n xs)) ++ drop (suc n) xs ≡ drop n xs
front_at [] zero = refl
front_at [] (suc n) = refl
front_at (x ∷ xs) zero = refl
front_at (x ∷ xs) (suc n) = front_at xs n

next_place : (n : ℕ) → n + 1 ≡ suc n
next_place n = omega arith

pub items_more : (before after whole : List Crossing) (xs : List Item) (place : ℕ) → before ++ flat_map (up Sent) (drop place xs) ≡ whole → after ≡ before ++ flat_map (up Sent) (option_to_list (first_in (drop place xs)))
    → after ++ flat_map (up Sent) (drop (place + 1) xs) ≡ whole
items_more before after whole xs place some is =
    let first : List Item = option_to_list (first_in (drop place xs)) in
    let rest : List Item = drop (suc place) xs in
    ap (λ (n : ℕ). after ++ flat_map (up Sent) (drop n xs)) (next_place place)
    ∙ ap (λ (cs : List Crossing). cs ++ flat_map (up Sent) rest) is
    ∙ append_assoc before (flat_map (up Sent) first) (flat_map (up Sent) rest)
    ∙ ap (λ (cs : List Crossing). before ++ cs) (sym (flat_map-append (up Sent) first rest) ∙ ap (flat_map (up Sent)) (front_at xs place))
    ∙ some

pub items_all : (now whole : List Crossing) (xs : List Item) (place : ℕ) →
    now ++ flat_map (up Sent) (drop place xs) ≡ whole →
    length xs ≤ place →
    now ≡ whole
items_all now whole xs place some all =
    sym (append-nil now) ∙ ap (λ (ys : List Item). now ++ flat_map (up Sent) ys) (sym (drop_of_length-le xs all)) ∙ some

pub entries_more : (before after whole : List Crossing) (xs : List OutboxEntry) (place : ℕ) → before ++ map (down Sent) (drop place xs) ≡ whole → after ≡ before ++ map (down Sent) (option_to_list (first_in (drop place xs)))
    → after ++ map (down Sent) (drop (place + 1) xs) ≡ whole
entries_more before after whole xs place some is =
    let first : List OutboxEntry = option_to_list (first_in (drop place xs)) in
    let rest : List OutboxEntry = drop (suc place) xs in
    ap (λ (n : ℕ). after ++ map (down Sent) (drop n xs)) (next_place place)
    ∙ ap (λ (cs : List Crossing). cs ++ map (down Sent) rest) is
    ∙ append_assoc before (map (down Sent) first) (map (down Sent) rest)
    ∙ ap (λ (cs : List Crossing). before ++ cs) (sym (map-append (down Sent) first rest) ∙ ap (map (down Sent)) (front_at xs place))
    ∙ some

pub entries_all : (now whole : List Crossing) (xs : List OutboxEntry) (place : ℕ) →
    now ++ map (down Sent) (drop place xs) ≡ whole →
    length xs ≤ place →
    now ≡ whole
entries_all now whole xs place some all =
    sym (append-nil now) ∙ ap (λ (ys : List OutboxEntry). now ++ map (down Sent) ys) (sym (drop_of_length-le xs all)) ∙ some

-- ---- the links below a number

pub below_more : (start before after first : List Crossing) (marks : List ℕ) (w : Actors) (link mark : ℕ) → before ≡ start ++ (first ++ behind_below link marks w) → mark ≡ get_or marks link 0
    → after ≡ before ++ map (down Sent) (drop mark (outbox_of w link)) → after ≡ start ++ (first ++ behind_below (link + 1) marks w)
below_more start before after first marks w link mark some is more =
    let here : List Crossing = map (down Sent) (drop (get_or marks link 0) (outbox_of w link)) in
    more
    ∙ ap (λ (n : ℕ). before ++ map (down Sent) (drop n (outbox_of w link))) is
    ∙ ap (λ (cs : List Crossing). cs ++ here) some
    ∙ append_assoc start (first ++ behind_below link marks w) here
    ∙ ap (λ (cs : List Crossing). start ++ cs) (append_assoc first (behind_below link marks w) here)
    ∙ ap (λ (n : ℕ). start ++ (first ++ behind_below n marks w)) (sym (next_place link))

-- ---- the marks of the links below a number

each_more : (f : ℕ → ℕ) (xs : List ℕ) (x : ℕ) →
    ((k : ℕ) → k < length xs → get_or xs k 0 ≡ f k) →
    x ≡ f (length xs) →
    (k : ℕ) →
    k < suc (length xs) →
    get_or (xs ++ x ∷ []) k 0 ≡ f k
each_more f [] x each is zero lt = is
each_more f [] x each is (suc k) lt = absurd (omega (arith, lt))
each_more f (y ∷ xs) x each is zero lt = each 0 (omega arith)
each_more f (y ∷ xs) x each is (suc k) lt = each_more (λ n. f (suc n)) xs x (λ j less. each (suc j) (omega (arith, less))) is k (omega (arith, lt))

-- as many marks as links below a number, each the length of its outbox
pub record MarksBelow (w : Actors) (link : ℕ) (marks : List ℕ) : Type 0 where
  pub count : length marks ≡ link
  pub each : (k : ℕ) → k < length marks → get_or marks k 0 ≡ length (outbox_of w k)

pub marks_none : (w : Actors) → MarksBelow w 0 []
marks_none w = record { count = refl; each = λ k lt. absurd (omega (arith, lt)) }

pub marks_more : (w : Actors) (link x : ℕ) (marks more : List ℕ) →
    MarksBelow w link marks →
    x ≡ length (outbox_of w link) →
    more ≡ marks ++ x ∷ [] →
    MarksBelow w (link + 1) more
marks_more w link x marks more some is longer =
    subst (MarksBelow w (link + 1)) (sym longer) (record {
      count = length-append marks (x ∷ []) ∙ ap (λ (n : ℕ). n + 1) some.count;
      each = λ k lt. each_more (λ n. length (outbox_of w n)) marks x some.each (is ∙ ap (λ (n : ℕ). length (outbox_of w n)) (sym some.count)) k (let less : k < suc (length marks) = omega (arith, lt, length-append marks (x ∷ [])) in less);
    })
