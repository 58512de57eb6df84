-- SPDX-License-Identifier: MIT OR Apache-2.0
-- Equations of the line's parts.
use Rattle.world_laws.proofs.Prelude.{◌≡◌, ℕ, ◌+◌, ◌≤◌, Bool, true, false, ◌||◌, List, [], ◌∷◌, ◌++◌, length, refl, sym, ap, ◌∙◌}
use Rattle.world_laws.proofs.Prelude.{append_assoc, cond, arith, length-append, filter, cond-true, cond-false, append-nil, filter-append}
use Rattle.world_laws.proofs.Prelude.{is_flow_message, is_control, no-length, flow, messages_in, part_of, parts_of, with_items, controls_of}
use Rattle.world_laws.proofs.Prelude.{controls_in, texts_in, released, lost, some_lost, FirstRelays}
use Rattle.world_laws.specs.LineUp.Places.{Item, LineTenure}
use Rattle.world_laws.specs.LineUp.Places.Item.{brought}

pub flow-append : (xs ys : List (List ℕ)) → flow (xs ++ ys) ≡ flow xs ++ flow ys
flow-append xs ys = filter-append is_flow_message xs ys

pub flow-cons : (x : List ℕ) (xs : List (List ℕ)) → flow (x ∷ xs) ≡ flow (x ∷ []) ++ flow xs
flow-cons x xs = filter-append is_flow_message (x ∷ []) xs

pub flow-apart : (x : List ℕ) (xs : List (List ℕ)) → is_flow_message x ≡ false → flow (x ∷ xs) ≡ flow xs
flow-apart x xs apart = cond-false (is_flow_message x) (x ∷ flow xs) (flow xs) apart

pub messages_in-append : (xs ys : List Item) → messages_in (xs ++ ys) ≡ messages_in xs ++ messages_in ys
messages_in-append [] ys = refl
messages_in-append (brought message ∷ xs) ys = ap (λ (list : List (List ℕ)). message ∷ list) (messages_in-append xs ys)
messages_in-append (released ∷ xs) ys = messages_in-append xs ys

-- ---- a message moves along

-- the first message of a channel of which nothing is held is relayed
pub relayed : (a out hold : List (List ℕ)) (x : List ℕ) (messages rest : List (List ℕ)) →
    hold ≡ [] →
    (a ++ flow out) ++ ((flow hold ++ flow (x ∷ messages)) ++ rest) ≡ (a ++ flow (out ++ x ∷ [])) ++ ((flow hold ++ flow messages) ++ rest)
relayed a out hold x messages rest empty = rw (empty, flow-cons x messages, flow-append out (x ∷ [])) (simp append_assoc refl)

-- it is held
pub held : (hold : List (List ℕ)) (x : List ℕ) (messages : List (List ℕ)) →
    flow hold ++ flow (x ∷ messages) ≡ flow (hold ++ x ∷ []) ++ flow messages
held hold x messages = rw (flow-cons x messages, flow-append hold (x ∷ [])) (simp append_assoc refl)

-- what was held is relayed
pub hold_relayed : (a out hold messages rest : List (List ℕ)) →
    (a ++ flow out) ++ ((flow hold ++ messages) ++ rest) ≡ (a ++ flow (out ++ hold)) ++ (messages ++ rest)
hold_relayed a out hold messages rest = rw (flow-append out hold) (simp append_assoc refl)

-- the switch takes the first
pub switch_taken : (taken : List (List ℕ)) (x : List ℕ) (out rest : List (List ℕ)) →
    (flow taken ++ flow (x ∷ out)) ++ rest ≡ (flow (taken ++ x ∷ []) ++ flow out) ++ rest
switch_taken taken x out rest = rw (flow-cons x out, flow-append taken (x ∷ [])) (simp append_assoc refl)

-- ---- one channel in the place of another

-- with the same part
pub parts_at : (before : List LineTenure) (d e : LineTenure) (after : List LineTenure) →
    part_of d ≡ part_of e →
    d.is_lost ≡ e.is_lost →
    parts_of (before ++ d ∷ after) ≡ parts_of (before ++ e ∷ after)
parts_at [] d e after part lost =
    ap (λ (list : List (List ℕ)). list ++ cond d.is_lost [] (parts_of after)) part
    ∙ ap (λ (b : Bool). part_of e ++ cond b [] (parts_of after)) lost
parts_at (t ∷ before) d e after part lost = ap (λ (list : List (List ℕ)). part_of t ++ cond t.is_lost [] list) (parts_at before d e after part lost)

pub parts_within : (before : List LineTenure) (d e : LineTenure) (after rest : List LineTenure) →
    part_of d ≡ part_of e →
    d.is_lost ≡ e.is_lost →
    parts_of ((before ++ d ∷ after) ++ rest) ≡ parts_of ((before ++ e ∷ after) ++ rest)
parts_within before d e after rest part lost =
    ap parts_of (append_assoc before (d ∷ after) rest) ∙ parts_at before d e (after ++ rest) part lost ∙ sym (ap parts_of (append_assoc before (e ∷ after) rest))

-- other channels behind these
pub parts_tail : (before xs ys : List LineTenure) → parts_of xs ≡ parts_of ys → parts_of (before ++ xs) ≡ parts_of (before ++ ys)
parts_tail [] xs ys same = same
parts_tail (t ∷ before) xs ys same = ap (λ (list : List (List ℕ)). part_of t ++ cond t.is_lost [] list) (parts_tail before xs ys same)

-- behind a lost one nothing counts
lost_step : (b c : Bool) (part p q : List (List ℕ)) → (b || c) ≡ true → (c ≡ true → p ≡ q) → part ++ cond b [] p ≡ part ++ cond b [] q
lost_step true c part p q some same = refl
lost_step false c part p q some same = ap (λ (list : List (List ℕ)). part ++ list) (same some)

pub parts_lost : (before xs ys : List LineTenure) → some_lost before ≡ true → parts_of (before ++ xs) ≡ parts_of (before ++ ys)
parts_lost [] xs ys some = absurd cc
parts_lost (t ∷ before) xs ys some =
    lost_step t.is_lost (some_lost before) (part_of t) (parts_of (before ++ xs)) (parts_of (before ++ ys)) some (parts_lost before xs ys)

-- behind whole ones all counts
pub none_lost : (b c : Bool) → (b || c) ≡ false → (b ≡ false) × (c ≡ false)
none_lost true c none = absurd cc
none_lost false c none = (refl, none)

pub parts_whole : (before xs ys : List LineTenure) (zs : List (List ℕ)) →
    some_lost before ≡ false →
    parts_of xs ≡ parts_of ys ++ zs →
    parts_of (before ++ xs) ≡ parts_of (before ++ ys) ++ zs
parts_whole [] xs ys zs none more = more
parts_whole (t ∷ before) xs ys zs none more =
    let both = none_lost t.is_lost (some_lost before) none in
    let rec = parts_whole before xs ys zs both.1 more in
    ap (λ (list : List (List ℕ)). part_of t ++ list) (cond-false t.is_lost [] (parts_of (before ++ xs)) both.0 ∙ rec)
    ∙ sym (append_assoc (part_of t) (parts_of (before ++ ys)) zs)
    ∙ ap (λ (list : List (List ℕ)). (part_of t ++ list) ++ zs) (sym (cond-false t.is_lost [] (parts_of (before ++ ys)) both.0))

-- a front remains a front
front_step : (b : Bool) (part p q zs : List (List ℕ)) →
    p ≡ q ++ zs →
    (more : List (List ℕ)) × (part ++ cond b [] p ≡ (part ++ cond b [] q) ++ more)
front_step true part p q zs front = ([], sym (append-nil (part ++ [])))
front_step false part p q zs front = (zs, ap (λ (list : List (List ℕ)). part ++ list) front ∙ sym (append_assoc part q zs))

pub parts_front : (before xs ys : List LineTenure) (zs : List (List ℕ)) →
    parts_of xs ≡ parts_of ys ++ zs →
    (more : List (List ℕ)) × (parts_of (before ++ xs) ≡ parts_of (before ++ ys) ++ more)
parts_front [] xs ys zs front = (zs, front)
parts_front (t ∷ before) xs ys zs front =
    let rec = parts_front before xs ys zs front in
    front_step t.is_lost (part_of t) (parts_of (before ++ xs)) (parts_of (before ++ ys)) rec.0 rec.1

-- of a channel that breaks a front is left
pub parts_broken : (t : LineTenure) (items dropped : List Item) (after : List LineTenure) →
    (more : List (List ℕ)) × (parts_of (with_items t (items ++ dropped) ∷ after) ≡ parts_of (lost t items ∷ after) ++ more)
parts_broken t items dropped after =
    let rest : List (List ℕ) = cond t.is_lost [] (parts_of after) in (
      flow (messages_in dropped) ++ rest,
      rw (messages_in-append items dropped, flow-append (messages_in items) (messages_in dropped)) (simp (append_assoc, append-nil) refl),
    )

-- the part of a channel of which one more item arrived
pub part_push : (t : LineTenure) (x : List ℕ) → part_of (with_items t (t.items ++ brought x ∷ [])) ≡ part_of t ++ flow (x ∷ [])
part_push t x = rw (messages_in-append t.items (brought x ∷ []), flow-append (messages_in t.items) (x ∷ [])) (simp append_assoc refl)

-- ---- whether something is lost

pub some_lost-at : (before : List LineTenure) (d e : LineTenure) (after : List LineTenure) →
    d.is_lost ≡ e.is_lost →
    some_lost (before ++ d ∷ after) ≡ some_lost (before ++ e ∷ after)
some_lost-at [] d e after same = ap (λ (b : Bool). b || some_lost after) same
some_lost-at (t ∷ before) d e after same = ap (λ (b : Bool). t.is_lost || b) (some_lost-at before d e after same)

or_true : (b : Bool) → (b || true) ≡ true
or_true true = refl
or_true false = refl

pub some_lost-here : (before : List LineTenure) (d : LineTenure) (after : List LineTenure) → d.is_lost ≡ true → some_lost
    (before ++ d ∷ after) ≡ true
some_lost-here [] d after here = ap (λ (b : Bool). b || some_lost after) here
some_lost-here (t ∷ before) d after here = ap (λ (b : Bool). t.is_lost || b) (some_lost-here before d after here) ∙ or_true t.is_lost

or_false : (b : Bool) → (b || false) ≡ b
or_false true = refl
or_false false = refl

or_assoc : (a b c : Bool) → (a || (b || c)) ≡ ((a || b) || c)
or_assoc true b c = refl
or_assoc false b c = refl

pub some_lost-push : (before : List LineTenure) (d : LineTenure) → some_lost (before ++ d ∷ []) ≡ (some_lost before || d.is_lost)
some_lost-push [] d = or_false d.is_lost
some_lost-push (t ∷ before) d = ap (λ (b : Bool). t.is_lost || b) (some_lost-push before d) ∙ or_assoc t.is_lost (some_lost before) d.is_lost

-- ---- what is held of the oldest

pub first_relays_at : (confirmed : Bool) (before : List LineTenure) (d e : LineTenure) (after : List LineTenure) (hold : List (List ℕ)) →
    d.hold ≡ e.hold →
    FirstRelays confirmed (before ++ d ∷ after) hold →
    FirstRelays confirmed (before ++ e ∷ after) hold
first_relays_at confirmed [] d e after hold same first = sym same ∙ first
first_relays_at confirmed (t ∷ before) d e after hold same first = first

pub first_relays_push : (old : List LineTenure) (t : LineTenure) (hold : List (List ℕ)) →
    FirstRelays true old t.hold →
    FirstRelays true (old ++ t ∷ []) hold
first_relays_push [] t hold first = first refl
first_relays_push (o ∷ old) t hold first = first

-- ---- counts

pub controls_append : (xs ys : List (List ℕ)) → controls_of (xs ++ ys) ≡ controls_of xs + controls_of ys
controls_append xs ys = ap length (filter-append is_control xs ys) ∙ length-append (filter is_control xs) (filter is_control ys)

pub controls_behind : (x : List ℕ) (xs : List (List ℕ)) → controls_of xs ≤ controls_of (x ∷ xs)
controls_behind x xs = let sum = controls_append (x ∷ []) xs in omega arith

pub texts_behind : (x : List ℕ) (xs : List (List ℕ)) → length (flow xs) ≤ length (flow (x ∷ xs))
texts_behind x xs = let sum = ap length (flow-cons x xs) ∙ length-append (flow (x ∷ [])) (flow xs) in omega arith

pub controls_first : (x : List ℕ) (xs : List (List ℕ)) → is_control x ≡ true → controls_of xs + 1 ≤ controls_of (x ∷ xs)
controls_first x xs is = let count = ap length (cond-true (is_control x) (x ∷ filter is_control xs) (filter is_control xs) is) in omega arith

pub controls_front : (xs ys : List Item) → controls_in xs ≤ controls_in (xs ++ ys)
controls_front xs ys =
    let sum : controls_in (xs ++ ys) ≡ controls_in xs + controls_in ys = ap controls_of (messages_in-append xs ys) ∙ controls_append (messages_in xs) (messages_in ys) in
    omega arith

pub texts_front : (xs ys : List Item) → texts_in xs ≤ texts_in (xs ++ ys)
texts_front xs ys =
    let sum : texts_in (xs ++ ys) ≡ texts_in xs + texts_in ys =
    ap (λ (list : List (List ℕ)). length (flow list)) (messages_in-append xs ys) ∙ ap length (flow-append (messages_in xs) (messages_in ys))
    ∙ length-append (flow (messages_in xs)) (flow (messages_in ys)) in
    omega arith

cond-nil : (b : Bool) → cond {A = List (List ℕ)} b [] [] ≡ []
cond-nil true = refl
cond-nil false = refl

-- a target of which nothing arrived
pub bare_target : (t : LineTenure) → t.hold ≡ [] → texts_in t.items ≡ 0 → parts_of (t ∷ []) ≡ []
bare_target t hold texts =
    let none : flow (messages_in t.items) ≡ [] = no-length (flow (messages_in t.items)) texts in
    rw (hold, none) (cond-nil t.is_lost)

-- a last channel
pub last_part : (t : LineTenure) → parts_of (t ∷ []) ≡ part_of t
last_part t = ap (λ (list : List (List ℕ)). part_of t ++ list) (cond-nil t.is_lost) ∙ append-nil (part_of t)
