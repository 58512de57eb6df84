-- SPDX-License-Identifier: MIT OR Apache-2.0
-- The definitions at literal values.
use Rattle.std.proofs.Common.{◌≡◌, ℕ, ◌-◌, ◌^◌, ◌<◌, zero, suc, Bool, true, false, true≢false, List, [], ◌∷◌, ◌++◌, length, slice_index_or, Some, None, Ok, Err, inl, inr, refl, sym, ap, ◌∙◌, subst, arith, length-append}
use mathlib.Core.Option.{some, some-injective, some-ne-none}
use lib.ListN.{get_elem?}
use Rattle.std.proofs.lemmas.Nat.Bits.{bit_at_above, bit_at_ones_above, bit_at-pow_other, bit_at-zero}
use Rattle.atomic_table.specs.Seated.{TableId}
use Rattle.ipa_framing.specs.declared.frame.Frame.{Frame}
use Rattle.ruled_relay.specs.declared.item.Item.{Item}
use Rattle.ruled_relay.specs.declared.item.What.{What}
use Rattle.ruled_relay.specs.declared.item.What.TheVariants as whats
use Rattle.ruled_relay.specs.declared.rule.Known.{Known}
use Rattle.ruled_relay.specs.declared.outbox.Line.{Line}
use Rattle.ruled_relay.specs.declared.outbox.Line.TheVariants as lines
use Rattle.ruled_relay.specs.declared.inbox.PutFault.TheVariants as faults
use Rattle.ruled_relay.specs.Rule.{known, putting, taking, left_over, Fits, IsWithin, Relayed}
use Rattle.ruled_relay.specs.Ends.{EndView, IsDrained, WasFull}
use Rattle.ruled_relay.specs.Outbox.{AreNewOutbox, GivesLine, PutterView, PutsLine, TakesLine, refusing}
use Rattle.ruled_relay.specs.Refusals.{Fate, accepted, refused, Meets, refused_first, most_refused, lines_put}
use Rattle.ruled_relay.specs.Row.{EachAmong, EachAt, Row, TakesInTurn}
use Rattle.ruled_relay.specs.Signs.{HasNoneBetween, HasNoneSet, IsFirstSet}
use Rattle.ruled_relay.specs.Left.{GivesAll, items_of, left_from, left_of}
use Rattle.ruled_relay.specs.Inbox.{AreJoined, AreNewInbox, GivesItem, IsAllGiven, IsJoined, PassView, PutsItem, TakesItem, queues_of}

-- ---- the rule of a queue

-- the ends of a queue of at most so many: what one has taken, and the other has put
abbrev ends_of : ℕ → List ℕ → List ℕ → List (Known ℕ)
ends_of room taken put = known room (taking taken) ∷ known room (putting put) ∷ []

-- 5 and 7 were put and 5 was taken: the queue holds 7
abbrev IsOneLeft : ℕ → Known ℕ → Type 0
IsOneLeft at v = Fits 1 0 (5 ∷ 7 ∷ []) (5 ∷ []) at v.seen × IsWithin v (7 ∷ [])

one_left : (at : ℕ) (v : Known ℕ) → get_elem? (ends_of 1 (5 ∷ []) (5 ∷ 7 ∷ [])) at ≡ some v → IsOneLeft at v
one_left zero v e = subst (IsOneLeft 0) (some-injective _ _ e) (((λ p. absurd (true≢false (sym p))), λ _. (refl, refl)), λ p. absurd (true≢false (sym p)))
one_left (suc zero) v e = subst (IsOneLeft 1) (some-injective _ _ e) (((λ _. (refl, refl)), λ p. absurd (true≢false (sym p))), λ _. omega arith)
one_left (suc (suc at)) v e = absurd (some-ne-none v (sym e))

holds_what_is_left : Relayed {T = ℕ} (7 ∷ []) (ends_of 1 (5 ∷ []) (5 ∷ 7 ∷ []))
holds_what_is_left = (1, 0, 5 ∷ 7 ∷ [], 5 ∷ [], refl, one_left)

holds_more_than_it_has_room_for : Relayed {T = ℕ} (7 ∷ 9 ∷ []) (ends_of 1 (5 ∷ []) (5 ∷ 7 ∷ 9 ∷ [])) → ⊥
holds_more_than_it_has_room_for h = let l = (h.5 1 (known 1 (putting (5 ∷ 7 ∷ 9 ∷ []))) refl).1 refl in absurd (omega arith)

-- what an end that takes and one that puts know, if the rule holds
relayed_in_order : (items taken put : List ℕ) → Relayed items (ends_of 2 taken put) → put ≡ taken ++ items
relayed_in_order items taken put h =
    ((h.5 1 (known 2 (putting put)) refl).0.0 refl).1 ∙ h.4 ∙ ap (λ t. t ++ items) (sym ((h.5 0 (known 2 (taking taken)) refl).0.1 refl).1)

nothing_is_lost : Relayed {T = ℕ} [] (ends_of 2 (5 ∷ []) (5 ∷ 7 ∷ [])) → ⊥
nothing_is_lost h = let l = ap length (relayed_in_order [] (5 ∷ []) (5 ∷ 7 ∷ []) h) in absurd (omega arith)

nothing_is_given_twice : Relayed {T = ℕ} (5 ∷ []) (ends_of 2 (5 ∷ []) (5 ∷ [])) → ⊥
nothing_is_given_twice h = let l = ap length (relayed_in_order (5 ∷ []) (5 ∷ []) (5 ∷ []) h) in absurd (omega arith)

nothing_overtakes : Relayed {T = ℕ} (5 ∷ []) (ends_of 2 (7 ∷ []) (5 ∷ 7 ∷ [])) → ⊥
nothing_overtakes h = let l = ap (λ xs. slice_index_or xs 0 0) (relayed_in_order (5 ∷ []) (7 ∷ []) (5 ∷ 7 ∷ []) h) in absurd (omega arith)

one_end_puts : Relayed [] (known 2 (putting {T = ℕ} []) ∷ known 2 (putting []) ∷ []) → ⊥
one_end_puts h = let a = ((h.5 0 (known 2 (putting [])) refl).0.0 refl).0 in let b = ((h.5 1 (known 2 (putting [])) refl).0.0 refl).0 in absurd (omega arith)

one_end_takes : Relayed [] (known 2 (taking {T = ℕ} []) ∷ known 2 (taking []) ∷ []) → ⊥
one_end_takes h = let a = ((h.5 0 (known 2 (taking [])) refl).0.1 refl).0 in let b = ((h.5 1 (known 2 (taking [])) refl).0.1 refl).0 in absurd (omega arith)

-- ---- an outbox for one line

frame : ℕ → Frame
frame octet = record { stream = 0; body = octet ∷ [] }

line : ℕ → Line
line octet = lines.Frame (frame octet)

putter : TableId → List Line → ℕ → ℕ → PutterView
putter q put in_a_row most = record { queue = q; capacity = 1; put = put; refused = in_a_row; refusals = most }

a_frame_is_put : (q : TableId) → PutsLine (putter q [] 0 0) (line 8) (Ok tt) (putter q (line 8 ∷ []) 0 0)
unfolding putter
a_frame_is_put q = refl

a_second_is_refused : (q : TableId) →
    PutsLine (putter q (line 8 ∷ []) 0 0) (line 9) (Err (record { 0 = line 9 })) (putter q (line 8 ∷ []) 1 1)
unfolding putter line
a_second_is_refused q = (refl, (line 8 ∷ [], refl, ([], refl)), refl)

so_is_the_mark_but_not_counted : (q : TableId) →
    PutsLine (putter q (line 8 ∷ []) 1 1) lines.End (Err (record { 0 = lines.End })) (putter q (line 8 ∷ []) 1 1)
unfolding putter line
so_is_the_mark_but_not_counted q = (refl, (line 8 ∷ [], refl, ([], refl)), refl)

the_mark_is_put : (q : TableId) → PutsLine (putter q (line 8 ∷ []) 1 3) lines.End (Ok tt) (putter q (line 8 ∷ lines.End ∷ []) 0 3)
unfolding putter line
the_mark_is_put q = refl

none_is_refused_of_an_empty_outbox : (q : TableId) (new : PutterView) →
    PutsLine (putter q [] 0 0) (line 8) (Err (record { 0 = line 8 })) new →
    ⊥
unfolding putter line
none_is_refused_of_an_empty_outbox q new h = let full = h.1 in let size = full.1 in let l = ap length full.2.1 in absurd (omega (arith, length-append full.2.0 full.0))

fewer_than_before : (q : TableId) → refusing (line 9) (putter q [] 3 5) ≡ putter q [] 4 5
unfolding putter line
fewer_than_before q = refl

more_than_before : (q : TableId) → refusing (line 9) (putter q [] 5 5) ≡ putter q [] 6 6
unfolding putter line
more_than_before q = refl

the_last_count : (q : TableId) → refusing (line 9) (putter q [] 4294967294 4294967294) ≡ putter q [] 4294967295 4294967295
unfolding putter line
the_last_count q = refl

no_more_counts : (q : TableId) → refusing (line 9) (putter q [] 4294967295 4294967295) ≡ putter q [] 4294967295 4294967295
unfolding putter line
no_more_counts q = refl

-- ---- frames that are refused with no line put between them

some_fates : List Fate
some_fates = refused (line 1) ∷ accepted (line 1) ∷ refused (line 2) ∷ refused lines.End ∷ refused (line 2) ∷ accepted (line 2) ∷ accepted lines.End ∷ refused (line 3) ∷ []

-- two of the frame 2, between which the mark was given back too
most_of_some : most_refused some_fates ≡ 2
unfolding some_fates line
most_of_some = refl

put_of_some : lines_put some_fates ≡ line 1 ∷ line 2 ∷ lines.End ∷ []
unfolding some_fates line
put_of_some = refl

first_of_some : refused_first some_fates ≡ 1
unfolding some_fates line
first_of_some = refl

-- so many as there are in a row, from the first line or to the last one
most_at_the_ends :
    (most_refused [] ≡ 0) × (most_refused (refused (line 1) ∷ refused (line 1) ∷ []) ≡ 2) × (most_refused (accepted (line 1) ∷ refused (line 2) ∷ []) ≡ 1)
    × (most_refused (refused (line 1) ∷ refused (line 1) ∷ accepted (line 1) ∷ []) ≡ 2) × (most_refused (refused lines.End ∷ []) ≡ 0)
unfolding line
most_at_the_ends = (refl, refl, refl, refl, refl)

-- a frame is put, another is given back twice, and the mark once
so_it_is : (q : TableId)
    → Meets (putter q [] 0 0) (accepted (line 8) ∷ refused (line 9) ∷ refused (line 9) ∷ refused lines.End ∷ []) (putter q (line 8 ∷ []) 2 2)
unfolding putter line
so_it_is q =
    let full : WasFull 1 (putting (line 8 ∷ [])) = (line 8 ∷ [], refl, ([], refl)) in (
      putter q (line 8 ∷ []) 0 0,
      refl,
      (putter q (line 8 ∷ []) 1 1, (refl, full, refl), (putter q (line 8 ∷ []) 2 2, (refl, full, refl), (putter q (line 8 ∷ []) 2 2, (refl, full, refl), refl))),
    )

-- ---- an inbox

what : ℕ → What
what octet = whats.Frame (frame octet)

item : ℕ → What → Item
item source w = record { source = source; what = w }

pass : TableId → List What → PassView
pass q put = record { queue = q; capacity = 1; source = 2; put = put }

its_own_is_put : (q : TableId) → PutsItem (pass q (what 8 ∷ [])) (item 2 whats.Down) (Ok tt) (pass q (what 8 ∷ whats.Down ∷ []))
unfolding pass item what
its_own_is_put q = (refl, refl)

anothers_is_foreign : (q : TableId) → PutsItem (pass q []) (item 1 (what 8)) (Err (faults.Foreign (item 1 (what 8)))) (pass q [])
unfolding pass item what
anothers_is_foreign q = ((λ e. absurd (omega arith)), refl, refl)

also_where_the_queue_is_full : (q : TableId) (new : PassView) →
    PutsItem (pass q (what 8 ∷ [])) (item 1 (what 9)) (Err (faults.Full (item 1 (what 9)))) new →
    ⊥
unfolding pass item what
also_where_the_queue_is_full q new h = let e = h.0 in absurd (omega arith)

full : (q : TableId) → PutsItem (pass q (what 8 ∷ [])) (item 2 (what 9)) (Err (faults.Full (item 2 (what 9)))) (pass q (what 8 ∷ []))
unfolding pass item what
full q = (refl, refl, (what 8 ∷ [], refl, ([], refl)), refl)

desk_end : TableId → List What → EndView What
desk_end q taken = record { queue = q; capacity = 1; seen = taking taken }

taken_at_its_place : (q r : TableId)
    → TakesItem (desk_end q (what 8 ∷ []) ∷ desk_end r (what 9 ∷ []) ∷ []) (item 1 whats.Down) (desk_end q (what 8 ∷ []) ∷ desk_end r (what 9 ∷ whats.Down ∷ []) ∷ [])
unfolding desk_end item what
taken_at_its_place q r = (desk_end r (what 9 ∷ []), refl, refl)

joined : TableId → List What → List What → EndView What
joined q put taken = record { queue = q; capacity = 1; seen = left_over put taken }

first_all_of_the_first : (q r : TableId) (new : Row) →
    GivesItem (joined q (what 8 ∷ []) [] ∷ joined r (what 9 ∷ []) [] ∷ []) (item 1 (what 9)) new →
    ⊥
unfolding joined item what
first_all_of_the_first q r new h = let l = ap length (h.4 0 (joined q (what 8 ∷ []) []) (omega arith) refl) in absurd (omega arith)

not_all_given : (q : TableId) → IsAllGiven (joined q (what 8 ∷ []) [] ∷ []) → ⊥
unfolding joined
not_all_given q h = let l = ap length (h 0 (joined q (what 8 ∷ []) []) refl) in absurd (omega arith)

-- all of the first queue was given, and one of the second
two_left : TableId → TableId → List What → Row
two_left q r given = joined q (what 8 ∷ []) (what 8 ∷ []) ∷ joined r (what 7 ∷ what 9 ∷ whats.Down ∷ []) given ∷ []

given_before : (q r : TableId) (at : ℕ) (d : EndView What) →
    at < 1 →
    get_elem? (two_left q r (what 7 ∷ [])) at ≡ some d →
    d.seen.put ≡ d.seen.taken
unfolding two_left joined what
given_before q r zero d small e = subst (λ (y : EndView What). y.seen.put ≡ y.seen.taken) (some-injective _ _ e) refl
given_before q r (suc at) d small e = absurd (omega arith)

given_in_order : (q r : TableId) → GivesItem (two_left q r (what 7 ∷ [])) (item 1 (what 9)) (two_left q r (what 7 ∷ what 9 ∷ []))
unfolding two_left joined item what
given_in_order q r = (joined r (what 7 ∷ what 9 ∷ whats.Down ∷ []) (what 7 ∷ []), refl, refl, (whats.Down ∷ [], refl), given_before q r)

is_down_first : List What → Bool
is_down_first (whats.Down ∷ others) = true
is_down_first _ = false

not_the_second_before_the_first : (q : TableId) (new : Row) →
    GivesItem (joined q (what 8 ∷ whats.Down ∷ []) [] ∷ []) (item 0 whats.Down) new →
    ⊥
unfolding joined item what is_down_first
not_the_second_before_the_first q new h =
    let next = subst (λ (y : EndView What). y.seen.put ≡ y.seen.taken ++ whats.Down ∷ h.3.0) (sym (some-injective _ _ h.1)) h.3.1 in
    absurd (true≢false (sym (ap is_down_first next)))

all_given : (q : TableId) → IsAllGiven (joined q (what 8 ∷ []) (what 8 ∷ []) ∷ [])
unfolding joined
all_given q zero e here = subst (λ (y : EndView What). y.seen.put ≡ y.seen.taken) (some-injective _ _ here) refl
all_given q (suc at) e here = absurd (some-ne-none e (sym here))

-- ---- new ends, and ends that are joined

pass_of : TableId → ℕ → List What → PassView
pass_of q source put = record { queue = q; capacity = 4; source = source; put = put }

end_of : TableId → List What → EndView What
end_of q taken = record { queue = q; capacity = 4; seen = taking taken }

IsNewPair : ℕ → EndView What → PassView → Type 0
IsNewPair at e p =
    (e ≡ record { queue = p.queue; capacity = 4; seen = taking [] }) × (p ≡ record { queue = p.queue; capacity = 4; source = at; put = [] })

new_pair : (q : TableId) (at : ℕ) (e : EndView What) (p : PassView) → end_of q [] ≡ e → pass_of q at [] ≡ p → IsNewPair at e p
unfolding IsNewPair pass_of end_of
new_pair q at e p is_end is_pass =
    subst (λ (y : PassView). IsNewPair at e y) is_pass (subst (λ (y : EndView What). IsNewPair at y (pass_of q at [])) is_end (refl, refl))

a_new_inbox : (q r : TableId) → AreNewInbox 4 (end_of q [] ∷ end_of r [] ∷ []) (pass_of q 0 [] ∷ pass_of r 1 [] ∷ [])
unfolding IsNewPair
a_new_inbox q r zero e p here there = new_pair q 0 e p (some-injective _ _ here) (some-injective _ _ there)
a_new_inbox q r (suc zero) e p here there = new_pair r 1 e p (some-injective _ _ here) (some-injective _ _ there)
a_new_inbox q r (suc (suc at)) e p here there = absurd (some-ne-none e (sym here))

the_place_is_the_source : (q : TableId) → AreNewInbox 4 (end_of q [] ∷ []) (pass_of q 1 [] ∷ []) → ⊥
unfolding pass_of end_of
the_place_is_the_source q h = let l = ap (λ (p : PassView). p.source) (h 0 (end_of q []) (pass_of q 1 []) refl refl).1 in absurd (omega arith)

queues_in_order : (q r : TableId) → queues_of (end_of q [] ∷ end_of r [] ∷ []) ≡ q ∷ r ∷ []
unfolding end_of
queues_in_order q r = refl

-- of the first source one is left, and of the second all
both_of : TableId → List What → List What → EndView What
both_of q put taken = record { queue = q; capacity = 4; seen = left_over put taken }

joined_at : (q r : TableId)
    → EachAt (both_of q (what 8 ∷ what 9 ∷ []) (what 8 ∷ []) ∷ both_of r (whats.Down ∷ []) [] ∷ [])
    (IsJoined (end_of q (what 8 ∷ []) ∷ end_of r [] ∷ []) (pass_of q 0 (what 8 ∷ what 9 ∷ []) ∷ pass_of r 1 (whats.Down ∷ []) ∷ []))
unfolding both_of end_of pass_of what
joined_at q r zero e here =
    subst (IsJoined (end_of q (what 8 ∷ []) ∷ end_of r [] ∷ []) (pass_of q 0 (what 8 ∷ what 9 ∷ []) ∷ pass_of r 1 (whats.Down ∷ []) ∷ []) 0) (some-injective _ _ here)
    (end_of q (what 8 ∷ []), pass_of q 0 (what 8 ∷ what 9 ∷ []), refl, refl, refl, (what 9 ∷ [], refl, omega arith))
joined_at q r (suc zero) e here =
    subst (IsJoined (end_of q (what 8 ∷ []) ∷ end_of r [] ∷ []) (pass_of q 0 (what 8 ∷ what 9 ∷ []) ∷ pass_of r 1 (whats.Down ∷ []) ∷ []) 1) (some-injective _ _ here)
    (end_of r [], pass_of r 1 (whats.Down ∷ []), refl, refl, refl, (whats.Down ∷ [], refl, omega arith))
joined_at q r (suc (suc at)) e here = absurd (some-ne-none e (sym here))

-- five are left of a queue that holds four
too_many_are_left : (q : TableId) →
    IsJoined (end_of q [] ∷ []) (pass_of q 0 (what 1 ∷ what 2 ∷ what 3 ∷ what 4 ∷ what 5 ∷ []) ∷ []) 0 (both_of q (what 1 ∷ what 2 ∷ what 3 ∷ what 4 ∷ what 5 ∷ []) []) →
    ⊥
unfolding both_of end_of pass_of what
too_many_are_left q bad =
    let is_end : end_of q [] ≡ bad.0 = some-injective _ _ bad.2 in
    let is_pass : pass_of q 0 (what 1 ∷ what 2 ∷ what 3 ∷ what 4 ∷ what 5 ∷ []) ≡ bad.1 = some-injective _ _ bad.3 in
    let most : 4 ≡ bad.1.capacity = ap (λ (p : PassView). p.capacity) is_pass in
    let put : 5 ≡ length bad.1.put = ap (λ (p : PassView). length p.put) is_pass in
    let taken : 0 ≡ length bad.0.seen.taken = ap (λ (e : EndView What). length e.seen.taken) is_end in
    let whole = ap length bad.5.1 in
    let few = bad.5.2 in
    absurd (omega (arith, length-append bad.0.seen.taken bad.5.0))

come_together : (q r : TableId)
    → AreJoined (end_of q (what 8 ∷ []) ∷ end_of r [] ∷ []) (pass_of q 0 (what 8 ∷ what 9 ∷ []) ∷ pass_of r 1 (whats.Down ∷ []) ∷ [])
    (both_of q (what 8 ∷ what 9 ∷ []) (what 8 ∷ []) ∷ both_of r (whats.Down ∷ []) [] ∷ [])
come_together q r = (refl, joined_at q r)

a_new_outbox : (q : TableId) → AreNewOutbox 1 (putter q [] 0 0) (record { queue = q; capacity = 1; taken = [] })
unfolding putter
a_new_outbox q = (refl, refl)

taken_last : (q : TableId) →
    TakesLine (record { queue = q; capacity = 1; taken = line 8 ∷ [] }) lines.End (record { queue = q; capacity = 1; taken = line 8 ∷ lines.End ∷ [] })
taken_last q = refl

given_next : GivesLine (record { put = line 8 ∷ line 9 ∷ lines.End ∷ []; taken = line 8 ∷ [] }) (line 9) (record { put = line 8 ∷ line 9 ∷ lines.End ∷ []; taken = line 8 ∷ line 9 ∷ [] })
given_next = (refl, (lines.End ∷ [], refl))

-- ---- sources that are asked in turn: something is left of the first and of the third

three_of : (q r s : TableId) → List What → Row
three_of q r s given = joined q (what 8 ∷ []) [] ∷ joined r [] [] ∷ joined s (what 9 ∷ []) given ∷ []

the_second_is_drained : (q r s : TableId) → EachAmong 1 2 (three_of q r s []) (λ e. IsDrained e.seen)
unfolding three_of joined what
the_second_is_drained q r s zero e least below here = absurd (omega arith)
the_second_is_drained q r s (suc zero) e least below here = subst (λ (y : EndView What). IsDrained y.seen) (some-injective _ _ here) (λ puts. refl)
the_second_is_drained q r s (suc (suc at)) e least below here = absurd (omega arith)

the_third_in_turn : (q r s : TableId) → TakesInTurn 1 3 (three_of q r s []) (Some (item 2 (what 9))) (three_of q r s (what 9 ∷ []))
unfolding three_of joined item what
the_third_in_turn q r s = inl (
  omega arith,
  omega arith,
  (joined s (what 9 ∷ []) [], joined s (what 9 ∷ []) (what 9 ∷ []), refl, refl, (refl, refl, (refl, ([], λ puts. refl)))),
  the_second_is_drained q r s,
)

not_the_first_out_of_turn : (q r s : TableId) (new : Row) → TakesInTurn 1 3 (three_of q r s []) (Some (item 0 (what 8))) new → ⊥
unfolding three_of joined item what
not_the_first_out_of_turn q r s new (inl among) = absurd (omega (arith, among.0))
not_the_first_out_of_turn q r s new (inr behind) =
    let l = ap length (behind.0 2 (joined s (what 9 ∷ []) []) (omega arith) (omega arith) refl refl) in absurd (omega arith)

not_the_third_before_the_first : (q r s : TableId) (new : Row) → TakesInTurn 0 3 (three_of q r s []) (Some (item 2 (what 9))) new → ⊥
unfolding three_of joined item what
not_the_third_before_the_first q r s new (inl among) =
    let l = ap length (among.3 0 (joined q (what 8 ∷ []) []) (omega arith) (omega arith) refl refl) in absurd (omega arith)
not_the_third_before_the_first q r s new (inr behind) = absurd (omega (arith, behind.1.1))

none_only_where_all_are_drained : (q r s : TableId) → TakesInTurn 1 3 (three_of q r s []) None (three_of q r s []) → ⊥
unfolding three_of joined what
none_only_where_all_are_drained q r s h =
    let l = ap length (h.1 0 (joined q (what 8 ∷ []) []) (omega arith) (omega arith) refl refl) in absurd (omega arith)

-- ---- what is left

of_one_queue : (r : TableId) → left_of (joined r (what 7 ∷ what 9 ∷ whats.Down ∷ []) (what 7 ∷ [])) ≡ what 9 ∷ whats.Down ∷ []
unfolding joined what
of_one_queue r = refl

with_its_source : items_of 3 (what 8 ∷ whats.Down ∷ []) ≡ item 3 (what 8) ∷ item 3 whats.Down ∷ []
unfolding item what
with_its_source = refl

source_after_source : (q r : TableId)
    → left_from 0 (joined q (what 8 ∷ what 9 ∷ what 6 ∷ []) (what 8 ∷ []) ∷ joined r (what 7 ∷ []) [] ∷ []) ≡ item 0 (what 9) ∷ item 0 (what 6) ∷ item 1 (what 7) ∷ []
unfolding joined item what
source_after_source q r = refl

nothing_left : (q : TableId) → left_from 0 (joined q (what 8 ∷ []) (what 8 ∷ []) ∷ []) ≡ []
unfolding joined what
nothing_left q = refl

given_until_none : (q : TableId) → GivesAll (joined q (what 8 ∷ []) [] ∷ []) (item 0 (what 8) ∷ [])
unfolding joined item what
given_until_none q =
    (joined q (what 8 ∷ []) (what 8 ∷ []) ∷ [], (joined q (what 8 ∷ []) [], refl, refl, ([], refl), λ at d small e. absurd (omega arith)), all_given q)

-- ---- the bits of a word: 34 has the bits 1 and 5

set_and_clear : ◌≡◌ {A = ℕ} 1 0 → ⊥
set_and_clear same = absurd (omega arith)

none_from_2_to_5 : HasNoneBetween 2 5 34
none_from_2_to_5 zero least below = absurd (omega arith)
none_from_2_to_5 (suc zero) least below = absurd (omega arith)
none_from_2_to_5 (suc (suc zero)) least below = refl
none_from_2_to_5 (suc (suc (suc zero))) least below = refl
none_from_2_to_5 (suc (suc (suc (suc zero)))) least below = refl
none_from_2_to_5 (suc (suc (suc (suc (suc place))))) least below = absurd (omega arith)

one_at_its_first_place : HasNoneBetween 1 5 34 → ⊥
one_at_its_first_place none = set_and_clear (none 1 (omega arith) (omega arith))

one_at_its_last_place : HasNoneBetween 2 6 34 → ⊥
one_at_its_last_place none = set_and_clear (none 5 (omega arith) (omega arith))

one_below_is_not_counted : IsFirstSet 2 34 5
one_below_is_not_counted = (omega arith, omega arith, refl, none_from_2_to_5)

nor_is_it_the_first : IsFirstSet 2 34 1 → ⊥
nor_is_it_the_first first = absurd (omega (arith, first.0))

none_between : (word place : ℕ) → HasNoneBetween place place word
none_between word place at least below = absurd (omega arith)

one_at_the_place_itself : IsFirstSet 5 34 5
one_at_the_place_itself = (omega arith, omega arith, refl, none_between 34 5)

not_the_second : IsFirstSet 0 34 5 → ⊥
not_the_second first = set_and_clear (first.3 1 (omega arith) (omega arith))

not_one_that_is_clear : IsFirstSet 2 34 4 → ⊥
not_one_that_is_clear first = set_and_clear (sym first.2)

the_lowest_bit : IsFirstSet 0 35 0
the_lowest_bit = (omega arith, omega arith, refl, none_between 35 0)

the_highest_bit : IsFirstSet 0 (2 ^ 63) 63
the_highest_bit = (omega arith, omega arith, refl, λ place least below. bit_at-pow_other 63 place (λ e. absurd (omega arith)))

none_beyond_the_word : IsFirstSet 0 (2 ^ 64) 64 → ⊥
none_beyond_the_word first = absurd (omega (arith, first.1))

none_in_an_empty_word : HasNoneSet 0 0
none_in_an_empty_word place least below = bit_at-zero place

none_behind_the_last : HasNoneSet 6 34
none_behind_the_last place least below = bit_at_above 34 6 place (omega arith) least

all_but_the_highest_are_set : HasNoneSet 63 (2 ^ 63 - 1)
all_but_the_highest_are_set place least below = bit_at_ones_above 63 place least

the_highest_is_set : HasNoneSet 0 (2 ^ 63) → ⊥
the_highest_is_set none = set_and_clear (none 63 (omega arith) (omega arith))

the_last_is_set : HasNoneSet 5 34 → ⊥
the_last_is_set none = set_and_clear (none 5 (omega arith) (omega arith))
