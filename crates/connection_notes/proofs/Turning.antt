-- SPDX-License-Identifier: MIT OR Apache-2.0
-- Notes of the controller's connections: a step of one after the other.
use Rattle.std.proofs.Common.{◌≡◌, ℕ, zero, suc, ◌+◌, ◌-◌, ◌<◌, ◌≤◌, ◌==◌, ◌&&◌, Bool, true, false, if◌then◌else◌, List, [], ◌∷◌, ◌++◌}
use Rattle.std.proofs.Common.{length, drop, get_or, slice_get, unwrap_or, Option, Some, None, refl, sym, ap, subst, ◌∙◌, eq-eqb, append_assoc, arith}
use Rattle.std.proofs.Math.ListN.{drop_of_length-le}
use Rattle.std.proofs.lemmas.Bool.{and_parts, eqb-true, le-ltb}
use Rattle.std.proofs.lemmas.List.{drop_more}
use Rattle.dtap_codec.specs.declared.sapi.Sapi.{Sapi}
use Rattle.dtap_codec.specs.declared.sapi.Sapi.TheVariants.{Zero, Three}
use Rattle.connection_notes.specs.declared.note.Holding.{Holding}
use Rattle.connection_notes.specs.declared.note.Holding.TheVariants.{Held, Relayed, Dropped}
use Rattle.connection_notes.specs.declared.note.Note.{Note}
use Rattle.connection_notes.specs.declared.note.Note.TheVariants.{Changed}
use Rattle.connection_notes.specs.declared.note.Puts.{Puts}
use Rattle.connection_notes.specs.declared.note.Way.{Way}
use Rattle.connection_notes.specs.declared.note.Way.TheVariants.{Down, Up}
use Rattle.connection_notes.specs.declared.sight.Phase.{Phase}
use Rattle.connection_notes.specs.declared.sight.Sight.{Sight}
use Rattle.connection_notes.specs.Notes.{change_of, ended, hold_notes, is_live, is_unchanged, notes_between, order, phase_notes, same, step_notes}

-- ---- what is unchanged has no note

stays : (are_put : Bool) (n : ℕ) → change_of are_put n n ≡ None
stays are_put n =
    ap (λ (b : Bool). if b then Some (Held, n - n) else later (n == n)) (le-ltb n n (omega arith)) ∙ ap later (eq-eqb n n refl)
  where
    later : Bool → Option (Holding × ℕ)
    later b = if b then None else if are_put then Some (Relayed, n - n) else Some (Dropped, n - n)

phase_remains : (number : ℕ) (phase : Phase) → phase_notes number phase phase ≡ []
phase_remains number phase = ap (λ (b : Bool). if b then [] else Changed number phase phase ∷ []) (eq-eqb (order phase) (order phase) refl)

hold_remains : (number : ℕ) (way : Way) (sapi : Sapi) (are_put : Bool) (n : ℕ) → hold_notes number way sapi (change_of are_put n n) ≡ []
hold_remains number way sapi are_put n = ap (hold_notes number way sapi) (stays are_put n)

all_none : (a b c d e : List Note) → a ≡ [] → b ≡ [] → c ≡ [] → d ≡ [] → e ≡ [] → (a ++ (b ++ c)) ++ (d ++ e) ≡ []
all_none a b c d e one two three four five =
    ap (λ (xs : List Note). (xs ++ (b ++ c)) ++ (d ++ e)) one ∙ ap (λ (xs : List Note). (xs ++ c) ++ (d ++ e)) two
    ∙ ap (λ (xs : List Note). xs ++ (d ++ e)) three ∙ ap (λ (xs : List Note). xs ++ e) four ∙ five

pub step_same : (puts : Puts) (s : Sight) → step_notes puts s s ≡ []
step_same puts s = all_none _ _ _ _ _ (phase_remains s.number s.phase)
    (hold_remains s.number Down Zero (puts.down && is_live s.phase) s.down_zero) (hold_remains s.number Down Three (puts.down && is_live s.phase) s.down_three)
    (hold_remains s.number Up Zero (puts.up && is_live s.phase) s.up_zero) (hold_remains s.number Up Three (puts.up && is_live s.phase) s.up_three)

-- nor has one that is as far, and of which as much is held
phase_even : (number : ℕ) (from to : Phase) → (order from == order to) ≡ true → phase_notes number from to ≡ []
phase_even number from to is = ap (λ (b : Bool). if b then [] else Changed number from to ∷ []) is

hold_even : (number : ℕ) (way : Way) (sapi : Sapi) (are_put : Bool) (n m : ℕ) →
    (n == m) ≡ true →
    hold_notes number way sapi (change_of are_put n m) ≡ []
hold_even number way sapi are_put n m is =
    subst (λ (k : ℕ). hold_notes number way sapi (change_of are_put n k) ≡ []) (eqb-true n m is) (hold_remains number way sapi are_put n)

pub unchanged_none : (puts : Puts) (b s : Sight) → is_unchanged b s ≡ true → step_notes puts b s ≡ []
unchanged_none puts b s is =
    let four = and_parts _ (b.up_three == s.up_three) is in
    let three = and_parts _ (b.up_zero == s.up_zero) four.0 in
    let two = and_parts _ (b.down_three == s.down_three) three.0 in
    let one = and_parts (order b.phase == order s.phase) (b.down_zero == s.down_zero) two.0 in
    all_none _ _ _ _ _ (phase_even b.number b.phase s.phase one.0)
    (hold_even b.number Down Zero (puts.down && is_live s.phase) b.down_zero s.down_zero one.1) (hold_even b.number Down Three (puts.down && is_live s.phase) b.down_three s.down_three two.1)
    (hold_even b.number Up Zero (puts.up && is_live s.phase) b.up_zero s.up_zero three.1) (hold_even b.number Up Three (puts.up && is_live s.phase) b.up_three s.up_three four.1)

pub same_all : (puts : Puts) (ss : List Sight) → notes_between puts ss ss ≡ []
same_all puts [] = refl
same_all puts (s ∷ ss) =
    ap (λ (b : Bool). if b then step_notes puts s s ++ notes_between puts ss ss else ended puts s ++ notes_between puts ss (s ∷ ss)) (eq-eqb s.number s.number refl)
    ∙ ap (λ (ns : List Note). ns ++ notes_between puts ss ss) (step_same puts s) ∙ same_all puts ss

-- ---- one connection after the other

abbrev first_in : {X : Type 0} → List X → Option X
first_in [] = None
first_in (x ∷ xs) = Some x

abbrev behind_first : {X : Type 0} → List X → List X
behind_first [] = []
behind_first (x ∷ xs) = xs

front_is : {X : Type 0} (xs : List X) (n : ℕ) → slice_get xs n ≡ first_in (drop n xs)
front_is [] zero = refl
front_is [] (suc n) = refl
front_is (x ∷ xs) zero = refl
front_is (x ∷ xs) (suc n) = front_is xs n

behind_is : {X : Type 0} (xs : List X) (n : ℕ) → drop (suc n) xs ≡ behind_first (drop n xs)
behind_is [] zero = refl
behind_is [] (suc n) = refl
behind_is (x ∷ xs) zero = refl
behind_is (x ∷ xs) (suc n) = behind_is xs n

becomes : Puts → Sight → List Sight → List Sight → Option Sight → List Note
becomes puts b others ys None = ended puts b ++ notes_between puts others ys
becomes puts b others ys (Some s) = step_notes puts b s ++ notes_between puts others (behind_first ys)

beside_by : (puts : Puts) (b : Sight) (others ys : List Sight) (r : Option Sight) → same b.number (first_in ys) ≡ r
    → notes_between puts (b ∷ others) ys ≡ becomes puts b others ys r
unfolding becomes
beside_by puts b others [] r is = subst (λ (o : Option Sight). notes_between puts (b ∷ others) [] ≡ becomes puts b others [] o) is refl
beside_by puts b others (y ∷ ys) r is =
    subst (λ (o : Option Sight). notes_between puts (b ∷ others) (y ∷ ys) ≡ becomes puts b others (y ∷ ys) o) is (by (y.number == b.number))
  where
    by : (t : Bool) → (if t then step_notes puts b y ++ notes_between puts others ys else ended puts b ++ notes_between puts others (y ∷ ys))
        ≡ becomes puts b others (y ∷ ys) (if t then Some y else None)
    by true = refl
    by false = refl

pub beside_some : (puts : Puts) (b s : Sight) (behind others : List Sight) (next : ℕ) (old new : List Note)
    → same b.number (slice_get behind next) ≡ Some s → new ≡ old ++ step_notes puts b s
    → new ++ notes_between puts others (drop (next + 1) behind) ≡ old ++ notes_between puts (b ∷ others) (drop next behind)
unfolding becomes
beside_some puts b s behind others next old new is more =
    let step : List Note = step_notes puts b s in
    let after : next + 1 ≡ suc next = omega arith in
    ap (λ (ns : List Note). ns ++ notes_between puts others (drop (next + 1) behind)) more
    ∙ append_assoc old step (notes_between puts others (drop (next + 1) behind))
    ∙ ap (λ (n : ℕ). old ++ (step ++ notes_between puts others (drop n behind))) after
    ∙ ap (λ (ys : List Sight). old ++ (step ++ notes_between puts others ys)) (behind_is behind next)
    ∙ ap (λ (ns : List Note). old ++ ns)
    (sym (beside_by puts b others (drop next behind) (Some s) (ap (same b.number) (sym (front_is behind next)) ∙ is)))

pub beside_none : (puts : Puts) (b : Sight) (behind others : List Sight) (next : ℕ) (old new : List Note)
    → same b.number (slice_get behind next) ≡ None → new ≡ old ++ ended puts b
    → new ++ notes_between puts others (drop next behind) ≡ old ++ notes_between puts (b ∷ others) (drop next behind)
unfolding becomes
beside_none puts b behind others next old new is more =
    ap (λ (ns : List Note). ns ++ notes_between puts others (drop next behind)) more
    ∙ append_assoc old (ended puts b) (notes_between puts others (drop next behind))
    ∙ ap (λ (ns : List Note). old ++ ns)
    (sym (beside_by puts b others (drop next behind) None (ap (same b.number) (sym (front_is behind next)) ∙ is)))

-- the connections so far, and the next one
pub steps_more : (puts : Puts) (before behind : List Sight) (b : Sight) (n next last : ℕ) (now new whole : List Note)
    → now ++ notes_between puts (drop n before) (drop next behind) ≡ whole → n < length before → b ≡ get_or before n b
    → ((others : List Sight) → new ++ notes_between puts others (drop last behind) ≡ now ++ notes_between puts (b ∷ others) (drop next behind))
    → new ++ notes_between puts (drop (n + 1) before) (drop last behind) ≡ whole
steps_more puts before behind b n next last now new whole some less is step =
    step (drop (n + 1) before)
    ∙ ap (λ (ss : List Sight). now ++ notes_between puts ss (drop next behind))
    (sym (drop_more before n b less ∙ ap (λ (s : Sight). s ∷ drop (n + 1) before) (sym is)))
    ∙ some

pub steps_all : (puts : Puts) (before behind : List Sight) (n next : ℕ) (now new whole : List Note)
    → now ++ notes_between puts (drop n before) (drop next behind) ≡ whole → length before ≤ n
    → new ≡ now ++ notes_between puts [] (drop next behind) → new ≡ whole
steps_all puts before behind n next now new whole some all is =
    is ∙ ap (λ (ss : List Sight). now ++ notes_between puts ss (drop next behind)) (sym (drop_of_length-le before all)) ∙ some
