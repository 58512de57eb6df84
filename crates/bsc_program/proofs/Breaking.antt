-- SPDX-License-Identifier: MIT OR Apache-2.0
-- The lines of all breaks are written one by one. A place may have the counts of the place before
-- it.
use Rattle.std.proofs.Common.{◌≡◌, ℕ, suc, ◌+◌, ◌<◌, List, [], ◌∷◌, ◌++◌, length, Option, None, Result, Ok, Err, refl, sym, ap, subst, ◌∙◌, arith}
use Rattle.std.proofs.Common.{get_or, take, drop}
use Rattle.std.specs.Prelude.{OnOk}
use Rattle.std.specs.Io.KnownBytes.{Appends}
use Rattle.std.proofs.KnownBytes.{Appends-trans}
use Rattle.std.proofs.Math.Seq.{drop-cons}
use Rattle.std.proofs.lemmas.List.{take_more}
use Rattle.world_model.specs.declared.event.Event.{Event}
use Rattle.world_model.specs.declared.event.Event.TheVariants.{BaseDown}
use Rattle.world.proofs.Order.{after_all-append}
use Rattle.world.specs.Beside.{MakesTheSame}
use Rattle.world.specs.World.{after, after_all}
use Rattle.world.specs.WorldState.{WorldState}
use Rattle.bsc_program.specs.declared.breaks.Counts.{Counts}
use Rattle.bsc_program.specs.BreakCounts.{broken_counts, counted_line, counts_of, excess_at, excess_below, first_of, unbroken_world}
use Rattle.bsc_program.specs.Breaks.{break_line, broken_world, texts_below}

-- ---- lines

abbrev pub line_at : WorldState → List Event → ℕ → ℕ → List ℕ
line_at begin events source place = break_line place (broken_world begin events source place).scene

none_below : (text : ℕ → List ℕ) → texts_below text 0 ≡ []
unfolding texts_below
none_below text = refl

one_more : (text : ℕ → List ℕ) (n : ℕ) → texts_below text n ++ text n ≡ texts_below text (suc n)
unfolding texts_below
one_more text n = refl

more_below : (text : ℕ → List ℕ) (n : ℕ) → texts_below text n ++ text n ≡ texts_below text (n + 1)
more_below text n =
    let next : suc n ≡ n + 1 = omega arith in
    one_more text n ∙ ap (texts_below text) next

first_below : (text : ℕ → List ℕ) → text 0 ≡ texts_below text 1
first_below text = ap (λ (xs : List ℕ). xs ++ text 0) (sym (none_below text)) ∙ one_more text 0

-- ---- an event that the break can pass

-- behind the events in front of the place
broken_behind : (begin : WorldState) (events : List Event) (source place : ℕ)
    → broken_world begin events source place
    ≡ after_all (after (after_all begin (take place events)) (BaseDown source)) (drop place events)
broken_behind begin events source place = after_all-append begin (take place events) (BaseDown source ∷ drop place events)

same_behind : (begin unbroken : WorldState) (events : List Event) (source place : ℕ) (event : Event)
    → unbroken ≡ unbroken_world begin events place
    → take (place + 1) events ≡ take place events ++ event ∷ [] → drop place events ≡ event ∷ drop (place + 1) events
    → MakesTheSame unbroken event source → broken_world begin events source (place + 1) ≡ broken_world begin events source place
same_behind begin unbroken events source place event is more others same =
    let break : WorldState → WorldState = λ world. after world (BaseDown source) in
    let rest : WorldState → WorldState = λ world. after_all world (drop (place + 1) events) in
    broken_behind begin events source (place + 1)
    ∙ ap (λ (xs : List Event). rest (break (after_all begin xs))) more
    ∙ ap (λ (world : WorldState). rest (break world)) (after_all-append begin (take place events) (event ∷ []))
    ∙ ap (λ (world : WorldState). rest (break (after world event))) (sym is)
    ∙ ap rest (sym same)
    ∙ ap (λ (world : WorldState). rest (after (break world) event)) is
    ∙ ap (after_all (break (after_all begin (take place events)))) (sym others)
    ∙ sym (broken_behind begin events source place)

-- the event at a place
pub record IsEvent (events : List Event) (place : ℕ) (event : Event) : Type 0 where
  pub taken : take (place + 1) events ≡ take place events ++ event ∷ []
  pub left : drop place events ≡ event ∷ drop (place + 1) events

pub event_at : (events : List Event) (place : ℕ) (event : Event) → place < length events → event ≡ get_or events place event
    → IsEvent events place event
event_at events place event below is =
    let next : suc place ≡ place + 1 = omega arith in
    record {
      taken = take_more events place event below ∙ ap (λ (x : Event). take place events ++ x ∷ []) (sym is);
      left = drop-cons events place event below ∙ ap (λ (x : Event). x ∷ drop (suc place) events) (sym is)
          ∙ ap (λ (n : ℕ). event ∷ drop n events) next;
    }

-- what was counted holds on where the break can pass the event
pub counted_again : (begin unbroken : WorldState) (events : List Event) (source place : ℕ) (counts : Counts) (event : Event)
    → unbroken ≡ unbroken_world begin events place → counts ≡ broken_counts begin events source place → IsEvent events place event
    → MakesTheSame unbroken event source → counts ≡ broken_counts begin events source (place + 1)
counted_again begin unbroken events source place counts event follows is at same =
    is ∙ ap (λ (world : WorldState). counts_of world.scene)
    (sym (same_behind begin unbroken events source place event follows at.taken at.left same))

pub follows_on : (begin unbroken next : WorldState) (events : List Event) (place : ℕ) (event : Event)
    → unbroken ≡ unbroken_world begin events place → IsEvent events place event → next ≡ after unbroken event
    → next ≡ unbroken_world begin events (place + 1)
follows_on begin unbroken next events place event follows at ran =
    ran
    ∙ ap (λ (world : WorldState). after world event) follows
    ∙ sym (after_all-append begin (take place events) (event ∷ []))
    ∙ ap (after_all begin) (sym at.taken)

pub on_ok : {X E P : Type 0} (result : Result X E) → P → OnOk result P
on_ok (Ok x) p = p
on_ok (Err error) p = tt

-- ---- the first place at which more was accepted than sent

excess_more : (counts : ℕ → Counts) (n : ℕ) → first_of (excess_below counts n) (excess_at n (counts n)) ≡ excess_below counts (n + 1)
unfolding excess_below
excess_more counts n =
    let next : suc n ≡ n + 1 = omega arith in
    ap (excess_below counts) next

no_excess : (counts : ℕ → Counts) → (let none : Option ℕ = None in none) ≡ excess_below counts 0
unfolding excess_below
no_excess counts = refl

excess_next : (begin : WorldState) (events : List Event) (source place : ℕ) (counts : Counts) (found next : Option ℕ)
    → counts ≡ broken_counts begin events source place → found ≡ excess_below (broken_counts begin events source) place
    → next ≡ first_of found (excess_at place counts) → next ≡ excess_below (broken_counts begin events source) (place + 1)
excess_next begin events source place counts found next is before found_here =
    found_here
    ∙ ap (λ (o : Option ℕ). first_of o (excess_at place counts)) before
    ∙ ap (λ (c : Counts). first_of (excess_below (broken_counts begin events source) place) (excess_at place c)) is
    ∙ excess_more (broken_counts begin events source) place

-- ---- the loop

-- at a place: its line is the last that was written, and no link broke yet
pub record IsAt (begin : WorldState) (events : List Event) (source place : ℕ) (unbroken : WorldState) (counts : Counts)
    (excess : Option ℕ) (old new : Option (List ℕ)) : Type 0 where
  pub follows : unbroken ≡ unbroken_world begin events place
  pub counted : counts ≡ broken_counts begin events source place
  pub excess_so_far : excess ≡ excess_below (broken_counts begin events source) (place + 1)
  pub written : Appends old new (texts_below (line_at begin events source) (place + 1))

pub at_first : (begin unbroken : WorldState) (events : List Event) (source : ℕ) (counts : Counts) (excess : Option ℕ) (old new : Option (List ℕ))
    → unbroken ≡ begin → counts ≡ broken_counts begin events source 0 → excess ≡ first_of None (excess_at 0 counts)
    → Appends old new (counted_line 0 counts) → IsAt begin events source 0 unbroken counts excess old new
at_first begin unbroken events source counts excess old new same is most line = record {
  follows = same;
  counted = is;
  excess_so_far = excess_next begin events source 0 counts None excess is (no_excess (broken_counts begin events source)) most;
  written = subst (Appends old new) (ap (counted_line 0) is ∙ first_below (line_at begin events source)) line;
}

pub at_next : (begin : WorldState) (events : List Event) (source place : ℕ) (unbroken next : WorldState) (counts more : Counts)
    (excess most : Option ℕ) (old mid new : Option (List ℕ)) → IsAt begin events source place unbroken counts excess old mid
    → next ≡ unbroken_world begin events (place + 1) → more ≡ broken_counts begin events source (place + 1)
    → most ≡ first_of excess (excess_at (place + 1) more)
    → Appends mid new (counted_line (place + 1) more) → IsAt begin events source (place + 1) next more most old new
at_next begin events source place unbroken next counts more excess most old mid new there follows is found line =
    let lines : ℕ → List ℕ = line_at begin events source in
    record {
      follows = follows;
      counted = is;
      excess_so_far = excess_next begin events source (place + 1) more excess most is there.excess_so_far found;
      written = subst (Appends old new) (more_below lines (place + 1))
          (Appends-trans old mid new (texts_below lines (place + 1)) (lines (place + 1)) there.written
          (subst (Appends mid new) (ap (counted_line (place + 1)) is) line));
    }
