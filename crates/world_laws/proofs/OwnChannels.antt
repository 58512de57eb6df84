-- SPDX-License-Identifier: MIT OR Apache-2.0
-- What may still arrive represents what is on its way up from a connection's channels, before its
-- input is taken and after it.
use Rattle.world_laws.proofs.Prelude.{◌≡◌, ℕ, ◌&&◌, ◌||◌, not, Bool, true, false, if◌then◌else◌, List, [], ◌∷◌, ◌++◌, refl, sym, ap, ◌∙◌}
use Rattle.world_laws.proofs.Prelude.{subst, append_assoc, inl, inr, AllByRecursion, cases_Bool, cond-true, cond-false, Channel, Place}
use Rattle.world_laws.proofs.Prelude.{Input, is_at, Future, IsApart, from_input, place_of, Zero, without_control, both_empty, messages_in}
use Rattle.world_laws.proofs.Prelude.{released, is_ended, EndsLast, AreLayer3, mark, texts_of, AsOld, AsServing}
use Rattle.conn_rules.specs.declared.input.Input.TheVariants as inputs
use Rattle.world_laws.specs.LineUp.Places.{Item}
use Rattle.world_laws.specs.OwnItem.{said_by, IsRead, IsBesideTarget}
use Rattle.world_laws.proofs.Framing.{all_right}
use Rattle.world_laws.proofs.RolesAfter.{both_false}
use Rattle.world_laws.proofs.OwnFuture.{texts_append, ended_append, from_said, ended_said}

-- ---- the target beside which an input arrives

abbrev pub is_one : List Channel → Place → Bool
is_one [] place = false
is_one (c ∷ cs) place = is_at place c || is_one cs place

abbrev pub passes_target : Input → List Channel → Place → Bool
passes_target (inputs.ActivationAck at) targets place = is_one targets place
passes_target (inputs.Failure at change cause) targets place = is_one targets place
passes_target _ targets place = false

is_one-apart : (targets : List Channel) (c : Channel) → AllByRecursion (IsApart c) targets → is_one targets (place_of c) ≡ false
is_one-apart [] c apart = refl
is_one-apart (t ∷ ts) c apart = ap (λ (b : Bool). b || is_one ts (place_of c)) apart.0 ∙ is_one-apart ts c apart.1

pub passes_apart : (input : Input) (targets : List Channel) (c : Channel) →
    AllByRecursion (IsApart c) targets →
    passes_target input targets (place_of c) ≡ false
passes_apart (inputs.ActivationAck at) targets c apart = is_one-apart targets c apart
passes_apart (inputs.Failure at change cause) targets c apart = is_one-apart targets c apart
passes_apart _ targets c apart = refl

pub passes_beside : (input : Input) (targets : List Channel) (place : Place) →
    passes_target input targets place ≡ true →
    IsBesideTarget input
passes_beside (inputs.ActivationAck at) targets place is = tt
passes_beside (inputs.Failure at change cause) targets place is = tt
passes_beside _ targets place is = absurd cc

-- ---- what may still arrive

abbrev pub is_silent : Input → List ℕ → List Channel → Place → Bool
is_silent input text targets place = is_ended (said_by input text place) || passes_target input targets place

-- of a channel that is released, or of a target beside which the input arrives, nothing
abbrev pub to_arrive : Input → List ℕ → List Channel → (Place → List Item) → (ℕ → Bool) → Future
to_arrive input text targets after up place = if is_silent input text targets place then [] else texts_of (after place) ++ mark (not (up place.station) && not (is_ended (after place)))

-- the input brings no end of this channel, and doesn't pass it
pub record IsHeard (input : Input) (text : List ℕ) (targets : List Channel) (before : Place → List Item) (c : Channel) : Type 0 where
  pub carries_on : is_ended (said_by input text (place_of c)) ≡ false
  pub passes_not : passes_target input targets (place_of c) ≡ false
  pub whole : AreLayer3 (texts_of (before (place_of c)))

either_false : (a b : Bool) → a ≡ false → b ≡ false → a || b ≡ false
either_false false b none other = other
either_false true b none other = absurd cc

and_true : (a : Bool) → a && true ≡ a
and_true true = refl
and_true false = refl

pub and_false : (a : Bool) → a && false ≡ false
and_false true = refl
and_false false = refl

heard_after : (input : Input) (text : List ℕ) (targets : List Channel) (after : Place → List Item) (up : ℕ → Bool) (place : Place) → is_ended (said_by input text place) ≡ false → passes_target input targets place ≡ false
    → to_arrive input text targets after up place ≡ texts_of (after place) ++ mark (not (up place.station) && not (is_ended (after place)))
heard_after input text targets after up place carries_on passes_not =
    cond-false (is_silent input text targets place) [] (texts_of (after place) ++ mark (not (up place.station) && not (is_ended (after place)))) (either_false (is_ended (said_by input text place)) (passes_target input targets place) carries_on passes_not)

-- an end that wasn't brought now is still on its way
pub ended_same : (input : Input) (text : List ℕ) (before after : Place → List Item) (place : Place) →
    before place ≡ said_by input text place ++ after place →
    is_ended (said_by input text place) ≡ false →
    is_ended (before place) ≡ is_ended (after place)
ended_same input text before after place first carries_on = ap is_ended first ∙ ended_append (said_by input text place) (after place) ∙ ap (λ (b : Bool). b || is_ended (after place)) carries_on

heard_before : (input : Input) (text : List ℕ) (targets : List Channel) (before after : Place → List Item) (up : ℕ → Bool) (place : Place) → IsRead input text → before place ≡ said_by input text place ++ after place → is_ended (said_by input text place) ≡ false → passes_target input targets place ≡ false
    → from_input Zero input (to_arrive input text targets after up) place ≡ texts_of (before place) ++ mark (not (up place.station) && not (is_ended (before place)))
heard_before input text targets before after up place read first carries_on passes_not =
    from_said input text (to_arrive input text targets after up) place read
    ∙ ap (λ (xs : List (List ℕ)). texts_of (said_by input text place) ++ xs) (heard_after input text targets after up place carries_on passes_not)
    ∙ sym (append_assoc (texts_of (said_by input text place)) (texts_of (after place)) (mark (not (up place.station) && not (is_ended (after place)))))
    ∙ ap (λ (xs : List (List ℕ)). xs ++ mark (not (up place.station) && not (is_ended (after place)))) (sym (texts_append (said_by input text place) (after place)) ∙ ap texts_of (sym first))
    ∙ ap (λ (b : Bool). texts_of (before place) ++ mark (not (up place.station) && not b)) (sym (ended_same input text before after place first carries_on))

-- what is left of whole messages is whole
pub whole_after : (input : Input) (text : List ℕ) (before after : Place → List Item) (place : Place) →
    before place ≡ said_by input text place ++ after place →
    AreLayer3 (texts_of (before place)) →
    AreLayer3 (texts_of (after place))
whole_after input text before after place first whole =
    all_right _ (texts_of (said_by input text place)) (texts_of (after place)) (subst AreLayer3 (ap texts_of first ∙ texts_append (said_by input text place) (after place)) whole)

-- ---- on each channel

pub old_after : (input : Input) (text : List ℕ) (targets : List Channel) (before after : Place → List Item) (up : ℕ → Bool) (c : Channel) →
    before (place_of c) ≡ said_by input text (place_of c) ++ after (place_of c) →
    IsHeard input text targets before c →
    AsOld (to_arrive input text targets after up) after up c
old_after input text targets before after up c first heard = (heard_after input text targets after up (place_of c) heard.carries_on heard.passes_not, whole_after input text before after (place_of c) first heard.whole)

-- what ended now is silent from now on
ends_now : (input : Input) (text : List ℕ) (targets : List Channel) (before after : Place → List Item) (up : ℕ → Bool) (place : Place) → IsRead input text → before place ≡ said_by input text place ++ after place → is_ended (said_by input text place) ≡ true → EndsLast (before place)
    → from_input Zero input (to_arrive input text targets after up) place ≡ texts_of (before place) ++ mark (not (up place.station) && not (is_ended (before place)))
ends_now input text targets before after up place read first ends last =
    let said : said_by input text place ≡ released ∷ [] = ended_said input text place ends in
    let here : before place ≡ released ∷ after place = first ∙ ap (λ (xs : List Item). xs ++ after place) said in
    let nothing : after place ≡ [] = subst EndsLast here last in
    let alone : before place ≡ released ∷ [] = here ∙ ap (λ (xs : List Item). released ∷ xs) nothing in
    from_said input text (to_arrive input text targets after up) place read
    ∙ ap (λ (xs : List Item). texts_of xs ++ to_arrive input text targets after up place) said
    ∙ ap (λ (b : Bool). if (b || passes_target input targets place) then [] else texts_of (after place) ++ mark (not (up place.station) && not (is_ended (after place)))) ends
    ∙ ap mark (sym (and_false (not (up place.station))))
    ∙ ap (λ (xs : List Item). texts_of xs ++ mark (not (up place.station) && not (is_ended xs))) (sym alone)

pub old_before : (input : Input) (text : List ℕ) (targets : List Channel) (before after : Place → List Item) (up : ℕ → Bool) (c : Channel) → IsRead input text → before (place_of c) ≡ said_by input text (place_of c) ++ after (place_of c) → EndsLast (before (place_of c)) → passes_target input targets (place_of c) ≡ false
    → AreLayer3 (texts_of (before (place_of c))) → AsOld (from_input Zero input (to_arrive input text targets after up)) before up c
old_before input text targets before after up c read first last passes_not whole = (
  elim (cases_Bool (is_ended (said_by input text (place_of c)))) [
    | inl ends ↦ ends_now input text targets before after up (place_of c) read first ends last
    | inr carries_on ↦ heard_before input text targets before after up (place_of c) read first carries_on passes_not
  ],
  whole,
)

-- an RF CHANNEL RELEASE ACK doesn't arrive from it
pub continues_behind : (input : Input) (text : List ℕ) (before after : Place → List Item) (place : Place) →
    before place ≡ said_by input text place ++ after place →
    is_ended (before place) ≡ false →
    (is_ended (said_by input text place) ≡ false) × (is_ended (after place) ≡ false)
continues_behind input text before after place first none = both_false (is_ended (said_by input text place)) (is_ended (after place)) (sym (ended_append (said_by input text place) (after place)) ∙ ap is_ended (sym first) ∙ none)

pub serving_before : (input : Input) (text : List ℕ) (targets : List Channel) (before after : Place → List Item) (up : ℕ → Bool) (c : Channel) → IsRead input text → before (place_of c) ≡ said_by input text (place_of c) ++ after (place_of c) → is_ended (before (place_of c)) ≡ false → IsHeard input text targets before c
    → AsServing (from_input Zero input (to_arrive input text targets after up)) before up c
serving_before input text targets before after up c read first none heard =
    (heard_before input text targets before after up (place_of c) read first heard.carries_on heard.passes_not ∙ ap (λ (b : Bool). texts_of (before (place_of c)) ++ mark (not (up c.station) && not b)) none ∙ ap (λ (b : Bool). texts_of (before (place_of c)) ++ mark b) (and_true (not (up c.station))), heard.whole)

pub serving_after : (input : Input) (text : List ℕ) (targets : List Channel) (before after : Place → List Item) (up : ℕ → Bool) (c : Channel) → before (place_of c) ≡ said_by input text (place_of c) ++ after (place_of c) → is_ended (before (place_of c)) ≡ false → IsHeard input text targets before c
    → AsServing (to_arrive input text targets after up) after up c
serving_after input text targets before after up c first none heard = (
  heard_after input text targets after up (place_of c) heard.carries_on heard.passes_not ∙ ap (λ (b : Bool). texts_of (after (place_of c)) ++ mark (not (up c.station) && not b)) (continues_behind input text before after (place_of c) first none).1 ∙ ap (λ (b : Bool). texts_of (after (place_of c)) ++ mark b) (and_true (not (up c.station))),
  whole_after input text before after (place_of c) first heard.whole,
)

-- ---- on the target

abbrev pub MayCome : Future → (Place → List Item) → Channel → Type 0
MayCome future arriving c = (b : Bool) × (future (place_of c) ≡ texts_of (arriving (place_of c)) ++ mark b) × AreLayer3 (texts_of (arriving (place_of c)))

-- what a target is known by
pub record IsTarget (input : Input) (text : List ℕ) (targets : List Channel) (before after : Place → List Item) (c : Channel) : Type 0 where
  pub read : IsRead input text
  pub first : before (place_of c) ≡ said_by input text (place_of c) ++ after (place_of c)
  pub carries_on : is_ended (before (place_of c)) ≡ false
  pub silent : IsBesideTarget input → messages_in (before (place_of c)) ≡ []
  pub whole : AreLayer3 (texts_of (before (place_of c)))

silent_texts : {input : Input} {text : List ℕ} {targets : List Channel} {before after : Place → List Item} {c : Channel} → IsTarget input text targets before after c → passes_target input targets (place_of c) ≡ true
    → (texts_of (before (place_of c)) ≡ []) × (texts_of (said_by input text (place_of c)) ≡ []) × (texts_of (after (place_of c)) ≡ [])
silent_texts {input} {text} {targets} {before} {after} {c} t passes =
    let none : texts_of (before (place_of c)) ≡ [] = ap without_control (t.silent (passes_beside input targets (place_of c) passes)) in
    let both = both_empty (texts_of (said_by input text (place_of c))) (texts_of (after (place_of c))) (sym (sym (texts_append (said_by input text (place_of c)) (after (place_of c))) ∙ ap texts_of (sym t.first) ∙ none)) in
    (none, both.0, both.1)

pub passed : (input : Input) (text : List ℕ) (targets : List Channel) (after : Place → List Item) (up : ℕ → Bool) (place : Place) →
    passes_target input targets place ≡ true →
    to_arrive input text targets after up place ≡ []
passed input text targets after up place passes =
    cond-true (is_silent input text targets place) [] (texts_of (after place) ++ mark (not (up place.station) && not (is_ended (after place)))) (ap (λ (b : Bool). is_ended (said_by input text place) || b) passes ∙ or_true (is_ended (said_by input text place))) where
      or_true : (a : Bool) → a || true ≡ true
      or_true true = refl
      or_true false = refl

pub target_before : (input : Input) (text : List ℕ) (targets : List Channel) (before after : Place → List Item) (up : ℕ → Bool) (c : Channel) →
    IsTarget input text targets before after c →
    MayCome (from_input Zero input (to_arrive input text targets after up)) before c
target_before input text targets before after up c t = elim (cases_Bool (passes_target input targets (place_of c))) [
  | inl passes ↦ let none = silent_texts t passes in
      (false, from_said input text (to_arrive input text targets after up) (place_of c) t.read ∙ ap (λ (xs : List (List ℕ)). xs ++ to_arrive input text targets after up (place_of c)) none.1 ∙ passed input text targets after up (place_of c) passes ∙ ap (λ (xs : List (List ℕ)). xs ++ []) (sym none.0), t.whole)
  | inr passes_not ↦ (not (up c.station) && not (is_ended (before (place_of c))), heard_before input text targets before after up (place_of c) t.read t.first (continues_behind input text before after (place_of c) t.first t.carries_on).0 passes_not, t.whole)
]

pub target_after : (input : Input) (text : List ℕ) (targets : List Channel) (before after : Place → List Item) (up : ℕ → Bool) (c : Channel) →
    IsTarget input text targets before after c →
    MayCome (to_arrive input text targets after up) after c
target_after input text targets before after up c t = elim (cases_Bool (passes_target input targets (place_of c))) [
  | inl passes ↦ let none = silent_texts t passes in
      (false, passed input text targets after up (place_of c) passes ∙ ap (λ (xs : List (List ℕ)). xs ++ []) (sym none.2), whole_after input text before after (place_of c) t.first t.whole)
  | inr passes_not ↦ (not (up c.station) && not (is_ended (after (place_of c))), heard_after input text targets after up (place_of c) (continues_behind input text before after (place_of c) t.first t.carries_on).0 passes_not, whole_after input text before after (place_of c) t.first t.whole)
]
