-- SPDX-License-Identifier: MIT OR Apache-2.0
-- What an RF CHANNEL RELEASE ACK leaves of the old channels.
use Rattle.world_laws.proofs.Prelude.{◌≡◌, ℕ, suc, ◌&&◌, ◌||◌, not, nat_eq, Bool, true, false, if◌then◌else◌, cond, List, [], ◌∷◌, ◌++◌}
use Rattle.world_laws.proofs.Prelude.{Option, Some, None, option_map, unwrap_or, refl, sym, ap, ◌∙◌, subst, inl, inr, AllByRecursion}
use Rattle.world_laws.proofs.Prelude.{cases_Bool, Channel, Place, Drain, is_at, drain_at, done_at, AreApart, IsApart, undone}
use Rattle.world_laws.proofs.Prelude.{place_of, and_left, same_place, released, is_ended, lacks, some_lacks, away_of}
use Rattle.conn_rules.specs.declared.input.Input.TheVariants as inputs
use Rattle.world_laws.specs.LineUp.Places.{Item}
use Rattle.world_laws.specs.OwnItem.{said_by}
use Rattle.world_laws.proofs.Apart.{eqb_sym}
use Rattle.world_laws.proofs.OwnChannels.{and_false, ended_same}
use Rattle.world_laws.proofs.Quiet.{all_of}
use Rattle.world_laws.proofs.RolesAfter.{AreReleased}

-- ---- places

pub same_at : (at : Place) (c : Channel) → same_place (place_of c) at ≡ is_at at c
same_at at c = ap (λ (b : Bool). b && nat_eq c.number at.number) (eqb_sym c.station at.station) ∙ ap (λ (b : Bool). nat_eq at.station c.station && b) (eqb_sym c.number at.number)

pub released_here : (text : List ℕ) (at : Place) (c : Channel) →
    is_at at c ≡ true →
    said_by (inputs.ReleaseAck at) text (place_of c) ≡ released ∷ []
released_here text at c here = ap (λ (b : Bool). if b then released ∷ [] else []) (same_at at c ∙ here)

pub released_elsewhere : (text : List ℕ) (at : Place) (c : Channel) →
    is_at at c ≡ false →
    said_by (inputs.ReleaseAck at) text (place_of c) ≡ []
released_elsewhere text at c other = ap (λ (b : Bool). if b then released ∷ [] else []) (same_at at c ∙ other)

-- ---- the channels that go on draining

later_of : (o : Option ℕ) (place : ℕ) →
    option_map (λ place. suc place) o ≡ Some place →
    (later : ℕ) × (o ≡ Some later) × (suc later ≡ place)
later_of None place is = absurd cc
later_of (Some later) place is = (later, refl, ap (λ (o : Option ℕ). unwrap_or o place) is)

abbrev AllIf : (Channel → Type 0) → Bool → Drain → List Drain → Type 0
AllIf P b d ds = AllByRecursion P (if b then undone ds else d.channel ∷ undone ds)

pub undone_none : (at : Place) (ds : List Drain) → drain_at at ds ≡ None → AllByRecursion (λ c. is_at at c ≡ false) (undone ds)
undone_none at [] none = tt
undone_none at (d ∷ ds) none = elim (cases_Bool (is_at at d.channel && not d.is_done)) [
  | inl here ↦ absurd (impossible (sym (ap (λ (b : Bool). cond b (Some 0) (option_map (λ place. suc place) (drain_at at ds))) here) ∙ none))
  | inr other ↦ by d.is_done refl (undone_none at ds (rest (drain_at at ds) (sym (ap (λ (b : Bool). cond b (Some 0) (option_map (λ place. suc place) (drain_at at ds))) other) ∙ none))) other
] where
  impossible : {n : ℕ} → Some n ≡ None → ⊥
  impossible is = absurd cc

  rest : (o : Option ℕ) → option_map (λ place. suc place) o ≡ None → o ≡ None
  rest None is = refl
  rest (Some place) is = absurd cc

  left : (a : Bool) → a && true ≡ false → a ≡ false
  left false is = refl
  left true is = absurd cc

  by : (b : Bool) →
      d.is_done ≡ b →
      AllByRecursion (λ c. is_at at c ≡ false) (undone ds) →
      is_at at d.channel && not d.is_done ≡ false →
      AllIf (λ c. is_at at c ≡ false) b d ds
  by true is all other = all
  by false is all other = (left (is_at at d.channel) (ap (λ (b : Bool). is_at at d.channel && not b) (sym is) ∙ other), all)

pub undone_done : (Q : Channel → Type 0) (at : Place) (place : ℕ) (ds : List Drain) →
    drain_at at ds ≡ Some place →
    AreApart (undone ds) →
    AllByRecursion (λ c. is_at at c ≡ false → Q c) (undone ds) →
    AllByRecursion Q (undone (done_at place ds))
undone_done Q at place [] found apart all = absurd cc
undone_done Q at place (d ∷ ds) found apart all = elim (cases_Bool (is_at at d.channel && not d.is_done)) [
  | inl here ↦ subst (λ (n : ℕ). AllByRecursion Q (undone (done_at n (d ∷ ds)))) (some_same (sym (ap (λ (b : Bool). cond b (Some 0) (option_map (λ place. suc place) (drain_at at ds))) here) ∙ found)) (first d.is_done refl here apart all)
  | inr other ↦ let later = later_of (drain_at at ds) place (sym (ap (λ (b : Bool). cond b (Some 0) (option_map (λ place. suc place) (drain_at at ds))) other) ∙ found) in
      subst (λ (n : ℕ). AllByRecursion Q (undone (done_at n (d ∷ ds)))) later.2 (behind later.0 d.is_done refl other apart all (λ apart_rest all_rest. undone_done Q at later.0 ds later.1 apart_rest all_rest))
] where
  some_same : {a b : ℕ} → Some a ≡ Some b → a ≡ b
  some_same {a} e = ap (λ (o : Option ℕ). unwrap_or o a) e

  impossible : (a : Bool) → a && false ≡ true → ⊥
  impossible true is = absurd cc
  impossible false is = absurd cc

  away : (a : Bool) → a && true ≡ false → a ≡ false
  away false is = refl
  away true is = absurd cc

  first : (b : Bool) →
      d.is_done ≡ b →
      is_at at d.channel && not d.is_done ≡ true →
      AreApart (if b then undone ds else d.channel ∷ undone ds) →
      AllIf (λ c. is_at at c ≡ false → Q c) b d ds →
      AllByRecursion Q (undone ds)
  first true is here apart all = absurd (impossible (is_at at d.channel) (ap (λ (b : Bool). is_at at d.channel && not b) (sym is) ∙ here))
  first false is here apart all = others (undone ds) apart.0 all.1 where
    others : (cs : List Channel) →
        AllByRecursion (IsApart d.channel) cs →
        AllByRecursion (λ c. is_at at c ≡ false → Q c) cs →
        AllByRecursion Q cs
    others [] apart all = tt
    others (c ∷ cs) apart all = (all.0 (away_of at d.channel c apart.0 (and_left (is_at at d.channel) (not d.is_done) here)), others cs apart.1 all.1)

  behind : (later : ℕ) (b : Bool) → d.is_done ≡ b → is_at at d.channel && not d.is_done ≡ false → AreApart (if b then undone ds else d.channel ∷ undone ds) → AllIf (λ c. is_at at c ≡ false → Q c) b d ds
      → (AreApart (undone ds) → AllByRecursion (λ c. is_at at c ≡ false → Q c) (undone ds) → AllByRecursion Q (undone (done_at later ds))) → AllByRecursion Q (undone (d ∷ done_at later ds))
  behind later true is other apart all rest = subst (λ (b : Bool). AllByRecursion Q (if b then undone (done_at later ds) else d.channel ∷ undone (done_at later ds))) (sym is) (rest apart all)
  behind later false is other apart all rest =
      subst (λ (b : Bool). AllByRecursion Q (if b then undone (done_at later ds) else d.channel ∷ undone (done_at later ds))) (sym is) (all.0 (away (is_at at d.channel) (ap (λ (b : Bool). is_at at d.channel && not b) (sym is) ∙ other)), rest apart.1 all.1)

-- one drains more
pub undone_push : (P : Channel → Type 0) (ds : List Drain) (c : Channel) →
    AllByRecursion P (undone ds) →
    P c →
    AllByRecursion P (undone (ds ++ record { channel = c; is_done = false } ∷ []))
undone_push P [] c all one = (one, tt)
undone_push P (d ∷ ds) c all one = by d.is_done all (λ rest. undone_push P ds c rest one) where
  by : (b : Bool) →
      AllIf P b d ds →
      (AllByRecursion P (undone ds) → AllByRecursion P (undone (ds ++ record { channel = c; is_done = false } ∷ []))) →
      AllIf P b d (ds ++ record { channel = c; is_done = false } ∷ [])
  by true all push = push all
  by false all push = (all.0, push all.1)

-- ---- what is missing

pub are_released : (text : List ℕ) (before after : Place → List Item) (up : ℕ → Bool) (at : Place) (ds : List Drain) →
    ((place : Place) → before place ≡ said_by (inputs.ReleaseAck at) text place ++ after place) →
    AreReleased before after up at ds
are_released text before after up at ds first = all_of _ ds (λ d. (here d, elsewhere d)) where
  here : (d : Drain) → is_at at d.channel ≡ true → lacks before up d ≡ false
  here d is = by d.is_done where
    ended : is_ended (before (place_of d.channel)) ≡ true
    ended = ap is_ended (first (place_of d.channel) ∙ ap (λ (xs : List Item). xs ++ after (place_of d.channel)) (released_here text at d.channel is))

    by : (b : Bool) → (if b then false else (not (up d.channel.station) && not (is_ended (before (place_of d.channel))))) ≡ false
    by true = refl
    by false = ap (λ (b : Bool). not (up d.channel.station) && not b) ended ∙ and_false (not (up d.channel.station))

  elsewhere : (d : Drain) → is_at at d.channel ≡ false → lacks after up d ≡ lacks before up d
  elsewhere d other = ap (λ (b : Bool). if d.is_done then false else (not (up d.channel.station) && not b)) (sym (ended_same (inputs.ReleaseAck at) text before after (place_of d.channel) (first (place_of d.channel)) (ap is_ended (released_elsewhere text at d.channel other))))

-- where nothing ended, as much is missing as before
pub lacks_same : (before after : Place → List Item) (up : ℕ → Bool) (ds : List Drain) →
    AllByRecursion (λ c. is_ended (before (place_of c)) ≡ is_ended (after (place_of c))) (undone ds) →
    some_lacks before up ds ≡ some_lacks after up ds
lacks_same before after up [] all = refl
lacks_same before after up (d ∷ ds) all = by d.is_done all (λ rest. lacks_same before after up ds rest) where
  by : (b : Bool) → AllIf (λ c. is_ended (before (place_of c)) ≡ is_ended (after (place_of c))) b d ds → (AllByRecursion (λ c. is_ended (before (place_of c)) ≡ is_ended (after (place_of c))) (undone ds) → some_lacks before up ds ≡ some_lacks after up ds)
      → (if b then false else (not (up d.channel.station) && not (is_ended (before (place_of d.channel))))) || some_lacks before up ds ≡ (if b then false else (not (up d.channel.station) && not (is_ended (after (place_of d.channel))))) || some_lacks after up ds
  by true all same = same all
  by false all same = ap (λ (b : Bool). (not (up d.channel.station) && not b) || some_lacks before up ds) all.0 ∙ ap (λ (b : Bool). (not (up d.channel.station) && not (is_ended (after (place_of d.channel)))) || b) (same all.1)
