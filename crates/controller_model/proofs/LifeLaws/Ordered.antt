-- SPDX-License-Identifier: MIT OR Apache-2.0
-- The messages handed to the mobile of a connection are a subsequence of those that the switch
-- sent.
use Rattle.controller_model.proofs.Prelude.{◌≡◌, ◌⊎◌, ℕ, ◌≤◌, ◌<◌, Bool, if◌then◌else◌, List, [], ◌∷◌, ◌++◌, filter, fold, Option, Some}
use Rattle.controller_model.proofs.Prelude.{None, refl, sym, subst, ap, ◌∙◌, inl, inr, arith, append-nil, cases_Bool, cond-true, cond-false}
use Rattle.controller_model.proofs.Prelude.{Message, Connection, IsOpen, is_dtap, Sapi, Zero, Three, messages, Parameters, handed, rejects}
use Rattle.controller_model.proofs.Prelude.{Acts, Brought, brought_in, ages, rests, opens, takes_row, ConservesDownlink, IsPart, Switched}
use Rattle.controller_model.proofs.Prelude.{counted, nothing_switched, switched, with_moment, IsThere, Moment, connection_of, Step}
use Rattle.controller_model.proofs.Prelude.{Controller, each, new_controller, step}
use Rattle.controller_model.proofs.LifeLaws.DownlinkLife.{agree_step, conserved, moments_of, new_agrees}
use Rattle.controller_model.proofs.LifeLaws.Fitting.{Fits, new_fits, step_fits}
use Rattle.controller_model.proofs.LifeLaws.SeenStations.{open_or}
use Rattle.controller_model.proofs.LifeLaws.Silence.{kept_there, same_state, step_silence}
use Rattle.controller_model.proofs.LifeLaws.Switched.{AgreesDown, was}
use Rattle.controller_model.proofs.LifeLaws.Turns.{step_does}

-- ---- parts of lists

part_skip : (xs : List (List ℕ)) (y : List ℕ) (ys : List (List ℕ)) → IsPart xs ys → IsPart xs (y ∷ ys)
part_skip [] y ys part = tt
part_skip (x ∷ xs) y ys part = inr part

part_same : (xs : List (List ℕ)) → IsPart xs xs
part_same [] = tt
part_same (x ∷ xs) = inl (refl, part_same xs)

part_more : (xs ys zs : List (List ℕ)) → IsPart xs ys → IsPart xs (ys ++ zs)
part_more [] ys zs part = tt
part_more (x ∷ xs) [] zs part = absurd part
part_more (x ∷ xs) (y ∷ ys) zs (inl first) = inl (first.0, part_more xs ys zs first.1)
part_more (x ∷ xs) (y ∷ ys) zs (inr others) = inr (part_more (x ∷ xs) ys zs others)

part_behind : (ys zs : List (List ℕ)) → IsPart zs (ys ++ zs)
part_behind [] zs = part_same zs
part_behind (y ∷ ys) zs = part_skip zs y (ys ++ zs) (part_behind ys zs)

part_both : (xs ys zs : List (List ℕ)) → IsPart xs ys → IsPart (xs ++ zs) (ys ++ zs)
part_both [] ys zs part = part_behind ys zs
part_both (x ∷ xs) [] zs part = absurd part
part_both (x ∷ xs) (y ∷ ys) zs (inl first) = inl (first.0, part_both xs ys zs first.1)
part_both (x ∷ xs) (y ∷ ys) zs (inr others) = inr (part_both (x ∷ xs) ys zs others)

part_front : (xs ys zs : List (List ℕ)) → IsPart (xs ++ ys) zs → IsPart xs zs
part_front [] ys zs part = tt
part_front (x ∷ xs) ys [] part = absurd part
part_front (x ∷ xs) ys (z ∷ zs) (inl first) = inl (first.0, part_front xs ys zs first.1)
part_front (x ∷ xs) ys (z ∷ zs) (inr others) = inr (part_front (x ∷ xs) ys zs others)

-- ---- each step

-- what was handed is some of what arrived; and so is what wasn't rejected, while the connection is
-- there
pub record IsOrdered (a : Switched) (o : Option Connection) : Type 0 where
  pub handed : IsPart a.handed a.arrived
  pub received : IsThere o → IsPart a.received a.arrived

open_there : (o : Option Connection) (s : Connection) → o ≡ Some s → IsOpen s.state → IsThere o
open_there o s is valid = subst IsThere (sym is) valid

there_open : (o : Option Connection) (s : Connection) → o ≡ Some s → IsThere o → IsOpen s.state
there_open o s is there = subst IsThere is there

there_or : (o : Option Connection) → IsThere o ⊎ (IsThere o → ⊥)
there_or None = inr (λ there. there)
there_or (Some s) = open_or s.state

-- a connection that is there was there, or it is new
was_there : (sapi : Sapi) (number next : ℕ) (up : Bool) (brought : Brought) (before after : Option Connection) (put : List Message) (a : Switched) →
    Acts number next up brought before put after →
    AgreesDown sapi number next a before →
    IsThere after →
    IsThere before ⊎ (a ≡ nothing_switched)
unfolding AgreesDown
was_there sapi number next up brought before after put a (rests silent same none) agrees there = inl (subst IsThere same there)
was_there sapi number next up brought before after put a (ages old now is_time is aged silent same) agrees there =
    inl (open_there before old is (subst IsOpen (same_state old now aged) (there_open after now same there)))
was_there sapi number next up brought before after put a (opens begins_as linked_up channel request delay is_nothing none_before put_is same) agrees there =
    inr (subst (AgreesDown sapi number next a) none_before agrees (omega arith))
was_there sapi number next up brought before after put a (takes_row old c input offer r is aged by fits put_is same) agrees there =
    inl (open_there before old is (subst IsOpen (same_state old c aged) (was c input offer r fits (kept_there r.next.state r.next (subst IsThere same there)))))

received_part : (number : ℕ) (sapi : Sapi) (a : Switched) (m : Moment) →
    IsPart a.handed a.arrived →
    IsPart a.received a.arrived →
    IsPart (with_moment number sapi a m).received (with_moment number sapi a m).arrived
received_part number Zero a m handed received = part_both a.received a.arrived (counted number Zero a m) received
received_part number Three a m handed received = elim (cases_Bool (rejects m.messages)) [
  | inl hit ↦ subst (λ (xs : List (List ℕ)). IsPart xs (a.arrived ++ counted number Three a m)) (sym (cond-true _ _ _ hit)) (part_more a.handed a.arrived (counted number Three a m) handed)
  | inr miss ↦ subst (λ (xs : List (List ℕ)). IsPart xs (a.arrived ++ counted number Three a m)) (sym (cond-false _ _ _ miss)) (part_both a.received a.arrived (counted number Three a m) received)
]

new_part : (number : ℕ) (sapi : Sapi) (a : Switched) (m : Moment) →
    a ≡ nothing_switched →
    IsPart (with_moment number sapi a m).received (with_moment number sapi a m).arrived
new_part number sapi a m is = subst (λ (b : Switched). IsPart (with_moment number sapi b m).received (with_moment number sapi b m).arrived) (sym is) (received_part number sapi nothing_switched m tt tt)

held_part : (sapi : Sapi) (b : Switched) (after : Option Connection) →
    ConservesDownlink b sapi after →
    IsThere after →
    IsPart b.received b.arrived →
    IsPart b.handed b.arrived
held_part sapi b None kept there received = absurd there
held_part sapi b (Some s) kept there received =
    part_front b.handed (filter is_dtap (messages s.down sapi)) b.arrived (subst (λ (xs : List (List ℕ)). IsPart xs b.arrived) (sym (kept there)) received)

none_handed : (number : ℕ) (sapi : Sapi) (a : Switched) (m : Moment) →
    handed sapi m.messages ≡ [] →
    IsPart a.handed a.arrived →
    IsPart (with_moment number sapi a m).handed (with_moment number sapi a m).arrived
none_handed number sapi a m none part =
    subst (λ (xs : List (List ℕ)). IsPart xs (a.arrived ++ counted number sapi a m)) (sym (ap (λ (xs : List (List ℕ)). a.handed ++ xs) none ∙ append-nil a.handed)) (part_more a.handed a.arrived (counted number sapi a m) part)

ordered_step : (number : ℕ) (sapi : Sapi) (a : Switched) (before after : Option Connection) (m : Moment) → (IsThere after → IsThere before ⊎ (a ≡ nothing_switched)) → ConservesDownlink (with_moment number sapi a m) sapi after →
    ((IsThere after → ⊥) → handed sapi m.messages ≡ []) → IsOrdered a before → IsOrdered (with_moment number sapi a m) after
ordered_step number sapi a before after m began kept over ordered = record {
  handed = elim (there_or after) [
    | inl there ↦ held_part sapi (with_moment number sapi a m) after kept there (received there)
    | inr none ↦ none_handed number sapi a m (over none) ordered.handed
  ];
  received = received;
}
  where
    received : IsThere after → IsPart (with_moment number sapi a m).received (with_moment number sapi a m).arrived
    received there = elim (began there) [
      | inl was ↦ received_part number sapi a m ordered.handed (ordered.received was)
      | inr fresh ↦ new_part number sapi a m fresh
    ]

-- ---- a whole life

ordered_run : (sapi : Sapi) (number : ℕ) (c : Controller) (from_one : 1 ≤ number) (fits : Fits number c) (a : Switched) (steps : List Step) → AgreesDown sapi number c.next_number a (connection_of c number) → IsOrdered a (connection_of c number) →
    IsOrdered (fold (with_moment number sapi) a (moments_of number c from_one fits steps)) (connection_of (each step c steps).next number)
unfolding moments_of
ordered_run sapi number c from_one fits a [] agrees ordered = ordered
ordered_run sapi number c from_one fits a (s ∷ ss) agrees ordered =
    let does = step_does number c s from_one fits.numbered in
    let m : Moment = record { taken = s; messages = does.put } in
    let next = agree_step sapi number c from_one fits a s agrees in
    ordered_run sapi number (step c s).next from_one (step_fits number c s from_one fits) (with_moment number sapi a m) ss next
    (ordered_step number sapi a (connection_of c number) (connection_of (step c s).next number) m
    (was_there sapi number c.next_number _ (brought_in c number s) (connection_of c number) (connection_of (step c s).next number) does.put a does.acts agrees)
    (conserved sapi number (step c s).next.next_number (with_moment number sapi a m) (connection_of (step c s).next number) next)
    (λ none. ((step_silence number c s from_one fits).over none).hands sapi)
    ordered)

pub handed_in_order : (p : Parameters) (steps : List Step) (number : ℕ) (from_one : 1 ≤ number) (sapi : Sapi) →
    IsPart (switched number sapi (moments_of number (new_controller p) from_one (new_fits number p) steps)).handed (switched number sapi (moments_of number (new_controller p) from_one (new_fits number p) steps)).arrived
handed_in_order p steps number from_one sapi =
    (ordered_run sapi number (new_controller p) from_one (new_fits number p) nothing_switched steps (new_agrees sapi number p) (record { handed = tt; received = λ there. tt })).handed
