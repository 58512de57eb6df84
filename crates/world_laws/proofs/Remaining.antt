-- SPDX-License-Identifier: MIT OR Apache-2.0
-- What is due for a channel follows the state in which the controller has it.
use Rattle.world_laws.proofs.Prelude.{◌≡◌, ℕ, ◌==◌, ◌&&◌, ◌||◌, not, Bool, true, false, if◌then◌else◌, List, [], ◌∷◌, ◌++◌, Option, Some}
use Rattle.world_laws.proofs.Prelude.{None, refl, sym, ap, ◌∙◌, subst, append_assoc, append-nil, Place, Out}
use Rattle.world_laws.proofs.Prelude.{AllByRecursion-append, ChannelState, Free, InUse, Releasing, activation_ack, Rsl, acknowledgement}
use Rattle.world_laws.proofs.Prelude.{is_active_then, rsl_in, is_in_use, true≢false, is_release_ack, NoneReleases, ReleasesLast, Order}
use Rattle.world_laws.proofs.Prelude.{TakesTurns, Turns, order_by, order_in}
use Rattle.rsl_codec.specs.declared.rsl.Rsl.TheVariants as rsl
use Rattle.world_laws.specs.Remaining.{EndsWithRelease, IsDueIn, KeepsDue, TakingKeepsDue, after_ack, due_for}
use Rattle.world_laws.specs.TakingTurns.Order.{activates, releases}
use Rattle.world_laws.proofs.Framing.{all_left}

-- ---- lists

none_then_release : (ms : List Rsl) (m : Rsl) → NoneReleases ms → is_release_ack m ≡ true → EndsWithRelease (ms ++ m ∷ [])
none_then_release [] m none is = is
none_then_release (x ∷ []) m none is = (none.0, is)
none_then_release (x ∷ y ∷ ms) m none is = (none.0, none_then_release (y ∷ ms) m none.1 is)

ends_front : (up rest : List Rsl) → EndsWithRelease (up ++ rest) → ReleasesLast up
ends_front [] rest ends = tt
ends_front (x ∷ []) rest ends = ((λ is. refl), tt)
ends_front (x ∷ y ∷ up) rest ends = ((λ is. absurd (true≢false (sym is ∙ ends.0))), ends_front (y ∷ up) rest ends.1)

-- ---- one output

-- what one output has due, by what it orders
due_by : (k : ℕ) (active : Bool) (o : Option Rsl) → (order_by k o ≡ None → (acknowledgement k active o ≡ []) × (is_active_then k active o ≡ active)) × (order_by k o ≡ Some activates → active ≡ false → (acknowledgement k active o ≡ activation_ack k ∷ []) × (is_active_then k active o ≡ true))
    × (order_by k o ≡ Some releases → (acknowledgement k active o ≡ rsl.RfChannelReleaseAck k ∷ []) × (is_active_then k active o ≡ false))
due_by k active (Some (rsl.ChannelActivation a)) = by (a.channel == k) active where
  by : (b active : Bool) → ((if b then Some activates else None) ≡ None → ((if (b && not active) then activation_ack k ∷ [] else []) ≡ []) × ((active || b) ≡ active)) × ((if b then Some activates else None) ≡ Some activates → active ≡ false → ((if (b && not active) then activation_ack k ∷ [] else []) ≡ activation_ack k ∷ []) × ((active || b) ≡ true))
      × ((if b then Some activates else None) ≡ Some releases → ((if (b && not active) then activation_ack k ∷ [] else []) ≡ rsl.RfChannelReleaseAck k ∷ []) × ((active || b) ≡ false))
  by true true = ((λ is. absurd cc), (λ is off. absurd cc), (λ is. absurd cc))
  by true false = ((λ is. absurd cc), (λ is off. (refl, refl)), (λ is. absurd cc))
  by false true = ((λ is. (refl, refl)), (λ is off. absurd cc), (λ is. absurd cc))
  by false false = ((λ is. (refl, refl)), (λ is off. absurd cc), (λ is. absurd cc))
due_by k active (Some (rsl.RfChannelRelease number)) = by (number == k) where
  by : (b : Bool) → ((if b then Some releases else None) ≡ None → ((if b then rsl.RfChannelReleaseAck k ∷ [] else []) ≡ []) × ((not b && active) ≡ active)) × ((if b then Some releases else None) ≡ Some activates → active ≡ false → ((if b then rsl.RfChannelReleaseAck k ∷ [] else []) ≡ activation_ack k ∷ []) × ((not b && active) ≡ true))
      × ((if b then Some releases else None) ≡ Some releases → ((if b then rsl.RfChannelReleaseAck k ∷ [] else []) ≡ rsl.RfChannelReleaseAck k ∷ []) × ((not b && active) ≡ false))
  by true = ((λ is. absurd cc), (λ is off. absurd cc), (λ is. (refl, refl)))
  by false = ((λ is. (refl, refl)), (λ is off. absurd cc), (λ is. absurd cc))
due_by k active _ = ((λ is. (refl, refl)), (λ is off. absurd cc), (λ is. absurd cc))

record OneDue (at : Place) (before between : ChannelState) (out : Out) (outs : List Out) : Type 0 where
  first : List Rsl
  is : due_for at (is_in_use before) (out ∷ outs) ≡ first ++ due_for at (is_in_use between) outs
  keeps : (messages : List Rsl) → IsDueIn before messages → IsDueIn between (messages ++ first)

-- the acknowledgement and the activity that it leaves
with_first : (at : Place) (outs : List Out) (first : List Rsl) (active : Bool) (ack : List Rsl) (now : Bool) →
    ack ≡ first →
    now ≡ active →
    ack ++ due_for at now outs ≡ first ++ due_for at active outs
with_first at outs first active ack now is same = ap (λ (ms : List Rsl). ms ++ due_for at now outs) is ∙ ap (λ (b : Bool). first ++ due_for at b outs) same

same_due : (state other : ChannelState) (messages : List Rsl) → other ≡ state → IsDueIn state messages → IsDueIn other (messages ++ [])
same_due state other messages is due = subst (IsDueIn other) (sym (append-nil messages)) (subst (λ (s : ChannelState). IsDueIn s messages) (sym is) due)

own_due : (at : Place) (out : Out) (outs : List Out) (o : Option Order) → order_by at.number (rsl_in out.frame) ≡ o → (before between : ChannelState) → Turns o before between → (first : List Rsl) × (acknowledgement at.number (is_in_use before) (rsl_in out.frame) ++ due_for at (is_active_then at.number (is_in_use before) (rsl_in out.frame)) outs ≡ first ++ due_for at (is_in_use between) outs)
    × ((messages : List Rsl) → IsDueIn before messages → IsDueIn between (messages ++ first))
own_due at out outs None is before between turns =
    let due = (due_by at.number (is_in_use before) (rsl_in out.frame)).0 is in
    ([], with_first at outs [] (is_in_use between) (acknowledgement at.number (is_in_use before) (rsl_in out.frame)) (is_active_then at.number (is_in_use before) (rsl_in out.frame)) due.0 (due.1 ∙ ap is_in_use (sym turns)), λ messages. same_due before between messages turns)
own_due at out outs (Some activates) is before between turns =
    let due = (due_by at.number (is_in_use before) (rsl_in out.frame)).1 is (ap is_in_use turns.0) in
    let one : List Rsl = activation_ack at.number ∷ [] in (
      one,
      with_first at outs one (is_in_use between) (acknowledgement at.number (is_in_use before) (rsl_in out.frame)) (is_active_then at.number (is_in_use before) (rsl_in out.frame)) due.0 (due.1 ∙ ap is_in_use (sym turns.2)),
      λ messages due_in. subst (λ (s : ChannelState). IsDueIn s (messages ++ one)) (sym turns.2) (AllByRecursion-append (λ m. is_release_ack m ≡ false) messages one (subst (λ (s : ChannelState). IsDueIn s messages) turns.0 due_in) (refl, tt)),
    )
own_due at out outs (Some releases) is before between turns =
    let due = (due_by at.number (is_in_use before) (rsl_in out.frame)).2 is in
    let one : List Rsl = rsl.RfChannelReleaseAck at.number ∷ [] in (
      one,
      with_first at outs one (is_in_use between) (acknowledgement at.number (is_in_use before) (rsl_in out.frame)) (is_active_then at.number (is_in_use before) (rsl_in out.frame)) due.0 (due.1 ∙ ap is_in_use (sym turns.2)),
      λ messages due_in. subst (λ (s : ChannelState). IsDueIn s (messages ++ one)) (sym turns.2) (none_then_release messages (rsl.RfChannelReleaseAck at.number) (subst (λ (s : ChannelState). IsDueIn s messages) turns.1 due_in) refl),
    )

one_by : (at : Place) (before between : ChannelState) (out : Out) (outs : List Out) (b : Bool) → Turns (if b then order_by at.number (rsl_in out.frame) else None) before between → (first : List Rsl)
    × ((if b then acknowledgement at.number (is_in_use before) (rsl_in out.frame) ++ due_for at (is_active_then at.number (is_in_use before) (rsl_in out.frame)) outs else due_for at (is_in_use before) outs) ≡ first ++ due_for at (is_in_use between) outs)
    × ((messages : List Rsl) → IsDueIn before messages → IsDueIn between (messages ++ first))
one_by at before between out outs true turns = own_due at out outs (order_by at.number (rsl_in out.frame)) refl before between turns
one_by at before between out outs false turns = ([], ap (λ (s : ChannelState). due_for at (is_in_use s) outs) (sym turns), λ messages. same_due before between messages turns)

one_due : (at : Place) (before between : ChannelState) (out : Out) (outs : List Out) →
    Turns (order_in at out) before between →
    OneDue at before between out outs
one_due at before between out outs turns = let one = one_by at before between out outs (out.to == at.station) turns in record { first = one.0; is = one.1; keeps = one.2 }

-- ---- all

orders_keep : (at : Place) (before after : ChannelState) (messages : List Rsl) (outs : List Out) →
    TakesTurns at before outs after →
    IsDueIn before messages →
    IsDueIn after (messages ++ due_for at (is_in_use before) outs)
orders_keep at before after messages [] turns due = same_due before after messages turns due
orders_keep at before after messages (out ∷ outs) turns due =
    let one = one_due at before turns.0 out outs turns.1 in
    subst (IsDueIn after) (append_assoc messages one.first (due_for at (is_in_use turns.0) outs) ∙ ap (λ (ms : List Rsl). messages ++ ms) (sym one.is))
    (orders_keep at turns.0 after (messages ++ one.first) outs turns.2 (one.keeps messages due))

taking_keeps : TakingKeepsDue
taking_keeps (Releasing n) m [] due = subst (λ (b : Bool). IsDueIn (after_ack b (Releasing n)) []) (sym due) tt
taking_keeps (Releasing n) m (x ∷ xs) due = subst (λ (b : Bool). IsDueIn (after_ack b (Releasing n)) (x ∷ xs)) (sym due.0) due.1
taking_keeps Free m messages due = subst (λ (b : Bool). IsDueIn (after_ack b Free) messages) (sym due.0) due.1
taking_keeps (InUse n) m messages due = subst (λ (b : Bool). IsDueIn (after_ack b (InUse n)) messages) (sym due.0) due.1

pub keeps_due_all : (at : Place) → KeepsDue at
keeps_due_all at = record {
  orders = orders_keep at;
  taking = taking_keeps;
  tells = λ n up rest. record { using = all_left (λ m. is_release_ack m ≡ false) up rest; releasing = ends_front up rest };
}
