-- SPDX-License-Identifier: MIT OR Apache-2.0
-- A connection that hasn't asked the switch after a step hadn't asked before it, or begins in it.
-- The step puts no DATA REQUEST for it.
use Rattle.world_laws.proofs.Prelude.{◌≡◌, ℕ, Bool, List, [], ◌∷◌, Option, Some, None, refl, sym, ap, ◌∙◌, subst, AllByRecursion, Channel}
use Rattle.world_laws.proofs.Prelude.{Place, Message, access_activation, Input, State, Closed, Live, Removed, WaitActivation, WaitConfirm}
use Rattle.world_laws.proofs.Prelude.{WaitEstablish, Connection, ChangesRoles, carries_on, ends, had_ended, IsValid, Row, IsOpen, Acts, Brought}
use Rattle.world_laws.proofs.Prelude.{kept_in, ages, takes_row, opens, rests, aged_holds, fine_old, changes_of, IsNotOn, same_Some, row_of}
use Rattle.world_laws.proofs.Prelude.{IsFine, IsRequested, IsEarlyIn}
use Rattle.world_laws.proofs.Access.EarlyRows.{EarlyRow, early_row}
use Rattle.world_laws.proofs.Access.EarlyRows.EarlyRow.{acked, asked, gone}
use Rattle.world_laws.proofs.Handling.Own.{still_requested}

pub early_open : (state : State) → IsEarlyIn state → IsOpen state
early_open WaitActivation early = tt
early_open WaitEstablish early = tt
early_open _ early = absurd early

not_requested : (state : State) → IsEarlyIn state → IsRequested state → ⊥
not_requested WaitActivation early requested = requested
not_requested WaitEstablish early requested = requested
not_requested _ early requested = early

-- no row leads back
shut_remains : (s : Connection) (input : Input) (offer : Option Channel) (r : Row) →
    ChangesRoles s input offer r →
    (IsOpen s.state → ⊥) →
    IsOpen r.next.state →
    ⊥
shut_remains s input offer r (carries_on was is on) shut there = shut was
shut_remains s input offer r (ends was is over) shut there = shut was
shut_remains s input offer r (had_ended was is nothing) shut there = is there

was_early : (s : Connection) (input : Input) (offer : Option Channel) (r : Row) →
    IsValid s →
    row_of s input offer ≡ Some r →
    IsEarlyIn r.next.state →
    IsEarlyIn s.state
was_early s input offer r valid fits early = by s.state refl where
  later : IsRequested s.state → ⊥
  later requested = not_requested r.next.state early (still_requested s input offer r requested fits (early_open r.next.state early))

  shut : (IsOpen s.state → ⊥) → ⊥
  shut closed = shut_remains s input offer r (changes_of s input offer r valid fits) closed (early_open r.next.state early)

  by : (state : State) → s.state ≡ state → IsEarlyIn state
  by WaitConfirm is = absurd (later (subst IsRequested (sym is) tt))
  by (Live reference stage) is = absurd (later (subst IsRequested (sym is) tt))
  by (Closed clearing) is = absurd (shut (λ there. subst IsOpen is there))
  by Removed is = absurd (shut (λ there. subst IsOpen is there))
  by _ is = tt

kept_one : (state : State) (x now : Connection) → Some now ≡ kept_in state x → now ≡ x
kept_one Removed x now is = absurd cc
kept_one _ x now is = cc

pub data Fate (at : Place) (before : Option Connection) (now : Connection) (put : List Message) : Type 0 where
  remained : (old : Connection) →
      before ≡ Some old →
      IsEarlyIn old.state →
      old.serving ≡ now.serving →
      AllByRecursion (IsNotOn at) put →
      Fate at before now put
  begins : before ≡ None → put ≡ access_activation now.serving ∷ [] → Fate at before now put

record SamePlace (old s : Connection) : Type 0 where
  state : s.state ≡ old.state
  serving : s.serving ≡ old.serving

after_row : (at : Place) (before : Option Connection) (old s now : Connection) (input : Input) (r : Row) (put : List Message) →
    before ≡ Some old →
    SamePlace old s →
    now ≡ r.next →
    put ≡ r.outs →
    IsEarlyIn now.state →
    EarlyRow s input r →
    IsEarlyIn s.state →
    Fate at before now put
after_row at before old s now input r put was same is put_is early (acked waits row_is) early_s =
    remained old was (subst IsEarlyIn same.state early_s) (sym same.serving ∙ sym (ap (λ (x : Row). x.next.serving) row_is) ∙ sym (ap (λ (x : Connection). x.serving) is))
    (subst (AllByRecursion (IsNotOn at)) (sym (put_is ∙ ap (λ (x : Row). x.outs) row_is)) (tt, tt))
after_row at before old s now input r put was same is put_is early (asked waits place initial says here row_is) early_s = absurd (subst IsEarlyIn (ap (λ (x : Connection). x.state) is ∙ ap (λ (x : Row). x.next.state) row_is) early)
after_row at before old s now input r put was same is put_is early (gone over) early_s = absurd (subst IsEarlyIn (ap (λ (x : Connection). x.state) is ∙ over) early)

pub fate : (number next : ℕ) (up : Bool) (brought : Brought) (before : Option Connection) (put : List Message) (now : Connection) (at : Place) →
    IsFine before →
    IsEarlyIn now.state →
    Acts number next up brought before put (Some now) →
    Fate at before now put
fate number next up brought before put now at fine early (rests silent same none) = remained now (sym same) early refl (subst (AllByRecursion (IsNotOn at)) (sym silent) tt)
fate number next up brought before put now at fine early (ages old s is_time is aged silent same) =
    let older : SamePlace old s = aged_holds (SamePlace old) (λ ms c x. record { state = x.state; serving = x.serving }) old s aged (record { state = refl; serving = refl }) in
    let now_is : now ≡ s = same_Some _ _ same in
    remained old is (subst IsEarlyIn (ap (λ (x : Connection). x.state) now_is ∙ older.state) early) (sym older.serving ∙ sym (ap (λ (x : Connection). x.serving) now_is)) (subst (AllByRecursion (IsNotOn at)) (sym silent) tt)
fate number next up brought before put now at fine early (opens counts linked channel request delay is_nothing none put_is same) =
    begins none (put_is ∙ ap (λ (x : Connection). access_activation x.serving ∷ []) (sym (same_Some _ _ same)))
fate number next up brought before put now at fine early (takes_row old s input offer r is aged by fits put_is same) =
    let older : SamePlace old s = aged_holds (SamePlace old) (λ ms c x. record { state = x.state; serving = x.serving }) old s aged (record { state = refl; serving = refl }) in
    let now_is : now ≡ r.next = kept_one r.next.state r.next now same in
    let early_s : IsEarlyIn s.state = was_early s input offer r (fine_old before old s is aged fine).1 fits (subst IsEarlyIn (ap (λ (x : Connection). x.state) now_is) early) in
    after_row at before old s now input r put is older now_is put_is early (early_row s input offer r early_s fits) early_s
