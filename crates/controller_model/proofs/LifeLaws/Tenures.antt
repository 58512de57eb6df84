-- SPDX-License-Identifier: MIT OR Apache-2.0
-- The tenures of a connection, with what may still arrive on their channels.
use Rattle.controller_model.proofs.Prelude.{◌≡◌, ℕ, ◌==◌, ◌&&◌, Bool, true, false, not, if◌then◌else◌, List, [], ◌∷◌, ◌++◌, map, refl, sym}
use Rattle.controller_model.proofs.Prelude.{ap, ◌∙◌, inl, inr, append_assoc, append-nil, true≢false, cases_Bool, cond-true, cond-false}
use Rattle.controller_model.proofs.Prelude.{eqb-true, eq-eqb, and_parts, AllByRecursion, Channel, Place, Drain, is_at, Future, from_input}
use Rattle.controller_model.proofs.Prelude.{still_of, undone, AreAway, Sapi, Zero, Three, HeldTenure, on_channel, ServedTenure}
use Rattle.controller_model.proofs.Prelude.{acknowledged}
use Rattle.controller_model.proofs.Prelude.{ended, heard, is_on, is_same, joined, of_sapi, with_message, place_of, tenure_messages}
use Rattle.conn_rules.specs.declared.input.Input.TheVariants as inputs

-- what arrived on each, then what may still arrive, in the order in which they served
abbrev pub joined_with : Sapi → Future → List ServedTenure → List (List ℕ)
joined_with sapi f [] = []
joined_with sapi f (t ∷ old) = joined_with sapi f old ++ (of_sapi sapi t ++ (if t.is_over then [] else f t.place))

pub joined_none : (sapi : Sapi) (ts : List ServedTenure) → joined_with sapi (λ place. []) ts ≡ joined sapi ts
joined_none sapi [] = refl
joined_none sapi (t ∷ old) = ap (λ (xs : List (List ℕ)). xs ++ (of_sapi sapi t ++ (if t.is_over then [] else []))) (joined_none sapi old) ∙ ap (λ (xs : List (List ℕ)). joined sapi old ++ xs) (ap (λ (xs : List (List ℕ)). of_sapi sapi t ++ xs) (either t.is_over) ∙ append-nil (of_sapi sapi t))
  where
    either : (b : Bool) → (let xs : List (List ℕ) = if b then [] else [] in xs) ≡ []
    either true = refl
    either false = refl

-- nothing more arrives there
abbrev pub clear : Place → Future → Future
clear at f place = if is_same place at then [] else f place

abbrev pub NoneOn : Place → List ServedTenure → Type 0
NoneOn at ts = AllByRecursion (λ t. is_on at t ≡ false) ts

-- a tenure by whether it is over, and on that channel
tenure_cases : (at : Place) (t : ServedTenure) (P : Type 0) →
    (t.is_over ≡ true → P) →
    (t.is_over ≡ false → is_same t.place at ≡ true → P) →
    (t.is_over ≡ false → is_same t.place at ≡ false → P) →
    P
tenure_cases at t P over here away = elim (cases_Bool t.is_over) [
  | inl is ↦ over is
  | inr is ↦ elim (cases_Bool (is_same t.place at)) [ inl hit ↦ here is hit | inr miss ↦ away is miss ]
]

on_over : (at : Place) (t : ServedTenure) → t.is_over ≡ true → is_on at t ≡ false
on_over at t is = ap (λ (b : Bool). not b && is_same t.place at) is

on_open : (at : Place) (t : ServedTenure) → t.is_over ≡ false → is_on at t ≡ is_same t.place at
on_open at t is = ap (λ (b : Bool). not b && is_same t.place at) is

clear_one : (at : Place) (f : Future) (t : ServedTenure) →
    is_on at t ≡ false →
    (if t.is_over then [] else clear at f t.place) ≡ (if t.is_over then [] else f t.place)
clear_one at f t miss = tenure_cases at t _
    (λ is. cond-true _ _ _ is ∙ sym (cond-true _ _ _ is))
    (λ is hit. absurd (true≢false (sym hit ∙ sym (on_open at t is) ∙ miss)))
    (λ is away. ap (λ (xs : List (List ℕ)). if t.is_over then [] else xs) (cond-false _ _ _ away))

pub joined_clear : (sapi : Sapi) (at : Place) (f : Future) (ts : List ServedTenure) →
    NoneOn at ts →
    joined_with sapi (clear at f) ts ≡ joined_with sapi f ts
joined_clear sapi at f [] away = refl
joined_clear sapi at f (t ∷ old) away =
    ap (λ (xs : List (List ℕ)). xs ++ (of_sapi sapi t ++ (if t.is_over then [] else clear at f t.place))) (joined_clear sapi at f old away.1)
    ∙ ap (λ (xs : List (List ℕ)). joined_with sapi f old ++ (of_sapi sapi t ++ xs)) (clear_one at f t away.0)

-- ---- a channel's release is acknowledged

ended_sapi : (sapi : Sapi) (b : Bool) (t : ServedTenure) → of_sapi sapi (if b then record t { is_over = true } else t) ≡ of_sapi sapi t
ended_sapi Zero true t = refl
ended_sapi Three true t = refl
ended_sapi sapi false t = refl

ended_rest : (at : Place) (f : Future) (t : ServedTenure) →
    (if (ended at t).is_over then [] else f (ended at t).place) ≡ (if t.is_over then [] else clear at f t.place)
ended_rest at f t = tenure_cases at t _
    (λ is. ap (λ (u : ServedTenure). if u.is_over then [] else f u.place) (cond-false _ (record t { is_over = true }) t (on_over at t is)) ∙ cond-true _ _ _ is ∙ sym (cond-true _ _ _ is))
    (λ is hit. ap (λ (u : ServedTenure). if u.is_over then [] else f u.place) (cond-true _ (record t { is_over = true }) t (on_open at t is ∙ hit)) ∙ sym (cond-false _ _ _ is ∙ cond-true _ _ _ hit))
    (λ is away. ap (λ (u : ServedTenure). if u.is_over then [] else f u.place) (cond-false _ (record t { is_over = true }) t (on_open at t is ∙ away)) ∙ cond-false _ _ _ is ∙ sym (cond-false _ _ _ is ∙ cond-false _ _ _ away))

joined_ended : (sapi : Sapi) (at : Place) (f : Future) (ts : List ServedTenure) →
    joined_with sapi f (map (ended at) ts) ≡ joined_with sapi (clear at f) ts
joined_ended sapi at f [] = refl
joined_ended sapi at f (t ∷ old) =
    ap (λ (xs : List (List ℕ)). xs ++ (of_sapi sapi (ended at t) ++ (if (ended at t).is_over then [] else f (ended at t).place))) (joined_ended sapi at f old)
    ∙ ap (λ (xs : List (List ℕ)). joined_with sapi (clear at f) old ++ (xs ++ (if (ended at t).is_over then [] else f (ended at t).place))) (ended_sapi sapi (is_on at t) t)
    ∙ ap (λ (xs : List (List ℕ)). joined_with sapi (clear at f) old ++ (of_sapi sapi t ++ xs)) (ended_rest at f t)

pub joined_acknowledged : (sapi : Sapi) (at : Place) (f : Future) (t : ServedTenure) (old : List ServedTenure) →
    is_on at t ≡ false →
    joined_with sapi f (acknowledged at (t ∷ old)) ≡ joined_with sapi (clear at f) (t ∷ old)
joined_acknowledged sapi at f t old away =
    ap (λ (xs : List (List ℕ)). xs ++ (of_sapi sapi t ++ (if t.is_over then [] else f t.place))) (joined_ended sapi at f old)
    ∙ ap (λ (xs : List (List ℕ)). joined_with sapi (clear at f) old ++ (of_sapi sapi t ++ xs)) (sym (clear_one at f t away))

-- ---- a message arrives

heard_one : (sapi of : Sapi) (at : Place) (message : List ℕ) (f : Future) (t : ServedTenure) →
    of_sapi sapi (heard at of message t) ++ (if (heard at of message t).is_over then [] else f (heard at of message t).place) ≡ of_sapi sapi t ++ (if t.is_over then [] else from_input sapi (inputs.Dtap at of message) f t.place)
heard_one sapi of at message f t = tenure_cases at t _
    (λ is. skip (on_over at t is) ∙ ap (λ (xs : List (List ℕ)). of_sapi sapi t ++ xs) (cond-true _ _ _ is ∙ sym (cond-true _ _ _ is)))
    (λ is hit. ap (λ (u : ServedTenure). of_sapi sapi u ++ (if u.is_over then [] else f u.place)) (cond-true _ (with_message of message t) t (on_open at t is ∙ hit)) ∙ put sapi of is hit)
    (λ is away. skip (on_open at t is ∙ away) ∙ ap (λ (xs : List (List ℕ)). of_sapi sapi t ++ (if t.is_over then [] else xs)) (sym (same sapi of away)))
  where
    skip : is_on at t ≡ false →
        of_sapi sapi (heard at of message t) ++ (if (heard at of message t).is_over then [] else f (heard at of message t).place) ≡ of_sapi sapi t ++ (if t.is_over then [] else f t.place)
    skip miss = ap (λ (u : ServedTenure). of_sapi sapi u ++ (if u.is_over then [] else f u.place)) (cond-false _ (with_message of message t) t miss)

    same : (sapi of : Sapi) → is_same t.place at ≡ false → from_input sapi (inputs.Dtap at of message) f t.place ≡ f t.place
    same Zero Zero away = cond-false _ _ _ away
    same Three Three away = cond-false _ _ _ away
    same Zero Three away = refl
    same Three Zero away = refl

    put : (sapi of : Sapi) →
        t.is_over ≡ false →
        is_same t.place at ≡ true →
        of_sapi sapi (with_message of message t) ++ (if (with_message of message t).is_over then [] else f (with_message of message t).place) ≡ of_sapi sapi t ++ (if t.is_over then [] else from_input sapi (inputs.Dtap at of message) f t.place)
    put Zero Zero is hit = ap (λ (xs : List (List ℕ)). (t.zero ++ message ∷ []) ++ xs) (cond-false _ _ _ is) ∙ append_assoc t.zero (message ∷ []) (f t.place) ∙ ap (λ (xs : List (List ℕ)). t.zero ++ xs) (sym (cond-false _ _ _ is ∙ cond-true _ _ _ hit))
    put Three Three is hit = ap (λ (xs : List (List ℕ)). (t.three ++ message ∷ []) ++ xs) (cond-false _ _ _ is) ∙ append_assoc t.three (message ∷ []) (f t.place) ∙ ap (λ (xs : List (List ℕ)). t.three ++ xs) (sym (cond-false _ _ _ is ∙ cond-true _ _ _ hit))
    put Zero Three is hit = refl
    put Three Zero is hit = refl

pub joined_heard : (sapi of : Sapi) (at : Place) (message : List ℕ) (f : Future) (ts : List ServedTenure) →
    joined_with sapi f (map (heard at of message) ts) ≡ joined_with sapi (from_input sapi (inputs.Dtap at of message) f) ts
joined_heard sapi of at message f [] = refl
joined_heard sapi of at message f (t ∷ old) =
    ap (λ (xs : List (List ℕ)). xs ++ (of_sapi sapi (heard at of message t) ++ (if (heard at of message t).is_over then [] else f (heard at of message t).place))) (joined_heard sapi of at message f old)
    ∙ ap (λ (xs : List (List ℕ)). joined_with sapi (from_input sapi (inputs.Dtap at of message) f) old ++ xs) (heard_one sapi of at message f t)

-- nothing is heard, and nothing ends, on a channel that no tenure is on
pub heard_none : (of : Sapi) (at : Place) (message : List ℕ) (ts : List ServedTenure) → NoneOn at ts → map (heard at of message) ts ≡ ts
heard_none of at message [] away = refl
heard_none of at message (t ∷ old) away = ap (λ (u : ServedTenure). u ∷ map (heard at of message) old) (cond-false _ (with_message of message t) t away.0) ∙ ap (λ (us : List ServedTenure). t ∷ us) (heard_none of at message old away.1)

pub ended_none : (at : Place) (ts : List ServedTenure) → NoneOn at ts → map (ended at) ts ≡ ts
ended_none at [] away = refl
ended_none at (t ∷ old) away = ap (λ (u : ServedTenure). u ∷ map (ended at) old) (cond-false _ (record t { is_over = true }) t away.0) ∙ ap (λ (us : List ServedTenure). t ∷ us) (ended_none at old away.1)

-- ---- what a connection has still to relay

pub same_false : (at : Place) (c : Channel) → is_at at c ≡ false → is_same (place_of c) at ≡ false
same_false at c away = elim (cases_Bool (is_same (place_of c) at)) [
  | inl hit ↦
      let parts = and_parts (c.station == at.station) (c.number == at.number) hit in
      absurd (true≢false (sym (ap (λ (b : Bool). b && (at.number == c.number)) (eq-eqb at.station c.station (sym (eqb-true c.station at.station parts.0))) ∙ eq-eqb at.number c.number (sym (eqb-true c.number at.number parts.1))) ∙ away))
  | inr miss ↦ miss
]

pub channel_clear : (at : Place) (f : Future) (c : Channel) → is_at at c ≡ false → on_channel (clear at f) c ≡ on_channel f c
channel_clear at f c away = cond-false _ _ _ (same_false at c away)

pub still_clear : (sapi : Sapi) (at : Place) (f : Future) (serving : Channel) (ds : List Drain) (ts : List HeldTenure) →
    AreAway at (undone ds) →
    is_at at serving ≡ false →
    still_of sapi (clear at f) serving ds ts ≡ still_of sapi f serving ds ts
still_clear sapi at f serving ds [] away here = refl
still_clear sapi at f serving [] (t ∷ ts) away here = ap (λ (xs : List (List ℕ)). tenure_messages t sapi ++ xs) (channel_clear at f serving here)
still_clear sapi at f serving (d ∷ ds) (t ∷ ts) away here = by d.is_done refl away (λ rest. still_clear sapi at f serving ds ts rest here)
  where
    by : (b : Bool) → d.is_done ≡ b → AreAway at (if b then undone ds else d.channel ∷ undone ds) → (AreAway at (undone ds) → still_of sapi (clear at f) serving ds ts ≡ still_of sapi f serving ds ts) →
        tenure_messages t sapi ++ ((if b then [] else on_channel (clear at f) d.channel) ++ still_of sapi (clear at f) serving ds ts) ≡ tenure_messages t sapi ++ ((if b then [] else on_channel f d.channel) ++ still_of sapi f serving ds ts)
    by true is away others = ap (λ (xs : List (List ℕ)). tenure_messages t sapi ++ xs) (others away)
    by false is away others = ap (λ (xs : List (List ℕ)). tenure_messages t sapi ++ (on_channel (clear at f) d.channel ++ xs)) (others away.1) ∙ ap (λ (xs : List (List ℕ)). tenure_messages t sapi ++ (xs ++ still_of sapi f serving ds ts)) (channel_clear at f d.channel away.0)
