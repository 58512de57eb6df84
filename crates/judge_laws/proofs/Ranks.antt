-- SPDX-License-Identifier: MIT OR Apache-2.0
-- Lemmas: the tenure in which a message arrives; the channels of a connection differ.
use Rattle.std.proofs.Common.{◌≡◌, ℕ, ◌<◌, ◌==◌, true, false, List, [], ◌∷◌, ◌++◌, Some, refl, sym, ap, ◌∙◌, arith, inl, inr}
use Rattle.std.proofs.lemmas.Bool.{and_parts, cases_Bool, cond-false, cond-true, eq-eqb, eqb-true, true≢false}
use Rattle.std.specs.List.{AllByRecursion}
use Rattle.std.specs.Prelude.{map}
use Rattle.conn_messages.specs.declared.channel.Channel.{Channel}
use Rattle.conn_rules.specs.Streams.{AreApart, IsApart}
use Rattle.run_judge.specs.declared.connection.Tenure.{Tenure}
use Rattle.run_judge.specs.declared.said.StationChannel.{StationChannel}
use Rattle.run_judge.specs.Connection.{is_same, old_rank}
use Rattle.judge_laws.proofs.Lines.{IsOn, is_here}
use Rattle.judge_laws.specs.Agreeing.{IsRising}
use Rattle.judge_laws.specs.Places.{at_of, spot}

-- two tenures are on different channels
abbrev pub AreTwo : Tenure → Tenure → Type 0
AreTwo t u = is_same t.at u.at ≡ false

abbrev pub AreDistinct : List Tenure → Type 0
AreDistinct [] = Unit {0}
AreDistinct (t ∷ ts) = AllByRecursion (AreTwo t) ts × AreDistinct ts

all_two : (t : Tenure) (c : Channel) (ts : List Tenure) (cs : List Channel) →
    t.at ≡ at_of c →
    map (λ (u : Tenure). u.at) ts ≡ map at_of cs →
    AllByRecursion (IsApart c) cs →
    AllByRecursion (AreTwo t) ts
all_two t c [] cs same are all = tt
all_two t c (u ∷ us) [] same are all = absurd cc
all_two t c (u ∷ us) (d ∷ ds) same are all =
    let first : u.at ≡ at_of d = cc in
    let others : map (λ (x : Tenure). x.at) us ≡ map at_of ds = cc in
    (rw (same, first) all.0, all_two t c us ds same others all.1)

pub distinct_by : (ts : List Tenure) (cs : List Channel) → map (λ (u : Tenure). u.at) ts ≡ map at_of cs → AreApart cs → AreDistinct ts
distinct_by [] cs are apart = tt
distinct_by (t ∷ ts) [] are apart = absurd cc
distinct_by (t ∷ ts) (c ∷ cs) are apart =
    let first : t.at ≡ at_of c = cc in
    let others : map (λ (u : Tenure). u.at) ts ≡ map at_of cs = cc in
    (all_two t c ts cs first others apart.0, distinct_by ts cs others apart.1)

pub same_is : (at other : StationChannel) → is_same at other ≡ true → at ≡ other
same_is at other is =
    let parts = and_parts (at.station == other.station) (at.number == other.number) is in
    let station : at.station ≡ other.station = eqb-true at.station other.station parts.0 in
    let number : at.number ≡ other.number = eqb-true at.number other.number parts.1 in
    ap (λ (k : ℕ). at_two k at.number) station ∙ ap (λ (k : ℕ). at_two other.station k) number
  where
    at_two : ℕ → ℕ → StationChannel
    at_two station number = record { station = station; number = number }

pub is_itself : (at : StationChannel) → is_same at at ≡ true
is_itself at = rw (eq-eqb at.station at.station refl, eq-eqb at.number at.number refl) refl

-- where one is here, the other isn't
not_here : (at : StationChannel) (t u : Tenure) → is_same t.at at ≡ true → AreTwo t u → is_same u.at at ≡ false
not_here at t u here two = elim (cases_Bool (is_same u.at at)) [
  | inr miss ↦ miss
  | inl hit ↦
      let same : t.at ≡ u.at = same_is t.at at here ∙ sym (same_is u.at at hit) in
      absurd (true≢false (sym (is_itself u.at) ∙ ap (λ (x : StationChannel). is_same x u.at) (sym same) ∙ two))
]

none_here : (at : StationChannel) (t : Tenure) (us : List Tenure) →
    is_same t.at at ≡ true →
    AllByRecursion (AreTwo t) us →
    AllByRecursion (λ (u : Tenure). is_here (spot at) u ≡ false) us
none_here at t [] here all = tt
none_here at t (u ∷ us) here all = (not_here at t u here all.0, none_here at t us here all.1)

here_not : (at : StationChannel) (t u : Tenure) → is_same u.at at ≡ true → AreTwo t u → is_same t.at at ≡ false
here_not at t u here two = elim (cases_Bool (is_same t.at at)) [
  | inr miss ↦ miss
  | inl hit ↦ absurd (true≢false (sym here ∙ not_here at t u hit two))
]

above : (at : StationChannel) (low rank : ℕ) (ts us : List Tenure) →
    AllByRecursion (λ (u : Tenure). low < u.rank) (ts ++ us) →
    old_rank at ts ≡ Some rank →
    low < rank
above at low rank [] us all is = absurd cc
above at low rank (t ∷ ts) us all is = elim (cases_Bool (is_same t.at at)) [
  | inl here ↦
      let same : Some t.rank ≡ Some rank = sym (cond-true _ _ _ here) ∙ is in
      let equal : t.rank ≡ rank = cc in
      let less = all.0 in
      omega arith
  | inr there ↦ above at low rank ts us all.1 (sym (cond-false _ _ _ there) ∙ is)
]

-- a message on an old channel
pub on_old : (at : StationChannel) (rank : ℕ) (ts us : List Tenure) →
    old_rank at ts ≡ Some rank →
    AreDistinct (ts ++ us) →
    IsRising (ts ++ us) →
    IsOn (spot at) rank (ts ++ us)
on_old at rank [] us is distinct rising = absurd cc
on_old at rank (t ∷ ts) us is distinct rising = elim (cases_Bool (is_same t.at at)) [
  | inl here ↦
      let same : Some t.rank ≡ Some rank = sym (cond-true _ _ _ here) ∙ is in
      let equal : t.rank ≡ rank = cc in
      inl (here, equal, none_here at t (ts ++ us) here distinct.0)
  | inr there ↦
      let rest : old_rank at ts ≡ Some rank = sym (cond-false _ _ _ there) ∙ is in
      inr (there, above at t.rank rank ts us rising.0 rest, on_old at rank ts us rest distinct.1 rising.1)
]

all_at : (P : Tenure → Type 0) (ts us : List Tenure) (u : Tenure) → AllByRecursion P (ts ++ u ∷ us) → P u
all_at P [] us u all = all.0
all_at P (t ∷ ts) us u all = all_at P ts us u all.1

-- on the channel that serves
pub on_serving : (at : StationChannel) (serving : Tenure) (ts us : List Tenure) →
    is_same serving.at at ≡ true →
    AreDistinct (ts ++ serving ∷ us) →
    IsRising (ts ++ serving ∷ us) →
    IsOn (spot at) serving.rank (ts ++ serving ∷ us)
on_serving at serving [] us here distinct rising = inl (here, refl, none_here at serving us here distinct.0)
on_serving at serving (t ∷ ts) us here distinct rising =
    inr (here_not at t serving here (all_at (AreTwo t) ts us serving distinct.0), all_at (λ (u : Tenure). t.rank < u.rank) ts us serving rising.0, on_serving at serving ts us here distinct.1 rising.1)
