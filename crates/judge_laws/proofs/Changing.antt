-- SPDX-License-Identifier: MIT OR Apache-2.0
-- Lemmas: the due uplink messages after an input: a message arrives, a channel leaves, another one
-- comes.
use Rattle.std.proofs.Common.{◌≡◌, ℕ, ◌≤◌, ◌<◌, ◌==◌, ◌&&◌, Bool, true, false, not, List, [], ◌∷◌, ◌++◌, refl, sym, ap, ◌∙◌, arith, nat_le, inl, inr, append_assoc, append-nil, filter}
use Rattle.std.proofs.lemmas.Bool.{cases_Bool, cond-false, cond-true}
use Rattle.std.specs.List.{AllByRecursion}
use Rattle.std.specs.Prelude.{if◌then◌else◌}
use Rattle.conn_messages.specs.declared.channel.Place.{Place}
use Rattle.conn_messages.specs.declared.message.Message.{Message}
use Rattle.conn_rules.specs.Streams.{relayed}
use Rattle.dtap_codec.specs.declared.sapi.Sapi.{Sapi}
use Rattle.run_judge.specs.declared.connection.Tenure.{Tenure}
use Rattle.run_judge.specs.declared.flow.Due.{Due}
use Rattle.run_judge.specs.Connection.{due_of}
use Rattle.run_judge.specs.Flow.{arrived, insert_due}
use Rattle.run_judge.specs.FlowState.{FlowState}
use Rattle.judge_laws.proofs.Flows.{all_insert, carries_arrived, carries_more}
use Rattle.judge_laws.proofs.Lines.{IsOn, first_at, is_here, line_arrived, line_dropped, beyond_in, upto_in}
use Rattle.judge_laws.proofs.Telling.{UpIs}
use Rattle.judge_laws.specs.Agreeing.{Future, IsFrom, IsRising, Messages, UpAgrees, beyond, line, texts, upto}
use Rattle.judge_laws.specs.Places.{spot}

on_rank : (at : Place) (rank low : ℕ) (ts : List Tenure) → IsOn at rank ts → AllByRecursion (IsFrom low) ts → low ≤ rank
on_rank at rank low [] on from = absurd on
on_rank at rank low (t ∷ ts) on from = elim on [
  | inl here ↦ let least = from.0 in let same = here.1 in omega arith
  | inr later ↦ on_rank at rank low ts later.2 from.1
]

pub up_arrived : (rest : Future → Messages) (lines : List Tenure) (far : ℕ) (f : FlowState) (at : Place) (rank : ℕ) (message : List ℕ) (frame : ℕ) →
    IsOn at rank lines →
    rank ≤ far →
    UpAgrees rest lines far f →
    UpAgrees (λ future. rest (first_at at message future)) lines far (arrived (due_of rank message frame) f)
up_arrived rest lines far f at rank message frame on less up = record {
  held = insert_due (due_of rank message frame) up.held;
  low = up.low;
  carries = carries_arrived f up.held up.low (due_of rank message frame) up.carries refl (on_rank at rank up.low lines on up.from);
  from = up.from;
  within = all_insert (λ (d : Due). d.rank ≤ far) (due_of rank message frame) up.held less up.within;
  are = λ future. up.are (first_at at message future) ∙ line_arrived at (due_of rank message frame) future lines up.held on;
}

-- the same of what is said in other words
pub up_same : (rest other : Future → Messages) (lines : List Tenure) (far : ℕ) (f : FlowState) →
    ((future : Future) → other future ≡ rest future) →
    UpAgrees rest lines far f →
    UpAgrees other lines far f
up_same rest other lines far f same up = record {
  held = up.held;
  low = up.low;
  carries = up.carries;
  from = up.from;
  within = up.within;
  are = λ future. same future ∙ up.are future;
}

-- ---- a channel leaves, on which nothing arrives any more

abbrev pub cleared_at : Place → Future → Future
cleared_at at future place = if (place.station == at.station && place.number == at.number) then [] else future place

abbrev pub without_at : Place → List Tenure → List Tenure
without_at at ts = filter (λ t. not (is_here at t)) ts

less_from : (rank : ℕ) (ts : List Tenure) → AllByRecursion (λ (u : Tenure). rank < u.rank) ts → AllByRecursion (IsFrom rank) ts
less_from rank [] all = tt
less_from rank (t ∷ ts) all = ((let less = all.0 in omega arith), less_from rank ts all.1)

pub line_without : (at : Place) (future : Future) (ts : List Tenure) (ds : List Due) →
    IsRising ts →
    line (cleared_at at future) ts ds ≡ line future (without_at at ts) ds
line_without at future [] ds rising = refl
line_without at future (t ∷ ts) ds rising = elim (cases_Bool (is_here at t)) [
  | inl here ↦
      let kept : without_at at (t ∷ ts) ≡ without_at at ts = rw here refl in
      line_dropped (cleared_at at future) t ts ds (cond-true _ _ _ here) (less_from t.rank ts rising.0)
      ∙ line_without at future ts ds rising.1
      ∙ ap (λ (us : List Tenure). line future us ds) (sym kept)
  | inr there ↦
      let kept : without_at at (t ∷ ts) ≡ t ∷ without_at at ts = rw there refl in
      let same : cleared_at at future (spot t.at) ≡ future (spot t.at) = cond-false _ _ _ there in
      ap (λ (ms : Messages). texts (upto t.rank ds) ++ (ms ++ line (cleared_at at future) ts (beyond t.rank ds))) same
      ∙ ap (λ (ms : Messages). texts (upto t.rank ds) ++ (future (spot t.at) ++ ms)) (line_without at future ts (beyond t.rank ds) rising.1)
      ∙ ap (λ (us : List Tenure). line future us ds) (sym kept)
]

pub all_without : (P : Tenure → Type 0) (at : Place) (ts : List Tenure) → AllByRecursion P ts → AllByRecursion P (without_at at ts)
all_without P at [] all = tt
all_without P at (t ∷ ts) all = by (not (is_here at t)) (all_without P at ts all.1)
  where
    by : (b : Bool) → AllByRecursion P (without_at at ts) → AllByRecursion P (if b then t ∷ without_at at ts else without_at at ts)
    by true rest = (all.0, rest)
    by false rest = rest

-- what is said of futures in which nothing arrives there holds of all, where none of it is of that
-- channel
pub up_without : (rest other : Future → Messages) (lines : List Tenure) (far : ℕ) (f : FlowState) (at : Place) →
    IsRising lines →
    ((future : Future) → future at ≡ [] → other future ≡ rest future) →
    ((future : Future) → other future ≡ other (cleared_at at future)) →
    ((future : Future) → cleared_at at future at ≡ []) →
    UpAgrees rest lines far f →
    UpAgrees other (without_at at lines) far f
up_without rest other lines far f at rising law apart empty up = record {
  held = up.held;
  low = up.low;
  carries = up.carries;
  from = all_without (IsFrom up.low) at lines up.from;
  within = up.within;
  are = λ future. apart future ∙ law (cleared_at at future) (empty future) ∙ up.are (cleared_at at future) ∙ line_without at future lines up.held rising;
}

-- ---- a channel comes, as the last one

texts_all : (rank : ℕ) (ds : List Due) → AllByRecursion (λ (d : Due). d.rank ≤ rank) ds → (upto rank ds ≡ ds) × (beyond rank ds ≡ [])
texts_all rank [] all = (refl, refl)
texts_all rank (d ∷ ds) all =
    let rest = texts_all rank ds all.1 in
    (upto_in rank d ds all.0 ∙ ap (λ (xs : List Due). d ∷ xs) rest.0, beyond_in rank d ds all.0 ∙ rest.1)

all_beyond : (rank next : ℕ) (ds : List Due) →
    AllByRecursion (λ (d : Due). d.rank ≤ next) ds →
    AllByRecursion (λ (d : Due). d.rank ≤ next) (beyond rank ds)
all_beyond rank next [] all = tt
all_beyond rank next (d ∷ ds) all = by (nat_le d.rank rank) (all_beyond rank next ds all.1)
  where
    by : (b : Bool) →
        AllByRecursion (λ (d : Due). d.rank ≤ next) (beyond rank ds) →
        AllByRecursion (λ (d : Due). d.rank ≤ next) (if b then beyond rank ds else d ∷ ds)
    by true rest = rest
    by false rest = all

pub line_appended : (future : Future) (ts : List Tenure) (u : Tenure) (ds : List Due) →
    AllByRecursion (λ (d : Due). d.rank ≤ u.rank) ds →
    line future (ts ++ u ∷ []) ds ≡ line future ts ds ++ future (spot u.at)
line_appended future [] u ds all =
    let parts = texts_all u.rank ds all in
    rw (parts.0, parts.1) (ap (λ (ms : Messages). texts ds ++ ms) (append-nil (future (spot u.at))))
line_appended future (t ∷ ts) u ds all =
    ap (λ (ms : Messages). texts (upto t.rank ds) ++ (future (spot t.at) ++ ms)) (line_appended future ts u (beyond t.rank ds) (all_beyond t.rank u.rank ds all))
    ∙ ap (λ (ms : Messages). texts (upto t.rank ds) ++ ms) (sym (append_assoc (future (spot t.at)) (line future ts (beyond t.rank ds)) (future (spot u.at))))
    ∙ sym (append_assoc (texts (upto t.rank ds)) (future (spot t.at) ++ line future ts (beyond t.rank ds)) (future (spot u.at)))

pub all_push : (P : Tenure → Type 0) (ts : List Tenure) (u : Tenure) → AllByRecursion P ts → P u → AllByRecursion P (ts ++ u ∷ [])
all_push P [] u all one = (one, tt)
all_push P (t ∷ ts) u all one = (all.0, all_push P ts u all.1 one)

pub all_less : (far more : ℕ) (ds : List Due) →
    far ≤ more →
    AllByRecursion (λ (d : Due). d.rank ≤ far) ds →
    AllByRecursion (λ (d : Due). d.rank ≤ more) ds
all_less far more [] less all = tt
all_less far more (d ∷ ds) less all = ((let here = all.0 in omega arith), all_less far more ds less all.1)

pub up_appended : (rest : Future → Messages) (lines : List Tenure) (far : ℕ) (f : FlowState) (u : Tenure) →
    far ≤ u.rank →
    ((low : ℕ) → AllByRecursion (IsFrom low) lines → low ≤ u.rank) →
    UpAgrees rest lines far f →
    UpAgrees (λ future. rest future ++ future (spot u.at)) (lines ++ u ∷ []) far f
up_appended rest lines far f u less least up = record {
  held = up.held;
  low = up.low;
  carries = up.carries;
  from = all_push (IsFrom up.low) lines u up.from (least up.low up.from);
  within = up.within;
  are = λ future. ap (λ (ms : Messages). ms ++ future (spot u.at)) (up.are future) ∙ sym (line_appended future lines u up.held (all_less far u.rank up.held less up.within));
}

-- ---- what a row relays is due

pub up_is : (sapi : Sapi) (rest next : Future → Messages) (t : Tenure) (ts : List Tenure) (far : ℕ) (outs : List Message) (f : FlowState) →
    ((future : Future) → relayed sapi outs ++ next future ≡ rest future) →
    UpAgrees rest (t ∷ ts) far f →
    UpIs sapi next t ts far outs f
up_is sapi rest next t ts far outs f law up = record {
  held = up.held;
  carries = carries_more f up.held up.low t.rank up.from.0 up.carries;
  within = up.within;
  are = λ future. law future ∙ up.are future;
}

all_from : (t : Tenure) (ts : List Tenure) → IsRising (t ∷ ts) → AllByRecursion (IsFrom t.rank) (t ∷ ts)
all_from t ts rising = ((omega arith), less_from t.rank ts rising.0)

-- and what is left once it is applied
pub up_left : (sapi : Sapi) (next : Future → Messages) (t : Tenure) (ts : List Tenure) (far : ℕ) (f : FlowState) →
    IsRising (t ∷ ts) →
    UpIs sapi next t ts far [] f →
    UpAgrees next (t ∷ ts) far f
up_left sapi next t ts far f rising up = record {
  held = up.held;
  low = t.rank;
  carries = up.carries;
  from = all_from t ts rising;
  within = up.within;
  are = up.are;
}
