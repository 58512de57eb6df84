-- SPDX-License-Identifier: MIT OR Apache-2.0
-- Lemmas: the messages of a row pass on the due messages of an open, judged connection.
use Rattle.std.proofs.Common.{◌≡◌, ℕ, ◌≤◌, Bool, true, false, List, [], ◌∷◌, ◌++◌, refl, subst, ◌∙◌, arith}
use Rattle.std.specs.List.{AllByRecursion}
use Rattle.std.specs.Prelude.{if◌then◌else◌}
use Rattle.conn_messages.specs.declared.message.Message.{Message}
use Rattle.conn_rules.specs.Streams.{handed, handed_by, is_reject, rejects, relayed, relayed_by, without_rejected}
use Rattle.dtap_codec.specs.declared.sapi.Sapi.{Sapi}
use Rattle.dtap_codec.specs.declared.sapi.Sapi.TheVariants.{Zero, Three}
use Rattle.run_judge.specs.declared.connection.Tenure.{Tenure}
use Rattle.run_judge.specs.declared.flow.Due.{Due}
use Rattle.run_judge.specs.Flow.{passed_on, rejected}
use Rattle.run_judge.specs.FlowState.{FlowState}
use Rattle.judge_laws.proofs.Flows.{carries_passed, carries_rejected}
use Rattle.judge_laws.proofs.Lines.{is_next}
use Rattle.judge_laws.specs.Agreeing.{Carries, DownIs, Future, Messages, line, texts}

-- ---- up: what these messages still relay, then what is still to be relayed behind them, is due

pub record UpIs (sapi : Sapi) (rest : Future → Messages) (t : Tenure) (ts : List Tenure) (far : ℕ) (outs : List Message) (f : FlowState) : Type 0 where
  pub held : List Due
  pub carries : Carries f held t.rank
  pub within : AllByRecursion (λ (d : Due). d.rank ≤ far) held
  pub are : (future : Future) → relayed sapi outs ++ rest future ≡ line future (t ∷ ts) held

pub up_other : (sapi : Sapi) (rest : Future → Messages) (t : Tenure) (ts : List Tenure) (far : ℕ) (m : Message) (outs : List Message) (f : FlowState) →
    relayed_by sapi m ≡ [] →
    UpIs sapi rest t ts far (m ∷ outs) f →
    UpIs sapi rest t ts far outs f
up_other sapi rest t ts far m outs f none up = record {
  held = up.held;
  carries = up.carries;
  within = up.within;
  are = λ future. (let is = up.are future in rw none at is);
}

pub up_passed : (sapi : Sapi) (rest : Future → Messages) (t : Tenure) (ts : List Tenure) (far : ℕ) (m : Message) (outs : List Message) (message : List ℕ) (frame : ℕ) (f : FlowState) →
    relayed_by sapi m ≡ message ∷ [] →
    UpIs sapi rest t ts far (m ∷ outs) f →
    UpIs sapi rest t ts far outs (passed_on message frame f)
up_passed sapi rest t ts far m outs message frame f one up =
    let behind : Future → Messages = λ future. relayed sapi outs ++ rest future in
    let next = is_next message behind t ts up.held (λ future. (let is = up.are future in rw one at is)) in
    let carries : Carries f (next.due ∷ next.behind) t.rank = subst (λ (ds : List Due). Carries f ds t.rank) next.are up.carries in
    record {
      held = next.behind;
      carries = subst (λ (x : List ℕ). Carries (passed_on x frame f) next.behind t.rank) next.is (carries_passed f next.due next.behind t.rank t.rank frame carries next.within (omega arith));
      within = (subst (AllByRecursion (λ (d : Due). d.rank ≤ far)) next.are up.within).1;
      are = next.left;
    }

-- ---- down: what these messages still hand, then what is held behind them, is due

same_rejects : (sapi : Sapi) (m : Message) (outs : List Message) (xs : Messages) →
    is_reject m ≡ false →
    without_rejected sapi (m ∷ outs) xs ≡ without_rejected sapi outs xs
same_rejects Zero m outs xs keeps = refl
same_rejects Three m outs xs keeps = rw keeps refl

pub down_other : (sapi : Sapi) (rest : Messages) (m : Message) (outs : List Message) (f : FlowState) →
    handed_by sapi m ≡ [] →
    is_reject m ≡ false →
    DownIs sapi rest (m ∷ outs) f →
    DownIs sapi rest outs f
down_other sapi rest m outs f none keeps down = record {
  held = down.held;
  carries = down.carries;
  zero = down.zero;
  are = (let is = down.are in rw none at is) ∙ same_rejects sapi m outs (texts down.held) keeps;
}

-- the first that is handed is due, and nothing is rejected then
first_due : (sapi : Sapi) (message : List ℕ) (xs : Messages) (outs : List Message) (ds : List Due) →
    message ∷ xs ≡ without_rejected sapi outs (texts ds) →
    (d : Due) × (behind : List Due) × (ds ≡ d ∷ behind) × (d.message ≡ message) × (xs ≡ without_rejected sapi outs (texts behind))
first_due Zero message xs outs [] is = absurd cc
first_due Zero message xs outs (d ∷ ds) is = (d, ds, refl, (cc), (cc))
first_due Three message xs outs ds is = by (rejects outs) ds is
  where
    by : (b : Bool) (ds : List Due) →
        message ∷ xs ≡ (if b then [] else texts ds) →
        (d : Due) × (behind : List Due) × (ds ≡ d ∷ behind) × (d.message ≡ message) × (xs ≡ (if b then [] else texts behind))
    by true ds is = absurd cc
    by false [] is = absurd cc
    by false (d ∷ ds) is = (d, ds, refl, (cc), (cc))

pub down_handed : (sapi : Sapi) (rest : Messages) (m : Message) (outs : List Message) (message : List ℕ) (frame : ℕ) (f : FlowState) →
    handed_by sapi m ≡ message ∷ [] →
    is_reject m ≡ false →
    DownIs sapi rest (m ∷ outs) f →
    DownIs sapi rest outs (passed_on message frame f)
down_handed sapi rest m outs message frame f one keeps down =
    let is : message ∷ (handed sapi outs ++ rest) ≡ without_rejected sapi outs (texts down.held) = (let were = down.are in rw one at were) ∙ same_rejects sapi m outs (texts down.held) keeps in
    let first = first_due sapi message (handed sapi outs ++ rest) outs down.held is in
    let carries : Carries f (first.0 ∷ first.1) 0 = subst (λ (ds : List Due). Carries f ds 0) first.2 down.carries in
    let zero : AllByRecursion (λ (d : Due). d.rank ≡ 0) (first.0 ∷ first.1) = subst (AllByRecursion (λ (d : Due). d.rank ≡ 0)) first.2 down.zero in
    let here : first.0.rank ≡ 0 = zero.0 in
    record {
      held = first.1;
      carries = subst (λ (x : List ℕ). Carries (passed_on x frame f) first.1 0) first.3 (carries_passed f first.0 first.1 0 0 frame carries (omega arith) (omega arith));
      zero = zero.1;
      are = first.4;
    }

pub down_rejected : (rest : Messages) (m : Message) (outs : List Message) (f : FlowState) →
    handed_by Three m ≡ [] →
    is_reject m ≡ true →
    DownIs Three rest (m ∷ outs) f →
    DownIs Three rest outs (rejected f)
down_rejected rest m outs f none rejecting down = record {
  held = [];
  carries = carries_rejected f down.held 0 down.carries down.zero;
  zero = tt;
  are = (let were = down.are in (rw (none, rejecting) at were)) ∙ empty (rejects outs);
}
  where
    empty : (b : Bool) → let none : Messages = [] in none ≡ (if b then none else none)
    empty true = refl
    empty false = refl

pub down_zero_rejected : (rest : Messages) (m : Message) (outs : List Message) (f : FlowState) →
    handed_by Zero m ≡ [] →
    DownIs Zero rest (m ∷ outs) f →
    DownIs Zero rest outs f
down_zero_rejected rest m outs f none down = record {
  held = down.held;
  carries = down.carries;
  zero = down.zero;
  are = (let were = down.are in rw none at were);
}
