-- SPDX-License-Identifier: MIT OR Apache-2.0
-- A connection without a fault, whatever arrives for it, also once it is over.
use Rattle.std.proofs.Common.{◌≡◌, ℕ, ◌+◌, ◌≤◌, Bool, true, false, not, List, [], ◌∷◌, ◌++◌, Option, Some, None, refl, sym, subst, ◌∙◌, arith, inl, inr, filter}
use Rattle.std.proofs.lemmas.Bool.{cases_Bool, cond-false, cond-true}
use Rattle.std.specs.List.{AllByRecursion}
use Rattle.std.specs.Prelude.{if◌then◌else◌}
use Rattle.conn_messages.specs.declared.channel.Change.{Change}
use Rattle.dtap_codec.specs.declared.sapi.Sapi.{Sapi}
use Rattle.dtap_codec.specs.declared.sapi.Sapi.TheVariants.{Zero, Three}
use Rattle.run_judge.specs.declared.connection.Awaited.{Awaited}
use Rattle.run_judge.specs.declared.connection.Reason.{Reason}
use Rattle.run_judge.specs.declared.connection.Reason.TheVariants as reasons
use Rattle.run_judge.specs.declared.connection.Tenure.{Tenure}
use Rattle.run_judge.specs.declared.connection.Unjudged.{Unjudged}
use Rattle.run_judge.specs.declared.flow.Due.{Due}
use Rattle.run_judge.specs.declared.said.StationChannel.{StationChannel}
use Rattle.run_judge.specs.Connection.{IsWithoutFault, brought, brought_in, cleared, commanded, completed, completed_by, confirmed, due_of, failed, failed_by, is_command, is_same, managed, moved, old_rank, rank_of, rejected_down, released, transferred, transferred_by, unjudged_from, while_judged, while_judged_of, with_flow}
use Rattle.run_judge.specs.ConnectionState.{ConnectionState}
use Rattle.run_judge.specs.Flow.{arrived, rejected}
use Rattle.run_judge.specs.FlowState.{FlowState}
use Rattle.run_judge.specs.Connection.{sent_down}
use Rattle.run_judge.specs.Reading.{is_dtap}
use Rattle.dtap_codec.specs.RrReading.{rr_reading}
use Rattle.judge_laws.proofs.Arrivals.{insert_last}
use Rattle.judge_laws.proofs.Changing.{all_push}
use Rattle.judge_laws.proofs.Flows.{carries_arrived, carries_rejected, no_fault}
use Rattle.judge_laws.specs.Agreeing.{Carries, IsFrom, flow_of}

pub record UpWell (ts : List Tenure) (f : FlowState) : Type 0 where
  pub held : List Due
  pub low : ℕ
  pub carries : Carries f held low
  pub from : AllByRecursion (IsFrom low) ts

pub record DownWell (f : FlowState) : Type 0 where
  pub held : List Due
  pub carries : Carries f held 0
  pub zero : AllByRecursion (λ (d : Due). d.rank ≡ 0) held

-- of this reference, in order so far, and what arrives next is in order too
pub record Well (reference : ℕ) (c : ConnectionState) : Type 0 where
  pub is : c.reference ≡ reference
  pub up : (sapi : Sapi) → UpWell (c.former ++ c.serving ∷ []) (flow_of sapi c.up)
  pub down : (sapi : Sapi) → DownWell (flow_of sapi c.down)

pub without_fault : (n : ℕ) (c : ConnectionState) → Well n c → IsWithoutFault c
without_fault n c well = record {
  up_zero = no_fault c.up.zero (well.up Zero).held (well.up Zero).low (well.up Zero).carries;
  up_three = no_fault c.up.three (well.up Three).held (well.up Three).low (well.up Three).carries;
  down_zero = no_fault c.down.zero (well.down Zero).held 0 (well.down Zero).carries;
  down_three = no_fault c.down.three (well.down Three).held 0 (well.down Three).carries;
}

-- ---- only where it is judged

pub well_judged : (n : ℕ) (change : ConnectionState → ConnectionState) (c : ConnectionState) →
    Well n c →
    (c.unjudged ≡ None → Well n (change c)) →
    Well n (while_judged change c)
well_judged n change c well then_well = by c.unjudged refl
  where
    by : (o : Option Unjudged) → c.unjudged ≡ o → Well n (while_judged_of o change c)
    by None is = then_well is
    by (Some unjudged) is = well

-- ---- channels

front_of : (P : Tenure → Type 0) (ts : List Tenure) (u : Tenure) → AllByRecursion P (ts ++ u ∷ []) → AllByRecursion P ts
front_of P [] u all = tt
front_of P (t ∷ ts) u all = (all.0, front_of P ts u all.1)

back_of : (P : Tenure → Type 0) (ts : List Tenure) (u : Tenure) → AllByRecursion P (ts ++ u ∷ []) → P u
back_of P [] u all = all.0
back_of P (t ∷ ts) u all = back_of P ts u all.1

pub well_moved : (n : ℕ) (at : StationChannel) (c : ConnectionState) → Well n c → Well n (moved at c)
well_moved n at c well = record {
  is = well.is;
  up = λ sapi.
      let up = well.up sapi in
      let least = back_of (IsFrom up.low) c.former c.serving up.from in
      record { held = up.held; low = up.low; carries = up.carries; from = all_push (IsFrom up.low) (c.former ++ c.serving ∷ []) (record { at = at; rank = c.serving.rank + 1 }) up.from (omega arith) };
  down = well.down;
}

well_awaiting : (n : ℕ) (o : Option Awaited) (c : ConnectionState) → Well n c → Well n (record c { awaited = o })
well_awaiting n o c well = record { is = well.is; up = well.up; down = well.down }

pub well_commanded : (n : ℕ) (at : StationChannel) (change : Change) (c : ConnectionState) → Well n c → Well n (commanded at change c)
well_commanded n at change c well = well_awaiting n (Some (record { at = at; change = change })) c well

either_well : (n : ℕ) (b : Bool) (x y : ConnectionState) → Well n x → Well n y → Well n (if b then x else y)
either_well n true x y one other = one
either_well n false x y one other = other

pub well_completed : (n : ℕ) (at : StationChannel) (change : Change) (c : ConnectionState) → Well n c → Well n (completed at change c)
well_completed n at change c well = by c.awaited
  where
    by : (o : Option Awaited) → Well n (completed_by o at change c)
    by None = well
    by (Some a) = either_well n _ (moved at c) c (well_moved n at c well) well

pub well_failed : (n : ℕ) (at : StationChannel) (change : Change) (c : ConnectionState) → Well n c → Well n (failed at change c)
well_failed n at change c well = by c.awaited
  where
    by : (o : Option Awaited) → Well n (failed_by o at change c)
    by None = well
    by (Some a) = either_well n _ (record c { awaited = None }) c (well_awaiting n None c well) well

all_filtered : (P : Tenure → Type 0) (test : Tenure → Bool) (ts : List Tenure) (u : Tenure) →
    AllByRecursion P (ts ++ u ∷ []) →
    AllByRecursion P (filter test ts ++ u ∷ [])
all_filtered P test [] u all = all
all_filtered P test (t ∷ ts) u all = by (test t) (all_filtered P test ts u all.1)
  where
    by : (b : Bool) →
        AllByRecursion P (filter test ts ++ u ∷ []) →
        AllByRecursion P ((if b then t ∷ filter test ts else filter test ts) ++ u ∷ [])
    by true rest = (all.0, rest)
    by false rest = rest

pub well_released : (n : ℕ) (at : StationChannel) (c : ConnectionState) → Well n c → Well n (released at c)
well_released n at c well = record {
  is = well.is;
  up = λ sapi. (let up = well.up sapi in record { held = up.held; low = up.low; carries = up.carries; from = all_filtered (IsFrom up.low) (λ t. not (is_same t.at at)) c.former c.serving up.from });
  down = well.down;
}

-- ---- messages that arrive

old_from : (at : StationChannel) (low rank : ℕ) (ts : List Tenure) →
    AllByRecursion (IsFrom low) ts →
    old_rank at ts ≡ Some rank →
    low ≤ rank
old_from at low rank [] all is = absurd cc
old_from at low rank (t ∷ ts) all is = elim (cases_Bool (is_same t.at at)) [
  | inl here ↦
      let same : Some t.rank ≡ Some rank = sym (cond-true _ _ _ here) ∙ is in
      let equal : t.rank ≡ rank = cc in
      let least = all.0 in
      omega arith
  | inr there ↦ old_from at low rank ts all.1 (sym (cond-false _ _ _ there) ∙ is)
]

rank_from : (at : StationChannel) (low rank : ℕ) (c : ConnectionState) →
    AllByRecursion (IsFrom low) (c.former ++ c.serving ∷ []) →
    rank_of at c ≡ Some rank →
    low ≤ rank
rank_from at low rank c all is = elim (cases_Bool (is_same c.serving.at at)) [
  | inl here ↦
      let same : Some c.serving.rank ≡ Some rank = sym (cond-true _ _ _ here) ∙ is in
      let equal : c.serving.rank ≡ rank = cc in
      let least = back_of (IsFrom low) c.former c.serving all in
      omega arith
  | inr there ↦ old_from at low rank c.former (front_of (IsFrom low) c.former c.serving all) (sym (cond-false _ _ _ there) ∙ is)
]

pub well_brought : (n : ℕ) (at : StationChannel) (of : Sapi) (message : List ℕ) (frame : ℕ) (c : ConnectionState) →
    Well n c →
    Well n (brought at of message frame c)
well_brought n at of message frame c well = by (rank_of at c) refl
  where
    came : (rank : ℕ) →
        rank_of at c ≡ Some rank →
        (sapi : Sapi) →
        UpWell (c.former ++ c.serving ∷ []) (arrived (due_of rank message frame) (flow_of sapi c.up))
    came rank is sapi =
        let up = well.up sapi in
        record { held = _; low = up.low; carries = carries_arrived (flow_of sapi c.up) up.held up.low (due_of rank message frame) up.carries refl (rank_from at up.low rank c up.from is); from = up.from }

    up : (of sapi : Sapi) (rank : ℕ) →
        rank_of at c ≡ Some rank →
        UpWell (c.former ++ c.serving ∷ []) (flow_of sapi (with_flow of (arrived (due_of rank message frame)) c.up))
    up Zero Zero rank is = came rank is Zero
    up Three Three rank is = came rank is Three
    up Zero Three rank is = well.up Three
    up Three Zero rank is = well.up Zero

    by : (o : Option ℕ) → rank_of at c ≡ o → Well n (brought_in o at of message frame c)
    by None is = record { is = well.is; up = well.up; down = well.down }
    by (Some rank) is = record { is = well.is; up = λ sapi. up of sapi rank is; down = well.down }

pub well_transferred : (n : ℕ) (of : Sapi) (message : List ℕ) (frame : ℕ) (c : ConnectionState) →
    Well n c →
    Well n (transferred of message frame c)
well_transferred n of message frame c well = by c.switch
  where
    came : (sapi : Sapi) → DownWell (arrived (due_of 0 message frame) (flow_of sapi c.down))
    came sapi =
        let down = well.down sapi in
        record {
          held = _;
          carries = carries_arrived (flow_of sapi c.down) down.held 0 (due_of 0 message frame) down.carries refl (omega arith);
          zero = (insert_last (due_of 0 message frame) down.held refl down.zero).1;
        }

    down : (of sapi : Sapi) → DownWell (flow_of sapi (with_flow of (arrived (due_of 0 message frame)) c.down))
    down Zero Zero = came Zero
    down Three Three = came Three
    down Zero Three = well.down Three
    down Three Zero = well.down Zero

    by : (o : Option ℕ) → Well n (transferred_by o of message frame c)
    by None = well
    by (Some source) = record { is = well.is; up = well.up; down = λ sapi. down of sapi }

pub well_unjudged : (n : ℕ) (reason : Reason) (frame : ℕ) (c : ConnectionState) → Well n c → Well n (unjudged_from reason frame c)
well_unjudged n reason frame c well = record { is = well.is; up = well.up; down = well.down }

pub well_confirmed : (n source : ℕ) (c : ConnectionState) → Well n c → Well n (confirmed source c)
well_confirmed n source c well = record { is = well.is; up = well.up; down = well.down }

pub well_sent_down : (n : ℕ) (of : Sapi) (message : List ℕ) (frame : ℕ) (c : ConnectionState) →
    Well n c →
    Well n (sent_down of message frame c)
well_sent_down n of message frame c well =
    either_well n (is_dtap message) (transferred of message frame c) (if is_command (rr_reading message) then unjudged_from reasons.CommandOfSwitch frame c else c) (well_transferred n of message frame c well)
    (either_well n (is_command (rr_reading message)) (unjudged_from reasons.CommandOfSwitch frame c) c (well_unjudged n reasons.CommandOfSwitch frame c well) well)

-- ---- once it is over: before CLEAR COMPLETE all but DTAP is right

pub well_managed : (n frame : ℕ) (c : ConnectionState) → c.is_cleared ≡ false → Well n c → Well n (managed frame c)
well_managed n frame c may well = subst (Well n) (sym (cond-false _ _ _ may)) well

pub well_cleared : (n frame : ℕ) (c : ConnectionState) → c.is_cleared ≡ false → Well n c → Well n (cleared frame c)
well_cleared n frame c may well = subst (Well n) (sym (cond-false _ _ _ may)) (record { is = well.is; up = well.up; down = well.down })

pub well_rejected : (n frame : ℕ) (c : ConnectionState) → c.is_cleared ≡ false → Well n c → Well n (rejected_down frame c)
well_rejected n frame c may well = subst (Well n) (sym (cond-false _ _ _ may)) (record { is = well.is; up = well.up; down = down })
  where
    down : (sapi : Sapi) → DownWell (flow_of sapi (with_flow Three rejected c.down))
    down Zero = well.down Zero
    down Three = (let three = well.down Three in record { held = []; carries = carries_rejected c.down.three three.held 0 three.carries three.zero; zero = tt })
