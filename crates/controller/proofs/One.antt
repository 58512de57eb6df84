-- SPDX-License-Identifier: MIT OR Apache-2.0
-- A planned step of the connection with its number.
use Rattle.controller.proofs.Prelude.{◌≡◌, ℕ, ◌<◌, List, [], ◌∷◌, ◌++◌, length, map, Option, Some, None, refl, sym, subst, ap, ◌∙◌, inl}
use Rattle.controller.proofs.Prelude.{inr, arith, AllByRecursion, Out, IsSound, outs_of, Input, Row, IsBelow, Controller, Entry, turn}
use Rattle.controller.proofs.Prelude.{has_number, entry_of, put_back, aged, by_fitting, concerning_too, entry_after, Parameters}
use Rattle.std.proofs.Common.{if◌then◌else◌, eqb-true}
use Rattle.std.proofs.lemmas.Bool.{cases_Bool}
use Rattle.conn_fsm.specs.Doing.{IsPlanned}
use Rattle.conn_fsm.specs.PlanState.{PlanState}
use Rattle.conn_fsm.proofs.Later.{outs_later}
use Rattle.conn_messages.specs.declared.message.Message.{Message}
use Rattle.conn_rules.specs.Table.{row_of}
use Rattle.connections.specs.Steps.{CommitsFor, DoesRow, all_after}
use Rattle.controller.specs.Doing.{Turns, following}
use Rattle.controller.specs.Many.{IsReadyFor, IsRow}
use Rattle.controller.proofs.Dues.{no_offer}
use Rattle.controller_model.specs.Controller.{remaining}
use Rattle.controller_model.proofs.Entries.{remaining_all}
use Rattle.controller_model.proofs.Others.{found_number}

-- ---- its frames are those of the row

abbrev Follows : ℕ → List Out → Controller → Controller → Type 0
Follows number made old new = (messages : List Message) → AllByRecursion IsSound messages → made ≡ outs_of number messages → new ≡ following number messages old

row_done : (number : ℕ) (c after : Controller) (made outs outs_after : List Out) (middle : List Entry) (e : Entry) (r : Option Row) → e.connection.number ≡ number → c.handovers < 256 → DoesRow c.settings e r c.entries middle [] made →
    Follows number made (record c { entries = middle }) after → outs_after ≡ outs ++ made → Turns (by_fitting (turn [] c) e r c) c after outs outs_after
row_done number c after made outs outs_after middle e None is small does follows put =
    let same : following number [] (record c { entries = middle }) ≡ c = ap (λ (h : ℕ). record c { entries = middle; handovers = h }) (omega arith) ∙ ap (λ (es : List Entry). record c { entries = es }) does.entries in
    (follows [] tt does.outputs ∙ same, put ∙ ap (λ (l : List Out). outs ++ l) does.outputs)
row_done number c after made outs outs_after middle e (Some r) is small does follows put = (
  follows r.outs does.sound (does.outputs ∙ ap (λ (n : ℕ). outs_of n r.outs) is)
      ∙ ap (λ (es : List Entry). following number r.outs (record c { entries = es })) does.entries
      ∙ ap (λ (n : ℕ). following n r.outs (record c { entries = put_back (entry_after c.settings e r) c.entries })) (sym is),
  put ∙ ap (λ (l : List Out). outs ++ l) does.outputs,
)

entry_done : (number : ℕ) (input : Input) (c after : Controller) (made outs outs_after : List Out) (middle : List Entry) (o : Option Entry) → entry_of c number ≡ o → IsPlanned input → c.handovers < 256 →
    CommitsFor c.settings o input c.entries middle made → Follows number made (record c { entries = middle }) after → outs_after ≡ outs ++ made → Turns (concerning_too input c o) c after outs outs_after
entry_done number input c after made outs outs_after middle None found planned small done follows put = absurd done
entry_done number input c after made outs outs_after middle (Some e) found planned small done follows put =
    subst (λ (r : Option Row). Turns (by_fitting (turn [] c) e r c) c after outs outs_after) (sym (no_offer c e.connection input planned))
    (row_done number c after made outs outs_after middle e (row_of e.connection input None) (found_number number c.entries e found) small done follows put)

pub step_done : (number : ℕ) (input : Input) (c after : Controller) (made outs outs_after : List Out) (middle : List Entry) → IsPlanned input → c.handovers < 256 →
    CommitsFor c.settings (entry_of c number) input c.entries middle made → Follows number made (record c { entries = middle }) after → outs_after ≡ outs ++ made →
    Turns (concerning_too input c (entry_of c number)) c after outs outs_after
step_done number input c after made outs outs_after middle planned small done follows put = entry_done number input c after made outs outs_after middle (entry_of c number) refl planned small done follows put

-- ---- they are those of the plan

made_at : (p : Parameters) (o : Option Entry) (plan : PlanState) (made : List Out) (old new : List Entry) →
    IsRow plan →
    IsReadyFor plan.was o →
    CommitsFor p o plan.input old new made →
    made ≡ plan.outs
made_at p None plan made old new row ready done = absurd done
made_at p (Some e) plan made old new row ready done = done.outputs ∙ outs_later plan.input plan.was e.connection row.input ready ∙ sym row.frames

pub room_for : (p : Parameters) (o : Option Entry) (plan : PlanState) (made : List Out) (old new : List Entry) →
    IsRow plan →
    IsReadyFor plan.was o →
    CommitsFor p o plan.input old new made →
    length made ≡ length plan.outs
room_for p o plan made old new row ready done = ap length (made_at p o plan made old new row ready done)

-- ---- the next number remains above all

-- an entry is put in the place of the one with its number
pub below_back : (next : ℕ) (e : Entry) (es : List Entry) → AllByRecursion (IsBelow next) es → AllByRecursion (IsBelow next) (put_back e es)
below_back next e [] all = tt
below_back next e (x ∷ xs) all =
    elim (cases_Bool (has_number e.connection.number x)) [
      | inl hit ↦
          subst (λ b. AllByRecursion (IsBelow next) (if b then remaining e.connection.state e ++ xs else x ∷ put_back e xs)) (sym hit)
          (remaining_all (IsBelow next) e.connection.state e xs (subst (λ (n : ℕ). n < next) (eqb-true x.connection.number e.connection.number hit) all.0) all.1)
      | inr miss ↦ subst (λ b. AllByRecursion (IsBelow next) (if b then remaining e.connection.state e ++ xs else x ∷ put_back e xs)) (sym miss) (all.0, below_back next e xs all.1)
    ]

pub below_after : (next : ℕ) (p : Parameters) (e : Entry) (r : Option Row) (es : List Entry) →
    AllByRecursion (IsBelow next) es →
    AllByRecursion (IsBelow next) (all_after p es e r)
below_after next p e None es all = all
below_after next p e (Some r) es all = below_back next (entry_after p e r) es all

pub below_commits : (next : ℕ) (p : Parameters) (o : Option Entry) (input : Input) (old new : List Entry) (made : List Out) →
    CommitsFor p o input old new made →
    AllByRecursion (IsBelow next) old →
    AllByRecursion (IsBelow next) new
below_commits next p None input old new made done all = absurd done
below_commits next p (Some e) input old new made done all = subst (AllByRecursion (IsBelow next)) (sym done.entries) (below_after next p e (row_of e.connection input None) old all)

pub below_aged : (next ms : ℕ) (es : List Entry) → AllByRecursion (IsBelow next) es → AllByRecursion (IsBelow next) (map (aged ms) es)
below_aged next ms [] all = tt
below_aged next ms (e ∷ es) all = (all.0, below_aged next ms es all.1)
