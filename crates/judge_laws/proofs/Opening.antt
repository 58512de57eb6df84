-- SPDX-License-Identifier: MIT OR Apache-2.0
-- A connection for which the switch is asked: the judge's new connection agrees with it.
use Rattle.std.proofs.Common.{◌≡◌, ℕ, ◌+◌, true, List, [], ◌∷◌, ◌++◌, Option, Some, None, refl, sym, subst, ap, ◌∙◌, arith, filter, length}
use Rattle.std.specs.List.{AllByRecursion}
use Rattle.std.specs.Prelude.{fold, map}
use Rattle.conn_rules.specs.Connection.{Connection, enter}
use Rattle.conn_rules.specs.declared.state.State.{State}
use Rattle.conn_rules.specs.declared.state.State.TheVariants.{WaitConfirm, WaitEstablish}
use Rattle.conn_rules.specs.Streams.{is_dtap, still_to_relay, undone}
use Rattle.conn_rules.specs.Validity.{IsBare, IsValid, IsValidState}
use Rattle.dtap_codec.specs.declared.sapi.Sapi.{Sapi}
use Rattle.dtap_codec.specs.declared.sapi.Sapi.TheVariants.{Zero, Three}
use Rattle.dtap_codec.specs.Number.{number_in}
use Rattle.hold_queue.specs.HoldState.{messages}
use Rattle.std.proofs.lemmas.Bool.{cond-false}
use Rattle.run_judge.specs.declared.channels.Early.{Early}
use Rattle.run_judge.specs.declared.connection.Flows.{Flows}
use Rattle.run_judge.specs.declared.flow.Due.{Due}
use Rattle.run_judge.specs.Connection.{begun, early_due, is_misnumbered, new_connection, numbered, numbered_by, opened_connection, with_early, with_flow}
use Rattle.run_judge.specs.ConnectionState.{ConnectionState}
use Rattle.run_judge.specs.Flow.{arrived, begun_flow, insert_due, new_flow, order_arrived}
use Rattle.run_judge.specs.FlowState.{FlowState}
use Rattle.run_judge.specs.OpeningState.{OpeningState}
use Rattle.judge_laws.proofs.Flows.{not_below}
use Rattle.judge_laws.proofs.Told.{blamed_keeps}
use Rattle.judge_laws.specs.Agreeing.{Agrees, Carries, DownAgrees, Future, IsOptional, Messages, UpAgrees, flow_of}
use Rattle.judge_laws.specs.Places.{at_of, spot}

new_carries : (low : ℕ) → Carries new_flow [] low
new_carries low = record { stream = record { due = []; passed = []; reached = 0 }; is = refl; optional = []; due = refl; may = tt; must = tt; reached = omega arith }

begun_carries : (message : List ℕ) (frame low : ℕ) → Carries (begun_flow message frame) [] low
begun_carries message frame low = record { stream = record { due = []; passed = record { rank = 0; message = message; frame = frame } ∷ []; reached = 0 }; is = refl; optional = []; due = refl; may = tt; must = tt; reached = omega arith }

numbered_agrees : (s : Connection) (m : ℕ) (message : List ℕ) (c : ConnectionState) → Agrees s c → Agrees s (numbered m message c)
numbered_agrees s m message c agrees = by (number_in m message)
  where
    by : (o : Option ℕ) → Agrees s (numbered_by m o c)
    by None = agrees
    by (Some number) = record { at = agrees.at; old = agrees.old; awaited = agrees.awaited; rising = agrees.rising; up = agrees.up; down = agrees.down; is_open = agrees.is_open }

none_held : (xs ys : Messages) → length xs + length ys ≡ 0 → (xs ≡ []) × (ys ≡ [])
none_held [] [] none = (refl, refl)
none_held (x ∷ xs) ys none = absurd (omega arith)
none_held [] (y ∷ ys) none = absurd (omega arith)

-- what came before the initial message came again may be passed on, or not
abbrev pub MayBeIgnored : Early → Type 0
MayBeIgnored e = e.is_optional ≡ true

insert_optional : (d : Due) (ds : List Due) → d.rank ≡ 0 → AllByRecursion IsOptional ds → insert_due d ds ≡ ds ++ d ∷ []
insert_optional d [] zero all = refl
insert_optional d (x ∷ xs) zero all =
    let here : x.rank ≡ 0 = all.0.1 in
    cond-false _ _ _ (not_below d.rank x.rank (omega arith)) ∙ ap (λ (ys : List Due). x ∷ ys) (insert_optional d xs zero all.1)

push_optional : (d : Due) (ds : List Due) → IsOptional d → AllByRecursion IsOptional ds → AllByRecursion IsOptional (ds ++ d ∷ [])
push_optional d [] one all = (one, tt)
push_optional d (x ∷ xs) one all = (all.0, push_optional d xs one all.1)

none_behind : (ds : List Due) → ds ++ [] ≡ ds
none_behind [] = refl
none_behind (d ∷ ds) = ap (λ (xs : List Due). d ∷ xs) (none_behind ds)

early_carries : (f : FlowState) (d : Due) → IsOptional d → Carries f [] 0 → Carries (arrived d f) [] 0
early_carries f d one c = record {
  stream = record c.stream { due = insert_due d c.stream.due };
  is = ap (order_arrived d) c.is ∙ cond-false _ _ _ (not_below d.rank c.stream.reached (let far = c.reached in omega arith));
  optional = c.optional ++ d ∷ [];
  due = ap (insert_due d) (c.due ∙ none_behind c.optional) ∙ insert_optional d c.optional one.1 c.may ∙ sym (none_behind (c.optional ++ d ∷ []));
  may = push_optional d c.optional one c.may;
  must = tt;
  reached = c.reached;
}

-- nothing is held of these flows
abbrev AreBegun : Flows → Type 0
AreBegun flows = Carries flows.zero [] 0 × Carries flows.three [] 0

one_early : (flows : Flows) (e : Early) → MayBeIgnored e → AreBegun flows → AreBegun (with_early flows e)
one_early flows e may begun = by e.sapi
  where
    by : (sapi : Sapi) → AreBegun (with_flow sapi (arrived (early_due e)) flows)
    by Zero = (early_carries flows.zero (early_due e) (may, refl) begun.0, begun.1)
    by Three = (begun.0, early_carries flows.three (early_due e) (may, refl) begun.1)

all_early : (flows : Flows) (es : List Early) → AllByRecursion MayBeIgnored es → AreBegun flows → AreBegun (fold with_early flows es)
all_early flows [] may begun = begun
all_early flows (e ∷ es) may begun = all_early (with_early flows e) es may.1 (one_early flows e may.0 begun)

pub agrees_opening : (s : Connection) (m number reference : ℕ) (opening : OpeningState) →
    s.state ≡ WaitEstablish →
    IsValid s →
    AllByRecursion MayBeIgnored opening.early →
    Agrees (enter WaitConfirm s) (new_connection m number reference (at_of s.serving) opening)
agrees_opening s m number reference opening is valid may =
    let bare : IsBare s.draining s.down s.up.tenures s.waits = (subst (λ (state : State). IsValidState state s.draining s.down s.up.tenures s.link s.waits) is valid.state).0 in
    let none = none_held s.down.zero s.down.three bare.none_handed in
    let flows : Flows = fold with_early (record { zero = begun_flow opening.message opening.frame; three = new_flow }) opening.early in
    let begins : AreBegun flows = all_early (record { zero = begun_flow opening.message opening.frame; three = new_flow }) opening.early may (begun_carries opening.message opening.frame 0, new_carries 0) in
    numbered_agrees (enter WaitConfirm s) m opening.message (begun number reference (at_of s.serving) opening) (record {
      at = refl;
      old = sym (ap (λ ds. map at_of (undone ds)) bare.none_drains);
      awaited = refl;
      rising = (tt, tt);
      up = λ sapi. up sapi flows begins bare;
      down = λ sapi. down sapi none;
      is_open = refl;
    })
  where
    still : (sapi : Sapi) (future : Future) →
        IsBare s.draining s.down s.up.tenures s.waits →
        still_to_relay sapi future (enter WaitConfirm s) ≡ future (spot (at_of s.serving)) ++ []
    still Zero future bare = rw (bare.none_drains, bare.one_tenure) refl
    still Three future bare = rw (bare.none_drains, bare.one_tenure) refl

    up : (sapi : Sapi) (flows : Flows) →
        AreBegun flows →
        IsBare s.draining s.down s.up.tenures s.waits →
        UpAgrees (λ future. still_to_relay sapi future (enter WaitConfirm s)) (record { at = at_of s.serving; rank = 0 } ∷ []) 0 (flow_of sapi flows)
    up Zero flows begins bare = record { held = []; low = 0; carries = begins.0; from = ((omega arith), tt); within = tt; are = λ future. still Zero future bare }
    up Three flows begins bare = record { held = []; low = 0; carries = begins.1; from = ((omega arith), tt); within = tt; are = λ future. still Three future bare }

    down : (sapi : Sapi) →
        (s.down.zero ≡ []) × (s.down.three ≡ []) →
        DownAgrees (filter is_dtap (messages s.down sapi)) (flow_of sapi (record { zero = new_flow; three = new_flow }))
    down Zero none = record { held = []; carries = new_carries 0; zero = tt; are = ap (filter is_dtap) none.0 }
    down Three none = record { held = []; carries = new_carries 0; zero = tt; are = ap (filter is_dtap) none.1 }

-- nor does it matter whether the mobile is blamed for the number of its initial message
pub agrees_opened : (s : Connection) (m number reference : ℕ) (opening : OpeningState) →
    s.state ≡ WaitEstablish →
    IsValid s →
    AllByRecursion MayBeIgnored opening.early →
    Agrees (enter WaitConfirm s) (opened_connection m number reference (at_of s.serving) opening)
agrees_opened s m number reference opening is valid may =
    let agrees = agrees_opening s m number reference opening is valid may in
    blamed_keeps (Agrees (enter WaitConfirm s)) (is_misnumbered m (Some 0) opening.message new_flow) Zero opening.frame (new_connection m number reference (at_of s.serving) opening) agrees
    (λ o. record { at = agrees.at; old = agrees.old; awaited = agrees.awaited; rising = agrees.rising; up = agrees.up; down = agrees.down; is_open = agrees.is_open })
