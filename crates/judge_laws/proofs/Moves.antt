-- SPDX-License-Identifier: MIT OR Apache-2.0
-- Lemmas: an open, judged connection changes its channels.
use Rattle.std.proofs.Common.{◌≡◌, ℕ, ◌+◌, ◌≤◌, ◌==◌, ◌&&◌, Bool, true, false, List, [], ◌∷◌, ◌++◌, Option, Some, None, refl, sym, subst, ap, ◌∙◌, arith, inl, inr, filter}
use Rattle.std.proofs.lemmas.Bool.{and_parts, cases_Bool, cond-false, eq-eqb, eqb-true, true≢false}
use Rattle.std.specs.Prelude.{if◌then◌else◌, map}
use Rattle.conn_messages.specs.declared.channel.Change.{Change}
use Rattle.conn_messages.specs.declared.channel.Change.TheVariants.{Assignment, Handover}
use Rattle.conn_messages.specs.declared.channel.Channel.{Channel}
use Rattle.conn_rules.specs.Connection.{Connection, is_at}
use Rattle.conn_rules.specs.declared.input.Input.{Input}
use Rattle.conn_rules.specs.declared.input.Input.TheVariants as inputs
use Rattle.conn_rules.specs.declared.state.Drain.{Drain}
use Rattle.conn_rules.specs.declared.state.Stage.TheVariants.{Changing, Preparing}
use Rattle.conn_rules.specs.declared.state.State.{State}
use Rattle.conn_rules.specs.declared.state.State.TheVariants.{Live}
use Rattle.conn_rules.specs.declared.state.Target.{Target}
use Rattle.conn_rules.specs.Roles.{completed as roles_completed, RemainsOpen, Roles, RoleStep, TargetRole, changes_by, is_target_at, roles_of, step_by, target_role}
use Rattle.conn_rules.specs.Roles.RoleStep.{completes, unchanged}
use Rattle.conn_rules.specs.Steps.{Row}
use Rattle.conn_rules.specs.Streams.{is_dtap, received_by, relayed, still_to_relay, undone}
use Rattle.conn_rules.specs.Table.{same_change}
use Rattle.conn_rules.proofs.RolesApart.{undone-begins}
use Rattle.dtap_codec.specs.declared.rr.RrCause.{RrCause}
use Rattle.dtap_codec.specs.declared.sapi.Sapi.{Sapi}
use Rattle.hold_queue.specs.HoldState.{messages}
use Rattle.run_judge.specs.declared.connection.Awaited.{Awaited}
use Rattle.run_judge.specs.declared.connection.Tenure.{Tenure}
use Rattle.run_judge.specs.declared.said.StationChannel.{StationChannel}
use Rattle.run_judge.specs.Connection.{completed, completed_by, is_alike, is_same, moved}
use Rattle.run_judge.specs.ConnectionState.{ConnectionState}
use Rattle.run_judge.specs.FlowState.{FlowState}
use Rattle.judge_laws.proofs.Agreeing.{After, after_row, awaited_by, carried_on, down_is, downlink, rising_push, uplink}
use Rattle.judge_laws.proofs.Arrivals.{IsPlainInput, append_map, nothing_received, plain_future, plain_received}
use Rattle.judge_laws.proofs.Changing.{all_less, up_same}
use Rattle.judge_laws.proofs.Ranks.{same_is}
use Rattle.judge_laws.specs.Agreeing.{Agrees, DownIs, Future, IsOpenRow, Messages, Prepared, UpAgrees, awaited_in, flow_of, lines_by, lines_of}
use Rattle.judge_laws.specs.Places.{at_of, spot}

up_far : (rest : Future → Messages) (lines : List Tenure) (far more : ℕ) (f : FlowState) →
    far ≤ more →
    UpAgrees rest lines far f →
    UpAgrees rest lines more f
up_far rest lines far more f less up = record {
  held = up.held;
  low = up.low;
  carries = up.carries;
  from = up.from;
  within = all_less far more up.held less up.within;
  are = up.are;
}

-- what is held of the switch's messages, where the input brings none
pub prepared_down : (s : Connection) (input : Input) (offer : Option Channel) (r : Row) (c : ConnectionState) →
    IsOpenRow s input offer r →
    IsPlainInput input →
    Agrees s c →
    (sapi : Sapi) →
    DownIs sapi (filter is_dtap (messages r.next.down sapi)) r.outs (flow_of sapi c.down)
prepared_down s input offer r c row plain agrees sapi =
    down_is sapi (filter is_dtap (messages s.down sapi ++ received_by sapi input)) (filter is_dtap (messages r.next.down sapi)) r.outs (flow_of sapi c.down) (downlink s input offer r row sapi)
    (nothing_received sapi s input (flow_of sapi c.down) (plain_received sapi input plain) (agrees.down sapi))

-- ---- the tests of both are the same

pub eqb_flip : (a b : ℕ) → (a == b) ≡ (b == a)
eqb_flip a b = elim (cases_Bool (a == b)) [
  | inl hit ↦ hit ∙ sym (eq-eqb b a (sym (eqb-true a b hit)))
  | inr miss ↦ elim (cases_Bool (b == a)) [
    | inl hit ↦ absurd (true≢false (sym (eq-eqb a b (sym (eqb-true b a hit))) ∙ miss))
    | inr none ↦ miss ∙ sym none
  ]
]

pub same_at : (at : StationChannel) (channel : Channel) → is_same (at_of channel) at ≡ is_at (spot at) channel
same_at at channel = rw (eqb_flip channel.station at.station, eqb_flip channel.number at.number) refl

pub alike : (one other : Change) → is_alike one other ≡ same_change other one
alike Assignment Assignment = refl
alike Handover Handover = refl
alike Assignment Handover = refl
alike Handover Assignment = refl

-- ---- the target serves

-- of a COMPLETE that counts
pub record IsCompleted (s : Connection) (c : ConnectionState) (at : StationChannel) (change : Change) : Type 0 where
  pub target : Target
  pub role : target_role s.state ≡ Some (record { target = target; is_commanded = true })
  pub awaits : c.awaited ≡ Some (record { at = at_of target.channel; change = target.change })
  pub there : at_of target.channel ≡ at
  pub moves : completed at change c ≡ moved at c

never : (b : Bool) → (let step : RoleStep = if b then completes else unchanged in step) ≡ completes → b ≡ true
never true is = refl
never false is = absurd (let differ : unchanged ≡ completes = is in cc)

never_not : (b : Bool) → (let step : RoleStep = if b then completes else unchanged in step) ≡ unchanged → b ≡ false
never_not false is = refl
never_not true is = absurd (let differ : completes ≡ unchanged = is in cc)

pub is_completed : (s : Connection) (c : ConnectionState) (at : StationChannel) (change : Change) (cause : RrCause) →
    Agrees s c →
    step_by (inputs.Complete (spot at) change cause) (roles_of s) ≡ completes →
    IsCompleted s c at change
is_completed s c at change cause agrees is = by s.state refl is
  where
    by : (state : State) →
        s.state ≡ state →
        (let step : RoleStep = if (is_target_at (spot at) (target_role state) && changes_by change (target_role state)) then completes else unchanged in step) ≡ completes →
        IsCompleted s c at change
    by (Live reference (Changing target)) is_in is =
        let parts = and_parts (is_at (spot at) target.channel) (same_change change target.change) (never (is_at (spot at) target.channel && same_change change target.change) is) in
        let here : is_same (at_of target.channel) at ≡ true = same_at at target.channel ∙ parts.0 in
        let kind : is_alike target.change change ≡ true = alike target.change change ∙ parts.1 in
        let awaits : c.awaited ≡ Some (record { at = at_of target.channel; change = target.change }) = agrees.awaited ∙ ap awaited_in is_in in
        record {
          target = target;
          role = ap target_role is_in;
          awaits = awaits;
          there = same_is (at_of target.channel) at here;
          moves = ap (λ (o : Option Awaited). completed_by o at change c) awaits ∙ (rw (here, kind) refl);
        }
    by (Live reference (Preparing target)) is_in is = absurd (and_never (is_at (spot at) target.channel) is)
      where
        and_never : (b : Bool) → (let step : RoleStep = if (b && false) then completes else unchanged in step) ≡ completes → ⊥
        and_never true is = (let differ : unchanged ≡ completes = is in cc)
        and_never false is = (let differ : unchanged ≡ completes = is in cc)
    by _ is_in is = absurd (let differ : unchanged ≡ completes = is in cc)

-- one that doesn't count
pub not_completed : (s : Connection) (c : ConnectionState) (at : StationChannel) (change : Change) (cause : RrCause) →
    Agrees s c →
    step_by (inputs.Complete (spot at) change cause) (roles_of s) ≡ unchanged →
    completed at change c ≡ c
not_completed s c at change cause agrees is = ap (λ (o : Option Awaited). completed_by o at change c) agrees.awaited ∙ by s.state is
  where
    by : (state : State) →
        (let step : RoleStep = if (is_target_at (spot at) (target_role state) && changes_by change (target_role state)) then completes else unchanged in step) ≡ unchanged →
        completed_by (awaited_in state) at change c ≡ c
    by (Live reference (Changing target)) is =
        let none : (is_at (spot at) target.channel && same_change change target.change) ≡ false = never_not (is_at (spot at) target.channel && same_change change target.change) is in
        rw (same_at at target.channel, alike target.change change) (cond-false _ _ _ none)
    by _ is = refl

pub prepared_completes : (s : Connection) (offer : Option Channel) (r : Row) (c : ConnectionState) (at : StationChannel) (change : Change) (cause : RrCause) →
    IsOpenRow s (inputs.Complete (spot at) change cause) offer r →
    step_by (inputs.Complete (spot at) change cause) (roles_of s) ≡ completes →
    Agrees s c →
    Prepared r (completed at change c)
prepared_completes s offer r c at change cause row is agrees =
    let input : Input = inputs.Complete (spot at) change cause in
    let done : IsCompleted s c at change = is_completed s c at change cause agrees is in
    let on : RemainsOpen completes (roles_of s) s.down input offer r = subst (λ (step : RoleStep). RemainsOpen step (roles_of s) s.down input offer r) is (carried_on s input offer r row) in
    let after : After completes s r = after_row completes s input offer r on in
    let next : Tenure = record { at = at; rank = c.serving.rank + 1 } in
    let serves : r.next.serving ≡ done.target.channel = after.serving ∙ ap (λ (o : Option TargetRole). (let roles : Roles = after_of o in roles).serving) done.role in
    let drains : r.next.draining ≡ s.draining ++ record { channel = s.serving; is_done = false } ∷ [] = after.draining ∙ ap (λ (o : Option TargetRole). (let roles : Roles = after_of o in roles).draining) done.role in
    let idle : awaited_in r.next.state ≡ None = after.awaited ∙ ap (λ (o : Option TargetRole). awaited_by (let roles : Roles = after_of o in roles).target) done.role in
    let lines : lines_of c ≡ (c.former ++ c.serving ∷ []) ++ next ∷ [] =
    ap (lines_by c.former c.serving) done.awaits
    ∙ ap (λ (x : StationChannel). (c.former ++ c.serving ∷ []) ++ tenure_at x (c.serving.rank + 1) ∷ []) done.there in
    subst (Prepared r) (sym done.moves) (record {
      at = sym done.there ∙ ap at_of (sym serves);
      old = append_map c.former (c.serving ∷ []) (undone s.draining) (s.serving ∷ []) agrees.old (let at = agrees.at in cc)
          ∙ ap (map at_of) (sym (undone-begins s.draining s.serving))
          ∙ ap (λ (ds : List Drain). map at_of (undone ds)) (sym drains);
      awaited = sym idle;
      rising = rising_push c.former c.serving next agrees.rising (omega arith);
      up = λ sapi. up_far (λ future. relayed sapi r.outs ++ still_to_relay sapi future r.next) ((c.former ++ c.serving ∷ []) ++ next ∷ []) c.serving.rank (c.serving.rank + 1) (flow_of sapi c.up) (omega arith)
          (subst (λ (ts : List Tenure). UpAgrees (λ future. relayed sapi r.outs ++ still_to_relay sapi future r.next) ts c.serving.rank (flow_of sapi c.up)) lines
          (up_same (λ future. still_to_relay sapi future s) (λ future. relayed sapi r.outs ++ still_to_relay sapi future r.next) (lines_of c) c.serving.rank (flow_of sapi c.up)
          (λ future. uplink s input offer r row sapi future tt ∙ ap (λ (f : Future). still_to_relay sapi f s) (plain_future sapi input future tt)) (agrees.up sapi)));
      down = prepared_down s input offer r c row tt agrees;
      is_open = agrees.is_open;
    })
  where
    tenure_at : StationChannel → ℕ → Tenure
    tenure_at at rank = record { at = at; rank = rank }

    after_of : Option TargetRole → Roles
    after_of o = roles_completed o (roles_of s)
