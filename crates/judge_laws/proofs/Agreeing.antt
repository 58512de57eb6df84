-- SPDX-License-Identifier: MIT OR Apache-2.0
-- An open connection of the controller and the judge's state of it agree row by row.
use Rattle.std.proofs.Common.{◌≡◌, ℕ, ◌+◌, ◌<◌, ◌⊎◌, false, List, [], ◌∷◌, ◌++◌, Option, Some, None, refl, sym, subst, ap, ◌∙◌, arith, inl, inr, filter}
use Rattle.std.specs.List.{AllByRecursion}
use Rattle.std.specs.Prelude.{if◌then◌else◌, map}
use Rattle.conn_messages.specs.declared.channel.Channel.{Channel}
use Rattle.conn_messages.specs.declared.message.Message.{Message}
use Rattle.conn_rules.specs.Connection.{Connection}
use Rattle.conn_rules.specs.declared.input.Input.{Input}
use Rattle.conn_rules.specs.declared.state.Stage.TheVariants.{Changing}
use Rattle.conn_rules.specs.declared.state.State.{State}
use Rattle.conn_rules.specs.declared.state.State.TheVariants.{Live}
use Rattle.conn_rules.specs.declared.state.Target.{Target}
use Rattle.conn_rules.specs.Roles.{ChangesRoles, ChangesRolesBy, MayBegin, RemainsOpen, Roles, RoleStep, TargetRole, after_step, roles_of, step_by, target_role, with_target}
use Rattle.conn_rules.specs.Roles.ChangesRoles.{carries_on, ends, had_ended}
use Rattle.conn_rules.specs.Roles.RoleStep.{unchanged}
use Rattle.conn_rules.specs.Steps.{Row}
use Rattle.conn_rules.specs.Streams.{Ends, IsChanging, IsSilent, KeepsDownlink, KeepsUplink, OfRow, from_input, handed, is_dtap, received_by, relayed, still_to_relay, undone, without_rejected}
use Rattle.conn_rules.proofs.Downlink.{IsSilent-row, KeepsDownlink-row}
use Rattle.conn_rules.proofs.RolesTable.{changes_roles_row}
use Rattle.conn_rules.proofs.UplinkTable.{row_keeps}
use Rattle.dtap_codec.specs.declared.sapi.Sapi.{Sapi}
use Rattle.dtap_codec.specs.declared.sapi.Sapi.TheVariants.{Zero, Three}
use Rattle.hold_queue.specs.HoldState.{messages}
use Rattle.run_judge.specs.declared.connection.Awaited.{Awaited}
use Rattle.run_judge.specs.declared.connection.Tenure.{Tenure}
use Rattle.run_judge.specs.ConnectionState.{ConnectionState}
use Rattle.run_judge.specs.FlowState.{FlowState}
use Rattle.run_judge.specs.Judging.{Numbered}
use Rattle.judge_laws.proofs.Changing.{all_push, up_is, up_left, up_same}
use Rattle.judge_laws.proofs.Told.{IsTold, Telling, tell_all}
use Rattle.judge_laws.specs.Agreeing.{Agrees, DownAgrees, DownIs, Future, IsOpenRow, IsRising, Messages, Prepared, Remains, UpAgrees, awaited_in, flow_of, lines_by, lines_of, tells, texts}
use Rattle.judge_laws.specs.Places.{at_of}
use Rattle.judge_laws.specs.Saying.{said_of}

-- ---- what is kept of the channels

-- the same, by roles
abbrev pub awaited_by : Option TargetRole → Option Awaited
awaited_by None = None
awaited_by (Some t) = if t.is_commanded then Some (record { at = at_of t.target.channel; change = t.target.change }) else None

pub awaited_role : (state : State) → awaited_by (target_role state) ≡ awaited_in state
awaited_role (Live reference (Changing target)) = refl
awaited_role _ = refl

-- ---- what is held of the switch's messages is due

-- ---- they agree

-- what an input brings has arrived: the connection is as it was but for it
pub record Arrived (s : Connection) (input : Input) (c : ConnectionState) : Type 0 where
  pub at : c.serving.at ≡ at_of s.serving
  pub old : map (λ (t : Tenure). t.at) c.former ≡ map at_of (undone s.draining)
  pub awaited : c.awaited ≡ awaited_in s.state
  pub rising : IsRising (c.former ++ c.serving ∷ [])
  pub up : (sapi : Sapi) →
      UpAgrees (λ future. still_to_relay sapi (from_input sapi input future) s) (lines_of c) c.serving.rank (flow_of sapi c.up)
  pub down : (sapi : Sapi) → DownAgrees (filter is_dtap (messages s.down sapi ++ received_by sapi input)) (flow_of sapi c.down)
  pub is_open : c.is_cleared ≡ false

-- ---- the lines

all_last : (P : Tenure → Type 0) (ts : List Tenure) (u : Tenure) → AllByRecursion P (ts ++ u ∷ []) → P u
all_last P [] u all = all.0
all_last P (t ∷ ts) u all = all_last P ts u all.1

pub rising_push : (ts : List Tenure) (s u : Tenure) → IsRising (ts ++ s ∷ []) → s.rank < u.rank → IsRising ((ts ++ s ∷ []) ++ u ∷ [])
rising_push [] s u rising less = ((less, tt), (tt, tt))
rising_push (t ∷ ts) s u rising less =
    let before : t.rank < s.rank = all_last (λ (x : Tenure). t.rank < x.rank) ts s rising.0 in
    (all_push (λ (x : Tenure). t.rank < x.rank) (ts ++ s ∷ []) u rising.0 (omega arith), rising_push ts s u rising.1 less)

pub rising_lines : (old : List Tenure) (serving : Tenure) (o : Option Awaited) →
    IsRising (old ++ serving ∷ []) →
    IsRising (lines_by old serving o)
rising_lines old serving None rising = rising
rising_lines old serving (Some a) rising = rising_push old serving (record { at = a.at; rank = serving.rank + 1 }) rising (omega arith)

-- they begin with one
pub record HasFirst (ts : List Tenure) : Type 0 where
  pub first : Tenure
  pub others : List Tenure
  pub are : ts ≡ first ∷ others

has_first : (ts : List Tenure) (u : Tenure) → HasFirst (ts ++ u ∷ [])
has_first [] u = record { first = u; others = []; are = refl }
has_first (t ∷ ts) u = record { first = t; others = ts ++ u ∷ []; are = refl }

first_line : (old : List Tenure) (serving : Tenure) (o : Option Awaited) → HasFirst (lines_by old serving o)
first_line old serving None = has_first old serving
first_line old serving (Some a) = has_first (old ++ serving ∷ []) (record { at = a.at; rank = serving.rank + 1 })

-- ---- the row's messages are applied

-- where the mobile is commanded to another channel, nothing is handed
hushed : (state : State) (outs : List Message) →
    (IsChanging state → (handed Zero outs ≡ []) × (handed Three outs ≡ [])) →
    (awaited_in state ≡ None) ⊎ ((sapi : Sapi) → handed sapi outs ≡ [])
hushed (Live reference (Changing target)) outs silent = inr by
  where
    by : (sapi : Sapi) → handed sapi outs ≡ []
    by Zero = (silent tt).0
    by Three = (silent tt).1
hushed _ outs silent = inl refl

pub prepared_tells : (m number : ℕ) (ns : List Numbered) (r : Row) (c : ConnectionState) →
    map (λ (n : Numbered). n.said) ns ≡ map (said_of number) r.outs →
    AllByRecursion (IsTold r.next.serving) r.outs →
    IsSilent r →
    Prepared r c →
    Agrees r.next (tells m ns c) × Remains c (tells m ns c)
prepared_tells m number ns r c said told silent p =
    let rest : Sapi → Future → Messages = λ sapi future. still_to_relay sapi future r.next in
    let holds : Sapi → Messages = λ sapi. filter is_dtap (messages r.next.down sapi) in
    let front = first_line c.former c.serving c.awaited in
    let rising : IsRising (front.first ∷ front.others) = subst IsRising front.are (rising_lines c.former c.serving c.awaited p.rising) in
    let before : Telling rest holds front.first front.others c.serving.rank r.next.serving r.outs c = record {
      up = λ sapi. up_is sapi (λ future. relayed sapi r.outs ++ rest sapi future) (rest sapi) front.first front.others c.serving.rank r.outs (flow_of sapi c.up) (λ future. refl)
          (subst (λ (ts : List Tenure). UpAgrees (λ future. relayed sapi r.outs ++ rest sapi future) ts c.serving.rank (flow_of sapi c.up)) front.are (p.up sapi));
      down = p.down;
      at = p.at;
      hush = subst (λ (o : Option Awaited). (o ≡ None) ⊎ ((sapi : Sapi) → handed sapi r.outs ≡ [])) (sym p.awaited) (hushed r.next.state r.outs silent);
      is_open = p.is_open;
    } in
    let all = tell_all m number rest holds front.first front.others c.serving.rank r.next.serving ns r.outs c said told before in
    let after : ConnectionState = tells m ns c in
    let same : lines_of after ≡ front.first ∷ front.others = rw (all.1.old, all.1.serving, all.1.awaited) front.are in (
      record {
        at = all.0.at;
        old = ap (map (λ (t : Tenure). t.at)) all.1.old ∙ p.old;
        awaited = all.1.awaited ∙ p.awaited;
        rising = subst (λ (t : Tenure). IsRising (after.former ++ t ∷ [])) (sym all.1.serving) (subst (λ (ts : List Tenure). IsRising (ts ++ c.serving ∷ [])) (sym all.1.old) p.rising);
        up = λ sapi. subst (λ (t : Tenure). UpAgrees (rest sapi) (lines_of after) t.rank (flow_of sapi after.up)) (sym all.1.serving)
            (subst (λ (ts : List Tenure). UpAgrees (rest sapi) ts c.serving.rank (flow_of sapi after.up)) (sym same) (up_left sapi (rest sapi) front.first front.others c.serving.rank (flow_of sapi after.up) rising (all.0.up sapi)));
        down = λ sapi. left sapi (all.0.down sapi);
        is_open = all.0.is_open;
      },
      all.1,
    )
  where
    none_rejected : (sapi : Sapi) (xs : Messages) → without_rejected sapi [] xs ≡ xs
    none_rejected Zero xs = refl
    none_rejected Three xs = refl

    left : {holds : Messages} {f : FlowState} (sapi : Sapi) → DownIs sapi holds [] f → DownAgrees holds f
    left sapi down = record { held = down.held; carries = down.carries; zero = down.zero; are = down.are ∙ none_rejected sapi (texts down.held) }

-- ---- a row that remains open

pub uplink : (s : Connection) (input : Input) (offer : Option Channel) (r : Row) →
    IsOpenRow s input offer r →
    (sapi : Sapi) (future : Future) →
    Ends future s.state input →
    relayed sapi r.outs ++ still_to_relay sapi future r.next ≡ still_to_relay sapi (from_input sapi input future) s
uplink s input offer r row sapi future none = (subst (OfRow (KeepsUplink sapi future s input)) row.fits (row_keeps s input offer sapi future row.valid row.apart none)) row.is_open

pub downlink : (s : Connection) (input : Input) (offer : Option Channel) (r : Row) →
    IsOpenRow s input offer r →
    (sapi : Sapi) →
    handed sapi r.outs ++ filter is_dtap (messages r.next.down sapi) ≡ without_rejected sapi r.outs (filter is_dtap (messages s.down sapi ++ received_by sapi input))
downlink s input offer r row sapi = (subst (OfRow (KeepsDownlink sapi s input)) row.fits (KeepsDownlink-row sapi s input offer row.valid)).stream row.is_open

pub silent : (s : Connection) (input : Input) (offer : Option Channel) (r : Row) → IsOpenRow s input offer r → IsSilent r
silent s input offer r row = subst (OfRow IsSilent) row.fits (IsSilent-row s input offer)

pub carried_on : (s : Connection) (input : Input) (offer : Option Channel) (r : Row) →
    IsOpenRow s input offer r →
    RemainsOpen (step_by input (roles_of s)) (roles_of s) s.down input offer r
carried_on s input offer r row = by (subst (ChangesRolesBy s input offer) row.fits (changes_roles_row s input offer row.valid))
  where
    by : ChangesRoles s input offer r → RemainsOpen (step_by input (roles_of s)) (roles_of s) s.down input offer r
    by (carries_on was_open is_open on) = on
    by (ends was_open shut over) = absurd (shut row.is_open)
    by (had_ended was_shut shut nothing) = absurd (shut row.is_open)

-- a change that begins leaves what serves and what drains
begins-serving : (begun : Option Target) (roles : Roles) → (with_target begun roles).serving ≡ roles.serving
begins-serving None roles = refl
begins-serving (Some target) roles = refl

begins-draining : (begun : Option Target) (roles : Roles) → (with_target begun roles).draining ≡ roles.draining
begins-draining None roles = refl
begins-draining (Some target) roles = refl

-- nobody is commanded by it
begins-awaited : (begun : Option Target) (input : Input) (offer : Option Channel) (roles : Roles) →
    MayBegin begun input offer roles →
    awaited_by (with_target begun roles).target ≡ awaited_by roles.target
begins-awaited None input offer roles may = refl
begins-awaited (Some target) input offer roles may = ap awaited_by (sym may.2)

-- the channels behind a row
pub record After (step : RoleStep) (s : Connection) (r : Row) : Type 0 where
  pub serving : r.next.serving ≡ (after_step step (roles_of s)).serving
  pub draining : r.next.draining ≡ (after_step step (roles_of s)).draining
  pub awaited : awaited_in r.next.state ≡ awaited_by (after_step step (roles_of s)).target

pub after_row : (step : RoleStep) (s : Connection) (input : Input) (offer : Option Channel) (r : Row) →
    RemainsOpen step (roles_of s) s.down input offer r →
    After step s r
after_row step s input offer r on =
    let roles : Roles = after_step step (roles_of s) in
    record {
      serving = ap (λ (x : Roles). x.serving) on.roles ∙ begins-serving on.begun roles;
      draining = ap (λ (x : Roles). x.draining) on.roles ∙ begins-draining on.begun roles;
      awaited = sym (awaited_role r.next.state) ∙ ap (λ (x : Roles). awaited_by x.target) on.roles ∙ begins-awaited on.begun input offer roles on.may;
    }

-- ---- what an input brings

pub down_is : (sapi : Sapi) (holds rest : Messages) (outs : List Message) (f : FlowState) →
    handed sapi outs ++ rest ≡ without_rejected sapi outs holds →
    DownAgrees holds f →
    DownIs sapi rest outs f
down_is sapi holds rest outs f law down = record {
  held = down.held;
  carries = down.carries;
  zero = down.zero;
  are = law ∙ ap (without_rejected sapi outs) down.are;
}

-- the channels are as they were
pub prepared_unchanged : (s : Connection) (input : Input) (offer : Option Channel) (r : Row) (c : ConnectionState) →
    IsOpenRow s input offer r →
    step_by input (roles_of s) ≡ unchanged →
    ((future : Future) → Ends future s.state input) →
    Arrived s input c →
    Prepared r c
prepared_unchanged s input offer r c row still none arrived =
    let on : RemainsOpen unchanged (roles_of s) s.down input offer r = subst (λ (step : RoleStep). RemainsOpen step (roles_of s) s.down input offer r) still (carried_on s input offer r row) in
    let after = after_row unchanged s input offer r on in
    record {
      at = arrived.at ∙ ap at_of (sym after.serving);
      old = arrived.old ∙ ap (λ ds. map at_of (undone ds)) (sym after.draining);
      awaited = arrived.awaited ∙ sym (awaited_role s.state) ∙ sym after.awaited;
      rising = arrived.rising;
      up = λ sapi. up_same (λ future. still_to_relay sapi (from_input sapi input future) s) (λ future. relayed sapi r.outs ++ still_to_relay sapi future r.next) (lines_of c) c.serving.rank (flow_of sapi c.up) (λ future. uplink s input offer r row sapi future (none future)) (arrived.up sapi);
      down = λ sapi. down_is sapi (filter is_dtap (messages s.down sapi ++ received_by sapi input)) (filter is_dtap (messages r.next.down sapi)) r.outs (flow_of sapi c.down) (downlink s input offer r row sapi) (arrived.down sapi);
      is_open = arrived.is_open;
    }
