-- SPDX-License-Identifier: MIT OR Apache-2.0
-- Lemmas: an open, judged connection whose mobile is commanded to a target, comes back from it, or
-- whose former channel leaves.
use Rattle.std.proofs.Common.{◌≡◌, ℕ, ◌+◌, ◌==◌, ◌&&◌, Bool, true, false, List, [], ◌∷◌, ◌++◌, Option, Some, None, refl, sym, subst, ap, ◌∙◌, arith, inl, inr, append_assoc, append-nil}
use Rattle.std.proofs.lemmas.Bool.{and_parts, cases_Bool, cond-false, cond-true, eq-eqb}
use Rattle.std.specs.List.{AllByRecursion}
use Rattle.std.specs.Prelude.{if◌then◌else◌, map}
use Rattle.conn_messages.specs.declared.channel.Change.{Change}
use Rattle.conn_messages.specs.declared.channel.Channel.{Channel}
use Rattle.conn_messages.specs.declared.channel.Place.{Place}
use Rattle.conn_rules.specs.Connection.{Connection, is_at}
use Rattle.conn_rules.specs.declared.input.Input.{Input}
use Rattle.conn_rules.specs.declared.input.Input.TheVariants as inputs
use Rattle.conn_rules.specs.declared.state.Drain.{Drain}
use Rattle.conn_rules.specs.declared.state.Stage.TheVariants.{Changing, Preparing}
use Rattle.conn_rules.specs.declared.state.State.{State}
use Rattle.conn_rules.specs.declared.state.State.TheVariants.{Live}
use Rattle.conn_rules.specs.declared.state.Target.{Target}
use Rattle.conn_rules.specs.Roles.{RemainsOpen, RoleStep, changes_by, roles_of, step_by, target_role}
use Rattle.conn_rules.specs.Roles.RoleStep.{reverts, unchanged}
use Rattle.conn_rules.specs.Steps.{Row}
use Rattle.conn_rules.specs.Streams.{AreApart, IsApart, of_target, on_channel, relayed, still_of, still_to_relay, target_in, undone}
use Rattle.conn_rules.specs.Table.{command_to, same_change}
use Rattle.dtap_codec.specs.declared.rr.RrCause.{RrCause}
use Rattle.dtap_codec.specs.declared.sapi.Sapi.{Sapi}
use Rattle.hold_queue.specs.ChainState.{TenureHold, tenure_messages}
use Rattle.run_judge.specs.declared.connection.Awaited.{Awaited}
use Rattle.run_judge.specs.declared.connection.Tenure.{Tenure}
use Rattle.run_judge.specs.declared.flow.Due.{Due}
use Rattle.run_judge.specs.declared.said.StationChannel.{StationChannel}
use Rattle.run_judge.specs.Connection.{commanded, failed, failed_by, is_alike, is_same}
use Rattle.run_judge.specs.ConnectionState.{ConnectionState}
use Rattle.judge_laws.proofs.Agreeing.{After, after_row, carried_on, uplink}
use Rattle.judge_laws.proofs.Arrivals.{append_map, plain_future}
use Rattle.judge_laws.proofs.Changing.{all_less, cleared_at, line_appended, up_appended, up_same}
use Rattle.judge_laws.proofs.Lines.{line_same}
use Rattle.judge_laws.proofs.Moves.{alike, prepared_down, same_at}
use Rattle.judge_laws.specs.Agreeing.{Agrees, Future, IsFrom, IsOpenRow, Messages, Prepared, UpAgrees, awaited_in, flow_of, line, lines_by, lines_of}
use Rattle.judge_laws.specs.Places.{at_of, spot}

-- ---- what may arrive on channels that aren't used doesn't count

abbrev pub target_by : Future → Option Awaited → Messages
target_by future None = []
target_by future (Some a) = future (spot a.at)

pub of_target_by : (future : Future) (state : State) → of_target future state ≡ target_by future (awaited_in state)
of_target_by future (Live reference (Changing target)) = refl
of_target_by future _ = refl

abbrev pub SameOn : Future → Future → Channel → Type 0
SameOn f g c = on_channel f c ≡ on_channel g c

pub still_same : (sapi : Sapi) (f g : Future) (serving : Channel) (ds : List Drain) (ts : List TenureHold) →
    AllByRecursion (SameOn f g) (undone ds) →
    SameOn f g serving →
    still_of sapi f serving ds ts ≡ still_of sapi g serving ds ts
still_same sapi f g serving [] [] all one = refl
still_same sapi f g serving (d ∷ ds) [] all one = refl
still_same sapi f g serving [] (t ∷ ts) all one = ap (λ (ms : Messages). tenure_messages t sapi ++ ms) one
still_same sapi f g serving (d ∷ ds) (t ∷ ts) all one = elim (cases_Bool d.is_done) [
  | inl done ↦
      let others : AllByRecursion (SameOn f g) (undone ds) = subst (AllByRecursion (SameOn f g)) (cond-true _ _ _ done) all in
      rw (done, still_same sapi f g serving ds ts others one) refl
  | inr drains ↦
      let these : AllByRecursion (SameOn f g) (d.channel ∷ undone ds) = subst (AllByRecursion (SameOn f g)) (cond-false _ _ _ drains) all in
      rw (drains, these.0, still_same sapi f g serving ds ts these.1 one) refl
]

pub relay_same : (sapi : Sapi) (f g : Future) (s : Connection) →
    AllByRecursion (SameOn f g) (undone s.draining) →
    SameOn f g s.serving →
    target_by f (awaited_in s.state) ≡ target_by g (awaited_in s.state) →
    still_to_relay sapi f s ≡ still_to_relay sapi g s
relay_same sapi f g s all one target =
    ap (λ (ms : Messages). ms ++ of_target f s.state) (still_same sapi f g s.serving s.draining s.up.tenures all one)
    ∙ ap (λ (ms : Messages). still_of sapi g s.serving s.draining s.up.tenures ++ ms) (of_target_by f s.state ∙ target ∙ sym (of_target_by g s.state))

abbrev pub place_of : Channel → Place
place_of c = record { station = c.station; number = c.number }

pub cleared_here : (at : Place) (future : Future) → cleared_at at future at ≡ []
cleared_here at future = cond-true ((at.station == at.station) && (at.number == at.number)) [] (future at) (rw (eq-eqb at.station at.station refl, eq-eqb at.number at.number refl) refl)

pub cleared_else : (u : Channel) (future : Future) (c : Channel) → IsApart c u → SameOn future (cleared_at (place_of u) future) c
cleared_else u future c apart = sym (cond-false _ _ _ apart)

pub all_cleared : (u : Channel) (future : Future) (cs : List Channel) →
    AllByRecursion (λ (c : Channel). IsApart c u) cs →
    AllByRecursion (SameOn future (cleared_at (place_of u) future)) cs
all_cleared u future [] all = tt
all_cleared u future (c ∷ cs) all = (cleared_else u future c all.0, all_cleared u future cs all.1)

-- all are apart from the last
pub last_of : (P : Channel → Type 0) (cs : List Channel) (u : Channel) → AllByRecursion P (cs ++ u ∷ []) → P u
last_of P [] u all = all.0
last_of P (c ∷ cs) u all = last_of P cs u all.1

pub from_last : (cs : List Channel) (u : Channel) → AreApart (cs ++ u ∷ []) → AllByRecursion (λ (c : Channel). IsApart c u) cs
from_last [] u apart = tt
from_last (c ∷ cs) u apart = (last_of (IsApart c) cs u apart.0, from_last cs u apart.1)

pub all_front : (P : Channel → Type 0) (cs ds : List Channel) → AllByRecursion P (cs ++ ds) → AllByRecursion P cs
all_front P [] ds all = tt
all_front P (c ∷ cs) ds all = (all.0, all_front P cs ds all.1)

pub all_back : (P : Channel → Type 0) (cs ds : List Channel) → AllByRecursion P (cs ++ ds) → AllByRecursion P ds
all_back P [] ds all = all
all_back P (c ∷ cs) ds all = all_back P cs ds all.1

-- the same of tenures on these channels
pub all_places : (P : Place → Type 0) (ts : List Tenure) (cs : List Channel) →
    map (λ (t : Tenure). t.at) ts ≡ map at_of cs →
    AllByRecursion (λ (c : Channel). P (place_of c)) cs →
    AllByRecursion (λ (t : Tenure). P (spot t.at)) ts
all_places P [] cs are all = tt
all_places P (t ∷ ts) [] are all = absurd cc
all_places P (t ∷ ts) (c ∷ cs) are all =
    let one : t.at ≡ at_of c = cc in
    let others : map (λ (x : Tenure). x.at) ts ≡ map at_of cs = cc in
    (subst (λ (at : StationChannel). P (spot at)) (sym one) all.0, all_places P ts cs others all.1)

pub all_flipped : (u : Channel) (future : Future) (cs : List Channel) →
    AllByRecursion (λ (c : Channel). IsApart c u) cs →
    AllByRecursion (λ (c : Channel). cleared_at (place_of u) future (place_of c) ≡ future (place_of c)) cs
all_flipped u future [] all = tt
all_flipped u future (c ∷ cs) all = (cond-false _ _ _ all.0, all_flipped u future cs all.1)

pub front_all : (P : Tenure → Type 0) (ts : List Tenure) (u : Tenure) → AllByRecursion P (ts ++ u ∷ []) → AllByRecursion P ts
front_all P [] u all = tt
front_all P (t ∷ ts) u all = (all.0, front_all P ts u all.1)

-- ---- the mobile is back

pub record IsFailed (s : Connection) (c : ConnectionState) (at : StationChannel) (change : Change) : Type 0 where
  pub target : Target
  pub reference : ℕ
  pub state : s.state ≡ Live reference (Changing target)
  pub awaits : c.awaited ≡ Some (record { at = at_of target.channel; change = target.change })
  pub reverts : failed at change c ≡ record c { awaited = None }

reverting : (b : Bool) → (let step : RoleStep = if b then reverts else unchanged in step) ≡ reverts → b ≡ true
reverting true is = refl
reverting false is = absurd (let differ : unchanged ≡ reverts = is in cc)

not_reverting : (b : Bool) → (let step : RoleStep = if b then reverts else unchanged in step) ≡ unchanged → b ≡ false
not_reverting false is = refl
not_reverting true is = absurd (let differ : reverts ≡ unchanged = is in cc)

none_reverts : (b : Bool) → (let step : RoleStep = if (b && false) then reverts else unchanged in step) ≡ reverts → ⊥
none_reverts true is = (let differ : unchanged ≡ reverts = is in cc)
none_reverts false is = (let differ : unchanged ≡ reverts = is in cc)

pub is_failed : (s : Connection) (c : ConnectionState) (at : StationChannel) (change : Change) (cause : RrCause) →
    Agrees s c →
    step_by (inputs.Failure (spot at) change cause) (roles_of s) ≡ reverts →
    IsFailed s c at change
is_failed s c at change cause agrees is = by s.state refl is
  where
    by : (state : State) →
        s.state ≡ state →
        (let step : RoleStep = if (is_at (spot at) s.serving && changes_by change (target_role state)) then reverts else unchanged in step) ≡ reverts →
        IsFailed s c at change
    by (Live reference (Changing target)) is_in is =
        let parts = and_parts (is_at (spot at) s.serving) (same_change change target.change) (reverting (is_at (spot at) s.serving && same_change change target.change) is) in
        let here : is_same c.serving.at at ≡ true = ap (λ (x : StationChannel). is_same x at) agrees.at ∙ same_at at s.serving ∙ parts.0 in
        let kind : is_alike target.change change ≡ true = alike target.change change ∙ parts.1 in
        let awaits : c.awaited ≡ Some (record { at = at_of target.channel; change = target.change }) = agrees.awaited ∙ ap awaited_in is_in in
        record {
          target = target;
          reference = reference;
          state = is_in;
          awaits = awaits;
          reverts = ap (λ (o : Option Awaited). failed_by o at change c) awaits ∙ (rw (here, kind) refl);
        }
    by _ is_in is = absurd (none_reverts (is_at (spot at) s.serving) is)

pub not_failed : (s : Connection) (c : ConnectionState) (at : StationChannel) (change : Change) (cause : RrCause) →
    Agrees s c →
    step_by (inputs.Failure (spot at) change cause) (roles_of s) ≡ unchanged →
    failed at change c ≡ c
not_failed s c at change cause agrees is = ap (λ (o : Option Awaited). failed_by o at change c) agrees.awaited ∙ by s.state is
  where
    by : (state : State) →
        (let step : RoleStep = if (is_at (spot at) s.serving && changes_by change (target_role state)) then reverts else unchanged in step) ≡ unchanged →
        failed_by (awaited_in state) at change c ≡ c
    by (Live reference (Changing target)) is =
        let none : (is_at (spot at) s.serving && same_change change target.change) ≡ false = not_reverting (is_at (spot at) s.serving && same_change change target.change) is in
        rw (agrees.at, same_at at s.serving, alike target.change change) (cond-false _ _ _ none)
    by _ is = refl

pub prepared_reverts : (s : Connection) (offer : Option Channel) (r : Row) (c : ConnectionState) (at : StationChannel) (change : Change) (cause : RrCause) →
    IsOpenRow s (inputs.Failure (spot at) change cause) offer r →
    step_by (inputs.Failure (spot at) change cause) (roles_of s) ≡ reverts →
    Agrees s c →
    Prepared r (failed at change c)
prepared_reverts s offer r c at change cause row is agrees =
    let input : Input = inputs.Failure (spot at) change cause in
    let back : IsFailed s c at change = is_failed s c at change cause agrees is in
    let on : RemainsOpen reverts (roles_of s) s.down input offer r = subst (λ (step : RoleStep). RemainsOpen step (roles_of s) s.down input offer r) is (carried_on s input offer r row) in
    let after : After reverts s r = after_row reverts s input offer r on in
    let u : Channel = back.target.channel in
    let last : Tenure = record { at = at_of u; rank = c.serving.rank + 1 } in
    let lines : lines_of c ≡ (c.former ++ c.serving ∷ []) ++ last ∷ [] = ap (lines_by c.former c.serving) back.awaits in
    let used : AreApart ((undone s.draining ++ s.serving ∷ []) ++ u ∷ []) = subst AreApart (sym (append_assoc (undone s.draining) (s.serving ∷ []) (u ∷ []))) (subst (λ (state : State). AreApart (undone s.draining ++ s.serving ∷ target_in state)) back.state row.apart) in
    let others : AllByRecursion (λ (d : Channel). IsApart d u) (undone s.draining ++ s.serving ∷ []) = from_last (undone s.draining ++ s.serving ∷ []) u used in
    subst (Prepared r) (sym back.reverts) (record {
      at = agrees.at ∙ ap at_of (sym after.serving);
      old = agrees.old ∙ ap (λ (ds : List Drain). map at_of (undone ds)) (sym after.draining);
      awaited = sym after.awaited;
      rising = agrees.rising;
      up = λ sapi. up sapi back after others (subst (λ (ts : List Tenure). UpAgrees (λ future. still_to_relay sapi future s) ts c.serving.rank (flow_of sapi c.up)) lines (agrees.up sapi));
      down = prepared_down s input offer r c row tt agrees;
      is_open = agrees.is_open;
    })
  where
    same_lines : (u : Channel) (future : Future) (ds : List Due) →
        AllByRecursion (λ (d : Channel). IsApart d u) (undone s.draining ++ s.serving ∷ []) →
        line (cleared_at (place_of u) future) (c.former ++ c.serving ∷ []) ds ≡ line future (c.former ++ c.serving ∷ []) ds
    same_lines u future ds others =
        line_same (cleared_at (place_of u) future) future (c.former ++ c.serving ∷ []) ds
        (all_places (λ (at : Place). cleared_at (place_of u) future at ≡ future at) (c.former ++ c.serving ∷ []) (undone s.draining ++ s.serving ∷ [])
        (append_map c.former (c.serving ∷ []) (undone s.draining) (s.serving ∷ []) agrees.old (let at = agrees.at in cc))
        (all_flipped u future (undone s.draining ++ s.serving ∷ []) others))

    up : (sapi : Sapi) (back : IsFailed s c at change) →
        After reverts s r →
        AllByRecursion (λ (d : Channel). IsApart d back.target.channel) (undone s.draining ++ s.serving ∷ []) →
        UpAgrees (λ future. still_to_relay sapi future s) ((c.former ++ c.serving ∷ []) ++ record { at = at_of back.target.channel; rank = c.serving.rank + 1 } ∷ []) c.serving.rank (flow_of sapi c.up) →
        UpAgrees (λ future. relayed sapi r.outs ++ still_to_relay sapi future r.next) (c.former ++ c.serving ∷ []) c.serving.rank (flow_of sapi c.up)
    up sapi back after others before =
        let input : Input = inputs.Failure (spot at) change cause in
        let u : Channel = back.target.channel in
        let last : Tenure = record { at = at_of u; rank = c.serving.rank + 1 } in
        record {
          held = before.held;
          low = before.low;
          carries = before.carries;
          from = front_all (IsFrom before.low) (c.former ++ c.serving ∷ []) last before.from;
          within = before.within;
          are = λ future.
              let g : Future = cleared_at (place_of u) future in
              let none : of_target g s.state ≡ [] = ap (of_target g) back.state ∙ cleared_here (place_of u) future in
              let idle : awaited_in r.next.state ≡ None = after.awaited in
              let same : still_to_relay sapi future r.next ≡ still_to_relay sapi g r.next =
              relay_same sapi future g r.next
              (subst (λ (ds : List Drain). AllByRecursion (SameOn future g) (undone ds)) (sym after.draining) (all_cleared u future (undone s.draining) (all_front (λ (d : Channel). IsApart d u) (undone s.draining) (s.serving ∷ []) others)))
              (subst (SameOn future g) (sym after.serving) (cleared_else u future s.serving (all_back (λ (d : Channel). IsApart d u) (undone s.draining) (s.serving ∷ []) others).0))
              (ap (target_by future) idle ∙ sym (ap (target_by g) idle)) in
              ap (λ (ms : Messages). relayed sapi r.outs ++ ms) same
              ∙ uplink s input offer r row sapi g none
              ∙ ap (λ (f : Future). still_to_relay sapi f s) (plain_future sapi input g tt)
              ∙ before.are g
              ∙ line_appended g (c.former ++ c.serving ∷ []) last before.held (all_less c.serving.rank (c.serving.rank + 1) before.held (omega arith) before.within)
              ∙ ap (λ (ms : Messages). line g (c.former ++ c.serving ∷ []) before.held ++ ms) (cleared_here (place_of u) future)
              ∙ append-nil (line g (c.former ++ c.serving ∷ []) before.held)
              ∙ same_lines u future before.held others;
        }

-- ---- the mobile is commanded to the target

pub agrees_commands : (reference : ℕ) (target : Target) (s : Connection) (c : ConnectionState) →
    s.state ≡ Live reference (Preparing target) →
    Agrees s c →
    Agrees (command_to reference target s).next (commanded (at_of target.channel) target.change c)
agrees_commands reference target s c is agrees =
    let idle : c.awaited ≡ None = agrees.awaited ∙ ap awaited_in is in
    let lines : lines_of c ≡ c.former ++ c.serving ∷ [] = ap (lines_by c.former c.serving) idle in
    let u : Tenure = record { at = at_of target.channel; rank = c.serving.rank + 1 } in
    record {
      at = agrees.at;
      old = agrees.old;
      awaited = refl;
      rising = agrees.rising;
      up = λ sapi.
          let before : UpAgrees (λ future. still_of sapi future s.serving s.draining s.up.tenures) (c.former ++ c.serving ∷ []) c.serving.rank (flow_of sapi c.up) =
          up_same (λ future. still_to_relay sapi future s) (λ future. still_of sapi future s.serving s.draining s.up.tenures) (c.former ++ c.serving ∷ []) c.serving.rank (flow_of sapi c.up)
          (λ future. sym (ap (λ (ms : Messages). still_of sapi future s.serving s.draining s.up.tenures ++ ms) (ap (of_target future) is) ∙ append-nil (still_of sapi future s.serving s.draining s.up.tenures)))
          (subst (λ (ts : List Tenure). UpAgrees (λ future. still_to_relay sapi future s) ts c.serving.rank (flow_of sapi c.up)) lines (agrees.up sapi)) in
          up_appended (λ future. still_of sapi future s.serving s.draining s.up.tenures) (c.former ++ c.serving ∷ []) c.serving.rank (flow_of sapi c.up) u (omega arith)
          (λ low from. (let least = last_tenure (IsFrom low) c.former c.serving from in omega arith)) before;
      down = agrees.down;
      is_open = agrees.is_open;
    }
  where
    last_tenure : (P : Tenure → Type 0) (ts : List Tenure) (u : Tenure) → AllByRecursion P (ts ++ u ∷ []) → P u
    last_tenure P [] u all = all.0
    last_tenure P (t ∷ ts) u all = last_tenure P ts u all.1
