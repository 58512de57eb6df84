-- SPDX-License-Identifier: MIT OR Apache-2.0
-- Lemmas: what an input brings to an open, judged connection.
use Rattle.std.proofs.Common.{◌≡◌, ℕ, ◌+◌, ◌≤◌, ◌<◌, true, false, List, [], ◌∷◌, ◌++◌, Option, Some, None, refl, sym, subst, ap, ◌∙◌, arith, nat_lt, inl, inr, filter, append_assoc}
use Rattle.std.proofs.lemmas.Bool.{cases_Bool, cond-false, cond-true}
use Rattle.std.proofs.lemmas.List.Elements.{filter-append}
use Rattle.std.specs.List.{AllByRecursion}
use Rattle.std.specs.Prelude.{map}
use Rattle.conn_messages.specs.declared.channel.Channel.{Channel}
use Rattle.conn_rules.specs.Connection.{Connection}
use Rattle.conn_rules.specs.declared.input.Input.{Input}
use Rattle.conn_rules.specs.declared.input.Input.TheVariants as inputs
use Rattle.conn_rules.specs.declared.state.Stage.TheVariants.{Changing, Preparing}
use Rattle.conn_rules.specs.declared.state.State.{State}
use Rattle.conn_rules.specs.declared.state.State.TheVariants.{Live}
use Rattle.conn_rules.specs.Streams.{AreApart, from_input, is_dtap, received_by, still_to_relay, target_in, undone, used_channels}
use Rattle.conn_rules.proofs.RolesApart.{are_apart_front}
use Rattle.dtap_codec.specs.declared.sapi.Sapi.{Sapi}
use Rattle.dtap_codec.specs.declared.sapi.Sapi.TheVariants.{Zero, Three}
use Rattle.hold_queue.specs.HoldState.{messages}
use Rattle.run_judge.specs.declared.connection.Awaited.{Awaited}
use Rattle.run_judge.specs.declared.connection.Tenure.{Tenure}
use Rattle.run_judge.specs.declared.flow.Due.{Due}
use Rattle.run_judge.specs.declared.said.StationChannel.{StationChannel}
use Rattle.run_judge.specs.Connection.{brought, due_of, is_same, old_rank, rank_of, transferred, with_flow}
use Rattle.run_judge.specs.ConnectionState.{ConnectionState}
use Rattle.run_judge.specs.Flow.{arrived, insert_due}
use Rattle.run_judge.specs.FlowState.{FlowState}
use Rattle.judge_laws.proofs.Agreeing.{Arrived, rising_lines}
use Rattle.judge_laws.proofs.Changing.{up_arrived, up_same}
use Rattle.judge_laws.proofs.Flows.{carries_arrived, not_below}
use Rattle.judge_laws.proofs.Lines.{IsOn}
use Rattle.judge_laws.proofs.Ranks.{AreDistinct, distinct_by, on_old, on_serving}
use Rattle.judge_laws.specs.Agreeing.{Agrees, DownAgrees, Future, IsRising, Messages, UpAgrees, awaited_in, flow_of, lines_by, lines_of, texts}
use Rattle.judge_laws.specs.Places.{at_of, spot}

-- ---- inputs that bring no message

abbrev pub IsPlainInput : Input → Type 0
IsPlainInput (inputs.Dtap at sapi message) = ⊥
IsPlainInput (inputs.EstablishIndication at sapi message) = ⊥
IsPlainInput (inputs.Downlink sapi message) = ⊥
IsPlainInput _ = Unit {0}

pub plain_future : (sapi : Sapi) (input : Input) (future : Future) → IsPlainInput input → from_input sapi input future ≡ future
plain_future Zero (inputs.Dtap at of message) future plain = absurd plain
plain_future Three (inputs.Dtap at of message) future plain = absurd plain
plain_future Zero (inputs.EstablishIndication at of message) future plain = absurd plain
plain_future Three (inputs.EstablishIndication at of message) future plain = absurd plain
plain_future _ _ future plain = refl

pub plain_received : (sapi : Sapi) (input : Input) → IsPlainInput input → received_by sapi input ≡ []
plain_received Zero (inputs.Downlink of message) plain = absurd plain
plain_received Three (inputs.Downlink of message) plain = absurd plain
plain_received _ _ plain = refl

append-none : (xs : Messages) → xs ++ [] ≡ xs
append-none [] = refl
append-none (x ∷ xs) = ap (λ (ys : Messages). x ∷ ys) (append-none xs)

pub nothing_received : (sapi : Sapi) (s : Connection) (input : Input) (f : FlowState) →
    received_by sapi input ≡ [] →
    DownAgrees (filter is_dtap (messages s.down sapi)) f →
    DownAgrees (filter is_dtap (messages s.down sapi ++ received_by sapi input)) f
nothing_received sapi s input f none down = subst (λ (ms : Messages). DownAgrees (filter is_dtap ms) f) (sym (ap (λ (ms : Messages). messages s.down sapi ++ ms) none ∙ append-none (messages s.down sapi))) down

pub arrived_plain : (s : Connection) (input : Input) (c : ConnectionState) → IsPlainInput input → Agrees s c → Arrived s input c
arrived_plain s input c plain agrees = record {
  at = agrees.at;
  old = agrees.old;
  awaited = agrees.awaited;
  rising = agrees.rising;
  up = λ sapi. up_same (λ future. still_to_relay sapi future s) (λ future. still_to_relay sapi (from_input sapi input future) s) (lines_of c) c.serving.rank (flow_of sapi c.up) (λ future. ap (λ (f : Future). still_to_relay sapi f s) (plain_future sapi input future plain)) (agrees.up sapi);
  down = λ sapi. nothing_received sapi s input (flow_of sapi c.down) (plain_received sapi input plain) (agrees.down sapi);
  is_open = agrees.is_open;
}

-- ---- DTAP up

abbrev pub more_by : Tenure → Option Awaited → List Tenure
more_by serving None = []
more_by serving (Some a) = record { at = a.at; rank = serving.rank + 1 } ∷ []

pub lines_are : (old : List Tenure) (serving : Tenure) (o : Option Awaited) → lines_by old serving o ≡ old ++ serving ∷ more_by serving o
lines_are old serving None = refl
lines_are old serving (Some a) = append_assoc old (serving ∷ []) (record { at = a.at; rank = serving.rank + 1 } ∷ [])

-- the channels of these tenures
abbrev pub known_in : State → List Channel
known_in (Live reference (Changing target)) = target.channel ∷ []
known_in _ = []

pub append_map : (ts us : List Tenure) (cs ds : List Channel) →
    map (λ (t : Tenure). t.at) ts ≡ map at_of cs →
    map (λ (t : Tenure). t.at) us ≡ map at_of ds →
    map (λ (t : Tenure). t.at) (ts ++ us) ≡ map at_of (cs ++ ds)
append_map [] us [] ds first second = second
append_map [] us (c ∷ cs) ds first second = absurd cc
append_map (t ∷ ts) us [] ds first second = absurd cc
append_map (t ∷ ts) us (c ∷ cs) ds first second =
    let one : t.at ≡ at_of c = cc in
    let others : map (λ (x : Tenure). x.at) ts ≡ map at_of cs = cc in
    let rest = append_map ts us cs ds others second in
    cc

pub more_places : (serving : Tenure) (state : State) (o : Option Awaited) →
    o ≡ awaited_in state →
    map (λ (t : Tenure). t.at) (more_by serving o) ≡ map at_of (known_in state)
more_places serving state o is = ap (λ (x : Option Awaited). map (λ (t : Tenure). t.at) (more_by serving x)) is ∙ by state
  where
    by : (state : State) → map (λ (t : Tenure). t.at) (more_by serving (awaited_in state)) ≡ map at_of (known_in state)
    by (Live reference (Changing target)) = refl
    by _ = refl

pub apart_known : (s : Connection) (state : State) →
    s.state ≡ state →
    AreApart (used_channels s) →
    AreApart (undone s.draining ++ s.serving ∷ known_in state)
apart_known s state is apart = by state (subst (λ (x : State). AreApart (undone s.draining ++ s.serving ∷ target_in x)) is apart)
  where
    shorter : (xs : List Channel) (c d : Channel) → AreApart (xs ++ c ∷ (d ∷ [])) → AreApart (xs ++ c ∷ [])
    shorter xs c d apart = are_apart_front (xs ++ c ∷ []) (d ∷ []) (subst AreApart (sym (append_assoc xs (c ∷ []) (d ∷ []))) apart)

    by : (state : State) →
        AreApart (undone s.draining ++ s.serving ∷ target_in state) →
        AreApart (undone s.draining ++ s.serving ∷ known_in state)
    by (Live reference (Changing target)) apart = apart
    by (Live reference (Preparing target)) apart = shorter (undone s.draining) s.serving target.channel apart
    by _ apart = apart

-- the tenures are on different channels
pub distinct_lines : (s : Connection) (c : ConnectionState) →
    AreApart (used_channels s) →
    Agrees s c →
    AreDistinct (c.former ++ c.serving ∷ more_by c.serving c.awaited)
distinct_lines s c apart agrees =
    distinct_by (c.former ++ c.serving ∷ more_by c.serving c.awaited) (undone s.draining ++ s.serving ∷ known_in s.state)
    (append_map c.former (c.serving ∷ more_by c.serving c.awaited) (undone s.draining) (s.serving ∷ known_in s.state) agrees.old
    (let more = more_places c.serving s.state c.awaited agrees.awaited in let at = agrees.at in cc))
    (apart_known s s.state refl apart)

pub is_on : (s : Connection) (c : ConnectionState) (at : StationChannel) (rank : ℕ) →
    AreApart (used_channels s) →
    Agrees s c →
    rank_of at c ≡ Some rank →
    IsOn (spot at) rank (lines_of c)
is_on s c at rank apart agrees is =
    let ts : List Tenure = c.former ++ c.serving ∷ more_by c.serving c.awaited in
    let are = lines_are c.former c.serving c.awaited in
    let distinct = distinct_lines s c apart agrees in
    let rising : IsRising ts = subst IsRising are (rising_lines c.former c.serving c.awaited agrees.rising) in
    subst (IsOn (spot at) rank) (sym are) (elim (cases_Bool (is_same c.serving.at at)) [
      | inl here ↦
          let same : Some c.serving.rank ≡ Some rank = sym (cond-true _ _ _ here) ∙ is in
          let equal : c.serving.rank ≡ rank = cc in
          subst (λ (k : ℕ). IsOn (spot at) k ts) equal (on_serving at c.serving c.former (more_by c.serving c.awaited) here distinct rising)
      | inr there ↦ on_old at rank c.former (c.serving ∷ more_by c.serving c.awaited) (sym (cond-false _ _ _ there) ∙ is) distinct rising
    ])

rank_before : (at : StationChannel) (rank : ℕ) (ts : List Tenure) (u : Tenure) →
    IsRising (ts ++ u ∷ []) →
    old_rank at ts ≡ Some rank →
    rank < u.rank
rank_before at rank [] u rising is = absurd cc
rank_before at rank (t ∷ ts) u rising is = elim (cases_Bool (is_same t.at at)) [
  | inl here ↦
      let same : Some t.rank ≡ Some rank = sym (cond-true _ _ _ here) ∙ is in
      let equal : t.rank ≡ rank = cc in
      let less = last_of (λ (x : Tenure). t.rank < x.rank) ts u rising.0 in
      omega arith
  | inr there ↦ rank_before at rank ts u rising.1 (sym (cond-false _ _ _ there) ∙ is)
]
  where
    last_of : (P : Tenure → Type 0) (ts : List Tenure) (u : Tenure) → AllByRecursion P (ts ++ u ∷ []) → P u
    last_of P [] u all = all.0
    last_of P (t ∷ ts) u all = last_of P ts u all.1

rank_within : (s : Connection) (c : ConnectionState) (at : StationChannel) (rank : ℕ) →
    Agrees s c →
    rank_of at c ≡ Some rank →
    rank ≤ c.serving.rank
rank_within s c at rank agrees is = elim (cases_Bool (is_same c.serving.at at)) [
  | inl here ↦
      let same : Some c.serving.rank ≡ Some rank = sym (cond-true _ _ _ here) ∙ is in
      let equal : c.serving.rank ≡ rank = cc in
      omega arith
  | inr there ↦ let less = rank_before at rank c.former c.serving agrees.rising (sym (cond-false _ _ _ there) ∙ is) in omega arith
]

pub arrived_dtap : (s : Connection) (c : ConnectionState) (at : StationChannel) (of : Sapi) (message : List ℕ) (frame rank : ℕ) →
    AreApart (used_channels s) →
    Agrees s c →
    rank_of at c ≡ Some rank →
    Arrived s (inputs.Dtap (spot at) of message) (brought at of message frame c)
arrived_dtap s c at of message frame rank apart agrees is =
    subst (λ (x : ConnectionState). Arrived s (inputs.Dtap (spot at) of message) x) (sym (came is)) (record {
      at = agrees.at;
      old = agrees.old;
      awaited = agrees.awaited;
      rising = agrees.rising;
      up = up of;
      down = λ sapi. nothing_received sapi s (inputs.Dtap (spot at) of message) (flow_of sapi c.down) (none sapi) (agrees.down sapi);
      is_open = agrees.is_open;
    })
  where
    came : rank_of at c ≡ Some rank →
        brought at of message frame c ≡ record c { up = with_flow of (arrived (due_of rank message frame)) c.up }
    came is = rw is refl

    none : (sapi : Sapi) → received_by sapi (inputs.Dtap (spot at) of message) ≡ []
    none Zero = refl
    none Three = refl

    up : (of sapi : Sapi) →
        UpAgrees (λ future. still_to_relay sapi (from_input sapi (inputs.Dtap (spot at) of message) future) s) (lines_of c) c.serving.rank (flow_of sapi (with_flow of (arrived (due_of rank message frame)) c.up))
    up Zero Zero = up_arrived (λ future. still_to_relay Zero future s) (lines_of c) c.serving.rank c.up.zero (spot at) rank message frame (is_on s c at rank apart agrees is) (rank_within s c at rank agrees is) (agrees.up Zero)
    up Three Three = up_arrived (λ future. still_to_relay Three future s) (lines_of c) c.serving.rank c.up.three (spot at) rank message frame (is_on s c at rank apart agrees is) (rank_within s c at rank agrees is) (agrees.up Three)
    up Zero Three = agrees.up Three
    up Three Zero = agrees.up Zero

-- ---- the switch's

filter-one : (ms : Messages) (message : List ℕ) →
    is_dtap message ≡ true →
    filter is_dtap (ms ++ message ∷ []) ≡ filter is_dtap ms ++ message ∷ []
filter-one ms message dtap = filter-append is_dtap ms (message ∷ []) ∙ ap (λ (xs : Messages). filter is_dtap ms ++ xs) (cond-true _ _ _ dtap)

-- behind all that have rank 0
pub insert_last : (d : Due) (ds : List Due) →
    d.rank ≡ 0 →
    AllByRecursion (λ (x : Due). x.rank ≡ 0) ds →
    (texts (insert_due d ds) ≡ texts ds ++ d.message ∷ []) × AllByRecursion (λ (x : Due). x.rank ≡ 0) (insert_due d ds)
insert_last d [] zero all = (refl, (zero, tt))
insert_last d (x ∷ xs) zero all =
    let rest = insert_last d xs zero all.1 in
    let here : insert_due d (x ∷ xs) ≡ x ∷ insert_due d xs = cond-false _ _ _ (below d.rank x.rank all.0) in
    (ap texts here ∙ ap (λ (ms : Messages). x.message ∷ ms) rest.0, subst (AllByRecursion (λ (y : Due). y.rank ≡ 0)) (sym here) (all.0, rest.1))
  where
    below : (a b : ℕ) → b ≡ 0 → nat_lt a b ≡ false
    below a b none = not_below a b (omega arith)

down_arrived : (holds : Messages) (f : FlowState) (message : List ℕ) (frame : ℕ) →
    DownAgrees holds f →
    DownAgrees (holds ++ message ∷ []) (arrived (due_of 0 message frame) f)
down_arrived holds f message frame down =
    let last = insert_last (due_of 0 message frame) down.held refl down.zero in
    record {
      held = insert_due (due_of 0 message frame) down.held;
      carries = carries_arrived f down.held 0 (due_of 0 message frame) down.carries refl (omega arith);
      zero = last.1;
      are = ap (λ (ms : Messages). ms ++ message ∷ []) down.are ∙ sym last.0;
    }

filter-none : (ms : Messages) (message : List ℕ) → is_dtap message ≡ false → filter is_dtap (ms ++ message ∷ []) ≡ filter is_dtap ms
filter-none ms message other = filter-append is_dtap ms (message ∷ []) ∙ ap (λ (xs : Messages). filter is_dtap ms ++ xs) (cond-false _ _ _ other) ∙ append-none (filter is_dtap ms)

-- a message of radio resource management counts for nothing
pub arrived_other : (s : Connection) (c : ConnectionState) (of : Sapi) (message : List ℕ) →
    is_dtap message ≡ false →
    Agrees s c →
    Arrived s (inputs.Downlink of message) c
arrived_other s c of message other agrees = record {
  at = agrees.at;
  old = agrees.old;
  awaited = agrees.awaited;
  rising = agrees.rising;
  up = up;
  down = λ sapi. down of sapi;
  is_open = agrees.is_open;
}
  where
    up : (sapi : Sapi) →
        UpAgrees (λ future. still_to_relay sapi (from_input sapi (inputs.Downlink of message) future) s) (lines_of c) c.serving.rank (flow_of sapi c.up)
    up Zero = agrees.up Zero
    up Three = agrees.up Three

    down : (of sapi : Sapi) →
        DownAgrees (filter is_dtap (messages s.down sapi ++ received_by sapi (inputs.Downlink of message))) (flow_of sapi c.down)
    down Zero Zero = subst (λ (ms : Messages). DownAgrees ms c.down.zero) (sym (filter-none s.down.zero message other)) (agrees.down Zero)
    down Three Three = subst (λ (ms : Messages). DownAgrees ms c.down.three) (sym (filter-none s.down.three message other)) (agrees.down Three)
    down Zero Three = nothing_received Three s (inputs.Downlink Zero message) c.down.three refl (agrees.down Three)
    down Three Zero = nothing_received Zero s (inputs.Downlink Three message) c.down.zero refl (agrees.down Zero)

pub arrived_downlink : (s : Connection) (c : ConnectionState) (of : Sapi) (message : List ℕ) (frame source : ℕ) →
    c.switch ≡ Some source →
    is_dtap message ≡ true →
    Agrees s c →
    Arrived s (inputs.Downlink of message) (transferred of message frame c)
arrived_downlink s c of message frame source known dtap agrees =
    subst (λ (x : ConnectionState). Arrived s (inputs.Downlink of message) x) (sym (came known)) (record {
      at = agrees.at;
      old = agrees.old;
      awaited = agrees.awaited;
      rising = agrees.rising;
      up = up;
      down = down of;
      is_open = agrees.is_open;
    })
  where
    came : c.switch ≡ Some source →
        transferred of message frame c ≡ record c { down = with_flow of (arrived (due_of 0 message frame)) c.down }
    came known = rw known refl

    up : (sapi : Sapi) →
        UpAgrees (λ future. still_to_relay sapi (from_input sapi (inputs.Downlink of message) future) s) (lines_of c) c.serving.rank (flow_of sapi c.up)
    up Zero = agrees.up Zero
    up Three = agrees.up Three

    down : (of sapi : Sapi) →
        DownAgrees (filter is_dtap (messages s.down sapi ++ received_by sapi (inputs.Downlink of message))) (flow_of sapi (with_flow of (arrived (due_of 0 message frame)) c.down))
    down Zero Zero = subst (λ (ms : Messages). DownAgrees ms (arrived (due_of 0 message frame) c.down.zero)) (sym (filter-one s.down.zero message dtap)) (down_arrived (filter is_dtap s.down.zero) c.down.zero message frame (agrees.down Zero))
    down Three Three = subst (λ (ms : Messages). DownAgrees ms (arrived (due_of 0 message frame) c.down.three)) (sym (filter-one s.down.three message dtap)) (down_arrived (filter is_dtap s.down.three) c.down.three message frame (agrees.down Three))
    down Zero Three = nothing_received Three s (inputs.Downlink Zero message) c.down.three refl (agrees.down Three)
    down Three Zero = nothing_received Zero s (inputs.Downlink Three message) c.down.zero refl (agrees.down Zero)
