-- SPDX-License-Identifier: MIT OR Apache-2.0
-- A row begins those channels whose ACTIVATION ACK is its input.
use Rattle.world_laws.proofs.Prelude.{◌≡◌, ◌⊎◌, ℕ, Bool, true, false, ◌&&◌, not, if◌then◌else◌, List, [], ◌∷◌, Option, Some, None, refl}
use Rattle.world_laws.proofs.Prelude.{sym, ap, ◌∙◌, subst, inl, inr, cases_Bool, AllByRecursion, Channel, Place, Input, Changing, State}
use Rattle.world_laws.proofs.Prelude.{WaitActivation, Live, Closed, Removed, Target, Connection, drain_at, is_at, ChangesRoles, RemainsOpen}
use Rattle.world_laws.proofs.Prelude.{Roles, TargetRole, after_step, awaits_at, changes_by, commanded, is_target_at, leaves_at, roles_of}
use Rattle.world_laws.proofs.Prelude.{step_by, target_channels, target_role, with_target, carries_on, ends, had_ended, unchanged, commands}
use Rattle.world_laws.proofs.Prelude.{completes, reverts, IsValid, Row, IsOpen, on_activation_ack, on_activation_nack}
use Rattle.world_laws.proofs.Prelude.{on_establish_indication, on_establish_confirm, on_release_indication, on_error_indication}
use Rattle.world_laws.proofs.Prelude.{on_connection_failure, on_dtap, on_complete, on_failure, on_release_ack, on_move, on_confirm}
use Rattle.world_laws.proofs.Prelude.{on_refused, on_released, on_downlink, on_assignment_request, on_cipher_mode_command, on_clear_command}
use Rattle.world_laws.proofs.Prelude.{on_drain_expiry, on_station_down, on_switch_down, row_if, same_change, changes_of, if_is}
use Rattle.conn_rules.specs.declared.input.Input.TheVariants as inputs
use Rattle.conn_rules.specs.Table.{on_expiry, row_of}
use Rattle.world_laws.specs.Channels.Begun.{begun_in}

-- ---- the channels that began, by the roles

commanded_of : Option TargetRole → List Channel
commanded_of (Some t) = if t.is_commanded then t.target.channel ∷ [] else []
commanded_of None = []

-- the serving one, and a target to which the mobile was commanded
record Begins (P : Channel → Type 0) (roles : Roles) : Type 0 where
  serving : P roles.serving
  target : AllByRecursion P (commanded_of roles.target)

begins_begun : (P : Channel → Type 0) (state : State) (serving : Channel) →
    P serving →
    AllByRecursion P (commanded_of (target_role state)) →
    AllByRecursion P (begun_in state serving)
unfolding commanded_of
begins_begun P WaitActivation serving one all = tt
begins_begun P (Live reference (Changing target)) serving one all = (one, all)
begins_begun P (Closed clearing) serving one all = tt
begins_begun P Removed serving one all = tt
begins_begun P _ serving one all = (one, tt)

-- a connection that waits for its serving channel
IsFirst : State → Type 0
IsFirst WaitActivation = Unit {0}
IsFirst _ = ⊥

begun_begins : (P : Channel → Type 0) (state : State) (serving : Channel) →
    IsOpen state →
    (IsFirst state → ⊥) →
    AllByRecursion P (begun_in state serving) →
    P serving × AllByRecursion P (commanded_of (target_role state))
unfolding commanded_of IsFirst
begun_begins P WaitActivation serving opened later all = absurd (later tt)
begun_begins P (Live reference (Changing target)) serving opened later all = (all.0, all.1)
begun_begins P (Closed clearing) serving opened later all = absurd opened
begun_begins P Removed serving opened later all = absurd opened
begun_begins P _ serving opened later all = (all.0, tt)

none_begun : (state : State) (serving : Channel) → (IsOpen state → ⊥) → begun_in state serving ≡ []
none_begun (Closed clearing) serving shut = refl
none_begun Removed serving shut = refl
none_begun _ serving shut = absurd (shut tt)

-- all channels that began are used, while the connection is open
pub begun_used : (P : Channel → Type 0) (state : State) (serving : Channel) →
    (IsOpen state → AllByRecursion P (serving ∷ target_channels (target_role state))) →
    AllByRecursion P (begun_in state serving)
begun_used P WaitActivation serving all = tt
begun_used P (Live reference (Changing target)) serving all = all tt
begun_used P (Closed clearing) serving all = tt
begun_used P Removed serving all = tt
begun_used P _ serving all = ((all tt).0, tt)

-- ---- a step

-- the channels that are in use, and whose ACTIVATION ACK the input is
abbrev pub IsAckOf : Input → (Channel → Type 0) → (Channel → Type 0) → Type 0
IsAckOf input Q P = (at : Place) (c : Channel) → input ≡ inputs.ActivationAck at → is_at at c ≡ true → Q c → P c

pub both_true : (a b : Bool) → a && b ≡ true → (a ≡ true) × (b ≡ true)
both_true true true is = (refl, refl)
both_true true false is = absurd cc
both_true false b is = absurd cc

ack_begins : (Q P : Channel → Type 0) (at : Place) (roles : Roles) →
    IsAckOf (inputs.ActivationAck at) Q P →
    AllByRecursion Q (target_channels roles.target) →
    Begins P roles →
    Begins P (after_step (if awaits_at at roles.target then commands else unchanged) roles)
unfolding commanded_of
ack_begins Q P at roles acks used begins = elim (cases_Bool (awaits_at at roles.target)) [
  | inl hit ↦ subst (λ (b : Bool). Begins P (after_step (if b then commands else unchanged) roles)) (sym hit) (record { serving = begins.serving; target = commanded_part roles.target hit used })
  | inr miss ↦ subst (λ (b : Bool). Begins P (after_step (if b then commands else unchanged) roles)) (sym miss) begins
] where
  commanded_part : (o : Option TargetRole) →
      awaits_at at o ≡ true →
      AllByRecursion Q (target_channels o) →
      AllByRecursion P (commanded_of (commanded o))
  commanded_part (Some t) is all = (acks at t.target.channel refl (both_true (not t.is_commanded) (is_at at t.target.channel) is).1 all.0, tt)
  commanded_part None is all = tt

reverts_begins : (P : Channel → Type 0) (b : Bool) (roles : Roles) →
    Begins P roles →
    Begins P (after_step (if b then reverts else unchanged) roles)
unfolding commanded_of
reverts_begins P true roles begins = record { serving = begins.serving; target = tt }
reverts_begins P false roles begins = begins

completes_begins : (P : Channel → Type 0) (b : Bool) (roles : Roles) →
    (b ≡ true → (t : TargetRole) × (roles.target ≡ Some t) × (t.is_commanded ≡ true)) →
    Begins P roles →
    Begins P (after_step (if b then completes else unchanged) roles)
unfolding commanded_of
completes_begins P false roles there begins = begins
completes_begins P true roles there begins = by roles.target refl where
  t : TargetRole
  t = (there refl).0

  one : AllByRecursion P (t.target.channel ∷ [])
  one = subst (λ (b : Bool). AllByRecursion P (if b then t.target.channel ∷ [] else [])) (there refl).2 (subst (λ (o : Option TargetRole). AllByRecursion P (commanded_of o)) (there refl).1 begins.target)

  by : (o : Option TargetRole) → roles.target ≡ o → Begins P (after_step completes roles)
  by o is = subst (λ (o : Option TargetRole). Begins P (after_step completes (record roles { target = o }))) (sym (there refl).1) (record { serving = one.0; target = tt })

step_begins : (Q P : Channel → Type 0) (input : Input) (roles : Roles) →
    IsAckOf input Q P →
    AllByRecursion Q (target_channels roles.target) →
    Begins P roles →
    Begins P (after_step (step_by input roles) roles)
step_begins Q P (inputs.ActivationAck at) roles acks used begins = ack_begins Q P at roles acks used begins
step_begins Q P (inputs.ActivationNack at) roles acks used begins = reverts_begins P (awaits_at at roles.target) roles begins
step_begins Q P (inputs.Complete at change cause) roles acks used begins = completes_begins P (is_target_at at roles.target && changes_by change roles.target) roles (λ is. commanded_part roles.target (both_true (is_target_at at roles.target) (changes_by change roles.target) is).1) begins where
  commanded_part : (o : Option TargetRole) → changes_by change o ≡ true → (t : TargetRole) × (o ≡ Some t) × (t.is_commanded ≡ true)
  commanded_part (Some t) is = (t, refl, (both_true t.is_commanded (same_change change t.target.change) is).0)
  commanded_part None is = absurd cc
step_begins Q P (inputs.Failure at change cause) roles acks used begins = reverts_begins P (is_at at roles.serving && changes_by change roles.target) roles begins
step_begins Q P (inputs.ReleaseAck at) roles acks used begins = by (drain_at at roles.draining) where
  by : (o : Option ℕ) → Begins P (after_step (leaves_at o) roles)
  by (Some place) = record { serving = begins.serving; target = begins.target }
  by None = begins
step_begins Q P _ roles acks used begins = begins

with_begins : (P : Channel → Type 0) (begun : Option Target) (roles : Roles) → Begins P roles → Begins P (with_target begun roles)
unfolding commanded_of
with_begins P None roles begins = begins
with_begins P (Some target) roles begins = record { serving = begins.serving; target = tt }

-- ---- the first channel

-- while the connection waits for its serving channel, it continues only by an ACTIVATION ACK of it
shut : (b : Bool) (q r : Row) → (IsOpen q.next.state → ⊥) → row_if b q ≡ Some r → IsOpen r.next.state → ⊥
shut b q r closed is opened = closed (subst (λ (x : Row). IsOpen x.next.state) (sym (if_is b q r is).1) opened)

some_shut : (q r : Row) → (IsOpen q.next.state → ⊥) → Some q ≡ Some r → IsOpen r.next.state → ⊥
some_shut q r closed is opened = closed (subst (λ (x : Row). IsOpen x.next.state) (sym (of is)) opened) where
  of : Some q ≡ Some r → q ≡ r
  of is = cc

never : {r : Row} → None ≡ Some r → ⊥
never is = absurd cc

-- the table, where it waits for its serving channel
first_row : Connection → Input → Option Channel → Option Row
first_row s (inputs.ActivationAck at) offer = on_activation_ack WaitActivation s at
first_row s (inputs.ActivationNack at) offer = on_activation_nack WaitActivation s at offer
first_row s inputs.Expiry offer = on_expiry WaitActivation s
first_row s (inputs.StationDown station) offer = on_station_down WaitActivation s station
first_row s inputs.SwitchDown offer = on_switch_down WaitActivation s
first_row s _ offer = None

row_first : (s : Connection) (input : Input) (offer : Option Channel) →
    s.state ≡ WaitActivation →
    row_of s input offer ≡ first_row s input offer
unfolding row_of first_row
row_first s (inputs.ActivationAck at) offer is = ap (λ (state : State). on_activation_ack state s at) is
row_first s (inputs.ActivationNack at) offer is = ap (λ (state : State). on_activation_nack state s at offer) is
row_first s (inputs.EstablishIndication at sapi message) offer is = ap (λ (state : State). on_establish_indication state s at sapi message) is
row_first s (inputs.EstablishConfirm at sapi) offer is = ap (λ (state : State). on_establish_confirm state s at sapi) is
row_first s (inputs.ReleaseIndication at sapi) offer is = ap (λ (state : State). on_release_indication state s at sapi) is
row_first s (inputs.ErrorIndication at sapi) offer is = ap (λ (state : State). on_error_indication state s at sapi) is
row_first s (inputs.ConnectionFailure at) offer is = ap (λ (state : State). on_connection_failure state s at) is
row_first s (inputs.Dtap at sapi message) offer is = ap (λ (state : State). on_dtap state s at sapi message) is
row_first s (inputs.Complete at change cause) offer is = ap (λ (state : State). on_complete state s at change cause.0 offer) is
row_first s (inputs.Failure at change cause) offer is = ap (λ (state : State). on_failure state s at change cause.0 offer) is
row_first s (inputs.ReleaseAck at) offer is = ap (λ (state : State). on_release_ack state s at offer) is
row_first s inputs.Move offer is = ap (λ (state : State). on_move state s offer) is
row_first s (inputs.ConnectionConfirm source) offer is = ap (λ (state : State). on_confirm state s source) is
row_first s inputs.ConnectionRefused offer is = ap (λ (state : State). on_refused state s) is
row_first s (inputs.Released source) offer is = ap (λ (state : State). on_released state s source) is
row_first s (inputs.Downlink sapi message) offer is = ap (λ (state : State). on_downlink state s sapi message) is
row_first s (inputs.AssignmentRequest is_speech) offer is = ap (λ (state : State). on_assignment_request state s is_speech offer) is
row_first s inputs.CipherModeCommand offer is = ap (λ (state : State). on_cipher_mode_command state s) is
row_first s inputs.ClearCommand offer is = ap (λ (state : State). on_clear_command state s) is
row_first s inputs.Expiry offer is = ap (λ (state : State). on_expiry state s) is
row_first s inputs.DrainExpiry offer is = ap (λ (state : State). on_drain_expiry state s) is
row_first s (inputs.StationDown station) offer is = ap (λ (state : State). on_station_down state s station) is
row_first s inputs.SwitchDown offer is = ap (λ (state : State). on_switch_down state s) is

first_by : (Q P : Channel → Type 0) (s : Connection) (input : Input) (offer : Option Channel) (r : Row) →
    first_row s input offer ≡ Some r →
    IsOpen r.next.state →
    IsAckOf input Q P →
    Q s.serving →
    P s.serving
unfolding first_row
first_by Q P s (inputs.ActivationAck at) offer r is opened acks used = acks at s.serving refl (if_is (is_at at s.serving) _ r is).0 used
first_by Q P s (inputs.ActivationNack at) offer r is opened acks used = absurd (shut (is_at at s.serving) _ r absurd is opened)
first_by Q P s inputs.Expiry offer r is opened acks used = absurd (some_shut _ r absurd is opened)
first_by Q P s (inputs.StationDown station) offer r is opened acks used = absurd (shut _ _ r absurd is opened)
first_by Q P s inputs.SwitchDown offer r is opened acks used = absurd (some_shut _ r absurd is opened)
first_by Q P s _ offer r is opened acks used = absurd (never is)

-- ---- every row

first_or : (state : State) → (state ≡ WaitActivation) ⊎ (IsFirst state → ⊥)
unfolding IsFirst
first_or WaitActivation = inl refl
first_or _ = inr (λ first. first)

pub row_begun : (Q P : Channel → Type 0) (s : Connection) (input : Input) (offer : Option Channel) (r : Row) →
    IsValid s →
    row_of s input offer ≡ Some r →
    IsAckOf input Q P →
    (IsOpen s.state → AllByRecursion Q (s.serving ∷ target_channels (target_role s.state))) →
    AllByRecursion P (begun_in s.state s.serving) →
    AllByRecursion P (begun_in r.next.state r.next.serving)
unfolding commanded_of
row_begun Q P s input offer r valid fits acks used begun = by (changes_of s input offer r valid fits) where
  before : IsOpen s.state → IsOpen r.next.state → Begins P (roles_of s)
  before opened still = elim (first_or s.state) [
    | inl first ↦ record {
      serving = first_by Q P s input offer r (sym (row_first s input offer first) ∙ fits) still acks (used opened).0;
      target = subst (λ (state : State). AllByRecursion P (commanded_of (target_role state))) (sym first) tt;
    }
    | inr later ↦
        let both = begun_begins P s.state s.serving opened later begun in
        record { serving = both.0; target = both.1 }
  ]

  after : IsOpen s.state →
      IsOpen r.next.state →
      RemainsOpen (step_by input (roles_of s)) (roles_of s) s.down input offer r →
      Begins P (roles_of r.next)
  after opened still on = subst (Begins P) (sym on.roles) (with_begins P on.begun (after_step (step_by input (roles_of s)) (roles_of s)) (step_begins Q P input (roles_of s) acks (used opened).1 (before opened still)))

  by : ChangesRoles s input offer r → AllByRecursion P (begun_in r.next.state r.next.serving)
  by (carries_on opened still on) = begins_begun P r.next.state r.next.serving (after opened still on).serving (after opened still on).target
  by (ends opened closed end) = subst (AllByRecursion P) (sym (none_begun r.next.state r.next.serving closed)) tt
  by (had_ended over closed silent) = subst (AllByRecursion P) (sym (none_begun r.next.state r.next.serving closed)) tt
