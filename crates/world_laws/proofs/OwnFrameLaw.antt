-- SPDX-License-Identifier: MIT OR Apache-2.0
-- The controller does the row that fits for the connection that a frame says an input to, and puts
-- nothing else.
use Rattle.world_laws.proofs.Prelude.{◌≡◌, ℕ, ◌&&◌, not, Bool, true, false, if◌then◌else◌, [], Option, Some, None, refl, sym, ap, ◌∙◌}
use Rattle.world_laws.proofs.Prelude.{subst, inl, inr, cases_Bool, Channel, Place, outs_of, Input, Active, Preparing, Changing, Draining}
use Rattle.world_laws.proofs.Prelude.{State, WaitConfirm, Live, Connection, is_at, drain_at, TargetRole, RoleStep, target_role, roles_of}
use Rattle.world_laws.proofs.Prelude.{awaits_at, changes_by, is_target_at, leaves_at, step_by, roles_unchanged, role_commands}
use Rattle.world_laws.proofs.Prelude.{role_completes}
use Rattle.world_laws.proofs.Prelude.{role_reverts, Row, command_to, on_activation_ack, on_establish_indication, row_if, Word, Controller}
use Rattle.world_laws.proofs.Prelude.{Entry, channel_state, freed, ignoring, turn, by_fitting, concerning, concerning_too, frees}
use Rattle.world_laws.proofs.Prelude.{on_freed, on_word, on_what, row_in, Zero, Frame, RelayItem, What, Tenure, tenure_in, rsl_in, Actors}
use Rattle.world_laws.proofs.Prelude.{tenure_at, place-is, brings_by, is_opening, IsRequested, freed_for, IsSaidTo, FrameIsHandled}
use Rattle.world_laws.proofs.Prelude.{on_channel, on_connection, BeginsTenure}
use Rattle.conn_rules.specs.declared.input.Input.TheVariants as inputs
use Rattle.conn_rules.specs.Table.{row_of}
use Rattle.controller_model.specs.Life.{take}
use Rattle.world_laws.proofs.OwnFrame.{IsPlain, TenureOf}
use Rattle.world_laws.proofs.OwnFrames.{ReadInput, ReadWord, of_frame}

-- ---- what the controller puts

concerning-outs : (input : Input) (c : Controller) (e : Entry) (r : Row) →
    row_in c e.connection input ≡ Some r →
    (concerning input c (Some e)).outs ≡ outs_of e.connection.number r.outs
concerning-outs input c e r fits = ap (λ (o : Option Row). (by_fitting (ignoring c) e o c).outs) fits

concerning_too-outs : (input : Input) (c : Controller) (e : Entry) (r : Row) →
    row_in c e.connection input ≡ Some r →
    (concerning_too input c (Some e)).outs ≡ outs_of e.connection.number r.outs
concerning_too-outs input c e r fits = ap (λ (o : Option Row). (by_fitting (turn [] c) e o c).outs) fits

freed_outs : (b : Bool) (at : Place) (input : Input) (c : Controller) (e : Entry) (r : Row) →
    row_in (if b then freed at c else c) e.connection input ≡ Some r →
    (on_freed b at input c (Some e)).outs ≡ outs_of e.connection.number r.outs
freed_outs true at input c e r fits = concerning_too-outs input (freed at c) e r fits
freed_outs false at input c e r fits = concerning-outs input c e r fits

word-outs : {c : Controller} {word : Word} {s : Connection} {input : Input} {offer : Option Channel} (source : ℕ) (r : Row) →
    IsSaidTo c word s input offer →
    row_of s input offer ≡ Some r →
    (on_word source word c).outs ≡ outs_of s.number r.outs
word-outs {c} {s = s} source r (on_channel at input e word_is found is) fits =
    ap (λ (w : Word). (on_word source w c).outs) word_is
    ∙ ap (λ (o : Option Entry). (on_freed (frees (channel_state c at) o input) at input c o).outs) found
    ∙ freed_outs (frees (channel_state c at) (Some e) input) at input c e r
    (ap (λ (o : Option Entry). row_in (if frees (channel_state c at) o input then freed at c else c) e.connection input) (sym found) ∙ ap (λ (x : Connection). row_in (freed_for c at input) x input) is ∙ fits)
    ∙ ap (λ (x : Connection). outs_of x.number r.outs) is
word-outs {c} {s = s} source r (on_connection number input e word_is found is) fits =
    ap (λ (w : Word). (on_word source w c).outs) word_is ∙ ap (λ (o : Option Entry). (concerning input c o).outs) found ∙ concerning-outs input c e r (ap (λ (x : Connection). row_in c x input) is ∙ fits)
    ∙ ap (λ (x : Connection). outs_of x.number r.outs) is

-- ---- what it says, by the row that fits

-- it put its connection request
unrequested : (state : State) → IsRequested state → is_opening state ≡ true → ⊥
unrequested WaitConfirm requested opens = absurd cc
unrequested (Live reference stage) requested opens = absurd cc
unrequested _ requested opens = requested

-- no initial message arrives any more
plain_of : (s : Connection) (input : Input) (offer : Option Channel) (r : Row) →
    IsRequested s.state →
    row_of s input offer ≡ Some r →
    IsPlain input
unfolding row_of
plain_of s (inputs.EstablishIndication at Zero (Some initial)) offer r requested fits = absurd (by s.state requested fits) where
  by : (state : State) → IsRequested state → on_establish_indication state s at Zero (Some initial) ≡ Some r → ⊥
  by WaitConfirm requested fits = absurd cc
  by (Live reference Active) requested fits = absurd cc
  by (Live reference (Preparing t)) requested fits = absurd cc
  by (Live reference (Changing t)) requested fits = absurd cc
  by (Live reference Draining) requested fits = absurd cc
  by _ requested fits = absurd requested
plain_of s _ offer r requested fits = tt

-- an ACTIVATION ACK is of the target that waits for it
record IsAcknowledged (at : Place) (o : Option TargetRole) : Type 0 where
  t : TargetRole
  is : o ≡ Some t
  waits : t.is_commanded ≡ false
  here : is_at at t.target.channel ≡ true

acked : (state : State) (s : Connection) (at : Place) (r : Row) →
    IsRequested state →
    on_activation_ack state s at ≡ Some r →
    IsAcknowledged at (target_role state)
acked WaitConfirm s at r requested fits = absurd cc
acked (Live reference (Preparing target)) s at r requested fits = elim (cases_Bool (is_at at target.channel)) [
  | inl here ↦ record { t = record { target = target; is_commanded = false }; is = refl; waits = refl; here = here }
  | inr other ↦ absurd (none (sym (ap (λ (b : Bool). row_if b (command_to reference target s)) other) ∙ fits))
] where
  none : None ≡ Some r → ⊥
  none is = absurd cc
acked (Live reference Active) s at r requested fits = absurd cc
acked (Live reference (Changing target)) s at r requested fits = absurd cc
acked (Live reference Draining) s at r requested fits = absurd cc
acked _ s at r requested fits = absurd requested

begins_of : (w : Actors) (s : Connection) (input : Input) (offer : Option Channel) (r : Row) (tenure : Option Tenure) →
    IsRequested s.state →
    row_of s input offer ≡ Some r →
    TenureOf w input tenure →
    BeginsTenure w (step_by input (roles_of s)) (target_role s.state) tenure
unfolding row_of
begins_of w s (inputs.ActivationAck at) offer r tenure requested fits is =
    let a = acked s.state s at r requested fits in
    let step : step_by (inputs.ActivationAck at) (roles_of s) ≡ role_commands =
    ap (λ (o : Option TargetRole). if awaits_at at o then role_commands else roles_unchanged) a.is ∙ ap (λ (b : Bool). if (not b && is_at at a.t.target.channel) then role_commands else roles_unchanged) a.waits ∙ ap (λ (b : Bool). if b then role_commands else roles_unchanged) a.here in
    subst (λ (x : RoleStep). BeginsTenure w x (target_role s.state) tenure) (sym step)
    (subst (λ (o : Option TargetRole). BeginsTenure w role_commands o tenure) (sym a.is) (is ∙ ap (λ (p : Place). Some (tenure_at w p)) (place-is at a.t.target.channel a.here)))
begins_of w s (inputs.ActivationNack at) offer r tenure requested fits none = by (awaits_at at (target_role s.state)) where
  by : (b : Bool) → BeginsTenure w (if b then role_reverts else roles_unchanged) (target_role s.state) tenure
  by true = none
  by false = none
begins_of w s (inputs.Complete at change cause) offer r tenure requested fits none = by (is_target_at at (target_role s.state) && changes_by change (target_role s.state)) where
  by : (b : Bool) → BeginsTenure w (if b then role_completes else roles_unchanged) (target_role s.state) tenure
  by true = none
  by false = none
begins_of w s (inputs.Failure at change cause) offer r tenure requested fits none = by (is_at at s.serving && changes_by change (target_role s.state)) where
  by : (b : Bool) → BeginsTenure w (if b then role_reverts else roles_unchanged) (target_role s.state) tenure
  by true = none
  by false = none
begins_of w s (inputs.ReleaseAck at) offer r tenure requested fits none = by (drain_at at s.draining) where
  by : (o : Option ℕ) → BeginsTenure w (leaves_at o) (target_role s.state) tenure
  by (Some place) = none
  by None = none
begins_of w s _ offer r tenure requested fits none = none

-- ---- the law

read_of : {c : Controller} {word : Word} {s : Connection} {input : Input} {offer : Option Channel} (source : ℕ) (frame : Frame) →
    IsSaidTo c word s input offer →
    ReadWord source (rsl_in frame) word →
    IsPlain input →
    ReadInput source (rsl_in frame) input
read_of source frame (on_channel at input e is found same) read plain = subst (ReadWord source (rsl_in frame)) is read plain
read_of source frame (on_connection number input e is found same) read plain = subst (ReadWord source (rsl_in frame)) is read

pub frame_is_handled_new : (w : Actors) (item : RelayItem) (s : Connection) (input : Input) (offer : Option Channel) (r : Row) →
    FrameIsHandled w item s input offer r
unfolding take
frame_is_handled_new w item s input offer r frame =
    let says : ReadInput item.source (rsl_in frame.frame) input = read_of item.source frame.frame frame.said (of_frame item.source frame.frame) (plain_of s input offer r frame.requested frame.fits) in (
      says.text,
      record {
        fits = frame.fits;
        remains_open = frame.remains_open;
        awaits = λ opens. absurd (unrequested s.state frame.requested opens);
        outs = ap (λ (b : Bool). (on_what b item.source item.what w.controller).outs) frame.up ∙ ap (λ (x : What). (on_what true item.source x w.controller).outs) frame.is ∙ word-outs item.source r frame.said frame.fits;
        carried = frame.carried;
        read = says.read;
        brings = λ at. ap (brings_by at item.source) frame.is ∙ says.brings_it at;
        begins = begins_of w s input offer r (tenure_in w item.source item.what) frame.requested frame.fits (subst (TenureOf w input) (sym (ap (tenure_in w item.source) frame.is)) (says.acknowledges w));
      },
    )
