-- SPDX-License-Identifier: MIT OR Apache-2.0
-- A judged connection after each input: it is prepared for the row, if the connection is open after
-- the row.
use Rattle.std.proofs.Common.{◌≡◌, ℕ, ◌&&◌, Bool, true, false, Option, Some, None, refl, sym, subst}
use Rattle.std.proofs.lemmas.Bool.{cond-true}
use Rattle.std.specs.Prelude.{if◌then◌else◌}
use Rattle.std.specs.Option.{is_some}
use Rattle.conn_messages.specs.declared.channel.Change.{Change}
use Rattle.conn_messages.specs.declared.channel.Channel.{Channel}
use Rattle.conn_rules.specs.Connection.{Connection, drain_at, is_at}
use Rattle.conn_rules.specs.declared.input.Input.TheVariants as inputs
use Rattle.conn_rules.specs.Roles.{RoleStep, changes_by, is_target_at, leaves_at, roles_of, step_by, target_role}
use Rattle.conn_rules.specs.Roles.RoleStep.{leaves, reverts, unchanged}
use Rattle.conn_rules.specs.Steps.{Row}
use Rattle.conn_rules.specs.Table.{failure, on_failure, on_release_ack, release_in, row_if, row_of, same_change}
use Rattle.conn_rules.specs.declared.state.Stage.{Stage}
use Rattle.conn_rules.specs.declared.state.Stage.TheVariants.{Changing}
use Rattle.conn_rules.specs.declared.state.State.{State}
use Rattle.conn_rules.specs.declared.state.State.TheVariants.{Live}
use Rattle.dtap_codec.specs.declared.rr.RrCause.{RrCause}
use Rattle.run_judge.specs.declared.said.StationChannel.{StationChannel}
use Rattle.run_judge.specs.Connection.{completed, failed, old_rank, released}
use Rattle.run_judge.specs.ConnectionState.{ConnectionState}
use Rattle.judge_laws.proofs.Agreeing.{prepared_unchanged}
use Rattle.judge_laws.proofs.Arrivals.{arrived_plain}
use Rattle.judge_laws.proofs.Leaving.{prepared_leaves}
use Rattle.judge_laws.proofs.Moves.{not_completed, prepared_completes}
use Rattle.judge_laws.proofs.Stays.{prepared_reverts}
use Rattle.judge_laws.specs.Agreeing.{Agrees, IsOpenRow, Prepared}
use Rattle.judge_laws.specs.Places.{spot}

-- ---- COMPLETE

pub heard_complete : (s : Connection) (offer : Option Channel) (r : Row) (c : ConnectionState) (at : StationChannel) (change : Change) (cause : RrCause) →
    IsOpenRow s (inputs.Complete (spot at) change cause) offer r →
    Agrees s c →
    Prepared r (completed at change c)
heard_complete s offer r c at change cause row agrees = by (is_target_at (spot at) (roles_of s).target && changes_by change (roles_of s).target) refl
  where
    by : (b : Bool) →
        (is_target_at (spot at) (roles_of s).target && changes_by change (roles_of s).target) ≡ b →
        Prepared r (completed at change c)
    by true is = prepared_completes s offer r c at change cause row (rw is refl) agrees
    by false is =
        let still : step_by (inputs.Complete (spot at) change cause) (roles_of s) ≡ unchanged = rw is refl in
        subst (Prepared r) (sym (not_completed s c at change cause agrees still)) (prepared_unchanged s (inputs.Complete (spot at) change cause) offer r c row still (λ future. tt) (arrived_plain s (inputs.Complete (spot at) change cause) c tt agrees))

-- no row fits a COMPLETE that doesn't count, and the judge leaves it too
pub missed_complete : (s : Connection) (c : ConnectionState) (at : StationChannel) (change : Change) (cause : RrCause) →
    step_by (inputs.Complete (spot at) change cause) (roles_of s) ≡ unchanged →
    Agrees s c →
    Agrees s (completed at change c)
missed_complete s c at change cause still agrees = subst (Agrees s) (sym (not_completed s c at change cause agrees still)) agrees

-- ---- RF CHANNEL RELEASE ACK: it counts on an old channel

abbrev pub released_if : Bool → StationChannel → ConnectionState → ConnectionState
released_if true at c = released at c
released_if false at c = c

abbrev pub heard_release : StationChannel → ConnectionState → ConnectionState
heard_release at c = released_if (is_some (old_rank at c.former)) at c

release_row : (s : Connection) (offer : Option Channel) (r : Row) (at : StationChannel) →
    row_of s (inputs.ReleaseAck (spot at)) offer ≡ Some r →
    (place : ℕ) × (step_by (inputs.ReleaseAck (spot at)) (roles_of s) ≡ leaves place)
unfolding row_of
release_row s offer r at fits = by s.state fits
  where
    in_live : (o : Option ℕ) (reference : ℕ) (stage : Stage) →
        release_in o reference stage offer s ≡ Some r →
        (place : ℕ) × (leaves_at o ≡ leaves place)
    in_live (Some place) reference stage fits = (place, refl)
    in_live None reference stage fits = absurd (let none : (let o : Option Row = None in o) ≡ Some r = fits in cc)

    by : (state : State) →
        on_release_ack state s (spot at) offer ≡ Some r →
        (place : ℕ) × (step_by (inputs.ReleaseAck (spot at)) (roles_of s) ≡ leaves place)
    by (Live reference stage) fits = in_live (drain_at (spot at) s.draining) reference stage fits
    by _ fits = absurd (let none : (let o : Option Row = None in o) ≡ Some r = fits in cc)

-- with its step known
release_goes : (s : Connection) (offer : Option Channel) (r : Row) (c : ConnectionState) (at : StationChannel) →
    IsOpenRow s (inputs.ReleaseAck (spot at)) offer r →
    Agrees s c →
    Prepared r (released at c)
release_goes s offer r c at row agrees = let step = release_row s offer r at row.fits in prepared_leaves s offer r c at step.0 row step.1 agrees

-- ---- FAILURE

failure_row : (s : Connection) (offer : Option Channel) (r : Row) (at : StationChannel) (change : Change) (cause : RrCause) →
    row_of s (inputs.Failure (spot at) change cause) offer ≡ Some r →
    step_by (inputs.Failure (spot at) change cause) (roles_of s) ≡ reverts
unfolding row_of
failure_row s offer r at change cause fits = by s.state fits
  where
    where_true : (b : Bool) (q : Row) → row_if b q ≡ Some r → b ≡ true
    where_true true q fits = refl
    where_true false q fits = absurd (let none : (let o : Option Row = None in o) ≡ Some r = fits in cc)

    by : (state : State) →
        on_failure state s (spot at) change cause.0 offer ≡ Some r →
        (let step : RoleStep = if (is_at (spot at) s.serving && changes_by change (target_role state)) then reverts else unchanged in step) ≡ reverts
    by (Live reference (Changing target)) fits =
        let counts : (is_at (spot at) s.serving && same_change change target.change) ≡ true = where_true (is_at (spot at) s.serving && same_change change target.change) (failure reference change target.channel cause.0 offer s) fits in
        cond-true _ _ _ counts
    by _ fits = absurd (let none : (let o : Option Row = None in o) ≡ Some r = fits in cc)

pub heard_failure : (s : Connection) (offer : Option Channel) (r : Row) (c : ConnectionState) (at : StationChannel) (change : Change) (cause : RrCause) →
    IsOpenRow s (inputs.Failure (spot at) change cause) offer r →
    Agrees s c →
    Prepared r (failed at change c)
heard_failure s offer r c at change cause row agrees = prepared_reverts s offer r c at change cause row (failure_row s offer r at change cause row.fits) agrees

pub heard_release_row : (s : Connection) (offer : Option Channel) (r : Row) (c : ConnectionState) (at : StationChannel) →
    IsOpenRow s (inputs.ReleaseAck (spot at)) offer r →
    Agrees s c →
    Prepared r (released at c)
heard_release_row s offer r c at row agrees = release_goes s offer r c at row agrees
