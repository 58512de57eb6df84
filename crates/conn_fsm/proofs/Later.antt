-- SPDX-License-Identifier: MIT OR Apache-2.0
-- A plan may be done after time has passed: the planned row doesn't read the timers.
use Rattle.std.proofs.Common.{◌≡◌, ℕ, List, Option, Some, None, refl, sym, subst, ap}
use Rattle.conn_messages.specs.declared.out.Out.{Out}
use Rattle.conn_rules.specs.declared.input.Input.{Input}
use Rattle.conn_rules.specs.declared.input.Input.TheVariants as inputs
use Rattle.conn_rules.specs.declared.state.Stage.TheVariants.{Active, Preparing, Changing, Draining}
use Rattle.conn_rules.specs.declared.state.State.{State}
use Rattle.conn_rules.specs.declared.state.State.TheVariants.{WaitActivation, WaitEstablish, WaitConfirm, Live, Closed, Removed}
use Rattle.conn_rules.specs.Connection.{Connection}
use Rattle.conn_rules.specs.Steps.{Row}
use Rattle.conn_rules.specs.Table.{row_of, on_expiry, on_drain_expiry, on_station_down, on_switch_down}
use Rattle.conn_fsm.specs.Doing.{Closes, Commits, IsAsPlanned, IsPlanned, Plans, outs_in}
use Rattle.conn_fsm.proofs.Keeping.{committed}

abbrev later : ℕ → ℕ → Connection → Connection
later waited drained s = record s { waited = waited; drained = drained }

of_expiry : (state : State) (s : Connection) (waited drained : ℕ) → on_expiry state (later waited drained s) ≡ on_expiry state s
of_expiry WaitActivation s waited drained = refl
of_expiry WaitEstablish s waited drained = refl
of_expiry WaitConfirm s waited drained = refl
of_expiry (Live reference Active) s waited drained = refl
of_expiry (Live reference (Preparing target)) s waited drained = refl
of_expiry (Live reference (Changing target)) s waited drained = refl
of_expiry (Live reference Draining) s waited drained = refl
of_expiry (Closed clearing) s waited drained = refl
of_expiry Removed s waited drained = refl

of_drain_expiry : (state : State) (s : Connection) (waited drained : ℕ) →
    on_drain_expiry state (later waited drained s) ≡ on_drain_expiry state s
of_drain_expiry WaitActivation s waited drained = refl
of_drain_expiry WaitEstablish s waited drained = refl
of_drain_expiry WaitConfirm s waited drained = refl
of_drain_expiry (Live reference stage) s waited drained = refl
of_drain_expiry (Closed clearing) s waited drained = refl
of_drain_expiry Removed s waited drained = refl

of_station_down : (state : State) (s : Connection) (station waited drained : ℕ) →
    on_station_down state (later waited drained s) station ≡ on_station_down state s station
of_station_down WaitActivation s station waited drained = refl
of_station_down WaitEstablish s station waited drained = refl
of_station_down WaitConfirm s station waited drained = refl
of_station_down (Live reference stage) s station waited drained = refl
of_station_down (Closed clearing) s station waited drained = refl
of_station_down Removed s station waited drained = refl

of_switch_down : (state : State) (s : Connection) (waited drained : ℕ) →
    on_switch_down state (later waited drained s) ≡ on_switch_down state s
of_switch_down WaitActivation s waited drained = refl
of_switch_down WaitEstablish s waited drained = refl
of_switch_down WaitConfirm s waited drained = refl
of_switch_down (Live reference stage) s waited drained = refl
of_switch_down (Closed clearing) s waited drained = refl
of_switch_down Removed s waited drained = refl

same_row : (input : Input) (s : Connection) (waited drained : ℕ) →
    IsPlanned input →
    row_of (later waited drained s) input None ≡ row_of s input None
unfolding row_of
same_row inputs.Expiry s waited drained planned = of_expiry s.state s waited drained
same_row inputs.DrainExpiry s waited drained planned = of_drain_expiry s.state s waited drained
same_row (inputs.StationDown station) s waited drained planned = of_station_down s.state s station waited drained
same_row inputs.SwitchDown s waited drained planned = of_switch_down s.state s waited drained
same_row _ s waited drained planned = absurd planned

-- the same frames, and the same end
plans_later : (last : Option State) (made : List Out) (r : Option Row) (s : Connection) (waited drained : ℕ) →
    Plans made last r s →
    Plans made last r (later waited drained s)
plans_later (Some last) made (Some r) s waited drained plans = plans
plans_later None made None s waited drained plans = plans
plans_later (Some last) made None s waited drained plans = absurd plans.1
plans_later None made (Some r) s waited drained plans = absurd plans.1

plans_now : (input : Input) (last : Option State) (made : List Out) (was now : Connection) → IsPlanned input → IsAsPlanned was now →
    Plans made last (row_of was input None) was → Plans made last (row_of now input None) now
plans_now input last made was now planned as_planned plans =
    subst (λ (s : Connection). Plans made last (row_of s input None) s) (sym as_planned)
    (subst (λ (r : Option Row). Plans made last r (later now.waited now.drained was)) (sym (same_row input was now.waited now.drained planned))
    (plans_later last made (row_of was input None) was now.waited now.drained plans))

pub commits_later : (input : Input) (last : Option State) (made : List Out) (was now new : Connection) → IsPlanned input → IsAsPlanned was now →
    Plans made last (row_of was input None) was → Closes last now new → Commits (row_of now input None) now new made
commits_later input last made was now new planned as_planned plans closes =
    committed last made (row_of now input None) now new (plans_now input last made was now planned as_planned plans) closes

pub outs_later : (input : Input) (was now : Connection) →
    IsPlanned input →
    IsAsPlanned was now →
    outs_in (row_of now input None) now.number ≡ outs_in (row_of was input None) was.number
outs_later input was now planned as_planned =
    subst (λ (s : Connection). outs_in (row_of s input None) s.number ≡ outs_in (row_of was input None) was.number) (sym as_planned)
    (ap (λ (r : Option Row). outs_in r was.number) (same_row input was now.waited now.drained planned))
