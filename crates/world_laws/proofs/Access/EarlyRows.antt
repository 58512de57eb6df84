-- SPDX-License-Identifier: MIT OR Apache-2.0
-- The rows of a connection before its connection request.
use Rattle.world_laws.proofs.Prelude.{◌≡◌, ℕ, Bool, true, false, if◌then◌else◌, List, [], ◌∷◌, length, nat_le, ◌==◌, Option, Some, None}
use Rattle.world_laws.proofs.Prelude.{refl, sym, ap, ◌∙◌, subst, Channel, Place, complete_layer3, Input, State, WaitActivation, none-some}
use Rattle.world_laws.proofs.Prelude.{WaitEstablish, WaitConfirm, Removed, Connection, enter, is_at, Row, dropping, row}
use Rattle.world_laws.proofs.Prelude.{without_station, access, assign_immediately, row_if, Zero, INITIAL_LIMIT, same_Some, if_is, row_of}
use Rattle.world_laws.proofs.Prelude.{IsEarlyIn}
use Rattle.conn_rules.specs.declared.input.Input.TheVariants as inputs
use Rattle.controller_model.proofs.LifeLaws.FollowingTable.{row_by, row_is_by}

-- the channel is assigned, the switch is asked, or the connection is removed
pub data EarlyRow (s : Connection) (input : Input) (r : Row) : Type 0 where
  acked : s.state ≡ WaitActivation → r ≡ assign_immediately s → EarlyRow s input r
  asked : s.state ≡ WaitEstablish →
      (at : Place) (initial : List ℕ) →
      input ≡ inputs.EstablishIndication at Zero (Some initial) →
      is_at at s.serving ≡ true →
      r ≡ row (complete_layer3 s.serving initial ∷ []) (enter WaitConfirm s) →
      EarlyRow s input r
  gone : r.next.state ≡ Removed → EarlyRow s input r

row_if_keeps : {s : Connection} {input : Input} (b : Bool) (x r : Row) → x.next.state ≡ Removed → row_if b x ≡ Some r → EarlyRow s input r
row_if_keeps b x r over is = gone (ap (λ (y : Row). y.next.state) (sym (if_is b x r is).1) ∙ over)

some_is_early : {s : Connection} {input : Input} (x r : Row) → x.next.state ≡ Removed → Some x ≡ Some r → EarlyRow s input r
some_is_early x r over is = gone (ap (λ (y : Row). y.next.state) (same_Some _ _ (sym is)) ∙ over)

-- the initial message asks, where it isn't too long
access_row : (s : Connection) (at : Place) (message : Option (List ℕ)) (r : Row) →
    s.state ≡ WaitEstablish →
    is_at at s.serving ≡ true →
    r ≡ access message s →
    EarlyRow s (inputs.EstablishIndication at Zero message) r
access_row s at None r state here is = gone (ap (λ (y : Row). y.next.state) is)
access_row s at (Some initial) r state here is = by (nat_le (length initial) INITIAL_LIMIT) is where
  by : (b : Bool) →
      r ≡ (if b then row (complete_layer3 s.serving initial ∷ []) (enter WaitConfirm s) else dropping s) →
      EarlyRow s (inputs.EstablishIndication at Zero (Some initial)) r
  by true is = asked state at initial refl here is
  by false is = gone (ap (λ (y : Row). y.next.state) is)

activation_row : (s : Connection) (input : Input) (offer : Option Channel) (r : Row) →
    s.state ≡ WaitActivation →
    row_by WaitActivation s input offer ≡ Some r →
    EarlyRow s input r
unfolding row_by
activation_row s (inputs.ActivationAck at) offer r state fits = acked state (sym (if_is (is_at at s.serving) (assign_immediately s) r fits).1)
activation_row s (inputs.ActivationNack at) offer r state fits = row_if_keeps (is_at at s.serving) _ r refl fits
activation_row s inputs.Expiry offer r state fits = some_is_early _ r refl fits
activation_row s (inputs.StationDown station) offer r state fits = row_if_keeps (s.serving.station == station) (without_station station (dropping s)) r refl fits
activation_row s inputs.SwitchDown offer r state fits = some_is_early _ r refl fits
activation_row s _ offer r state fits = absurd (none-some r fits)

establish_row : (s : Connection) (input : Input) (offer : Option Channel) (r : Row) →
    s.state ≡ WaitEstablish →
    row_by WaitEstablish s input offer ≡ Some r →
    EarlyRow s input r
unfolding row_by
establish_row s (inputs.EstablishIndication at Zero message) offer r state fits =
    let own = if_is (is_at at s.serving) (access message s) r fits in
    access_row s at message r state own.0 (sym own.1)
establish_row s (inputs.ReleaseIndication at Zero) offer r state fits = row_if_keeps (is_at at s.serving) (dropping s) r refl fits
establish_row s (inputs.ConnectionFailure at) offer r state fits = row_if_keeps (is_at at s.serving) (dropping s) r refl fits
establish_row s (inputs.Dtap at Zero message) offer r state fits = row_if_keeps (is_at at s.serving) (dropping s) r refl fits
establish_row s inputs.Expiry offer r state fits = some_is_early _ r refl fits
establish_row s (inputs.StationDown station) offer r state fits = row_if_keeps (s.serving.station == station) (without_station station (dropping s)) r refl fits
establish_row s inputs.SwitchDown offer r state fits = some_is_early _ r refl fits
establish_row s _ offer r state fits = absurd (none-some r fits)

pub early_row : (s : Connection) (input : Input) (offer : Option Channel) (r : Row) →
    IsEarlyIn s.state →
    row_of s input offer ≡ Some r →
    EarlyRow s input r
early_row s input offer r early fits = by s.state refl early where
  fits_by : (state : State) → s.state ≡ state → row_by state s input offer ≡ Some r
  fits_by state is = subst (λ (x : State). row_by x s input offer ≡ Some r) is (sym (row_is_by s input offer) ∙ fits)

  by : (state : State) → s.state ≡ state → IsEarlyIn state → EarlyRow s input r
  by WaitActivation is early = activation_row s input offer r is (fits_by WaitActivation is)
  by WaitEstablish is early = establish_row s input offer r is (fits_by WaitEstablish is)
  by _ is early = absurd early
