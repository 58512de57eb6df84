-- SPDX-License-Identifier: MIT OR Apache-2.0
-- An input to a connection: whether a row fits, and with which offer.
use Rattle.controller.proofs.Prelude.{◌≡◌, Bool, true, false, [], Option, Some, None, refl, ap, Channel, Input, State, WaitActivation}
use Rattle.controller.proofs.Prelude.{WaitEstablish, WaitConfirm, Live, Closed, Removed, Connection, Row, Controller, Entry, Turn, turn}
use Rattle.controller.proofs.Prelude.{by_fitting, concerning_too}
use Rattle.std.specs.Option.{is_some}
use Rattle.conn_messages.specs.declared.channel.Place.{Place}
use Rattle.conn_rules.specs.declared.input.Input.TheVariants as inputs
use Rattle.conn_rules.specs.declared.state.Stage.TheVariants.{Active, Preparing, Changing, Draining}
use Rattle.conn_rules.specs.Connection.{is_at}
use Rattle.conn_rules.specs.Table.{on_activation_nack, row_if, row_of}
use Rattle.controller_model.specs.Controller.{ignoring}
use Rattle.controller_model.specs.Life.{concerning, row_in}
use Rattle.controller.specs.Doing.{by_offer, fits_in, fits_with}
use Rattle.controller.specs.Offers.{awaits}

row_fits : (c : Controller) (e : Entry) (r : Option Row) → is_some r ≡ true → by_fitting (ignoring c) e r c ≡ by_fitting (turn [] c) e r c
row_fits c e None fits = absurd (cc)
row_fits c e (Some r) fits = refl

row_misses : (c : Controller) (otherwise : Turn) (e : Entry) (r : Option Row) → is_some r ≡ false → by_fitting otherwise e r c ≡ otherwise
row_misses c otherwise e None misses = refl
row_misses c otherwise e (Some r) misses = absurd (cc)

pub fitting_concerns : (input : Input) (c : Controller) (o : Option Entry) →
    fits_in c input o ≡ true →
    concerning input c o ≡ concerning_too input c o
fitting_concerns input c None fits = absurd (cc)
fitting_concerns input c (Some e) fits = row_fits c e (row_in c e.connection input) fits

pub missing_concerns : (input : Input) (c : Controller) (o : Option Entry) → fits_in c input o ≡ false → concerning input c o ≡ ignoring c
missing_concerns input c None misses = refl
missing_concerns input c (Some e) misses = row_misses c (ignoring c) e (row_in c e.connection input) misses

pub missing_changes_nothing : (input : Input) (c : Controller) (o : Option Entry) →
    fits_in c input o ≡ false →
    concerning_too input c o ≡ turn [] c
missing_changes_nothing input c None misses = refl
missing_changes_nothing input c (Some e) misses = row_misses c (turn [] c) e (row_in c e.connection input) misses

-- ---- the offer that the controller makes

-- with this offer the same row fits
abbrev pub IsOfferedIn : Controller → Input → Option Channel → Option Entry → Type 0
IsOfferedIn c input offer o = (e : Entry) → o ≡ Some e → row_of e.connection input offer ≡ row_in c e.connection input

pub offered : (c : Controller) (input : Input) (offer : Option Channel) (o : Option Entry) →
    IsOfferedIn c input offer o →
    by_offer input offer c o ≡ concerning_too input c o
offered c input offer None same = refl
offered c input offer (Some e) same = ap (λ r. by_fitting (turn [] c) e r c) (same e refl)

pub offered_fits : (c : Controller) (input : Input) (offer : Option Channel) (o : Option Entry) →
    IsOfferedIn c input offer o →
    fits_with input offer o ≡ fits_in c input o
offered_fits c input offer None same = refl
offered_fits c input offer (Some e) same = ap (λ r. is_some r) (same e refl)

-- ---- CHANNEL ACTIVATION NACK

is_some_if : (b : Bool) (r : Row) → is_some (row_if b r) ≡ b
is_some_if true r = refl
is_some_if false r = refl

nack_fits : (st : State) (s : Connection) (at : Place) → is_some (on_activation_nack st s at None) ≡ awaits st s at
nack_fits WaitActivation s at = is_some_if (is_at at s.serving) _
nack_fits WaitEstablish s at = refl
nack_fits WaitConfirm s at = refl
nack_fits (Live reference Active) s at = refl
nack_fits (Live reference (Preparing target)) s at = is_some_if (is_at at target.channel) _
nack_fits (Live reference (Changing target)) s at = refl
nack_fits (Live reference Draining) s at = refl
nack_fits (Closed clearing) s at = refl
nack_fits Removed s at = refl

pub nack_is_awaited : (s : Connection) (at : Place) → is_some (row_of s (inputs.ActivationNack at) None) ≡ awaits s.state s at
unfolding row_of
nack_is_awaited s at = nack_fits s.state s at
