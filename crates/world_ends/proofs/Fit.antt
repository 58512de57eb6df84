-- SPDX-License-Identifier: MIT OR Apache-2.0
-- Each call of a mobile keeps its invariant.
use Rattle.std.proofs.Common.{◌≡◌, ℕ, ◌<◌, ◌≤◌, arith, Bool, true, false, if◌then◌else◌, List, Option, Some, None, is_some, Result, Ok, Err, OnOk, OnErr, refl, sym, subst}
use Rattle.std.specs.Option.{is_none}
use Rattle.conn_messages.specs.declared.channel.Change.{Change}
use Rattle.conn_messages.specs.declared.channel.Change.TheVariants.{Assignment, Handover}
use Rattle.dtap_codec.specs.Message.{is_flow_message}
use Rattle.dtap_codec.specs.declared.sapi.Sapi.{Sapi}
use Rattle.dtap_codec.specs.declared.sapi.Sapi.TheVariants.{Zero, Three}
use Rattle.mobile_end.specs.declared.fault.MobileFault.{MobileFault}
use Rattle.mobile_end.specs.declared.mobile_end.Place.{Place}
use Rattle.mobile_end.specs.declared.mobile_end.Place.TheVariants as places
use Rattle.mobile_end.specs.DataLink.{waits}
use Rattle.mobile_end.specs.DataLinkState.{DataLinkState}
use Rattle.mobile_end.specs.Mobile.{after_arrival, after_number, after_queue, link_of, refusal_of_send, with_link}
use Rattle.mobile_end.specs.MobileState.{MobileState}
use Rattle.rsl_codec.specs.Rsl.{IsL3}
use Rattle.world_model.specs.declared.seat.Seat.{Seat}
use Rattle.world_model.specs.declared.seat.Seat.TheVariants.{Asking, On, Moving, Gone}
use Rattle.world_model.specs.declared.seat.Tenure.{Tenure}
use Rattle.world_model.specs.Mobiles.{complete, failure}
use Rattle.world_model.specs.Sized.{HasSized}
use Rattle.world_model.proofs.Sizing.{arrival_sized, queue_sized, sendable_sized}
use Rattle.world_ends.specs.Mobiles.{is_moving}
use Rattle.world_ends.specs.Placed.{IsFit, IsPlaced}

place-with_link : (mobile : MobileState) (sapi : Sapi) (link : DataLinkState) → (with_link mobile sapi link).place ≡ mobile.place
place-with_link mobile Zero link = refl
place-with_link mobile Three link = refl

place-queue : (mobile : MobileState) (sapi : Sapi) (message : List ℕ) → (after_queue mobile sapi message).place ≡ mobile.place
place-queue mobile sapi message = by_flow (is_flow_message message) where
  by_flow : (b : Bool) →
      (if b then after_number mobile message else with_link mobile sapi (waits (link_of mobile sapi) message)).place ≡ mobile.place
  by_flow true = refl
  by_flow false = place-with_link mobile sapi (waits (link_of mobile sapi) message)

none_by : (o : Option MobileFault) → is_some o ≡ false → is_none o ≡ true
none_by None is = refl
none_by (Some fault) is = absurd cc

pub sent_fit : (r : Result (Unit {0}) MobileFault) (seat : Seat) (old new : MobileState) (sapi : Sapi) (message : List ℕ) → IsFit seat old → is_some (refusal_of_send old sapi message) ≡ false
    → OnOk r (new ≡ after_queue old sapi message) → OnErr r (new ≡ old) → IsFit seat new
sent_fit (Ok done) seat old new sapi message fit may ok err = subst (IsFit seat) (sym ok) (record {
  placed = subst (IsPlaced seat) (sym (place-queue old sapi message)) fit.placed;
  sized = queue_sized old sapi message (sendable_sized old sapi message (none_by (refusal_of_send old sapi message) may)) fit.sized;
})
sent_fit (Err fault) seat old new sapi message fit may ok err = subst (IsFit seat) (sym err) fit

pub moving_placed : (seat : Seat) (place : Place) → is_moving seat ≡ true → IsPlaced seat place → place ≡ places.Moving
moving_placed (Moving from command) place is placed = placed
moving_placed Asking place is placed = absurd cc
moving_placed (On tenure command) place is placed = absurd cc
moving_placed Gone place is placed = absurd cc

pub arrived_fit : (seat : Seat) (old new : MobileState) (tenure : Tenure) (control : List ℕ) →
    IsL3 (Some control) →
    HasSized old →
    seat ≡ On tenure None →
    new ≡ after_arrival old control →
    IsFit seat new
arrived_fit seat old new tenure control l3 sized on is =
    subst (λ (s : Seat). IsFit s new) (sym on) (subst (IsFit (On tenure None)) (sym is) (record { placed = tt; sized = arrival_sized old control l3 sized }))

three_octets : (0 < 3) × (3 ≤ 251)
three_octets = (omega arith, omega arith)

pub complete_l3 : (change : Change) → IsL3 (Some (complete change))
complete_l3 Assignment = three_octets
complete_l3 Handover = three_octets

pub failure_l3 : (change : Change) → IsL3 (Some (failure change))
failure_l3 Assignment = three_octets
failure_l3 Handover = three_octets
