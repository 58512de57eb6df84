-- SPDX-License-Identifier: MIT OR Apache-2.0
-- The entries that wait for a station, in parts. At the beginning every channel agrees with any
-- ownership.
use Rattle.world_model.proofs.Prelude.{◌≡◌, ℕ, zero, suc, ◌+◌, ◌-◌, ◌==◌, ◌&&◌, not, ◌≤◌, Bool, true, false, if◌then◌else◌, List, [], ◌∷◌}
use Rattle.world_model.proofs.Prelude.{◌++◌, length, replicate, slice_index_or, Option, Some, refl, sym, ap, ◌∙◌, subst, Place}
use Rattle.world_model.proofs.Prelude.{channel_state, place_at, ChannelState, Free, InUse, CHANNEL_NUMBERS, RrMessage, ImmediateAssignment}
use Rattle.world_model.proofs.Prelude.{RrFault, rr_reading, activation_ack, Rsl, DataRequest, ImmediateAssignCommand, ChannelActivation}
use Rattle.world_model.proofs.Prelude.{Parameters, free_channels, OutboxEntry, Tenure, nothing, acknowledgement, active_all, due}
use Rattle.world_model.proofs.Prelude.{is_active_then, rsl_in, AssignsBy, TakesBy, TakesFirstBy, Actors, is_active_at, new_actors}
use Rattle.world_model.proofs.Prelude.{outbox_of, spot_at}
use Rattle.std.specs.Prelude.{Result, Ok}
use Rattle.world_model.specs.OwnerLines.{AllAgree, AreFitting, AssignsIn, IsOwed, FitsTenure, is_in_use, tenure_all, tenure_then, to_arrive}
use Rattle.world_model.proofs.Outboxes.{both_empty, new_outbox}
use Rattle.world_model.proofs.Piping.{new_end}

-- ---- in parts

pub tenure-append : (channel : ℕ) (active : Bool) (tenure : ℕ) (xs ys : List OutboxEntry) →
    tenure_all channel active tenure (xs ++ ys) ≡ tenure_all channel (active_all channel active xs) (tenure_all channel active tenure xs) ys
tenure-append channel active tenure [] ys = refl
tenure-append channel active tenure (x ∷ xs) ys = tenure-append channel (is_active_then channel active (rsl_in x.out.frame)) (tenure_then channel active tenure (rsl_in x.out.frame)) xs ys

pub fitting_append : (owner : Tenure → ℕ) (at : Place) (active : Bool) (tenure : ℕ) (xs ys : List OutboxEntry) →
    AreFitting owner at active tenure xs →
    AreFitting owner at (active_all at.number active xs) (tenure_all at.number active tenure xs) ys →
    AreFitting owner at active tenure (xs ++ ys)
fitting_append owner at active tenure [] ys fits rest = rest
fitting_append owner at active tenure (x ∷ xs) ys fits rest = (
  fits.0,
  fitting_append owner at (is_active_then at.number active (rsl_in x.out.frame)) (tenure_then at.number active tenure (rsl_in x.out.frame)) xs ys fits.1 rest,
)

pub fitting_behind : (owner : Tenure → ℕ) (at : Place) (active : Bool) (tenure : ℕ) (xs ys : List OutboxEntry) →
    AreFitting owner at active tenure (xs ++ ys) →
    AreFitting owner at (active_all at.number active xs) (tenure_all at.number active tenure xs) ys
fitting_behind owner at active tenure [] ys fits = fits
fitting_behind owner at active tenure (x ∷ xs) ys fits = fitting_behind owner at (is_active_then at.number active (rsl_in x.out.frame)) (tenure_then at.number active tenure (rsl_in x.out.frame)) xs ys fits.1

-- where no acknowledgement is due, no tenure begins
due_none : (channel : ℕ) (active : Bool) (tenure : ℕ) (o : Option Rsl) →
    acknowledgement channel active o ≡ [] →
    tenure_then channel active tenure o ≡ tenure
due_none channel active tenure (Some (ChannelActivation a)) none = by ((a.channel == channel) && not active) none where
  by : (b : Bool) → (if b then activation_ack channel ∷ [] else []) ≡ [] → (if b then tenure + 1 else tenure) ≡ tenure
  by true is = absurd cc
  by false is = refl
due_none channel active tenure _ none = refl

pub nothing_is_due : (channel : ℕ) (active : Bool) (tenure : ℕ) (entries : List OutboxEntry) →
    due channel active entries ≡ [] →
    tenure_all channel active tenure entries ≡ tenure
nothing_is_due channel active tenure [] none = refl
nothing_is_due channel active tenure (x ∷ xs) none =
    let o : Option Rsl = rsl_in x.out.frame in
    let parts = both_empty (acknowledgement channel active o) (due channel (is_active_then channel active o) xs) (sym none) in
    nothing_is_due channel (is_active_then channel active o) (tenure_then channel active tenure o) xs parts.1 ∙ due_none channel active tenure o parts.0

-- ---- what a station takes is by the owner of its tenures

assigns_by : (owner : Tenure → ℕ) (w : Actors) (station : ℕ) (r : Result RrMessage RrFault) →
    ((number : ℕ) → AssignsIn owner (place_at station number) (spot_at w (place_at station number)).tenure r) →
    AssignsBy owner w station r
assigns_by owner w station (Ok (ImmediateAssignment channel request advance)) fits = fits channel.channel.0 refl
assigns_by owner w station _ fits = tt

takes_by : (owner : Tenure → ℕ) (w : Actors) (station : ℕ) (target : Option Tenure) (o : Option Rsl) →
    ((number : ℕ) → FitsTenure owner (place_at station number) (is_active_at w (place_at station number)) (spot_at w (place_at station number)).tenure target o) →
    TakesBy owner w station target o
takes_by owner w station target (Some (ImmediateAssignCommand i)) fits = assigns_by owner w station (rr_reading i.information) fits
takes_by owner w station target (Some (DataRequest d)) fits = fits d.channel refl
takes_by owner w station target _ fits = tt

takes_first : (owner : Tenure → ℕ) (w : Actors) (station : ℕ) (entries : List OutboxEntry) →
    ((number : ℕ) → AreFitting owner (place_at station number) (is_active_at w (place_at station number)) (spot_at w (place_at station number)).tenure entries) →
    TakesFirstBy owner w station entries
takes_first owner w station [] fits = tt
takes_first owner w station (first ∷ others) fits = takes_by owner w station first.target (rsl_in first.out.frame) (λ number. (fits number).0)

-- So what the station takes agrees with the ownership.
pub takes_agreed : (settings : Parameters) (owner : Tenure → ℕ) (w : Actors) (station : ℕ) →
    1 ≤ station →
    station ≤ length settings.cells →
    AllAgree settings owner w →
    TakesFirstBy owner w station (outbox_of w station)
takes_agreed settings owner w station least most agree = takes_first owner w station (outbox_of w station) (λ number. (agree (place_at station number) least most).line)

-- ---- at the beginning

all_free : (count number : ℕ) → slice_index_or (replicate count Free) number Free ≡ Free
all_free zero number = refl
all_free (suc count) zero = refl
all_free (suc count) (suc number) = all_free count number

rows_free : (count station number : ℕ) → slice_index_or (slice_index_or (replicate count free_channels) station []) number Free ≡ Free
rows_free zero station number = refl
rows_free (suc count) zero number = all_free CHANNEL_NUMBERS number
rows_free (suc count) (suc station) number = rows_free count station number

pub new_free : (settings : Parameters) (at : Place) → channel_state (new_actors settings).controller at ≡ Free
new_free settings at = rows_free (length settings.cells + 1) at.station at.number

free_unused : (number : ℕ) → Free ≡ InUse number → ⊥
free_unused number is = absurd cc

pub AllAgree-new : (settings : Parameters) (owner : Tenure → ℕ) → AllAgree settings owner (new_actors settings)
AllAgree-new settings owner at least most =
    let w : Actors = new_actors settings in
    let empty : outbox_of w at.station ≡ [] = new_outbox (length settings.cells + 1) at.station in
    let start = new_end at.number 1 (at.station - 1) settings.cells in
    let silent : to_arrive w at ≡ [] = rw (start.0, empty) refl in
    let free : channel_state w.controller at ≡ Free = new_free settings at in
    record {
      line = subst (AreFitting owner at (is_active_at w at) (spot_at w at).tenure) (sym empty) tt;
      way = λ _. record {
        lost = [];
        owed = subst (λ (state : ChannelState). IsOwed at.number state (to_arrive w at ++ [])) (sym free) (subst (λ (xs : List Rsl). IsOwed at.number Free (xs ++ [])) (sym silent) nothing);
        all = λ _. refl;
        active = λ _. ap (active_all at.number (is_active_at w at)) empty ∙ start.1 ∙ sym (ap is_in_use free);
      };
      own = λ number mobile _ used _ _. absurd (free_unused number (sym free ∙ used));
    }
