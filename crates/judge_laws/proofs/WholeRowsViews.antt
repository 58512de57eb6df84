-- SPDX-License-Identifier: MIT OR Apache-2.0
-- Lemmas: how the messages of a row change the judge's view of a channel, and the channel's state
-- in the controller.
use Rattle.std.proofs.Common.{◌≡◌, ◌≢◌, ℕ, Bool, true, false, List, [], ◌∷◌, Option, Some, None, refl, sym, ap, ◌∙◌, inl, inr, fold}
use Rattle.std.proofs.lemmas.Bool.{cases_Bool, cond-false, cond-true, true≢false}
use Rattle.std.specs.List.{AllByRecursion}
use Rattle.std.specs.Prelude.{if◌then◌else◌}
use Rattle.conn_messages.specs.declared.channel.Place.{Place}
use Rattle.conn_messages.specs.declared.message.Message.{Message}
use Rattle.conn_messages.specs.declared.message.Message.TheVariants.{Station, Data, ReleaseComplete, Request}
use Rattle.controller_model.specs.declared.channel_state.ChannelState.{ChannelState}
use Rattle.controller_model.specs.declared.channel_state.ChannelState.TheVariants.{Free, InUse, Releasing}
use Rattle.controller_model.specs.Controller.{channels_after, holder, place_at, state_in, with_state}
use Rattle.controller_model.proofs.LifeLaws.Places.{is_there, set_or_not, state_here, state_else}
use Rattle.rsl_codec.specs.declared.rsl.Rsl.TheVariants as rsl
use Rattle.run_judge.specs.declared.channels.ChannelView.{ChannelView}
use Rattle.run_judge.specs.declared.channels.ChannelView.TheVariants as views
use Rattle.run_judge.specs.declared.said.StationChannel.{StationChannel}
use Rattle.run_judge.specs.Channels.{view_at}
use Rattle.run_judge.specs.Connection.{is_same}
use Rattle.run_judge.specs.Judging.{Judging, after, given_up}
use Rattle.run_judge.specs.Reading.{channel_at}
use Rattle.judge_laws.proofs.Putting.{IsElsewhere}
use Rattle.judge_laws.proofs.Ranks.{is_itself, same_is}
use Rattle.judge_laws.proofs.Views.{view_same}
use Rattle.judge_laws.specs.Places.{spot}
use Rattle.judge_laws.specs.Saying.{reference_in, said_of}

-- ---- the judge's view

-- of a channel that is released: a connection's remains its own
abbrev pub released_view : ChannelView → ChannelView
released_view (views.Activated reference) = views.Unknown
released_view (views.Opened opening) = views.Unknown
released_view view = view

abbrev pub view_by : StationChannel → Message → ChannelView → ChannelView
view_by at (Station station (rsl.ChannelActivation a)) view = if is_same (channel_at station a.channel) at then views.Activated (reference_in a.reference) else view
view_by at (Station station (rsl.RfChannelRelease channel)) view = if is_same (channel_at station channel) at then released_view view else view
view_by at _ view = view

-- one message after the other
abbrev pub views_by : StationChannel → List Message → ChannelView → ChannelView
views_by at [] view = view
views_by at (m ∷ ms) view = views_by at ms (view_by at m view)

released_at : (at : StationChannel) (view : ChannelView) (j : Judging) →
    view_at j.channels at ≡ view →
    view_at (given_up view at j).channels at ≡ released_view view
released_at at (views.Activated reference) j is = view_same at views.Unknown j.channels
released_at at (views.Opened opening) j is = view_same at views.Unknown j.channels
released_at at views.Unknown j is = is
released_at at (views.Owned reference number) j is = is

-- where what is said of another channel leaves the view
pub view_one : (n frame : ℕ) (m : Message) (j : Judging) (at : StationChannel) →
    (IsElsewhere at m → view_at (after frame (said_of n m) j).channels at ≡ view_at j.channels at) →
    view_at (after frame (said_of n m) j).channels at ≡ view_by at m (view_at j.channels at)
view_one n frame (Station station (rsl.ChannelActivation a)) j at still = elim (cases_Bool (is_same (channel_at station a.channel) at)) [
  | inl here ↦
      let place : StationChannel = channel_at station a.channel in
      let next : Judging = after frame (said_of n (Station station (rsl.ChannelActivation a))) j in
      ap (view_at next.channels) (sym (same_is place at here)) ∙ view_same place (views.Activated (reference_in a.reference)) j.channels ∙ sym (cond-true _ _ _ here)
  | inr away ↦ still away ∙ sym (cond-false _ _ _ away)
]
view_one n frame (Station station (rsl.RfChannelRelease channel)) j at still = elim (cases_Bool (is_same (channel_at station channel) at)) [
  | inl here ↦
      let place : StationChannel = channel_at station channel in
      let next : Judging = after frame (said_of n (Station station (rsl.RfChannelRelease channel))) j in
      ap (view_at next.channels) (sym (same_is place at here)) ∙ released_at place (view_at j.channels place) j refl
      ∙ ap (λ (x : StationChannel). released_view (view_at j.channels x)) (same_is place at here) ∙ sym (cond-true _ _ _ here)
  | inr away ↦ still away ∙ sym (cond-false _ _ _ away)
]
view_one n frame (Station station x) j at still = still tt
view_one n frame (Request message) j at still = still tt
view_one n frame (Data destination message) j at still = still tt
view_one n frame (ReleaseComplete destination) j at still = still tt

-- ---- a channel that no message is for

one_elsewhere : (at : StationChannel) (m : Message) (view : ChannelView) → IsElsewhere at m → view_by at m view ≡ view
one_elsewhere at (Station station (rsl.ChannelActivation a)) view away = cond-false _ _ _ away
one_elsewhere at (Station station (rsl.RfChannelRelease channel)) view away = cond-false _ _ _ away
one_elsewhere at (Station station x) view away = refl
one_elsewhere at (Request message) view away = refl
one_elsewhere at (Data destination message) view away = refl
one_elsewhere at (ReleaseComplete destination) view away = refl

pub all_elsewhere : (at : StationChannel) (ms : List Message) (view : ChannelView) →
    AllByRecursion (IsElsewhere at) ms →
    views_by at ms view ≡ view
all_elsewhere at [] view away = refl
all_elsewhere at (m ∷ ms) view away = ap (views_by at ms) (one_elsewhere at m view away.0) ∙ all_elsewhere at ms view away.1

-- ---- a channel that isn't activated

abbrev pub IsUnopened : StationChannel → Message → Type 0
IsUnopened at (Station station (rsl.ChannelActivation a)) = is_same (channel_at station a.channel) at ≡ false
IsUnopened at _ = Unit {0}

either_owned : (b : Bool) (view : ChannelView) (n number : ℕ) →
    view ≡ views.Owned n number →
    (if b then released_view view else view) ≡ views.Owned n number
either_owned true view n number is = ap released_view is
either_owned false view n number is = is

one_owned : (at : StationChannel) (m : Message) (view : ChannelView) (n number : ℕ) →
    IsUnopened at m →
    view ≡ views.Owned n number →
    view_by at m view ≡ views.Owned n number
one_owned at (Station station (rsl.ChannelActivation a)) view n number un is = cond-false _ _ _ un ∙ is
one_owned at (Station station (rsl.RfChannelRelease channel)) view n number un is = either_owned (is_same (channel_at station channel) at) view n number is
one_owned at (Station station x) view n number un is = is
one_owned at (Request message) view n number un is = is
one_owned at (Data destination message) view n number un is = is
one_owned at (ReleaseComplete destination) view n number un is = is

-- a connection's remains its own
pub all_owned : (at : StationChannel) (ms : List Message) (view : ChannelView) (n number : ℕ) →
    AllByRecursion (IsUnopened at) ms →
    view ≡ views.Owned n number →
    views_by at ms view ≡ views.Owned n number
all_owned at [] view n number un is = is
all_owned at (m ∷ ms) view n number un is = all_owned at ms (view_by at m view) n number un.1 (one_owned at m view n number un.0 is)

-- ---- the controller's state of the channel, beside it

abbrev pub Channels : Type 0
Channels = List (List ChannelState)

-- a channel that is another connection's behind these messages isn't touched by them
pub else_untouched : (n m : ℕ) (at : StationChannel) (channels : Channels) (ms : List Message) →
    m ≢ n →
    holder (state_in (fold (channels_after n) channels ms) (spot at)) ≡ Some m →
    AllByRecursion (IsElsewhere at) ms
else_untouched n m at channels ms differ held = (walk channels ms held).0
  where
    not_mine : (state : ChannelState) (o : Option ℕ) → holder state ≡ o → o ≡ Some n → holder state ≡ Some m → ⊥
    not_mine state o is own other = differ (of (sym other ∙ is ∙ own))
      where
        of : (let a : Option ℕ = Some m in a) ≡ Some n → m ≡ n
        of same = cc

    order : (station number : ℕ) (state : ChannelState) (before : Channels) →
        holder state ≡ Some n →
        holder (state_in (with_state (place_at station number) state before) (spot at)) ≡ Some m →
        (is_same (channel_at station number) at ≡ false) × (holder (state_in before (spot at)) ≡ Some m)
    order station number state before own held = elim (set_or_not before (place_at station number) (spot at) state) [
      | inl now ↦ absurd (not_mine state (holder state) refl own (ap holder (sym now) ∙ held))
      | inr same ↦ elim (cases_Bool (is_same (channel_at station number) at)) [
        | inr away ↦ (away, ap holder (sym same) ∙ held)
        | inl here ↦ absurd (never station number state before here own held (ap holder (sym same) ∙ held))
      ]
    ]
      where
        some_free : (at_place at_spot : ChannelState) → holder at_spot ≡ holder at_place → at_place ≡ Free → holder at_spot ≡ Some m → ⊥
        some_free at_place at_spot same free was = (let none : None ≡ Some m = sym (ap holder free) ∙ sym same ∙ was in absurd cc)

        never : (station number : ℕ) (state : ChannelState) (before : Channels) →
            is_same (channel_at station number) at ≡ true →
            holder state ≡ Some n →
            holder (state_in (with_state (place_at station number) state before) (spot at)) ≡ Some m →
            holder (state_in before (spot at)) ≡ Some m →
            ⊥
        never station number state before here own held was =
            let is : spot at ≡ place_at station number = ap spot (sym (same_is (channel_at station number) at here)) in
            let there = is_there before (place_at station number) (λ free. some_free (state_in before (place_at station number)) (state_in before (spot at)) (ap (λ (p : Place). holder (state_in before p)) is) free was) in
            not_mine state (holder state) refl own (ap holder (sym (state_here before (place_at station number) state there)) ∙ ap (λ (p : Place). holder (state_in (with_state (place_at station number) state before) p)) (sym is) ∙ held)

    walk : (before : Channels) (ms : List Message) →
        holder (state_in (fold (channels_after n) before ms) (spot at)) ≡ Some m →
        AllByRecursion (IsElsewhere at) ms × (holder (state_in before (spot at)) ≡ Some m)
    walk before [] held = (tt, held)
    walk before (Station station (rsl.ChannelActivation a) ∷ ms) held =
        let rest = walk (with_state (place_at station a.channel) (InUse n) before) ms held in
        let one = order station a.channel (InUse n) before refl rest.1 in
        ((one.0, rest.0), one.1)
    walk before (Station station (rsl.RfChannelRelease channel) ∷ ms) held =
        let rest = walk (with_state (place_at station channel) (Releasing n) before) ms held in
        let one = order station channel (Releasing n) before refl rest.1 in
        ((one.0, rest.0), one.1)
    walk before (Station station x ∷ ms) held = (let rest = walk before ms held in ((tt, rest.0), rest.1))
    walk before (Request message ∷ ms) held = (let rest = walk before ms held in ((tt, rest.0), rest.1))
    walk before (Data destination message ∷ ms) held = (let rest = walk before ms held in ((tt, rest.0), rest.1))
    walk before (ReleaseComplete destination ∷ ms) held = (let rest = walk before ms held in ((tt, rest.0), rest.1))

-- ---- whose a channel is: what the judge says agrees with the controller

-- an owner that the judge has for a channel in use is who uses it
abbrev pub IsOwners : StationChannel → Channels → ChannelView → Type 0
IsOwners at channels view = (n m number : ℕ) → state_in channels (spot at) ≡ InUse n → view ≡ views.Owned m number → m ≡ n

place_differs : (at : StationChannel) (station number : ℕ) →
    is_same (channel_at station number) at ≡ false →
    spot at ≢ place_at station number
place_differs at station number away same = true≢false (sym (ap (λ (x : Place). is_same (channel_at station number) (channel_at x.station x.number)) same ∙ is_itself (channel_at station number)) ∙ away)

abbrev IsNobody : ChannelView → Type 0
IsNobody (views.Owned reference number) = ⊥
IsNobody view = Unit {0}

not_owned : {A : Type 0} (view : ChannelView) (m number : ℕ) → IsNobody view → view ≡ views.Owned m number → A
not_owned views.Unknown m number nobody is = absurd cc
not_owned (views.Activated reference) m number nobody is = absurd cc
not_owned (views.Opened opening) m number nobody is = absurd cc
not_owned (views.Owned reference k) m number nobody is = absurd nobody

released_back : (view : ChannelView) (m number : ℕ) → released_view view ≡ views.Owned m number → view ≡ views.Owned m number
released_back views.Unknown m number is = is
released_back (views.Activated reference) m number is = absurd cc
released_back (views.Opened opening) m number is = absurd cc
released_back (views.Owned reference k) m number is = is

one_owners : (n : ℕ) (at : StationChannel) (channels : Channels) (m : Message) (view : ChannelView) →
    IsOwners at channels view →
    IsOwners at (channels_after n channels m) (view_by at m view)
one_owners n at channels (Station station (rsl.ChannelActivation a)) view owners k m number used is = elim (cases_Bool (is_same (channel_at station a.channel) at)) [
  | inl here ↦ not_owned (views.Activated (reference_in a.reference)) m number tt (sym (cond-true _ _ _ here) ∙ is)
  | inr away ↦ owners k m number (sym (state_else channels (place_at station a.channel) (spot at) (InUse n) (place_differs at station a.channel away)) ∙ used) (sym (cond-false _ _ _ away) ∙ is)
]
one_owners n at channels (Station station (rsl.RfChannelRelease channel)) view owners k m number used is = elim (cases_Bool (is_same (channel_at station channel) at)) [
  | inl here ↦ elim (set_or_not channels (place_at station channel) (spot at) (Releasing n)) [
    | inl now ↦ absurd (let both : Releasing n ≡ InUse k = sym now ∙ used in cc)
    | inr same ↦ owners k m number (sym same ∙ used) (released_back view m number (sym (cond-true _ _ _ here) ∙ is))
  ]
  | inr away ↦ owners k m number (sym (state_else channels (place_at station channel) (spot at) (Releasing n) (place_differs at station channel away)) ∙ used) (sym (cond-false _ _ _ away) ∙ is)
]
one_owners n at channels (Station station x) view owners k m number used is = owners k m number used is
one_owners n at channels (Request message) view owners k m number used is = owners k m number used is
one_owners n at channels (Data destination message) view owners k m number used is = owners k m number used is
one_owners n at channels (ReleaseComplete destination) view owners k m number used is = owners k m number used is

pub all_owners : (n : ℕ) (at : StationChannel) (channels : Channels) (ms : List Message) (view : ChannelView) →
    IsOwners at channels view →
    IsOwners at (fold (channels_after n) channels ms) (views_by at ms view)
all_owners n at channels [] view owners = owners
all_owners n at channels (m ∷ ms) view owners = all_owners n at (channels_after n channels m) ms (view_by at m view) (one_owners n at channels m view owners)
