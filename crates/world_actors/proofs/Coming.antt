-- SPDX-License-Identifier: MIT OR Apache-2.0
-- New mobiles ask for a channel.
use Rattle.world_actors.proofs.Prelude.{◌≡◌, ℕ, ◌&&◌, Bool, true, false, if◌then◌else◌, List, [], ◌∷◌, ◌++◌, Option, Some, None, Result, Ok}
use Rattle.world_actors.proofs.Prelude.{Err, OnOk, OnErr, IsSome, refl, sym, ap, ◌∙◌, subst, find_at, Memory, Rsl, MobilesState, at_station}
use Rattle.world_actors.proofs.Prelude.{station_after_message, channel_required, only_if, with_message_made, Takes, Actors, Mobile, Station, has_number, is_station_up}
use Rattle.std.proofs.Common.{nat_lt}
use Rattle.std.specs.Option.{is_none}
use Rattle.mobile_end.specs.declared.fault.MobileFault.TheVariants.{BadMessage}
use Rattle.mobile_end.specs.Lawful.{is_initial}
use Rattle.mobile_end.specs.Mobile.{refusal_of_connect}
use Rattle.rsl_codec.specs.declared.channel_number.TheConstants.{RACH}
use Rattle.rsl_codec.specs.declared.rsl.Rsl.TheVariants.{ChannelRequired}
use Rattle.rsl_codec.specs.RslText.{rsl_write_fault}
use Rattle.world_ends.proofs.Written.{request_written}
use Rattle.world_model.specs.Mobiles.{after_connecting, connected}
use Rattle.world_actors.specs.Seats.{is_new_by}
use Rattle.world_actors.proofs.Airing.{done, idle, wants}
use Rattle.world_actors.proofs.Upper.{mobiles_of, with_mobiles}

-- ---- the request

abbrev pub required_on : ℕ → ℕ → Rsl
required_on channel number = ChannelRequired (record { channel = channel; reference = record { access = number; frame = 0 }; access_delay = record { 0 = 0 } })

pub required_written : (channel number : ℕ) → channel ≡ RACH → rsl_write_fault (required_on channel number) ≡ None
required_written channel number is = subst (λ (c : ℕ). rsl_write_fault (required_on c number) ≡ None) (sym is) (request_written number)

pub ask_puts : {X : Type 0} (r : Result X Memory) (w : Actors) (station channel number : ℕ) (stations : List Station) → channel ≡ RACH
    → OnOk r (stations ≡ at_station station (station_after_message (required_on channel number)) w.stations) → OnOk r (record w { stations = stations } ≡ with_message_made station (channel_required number) w)
ask_puts (Err memory) w station channel number stations is puts = tt
ask_puts (Ok x) w station channel number stations is puts =
    ap (λ (all : List Station). record w { stations = all }) (puts ∙ ap (λ (c : ℕ). at_station station (station_after_message (required_on c number)) w.stations) is)

-- ---- a new mobile

abbrev comes : Actors → ℕ → ℕ → List ℕ → Bool → Actors
comes w number station initial accepts = with_message_made station (channel_required number) (record w { mobiles = w.mobiles ++ connected w.modulus number initial accepts ∷ [] })

pub connect_by : (w : Actors) (number station : ℕ) (initial : List ℕ) (accepts a b c : Bool) → is_new_by w number ≡ a → is_station_up w station ≡ b → is_initial initial ≡ c
    → after_connecting w number station initial accepts ≡ only_if (a && b && c) (comes w number station initial accepts)
connect_by w number station initial accepts a b c new up lawful =
    let next : Actors = comes w number station initial accepts in
    ap (λ (o : Option Mobile). only_if ((nat_lt 0 number && is_none o) && is_station_up w station && is_none (refusal_of_connect (Some initial))) next) (find_at (has_number number) w.mobiles)
    ∙ ap (λ (x : Bool). only_if (x && is_station_up w station && is_none (refusal_of_connect (Some initial))) next) new
    ∙ ap (λ (x : Bool). only_if (a && x && is_none (refusal_of_connect (Some initial))) next) up
    ∙ ap (λ (x : Bool). only_if (a && b && x) next) (none_if (is_initial initial) lawful) where
      none_if : (x : Bool) → x ≡ c → is_none (if x then None else Some BadMessage) ≡ c
      none_if true is = is
      none_if false is = is

pub connect_known : (w : Actors) (number station : ℕ) (initial : List ℕ) (accepts : Bool) →
    is_new_by w number ≡ false →
    Takes w (after_connecting w number station initial accepts) false w
connect_known w number station initial accepts new = idle w _ (connect_by w number station initial accepts false (is_station_up w station) (is_initial initial) new refl refl)

pub connect_down : (w : Actors) (number station : ℕ) (initial : List ℕ) (accepts : Bool) →
    is_new_by w number ≡ true →
    is_station_up w station ≡ false →
    Takes w (after_connecting w number station initial accepts) false w
connect_down w number station initial accepts new up = idle w _ (connect_by w number station initial accepts true false (is_initial initial) new up refl)

pub connect_unlawful : (w : Actors) (number station : ℕ) (initial : List ℕ) (accepts : Bool) → is_new_by w number ≡ true → is_station_up w station ≡ true → is_initial initial ≡ false
    → Takes w (after_connecting w number station initial accepts) false w
connect_unlawful w number station initial accepts new up lawful = idle w _ (connect_by w number station initial accepts true true false new up lawful)

pub connect_done : (w : Actors) (number station : ℕ) (initial : List ℕ) (accepts : Bool) (mobiles : MobilesState) (after : Actors) → is_new_by w number ≡ true → is_station_up w station ≡ true → is_initial initial ≡ true
    → mobiles ≡ record (mobiles_of w) { mobiles = w.mobiles ++ connected w.modulus number initial accepts ∷ [] } → after ≡ with_message_made station (channel_required number) (with_mobiles w mobiles)
    → Takes w (after_connecting w number station initial accepts) true after
connect_done w number station initial accepts mobiles after new up lawful comes_so asks =
    done w after _ _ (connect_by w number station initial accepts true true true new up lawful) (asks ∙ ap (λ (s : MobilesState). with_message_made station (channel_required number) (with_mobiles w s)) comes_so)

pub connect_wants : {X : Type 0} (r : Result X Memory) (w : Actors) (number station : ℕ) (initial : List ℕ) (accepts : Bool) → is_new_by w number ≡ true → is_station_up w station ≡ true → is_initial initial ≡ true
    → OnErr r (IsSome (after_connecting w number station initial accepts))
connect_wants r w number station initial accepts new up lawful = wants r _ _ (connect_by w number station initial accepts true true true new up lawful)
