-- SPDX-License-Identifier: MIT OR Apache-2.0
-- A frame of a mobile arrives at the station of its channel.
use Rattle.world_actors.proofs.Prelude.{◌≡◌, ℕ, ◌-◌, Bool, true, false, if◌then◌else◌, List, Option, Some, None, Result, Ok, Err, OnErr}
use Rattle.world_actors.proofs.Prelude.{IsSome, refl, sym, ap, ◌∙◌, subst, option_and_then, option_map, find_at, Place, Sapi, Memory}
use Rattle.world_actors.proofs.Prelude.{by_mobile_in, mobile_in, MobilesState, at_station, with_spot_of, Seat, Asking, On, Moving, Gone}
use Rattle.world_actors.proofs.Prelude.{Tenure, by_mobile, only_if, Takes, Actors, Mobile, Station, base_of, has_number, is_reached}
use Rattle.world_actors.proofs.Prelude.{put_back, spot_at, station_of}
use Rattle.std.proofs.Common.{unwrap_or}
use Rattle.dtap_codec.specs.declared.sapi.Sapi.TheVariants.{Zero, Three}
use Rattle.world_ends.specs.Mobiles.{at_found, frame_of, taken_from, taking, with_mobile_in}
use Rattle.world_ends.specs.Stations.{brought_on}
use Rattle.world_model.specs.Mobiles.{after_air_up, brought, brought_up, framed, short_message_brought}
use Rattle.world_actors.specs.Seats.{opens_by, opens_in, reached_by}
use Rattle.world_actors.proofs.Airing.{done, idle, wants}
use Rattle.world_actors.proofs.Sitting.{Reached, at_mobile_is, at_reached, reaches, same_acts, twice, when_not_reached, when_reached}
use Rattle.world_actors.proofs.Upper.{mobiles_of, with_mobiles}

abbrev brings_up : Actors → Sapi → Mobile → Tenure → Option Actors
brings_up w sapi p tenure = option_map (λ frame. brought w p tenure.at sapi frame) (frame_of sapi p)

up_is : (w : Actors) (number : ℕ) (sapi : Sapi) →
    after_air_up w number sapi ≡ by_mobile w number (λ p. at_reached w (brings_up w sapi) p p.seat)
up_is w number sapi = same_acts w number (brought_up w sapi) (at_reached w (brings_up w sapi)) by_seat where
  by_both : (b : Bool) (o : Option (List ℕ)) (next : List ℕ → Actors) →
      option_and_then (λ frame. only_if b (next frame)) o ≡ (if b then option_map next o else None)
  by_both true None next = refl
  by_both true (Some frame) next = refl
  by_both false None next = refl
  by_both false (Some frame) next = refl

  by_seat : (p : Mobile) (s : Seat) → brought_up w sapi p s ≡ at_reached w (brings_up w sapi) p s
  by_seat p (On t c) = by_both (is_reached w t) (frame_of sapi p) (λ frame. brought w p t.at sapi frame)
  by_seat p Asking = refl
  by_seat p (Moving from command) = refl
  by_seat p Gone = refl

pub up_unreached : (w : Actors) (number : ℕ) (sapi : Sapi) → reached_by w number ≡ None → Takes w (after_air_up w number sapi) false w
up_unreached w number sapi none = idle w _ (up_is w number sapi ∙ when_not_reached w number (brings_up w sapi) none)

found_in : (w : Actors) (number : ℕ) (tenure : Tenure) (r : Reached w number tenure) → mobile_in number w.mobiles ≡ Some r.on.mobile
found_in w number tenure r = sym (find_at (has_number number) w.mobiles) ∙ r.on.found

frame_at : (w : Actors) (number : ℕ) (sapi : Sapi) (tenure : Tenure) (r : Reached w number tenure) →
    option_and_then (frame_of sapi) (mobile_in number w.mobiles) ≡ frame_of sapi r.on.mobile
frame_at w number sapi tenure r = ap (λ (o : Option Mobile). option_and_then (frame_of sapi) o) (found_in w number tenure r)

up_at : (w : Actors) (number : ℕ) (sapi : Sapi) (tenure : Tenure) (r : Reached w number tenure) (o : Option (List ℕ)) → o ≡ option_and_then (frame_of sapi) (mobile_in number w.mobiles)
    → after_air_up w number sapi ≡ option_map (λ frame. brought w r.on.mobile tenure.at sapi frame) o
up_at w number sapi tenure r o is =
    up_is w number sapi ∙ when_reached w number tenure (brings_up w sapi) r
    ∙ ap (λ (x : Option (List ℕ)). option_map (λ frame. brought w r.on.mobile tenure.at sapi frame) x) (sym (is ∙ frame_at w number sapi tenure r))

-- ---- the mobile

taken_at : (w : Actors) (number : ℕ) (sapi : Sapi) (tenure : Tenure) (r : Reached w number tenure) (o : Option (List ℕ)) → o ≡ option_and_then (frame_of sapi) (mobile_in number w.mobiles)
    → by_mobile_in number (taking sapi) (mobiles_of w) ≡ option_map (λ q. with_mobile_in number q (mobiles_of w)) (option_map (λ (frame : List ℕ). taken_from sapi r.on.mobile) o)
taken_at w number sapi tenure r o is =
    ap (λ (m : Option Mobile). option_map (λ q. with_mobile_in number q (mobiles_of w)) (option_and_then (taking sapi) m)) (found_in w number tenure r)
    ∙ ap (λ (x : Option (List ℕ)). option_map (λ q. with_mobile_in number q (mobiles_of w)) (option_map (λ (frame : List ℕ). taken_from sapi r.on.mobile) x)) (sym (is ∙ frame_at w number sapi tenure r))

taken_keeps : (sapi : Sapi) (p : Mobile) → (taken_from sapi p).number ≡ p.number
taken_keeps Zero p = refl
taken_keeps Three p = refl

put_at : (w : Actors) (number : ℕ) (sapi : Sapi) (tenure : Tenure) (r : Reached w number tenure)
    → with_mobile_in number (taken_from sapi r.on.mobile) (mobiles_of w) ≡ record (mobiles_of w) { mobiles = put_back (taken_from sapi r.on.mobile) w.mobiles }
put_at w number sapi tenure r =
    sym (ap (λ (o : Option Mobile). at_found number (taken_from sapi) (mobiles_of w) o) (found_in w number tenure r))
    ∙ at_mobile_is w number r.on.mobile (taken_from sapi) r.on.found (taken_keeps sapi r.on.mobile)

-- ---- the station

brought_is : (w : Actors) (p : Mobile) (at : Place) (sapi : Sapi) (frame : List ℕ)
    → brought w p at sapi frame ≡ record w { mobiles = put_back (taken_from sapi p) w.mobiles; stations = at_station at.station (brought_on at.number p.opens sapi frame) w.stations }
brought_is w p at Zero frame = refl
brought_is w p at Three frame =
    ap (λ (all : List Station). record w { mobiles = put_back (framed p Three) w.mobiles; stations = all })
    (twice w.stations (at.station - 1) (record (station_of w at.station) { base = short_message_brought (base_of w at.station) at.number (spot_at w at).sapi_three_up frame })
    (with_spot_of at.number (record (spot_at w at) { sapi_three_up = true })))

-- ---- the event

pub up_idle : (w : Actors) (number : ℕ) (sapi : Sapi) (tenure : Tenure) (o : Option (List ℕ)) (mobiles : MobilesState) → reached_by w number ≡ Some tenure → o ≡ option_and_then (frame_of sapi) (mobile_in number w.mobiles) → o ≡ None
    → mobiles ≡ unwrap_or (by_mobile_in number (taking sapi) (mobiles_of w)) (mobiles_of w) → Takes w (after_air_up w number sapi) false (with_mobiles w mobiles)
up_idle w number sapi tenure o mobiles is frame none after =
    let r : Reached w number tenure = reaches w number tenure is in
    subst (λ (s : MobilesState). Takes w (after_air_up w number sapi) false (with_mobiles w s))
    (sym (after ∙ ap (λ (x : Option MobilesState). unwrap_or x (mobiles_of w)) (taken_at w number sapi tenure r None (sym none ∙ frame))))
    (idle w _ (up_at w number sapi tenure r None (sym none ∙ frame)))

pub up_done : (w : Actors) (number : ℕ) (sapi : Sapi) (tenure : Tenure) (o : Option (List ℕ)) (frame : List ℕ) (opens : Bool) (mobiles : MobilesState) (stations : List Station) → reached_by w number ≡ Some tenure → opens ≡ opens_by w number
    → o ≡ option_and_then (frame_of sapi) (mobile_in number w.mobiles) → o ≡ Some frame → mobiles ≡ unwrap_or (by_mobile_in number (taking sapi) (mobiles_of w)) (mobiles_of w)
    → stations ≡ at_station tenure.at.station (brought_on tenure.at.number opens sapi frame) w.stations → Takes w (after_air_up w number sapi) true (record (with_mobiles w mobiles) { stations = stations })
up_done w number sapi tenure o frame opens mobiles stations is opening comes some after brings =
    let r : Reached w number tenure = reaches w number tenure is in
    let first : Bool → List Station = λ b. at_station tenure.at.station (brought_on tenure.at.number b sapi frame) w.stations in
    done w _ _ _ (up_at w number sapi tenure r (Some frame) (sym some ∙ comes))
    (ap (λ (all : List Station). record (with_mobiles w mobiles) { stations = all }) (brings ∙ ap first (opening ∙ ap opens_in (found_in w number tenure r)))
    ∙ ap (λ (s : MobilesState). record (with_mobiles w s) { stations = first r.on.mobile.opens })
    (after ∙ ap (λ (x : Option MobilesState). unwrap_or x (mobiles_of w)) (taken_at w number sapi tenure r (Some frame) (sym some ∙ comes)) ∙ put_at w number sapi tenure r)
    ∙ sym (brought_is w r.on.mobile tenure.at sapi frame))

pub up_wants : {X : Type 0} (result : Result X Memory) (w : Actors) (number : ℕ) (sapi : Sapi) (tenure : Tenure) (o : Option (List ℕ)) → reached_by w number ≡ Some tenure → o ≡ option_and_then (frame_of sapi) (mobile_in number w.mobiles)
    → IsSome o → OnErr result (IsSome (after_air_up w number sapi))
up_wants result w number sapi tenure None is comes some = absurd cc
up_wants result w number sapi tenure (Some frame) is comes some = wants result _ _ (up_at w number sapi tenure (reaches w number tenure is) (Some frame) comes)

pub up_wants_frame : {X Y : Type 0} (result : Result X Memory) (f : Result Y Memory) (m : Memory) (w : Actors) (number : ℕ) (sapi : Sapi) (tenure : Tenure) → reached_by w number ≡ Some tenure → f ≡ Err m
    → OnErr f (IsSome (option_and_then (frame_of sapi) (mobile_in number w.mobiles))) → OnErr result (IsSome (after_air_up w number sapi))
up_wants_frame result (Ok y) m w number sapi tenure is err memory = absurd cc
up_wants_frame result (Err x) m w number sapi tenure is err memory = up_wants result w number sapi tenure (option_and_then (frame_of sapi) (mobile_in number w.mobiles)) is refl memory
