-- SPDX-License-Identifier: MIT OR Apache-2.0
-- Changes of a world that a connection doesn't see.
use Rattle.world_laws.proofs.Prelude.{◌≡◌, ◌≢◌, ℕ, true, false, List, [], ◌∷◌, ◌++◌, Some, refl, ap, ◌∙◌, subst, AllByRecursion, flat_map}
use Rattle.world_laws.proofs.Prelude.{Channel, Place, SWITCH_LINK, Target, Connection, is_at, undone, used_channels, place_of, BaseState}
use Rattle.world_laws.proofs.Prelude.{Rsl, Actors, Mobile, Spot, is_station_up, base_of, with_base, outbox_of, spot_at, with_spot, SameEnds}
use Rattle.world_laws.proofs.Prelude.{base_with_spot, spot_with_base, made_of, coming_up, leading_from_air, leading_from_outbox, going_down}
use Rattle.world_laws.proofs.Prelude.{commanded_target, IsElsewhere}
use Rattle.conn_rules.specs.Streams.{target_in}
use Rattle.world_laws.proofs.Apart.{all_both, target_in_is_so}
use Rattle.world_laws.proofs.Framing.{AreSame, all_right}
use Rattle.world_laws.proofs.Projecting.{coming_same, coming_quiet}
use Rattle.world_laws.proofs.Spots.{spot-same, spot-elsewhere, tenure_with_base, tenure_with_spot}
use Rattle.world_laws.proofs.Seeing.{SameTenures, SeesSame}

-- ---- lists

pub all_of : {X : Type 0} (P : X → Type 0) (xs : List X) → ((x : X) → P x) → AllByRecursion P xs
all_of P [] h = tt
all_of P (x ∷ xs) h = (h x, all_of P xs h)

-- stations of channels are numbered from 1
abbrev pub ArePlaced : List Channel → Type 0
ArePlaced cs = AllByRecursion (λ c. c.station ≢ SWITCH_LINK) cs

pub sees_itself : (w : Actors) (s : Connection) → SeesSame w w s
unfolding SameTenures
sees_itself w s = record {
  arriving = all_of (λ c. coming_up w (place_of c) ≡ coming_up w (place_of c)) (used_channels s) (λ c. refl);
  up = λ n. refl;
  serving = refl;
  target = λ t is. refl;
  tenures = λ at. refl;
  waiting = refl;
  taken = refl;
}

-- mobiles change
pub sees_mobiles : {w u : Actors} {s : Connection} (mobiles : List Mobile) → SeesSame w u s → SeesSame w (record u { mobiles = mobiles }) s
unfolding SameTenures
sees_mobiles mobiles sees = record { arriving = sees.arriving; up = sees.up; serving = sees.serving; target = sees.target; tenures = sees.tenures; waiting = sees.waiting; taken = sees.taken }

-- ---- an end changes

pub down_with_base : (w : Actors) (station : ℕ) (base : BaseState) (at : Place) → going_down (with_base station base w) at ≡ going_down w at
down_with_base w station base at = ap (λ (spot : Spot). flat_map leading_from_air spot.air ++ flat_map (leading_from_outbox at.number) (outbox_of w at.station)) (spot_with_base station base w at)

-- it makes messages that bring nothing
pub sees_told : {w u : Actors} {s : Connection} (station : ℕ) (base : BaseState) (messages : List Rsl) → ArePlaced (used_channels s) → is_station_up w station ≡ true → SameEnds w u → u.inbox ≡ w.inbox → base.messages ≡ (base_of w station).messages ++ messages → ((channel : ℕ) → made_of channel messages ≡ [])
    → SeesSame w u s → SeesSame w (with_base station base u) s
unfolding SameTenures
sees_told {w} {u} {s} station base messages placed up same inbox appended nothing sees = record {
  arriving = all_both (λ c. c.station ≢ SWITCH_LINK) (λ c. c.station ≢ SWITCH_LINK) (λ c. coming_up (with_base station base u) (place_of c) ≡ coming_up w (place_of c)) (used_channels s)
      (λ c c_is _. coming_quiet w u station (place_of c) base messages c_is up same inbox appended (nothing c.number)) placed placed;
  up = sees.up;
  serving = down_with_base u station base (place_of s.serving) ∙ sees.serving;
  target = λ t is. down_with_base u station base (place_of t.channel) ∙ sees.target t is;
  tenures = λ at. tenure_with_base u station base at ∙ sees.tenures at;
  waiting = sees.waiting;
  taken = sees.taken;
}

-- ---- a channel changes

down_spot : (w u : Actors) (at : Place) →
    spot_at u at ≡ spot_at w at →
    outbox_of u at.station ≡ outbox_of w at.station →
    going_down u at ≡ going_down w at
down_spot w u at spot outbox = ap (λ (x : Spot). flat_map leading_from_air x.air ++ flat_map (leading_from_outbox at.number) (outbox_of u at.station)) spot ∙ ap (λ (entries : List _). flat_map leading_from_air (spot_at w at).air ++ flat_map (leading_from_outbox at.number) entries) outbox

-- no more and no less leads anywhere
pub down_with_spot : (u : Actors) (at : Place) (spot : Spot) (other : Place) →
    flat_map leading_from_air spot.air ≡ flat_map leading_from_air (spot_at u at).air →
    going_down (with_spot at spot u) other ≡ going_down u other
down_with_spot u at spot other same = ap (λ (entries : List _). entries ++ flat_map (leading_from_outbox other.number) (outbox_of u other.station)) (spot-same (λ (x : Spot). flat_map leading_from_air x.air) u at spot other same)

pub coming_with_spot : (u : Actors) (at : Place) (spot : Spot) (other : Place) → coming_up (with_spot at spot u) other ≡ coming_up u other
coming_with_spot u at spot other = coming_same u (with_spot at spot u) other refl (base_with_spot at spot u other.station)

pub sees_spot : {w u : Actors} {s : Connection} (at : Place) (spot : Spot) →
    flat_map leading_from_air spot.air ≡ flat_map leading_from_air (spot_at u at).air →
    spot.tenure ≡ (spot_at u at).tenure →
    SeesSame w u s →
    SeesSame w (with_spot at spot u) s
unfolding SameTenures
sees_spot {w} {u} {s} at spot air tenure sees = record {
  arriving = by_all (used_channels s) sees.arriving;
  up = sees.up;
  serving = down_with_spot u at spot (place_of s.serving) air ∙ sees.serving;
  target = λ t is. down_with_spot u at spot (place_of t.channel) air ∙ sees.target t is;
  tenures = λ other. tenure_with_spot u at spot other tenure ∙ sees.tenures other;
  waiting = sees.waiting;
  taken = sees.taken;
} where
  by_all : (cs : List Channel) → AreSame (coming_up u) (coming_up w) cs → AreSame (coming_up (with_spot at spot u)) (coming_up w) cs
  by_all [] same = tt
  by_all (c ∷ cs) same = (coming_with_spot u at spot (place_of c) ∙ same.0, by_all cs same.1)

-- the channel is none of the connection's
pub sees_elsewhere : {w u : Actors} {s : Connection} (at : Place) (spot : Spot) →
    at.station ≢ SWITCH_LINK →
    ArePlaced (used_channels s) →
    IsElsewhere (used_channels s) at →
    spot.tenure ≡ (spot_at u at).tenure →
    SeesSame w u s →
    SeesSame w (with_spot at spot u) s
unfolding SameTenures
sees_elsewhere {w} {u} {s} at spot at_is placed elsewhere tenure sees = record {
  arriving = by_all (used_channels s) sees.arriving;
  up = sees.up;
  serving = down_spot u (with_spot at spot u) (place_of s.serving) (spot-elsewhere u at spot s.serving at_is placed_rest.0 elsewhere_rest.0) refl ∙ sees.serving;
  target = λ t is. down_spot u (with_spot at spot u) (place_of t.channel) (spot-elsewhere u at spot t.channel at_is (placed_target t is).0 (elsewhere_target t is).0) refl ∙ sees.target t is;
  tenures = λ other. tenure_with_spot u at spot other tenure ∙ sees.tenures other;
  waiting = sees.waiting;
  taken = sees.taken;
} where
  by_all : (cs : List Channel) → AreSame (coming_up u) (coming_up w) cs → AreSame (coming_up (with_spot at spot u)) (coming_up w) cs
  by_all [] same = tt
  by_all (c ∷ cs) same = (coming_with_spot u at spot (place_of c) ∙ same.0, by_all cs same.1)

  placed_rest : ArePlaced (s.serving ∷ target_in s.state)
  placed_rest = all_right (λ c. c.station ≢ SWITCH_LINK) (undone s.draining) (s.serving ∷ target_in s.state) placed

  elsewhere_rest : IsElsewhere (s.serving ∷ target_in s.state) at
  elsewhere_rest = all_right (λ c. is_at at c ≡ false) (undone s.draining) (s.serving ∷ target_in s.state) elsewhere

  placed_target : (t : Target) → commanded_target s.state ≡ Some t → ArePlaced (t.channel ∷ [])
  placed_target t is = subst ArePlaced (target_in_is_so s.state t is) placed_rest.1

  elsewhere_target : (t : Target) → commanded_target s.state ≡ Some t → IsElsewhere (t.channel ∷ []) at
  elsewhere_target t is = subst (λ (cs : List Channel). IsElsewhere cs at) (target_in_is_so s.state t is) elsewhere_rest.1

-- ---- the switch makes messages
