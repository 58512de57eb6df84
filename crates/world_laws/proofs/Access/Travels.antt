-- SPDX-License-Identifier: MIT OR Apache-2.0
-- Nothing joins what is on its way at an event in which neither the controller nor a mobile's frame
-- of SAPI 0 takes part.
use Rattle.world_laws.proofs.Prelude.{◌≡◌, ℕ, ◌==◌, ◌&&◌, nat_le, Bool, true, false, if◌then◌else◌, cond, List, [], ◌∷◌, ◌++◌, Option}
use Rattle.world_laws.proofs.Prelude.{Some, None, refl, sym, ap, ◌∙◌, subst, append_assoc, flat_map, Place, SWITCH_LINK, place_at}
use Rattle.world_laws.proofs.Prelude.{sapi_of, Sapi, Zero, Three, LinkFault, BaseState, after_activate, after_release, after_take_down}
use Rattle.world_laws.proofs.Prelude.{after_tell, refusal_of_activate, activation_ack, data_indication, establish_indication, FIRST_SDCCH}
use Rattle.world_laws.proofs.Prelude.{MAIN_LINK_SAPI_3, SACCH_SAPI_3, Rsl, Event, MAX_TENURE, AirMessage, OutboxEntry, channel_required}
use Rattle.world_laws.proofs.Prelude.{connected, handover_detection, measurement_result, short_message_brought, with_item, accepts}
use Rattle.world_laws.proofs.Prelude.{activated, activated_unless, answered, link_answer, mobile_on, new_tenure, rsl_in, took, sccp_in}
use Rattle.world_laws.proofs.Prelude.{Actors, Mobile, Spot, base_of, broken_link, is_active_at, is_station_up, outbox_of, spot_at}
use Rattle.world_laws.proofs.Prelude.{tenure_at, with_base, with_link, with_outbox, with_spot, Good, air_ack_leads, air_down_leads}
use Rattle.world_laws.proofs.Prelude.{air_down_lost_leads, air_up_leads, arrive_leads, assigned-leads, base_takes_leads, broken_leads}
use Rattle.world_laws.proofs.Prelude.{connect_leads, does_leads, move_leads, report-leads, return_leads, switch_takes_leads}
use Rattle.world_laws.proofs.Prelude.{switch_took-leads, touch_leads, unless_last_leads, upper_leads, spot_with_base, rr_reading}
use Rattle.world_laws.proofs.Prelude.{messages_in, of_main, leading, leading_by, leading_from_air, leading_from_outbox, messages_up}
use Rattle.world_laws.specs.LineUp.Places.{Item as Brought}
use Rattle.ruled_relay.specs.declared.item.What.TheVariants as whats
use Rattle.rsl_codec.specs.declared.rsl.Rsl.TheVariants as rsl
use Rattle.world_model.specs.declared.event.Event.TheVariants as events
use Rattle.world_model.specs.Life.{event_after}
use Rattle.world_model.specs.Stations.{released}
use Rattle.world_model.proofs.Leads.{FromAir, OfTaken, Seats}
use Rattle.world_laws.proofs.Sublists.{Sub, sub_behind, sub_itself, sub_none}
use Rattle.world_laws.proofs.Access.Passes.{IsPlain, Passes, passes_first, passes_item, passes_itself, passes_link, passes_mobiles}
use Rattle.world_laws.proofs.Access.Passes.{passes_spot, passes_switch, passes_then, passes_made, push_passes, ups_spot}
use Rattle.world_laws.proofs.StationTakes.{aired, down_aired}

-- ---- messages that bring nothing

none_in : (b : Bool) → messages_in (if b then [] else []) ≡ []
none_in true = refl
none_in false = refl

plain_three : (channel : ℕ) (frame : List ℕ) → IsPlain (data_indication channel Three frame)
plain_three channel frame other = by_both (nat_le FIRST_SDCCH channel) (channel == other) where
  by_both : (a b : Bool) → messages_in (if b then of_main (sapi_of (if a then MAIN_LINK_SAPI_3 else SACCH_SAPI_3)) frame else []) ≡ []
  by_both true true = refl
  by_both true false = refl
  by_both false true = refl
  by_both false false = refl

pub plain_established : (channel : ℕ) (sapi : Sapi) → IsPlain (establish_indication channel sapi None)
plain_established channel sapi other = none_in (channel == other)

plain_released : (channel : ℕ) → IsPlain (rsl.RfChannelReleaseAck channel)
plain_released channel other = by (channel == other) where
  by : (b : Bool) → messages_in (if b then Brought.released ∷ [] else []) ≡ []
  by true = refl
  by false = refl

-- a frame of SAPI 3
passes_short_message : (w : Actors) (at : Place) (up : Bool) (frame : List ℕ) →
    Passes w (with_spot at (record (spot_at w at) { sapi_three_up = true }) (with_base at.station (short_message_brought (base_of w at.station) at.number up frame) w))
passes_short_message w at up frame = passes_then (telling up) (passes_spot (with_base at.station (short_message_brought base at.number up frame) w) at (record (spot_at w at) { sapi_three_up = true })
    (subst (λ (x : Spot). Sub (flat_map leading_from_air (spot_at w at).air) (flat_map leading_from_air x.air)) (sym (spot_with_base at.station (short_message_brought base at.number up frame) w at)) (sub_itself (flat_map leading_from_air (spot_at w at).air)))) where
      base : BaseState
      base = base_of w at.station

      telling : (b : Bool) → Passes w (with_base at.station (short_message_brought base at.number b frame) w)
      telling true = passes_made w at.station (short_message_brought base at.number true frame) (data_indication at.number Three frame ∷ []) (plain_three at.number frame, tt) (sub_itself (base.messages ++ data_indication at.number Three frame ∷ []))
      telling false = passes_made w at.station (short_message_brought base at.number false frame) (establish_indication at.number Three None ∷ data_indication at.number Three frame ∷ []) (plain_established at.number Three, (plain_three at.number frame, tt))
          (subst (Sub (base.messages ++ establish_indication at.number Three None ∷ [] ++ data_indication at.number Three frame ∷ [])) (append_assoc base.messages (establish_indication at.number Three None ∷ []) (data_indication at.number Three frame ∷ [])) (sub_itself _))

-- one message of a station's own
passes_tell : (u : Actors) (station : ℕ) (m : Rsl) → IsPlain m → Passes u (with_base station (after_tell (base_of u station) m) u)
passes_tell u station m plain = passes_made u station (after_tell (base_of u station) m) (m ∷ []) (plain, tt) (sub_itself ((base_of u station).messages ++ m ∷ []))

-- ---- a station takes an entry

-- a message is sent into the air of an active channel
passes_aired : (w : Actors) (station channel : ℕ) (message : List ℕ) (first : OutboxEntry) (others : List OutboxEntry) → is_station_up w station ≡ true → outbox_of w station ≡ first ∷ others
    → ((n : ℕ) → (channel == n) ≡ true → leading_from_outbox n first ≡ leading message first.target)
    → Passes w (aired w station channel message first others)
passes_aired w station channel message first others up pending leads =
    let at : Place = place_at station channel in
    let u : Actors = with_outbox station others w in
    let spot : Spot = record (spot_at w at) { air = (spot_at w at).air ++ record { message = message; target = first.target } ∷ [] } in
    let taken : Passes w u = passes_first w station first others pending in
    record {
      ups = λ n is. (let a = taken.ups n is in (a.0, a.1, subst (λ (xs : List Rsl). Sub xs (messages_up w n ++ a.0)) (sym (ups_spot u at spot n)) a.2));
      downs = λ c is. down_aired w station channel message first others c is up pending leads;
      entries = taken.entries;
      controller = refl;
    }

-- the activation, the release and the answer for SAPI 3
passes_activated : (u : Actors) (station channel : ℕ) →
    Passes u (with_spot (place_at station channel) (new_tenure (spot_at u (place_at station channel))) (with_base station (after_activate (base_of u station) channel) u))
passes_activated u station channel =
    passes_then (passes_made u station (after_activate (base_of u station) channel) (activation_ack channel ∷ []) ((λ other. refl), tt) (sub_itself ((base_of u station).messages ++ activation_ack channel ∷ [])))
    (passes_spot (with_base station (after_activate (base_of u station) channel) u) (place_at station channel) (new_tenure (spot_at u (place_at station channel))) (sub_none _))

passes_released : (u : Actors) (station channel : ℕ) → Passes u (released (place_at station channel) u)
passes_released u station channel =
    passes_then (passes_made u station (after_release (base_of u station) channel) (rsl.RfChannelReleaseAck channel ∷ []) (plain_released channel, tt) (sub_itself ((base_of u station).messages ++ rsl.RfChannelReleaseAck channel ∷ [])))
    (passes_spot (with_base station (after_release (base_of u station) channel) u) (place_at station channel) (record (spot_at u (place_at station channel)) { sapi_three_up = false; air = [] }) (sub_none _))

passes_answered : (u : Actors) (answer : Bool) (station channel : ℕ) → Passes u (answered answer (place_at station channel) u)
passes_answered u answer station channel =
    passes_then (passes_spot u (place_at station channel) (record (spot_at u (place_at station channel)) { sapi_three_up = answer }) (sub_itself _))
    (passes_tell (with_spot (place_at station channel) (record (spot_at u (place_at station channel)) { sapi_three_up = answer }) u) station (link_answer answer channel) (plain answer)) where
      plain : (b : Bool) → IsPlain (link_answer b channel)
      plain true other = refl
      plain false other = refl

takes_passes : (w : Actors) (station : ℕ) (first : OutboxEntry) (others : List OutboxEntry) →
    is_station_up w station ≡ true →
    outbox_of w station ≡ first ∷ others →
    OfTaken (Passes w) (took station first.target (rsl_in first.out.frame) (with_outbox station others w))
unfolding OfTaken Seats
takes_passes w station first others up pending = by_message (rsl_in first.out.frame) refl where
  u : Actors
  u = with_outbox station others w

  taken : Passes w u
  taken = passes_first w station first others pending

  activating : (channel : ℕ) (o : Option LinkFault) →
      refusal_of_activate (base_of u station) channel ≡ o →
      Passes w (activated_unless o (place_at station channel) u)
  activating channel None is = passes_then taken (passes_activated u station channel)
  activating channel (Some fault) is = taken

  airing : (channel : ℕ) (message : List ℕ) → ((n : ℕ) → (channel == n) ≡ true → leading_from_outbox n first ≡ leading message first.target) → (b : Bool)
      → Passes w (if b then with_spot (place_at station channel) (record (spot_at u (place_at station channel)) { air = (spot_at u (place_at station channel)).air ++ record { message = message; target = first.target } ∷ [] }) u else u)
  airing channel message leads true = passes_aired w station channel message first others up pending leads
  airing channel message leads false = taken

  by_message : (o : Option Rsl) → rsl_in first.out.frame ≡ o → OfTaken (Passes w) (took station first.target o u)
  by_message (Some (rsl.ChannelActivation a)) is = unless_last_leads (Passes w) ((spot_at u (place_at station a.channel)).tenure == MAX_TENURE) (activated (place_at station a.channel) u) (activating a.channel (refusal_of_activate (base_of u station) a.channel) refl)
  by_message (Some (rsl.ImmediateAssignCommand i)) is = assigned-leads (Passes w) station u (rr_reading i.information) taken (λ q number channel acts asking. passes_mobiles _ taken)
  by_message (Some (rsl.DataRequest d)) is = airing d.channel d.l3
      (λ n same. ap (leading_by n first.target) is ∙ ap (λ (b : Bool). cond b (leading d.l3 first.target) []) same) (is_active_at u (place_at station d.channel))
  by_message (Some (rsl.EstablishRequest l)) is = passes_then taken (passes_answered u (is_active_at u (place_at station l.channel) && accepts (mobile_on u (tenure_at u (place_at station l.channel)))) station l.channel)
  by_message (Some (rsl.RfChannelRelease channel)) is = passes_then taken (passes_released u station channel)
  by_message _ is = taken

-- ---- links

-- the link of a station breaks
passes_broken : (w : Actors) (source : ℕ) →
    Passes w (with_item (record { source = source; what = whats.Down }) (with_base source (after_take_down (base_of (with_link source broken_link w) source)) (with_link source broken_link w)))
passes_broken w source =
    passes_then (passes_link w source broken_link (sub_none _))
    (passes_then (passes_made (with_link source broken_link w) source (after_take_down (base_of (with_link source broken_link w) source)) [] tt (sub_none _))
    (passes_item (with_base source (after_take_down (base_of (with_link source broken_link w) source)) (with_link source broken_link w)) (record { source = source; what = whats.Down }) (λ n is. refl)))

-- ---- each event

-- neither the controller nor a frame of SAPI 0 takes part
abbrev pub is_passing : Event → Bool
is_passing (events.AirUp number Zero) = false
is_passing events.Handle = false
is_passing (events.Tick ms) = false
is_passing _ = true

heard_passes : (w : Actors) (mobiles : List Mobile) (at : Place) (first : AirMessage) (others : List AirMessage) →
    (spot_at w at).air ≡ first ∷ others →
    Passes w (record (with_spot at (record (spot_at w at) { air = others }) w) { mobiles = mobiles })
heard_passes w mobiles at first others is =
    passes_mobiles mobiles (passes_spot w at (record (spot_at w at) { air = others }) (subst (λ (air : List AirMessage). Sub (flat_map leading_from_air others) (flat_map leading_from_air air)) (sym is) (sub_behind (leading_from_air first) (flat_map leading_from_air others))))

pub event_passes : (w : Actors) (event : Event) → is_passing event ≡ true → Good w → OfTaken (Passes w) (event_after w event)
unfolding event_after FromAir
event_passes w (events.Upper number sapi message) is good = upper_leads (Passes w) w number sapi message (λ p found. passes_mobiles _ (passes_itself w))
event_passes w (events.Connect number station initial accepts) is good = connect_leads (Passes w) w number station initial accepts (λ may. passes_then (passes_mobiles (w.mobiles ++ connected w.modulus number initial accepts ∷ []) (passes_itself w)) (passes_tell (record w { mobiles = w.mobiles ++ connected w.modulus number initial accepts ∷ [] }) station (channel_required number) (λ other. refl)))
event_passes w (events.AirUp number Three) is good = air_up_leads (Passes w) w number Three (λ p tenure command frame found seat lent reached. passes_mobiles _ (passes_short_message w tenure.at (spot_at w tenure.at).sapi_three_up frame))
event_passes w (events.AirAck number sapi) is good = air_ack_leads (Passes w) w number sapi (λ p found. passes_mobiles _ (passes_itself w))
event_passes w (events.AirDown number) is good = air_down_leads (Passes w) w number (λ p tenure command found seat reached first others air. heard_passes w _ tenure.at first others air)
event_passes w (events.AirDownLost number) is good = air_down_lost_leads (Passes w) w number (λ p tenure command found seat reached first others air. heard_passes w _ tenure.at first others air)
event_passes w (events.Move number) is good = move_leads (Passes w) w number (λ p tenure command found seat reached. passes_mobiles _ (passes_spot w tenure.at (record (spot_at w tenure.at) { air = []; sapi_three_up = false }) (sub_none _)))
event_passes w (events.Touch number) is good = touch_leads (Passes w) w number (λ command reached. passes_tell w command.target.at.station (handover_detection command.target.at.number) (λ other. refl))
event_passes w (events.Arrive number) is good = arrive_leads (Passes w) w number (λ p from command found seat reached. passes_mobiles _ (passes_tell w command.target.at.station (establish_indication command.target.at.number Zero None) (plain_established command.target.at.number Zero)))
event_passes w (events.Return number) is good = return_leads (Passes w) w number (λ p from command found seat reached. passes_mobiles _ (passes_tell w from.at.station (establish_indication from.at.number Zero None) (plain_established from.at.number Zero)))
event_passes w (events.BaseTakes station) is good = base_takes_leads (Passes w) w station (λ first others up pending. takes_passes w station first others up pending)
event_passes w (events.BasePush source) is good = push_passes w source good
event_passes w events.SwitchTakes is good = switch_takes_leads (Passes w) w (λ first others up pending.
    switch_took-leads (Passes w) (with_outbox SWITCH_LINK others w) (sccp_in first.out.frame) (passes_first w SWITCH_LINK first others pending) (λ next made. passes_switch next made (passes_first w SWITCH_LINK first others pending)))
event_passes w (events.SwitchDoes action) is good = does_leads (Passes w) w action (λ next made. passes_switch next made (passes_itself w))
event_passes w (events.BaseDown source) is good = broken_leads (Passes w) w source
    (λ up switch. passes_then (passes_switch w.switch [] (passes_link w source broken_link (sub_none _))) (passes_item (record (with_link source broken_link w) { switch_made = [] }) (record { source = source; what = whats.Down }) (λ n is. refl)))
    (λ up station. passes_broken w source)
event_passes w (events.Report number report) is good = report-leads (Passes w) w number report (λ tenure reached.
    passes_then (passes_spot w tenure.at (record (spot_at w tenure.at) { reports = _ }) (sub_itself _)) (passes_tell _ tenure.at.station (measurement_result tenure.at.number (spot_at w tenure.at).reports report) (λ other. refl)))
event_passes w _ is good = absurd cc
