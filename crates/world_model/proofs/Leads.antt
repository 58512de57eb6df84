-- SPDX-License-Identifier: MIT OR Apache-2.0
-- The actors after an event that its actor can take: ways to show properties of them.
use Rattle.world_model.proofs.Prelude.{◌≡◌, ◌≢◌, ℕ, ◌==◌, ◌&&◌, nat_eq, Bool, true, false, if◌then◌else◌, List, [], ◌∷◌, ◌++◌, length, fold}
use Rattle.world_model.proofs.Prelude.{set, unwrap_or, slice_index_or, Option, Some, None, Result, Ok, refl, sym, ap, ◌∙◌, subst, is_none}
use Rattle.world_model.proofs.Prelude.{eqb-true, eqb-false, Sccp, Turn, place_at, Out, SWITCH_LINK, take, Sapi, LinkFault}
use Rattle.world_model.proofs.Prelude.{refusal_of_activate, after_activate, first_message, after_next, after_take_down, after_queue}
use Rattle.world_model.proofs.Prelude.{refusal_of_connect, refusal_of_send, frame_answer, after_acked, Item, is_channel, Rsl, DataRequest}
use Rattle.world_model.proofs.Prelude.{EstablishRequest, ImmediateAssignCommand, ChannelActivation, RfChannelRelease, RrMessage}
use Rattle.world_model.proofs.Prelude.{ImmediateAssignment, RrFault, rr_reading, Zero, Three, option_and_then, REPORT_LENGTH}
use Rattle.world_model.proofs.Prelude.{is_acknowledged, SwitchState, Assign, Clear, Dtap, AirMessage, OutboxEntry, MAX_TENURE, Command}
use Rattle.world_model.proofs.Prelude.{Seat, Asking, On, Moving, Tenure, rsl_in, new_tenure, activated_unless, activated, assigned_from}
use Rattle.world_model.proofs.Prelude.{assigned_to, assigned, mobile_on, accepts, answered, released, took, took_first, after_base_takes}
use Rattle.world_model.proofs.Prelude.{station_item, switch_item, with_item, pushed_by_station, pushed_by_switch, after_base_push, entry_of}
use Rattle.world_model.proofs.Prelude.{joined_by, with_turn, target_in, handled, after_handle, broken, after_break, sccp_in, switch_took}
use Rattle.world_model.proofs.Prelude.{switch_took_first, after_switch_takes, sent_on, may_send_on, is_layer_3, after_switch_does, Actors}
use Rattle.world_model.proofs.Prelude.{Mobile, Link, broken_link, is_up, is_station_up, outbox_of, with_outbox, mobile_of, with_mobile}
use Rattle.world_model.proofs.Prelude.{base_of, with_base, spot_at, with_spot, is_active_at, tenure_at, is_reached, Event, Upper, Connect}
use Rattle.world_model.proofs.Prelude.{AirUp, AirAck, AirDown, AirDownLost, Move, Touch, Arrive, Return, BaseTakes, BasePush, Handle}
use Rattle.world_model.proofs.Prelude.{SwitchTakes, SwitchDoes, Tick, BaseDown, Report, Station}
use Rattle.ruled_relay.specs.declared.item.What.TheVariants as whats
use Rattle.bssmap_codec.specs.declared.bssap.Bssap.{Bssap}
use Rattle.bssmap_codec.specs.declared.bssap.Bssap.TheVariants.{Transfer}
use Rattle.msc_end.specs.Switch.{after, after_clear, assignment_request, clear_command, connection_of, data_forms_on, dlci_for, replies}
use Rattle.world_model.specs.declared.event.SwitchAction.{SwitchAction}
use Rattle.world_model.specs.Mobiles.{only_if, by_mobile, with_message_made, may_send, sent_by, after_upper, channel_required, connected, is_new, after_connecting, frame_in, brought, brought_up, after_air_up, acknowledged, after_air_ack, hearing, ignored, taken_from_air, brought_down, after_air_down, after_air_down_lost, left, moved, after_move, is_to_handover, handover_detection, touched, after_touch, complete, failure, seated, arrived, after_arriving, returned, after_return, reported_at, reported, after_report}
use Rattle.world_model.specs.World.{with_link, link_of}
use Rattle.world_model.specs.Life.{event_after}

-- of the actors after an event, where there are some
unfoldable pub OfTaken : (Actors → Type 0) → Option Actors → Type 0
OfTaken P None = Unit {0}
OfTaken P (Some w) = P w

some_leads : (P : Actors → Type 0) (w : Actors) → P w → OfTaken P (Some w)
unfolding OfTaken
some_leads P w h = h

pub only_if-leads : (P : Actors → Type 0) (b : Bool) (w : Actors) → (b ≡ true → P w) → OfTaken P (only_if b w)
unfolding OfTaken
only_if-leads P true w h = h refl
only_if-leads P false w h = tt

found_leads : (P : Actors → Type 0) (o : Option Mobile) (act : Mobile → Option Actors) →
    ((p : Mobile) → o ≡ Some p → OfTaken P (act p)) →
    OfTaken P (option_and_then act o)
unfolding OfTaken
found_leads P None act h = tt
found_leads P (Some p) act h = h p refl

pub by_mobile-leads : (P : Actors → Type 0) (w : Actors) (number : ℕ) (act : Mobile → Option Actors) →
    ((p : Mobile) → mobile_of w number ≡ Some p → OfTaken P (act p)) →
    OfTaken P (by_mobile w number act)
by_mobile-leads P w number act h = found_leads P (mobile_of w number) act h

pub upper_leads : (P : Actors → Type 0) (w : Actors) (number : ℕ) (sapi : Sapi) (message : List ℕ) →
    ((p : Mobile) → mobile_of w number ≡ Some p → P (with_mobile (record p { end = after_queue p.end sapi message }) w)) →
    OfTaken P (after_upper w number sapi message)
upper_leads P w number sapi message h =
    by_mobile-leads P w number (sent_by w sapi message) (λ p is. only_if-leads P (may_send p.seat && is_none (refusal_of_send p.end sapi message)) (with_mobile (record p { end = after_queue p.end sapi message }) w) (λ _. h p is))

pub connect_leads : (P : Actors → Type 0) (w : Actors) (number station : ℕ) (initial : List ℕ) (accepts : Bool) →
    (is_new w number && is_station_up w station && is_none (refusal_of_connect (Some initial)) ≡ true → P (with_message_made station (channel_required number) (record w { mobiles = w.mobiles ++ connected w.modulus number initial accepts ∷ [] }))) →
    OfTaken P (after_connecting w number station initial accepts)
connect_leads P w number station initial accepts h =
    only_if-leads P (is_new w number && is_station_up w station && is_none (refusal_of_connect (Some initial))) (with_message_made station (channel_required number) (record w { mobiles = w.mobiles ++ connected w.modulus number initial accepts ∷ [] })) h

framed_leads : (P : Actors → Type 0) (w : Actors) (sapi : Sapi) (p : Mobile) (tenure : Tenure) (o : Option (List ℕ)) →
    ((frame : List ℕ) → o ≡ Some frame → is_reached w tenure ≡ true → P (brought w p tenure.at sapi frame)) →
    OfTaken P (option_and_then (λ frame. only_if (is_reached w tenure) (brought w p tenure.at sapi frame)) o)
unfolding OfTaken
framed_leads P w sapi p tenure None h = tt
framed_leads P w sapi p tenure (Some frame) h = only_if-leads P (is_reached w tenure) (brought w p tenure.at sapi frame) (h frame refl)

brought_up_leads : (P : Actors → Type 0) (w : Actors) (sapi : Sapi) (p : Mobile) (seat : Seat) →
    ((tenure : Tenure) (command : Option Command) (frame : List ℕ) → seat ≡ On tenure command → frame_in (frame_answer p.end sapi) ≡ Some frame → is_reached w tenure ≡ true → P (brought w p tenure.at sapi frame)) →
    OfTaken P (brought_up w sapi p seat)
unfolding OfTaken
brought_up_leads P w sapi p (On tenure command) h = framed_leads P w sapi p tenure (frame_in (frame_answer p.end sapi)) (λ frame is up. h tenure command frame refl is up)
brought_up_leads P w sapi p _ h = tt

pub air_up_leads : (P : Actors → Type 0) (w : Actors) (number : ℕ) (sapi : Sapi) →
    ((p : Mobile) (tenure : Tenure) (command : Option Command) (frame : List ℕ) → mobile_of w number ≡ Some p → p.seat ≡ On tenure command → frame_in (frame_answer p.end sapi) ≡ Some frame → is_reached w tenure ≡ true → P (brought w p tenure.at sapi frame)) →
    OfTaken P (after_air_up w number sapi)
air_up_leads P w number sapi h =
    by_mobile-leads P w number (λ p. brought_up w sapi p p.seat) (λ p is. brought_up_leads P w sapi p p.seat (λ tenure command frame. h p tenure command frame is))

acknowledged_leads : (P : Actors → Type 0) (w : Actors) (sapi : Sapi) (p : Mobile) (seat : Seat) →
    P (with_mobile (record p { end = after_acked p.end sapi }) w) →
    OfTaken P (acknowledged w sapi p seat)
unfolding OfTaken
acknowledged_leads P w sapi p (On tenure command) h = only_if-leads P (is_reached w tenure && is_acknowledged p.end sapi) (with_mobile (record p { end = after_acked p.end sapi }) w) (λ _. h)
acknowledged_leads P w sapi p _ h = tt

pub air_ack_leads : (P : Actors → Type 0) (w : Actors) (number : ℕ) (sapi : Sapi) →
    ((p : Mobile) → mobile_of w number ≡ Some p → P (with_mobile (record p { end = after_acked p.end sapi }) w)) →
    OfTaken P (after_air_ack w number sapi)
air_ack_leads P w number sapi h = by_mobile-leads P w number (λ p. acknowledged w sapi p p.seat) (λ p is. acknowledged_leads P w sapi p p.seat (h p is))

-- what the mobile makes of the first message of the list, at this place
unfoldable pub FromAir : (Actors → Type 0) → Actors → (Mobile → AirMessage → Mobile) → Mobile → Tenure → Type 0
FromAir P w hears p tenure =
    (first : AirMessage) (others : List AirMessage) → (spot_at w tenure.at).air ≡ first ∷ others → P (with_mobile (hears p first) (with_spot tenure.at (record (spot_at w tenure.at) { air = others }) w))

taken_from_air_leads : (P : Actors → Type 0) (w : Actors) (hears : Mobile → AirMessage → Mobile) (p : Mobile) (tenure : Tenure) (air : List AirMessage) →
    (spot_at w tenure.at).air ≡ air →
    FromAir P w hears p tenure →
    OfTaken P (taken_from_air w hears p tenure.at air)
unfolding OfTaken FromAir
taken_from_air_leads P w hears p tenure [] is h = tt
taken_from_air_leads P w hears p tenure (first ∷ others) is h = h first others is

air_where : (P : Actors → Type 0) (b : Bool) (o : Option Actors) → (b ≡ true → OfTaken P o) → OfTaken P (if b then o else None)
unfolding OfTaken
air_where P true o h = h refl
air_where P false o h = tt

brought_down_leads : (P : Actors → Type 0) (w : Actors) (hears : Mobile → AirMessage → Mobile) (p : Mobile) (seat : Seat) →
    ((tenure : Tenure) (command : Option Command) → seat ≡ On tenure command → is_reached w tenure ≡ true → FromAir P w hears p tenure) →
    OfTaken P (brought_down w hears p seat)
unfolding OfTaken
brought_down_leads P w hears p (On tenure command) h =
    air_where P (is_reached w tenure) (taken_from_air w hears p tenure.at (spot_at w tenure.at).air) (λ up. taken_from_air_leads P w hears p tenure (spot_at w tenure.at).air refl (h tenure command refl up))
brought_down_leads P w hears p _ h = tt

pub air_down_leads : (P : Actors → Type 0) (w : Actors) (number : ℕ) →
    ((p : Mobile) (tenure : Tenure) (command : Option Command) → mobile_of w number ≡ Some p → p.seat ≡ On tenure command → is_reached w tenure ≡ true → FromAir P w hearing p tenure) →
    OfTaken P (after_air_down w number)
air_down_leads P w number h = by_mobile-leads P w number (λ p. brought_down w hearing p p.seat) (λ p is. brought_down_leads P w hearing p p.seat (λ tenure command. h p tenure command is))

pub air_down_lost_leads : (P : Actors → Type 0) (w : Actors) (number : ℕ) →
    ((p : Mobile) (tenure : Tenure) (command : Option Command) → mobile_of w number ≡ Some p → p.seat ≡ On tenure command → is_reached w tenure ≡ true → FromAir P w ignored p tenure) →
    OfTaken P (after_air_down_lost w number)
air_down_lost_leads P w number h = by_mobile-leads P w number (λ p. brought_down w ignored p p.seat) (λ p is. brought_down_leads P w ignored p p.seat (λ tenure command. h p tenure command is))

moved_leads : (P : Actors → Type 0) (w : Actors) (p : Mobile) (seat : Seat) →
    ((tenure : Tenure) (command : Command) → seat ≡ On tenure (Some command) → is_reached w tenure ≡ true → P (left w p tenure command)) →
    OfTaken P (moved w p seat)
unfolding OfTaken
moved_leads P w p (On tenure (Some command)) h = only_if-leads P (is_reached w tenure) (left w p tenure command) (h tenure command refl)
moved_leads P w p _ h = tt

pub move_leads : (P : Actors → Type 0) (w : Actors) (number : ℕ) →
    ((p : Mobile) (tenure : Tenure) (command : Command) → mobile_of w number ≡ Some p → p.seat ≡ On tenure (Some command) → is_reached w tenure ≡ true → P (left w p tenure command)) →
    OfTaken P (after_move w number)
move_leads P w number h = by_mobile-leads P w number (λ p. moved w p p.seat) (λ p is. moved_leads P w p p.seat (λ tenure command. h p tenure command is))

pub and_right : (a b : Bool) → a && b ≡ true → b ≡ true
and_right true b is = is
and_right false b is = absurd cc

pub and_left : (a b : Bool) → a && b ≡ true → a ≡ true
and_left true b is = refl
and_left false b is = absurd cc

touched_leads : (P : Actors → Type 0) (w : Actors) (seat : Seat) →
    ((from : Tenure) (command : Command) → seat ≡ Moving from command → is_reached w command.target ≡ true → P (with_message_made command.target.at.station (handover_detection command.target.at.number) w)) →
    OfTaken P (touched w seat)
unfolding OfTaken
touched_leads P w (Moving from command) h =
    only_if-leads P (is_to_handover command.change && is_reached w command.target) (with_message_made command.target.at.station (handover_detection command.target.at.number) w) (λ both. h from command refl (and_right (is_to_handover command.change) (is_reached w command.target) both))
touched_leads P w _ h = tt

pub touch_leads : (P : Actors → Type 0) (w : Actors) (number : ℕ) →
    ((command : Command) → is_reached w command.target ≡ true → P (with_message_made command.target.at.station (handover_detection command.target.at.number) w)) →
    OfTaken P (after_touch w number)
touch_leads P w number h = by_mobile-leads P w number (λ p. touched w p.seat) (λ p is. touched_leads P w p.seat (λ from command is_seat. h command))

arrived_leads : (P : Actors → Type 0) (w : Actors) (p : Mobile) (seat : Seat) →
    ((from : Tenure) (command : Command) → seat ≡ Moving from command → is_reached w command.target ≡ true → P (seated w p command.target (complete command.change))) →
    OfTaken P (arrived w p seat)
unfolding OfTaken
arrived_leads P w p (Moving from command) h = only_if-leads P (is_reached w command.target) (seated w p command.target (complete command.change)) (h from command refl)
arrived_leads P w p _ h = tt

pub arrive_leads : (P : Actors → Type 0) (w : Actors) (number : ℕ) →
    ((p : Mobile) (from : Tenure) (command : Command) → mobile_of w number ≡ Some p → p.seat ≡ Moving from command → is_reached w command.target ≡ true → P (seated w p command.target (complete command.change))) →
    OfTaken P (after_arriving w number)
arrive_leads P w number h = by_mobile-leads P w number (λ p. arrived w p p.seat) (λ p is. arrived_leads P w p p.seat (λ from command. h p from command is))

returned_leads : (P : Actors → Type 0) (w : Actors) (p : Mobile) (seat : Seat) →
    ((from : Tenure) (command : Command) → seat ≡ Moving from command → is_reached w from ≡ true → P (seated w p from (failure command.change))) →
    OfTaken P (returned w p seat)
unfolding OfTaken
returned_leads P w p (Moving from command) h = only_if-leads P (is_reached w from) (seated w p from (failure command.change)) (h from command refl)
returned_leads P w p _ h = tt

pub return_leads : (P : Actors → Type 0) (w : Actors) (number : ℕ) →
    ((p : Mobile) (from : Tenure) (command : Command) → mobile_of w number ≡ Some p → p.seat ≡ Moving from command → is_reached w from ≡ true → P (seated w p from (failure command.change))) →
    OfTaken P (after_return w number)
return_leads P w number h = by_mobile-leads P w number (λ p. returned w p p.seat) (λ p is. returned_leads P w p p.seat (λ from command. h p from command is))

reported_leads : (P : Actors → Type 0) (w : Actors) (report : List ℕ) (seat : Seat) →
    ((tenure : Tenure) → is_reached w tenure ≡ true → P (reported_at w tenure.at report)) →
    OfTaken P (reported w report seat)
unfolding OfTaken
reported_leads P w report (On tenure command) h =
    only_if-leads P (is_reached w tenure && (length report == REPORT_LENGTH)) (reported_at w tenure.at report) (λ both. h tenure (and_left (is_reached w tenure) (length report == REPORT_LENGTH) both))
reported_leads P w report _ h = tt

pub report-leads : (P : Actors → Type 0) (w : Actors) (number : ℕ) (report : List ℕ) →
    ((tenure : Tenure) → is_reached w tenure ≡ true → P (reported_at w tenure.at report)) →
    OfTaken P (after_report w number report)
report-leads P w number report h = by_mobile-leads P w number (λ p. reported w report p.seat) (λ p is. reported_leads P w report p.seat h)

-- ---- stations, queues, the switch

took_first_leads : (P : Actors → Type 0) (w : Actors) (station : ℕ) (entries : List OutboxEntry) →
    outbox_of w station ≡ entries →
    ((first : OutboxEntry) (others : List OutboxEntry) → outbox_of w station ≡ first ∷ others → OfTaken P (took station first.target (rsl_in first.out.frame) (with_outbox station others w))) →
    OfTaken P (took_first station entries w)
unfolding OfTaken
took_first_leads P w station [] is h = tt
took_first_leads P w station (first ∷ others) is h = h first others is

pub base_takes_leads : (P : Actors → Type 0) (w : Actors) (station : ℕ) →
    ((first : OutboxEntry) (others : List OutboxEntry) → is_station_up w station ≡ true → outbox_of w station ≡ first ∷ others → OfTaken P (took station first.target (rsl_in first.out.frame) (with_outbox station others w))) →
    OfTaken P (after_base_takes w station)
base_takes_leads P w station h =
    air_where P (is_station_up w station) (took_first station (outbox_of w station) w) (λ up. took_first_leads P w station (outbox_of w station) refl (λ first others. h first others up))

pub handle_leads : (P : Actors → Type 0) (w : Actors) →
    ((item : Item) (items : List Item) → w.inbox ≡ item ∷ items → P (with_turn (target_in w item.source item.what) (take item w.controller) (record w { inbox = items }))) →
    OfTaken P (after_handle w)
unfolding OfTaken
handle_leads P w h = by_items w.inbox refl where
  by_items : (items : List Item) → w.inbox ≡ items → OfTaken P (handled items w)
  by_items [] is = tt
  by_items (item ∷ items) is = h item items is

-- of the switch's link or of a station's
pub broken_leads : (P : Actors → Type 0) (w : Actors) (source : ℕ) →
    (is_up w source ≡ true → source ≡ SWITCH_LINK → P (with_item (record { source = source; what = whats.Down }) (record (with_link source broken_link w) { switch_made = [] }))) →
    (is_up w source ≡ true → source ≢ SWITCH_LINK → P (with_item (record { source = source; what = whats.Down }) (with_base source (after_take_down (base_of (with_link source broken_link w) source)) (with_link source broken_link w)))) →
    OfTaken P (after_break w source)
unfolding OfTaken
broken_leads P w source of_switch of_station = air_where P (is_up w source) (Some (broken source w)) (λ up. by_source up (nat_eq source SWITCH_LINK) refl) where
  by_source : is_up w source ≡ true →
      (b : Bool) →
      nat_eq source SWITCH_LINK ≡ b →
      P (with_item (record { source = source; what = whats.Down }) (if b then record (with_link source broken_link w) { switch_made = [] } else with_base source (after_take_down (base_of (with_link source broken_link w) source)) (with_link source broken_link w)))
  by_source up true is = of_switch up (eqb-true source SWITCH_LINK is)
  by_source up false is = of_station up (eqb-false source SWITCH_LINK is)

pub switch_takes_leads : (P : Actors → Type 0) (w : Actors) →
    ((first : OutboxEntry) (others : List OutboxEntry) → is_up w SWITCH_LINK ≡ true → outbox_of w SWITCH_LINK ≡ first ∷ others → P (switch_took (sccp_in first.out.frame) (with_outbox SWITCH_LINK others w))) →
    OfTaken P (after_switch_takes w)
unfolding OfTaken
switch_takes_leads P w h = air_where P (is_up w SWITCH_LINK) (switch_took_first (outbox_of w SWITCH_LINK) w) (λ up. by_entries up (outbox_of w SWITCH_LINK) refl) where
  by_entries : is_up w SWITCH_LINK ≡ true →
      (entries : List OutboxEntry) →
      outbox_of w SWITCH_LINK ≡ entries →
      OfTaken P (switch_took_first entries w)
  by_entries up [] is = tt
  by_entries up (first ∷ others) is = h first others up is

-- ---- sources and the switch

switch_push_leads : (P : Actors → Type 0) (w : Actors) (made : List Sccp) →
    ((first : Sccp) (others : List Sccp) → P (with_item (switch_item first) (record w { switch_made = others }))) →
    OfTaken P (pushed_by_switch made w)
unfolding OfTaken
switch_push_leads P w [] h = tt
switch_push_leads P w (first ∷ others) h = h first others

station_push_leads : (P : Actors → Type 0) (w : Actors) (station : ℕ) (o : Option Rsl) →
    first_message (base_of w station) ≡ o →
    ((message : Rsl) → first_message (base_of w station) ≡ Some message → P (with_item (station_item station message) (with_base station (after_next (base_of w station)) w))) →
    OfTaken P (pushed_by_station station o w)
unfolding OfTaken
station_push_leads P w station None is h = tt
station_push_leads P w station (Some message) is h = h message is

pub push_leads : (P : Actors → Type 0) (w : Actors) (source : ℕ) →
    ((first : Sccp) (others : List Sccp) → P (with_item (switch_item first) (record w { switch_made = others }))) →
    ((message : Rsl) → first_message (base_of w source) ≡ Some message → P (with_item (station_item source message) (with_base source (after_next (base_of w source)) w))) →
    OfTaken P (after_base_push w source)
push_leads P w source of_switch of_station = by_source (source == SWITCH_LINK) where
  by_source : (b : Bool) →
      OfTaken P (if b then pushed_by_switch w.switch_made w else pushed_by_station source (first_message (base_of w source)) w)
  by_source true = switch_push_leads P w w.switch_made of_switch
  by_source false = station_push_leads P w source (first_message (base_of w source)) refl of_station

sent_on_leads : (P : Actors → Type 0) (w : Actors) (connection : ℕ) (message : Bssap) (next : SwitchState) →
    ((made : List Sccp) → P (record w { switch = next; switch_made = made })) →
    OfTaken P (sent_on w connection message next)
sent_on_leads P w connection message next h = air_where P (may_send_on w connection) (Some (record w { switch = next; switch_made = w.switch_made ++ data_forms_on (connection_of w.switch.connections connection) message })) (λ _. taken) where
  taken : OfTaken P (Some (record w { switch = next; switch_made = w.switch_made ++ data_forms_on (connection_of w.switch.connections connection) message }))
  taken = some_leads P _ (h (w.switch_made ++ data_forms_on (connection_of w.switch.connections connection) message))

pub does_leads : (P : Actors → Type 0) (w : Actors) (action : SwitchAction) →
    ((next : SwitchState) (made : List Sccp) → P (record w { switch = next; switch_made = made })) →
    OfTaken P (after_switch_does w action)
does_leads P w (Assign connection) h = sent_on_leads P w connection assignment_request w.switch (h w.switch)
does_leads P w (Clear connection) h = sent_on_leads P w connection clear_command (after_clear w.switch connection) (h (after_clear w.switch connection))
does_leads P w (Dtap connection sapi message) h =
    air_where P (is_layer_3 message) (sent_on w connection (Transfer (dlci_for sapi) message) w.switch) (λ _. sent_on_leads P w connection (Transfer (dlci_for sapi) message) w.switch (h w.switch))

pub switch_took-leads : (P : Actors → Type 0) (w : Actors) (o : Option Sccp) →
    P w →
    ((next : SwitchState) (made : List Sccp) → P (record w { switch = next; switch_made = made })) →
    P (switch_took o w)
switch_took-leads P w None unchanged h = unchanged
switch_took-leads P w (Some message) unchanged h = h (after w.switch message) (w.switch_made ++ replies w.switch.connections message)

-- ---- what a station takes

-- the ways in which an entry that a station takes changes the world
pub record Taking (P : Actors → Type 0) (station : ℕ) (target : Option Tenure) (w : Actors) : Type 0 where
  pub nothing : P w
  pub activates : (channel : ℕ) →
      refusal_of_activate (base_of w station) channel ≡ None →
      P (with_spot (place_at station channel) (new_tenure (spot_at w (place_at station channel))) (with_base station (after_activate (base_of w station) channel) w))
  pub seats : (p : Mobile) (number channel : ℕ) →
      mobile_of w number ≡ Some p →
      p.seat ≡ Asking →
      P (with_mobile (record p { seat = On (tenure_at w (place_at station channel)) None }) w)
  pub airs : (channel : ℕ) (message : List ℕ) →
      is_active_at w (place_at station channel) ≡ true →
      P (with_spot (place_at station channel) (record (spot_at w (place_at station channel)) { air = (spot_at w (place_at station channel)).air ++ record { message = message; target = target } ∷ [] }) w)
  pub answers : (answer : Bool) (channel : ℕ) → P (answered answer (place_at station channel) w)
  pub releases : (channel : ℕ) → P (released (place_at station channel) w)

activated_leads : (P : Actors → Type 0) (station channel : ℕ) (target : Option Tenure) (w : Actors) (o : Option LinkFault) →
    refusal_of_activate (base_of w station) channel ≡ o →
    Taking P station target w →
    P (activated_unless o (place_at station channel) w)
activated_leads P station channel target w None is h = h.activates channel is
activated_leads P station channel target w (Some fault) is h = h.nothing

pub unless_last_leads : (P : Actors → Type 0) (b : Bool) (w : Actors) → P w → OfTaken P (if b then None else Some w)
unfolding OfTaken
unless_last_leads P true w h = tt
unless_last_leads P false w h = h

-- the mobile that a station seats
unfoldable pub Seats : (Actors → Type 0) → ℕ → Actors → Type 0
Seats P station w = (p : Mobile) (number channel : ℕ) → mobile_of w number ≡ Some p → p.seat ≡ Asking → P (with_mobile (record p { seat = On (tenure_at w (place_at station channel)) None }) w)

seated_from_leads : (P : Actors → Type 0) (station number channel : ℕ) (w : Actors) (p : Mobile) (seat : Seat) →
    mobile_of w number ≡ Some p →
    p.seat ≡ seat →
    P w →
    Seats P station w →
    P (assigned_from seat (tenure_at w (place_at station channel)) p w)
unfolding Seats
seated_from_leads P station number channel w p Asking found is nothing seats = seats p number channel found is
seated_from_leads P station number channel w p _ found is nothing seats = nothing

assigned_to_leads : (P : Actors → Type 0) (station number channel : ℕ) (w : Actors) (o : Option Mobile) →
    mobile_of w number ≡ o →
    P w →
    Seats P station w →
    P (assigned_to o (tenure_at w (place_at station channel)) w)
assigned_to_leads P station number channel w None found nothing seats = nothing
assigned_to_leads P station number channel w (Some p) found nothing seats = seated_from_leads P station number channel w p p.seat found refl nothing seats

assigned_in_leads : (P : Actors → Type 0) (station number channel : ℕ) (w : Actors) (b : Bool) →
    P w →
    Seats P station w →
    P (if b then assigned_to (mobile_of w number) (tenure_at w (place_at station channel)) w else w)
assigned_in_leads P station number channel w true nothing seats = assigned_to_leads P station number channel w (mobile_of w number) refl nothing seats
assigned_in_leads P station number channel w false nothing seats = nothing

pub assigned-leads : (P : Actors → Type 0) (station : ℕ) (w : Actors) (r : Result RrMessage RrFault) →
    P w →
    Seats P station w →
    P (assigned station r w)
assigned-leads P station w (Ok (ImmediateAssignment channel request advance)) nothing seats =
    assigned_in_leads P station (slice_index_or request 0 0) channel.channel.0 w (is_channel channel.channel.0) nothing seats
assigned-leads P station w _ nothing seats = nothing

aired_leads : (P : Actors → Type 0) (station channel : ℕ) (message : List ℕ) (target : Option Tenure) (w : Actors) (b : Bool) →
    is_active_at w (place_at station channel) ≡ b →
    Taking P station target w →
    P (if b then with_spot (place_at station channel) (record (spot_at w (place_at station channel)) { air = (spot_at w (place_at station channel)).air ++ record { message = message; target = target } ∷ [] }) w else w)
aired_leads P station channel message target w true is h = h.airs channel message is
aired_leads P station channel message target w false is h = h.nothing

pub took-leads : (P : Actors → Type 0) (station : ℕ) (target : Option Tenure) (o : Option Rsl) (w : Actors) →
    Taking P station target w →
    OfTaken P (took station target o w)
unfolding OfTaken Seats
took-leads P station target (Some (ChannelActivation a)) w h =
    unless_last_leads P ((spot_at w (place_at station a.channel)).tenure == MAX_TENURE) (activated (place_at station a.channel) w) (activated_leads P station a.channel target w (refusal_of_activate (base_of w station) a.channel) refl h)
took-leads P station target (Some (ImmediateAssignCommand i)) w h = assigned-leads P station w (rr_reading i.information) h.nothing h.seats
took-leads P station target (Some (DataRequest d)) w h = aired_leads P station d.channel d.l3 target w (is_active_at w (place_at station d.channel)) refl h
took-leads P station target (Some (EstablishRequest l)) w h = h.answers (is_active_at w (place_at station l.channel) && accepts (mobile_on w (tenure_at w (place_at station l.channel)))) l.channel
took-leads P station target (Some (RfChannelRelease channel)) w h = h.releases channel
took-leads P station target _ w h = h.nothing

-- ---- the actors after an event, taken or not

pub after_taken : (P : Actors → Type 0) (o : Option Actors) (w : Actors) → OfTaken P o → P w → P (unwrap_or o w)
unfolding OfTaken
after_taken P None w taken unchanged = unchanged
after_taken P (Some v) w taken unchanged = taken

-- ---- the controller's turn changes the controller and the links alone

joined_links : (w : Actors) (target : Option Tenure) (out : Out) →
    (links : List Link) × (joined_by target w out ≡ record w { links = links })
joined_links w target out = by_link (is_up w out.to) where
  by_link : (b : Bool) →
      (links : List Link) × ((if b then with_outbox out.to (outbox_of w out.to ++ entry_of target out ∷ []) w else w) ≡ record w { links = links })
  by_link true = (set w.links out.to (record (link_of w out.to) { outbox = outbox_of w out.to ++ entry_of target out ∷ [] }), refl)
  by_link false = (w.links, refl)

all_joined_links : (target : Option Tenure) (outs : List Out) (w : Actors) →
    (links : List Link) × (fold (joined_by target) w outs ≡ record w { links = links })
all_joined_links target [] w = (w.links, refl)
all_joined_links target (out ∷ outs) w =
    let one = joined_links w target out in
    let all = all_joined_links target outs (joined_by target w out) in
    (all.0, all.1 ∙ ap (λ (v : Actors). record v { links = all.0 }) one.1)

pub turn_leads : (P : Actors → Type 0) (target : Option Tenure) (t : Turn) (w : Actors) →
    ((links : List Link) → P (record w { controller = t.next; links = links })) →
    P (with_turn target t w)
turn_leads P target t w h =
    let all = all_joined_links target t.outs (record w { controller = t.next }) in
    subst P (sym all.1) (h all.0)

-- ---- the queues, the controller and the switch are unchanged

-- mobiles and a station's channels do it alone
abbrev pub is_aerial : Event → Bool
is_aerial (BaseTakes station) = false
is_aerial (BasePush source) = false
is_aerial Handle = false
is_aerial SwitchTakes = false
is_aerial (SwitchDoes action) = false
is_aerial (Tick ms) = false
is_aerial (BaseDown source) = false
is_aerial event = true

pub aerial_leads : (P : Actors → Type 0) (w : Actors) (event : Event) →
    is_aerial event ≡ true →
    ((mobiles : List Mobile) (stations : List Station) → P (record w { mobiles = mobiles; stations = stations })) →
    OfTaken P (event_after w event)
unfolding event_after FromAir
aerial_leads P w (Upper number sapi message) is h = upper_leads P w number sapi message (λ p _. h _ _)
aerial_leads P w (Connect number station initial accepts) is h = connect_leads P w number station initial accepts (λ _. h _ _)
aerial_leads P w (AirUp number sapi) is h = air_up_leads P w number sapi (λ p tenure command frame _ _ _ _. by sapi p tenure frame) where
  by : (sapi : Sapi) (p : Mobile) (tenure : Tenure) (frame : List ℕ) → P (brought w p tenure.at sapi frame)
  by Zero p tenure frame = h _ _
  by Three p tenure frame = h _ _
aerial_leads P w (AirAck number sapi) is h = air_ack_leads P w number sapi (λ p _. h _ _)
aerial_leads P w (AirDown number) is h = air_down_leads P w number (λ p tenure command _ _ _ first others _. h _ _)
aerial_leads P w (AirDownLost number) is h = air_down_lost_leads P w number (λ p tenure command _ _ _ first others _. h _ _)
aerial_leads P w (Move number) is h = move_leads P w number (λ p tenure command _ _ _. h _ _)
aerial_leads P w (Touch number) is h = touch_leads P w number (λ command _. h _ _)
aerial_leads P w (Arrive number) is h = arrive_leads P w number (λ p from command _ _ _. h _ _)
aerial_leads P w (Return number) is h = return_leads P w number (λ p from command _ _ _. h _ _)
aerial_leads P w (Report number report) is h = report-leads P w number report (λ tenure _. h _ _)
aerial_leads P w _ is h = absurd cc

-- and of a station that takes an entry, only its outbox changes beside
pub taking_leads : (P : Actors → Type 0) (w : Actors) (station : ℕ) →
    ((first : OutboxEntry) (others : List OutboxEntry) → is_station_up w station ≡ true → outbox_of w station ≡ first ∷ others → (mobiles : List Mobile) (stations : List Station) → P (record (with_outbox station others w) { mobiles = mobiles; stations = stations })) →
    OfTaken P (after_base_takes w station)
taking_leads P w station h = base_takes_leads P w station (λ first others up pending.
    let all : (mobiles : List Mobile) (stations : List Station) → P (record (with_outbox station others w) { mobiles = mobiles; stations = stations }) = h first others up pending in
    took-leads P station first.target (rsl_in first.out.frame) (with_outbox station others w) (record {
      nothing = all w.mobiles w.stations;
      activates = λ channel _. all _ _;
      seats = λ p number channel _ _. all _ _;
      airs = λ channel message _. all _ _;
      answers = λ answer channel. all _ _;
      releases = λ channel. all _ _;
    }))
