-- SPDX-License-Identifier: MIT OR Apache-2.0
-- A property that each small change of the actors keeps is kept by each event.
use Rattle.world_model.proofs.Prelude.{◌≡◌, ◌≢◌, ℕ, suc, zero, ◌+◌, ◌-◌, ◌==◌, ◌&&◌, Bool, true, false, if◌then◌else◌, List, [], ◌∷◌, ◌++◌}
use Rattle.world_model.proofs.Prelude.{length, set, get_or, Option, Some, None, refl, ap, subst}
use Rattle.world_model.proofs.Prelude.{is_none, Controller, place_at, take, tick, Place, SWITCH_LINK, Sapi, Zero, Three, LinkFault}
use Rattle.world_model.proofs.Prelude.{refusal_of_activate, after_acked, after_arrival, after_next, after_queue, after_take_down, after_tell}
use Rattle.world_model.proofs.Prelude.{first_message, frame_answer, refusal_of_connect, refusal_of_send, data_indication}
use Rattle.world_model.proofs.Prelude.{establish_indication, Item, Rsl, Activation, ChannelActivation, DataRequest, EstablishRequest}
use Rattle.world_model.proofs.Prelude.{ImmediateAssignCommand, RfChannelRelease, rr_reading, Sccp}
use Rattle.rsl_codec.specs.declared.radio_link.Data.{Data}
use Rattle.rsl_codec.specs.declared.radio_link.Link.{Link as LinkOf}
use Rattle.std.specs.Prelude.{◌%◌}
use Rattle.world_model.specs.Life.{event_after}
use Rattle.world_model.specs.Mobiles.{with_message_made, may_send, sent_by, channel_required, connected, is_new, frame_in, framed, signalling_brought, short_message_brought, brought, hearing, handover_detection, complete, failure, measurement_result, reported_at, reported}
use Rattle.world_model.proofs.Honesty.{reached_up, up_right}
use Rattle.world_model.proofs.Leads.{OfTaken, FromAir, Seats, only_if-leads, by_mobile-leads, connect_leads, air_up_leads, air_ack_leads, air_down_leads, air_down_lost_leads, move_leads, touch_leads, arrive_leads, return_leads, base_takes_leads, switch_takes_leads, switch_took-leads, push_leads, does_leads, broken_leads, handle_leads, turn_leads, assigned-leads, unless_last_leads, after_taken, and_left, and_right}
use Rattle.world_model.proofs.Ticketing.{reached_station, spot_with_base}
use Rattle.world_model.proofs.Leads.{is_aerial}
use Rattle.world_model.proofs.Prelude.{Change, Assignment, Handover, Ok, Result, RrMessage, RrFault, AssignmentCommand, HandoverCommand}
use Rattle.world_model.proofs.Prelude.{is_dtap, REPORT_LENGTH, after_leave, SwitchState, Event, Upper, Connect, AirUp, AirAck, AirDown}
use Rattle.world_model.proofs.Prelude.{AirDownLost, Move, Touch, Arrive, Return, BaseTakes, BasePush, Handle, SwitchTakes, SwitchDoes, Tick}
use Rattle.world_model.proofs.Prelude.{BaseDown, Report, AirMessage, OutboxEntry, MAX_TENURE, Command, Seat, Asking, On, Moving, Tenure}
use Rattle.world_model.proofs.Prelude.{actors_after, target_in, rsl_in, activated, activated_unless, accepts, mobile_on, link_answer}
use Rattle.world_model.proofs.Prelude.{answered, released, took, sccp_in, Actors, Mobile, Spot, Station, Link, is_up, is_station_up}
use Rattle.world_model.proofs.Prelude.{outbox_of, with_outbox, mobile_of, with_mobile, no_station, base_of, with_base, spot_at, with_spot}
use Rattle.world_model.proofs.Prelude.{is_active_at, tenure_at, is_reached}
use Rattle.world_model.specs.Mobiles.{remembering, controlled}

-- ---- what a mobile hears changes its seat, or what it received

hearing-same : (p : Mobile) (a : AirMessage) → hearing p a ≡ record p { seat = (hearing p a).seat; received = (hearing p a).received }
hearing-same p a = by_kind (is_dtap a.message) where
  Same : Mobile → Type 0
  Same q = q ≡ record p { seat = q.seat; received = q.received }

  by_seat : (change : Change) (target : Tenure) (seat : Seat) → Same (remembering p change target seat)
  by_seat change target Asking = refl
  by_seat change target _ = refl

  by_message : (target : Option Tenure) (r : Result RrMessage RrFault) → Same (controlled p target r)
  by_message (Some target) (Ok (AssignmentCommand channel)) = by_seat Assignment target p.seat
  by_message (Some target) (Ok (HandoverCommand cell channel reference)) = by_seat Handover target p.seat
  by_message None (Ok (AssignmentCommand channel)) = refl
  by_message None (Ok (HandoverCommand cell channel reference)) = refl
  by_message target _ = refl

  by_kind : (b : Bool) →
      Same (if b then record p { received = p.received ++ a.message ∷ [] } else controlled p a.target (rr_reading a.message))
  by_kind true = refl
  by_kind false = by_message a.target (rr_reading a.message)

pub hearing-end : (p : Mobile) (a : AirMessage) → (hearing p a).end ≡ p.end
hearing-end p a = ap (λ (q : Mobile). q.end) (hearing-same p a)

pub hearing-opens : (p : Mobile) (a : AirMessage) → (hearing p a).opens ≡ p.opens
hearing-opens p a = ap (λ (q : Mobile). q.opens) (hearing-same p a)

pub hearing-number : (p : Mobile) (a : AirMessage) → (hearing p a).number ≡ p.number
hearing-number p a = ap (λ (q : Mobile). q.number) (hearing-same p a)

-- ---- what happens to mobiles and stations

-- a mobile on a channel has this frame for the station
pub record Lends (w : Actors) (number : ℕ) (sapi : Sapi) (p : Mobile) (tenure : Tenure) (frame : List ℕ) : Type 0 where
  pub found : mobile_of w number ≡ Some p
  pub command : Option Command
  pub seat : p.seat ≡ On tenure command
  pub lent : frame_in (frame_answer p.end sapi) ≡ Some frame
  pub reached : is_reached w tenure ≡ true

-- a station takes this message from its outbox
pub record Takes (w : Actors) (event : Event) (station : ℕ) (message : Rsl) : Type 0 where
  pub event_is : event ≡ BaseTakes station
  pub first : OutboxEntry
  pub others : List OutboxEntry
  pub up : is_station_up w station ≡ true
  pub pending : outbox_of w station ≡ first ∷ others
  pub is : rsl_in first.out.frame ≡ Some message

-- its upper layers may send this, and one may connect there with this
abbrev pub MaySend : Sapi → List ℕ → Mobile → Type 0
MaySend sapi message p = may_send p.seat && is_none (refusal_of_send p.end sapi message) ≡ true

abbrev pub MayConnect : Actors → ℕ → ℕ → List ℕ → Type 0
MayConnect w number station initial = is_new w number && is_station_up w station && is_none (refusal_of_connect (Some initial)) ≡ true

abbrev pub queued : Sapi → List ℕ → Mobile → Mobile
queued sapi message p = record p { end = after_queue p.end sapi message }

abbrev pub came_to : Tenure → List ℕ → Mobile → Mobile
came_to tenure control p = record p { end = after_arrival p.end control; seat = On tenure None }

abbrev pub left_for : Tenure → Command → Mobile → Mobile
left_for tenure command p = record p { end = after_leave p.end; seat = Moving tenure command; opens = false }

-- a mobile of this number, before and after
pub data Becomes (w : Actors) (number : ℕ) : Event → Mobile → Mobile → Type 0 where
  queues : (sapi : Sapi) (message : List ℕ) (p : Mobile) →
      MaySend sapi message p →
      Becomes w number (Upper number sapi message) p (queued sapi message p)
  opens : (p : Mobile) (tenure : Tenure) (frame : List ℕ) → Lends w number Zero p tenure frame
      → Becomes w number (AirUp number Zero) p (record (framed p Zero) { opens = false })
  lends : (p : Mobile) (tenure : Tenure) (frame : List ℕ) →
      Lends w number Three p tenure frame →
      Becomes w number (AirUp number Three) p (framed p Three)
  is_acked : (sapi : Sapi) (p : Mobile) → Becomes w number (AirAck number sapi) p (record p { end = after_acked p.end sapi })
  hears : (p : Mobile) (tenure : Tenure) (command : Option Command) (first : AirMessage) (others : List AirMessage)
      → p.seat ≡ On tenure command → is_reached w tenure ≡ true → (spot_at w tenure.at).air ≡ first ∷ others → Becomes w number (AirDown number) p (hearing p first)
  misses : (p : Mobile) → Becomes w number (AirDownLost number) p p
  leaves : (p : Mobile) (tenure : Tenure) (command : Command) → p.seat ≡ On tenure (Some command) → is_reached w tenure ≡ true
      → Becomes w number (Move number) p (left_for tenure command p)
  arrives : (p : Mobile) (from : Tenure) (command : Command) → p.seat ≡ Moving from command → is_reached w command.target ≡ true
      → Becomes w number (Arrive number) p (came_to command.target (complete command.change) p)
  returns : (p : Mobile) (from : Tenure) (command : Command) → p.seat ≡ Moving from command → is_reached w from ≡ true
      → Becomes w number (Return number) p (came_to from (failure command.change) p)
  sits : (station : ℕ) (p : Mobile) (channel : ℕ) → p.seat ≡ Asking
      → Becomes w number (BaseTakes station) p (record p { seat = On (tenure_at w (place_at station channel)) None })

-- it keeps its number
pub became_number : {w : Actors} {number : ℕ} {event : Event} {p q : Mobile} → Becomes w number event p q → q.number ≡ p.number
became_number (hears p tenure command first others seat reached pending) = hearing-number p first
became_number _ = refl

-- what a station makes, but acknowledgements
pub data Tells (w : Actors) : Event → ℕ → Rsl → Type 0 where
  requires : (number station : ℕ) (initial : List ℕ) (accepts : Bool) →
      Tells w (Connect number station initial accepts) station (channel_required number)
  opens_with : (number : ℕ) (p : Mobile) (tenure : Tenure) (frame : List ℕ) → Lends w number Zero p tenure frame
      → Tells w (AirUp number Zero) tenure.at.station (establish_indication tenure.at.number Zero (Some frame))
  brings : (number : ℕ) (sapi : Sapi) (p : Mobile) (tenure : Tenure) (frame : List ℕ) → Lends w number sapi p tenure frame
      → Tells w (AirUp number sapi) tenure.at.station (data_indication tenure.at.number sapi frame)
  links : (number : ℕ) (p : Mobile) (tenure : Tenure) (frame : List ℕ) → Lends w number Three p tenure frame
      → Tells w (AirUp number Three) tenure.at.station (establish_indication tenure.at.number Three None)
  detects : (number : ℕ) (tenure : Tenure) →
      is_reached w tenure ≡ true →
      Tells w (Touch number) tenure.at.station (handover_detection tenure.at.number)
  establishes : {event : Event} (tenure : Tenure) → is_reached w tenure ≡ true
      → Tells w event tenure.at.station (establish_indication tenure.at.number Zero None)
  answers : (station : ℕ) (l : LinkOf) (answer : Bool) → Takes w (BaseTakes station) station (EstablishRequest l)
      → Tells w (BaseTakes station) station (link_answer answer l.channel)
  reports : (number : ℕ) (report : List ℕ) (tenure : Tenure) → is_reached w tenure ≡ true → (length report == REPORT_LENGTH) ≡ true
      → Tells w (Report number report) tenure.at.station (measurement_result tenure.at.number (spot_at w tenure.at).reports report)

abbrev pub with_short : Bool → Spot → Spot
with_short up spot = record spot { sapi_three_up = up }

abbrev pub with_air : List AirMessage → Spot → Spot
with_air air spot = record spot { air = air }

abbrev pub left_spot : Spot → Spot
left_spot spot = record spot { air = []; sapi_three_up = false }

abbrev pub counted : Spot → Spot
counted spot = record spot { reports = (spot.reports + 1) % 256 }

abbrev pub joined_air : AirMessage → Spot → Spot
joined_air message spot = record spot { air = spot.air ++ message ∷ [] }

-- a channel of the actors in between, but where a tenure begins or ends
pub data Respots (w u : Actors) : Event → Place → Spot → Type 0 where
  short_up : (number : ℕ) (tenure : Tenure) →
      is_reached w tenure ≡ true →
      Respots w u (AirUp number Three) tenure.at (with_short true (spot_at u tenure.at))
  down_by_break : {event : Event} (tenure : Tenure) (first : AirMessage) (others : List AirMessage)
      → is_reached u tenure ≡ true → (spot_at u tenure.at).air ≡ first ∷ others → Respots w u event tenure.at (with_air others (spot_at u tenure.at))
  is_left : (number : ℕ) (tenure : Tenure) →
      is_reached u tenure ≡ true →
      Respots w u (Move number) tenure.at (left_spot (spot_at u tenure.at))
  counts : (number : ℕ) (report : List ℕ) (tenure : Tenure) → is_reached u tenure ≡ true
      → Respots w u (Report number report) tenure.at (counted (spot_at u tenure.at))
  airs : (station : ℕ) (d : Data) (taken : Takes w (BaseTakes station) station (DataRequest d)) → is_active_at u (place_at station d.channel) ≡ true
      → Respots w u (BaseTakes station) (place_at station d.channel)
      (joined_air (record { message = d.l3; target = taken.first.target }) (spot_at u (place_at station d.channel)))
  asks_up : (station : ℕ) (l : LinkOf) (answer : Bool) → Takes w (BaseTakes station) station (EstablishRequest l)
      → Respots w u (BaseTakes station) (place_at station l.channel) (with_short answer (spot_at u (place_at station l.channel)))

-- a mobile connects
pub data Joins (w : Actors) : Event → ℕ → List ℕ → Bool → Type 0 where
  connects : (number station : ℕ) (initial : List ℕ) (accepts : Bool) → MayConnect w number station initial
      → Joins w (Connect number station initial accepts) number initial accepts

-- another is put behind the others
abbrev pub joined_by_mobile : ℕ → List ℕ → Bool → Actors → Actors
joined_by_mobile number initial accepts w = record w { mobiles = w.mobiles ++ connected w.modulus number initial accepts ∷ [] }

-- What each change keeps. The actors in between are those that a part of the event made of them.
pub record OnAir (P : Actors → Type 0) (w : Actors) (event : Event) : Type 0 where
  -- a mobile changes
  pub puts : (u : Actors) (number : ℕ) (p q : Mobile) → mobile_of w number ≡ Some p → u.mobiles ≡ w.mobiles → Becomes w number event p q
      → P u → P (with_mobile q u)
  pub joins : (number : ℕ) (initial : List ℕ) (accepts : Bool) → Joins w event number initial accepts
      → P w → P (joined_by_mobile number initial accepts w)
  -- a station makes a message
  pub tells : (u : Actors) (n : ℕ) (message : Rsl) →
      is_station_up w n ≡ true →
      Tells w event n message →
      P u →
      P (with_message_made n message u)
  -- a channel changes
  pub spots : (u : Actors) (at : Place) (spot : Spot) → at.station ≢ 0 → Respots w u event at spot → P u → P (with_spot at spot u)
  -- a station takes an entry, and a tenure begins or ends
  pub pops : (station : ℕ) (others : List OutboxEntry) → is_station_up w station ≡ true → P w → P (with_outbox station others w)
  pub activates : (u : Actors) (station : ℕ) (a : Activation) → Takes w event station (ChannelActivation a)
      → refusal_of_activate (base_of u station) a.channel ≡ None → P u → P (activated_unless None (place_at station a.channel) u)
  pub releases : (u : Actors) (station channel : ℕ) → Takes w event station (RfChannelRelease channel)
      → P u → P (released (place_at station channel) u)

-- ---- by each event

-- two messages, one after the other
abbrev changed_at : ℕ → (Station → Station) → List Station → List Station
changed_at k f stations = set stations k (f (get_or stations k no_station))

twice_set : (stations : List Station) (k : ℕ) (f g : Station → Station) →
    changed_at k g (changed_at k f stations) ≡ changed_at k (λ s. g (f s)) stations
twice_set [] k f g = refl
twice_set (s ∷ ss) zero f g = refl
twice_set (s ∷ ss) (suc k) f g = ap (λ (xs : List Station). s ∷ xs) (twice_set ss k f g)

with_message_made-twice : (n : ℕ) (one other : Rsl) (u : Actors) →
    with_message_made n other (with_message_made n one u) ≡ with_base n (after_tell (after_tell (base_of u n) one) other) u
with_message_made-twice n one other u =
    ap (λ (stations : List Station). record u { stations = stations })
    (twice_set u.stations (n - 1) (λ s. record s { base = after_tell s.base one }) (λ s. record s { base = after_tell s.base other }))

-- on a channel that a mobile reaches
reached_tell : (P : Actors → Type 0) (w : Actors) {event : Event} (tenure : Tenure) (message : Rsl) → OnAir P w event → is_reached w tenure ≡ true
    → Tells w event tenure.at.station message → P w → P (with_message_made tenure.at.station message w)
reached_tell P w tenure message air reached how h = air.tells w tenure.at.station message (reached_up w tenure reached).0 how h

reached_spot : (P : Actors → Type 0) (w : Actors) {event : Event} (tenure : Tenure) (spot : Spot) → OnAir P w event → is_reached w tenure ≡ true
    → Respots w w event tenure.at spot → P w → P (with_spot tenure.at spot w)
reached_spot P w tenure spot air reached how h = air.spots w tenure.at spot (reached_station w tenure reached) how h

brought_keeps : (P : Actors → Type 0) (w : Actors) (number : ℕ) (sapi : Sapi) (p : Mobile) (tenure : Tenure) (frame : List ℕ)
    → OnAir P w (AirUp number sapi) → Lends w number sapi p tenure frame → P w → P (brought w p tenure.at sapi frame)
brought_keeps P w number Zero p tenure frame air lent h =
    air.puts _ number p _ lent.found refl (opens p tenure frame lent) (by p.opens) where
      by : (b : Bool) → P (with_base tenure.at.station (signalling_brought (base_of w tenure.at.station) tenure.at.number b frame) w)
      by true = reached_tell P w tenure _ air lent.reached (opens_with number p tenure frame lent) h
      by false = reached_tell P w tenure _ air lent.reached (brings number Zero p tenure frame lent) h
brought_keeps P w number Three p tenure frame air lent h =
    let v : Actors = with_base tenure.at.station (short_message_brought (base_of w tenure.at.station) tenure.at.number (spot_at w tenure.at).sapi_three_up frame) w in
    air.puts (with_spot tenure.at (with_short true (spot_at w tenure.at)) v) number p _ lent.found refl (lends p tenure frame lent)
    (subst (λ (spot : Spot). P (with_spot tenure.at (with_short true spot) v)) (spot_with_base tenure.at.station _ w tenure.at)
    (air.spots v tenure.at _ (reached_station w tenure lent.reached) (short_up number tenure lent.reached) (by (spot_at w tenure.at).sapi_three_up))) where
      up : is_station_up w tenure.at.station ≡ true
      up = (reached_up w tenure lent.reached).0

      by : (b : Bool) → P (with_base tenure.at.station (short_message_brought (base_of w tenure.at.station) tenure.at.number b frame) w)
      by true = air.tells w tenure.at.station _ up (brings number Three p tenure frame lent) h
      by false =
          let link : Rsl = establish_indication tenure.at.number Three None in
          subst P (with_message_made-twice tenure.at.station link (data_indication tenure.at.number Three frame) w)
          (air.tells (with_message_made tenure.at.station link w) tenure.at.station _ up (brings number Three p tenure frame lent)
          (air.tells w tenure.at.station link up (links number p tenure frame lent) h))

took_keeps : (P : Actors → Type 0) (w : Actors) (station : ℕ) (first : OutboxEntry) (others : List OutboxEntry) (o : Option Rsl)
    → OnAir P w (BaseTakes station) → is_station_up w station ≡ true → outbox_of w station ≡ first ∷ others → rsl_in first.out.frame ≡ o
    → P (with_outbox station others w) → OfTaken P (took station first.target o (with_outbox station others w))
unfolding OfTaken Seats
took_keeps P w station first others (Some (ChannelActivation a)) air up pending is h =
    unless_last_leads P ((spot_at u at).tenure == MAX_TENURE) (activated at u) (by (refusal_of_activate (base_of u station) a.channel) refl) where
      u : Actors
      u = with_outbox station others w

      at : Place
      at = place_at station a.channel

      by : (o : Option LinkFault) → refusal_of_activate (base_of u station) a.channel ≡ o → P (activated_unless o at u)
      by None free = air.activates u station a (record { event_is = refl; first = first; others = others; up = up; pending = pending; is = is }) free h
      by (Some fault) free = h
took_keeps P w station first others (Some (ImmediateAssignCommand i)) air up pending is h =
    assigned-leads P station (with_outbox station others w) (rr_reading i.information) h
    (λ p number channel found asks. air.puts (with_outbox station others w) number p _ found refl (sits station p channel asks) h)
took_keeps P w station first others (Some (DataRequest d)) air up pending is h = by (is_active_at u at) refl where
  u : Actors
  u = with_outbox station others w

  at : Place
  at = place_at station d.channel

  taken : Takes w (BaseTakes station) station (DataRequest d)
  taken = record { event_is = refl; first = first; others = others; up = up; pending = pending; is = is }

  message : AirMessage
  message = record { message = d.l3; target = first.target }

  by : (b : Bool) → is_active_at u at ≡ b → P (if b then with_spot at (joined_air message (spot_at u at)) u else u)
  by true active = air.spots u at _ (up_right station w up).0 (airs station d taken active) h
  by false active = h
took_keeps P w station first others (Some (EstablishRequest l)) air up pending is h = by (is_active_at u at && accepts (mobile_on u (tenure_at u at))) where
  u : Actors
  u = with_outbox station others w

  at : Place
  at = place_at station l.channel

  taken : Takes w (BaseTakes station) station (EstablishRequest l)
  taken = record { event_is = refl; first = first; others = others; up = up; pending = pending; is = is }

  by : (answer : Bool) → P (answered answer at u)
  by answer = air.tells _ station _ up (answers station l answer taken) (air.spots u at _ (up_right station w up).0 (asks_up station l answer taken) h)
took_keeps P w station first others (Some (RfChannelRelease channel)) air up pending is h =
    air.releases (with_outbox station others w) station channel (record { event_is = refl; first = first; others = others; up = up; pending = pending; is = is }) h
took_keeps P w station first others _ air up pending is h = h

-- a station takes an entry, or the queues, the controller and the switch are unchanged
abbrev pub is_on_air : Event → Bool
is_on_air (BaseTakes station) = true
is_on_air event = is_aerial event

pub air_leads : (P : Actors → Type 0) (w : Actors) (event : Event) →
    is_on_air event ≡ true →
    OnAir P w event →
    P w →
    OfTaken P (event_after w event)
unfolding event_after FromAir OfTaken
air_leads P w (Upper number sapi message) is air h =
    by_mobile-leads P w number (sent_by w sapi message) (λ p found.
    only_if-leads P (may_send p.seat && is_none (refusal_of_send p.end sapi message)) _ (λ may. air.puts w number p _ found refl (queues sapi message p may) h))
air_leads P w (Connect number station initial accepts) is air h =
    connect_leads P w number station initial accepts (λ may.
    let both = and_left (is_new w number && is_station_up w station) (is_none (refusal_of_connect (Some initial))) may in
    air.tells _ station _ (and_right (is_new w number) (is_station_up w station) both) (requires number station initial accepts)
    (air.joins number initial accepts (connects number station initial accepts may) h))
air_leads P w (AirUp number sapi) is air h =
    air_up_leads P w number sapi (λ p tenure command frame found seat lent reached.
    brought_keeps P w number sapi p tenure frame air (record { found = found; command = command; seat = seat; lent = lent; reached = reached }) h)
air_leads P w (AirAck number sapi) is air h = air_ack_leads P w number sapi (λ p found. air.puts w number p _ found refl (is_acked sapi p) h)
air_leads P w (AirDown number) is air h =
    air_down_leads P w number (λ p tenure command found seat reached first others pending.
    air.puts _ number p _ found refl (hears p tenure command first others seat reached pending)
    (reached_spot P w tenure _ air reached (down_by_break tenure first others reached pending) h))
air_leads P w (AirDownLost number) is air h =
    air_down_lost_leads P w number (λ p tenure command found seat reached first others pending.
    air.puts _ number p _ found refl (misses p) (reached_spot P w tenure _ air reached (down_by_break tenure first others reached pending) h))
air_leads P w (Move number) is air h =
    move_leads P w number (λ p tenure command found seat reached.
    air.puts _ number p _ found refl (leaves p tenure command seat reached) (reached_spot P w tenure _ air reached (is_left number tenure reached) h))
air_leads P w (Touch number) is air h =
    touch_leads P w number (λ command reached. reached_tell P w command.target _ air reached (detects number command.target reached) h)
air_leads P w (Arrive number) is air h =
    arrive_leads P w number (λ p from command found seat reached.
    air.puts _ number p _ found refl (arrives p from command seat reached) (reached_tell P w command.target _ air reached (establishes command.target reached) h))
air_leads P w (Return number) is air h =
    return_leads P w number (λ p from command found seat reached.
    air.puts _ number p _ found refl (returns p from command seat reached) (reached_tell P w from _ air reached (establishes from reached) h))
air_leads P w (BaseTakes station) is air h =
    base_takes_leads P w station (λ first others up pending. took_keeps P w station first others (rsl_in first.out.frame) air up pending refl (air.pops station others up h))
air_leads P w (Report number report) is air h =
    by_mobile-leads P w number (λ p. reported w report p.seat) (λ p found. by p.seat) where
      by : (seat : Seat) → OfTaken P (reported w report seat)
      by (On tenure command) = only_if-leads P (is_reached w tenure && (length report == REPORT_LENGTH)) (reported_at w tenure.at report) (λ both.
          let reached = and_left (is_reached w tenure) (length report == REPORT_LENGTH) both in
          let long = and_right (is_reached w tenure) (length report == REPORT_LENGTH) both in
          air.tells _ tenure.at.station _ (reached_up w tenure reached).0 (reports number report tenure reached long)
          (reached_spot P w tenure _ air reached (counts number report tenure reached) h))
      by _ = tt
air_leads P w _ is air h = absurd cc

pub air_after : (P : Actors → Type 0) (w : Actors) (event : Event) →
    is_on_air event ≡ true →
    OnAir P w event →
    P w →
    P (actors_after w event)
air_after P w event is air h = after_taken P (event_after w event) w (air_leads P w event is air h) h

-- ---- where mobiles and stations are unchanged, but for what a source made

pub record InQueues (P : Actors → Type 0) (w : Actors) : Type 0 where
  -- the inbox, the controller, the switch and the links change
  pub rest : (u : Actors) (inbox : List Item) (controller : Controller) (switch : SwitchState) (made : List Sccp) (links : List Link)
      → P u → P (record u { inbox = inbox; controller = controller; switch = switch; switch_made = made; links = links })
  -- a message that a station made is removed, or all of them are
  pub next : (source : ℕ) (message : Rsl) →
      first_message (base_of w source) ≡ Some message →
      P w →
      P (with_base source (after_next (base_of w source)) w)
  pub down : (source : ℕ) → is_up w source ≡ true → source ≢ SWITCH_LINK → P w → P (with_base source (after_take_down (base_of w source)) w)

pub queues_lead : (P : Actors → Type 0) (w : Actors) (event : Event) →
    is_on_air event ≡ false →
    InQueues P w →
    P w →
    OfTaken P (event_after w event)
unfolding event_after OfTaken
queues_lead P w (BasePush source) is lists h =
    push_leads P w source (λ first others. lists.rest w _ _ _ _ _ h)
    (λ message first. lists.rest (with_base source (after_next (base_of w source)) w) _ _ _ _ _ (lists.next source message first h))
queues_lead P w Handle is lists h = handle_leads P w (λ item items _.
    turn_leads P (target_in w item.source item.what) (take item w.controller) (record w { inbox = items }) (λ links. lists.rest w _ _ _ _ _ h))
queues_lead P w SwitchTakes is lists h = switch_takes_leads P w (λ first others _ _.
    switch_took-leads P (with_outbox SWITCH_LINK others w) (sccp_in first.out.frame) (lists.rest w _ _ _ _ _ h) (λ next made. lists.rest w _ _ _ _ _ h))
queues_lead P w (SwitchDoes action) is lists h = does_leads P w action (λ next made. lists.rest w _ _ _ _ _ h)
queues_lead P w (Tick ms) is lists h = turn_leads P None (tick ms w.controller) w (λ links. lists.rest w _ _ _ _ _ h)
queues_lead P w (BaseDown source) is lists h =
    broken_leads P w source (λ _ _. lists.rest w _ _ _ _ _ h)
    (λ up other. lists.rest (with_base source (after_take_down (base_of w source)) w) _ _ _ _ _ (lists.down source up other h))
queues_lead P w _ is lists h = absurd cc

pub queues_after : (P : Actors → Type 0) (w : Actors) (event : Event) →
    is_on_air event ≡ false →
    InQueues P w →
    P w →
    P (actors_after w event)
queues_after P w event is lists h = after_taken P (event_after w event) w (queues_lead P w event is lists h) h

-- what the changes of both kinds keep, each event keeps
pub event-keeps : (P : Actors → Type 0) (w : Actors) (event : Event) → OnAir P w event → InQueues P w → P w → P (actors_after w event)
event-keeps P w event air lists h = by (is_on_air event) refl where
  by : (b : Bool) → is_on_air event ≡ b → P (actors_after w event)
  by true is = air_after P w event is air h
  by false is = queues_after P w event is lists h
