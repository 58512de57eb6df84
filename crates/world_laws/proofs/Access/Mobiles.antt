-- SPDX-License-Identifier: MIT OR Apache-2.0
-- What becomes of each mobile at an event in which neither the controller nor a mobile's frame of
-- SAPI 0 takes part.
use Rattle.world_laws.proofs.Prelude.{◌≡◌, ℕ, ◌==◌, ◌&&◌, nat_eq, Bool, true, false, if◌then◌else◌, List, [], ◌∷◌, ◌++◌, find}
use Rattle.world_laws.proofs.Prelude.{slice_index_or, Option, Some, None, Ok, refl, sym, ap, ◌∙◌, subst, inl, inr, ◌⊎◌, is_none}
use Rattle.world_laws.proofs.Prelude.{eqb-true, eqb-false, SWITCH_LINK, place_at, ChannelDescription, RrMessage, ImmediateAssignment}
use Rattle.world_laws.proofs.Prelude.{RrFault, Sapi, Three, LinkFault, refusal_of_activate, after_acked, after_arrival, after_leave}
use Rattle.world_laws.proofs.Prelude.{after_queue, refusal_of_send, is_channel, Rsl, Event, MAX_TENURE, AirMessage, OutboxEntry, Command}
use Rattle.world_laws.proofs.Prelude.{Seat, Asking, On, Moving, Tenure, complete, connected, failure, framed, hearing, may_send}
use Rattle.world_laws.proofs.Prelude.{sent_by, activated, activated_unless, rsl_in, took, sccp_in, Actors, Mobile, base_of, has_number}
use Rattle.world_laws.proofs.Prelude.{is_active_at, is_reached, is_station_up, mobile_of, outbox_of, put_back, spot_at, tenure_at}
use Rattle.world_laws.proofs.Prelude.{with_mobile, with_outbox, with_spot, back_found, back_other, number_found, air_down_leads}
use Rattle.world_laws.proofs.Prelude.{air_down_lost_leads, air_up_leads, arrive_leads, base_takes_leads, broken_leads, by_mobile-leads}
use Rattle.world_laws.proofs.Prelude.{connect_leads, does_leads, move_leads, only_if-leads, push_leads, report-leads, return_leads}
use Rattle.world_laws.proofs.Prelude.{switch_takes_leads, switch_took-leads, touch_leads, unless_last_leads, hearing-number, same_Some}
use Rattle.world_laws.proofs.Prelude.{and_right, and_left, found_front, Result, rr_reading, assigned, assigned_from, assigned_to}
use Rattle.mobile_end.specs.Mobile.{is_acknowledged}
use Rattle.rsl_codec.specs.declared.common_channel.ImmediateAssignment.{ImmediateAssignment as AssignCommand}
use Rattle.rsl_codec.specs.declared.rsl.Rsl.TheVariants as rsl
use Rattle.world_model.specs.declared.event.Event.TheVariants as events
use Rattle.world_model.specs.Life.{event_after}
use Rattle.world_model.specs.Mobiles.{acknowledged}
use Rattle.world_model.proofs.Leads.{FromAir, OfTaken}
use Rattle.world_laws.proofs.Access.Behind.{GivesNoMore, acked_gives, frame_gives, queue_gives}
use Rattle.world_laws.proofs.Access.Travels.{is_passing}
use Rattle.world_laws.proofs.MobileEvents.{on_asks}

-- ---- what becomes of one

-- its station takes an IMMEDIATE ASSIGNMENT that names it
pub record IsAssigned (w : Actors) (event : Event) (v : Actors) (number : ℕ) (p q : Mobile) : Type 0 where
  pub station : ℕ
  pub first : OutboxEntry
  pub others : List OutboxEntry
  pub command : AssignCommand
  pub channel : ChannelDescription
  pub request : List ℕ
  pub advance : ℕ
  pub takes : event ≡ events.BaseTakes station
  pub up : is_station_up w station ≡ true
  pub pending : outbox_of w station ≡ first ∷ others
  pub reads : rsl_in first.out.frame ≡ Some (rsl.ImmediateAssignCommand command)
  pub says : rr_reading command.information ≡ Ok (ImmediateAssignment channel request advance)
  pub names : slice_index_or request 0 0 ≡ number
  pub asked : p.seat ≡ Asking
  pub after : q ≡ record p { seat = On (tenure_at w (place_at station channel.channel.0)) None }
  pub leads : v ≡ with_mobile q (with_outbox station others w)

-- between two channels, or commanded to another channel
abbrev pub IsToMove : Seat → Type 0
IsToMove (On tenure (Some command)) = Unit {0}
IsToMove (Moving from command) = Unit {0}
IsToMove _ = ⊥

pub data MobileDoes (w : Actors) (event : Event) (v : Actors) (number : ℕ) (p q : Mobile) : Type 0 where
  same : q ≡ p → MobileDoes w event v number p q
  unchanged : q.seat ≡ p.seat → q.opens ≡ p.opens → (p.seat ≡ Asking → ⊥) → GivesNoMore q.end.zero p.end.zero
      → MobileDoes w event v number p q
  hears : (tenure : Tenure) (command : Option Command) (first : AirMessage) (others : List AirMessage) →
      p.seat ≡ On tenure command →
      (spot_at w tenure.at).air ≡ first ∷ others →
      q ≡ hearing p first →
      MobileDoes w event v number p q
  moves : IsToMove p.seat → (q.opens ≡ p.opens) ⊎ (q.opens ≡ false) → MobileDoes w event v number p q
  gets_channel : IsAssigned w event v number p q → MobileDoes w event v number p q

-- each mobile
pub record AllGo (w : Actors) (event : Event) (v : Actors) : Type 0 where
  pub each : (number : ℕ) (p : Mobile) →
      mobile_of w number ≡ Some p →
      (q : Mobile) × (mobile_of v number ≡ Some q) × MobileDoes w event v number p q

pub all_same : (w : Actors) (event : Event) (v : Actors) → v.mobiles ≡ w.mobiles → AllGo w event v
all_same w event v is = record { each = λ number p found. (p, ap (λ (ms : List Mobile). find (has_number number) ms) is ∙ found, same refl) }

-- one of them acts
one_leads : (w u : Actors) (event : Event) (number : ℕ) (before q : Mobile) →
    mobile_of w number ≡ Some before →
    u.mobiles ≡ w.mobiles →
    q.number ≡ before.number →
    MobileDoes w event (with_mobile q u) number before q →
    AllGo w event (with_mobile q u)
one_leads w u event number before q acts is same_number claim = record { each = λ k p found. by k p found (nat_eq number k) refl } where
  own_number : q.number ≡ number
  own_number = same_number ∙ number_found number w.mobiles before acts

  by : (k : ℕ) (p : Mobile) →
      mobile_of w k ≡ Some p →
      (b : Bool) →
      nat_eq number k ≡ b →
      (x : Mobile) × (mobile_of (with_mobile q u) k ≡ Some x) × MobileDoes w event (with_mobile q u) k p x
  by k p found true hit =
      let k_is : number ≡ k = eqb-true number k hit in
      let p_is : before ≡ p = same_Some _ _ (sym acts ∙ ap (mobile_of w) k_is ∙ found) in (
        q,
        ap (λ (n : ℕ). find (has_number n) (put_back q u.mobiles)) (sym k_is ∙ sym own_number) ∙ back_found q u.mobiles before (ap (λ (ms : List Mobile). find (has_number q.number) ms) is ∙ ap (λ (n : ℕ). find (has_number n) w.mobiles) own_number ∙ acts),
        subst (λ (x : Mobile). MobileDoes w event (with_mobile q u) k x q) p_is (subst (λ (n : ℕ). MobileDoes w event (with_mobile q u) n before q) k_is claim),
      )
  by k p found false miss =
      (p, back_other q u.mobiles k (λ is_k. eqb-false number k miss (sym own_number ∙ is_k)) ∙ ap (λ (ms : List Mobile). find (has_number k) ms) is ∙ found, same refl)

-- ---- each event

not_asking : {one seat : Seat} → one ≡ seat → (seat ≡ Asking → ⊥) → one ≡ Asking → ⊥
not_asking is other asks = other (sym is ∙ asks)

-- a new one is behind the others
connect_leads_all : (w : Actors) (event : Event) (u : Actors) (new : Mobile) → u.mobiles ≡ w.mobiles ++ new ∷ [] → AllGo w event u
connect_leads_all w event u new is = record {
  each = λ number p found. (p, ap (λ (ms : List Mobile). find (has_number number) ms) is ∙ found_front number p w.mobiles (new ∷ []) found, same refl);
}

can_send : (seat : Seat) → may_send seat ≡ true → seat ≡ Asking → ⊥
can_send Asking may is = absurd cc
can_send _ may is = absurd cc

acks_go : (w : Actors) (event : Event) (number : ℕ) (sapi : Sapi) (p : Mobile) →
    mobile_of w number ≡ Some p →
    OfTaken (AllGo w event) (acknowledged w sapi p p.seat)
unfolding OfTaken
acks_go w event number sapi p found = by_seat p.seat refl where
  by_seat : (seat : Seat) → p.seat ≡ seat → OfTaken (AllGo w event) (acknowledged w sapi p seat)
  by_seat (On tenure command) is = only_if-leads (AllGo w event) (is_reached w tenure && is_acknowledged p.end sapi) (with_mobile (record p { end = after_acked p.end sapi }) w)
      (λ _. one_leads w w event number p (record p { end = after_acked p.end sapi }) found refl refl (unchanged refl refl (not_asking is on_asks) (acked_gives p.end sapi)))
  by_seat _ is = tt

moves_where : (seat : Seat) {tenure : Tenure} {command : Command} → seat ≡ On tenure (Some command) → IsToMove seat
moves_where seat is = subst IsToMove (sym is) tt

moving_where : (seat : Seat) {from : Tenure} {command : Command} → seat ≡ Moving from command → IsToMove seat
moving_where seat is = subst IsToMove (sym is) tt

-- a station takes an entry
takes_go : (w : Actors) (station : ℕ) (first : OutboxEntry) (others : List OutboxEntry) → is_station_up w station ≡ true → outbox_of w station ≡ first ∷ others
    → OfTaken (AllGo w (events.BaseTakes station)) (took station first.target (rsl_in first.out.frame) (with_outbox station others w))
unfolding OfTaken
takes_go w station first others up pending = by_message (rsl_in first.out.frame) refl where
  event : Event
  event = events.BaseTakes station

  u : Actors
  u = with_outbox station others w

  quiet : (v : Actors) → v.mobiles ≡ w.mobiles → AllGo w event v
  quiet v is = all_same w event v is

  activating : (channel : ℕ) (o : Option LinkFault) → AllGo w event (activated_unless o (place_at station channel) u)
  activating channel None = quiet _ refl
  activating channel (Some fault) = quiet _ refl

  airing : (b : Bool) (x : Actors) → x.mobiles ≡ w.mobiles → AllGo w event (if b then x else u)
  airing true x is = quiet x is
  airing false x is = quiet u refl

  assigning : (command : AssignCommand) → rsl_in first.out.frame ≡ Some (rsl.ImmediateAssignCommand command) → (channel : ChannelDescription) (request : List ℕ) (advance : ℕ) → rr_reading command.information ≡ Ok (ImmediateAssignment channel request advance)
      → (o : Option Mobile) → mobile_of w (slice_index_or request 0 0) ≡ o → AllGo w event (assigned_to o (tenure_at u (place_at station channel.channel.0)) u)
  assigning command reads channel request advance says None found = quiet u refl
  assigning command reads channel request advance says (Some p) found = by_seat p.seat refl where
    by_seat : (seat : Seat) → p.seat ≡ seat → AllGo w event (assigned_from seat (tenure_at u (place_at station channel.channel.0)) p u)
    by_seat Asking is = one_leads w u event (slice_index_or request 0 0) p (record p { seat = On (tenure_at u (place_at station channel.channel.0)) None }) found refl refl (gets_channel (record {
      station = station;
      first = first;
      others = others;
      command = command;
      channel = channel;
      request = request;
      advance = advance;
      takes = refl;
      up = up;
      pending = pending;
      reads = reads;
      says = says;
      names = refl;
      asked = is;
      after = refl;
      leads = refl;
    }))
    by_seat _ is = quiet u refl

  by_reading : (command : AssignCommand) →
      rsl_in first.out.frame ≡ Some (rsl.ImmediateAssignCommand command) →
      (r : Result RrMessage RrFault) →
      rr_reading command.information ≡ r →
      OfTaken (AllGo w event) (Some (assigned station r u))
  by_reading command reads (Ok (ImmediateAssignment channel request advance)) says = by_number (is_channel channel.channel.0) where
    by_number : (b : Bool) →
        AllGo w event (if b then assigned_to (mobile_of u (slice_index_or request 0 0)) (tenure_at u (place_at station channel.channel.0)) u else u)
    by_number true = assigning command reads channel request advance says (mobile_of w (slice_index_or request 0 0)) refl
    by_number false = quiet u refl
  by_reading command reads _ says = quiet u refl

  by_message : (o : Option Rsl) → rsl_in first.out.frame ≡ o → OfTaken (AllGo w event) (took station first.target o u)
  by_message (Some (rsl.ChannelActivation a)) is = unless_last_leads (AllGo w event) ((spot_at u (place_at station a.channel)).tenure == MAX_TENURE) (activated (place_at station a.channel) u) (activating a.channel (refusal_of_activate (base_of u station) a.channel))
  by_message (Some (rsl.ImmediateAssignCommand i)) is = by_reading i is (rr_reading i.information) refl
  by_message (Some (rsl.DataRequest d)) is = airing (is_active_at u (place_at station d.channel)) (with_spot (place_at station d.channel) (record (spot_at u (place_at station d.channel)) { air = (spot_at u (place_at station d.channel)).air ++ record { message = d.l3; target = first.target } ∷ [] }) u) refl
  by_message (Some (rsl.EstablishRequest l)) is = quiet _ refl
  by_message (Some (rsl.RfChannelRelease channel)) is = quiet _ refl
  by_message _ is = quiet u refl

pub event_leads_all : (w : Actors) (event : Event) → is_passing event ≡ true → OfTaken (AllGo w event) (event_after w event)
unfolding event_after FromAir
event_leads_all w (events.Upper number sapi message) is = by_mobile-leads (AllGo w (events.Upper number sapi message)) w number (sent_by w sapi message) (λ p found.
    only_if-leads (AllGo w (events.Upper number sapi message)) (may_send p.seat && is_none (refusal_of_send p.end sapi message)) (with_mobile (record p { end = after_queue p.end sapi message }) w)
    (λ may. one_leads w w (events.Upper number sapi message) number p (record p { end = after_queue p.end sapi message }) found refl refl (unchanged refl refl (can_send p.seat (and_left (may_send p.seat) (is_none (refusal_of_send p.end sapi message)) may)) (queue_gives p.end sapi message (and_right (may_send p.seat) (is_none (refusal_of_send p.end sapi message)) may)))))
event_leads_all w (events.Connect number station initial accepts) is = connect_leads (AllGo w _) w number station initial accepts (λ may. connect_leads_all w _ _ (connected w.modulus number initial accepts) refl)
event_leads_all w (events.AirUp number Three) is = air_up_leads (AllGo w _) w number Three (λ p tenure command frame found seat lent reached. one_leads w _ _ number p (framed p Three) found refl refl (unchanged refl refl (not_asking seat on_asks) (frame_gives p.end)))
event_leads_all w (events.AirAck number sapi) is = by_mobile-leads (AllGo w _) w number (λ p. acknowledged w sapi p p.seat) (λ p found. acks_go w (events.AirAck number sapi) number sapi p found)
event_leads_all w (events.AirDown number) is = air_down_leads (AllGo w _) w number (λ p tenure command found seat reached first others air. one_leads w _ _ number p (hearing p first) found refl (hearing-number p first) (hears tenure command first others seat air refl))
event_leads_all w (events.AirDownLost number) is = air_down_lost_leads (AllGo w _) w number (λ p tenure command found seat reached first others air. one_leads w _ _ number p p found refl refl (same refl))
event_leads_all w (events.Move number) is = move_leads (AllGo w _) w number (λ p tenure command found seat reached. one_leads w _ _ number p (record p { end = after_leave p.end; seat = Moving tenure command; opens = false }) found refl refl (moves (moves_where p.seat seat) (inr refl)))
event_leads_all w (events.Touch number) is = touch_leads (AllGo w _) w number (λ command reached. all_same w _ _ refl)
event_leads_all w (events.Arrive number) is = arrive_leads (AllGo w _) w number (λ p from command found seat reached. one_leads w _ _ number p (record p { end = after_arrival p.end (complete command.change); seat = On command.target None }) found refl refl (moves (moving_where p.seat seat) (inl refl)))
event_leads_all w (events.Return number) is = return_leads (AllGo w _) w number (λ p from command found seat reached. one_leads w _ _ number p (record p { end = after_arrival p.end (failure command.change); seat = On from None }) found refl refl (moves (moving_where p.seat seat) (inl refl)))
event_leads_all w (events.BaseTakes station) is = base_takes_leads (AllGo w _) w station (λ first others up pending. takes_go w station first others up pending)
event_leads_all w (events.BasePush source) is = push_leads (AllGo w _) w source (λ first others. all_same w _ _ refl) (λ message first. all_same w _ _ refl)
event_leads_all w events.SwitchTakes is = switch_takes_leads (AllGo w _) w (λ first others up pending. switch_took-leads (AllGo w _) (with_outbox SWITCH_LINK others w) (sccp_in first.out.frame) (all_same w _ _ refl) (λ next made. all_same w _ _ refl))
event_leads_all w (events.SwitchDoes action) is = does_leads (AllGo w _) w action (λ next made. all_same w _ _ refl)
event_leads_all w (events.BaseDown source) is = broken_leads (AllGo w _) w source (λ up switch. all_same w _ _ refl) (λ up station. all_same w _ _ refl)
event_leads_all w (events.Report number report) is = report-leads (AllGo w _) w number report (λ tenure reached. all_same w _ _ refl)
event_leads_all w _ is = absurd cc
