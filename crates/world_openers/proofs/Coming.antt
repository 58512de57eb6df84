-- SPDX-License-Identifier: MIT OR Apache-2.0
-- While a connection hasn't asked the switch, the only initial message that arrives from its
-- channel is that of its mobile.
use Rattle.std.proofs.Common.{◌≡◌, ℕ, ◌-◌, ◌==◌, nat_eq, Bool, true, false, if◌then◌else◌, cond, List, [], ◌∷◌, ◌++◌, Option, Some, None}
use Rattle.std.proofs.Common.{refl, sym, ap, ◌∙◌, subst, append_assoc}
use Rattle.std.proofs.lemmas.Bool.{eqb-false, eqb-true}
use Rattle.std.proofs.lemmas.Grind.{flat_map-append}
use Rattle.std.proofs.lemmas.List.{append-nil}
use Rattle.std.proofs.lemmas.Option.{same_Some}
use Rattle.std.specs.List.{AllByRecursion, flat_map}
use Rattle.conn_messages.specs.declared.channel.Channel.{Channel}
use Rattle.conn_messages.specs.declared.channel.Place.{Place}
use Rattle.conn_rules.proofs.DownlinkMessages.{AllByRecursion-append}
use Rattle.conn_rules.specs.Connection.{Connection, is_at}
use Rattle.conn_rules.specs.Streams.{target_in, undone, used_channels}
use Rattle.controller_model.specs.Controller.{Controller, place_of}
use Rattle.controller_model.specs.declared.step.Step.{Step}
use Rattle.controller_model.specs.declared.step.Step.TheVariants as steps
use Rattle.controller_model.specs.Life.{step, take, tick}
use Rattle.controller_model.specs.LifeLaws.History.{connection_of}
use Rattle.dtap_codec.specs.declared.sapi.Sapi.TheVariants.{Zero}
use Rattle.link_model.specs.BaseState.{BaseState}
use Rattle.link_model.specs.Message.{data_indication, establish_indication}
use Rattle.mobile_end.specs.Mobile.{frame_answer}
use Rattle.rsl_codec.specs.declared.rsl.Rsl.{Rsl}
use Rattle.ruled_relay.specs.declared.item.Item.{Item}
use Rattle.settings.specs.Parameters.{AreAllowed, Parameters}
use Rattle.world_laws.specs.AccountedFor.{initial_by, initials_up}
use Rattle.world_laws.specs.Acknowledged.{messages_up, read_of}
use Rattle.world_laws.specs.OthersFrame.{IsHad}
use Rattle.world_laws.specs.References.Taken.{IsEarlyIn}
use Rattle.world_laws.specs.Runs.{world}
use Rattle.world_laws.specs.Seated.{IsAlone, IsElsewhere}
use Rattle.world_laws.proofs.Access.Arriving.{serving_placed}
use Rattle.world_laws.proofs.Access.Behind.{lent_first}
use Rattle.world_laws.proofs.Access.Passes.{Passes, passes_itself}
use Rattle.world_laws.proofs.Access.Travels.{event_passes, is_passing}
use Rattle.world_laws.proofs.Access.Upcoming.{initials_apart, initials_pass, indication_of}
use Rattle.world_laws.proofs.AirUp.{frame_lent}
use Rattle.world_laws.proofs.Framing.{all_right}
use Rattle.world_laws.proofs.Handling.Finishing.{controller-is}
use Rattle.world_laws.proofs.Sublists.{Sub, set_related, sub_all, sub_append, sub_behind, sub_flat_map, sub_front, sub_itself}
use Rattle.world_model.specs.declared.event.Event.{Event}
use Rattle.world_model.specs.declared.event.Event.TheVariants as events
use Rattle.world_model.specs.declared.seat.Command.{Command}
use Rattle.world_model.specs.declared.seat.Seat.TheVariants.{On}
use Rattle.world_model.specs.declared.seat.Tenure.{Tenure}
use Rattle.world_model.specs.Life.{actors_after, event_after}
use Rattle.world_model.specs.Mobiles.{brought, frame_in, signalling_brought}
use Rattle.world_model.specs.Relay.{target_in as target_of, with_turn}
use Rattle.world_model.specs.World.{Actors, Mobile, Station, base_of, is_reached, mobile_of, new_actors, no_station, station_of}
use Rattle.world_model.proofs.Heard.{good_all, good_new}
use Rattle.world_model.proofs.Leads.{after_taken, air_up_leads, handle_leads, turn_leads}
use Rattle.world_openers.proofs.Asking.{Fate, fate}
use Rattle.world_openers.proofs.Asking.Fate.{asks_now, waits_on}
use Rattle.world_openers.proofs.Beginning.{BeginsWith}

-- ---- what a station makes of a frame of SAPI 0 is put behind the rest

made_base : (base : BaseState) (channel : ℕ) (frame : List ℕ) (b : Bool)
    → (signalling_brought base channel b frame).messages ≡ base.messages ++
    (if b then establish_indication channel Zero (Some frame) else data_indication channel Zero frame) ∷ []
made_base base channel frame true = refl
made_base base channel frame false = refl

sent_ups : (w : Actors) (p : Mobile) (tenure : Tenure) (frame : List ℕ) (n : ℕ)
    → Sub (messages_up (brought w p tenure.at Zero frame) n) (messages_up w n ++ indication_of p tenure.at.number frame ∷ [])
sent_ups w p tenure frame n =
    subst (Sub (messages_up (brought w p tenure.at Zero frame) n))
    (sym (append_assoc (flat_map (read_of n) w.inbox) (base_of w n).messages (indication_of p tenure.at.number frame ∷ [])))
    (sub_append (sub_itself (flat_map (read_of n) w.inbox))
    (set_related (λ (a b : Station). Sub a.base.messages (b.base.messages ++ indication_of p tenure.at.number frame ∷ []))
    (λ x. sub_front x.base.messages (indication_of p tenure.at.number frame ∷ [])) w.stations no_station (tenure.at.station - 1) (n - 1)
    (record (station_of w tenure.at.station) { base = signalling_brought (base_of w tenure.at.station) tenure.at.number p.opens frame })
    (subst (λ (xs : List Rsl). Sub xs ((base_of w tenure.at.station).messages ++ indication_of p tenure.at.number frame ∷ []))
    (sym (made_base (base_of w tenure.at.station) tenure.at.number frame p.opens))
    (sub_itself ((base_of w tenure.at.station).messages ++ indication_of p tenure.at.number frame ∷ [])))))

-- the initial message is the frame, of a mobile that is to send it
made_all : (P : List ℕ → Type 0) (p : Mobile) (channel other : ℕ) (frame : List ℕ) → (p.opens ≡ true → P frame)
    → AllByRecursion P (initial_by other (indication_of p channel frame))
made_all P p channel other frame own = by p.opens refl where
  opening : (b : Bool) → P frame → AllByRecursion P (cond b (frame ∷ []) [])
  opening true is = (is, tt)
  opening false is = tt

  by : (b : Bool) → p.opens ≡ b
      → AllByRecursion P
      (initial_by other (if b then establish_indication channel Zero (Some frame) else data_indication channel Zero frame))
  by true is = opening (channel == other) (own is)
  by false is = tt

pub sent_all : (P : List ℕ → Type 0) (w : Actors) (p : Mobile) (tenure : Tenure) (frame : List ℕ) (at : Place) → (p.opens ≡ true → P frame)
    → AllByRecursion P (initials_up w at) → AllByRecursion P (initials_up (brought w p tenure.at Zero frame) at)
sent_all P w p tenure frame at own all =
    sub_all P (sub_flat_map (initial_by at.number) (sent_ups w p tenure frame at.station))
    (subst (AllByRecursion P)
    (sym (flat_map-append (initial_by at.number) (messages_up w at.station) (indication_of p tenure.at.number frame ∷ [])))
    (AllByRecursion-append P (initials_up w at) (initial_by at.number (indication_of p tenure.at.number frame) ++ []) all
    (subst (AllByRecursion P) (sym (append-nil (initial_by at.number (indication_of p tenure.at.number frame))))
    (made_all P p tenure.at.number at.number frame own))))

-- ---- the frame of a mobile that is to begin

begins_frame : (p : Mobile) (initial frame : List ℕ) → BeginsWith initial p → frame_in (frame_answer p.end Zero) ≡ Some frame
    → p.opens ≡ true → frame ≡ initial
begins_frame p initial frame begins lent is =
    let first = begins.first is in
    same_heads (sym (lent_first p.end.zero frame (frame_lent p.end frame lent).lent) ∙ first.1) where
      same_heads : {x y : List ℕ} {xs ys : List (List ℕ)} → x ∷ xs ≡ y ∷ ys → x ≡ y
      same_heads same = cc

-- ---- each event

module _ (settings : Parameters) (done : List Event) (P : List ℕ → Type 0) (mobile : ℕ) (s next : Connection) where
  abbrev w : Actors
  w = world settings done

  abbrev at : Place
  at = place_of s.serving

  -- what is known before
  pub record Ahead : Type 0 where
    pub allowed : AreAllowed settings
    pub had : IsHad (world settings done) s
    pub early : IsEarlyIn s.state
    pub alone : IsAlone (world settings done) mobile s
    pub one : Mobile
    pub found : mobile_of (world settings done) mobile ≡ Some one
    pub initial : List ℕ
    pub begins : BeginsWith initial one
    pub is_so : P initial
    pub all : AllByRecursion P (initials_up (world settings done) (place_of s.serving))

  -- after it
  abbrev Comes : Actors → Type 0
  Comes v =
      connection_of v.controller s.number ≡ Some next → IsEarlyIn next.state → AllByRecursion P (initials_up v (place_of next.serving))

  -- where the controller takes no part
  as_it_was : (v : Actors) → Ahead → v.controller ≡ w.controller → AllByRecursion P (initials_up v at) → Comes v
  as_it_was v h leads all now early =
      let same : s ≡ next = same_Some _ _ (sym h.had.there ∙ ap (λ (c : Controller). connection_of c s.number) (sym leads) ∙ now) in
      subst (λ (x : Connection). AllByRecursion P (initials_up v (place_of x.serving))) same all

  unchanged : Ahead → Comes w
  unchanged h = as_it_was w h refl h.all

  passing_comes : (event : Event) → is_passing event ≡ true → Ahead → Comes (actors_after w event)
  passing_comes event passing h =
      let v : Actors = actors_after w event in
      let passes : Passes w v =
      after_taken (Passes w) (event_after w event) w
      (event_passes w event passing (good_all (new_actors settings) done (good_new settings))) (passes_itself w) in
      as_it_was v h passes.controller (sub_all P (initials_pass at (serving_placed settings done s h.allowed h.had) passes) h.all)

  sent_comes : (number : ℕ) (p : Mobile) (tenure : Tenure) (command : Option Command) (frame : List ℕ) → mobile_of w number ≡ Some p
      → p.seat ≡ On tenure command → frame_in (frame_answer p.end Zero) ≡ Some frame → is_reached w tenure ≡ true
      → Ahead → AllByRecursion P (initials_up (brought w p tenure.at Zero frame) at)
  sent_comes number p tenure command frame acts sits lent reached h = by (nat_eq number mobile) refl where
    by : (b : Bool) → nat_eq number mobile ≡ b → AllByRecursion P (initials_up (brought w p tenure.at Zero frame) at)
    by true hit =
        let is : h.one ≡ p = same_Some _ _ (sym h.found ∙ ap (mobile_of w) (sym (eqb-true number mobile hit)) ∙ acts) in
        sent_all P w p tenure frame at
        (λ opens. subst P (sym (begins_frame p h.initial frame (subst (BeginsWith h.initial) is h.begins) lent opens)) h.is_so) h.all
    by false miss =
        let apart : IsElsewhere (used_channels s) tenure.at =
        h.alone number p tenure command (eqb-false number mobile miss) acts sits reached in
        let here = (all_right (λ (c : Channel). is_at tenure.at c ≡ false) (undone s.draining) (s.serving ∷ target_in s.state) apart).0 in
        sub_all P (initials_apart w p tenure frame s.serving reached (serving_placed settings done s h.allowed h.had) here) h.all

  air_up_comes : (number : ℕ) → Ahead → Comes (actors_after w (events.AirUp number Zero))
  unfolding event_after
  air_up_comes number h =
      after_taken Comes (event_after w (events.AirUp number Zero)) w
      (air_up_leads Comes w number Zero (λ p tenure command frame acts sits lent reached.
      as_it_was (brought w p tenure.at Zero frame) h refl (sent_comes number p tenure command frame acts sits lent reached h)))
      (unchanged h)

  -- the controller takes a step
  turn_comes : (st : Step) (v : Actors) → Ahead → v.controller ≡ (step w.controller st).next → AllByRecursion P (initials_up v at) → Comes v
  turn_comes st v h leads all now early =
      by (fate settings done st s next h.had.from_one h.early h.had.there
      (ap (λ (c : Controller). connection_of c s.number) (sym leads) ∙ now)) where
        by : Fate w.controller st s next → AllByRecursion P (initials_up v (place_of next.serving))
        by (waits_on same still) = subst (λ (c : Channel). AllByRecursion P (initials_up v (place_of c))) (sym same) all
        by (asks_now place initial serving state brought_it here puts) = absurd (subst IsEarlyIn state early)

  turned : (target : Option Tenure) (st : Step) (u : Actors) → initials_up (with_turn target (step w.controller st) u) at ≡ initials_up u at
  turned target st u = turn_leads (λ v. initials_up v at ≡ initials_up u at) target (step w.controller st) u (λ links. refl)

  behind : (item : Item) (items : List Item) → w.inbox ≡ item ∷ items → Sub (initials_up (record w { inbox = items }) at) (initials_up w at)
  behind item items pending =
      sub_flat_map (initial_by at.number) (sub_append
      (subst (λ (xs : List Item). Sub (flat_map (read_of at.station) items) (flat_map (read_of at.station) xs)) (sym pending)
      (sub_behind (read_of at.station item) (flat_map (read_of at.station) items)))
      (sub_itself (base_of w at.station).messages))

  handle_comes : Ahead → Comes (actors_after w events.Handle)
  unfolding event_after
  handle_comes h = after_taken Comes (event_after w events.Handle) w (handle_leads Comes w (λ item items pending.
      let target : Option Tenure = target_of w item.source item.what in
      let u : Actors = record w { inbox = items } in
      turn_comes (steps.Take item) (with_turn target (take item w.controller) u) h (controller-is target (take item w.controller) u)
      (subst (AllByRecursion P) (sym (turned target (steps.Take item) u)) (sub_all P (behind item items pending) h.all)))) (unchanged h)

  tick_comes : (ms : ℕ) → Ahead → Comes (actors_after w (events.Tick ms))
  unfolding event_after
  tick_comes ms h =
      turn_comes (steps.Tick ms) (with_turn None (tick ms w.controller) w) h (controller-is None (tick ms w.controller) w)
      (subst (AllByRecursion P) (sym (turned None (steps.Tick ms) w)) h.all)

  pub event_comes : (event : Event) → Ahead → Comes (actors_after w event)
  event_comes (events.AirUp number Zero) h = air_up_comes number h
  event_comes events.Handle h = handle_comes h
  event_comes (events.Tick ms) h = tick_comes ms h
  event_comes event h = passing_comes event refl h
