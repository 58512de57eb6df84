-- SPDX-License-Identifier: MIT OR Apache-2.0
-- All that arrives at the controller is octets if what it puts for the switch is fair.
use Rattle.world_laws.proofs.Prelude.{◌≡◌, ℕ, ◌==◌, nat_eq, Bool, true, false, if◌then◌else◌, List, [], ◌∷◌, ◌++◌, length, map}
use Rattle.world_laws.proofs.Prelude.{option_to_list, unwrap_or, Option, Some, None, refl, sym, ap, ◌∙◌, subst, append_assoc, arith, ◌+◌}
use Rattle.world_laws.proofs.Prelude.{◌≤◌, AllByRecursion, append-nil, Sccp, SWITCH_LINK, AllByRecursion-append, IsOctetStep, IsOfOctets}
use Rattle.world_laws.proofs.Prelude.{first_message, first_of_messages, replies, CONNECTION_LIMIT, Item, Rsl, Parameters, Event, BaseTakes}
use Rattle.world_laws.proofs.Prelude.{BasePush, Handle, SwitchTakes, SwitchDoes, Tick, BaseDown, actors_after, actors_after_all, all_popped}
use Rattle.world_laws.proofs.Prelude.{all_pushed, first_of, pushed, put, taken, after_base_push, after_break, after_handle}
use Rattle.world_laws.proofs.Prelude.{pushed_by_station, pushed_by_switch, station_item, switch_item, target_in, after_base_takes}
use Rattle.world_laws.proofs.Prelude.{all_steps, first_taken, step_at, after_switch_takes, sccp_in, switch_took, Actors, Link, base_of}
use Rattle.world_laws.proofs.Prelude.{is_up, new_actors, outbox_of, with_outbox, Good, good_new, good_step, after_taken, handle_leads}
use Rattle.world_laws.proofs.Prelude.{turn_leads, switch_takes_leads, broken_leads, new_outbox, aerial_leads, taking_leads, take, tick}
use Rattle.world_laws.proofs.Prelude.{OfTaken, KeepsQueues-new, LinkStep, TookOctets, AreOctetEvents, IsFair, IsFairEntry, IsOctetEvent}
use Rattle.ruled_relay.specs.declared.item.What.TheVariants as whats
use Rattle.world_model.specs.Life.{event_after}
use Rattle.world_model.proofs.Leads.{FromAir}
use Rattle.world_model.proofs.Outboxes.{step}
use Rattle.world_model.proofs.Outboxes.Step.{kept_order, breaks as link_breaks}
use Rattle.world_laws.proofs.Order.EventKinds.{Kind, kind}
use Rattle.world_laws.proofs.Order.EventKinds.Kind.{handles, ticks, switch_takes, beside}
use Rattle.world_laws.proofs.Order.OctetMakers.{Makers, made_new, made_step}
use Rattle.world_laws.proofs.Order.OctetSwitch.{FairSwitch, IsOctetSccp, Sends, does_octets, replies_octets}
use Rattle.world_laws.proofs.Order.OctetTexts.{IsOctetRsl}
use Rattle.world_laws.proofs.Events.{snoc_actors, snoc_steps, world}
use Rattle.world_laws.proofs.Framing.{all_right}

-- ---- lists

-- ---- the switch, what it made, and what waits for it

record Side (w : Actors) : Type 0 where
  sends : Sends w w
  waits : AllByRecursion IsFairEntry (outbox_of w SWITCH_LINK)

same : {w u v : Actors} → v.switch ≡ u.switch → v.switch_made ≡ u.switch_made → Sends w u → Sends w v
same switch made sends = record { next = subst FairSwitch (sym switch) sends.next; made = subst (AllByRecursion IsOctetSccp) (sym made) sends.made }

-- it takes what is fair
took_sends : (w u : Actors) (o : Option Sccp) → IsFair o → Sends w u → Sends w (switch_took o u)
took_sends w u None fair sends = sends
took_sends w u (Some message) fair sends =
    let replied = replies_octets u.switch message fair sends.next in
    record { next = replied.next; made = AllByRecursion-append IsOctetSccp u.switch_made (replies u.switch.connections message) sends.made replied.made }

-- what it made first is given to the inbox
push_sends : (w : Actors) (source : ℕ) → Sends w w → Sends w (unwrap_or (after_base_push w source) w)
push_sends w source sends = by_source (source == SWITCH_LINK) where
  by_made : (made : List Sccp) → w.switch_made ≡ made → Sends w (unwrap_or (pushed_by_switch made w) w)
  by_made [] is = sends
  by_made (first ∷ others) is = record { next = sends.next; made = (subst (AllByRecursion IsOctetSccp) is sends.made).1 }

  by_message : (o : Option Rsl) → Sends w (unwrap_or (pushed_by_station source o w) w)
  by_message None = sends
  by_message (Some message) = same refl refl sends

  by_source : (b : Bool) →
      Sends w (unwrap_or (if b then pushed_by_switch w.switch_made w else pushed_by_station source (first_message (base_of w source)) w) w)
  by_source true = by_made w.switch_made refl
  by_source false = by_message (first_message (base_of w source))

after : (w : Actors) (o : Option Actors) → Sends w w → OfTaken (Sends w) o → Sends w (unwrap_or o w)
after w o sends leads = after_taken (Sends w) o w leads sends

event_sends : (w : Actors) (event : Event) → IsOctetEvent event → Side w → Sends w (actors_after w event)
unfolding event_after FromAir
event_sends w (BaseTakes station) octets side = after w (after_base_takes w station) side.sends (taking_leads (Sends w) w station (λ first others _ _ mobiles stations. same refl refl side.sends))
event_sends w (BasePush source) octets side = push_sends w source side.sends
event_sends w Handle octets side = after w (after_handle w) side.sends (handle_leads (Sends w) w (λ item items _. turn_leads (Sends w) (target_in w item.source item.what) (take item w.controller) (record w { inbox = items }) (λ links. same refl refl side.sends)))
event_sends w SwitchTakes octets side =
    after w (after_switch_takes w) side.sends (switch_takes_leads (Sends w) w (λ first others up pending.
    took_sends w (with_outbox SWITCH_LINK others w) (sccp_in first.out.frame) (subst (AllByRecursion IsFairEntry) pending side.waits).0 (same refl refl side.sends)))
event_sends w (SwitchDoes action) octets side = does_octets w action octets side.sends.next side.sends.made
event_sends w (Tick ms) octets side = turn_leads (Sends w) None (tick ms w.controller) w (λ links. same refl refl side.sends)
event_sends w (BaseDown source) octets side = after w (after_break w source) side.sends (broken_leads (Sends w) w source (λ _ _. record { next = side.sends.next; made = tt }) (λ _ _. same refl refl side.sends))
event_sends w event octets side = after w (event_after w event) side.sends (aerial_leads (Sends w) w event refl (λ mobiles stations. same refl refl side.sends))

waits_then : {w v : Actors} {event : Event} →
    LinkStep SWITCH_LINK w event v →
    AllByRecursion IsFairEntry (outbox_of w SWITCH_LINK) →
    AllByRecursion IsFairEntry (put SWITCH_LINK w event) →
    AllByRecursion IsFairEntry (outbox_of v SWITCH_LINK)
waits_then {w} {v} {event} (kept_order up flows) waits puts =
    all_right IsFairEntry (taken SWITCH_LINK w event) (outbox_of v SWITCH_LINK)
    (subst (AllByRecursion IsFairEntry) flows (AllByRecursion-append IsFairEntry (outbox_of w SWITCH_LINK) (put SWITCH_LINK w event) waits puts))
waits_then (link_breaks broken nothing nobody) waits puts = subst (AllByRecursion IsFairEntry) (sym (ap (λ (link : Link). link.outbox) broken)) tt

side_then : (w : Actors) (event : Event) →
    IsOctetEvent event →
    AllByRecursion IsFairEntry (put SWITCH_LINK w event) →
    Side w →
    Side (actors_after w event)
side_then w event octets puts side =
    let sends = event_sends w event octets side in
    record { sends = record { next = sends.next; made = sends.made }; waits = waits_then (step SWITCH_LINK w event) side.waits puts }

-- ---- what arrives in the inbox

abbrev IsOctetItem : Item → Type 0
IsOctetItem item = IsOfOctets item.what

given : (w : Actors) (event : Event) → Makers w → Side w → AllByRecursion IsOctetItem (pushed w event)
given w (BasePush source) makers side = by_source (nat_eq source SWITCH_LINK) where
  of_switch : (made : List Sccp) → AllByRecursion IsOctetSccp made → AllByRecursion IsOctetItem (map switch_item (first_of made))
  of_switch [] all = tt
  of_switch (first ∷ others) all = (all.0.are, tt)

  of_station : (messages : List Rsl) →
      AllByRecursion IsOctetRsl messages →
      AllByRecursion IsOctetItem (map (station_item source) (option_to_list (first_of_messages messages)))
  of_station [] all = tt
  of_station (first ∷ others) all = (all.0.are, tt)

  by_source : (b : Bool) →
      AllByRecursion IsOctetItem (if b then map switch_item (first_of w.switch_made) else map (station_item source) (option_to_list (first_message (base_of w source))))
  by_source true = of_switch w.switch_made side.sends.made
  by_source false = of_station (base_of w source).messages (makers.stations _).0
given w (BaseDown source) makers side = by_link (is_up w source) where
  by_link : (b : Bool) → AllByRecursion IsOctetItem (if b then record { source = source; what = whats.Down } ∷ [] else [])
  by_link true = (tt, tt)
  by_link false = tt
given w _ makers side = tt

-- ---- what the controller takes

step_octets : (w : Actors) (event : Event) →
    Kind w 0 event →
    AllByRecursion IsOctetItem w.inbox →
    AllByRecursion IsOctetStep (step_at w event)
step_octets w event handles all = by w.inbox all where
  by : (items : List Item) → AllByRecursion IsOctetItem items → AllByRecursion IsOctetStep (first_taken items)
  by [] all = tt
  by (item ∷ items) all = (all.0, tt)
step_octets w event (ticks ms) all = (tt, tt)
step_octets w event switch_takes all = tt
step_octets w event (beside is not none nothing delivers) all = subst (AllByRecursion IsOctetStep) (sym none) tt
step_octets w event _ all = tt

append_pushed : (w : Actors) (events : List Event) (event : Event) →
    all_pushed w (events ++ event ∷ []) ≡ all_pushed w events ++ pushed (actors_after_all w events) event
append_pushed w [] event = append-nil (pushed w event)
append_pushed w (x ∷ xs) event =
    ap (λ (items : List Item). pushed w x ++ items) (append_pushed (actors_after w x) xs event)
    ∙ sym (append_assoc (pushed w x) (all_pushed (actors_after w x) xs) (pushed (actors_after_all (actors_after w x) xs) event))

-- ---- the run

abbrev Fairly : Parameters → Type 0
Fairly settings = (events : List Event) (event : Event) → TookOctets settings (events ++ event ∷ []) → AllByRecursion IsFairEntry (put SWITCH_LINK (world settings events) event)

record Run (settings : Parameters) (events : List Event) : Type 0 where
  good : Good (world settings events)
  makers : Makers (world settings events)
  side : Side (world settings events)
  given_all : AllByRecursion IsOctetItem (all_pushed (new_actors settings) events)
  took_octets : TookOctets settings events

came_then : (settings : Parameters) (events : List Event) (event : Event) → Run settings events → TookOctets settings (events ++ event ∷ [])
came_then settings events event run =
    subst (AllByRecursion IsOctetStep) (sym (snoc_steps (new_actors settings) events event))
    (AllByRecursion-append IsOctetStep (all_steps (new_actors settings) events) (step_at w event) run.took_octets (step_octets w event (kind w 0 event) waiting)) where
      w : Actors
      w = world settings events

      waiting : AllByRecursion IsOctetItem w.inbox
      waiting = all_right IsOctetItem (all_popped (new_actors settings) events) w.inbox (subst (AllByRecursion IsOctetItem) (KeepsQueues-new settings events).inbox run.given_all)

run_then : (settings : Parameters) (events : List Event) (event : Event) →
    Fairly settings →
    IsOctetEvent event →
    Run settings events →
    Run settings (events ++ event ∷ [])
run_then settings events event fairly octets run =
    let w : Actors = world settings events in
    let next : world settings (events ++ event ∷ []) ≡ actors_after w event = snoc_actors (new_actors settings) events event in
    let took_octets : TookOctets settings (events ++ event ∷ []) = came_then settings events event run in
    record {
      good = subst Good (sym next) (good_step w event run.good);
      makers = subst Makers (sym next) (made_step w event octets run.good run.makers);
      side = subst Side (sym next) (side_then w event octets (fairly events event took_octets) run.side);
      given_all = subst (AllByRecursion IsOctetItem) (sym (append_pushed (new_actors settings) events event)) (AllByRecursion-append IsOctetItem (all_pushed (new_actors settings) events) (pushed w event) run.given_all (given w event run.makers run.side));
      took_octets = took_octets;
    }

run_first : (settings : Parameters) → Run settings []
run_first settings = record {
  good = good_new settings;
  makers = made_new settings;
  side = record { sends = record { next = record { referred = tt; few = least }; made = tt }; waits = subst (AllByRecursion IsFairEntry) (sym (new_outbox (length settings.cells + 1) SWITCH_LINK)) tt };
  given_all = tt;
  took_octets = tt;
} where
  least : 0 ≤ CONNECTION_LIMIT
  least = omega arith

run_through : (settings : Parameters) (done rest : List Event) →
    Fairly settings →
    AreOctetEvents rest →
    Run settings done →
    Run settings (done ++ rest)
run_through settings done [] fairly octets run = subst (Run settings) (sym (append-nil done)) run
run_through settings done (event ∷ rest) fairly octets run =
    subst (Run settings) (append_assoc done (event ∷ []) rest) (run_through settings (done ++ event ∷ []) rest fairly octets.1 (run_then settings done event fairly octets.0 run))

pub come_in_fairly_new : (settings : Parameters) (events : List Event) →
    Fairly settings →
    AreOctetEvents events →
    TookOctets settings events
come_in_fairly_new settings events fairly octets = (run_through settings [] events fairly octets (run_first settings)).took_octets
