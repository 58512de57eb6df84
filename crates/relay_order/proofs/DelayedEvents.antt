-- SPDX-License-Identifier: MIT OR Apache-2.0
-- An event while the switch's link is broken and the controller hasn't handled the break yet. It
-- does the same as with the link still up, or nothing, or it is the controller's handling of the
-- break.
use Rattle.std.proofs.Common.{◌≡◌, ◌≢◌, ℕ, ◌==◌, ◌&&◌, not, Bool, true, false, if◌then◌else◌, List, [], ◌∷◌, ◌++◌, map}
use Rattle.std.proofs.Common.{Option, Some, None, is_some, option_to_list, unwrap_or, refl, sym, ap, ◌∙◌, eqb-true, append_assoc, append-nil}
use Rattle.std.proofs.Common.{inl, inr}
use Rattle.std.proofs.lemmas.Bool.{cases_Bool, eqb-false}
use Rattle.std.proofs.lemmas.List.{set_comm}
use Rattle.std.specs.Option.{is_none}
use Rattle.std.specs.Prelude.{option_map}
use Rattle.bssmap_codec.specs.declared.bssap.Bssap.{Bssap}
use Rattle.bssmap_codec.specs.declared.bssap.Bssap.TheVariants.{Transfer}
use Rattle.conn_messages.specs.declared.parameters.TheConstants.{SWITCH_LINK}
use Rattle.controller_model.specs.Controller.{Turn}
use Rattle.controller_model.specs.Life.{take, tick}
use Rattle.link_model.specs.Base.{after_next, after_take_down, first_message}
use Rattle.msc_end.specs.Refusal.{send_fault}
use Rattle.msc_end.specs.Switch.{after_clear, assignment_request, clear_command, connection_of, data_forms_on, dlci_for}
use Rattle.msc_end.specs.SwitchState.{SwitchState}
use Rattle.rsl_codec.specs.declared.rsl.Rsl.{Rsl}
use Rattle.ruled_relay.specs.declared.item.Item.{Item}
use Rattle.ruled_relay.specs.declared.item.What.TheVariants as whats
use Rattle.world_model.specs.declared.event.Event.{Event}
use Rattle.world_model.specs.declared.event.Event.TheVariants.{BaseDown, BasePush, BaseTakes, Connect, Handle, SwitchDoes, SwitchTakes, Tick}
use Rattle.world_model.specs.declared.event.SwitchAction.{SwitchAction}
use Rattle.world_model.specs.declared.event.SwitchAction.TheVariants.{Assign, Clear, Dtap}
use Rattle.world_model.specs.declared.line.OutboxEntry.{OutboxEntry}
use Rattle.world_model.specs.declared.seat.Tenure.{Tenure}
use Rattle.world_model.specs.Life.{actors_after, event_after}
use Rattle.world_model.specs.Mobiles.{after_connecting}
use Rattle.world_model.specs.Queues.{first_of, outputs, outputs_at, taken}
use Rattle.world_model.specs.Relay.{after_base_push, after_break, broken, entry_of, handled, pushed_by_station, pushed_by_switch, station_item}
use Rattle.world_model.specs.Relay.{target_in, with_item, with_turn}
use Rattle.world_model.specs.Stations.{after_base_takes, took_first}
use Rattle.world_model.specs.SwitchSide.{after_switch_does, after_switch_takes, is_layer_3, sccp_in, sent_on, switch_took_first}
use Rattle.world_model.specs.World.{Actors, Link, base_of, broken_link, is_up, link_of, outbox_of, with_base, with_link, with_outbox}
use Rattle.world_model.proofs.Leads.{FromAir, aerial_leads, after_taken, does_leads, is_aerial, push_leads, switch_takes_leads}
use Rattle.world_model.proofs.Leads.{switch_took-leads, taking_leads, turn_leads}
use Rattle.world_model.proofs.Outboxes.{all_join, changed_link, other_link}
use Rattle.world_openers.specs.Initials.{initial_at}
use Rattle.relay_order.proofs.DelayedAir.{air_held, connecting_held, station_is, takes_held}
use Rattle.relay_order.proofs.DelayedHeld.{held, held_down, held_other, switch_down, target_held, turn_held}

-- the inbox with the break in its midst
abbrev pub broken_in : List Item → List Item → List Item
broken_in front back = front ++ switch_down ∷ back

-- ---- whether the link remains up

abbrev pub breaks_switch : Event → Bool
breaks_switch (BaseDown source) = source == SWITCH_LINK
breaks_switch _ = false

abbrev Up : Actors → Type 0
Up w = is_up w SWITCH_LINK ≡ true

up_of_switch : (w : Actors) → Up w → (others : List OutboxEntry) → Up (with_outbox SWITCH_LINK others w)
up_of_switch w up others =
    ap (λ (l : Link). l.up) (changed_link w.links SWITCH_LINK (record (link_of w SWITCH_LINK) { outbox = others }) up) ∙ up

up_of_other : (w : Actors) (n : ℕ) (link : Link) → n ≢ SWITCH_LINK → Up w → Up (with_link n link w)
up_of_other w n link differs up = ap (λ (l : Link). l.up) (other_link w SWITCH_LINK n link (λ is. differs (sym is))) ∙ up

up_turn : (target : Option Tenure) (t : Turn) (w : Actors) → Up w → Up (with_turn target t w)
up_turn target t w up = (all_join SWITCH_LINK target t.outs (record w { controller = t.next })).up ∙ up

up_handled : (w : Actors) (items : List Item) → Up w → Up (unwrap_or (handled items w) w)
up_handled w [] up = up
up_handled w (item ∷ items) up = up_turn (target_in w item.source item.what) (take item w.controller) (record w { inbox = items }) up

up_broken : (w : Actors) (source : ℕ) → source ≢ SWITCH_LINK → Up w → Up (broken source w)
up_broken w source differs up = by (source == SWITCH_LINK) where
  by : (b : Bool) →
      Up (with_item (record { source = source; what = whats.Down }) (if b then record (with_link source broken_link w) { switch_made = [] } else with_base source (after_take_down (base_of (with_link source broken_link w) source)) (with_link source broken_link w)))
  by true = up_of_other w source broken_link differs up
  by false = up_of_other w source broken_link differs up

up_break : (w : Actors) (source : ℕ) → source ≢ SWITCH_LINK → Up w → Up (unwrap_or (after_break w source) w)
up_break w source differs up = by (is_up w source) where
  by : (b : Bool) → Up (unwrap_or (if b then Some (broken source w) else None) w)
  by true = up_broken w source differs up
  by false = up

pub up_after : (w : Actors) (event : Event) →
    breaks_switch event ≡ false →
    is_up w SWITCH_LINK ≡ true →
    is_up (actors_after w event) SWITCH_LINK ≡ true
unfolding event_after FromAir
up_after w (BaseTakes n) is up =
    after_taken Up (after_base_takes w n) w
    (taking_leads Up w n (λ first others there _ mobiles stations. up_of_other w n (record (link_of w n) { outbox = others }) (station_is w n there) up)) up
up_after w (BasePush source) is up = after_taken Up (after_base_push w source) w (push_leads Up w source (λ first others. up) (λ message _. up)) up
up_after w Handle is up = up_handled w w.inbox up
up_after w SwitchTakes is up =
    after_taken Up (after_switch_takes w) w
    (switch_takes_leads Up w (λ first others _ _. switch_took-leads Up (with_outbox SWITCH_LINK others w) (sccp_in first.out.frame) (up_of_switch w up others) (λ next made. up_of_switch w up others))) up
up_after w (SwitchDoes action) is up = after_taken Up (after_switch_does w action) w (does_leads Up w action (λ next made. up)) up
up_after w (Tick ms) is up = up_turn None (tick ms w.controller) w up
up_after w (BaseDown source) is up = up_break w source (eqb-false source SWITCH_LINK is) up
up_after w event is up = after_taken Up (event_after w event) w (aerial_leads Up w event refl (λ mobiles stations. up)) up

-- ---- what is seen of an event

-- both do the same
pub record Same (w v : Actors) (event : Event) : Type 0 where
  pub puts : outputs v event ≡ outputs w event
  pub takes : taken SWITCH_LINK w event ≡ []
  pub opens : (mobile : ℕ) → initial_at v event mobile ≡ initial_at w event mobile

-- nothing is seen
pub record Nothing (v : Actors) (event : Event) : Type 0 where
  pub puts : outputs v event ≡ []
  pub opens : (mobile : ℕ) → initial_at v event mobile ≡ None

pub data Turned (front back : List Item) (w : Actors) (event : Event) : Type 0 where
  both : (now later : List Item) → actors_after (held (broken_in front back) w) event ≡ held (broken_in now later) (actors_after w event)
      → (actors_after w event).inbox ≡ now ++ later → breaks_switch event ≡ false → Same w (held (broken_in front back) w) event → Turned front back w event
  neither : actors_after (held (broken_in front back) w) event ≡ held (broken_in front back) w →
      Nothing (held (broken_in front back) w) event →
      Turned front back w event
  handles : event ≡ Handle → front ≡ [] → Turned front back w event

-- ---- of mobiles and stations

unwrap_held : (items : List Item) (w : Actors) (o : Option Actors) →
    unwrap_or (option_map (held items) o) (held items w) ≡ held items (unwrap_or o w)
unwrap_held items w None = refl
unwrap_held items w (Some v) = refl

is_some_held : (items : List Item) (o : Option Actors) → is_some (option_map (held items) o) ≡ is_some o
is_some_held items None = refl
is_some_held items (Some v) = refl

alike : (items : List Item) (w : Actors) (event : Event) → event_after (held items w) event ≡ option_map (held items) (event_after w event)
    → actors_after (held items w) event ≡ held items (actors_after w event)
alike items w event is = ap (λ (o : Option Actors). unwrap_or o (held items w)) is ∙ unwrap_held items w (event_after w event)

air_outputs : (w : Actors) (event : Event) → is_aerial event ≡ true → outputs w event ≡ []
air_outputs w Handle is = absurd cc
air_outputs w (Tick ms) is = absurd cc
air_outputs w _ is = refl

air_taken : (w : Actors) (event : Event) → is_aerial event ≡ true → taken SWITCH_LINK w event ≡ []
air_taken w (BaseTakes n) is = absurd cc
air_taken w SwitchTakes is = absurd cc
air_taken w _ is = refl

air_breaks : (event : Event) → is_aerial event ≡ true → breaks_switch event ≡ false
air_breaks (BaseDown source) is = absurd cc
air_breaks _ is = refl

initial_held : (items : List Item) (w : Actors) (event : Event) (mobile : ℕ) →
    initial_at (held items w) event mobile ≡ initial_at w event mobile
initial_held items w (Connect number station initial accepts) mobile =
    ap (λ (b : Bool). if (number == mobile) && b then Some initial else None)
    (ap (λ (o : Option Actors). is_some o) (connecting_held items w number station initial accepts) ∙ is_some_held items (after_connecting w number station initial accepts))
initial_held items w _ mobile = refl

air_inbox : (w : Actors) (event : Event) → is_aerial event ≡ true → (actors_after w event).inbox ≡ w.inbox
air_inbox w event is = after_taken (λ v. v.inbox ≡ w.inbox) (event_after w event) w (aerial_leads (λ v. v.inbox ≡ w.inbox) w event is (λ mobiles stations. refl)) refl

air_turned : (front back : List Item) (w : Actors) (event : Event) →
    w.inbox ≡ front ++ back →
    is_aerial event ≡ true →
    Turned front back w event
air_turned front back w event inbox is =
    let items : List Item = broken_in front back in
    both front back (alike items w event (air_held items w event is)) (air_inbox w event is ∙ inbox) (air_breaks event is) (record {
      puts = air_outputs (held items w) event is ∙ sym (air_outputs w event is);
      takes = air_taken w event is;
      opens = initial_held items w event;
    })

-- no station has the switch's link
not_switch_takes : (w : Actors) (n : ℕ) (b : Bool)
    → (if b then (if is_some (if not b && is_up w n then took_first n (outbox_of w n) w else None) then first_of (outbox_of w SWITCH_LINK) else []) else []) ≡ []
not_switch_takes w n true = refl
not_switch_takes w n false = refl

takes_turned : (front back : List Item) (w : Actors) (n : ℕ) → w.inbox ≡ front ++ back → Turned front back w (BaseTakes n)
unfolding event_after
takes_turned front back w n inbox =
    both front back (alike (broken_in front back) w (BaseTakes n) (takes_held (broken_in front back) w n))
    (after_taken (λ v. v.inbox ≡ w.inbox) (after_base_takes w n) w (taking_leads (λ v. v.inbox ≡ w.inbox) w n (λ first others _ _ mobiles stations. refl)) refl ∙ inbox)
    refl (record {
      puts = refl;
      takes = not_switch_takes w n (n == SWITCH_LINK);
      opens = λ mobile. refl;
    })

-- ---- of the switch

down_alike : (items : List Item) (w : Actors) (o : Option Actors) →
    unwrap_or (if is_up (held items w) SWITCH_LINK then o else None) (held items w) ≡ held items w
down_alike items w o = ap (λ (b : Bool). unwrap_or (if b then o else None) (held items w)) (held_down items w)

switch_takes_turned : (front back : List Item) (w : Actors) → Turned front back w SwitchTakes
unfolding event_after
switch_takes_turned front back w =
    let v : Actors = held (broken_in front back) w in
    neither (down_alike (broken_in front back) w (switch_took_first (outbox_of v SWITCH_LINK) v)) (record { puts = refl; opens = λ mobile. refl })

sent_alike : (items : List Item) (w : Actors) (connection : ℕ) (message : Bssap) (next : SwitchState)
    → unwrap_or (sent_on (held items w) connection message next) (held items w) ≡ held items w
sent_alike items w connection message next =
    ap (λ (b : Bool). unwrap_or (if b && is_none (send_fault (connection_of w.switch.connections connection)) then Some (record (held items w) { switch = next; switch_made = [] ++ data_forms_on (connection_of w.switch.connections connection) message }) else None) (held items w)) (held_down items w)

does_alike : (items : List Item) (w : Actors) (action : SwitchAction) →
    unwrap_or (after_switch_does (held items w) action) (held items w) ≡ held items w
does_alike items w (Assign connection) = sent_alike items w connection assignment_request w.switch
does_alike items w (Clear connection) = sent_alike items w connection clear_command (after_clear w.switch connection)
does_alike items w (Dtap connection sapi message) = by (is_layer_3 message) where
  by : (b : Bool) →
      unwrap_or (if b then sent_on (held items w) connection (Transfer (dlci_for sapi) message) w.switch else None) (held items w) ≡ held items w
  by true = sent_alike items w connection (Transfer (dlci_for sapi) message) w.switch
  by false = refl

does_turned : (front back : List Item) (w : Actors) (action : SwitchAction) → Turned front back w (SwitchDoes action)
unfolding event_after
does_turned front back w action = neither (does_alike (broken_in front back) w action) (record { puts = refl; opens = λ mobile. refl })

-- ---- of sources

push_of_switch : (items : List Item) (w : Actors) (n : ℕ) →
    (n == SWITCH_LINK) ≡ true →
    unwrap_or (after_base_push (held items w) n) (held items w) ≡ held items w
push_of_switch items w n is = ap (λ (b : Bool). unwrap_or (if b then pushed_by_switch [] (held items w) else pushed_by_station n (first_message (base_of w n)) (held items w)) (held items w)) is

pushed_held : (front back : List Item) (w : Actors) (n : ℕ) (o : Option Rsl)
    → unwrap_or (pushed_by_station n o (held (broken_in front back) w)) (held (broken_in front back) w)
    ≡ held (broken_in front (back ++ map (station_item n) (option_to_list o))) (unwrap_or (pushed_by_station n o w) w)
pushed_held front back w n None = ap (λ (items : List Item). held (broken_in front items) w) (sym (append-nil back))
pushed_held front back w n (Some message) =
    ap (λ (items : List Item). held items (with_item (station_item n message) (with_base n (after_next (base_of w n)) w)))
    (append_assoc front (switch_down ∷ back) (station_item n message ∷ []))

pushed_inbox : (front back : List Item) (w : Actors) (n : ℕ) (o : Option Rsl) → w.inbox ≡ front ++ back
    → (unwrap_or (pushed_by_station n o w) w).inbox ≡ front ++ (back ++ map (station_item n) (option_to_list o))
pushed_inbox front back w n None inbox = inbox ∙ ap (λ (items : List Item). front ++ items) (sym (append-nil back))
pushed_inbox front back w n (Some message) inbox =
    ap (λ (items : List Item). items ++ station_item n message ∷ []) inbox ∙ append_assoc front back (station_item n message ∷ [])

push_turned : (front back : List Item) (w : Actors) (n : ℕ) (b : Bool) →
    (n == SWITCH_LINK) ≡ b →
    w.inbox ≡ front ++ back →
    Turned front back w (BasePush n)
unfolding event_after
push_turned front back w n true is inbox = neither (push_of_switch (broken_in front back) w n is) (record { puts = refl; opens = λ mobile. refl })
push_turned front back w n false is inbox =
    let v : Actors = held (broken_in front back) w in
    let o : Option Rsl = first_message (base_of w n) in
    let later : List Item = back ++ map (station_item n) (option_to_list o) in
    both front later
    (ap (λ (b : Bool). unwrap_or (if b then pushed_by_switch [] v else pushed_by_station n o v) v) is
    ∙ pushed_held front back w n o
    ∙ sym (ap (λ (b : Bool). held (broken_in front later) (unwrap_or (if b then pushed_by_switch w.switch_made w else pushed_by_station n o w) w)) is))
    (ap (λ (b : Bool). (unwrap_or (if b then pushed_by_switch w.switch_made w else pushed_by_station n o w) w).inbox) is
    ∙ pushed_inbox front back w n o inbox)
    refl (record { puts = refl; takes = refl; opens = λ mobile. refl })

-- ---- of breaks

abbrev down_of : ℕ → Item
down_of n = record { source = n; what = whats.Down }

broken_held : (items : List Item) (w : Actors) (n : ℕ) →
    n ≢ SWITCH_LINK →
    broken n (held items w) ≡ held (items ++ down_of n ∷ []) (broken n w)
broken_held items w n differs = by (n == SWITCH_LINK) where
  item : Item
  item = down_of n

  without : Bool → Actors → Actors
  without b v = if b then record (with_link n broken_link v) { switch_made = [] } else with_base n (after_take_down (base_of (with_link n broken_link v) n)) (with_link n broken_link v)

  by : (b : Bool) → with_item item (without b (held items w)) ≡ held (items ++ item ∷ []) (with_item item (without b w))
  by true = ap (λ (links : List Link). record (held (items ++ item ∷ []) w) { links = links }) (set_comm w.links SWITCH_LINK n broken_link broken_link (λ is. differs (sym is)))
  by false =
      ap (λ (links : List Link). record (held (items ++ item ∷ []) (with_base n (after_take_down (base_of w n)) w)) { links = links })
      (set_comm w.links SWITCH_LINK n broken_link broken_link (λ is. differs (sym is)))

broken_inbox : (w : Actors) (n : ℕ) → (broken n w).inbox ≡ w.inbox ++ down_of n ∷ []
broken_inbox w n = by (n == SWITCH_LINK) where
  by : (b : Bool) →
      (with_item (down_of n) (if b then record (with_link n broken_link w) { switch_made = [] } else with_base n (after_take_down (base_of (with_link n broken_link w) n)) (with_link n broken_link w))).inbox ≡ w.inbox ++ down_of n ∷ []
  by true = refl
  by false = refl

-- the break of another link, which is up or not
break_turned : (front back : List Item) (w : Actors) (n : ℕ) →
    (n == SWITCH_LINK) ≡ false →
    w.inbox ≡ front ++ back →
    Turned front back w (BaseDown n)
unfolding event_after
break_turned front back w n other inbox = by (is_up w n) refl where
  differs : n ≢ SWITCH_LINK
  differs = eqb-false n SWITCH_LINK other

  v : Actors
  v = held (broken_in front back) w

  item : Item
  item = down_of n

  same_up : is_up v n ≡ is_up w n
  same_up = ap (λ (l : Link). l.up) (held_other (broken_in front back) w n differs)

  by : (b : Bool) → is_up w n ≡ b → Turned front back w (BaseDown n)
  by true up =
      both front (back ++ item ∷ [])
      (ap (λ (b : Bool). unwrap_or (if b then Some (broken n v) else None) v) (same_up ∙ up)
      ∙ broken_held (broken_in front back) w n differs
      ∙ ap (λ (items : List Item). held items (broken n w)) (append_assoc front (switch_down ∷ back) (item ∷ []))
      ∙ sym (ap (λ (b : Bool). held (broken_in front (back ++ item ∷ [])) (unwrap_or (if b then Some (broken n w) else None) w)) up))
      (ap (λ (b : Bool). (unwrap_or (if b then Some (broken n w) else None) w).inbox) up
      ∙ broken_inbox w n ∙ ap (λ (items : List Item). items ++ item ∷ []) inbox ∙ append_assoc front back (item ∷ []))
      other (record { puts = refl; takes = refl; opens = λ mobile. refl })
  by false down = neither (ap (λ (b : Bool). unwrap_or (if b then Some (broken n v) else None) v) (same_up ∙ down)) (record { puts = refl; opens = λ mobile. refl })

-- the switch's own, which is broken already
own_break : (front back : List Item) (w : Actors) (n : ℕ) → (n == SWITCH_LINK) ≡ true → Turned front back w (BaseDown n)
unfolding event_after
own_break front back w n is =
    let v : Actors = held (broken_in front back) w in
    neither (ap (λ (b : Bool). unwrap_or (if b then Some (broken n v) else None) v) (ap (is_up v) (eqb-true n SWITCH_LINK is) ∙ held_down (broken_in front back) w)) (record { puts = refl; opens = λ mobile. refl })

-- ---- of the controller

tick_turned : (front back : List Item) (w : Actors) (ms : ℕ) → w.inbox ≡ front ++ back → Turned front back w (Tick ms)
unfolding event_after
tick_turned front back w ms inbox =
    both front back (turn_held (broken_in front back) None (tick ms w.controller) w)
    (turn_leads (λ v. v.inbox ≡ w.inbox) None (tick ms w.controller) w (λ links. refl) ∙ inbox)
    refl (record { puts = refl; takes = refl; opens = λ mobile. refl })

handle_turned : (front back : List Item) (w : Actors) → w.inbox ≡ front ++ back → Turned front back w Handle
unfolding event_after
handle_turned [] back w inbox = handles refl refl
handle_turned (item ∷ front) back w inbox =
    let v : Actors = held (broken_in (item ∷ front) back) w in
    let t : Turn = take item w.controller in
    let target : Option Tenure = target_in w item.source item.what in
    let next : Actors = record w { inbox = front ++ back } in
    let handled_there : actors_after w Handle ≡ with_turn target t next = ap (λ (items : List Item). unwrap_or (handled items w) w) inbox in
    both front back
    (ap (λ (o : Option Tenure). with_turn o t (held (broken_in front back) next)) (target_held (broken_in (item ∷ front) back) w item.source item.what)
    ∙ turn_held (broken_in front back) target t next
    ∙ ap (held (broken_in front back)) (sym handled_there))
    (ap (λ (u : Actors). u.inbox) handled_there ∙ turn_leads (λ u. u.inbox ≡ front ++ back) target t next (λ links. refl))
    refl (record {
      puts = ap (λ (o : Option Tenure). map (entry_of o) t.outs) (target_held (broken_in (item ∷ front) back) w item.source item.what) ∙ sym (ap (outputs_at w) inbox);
      takes = refl;
      opens = λ mobile. refl;
    })

-- ---- each event

pub turned : (front back : List Item) (w : Actors) (event : Event) → w.inbox ≡ front ++ back → Turned front back w event
turned front back w (BaseTakes n) inbox = takes_turned front back w n inbox
turned front back w (BasePush n) inbox = push_turned front back w n (n == SWITCH_LINK) refl inbox
turned front back w Handle inbox = handle_turned front back w inbox
turned front back w SwitchTakes inbox = switch_takes_turned front back w
turned front back w (SwitchDoes action) inbox = does_turned front back w action
turned front back w (Tick ms) inbox = tick_turned front back w ms inbox
turned front back w (BaseDown n) inbox =
    elim (cases_Bool (n == SWITCH_LINK)) [
      | inl is ↦ own_break front back w n is
      | inr other ↦ break_turned front back w n other inbox
    ]
turned front back w event inbox = air_turned front back w event inbox refl
