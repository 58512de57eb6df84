-- SPDX-License-Identifier: MIT OR Apache-2.0
-- The names agree after each event at which neither the controller takes a step nor the switch
-- takes an entry.
use Rattle.world_laws.proofs.Prelude.{◌≡◌, ◌≢◌, ℕ, zero, suc, ◌+◌, ◌-◌, ◌≤◌, ◌<◌, nat_eq, Bool, true, false, if◌then◌else◌, List, [], ◌∷◌}
use Rattle.world_laws.proofs.Prelude.{◌++◌, find, get_or, set, option_to_list, unwrap_or, Option, Some, None, refl, sym, ap, ◌∙◌, subst}
use Rattle.world_laws.proofs.Prelude.{slice_get, slice_set, is_none, AllByRecursion, eqb-false, and_parts, Bssap, Transfer, InterfaceFault}
use Rattle.world_laws.proofs.Prelude.{Sccp, DataForm1, bssap_text, bssap_write_fault, SWITCH_LINK, AllByRecursion-append, Due, WasAsked}
use Rattle.world_laws.proofs.Prelude.{Complete, State, Closed, Removed, IsOpen, IsThere}
use Rattle.world_laws.proofs.Prelude.{controllers, Controller, after_take_down, first_message, Clearing, Ended, REFERENCE_BASE}
use Rattle.world_laws.proofs.Prelude.{send_fault, after_clear, assignment_request, clear_command, connections_after_clear, data_form_by}
use Rattle.world_laws.proofs.Prelude.{data_forms_on, dlci_for, with_stage, SwitchState, Item, Rsl, SwitchAction, Assign, Clear, Dtap}
use Rattle.world_laws.proofs.Prelude.{OutboxEntry, after_base_push, after_break, pushed_by_station, pushed_by_switch, switch_item}
use Rattle.world_laws.proofs.Prelude.{with_item, after_switch_does, is_layer_3, may_send_on, sent_on, Actors, Link, base_of, broken_link}
use Rattle.world_laws.proofs.Prelude.{is_up, outbox_of, with_base, with_link, after_taken, broken_leads, changed_link, same_Some}
use Rattle.world_laws.proofs.Prelude.{stage_fault, other_link, is_of_peer, is_unasked, is_asking, is_unheard, is_known}
use Rattle.conn_rules.specs.Connection.{Connection as ControllerConnection}
use Rattle.msc_end.specs.declared.connection.Connection.{Connection}
use Rattle.msc_end.specs.declared.connection.Stage.{Stage}
use Rattle.msc_end.specs.Switch.{connection_of}
use Rattle.ruled_relay.specs.declared.item.What.TheVariants as whats
use Rattle.world_laws.specs.References.Agree.{Agrees, AsksOnce, Confirms, ConfirmsBeing, ConfirmsBy, HasAsked, IsRight, IsUnknown, Knows}
use Rattle.world_laws.specs.References.Agree.{NamesAgree, Never, Only, Runs, IsFirstAt, is_over, over_after, reads_of}
use Rattle.world_laws.specs.References.Naming.{Reach, early, waits, due, named, cleared, gone, reach_in, reach_of}
use Rattle.world_laws.specs.References.Reads.{AreNothing, Read}
use Rattle.world_laws.proofs.References.Peers.{Differ, HaveOwnPeers, clear_peers, peers_of}
use Rattle.world_laws.proofs.References.Places.{got_other, set_none}
use Rattle.world_laws.proofs.References.Pushing.{confirms_station_item, confirms_switch_item}
use Rattle.world_laws.proofs.References.Taking.{IsSame, asked_same, same_agrees, same_unknown, unasked_same}

-- ---- what is kept of each connection

-- it is there, and didn't ask
pub record IsEarly (w : Actors) (n : ℕ) : Type 0 where
  pub past : n < w.controller.next_number
  pub is_early : reach_of (controllers w.controller n) ≡ early
  pub unknown : IsUnknown w n

-- The names agree then, and a connection that the switch never hears of remains so.
pub record Keeps (w v : Actors) : Type 0 where
  pub names : NamesAgree w → NamesAgree v
  pub remains_unknown : (n : ℕ) → 1 ≤ n → HasAsked w n → IsUnknown w n → HasAsked v n × IsUnknown v n
  -- and one that didn't ask, and isn't open then, becomes one
  pub dropped : (n : ℕ) → 1 ≤ n → IsEarly w n → (IsThere (controllers v.controller n) → ⊥) → HasAsked v n × IsUnknown v n
  -- and each connection of the switch has a peer of its own
  pub peers : HaveOwnPeers w → HaveOwnPeers v

pub early_there : (o : Option ControllerConnection) → reach_of o ≡ early → IsThere o
early_there None is = absurd cc
early_there (Some s) is = by s.state is where
  by : (state : State) → reach_in state ≡ early → IsOpen state
  by (Closed (Due cause)) is = absurd cc
  by (Closed (WasAsked reference)) is = absurd cc
  by (Closed Complete) is = absurd cc
  by Removed is = absurd cc
  by _ is = tt

pub dropped_same : (w v : Actors) (n : ℕ) →
    v.controller ≡ w.controller →
    IsEarly w n →
    (IsThere (controllers v.controller n) → ⊥) →
    HasAsked v n × IsUnknown v n
dropped_same w v n is has closed = absurd (closed (subst (λ (c : Controller). IsThere (controllers c n)) (sym is) (early_there (controllers w.controller n) has.is_early)))

pub keeps_itself : (w : Actors) → Keeps w w
keeps_itself w = record { names = λ agree. agree; remains_unknown = λ n from_one has unknown. (has, unknown); dropped = λ n from_one has closed. dropped_same w w n refl has closed; peers = λ differ. differ }

pub by_same : (w v : Actors) →
    ((n : ℕ) → IsSame w v n) →
    ((n : ℕ) (P : ℕ → Type 0) → Confirms P w n → Confirms P v n) →
    outbox_of v SWITCH_LINK ≡ outbox_of w SWITCH_LINK →
    peers_of v.switch.connections ≡ peers_of w.switch.connections →
    Keeps w v
by_same w v each confirms same same_peers = record {
  names = λ agree. record {
    each = λ n from_one. same_agrees w v n (each n) (confirms n) (agree.each n from_one);
    right = subst (AllByRecursion (λ (entry : OutboxEntry). IsRight entry.out)) (sym same) agree.right;
  };
  remains_unknown = λ n from_one has unknown.
      (asked_same w v n (each n).controller_is has, same_unknown w v n (each n) (confirms n) unknown);
  dropped = λ n from_one has closed. dropped_same w v n (each n).controller_is has closed;
  peers = λ differ. subst Differ (sym same_peers) differ;
}

-- ---- nothing of it changes

pub record IsBeside (w v : Actors) : Type 0 where
  pub controller_is : v.controller ≡ w.controller
  pub switch_is : v.switch ≡ w.switch
  pub made_is : v.switch_made ≡ w.switch_made
  pub inbox_is : v.inbox ≡ w.inbox
  pub outbox_is : outbox_of v SWITCH_LINK ≡ outbox_of w SWITCH_LINK

-- the outbox and the switch's connections are as they were
pub same_by : (w v : Actors) (n : ℕ) →
    v.controller ≡ w.controller →
    v.switch ≡ w.switch →
    outbox_of v SWITCH_LINK ≡ outbox_of w SWITCH_LINK →
    IsSame w v n
same_by w v n controller switch outbox = record {
  controller_is = controller;
  none = λ none. subst (λ (s : SwitchState). find (is_of_peer n) s.connections ≡ None) (sym switch) none;
  first_at = λ place c first_at. (c, subst (λ (s : SwitchState). IsFirstAt n place c s.connections) (sym switch) first_at, refl);
  quiet = λ quiet. subst (λ (entries : List OutboxEntry). AreNothing (reads_of n entries)) (sym outbox) quiet;
  once = λ once. subst (λ (entries : List OutboxEntry). AsksOnce n (reads_of n entries)) (sym outbox) once;
  runs = λ k over last runs. subst (λ (entries : List OutboxEntry). Runs k over (reads_of n entries) last) (sym outbox) runs;
}

pub by_beside : (w v : Actors) → IsBeside w v → Keeps w v
by_beside w v is = by_same w v (λ n. same_by w v n is.controller_is is.switch_is is.outbox_is)
    (λ n P confirms. record { made = subst (AllByRecursion (ConfirmsBy P n)) (sym is.made_is) confirms.made; waiting = subst (AllByRecursion (ConfirmsBeing P n)) (sym is.inbox_is) confirms.waiting })
    is.outbox_is (ap (λ (s : SwitchState). peers_of s.connections) is.switch_is)

-- ---- the inbox gets an item

item_keeps : (w v : Actors) (item : Item) →
    v.controller ≡ w.controller →
    v.switch ≡ w.switch →
    outbox_of v SWITCH_LINK ≡ outbox_of w SWITCH_LINK →
    v.switch_made ≡ w.switch_made →
    v.inbox ≡ w.inbox ++ item ∷ [] →
    ((n : ℕ) (P : ℕ → Type 0) → ConfirmsBeing P n item) →
    Keeps w v
item_keeps w v item controller switch outbox made inbox being = by_same w v (λ n. same_by w v n controller switch outbox)
    (λ n P confirms. record {
      made = subst (AllByRecursion (ConfirmsBy P n)) (sym made) confirms.made;
      waiting = subst (AllByRecursion (ConfirmsBeing P n)) (sym inbox) (AllByRecursion-append (ConfirmsBeing P n) w.inbox (item ∷ []) confirms.waiting (being n P, tt));
    }) outbox (ap (λ (s : SwitchState). peers_of s.connections) switch)

push_switch : (w : Actors) (made : List Sccp) → w.switch_made ≡ made → Keeps w (unwrap_or (pushed_by_switch made w) w)
push_switch w [] is = keeps_itself w
push_switch w (first ∷ others) is = by_same w (with_item (switch_item first) (record w { switch_made = others })) (λ n. same_by w (with_item (switch_item first) (record w { switch_made = others })) n refl refl refl)
    (λ n P confirms.
    let made = subst (AllByRecursion (ConfirmsBy P n)) is confirms.made in
    record { made = made.1; waiting = AllByRecursion-append (ConfirmsBeing P n) w.inbox (switch_item first ∷ []) confirms.waiting (confirms_switch_item P n first made.0, tt) }) refl refl

push_station : (w : Actors) (source : ℕ) → source ≢ SWITCH_LINK → (o : Option Rsl) → Keeps w (unwrap_or (pushed_by_station source o w) w)
push_station w source station None = keeps_itself w
push_station w source station (Some message) = item_keeps w _ _ refl refl refl refl refl (λ n P. confirms_station_item P n source message station)

pub push_keeps : (w : Actors) (source : ℕ) → Keeps w (unwrap_or (after_base_push w source) w)
push_keeps w source = by (nat_eq source SWITCH_LINK) refl where
  by : (b : Bool) →
      nat_eq source SWITCH_LINK ≡ b →
      Keeps w (unwrap_or (if b then pushed_by_switch w.switch_made w else pushed_by_station source (first_message (base_of w source)) w) w)
  by true is = push_switch w w.switch_made refl
  by false is = push_station w source (eqb-false source SWITCH_LINK is) (first_message (base_of w source))

-- ---- a link breaks

over_last : (k : ℕ) (last : Bool) (xs : List Read) → Runs k true xs last → last ≡ true
over_last k last [] runs = sym runs
over_last k last (x ∷ xs) runs = over_last k last xs (subst (λ (b : Bool). Runs k b xs last) (unchanged x) runs.1) where
  unchanged : (x : Read) → over_after true x ≡ true
  unchanged (Read.asks source initial) = refl
  unchanged _ = refl

knows_less : (k : ℕ) (last : Bool) (a : Reach) → Knows k last a → Knows k false a
knows_less k last waits knows = refl
knows_less k last due knows = refl
knows_less k last (named own) knows = (knows.0, refl)
knows_less k last cleared knows = tt
knows_less k last gone knows = tt
knows_less k last early knows = absurd knows

knows_cut : (k : ℕ) (over last : Bool) (xs : List Read) (a : Reach) → Runs k over xs last → Knows k last a → Knows k over a
knows_cut k true last xs a runs knows = subst (λ (b : Bool). Knows k b a) (over_last k last xs runs) knows
knows_cut k false last xs a runs knows = knows_less k last a knows

-- what waited for the switch is lost
module _ (w v : Actors) (controller : v.controller ≡ w.controller) (switch : v.switch ≡ w.switch) (outbox : outbox_of v SWITCH_LINK ≡ []) (confirms : (n : ℕ) (P : ℕ → Type 0) → Confirms P w n → Confirms P v n) where
  cut_unknown : (n : ℕ) → find (is_of_peer n) w.switch.connections ≡ None → Confirms Never w n → IsUnknown v n
  cut_unknown n none never = record {
    none = subst (λ (s : SwitchState). find (is_of_peer n) s.connections ≡ None) (sym switch) none;
    quiet = subst (λ (entries : List OutboxEntry). AreNothing (reads_of n entries)) (sym outbox) tt;
    unconfirmed = confirms n Never never;
  }

  cut_agrees : (n : ℕ) → Agrees w n → Agrees v n
  cut_agrees n (is_unasked un unknown) = is_unasked (unasked_same w v n controller un) (cut_unknown n unknown.none unknown.unconfirmed)
  cut_agrees n (is_asking has way) = is_unheard (asked_same w v n controller has) (cut_unknown n way.none way.unconfirmed)
  cut_agrees n (is_unheard has unknown) = is_unheard (asked_same w v n controller has) (cut_unknown n unknown.none unknown.unconfirmed)
  cut_agrees n (is_known past known) = is_known (subst (λ (c : Controller). n < c.next_number) (sym controller) past) (record {
    place = known.place;
    of = known.of;
    last = is_over known.of.stage;
    first_at = subst (λ (s : SwitchState). IsFirstAt n known.place known.of s.connections) (sym switch) known.first_at;
    fits = known.fits;
    runs = subst (λ (entries : List OutboxEntry). Runs (REFERENCE_BASE + (known.place + 1)) (is_over known.of.stage) (reads_of n entries) (is_over known.of.stage)) (sym outbox) refl;
    confirmed = confirms n (Only (REFERENCE_BASE + (known.place + 1))) known.confirmed;
    knows = subst (λ (c : Controller). Knows (REFERENCE_BASE + (known.place + 1)) (is_over known.of.stage) (reach_of (controllers c n))) (sym controller)
        (knows_cut (REFERENCE_BASE + (known.place + 1)) (is_over known.of.stage) known.last (reads_of n (outbox_of w SWITCH_LINK)) (reach_of (controllers w.controller n)) known.runs known.knows);
  })

  cut_keeps : Keeps w v
  cut_keeps = record {
    names = λ agree. record { each = λ n from_one. cut_agrees n (agree.each n from_one); right = subst (AllByRecursion (λ (entry : OutboxEntry). IsRight entry.out)) (sym outbox) tt };
    remains_unknown = λ n from_one has unknown. (asked_same w v n controller has, cut_unknown n unknown.none unknown.unconfirmed);
    dropped = λ n from_one has closed. dropped_same w v n controller has closed;
    peers = λ differ. subst (λ (s : SwitchState). Differ (peers_of s.connections)) (sym switch) differ;
  }

pub break_keeps : (w : Actors) (source : ℕ) → Keeps w (unwrap_or (after_break w source) w)
break_keeps w source = after_taken (Keeps w) (after_break w source) w (broken_leads (Keeps w) w source of_switch of_station) (keeps_itself w) where
  of_switch : is_up w source ≡ true →
      source ≡ SWITCH_LINK →
      Keeps w (with_item (record { source = source; what = whats.Down }) (record (with_link source broken_link w) { switch_made = [] }))
  of_switch up is = cut_keeps w (with_item (record { source = source; what = whats.Down }) (record (with_link source broken_link w) { switch_made = [] })) refl refl
      (ap (λ (l : Link). l.outbox) (subst (λ (x : ℕ). get_or (set w.links source broken_link) x broken_link ≡ broken_link) is (changed_link w.links source broken_link up)))
      (λ n P confirms. record { made = tt; waiting = AllByRecursion-append (ConfirmsBeing P n) w.inbox (record { source = source; what = whats.Down } ∷ []) confirms.waiting (tt, tt) })

  of_station : is_up w source ≡ true →
      source ≢ SWITCH_LINK →
      Keeps w (with_item (record { source = source; what = whats.Down }) (with_base source (after_take_down (base_of (with_link source broken_link w) source)) (with_link source broken_link w)))
  of_station up other = item_keeps w _ (record { source = source; what = whats.Down }) refl refl (ap (λ (l : Link). l.outbox) (other_link w SWITCH_LINK source broken_link (λ is. other (sym is)))) refl refl (λ n P. tt)

-- ---- the switch acts of its own

-- one connection changes, and hasn't ended before or after
first_at_set : (n place : ℕ) (c : Connection) (cs : List Connection) (i : ℕ) (x own : Connection) → slice_get cs i ≡ Some x → own.peer ≡ x.peer → is_over own.stage ≡ is_over x.stage → IsFirstAt n place c cs
    → (now : Connection) × IsFirstAt n place now (slice_set cs i own) × (is_over now.stage ≡ is_over c.stage)
first_at_set n place c [] i x own is peer over first_at = absurd first_at
first_at_set n zero c (y ∷ cs) zero x own is peer over first_at =
    (own, (refl, peer ∙ ap (λ (z : Connection). z.peer) (sym (same_Some _ _ is)) ∙ first_at.1), over ∙ ap (λ (z : Connection). is_over z.stage) (sym (same_Some _ _ is) ∙ first_at.0))
first_at_set n zero c (y ∷ cs) (suc i) x own is peer over first_at = (c, (first_at.0, first_at.1), refl)
first_at_set n (suc place) c (y ∷ cs) zero x own is peer over first_at = (c, ((λ mine. first_at.0 (ap (λ (z : Connection). z.peer) (same_Some _ _ is) ∙ sym peer ∙ mine)), first_at.1), refl)
first_at_set n (suc place) c (y ∷ cs) (suc i) x own is peer over first_at =
    let rest = first_at_set n place c cs i x own is peer over first_at.1 in
    (rest.0, (first_at.0, rest.1), rest.2)

-- the connections are others then, but are at the places where they were
record AreAtSamePlaces (cs now : List Connection) (n : ℕ) : Type 0 where
  none : find (is_of_peer n) cs ≡ None → find (is_of_peer n) now ≡ None
  first_at : (place : ℕ) (c : Connection) →
      IsFirstAt n place c cs →
      (own : Connection) × IsFirstAt n place own now × (is_over own.stage ≡ is_over c.stage)

same_places_itself : (cs : List Connection) (n : ℕ) → AreAtSamePlaces cs cs n
same_places_itself cs n = record { none = λ none. none; first_at = λ place c first_at. (c, first_at, refl) }

stage-open : (c : Connection) → is_none (stage_fault c.stage) ≡ true → is_over c.stage ≡ false
stage-open c is = by c.stage is where
  by : (s : Stage) → is_none (stage_fault s) ≡ true → is_over s ≡ false
  by Ended is = absurd cc
  by _ is = refl

first_at_clear : (cs : List Connection) (number n : ℕ) →
    is_none (send_fault (connection_of cs number)) ≡ true →
    AreAtSamePlaces cs (connections_after_clear cs number (connection_of cs number)) n
first_at_clear cs number n open_is = by_number (nat_eq number 0) open_is where
  by : (o : Option Connection) →
      slice_get cs (number - 1) ≡ o →
      is_none (send_fault o) ≡ true →
      AreAtSamePlaces cs (connections_after_clear cs number o) n
  by None is unclear = same_places_itself cs n
  by (Some x) is unclear = record {
    none = λ none. set_none n cs (number - 1) (with_stage x Clearing) (got_other n cs (number - 1) x is none) none;
    first_at = λ place c first_at. first_at_set n place c cs (number - 1) x (with_stage x Clearing) is refl
        (sym (stage-open x unclear)) first_at;
  }

  by_number : (b : Bool) →
      is_none (send_fault (if b then None else slice_get cs (number - 1))) ≡ true →
      AreAtSamePlaces cs (connections_after_clear cs number (if b then None else slice_get cs (number - 1))) n
  by_number true unclear = same_places_itself cs n
  by_number false unclear = by (slice_get cs (number - 1)) refl unclear

forms_confirm : (P : ℕ → Type 0) (n : ℕ) (o : Option Connection) (message : Bssap) →
    AllByRecursion (ConfirmsBy P n) (data_forms_on o message)
forms_confirm P n None message = tt
forms_confirm P n (Some c) message = by (bssap_write_fault message) where
  by : (f : Option InterfaceFault) →
      AllByRecursion (ConfirmsBy P n) (option_to_list (data_form_by f (DataForm1 c.peer (bssap_text message))))
  by None = (tt, tt)
  by (Some fault) = tt

sent_keeps : (w : Actors) (number : ℕ) (message : Bssap) (next : SwitchState) →
    (is_none (send_fault (connection_of w.switch.connections number)) ≡ true → (n : ℕ) → AreAtSamePlaces w.switch.connections next.connections n) →
    peers_of next.connections ≡ peers_of w.switch.connections →
    Keeps w (unwrap_or (sent_on w number message next) w)
sent_keeps w number message next stand same_peers = by (may_send_on w number) refl where
  by : (b : Bool) →
      may_send_on w number ≡ b →
      Keeps w (unwrap_or (if b then Some (record w { switch = next; switch_made = w.switch_made ++ data_forms_on (connection_of w.switch.connections number) message }) else None) w)
  by false is = keeps_itself w
  by true is =
      let unclear = (and_parts (is_up w SWITCH_LINK) (is_none (send_fault (connection_of w.switch.connections number))) is).1 in
      by_same w _ (λ n. let s = stand unclear n in record { controller_is = refl; none = s.none; first_at = s.first_at; quiet = λ quiet. quiet; once = λ once. once; runs = λ k over last runs. runs })
      (λ n P confirms. record { made = AllByRecursion-append (ConfirmsBy P n) w.switch_made (data_forms_on (connection_of w.switch.connections number) message) confirms.made (forms_confirm P n (connection_of w.switch.connections number) message); waiting = confirms.waiting }) refl same_peers

pub does_keeps : (w : Actors) (action : SwitchAction) → Keeps w (unwrap_or (after_switch_does w action) w)
does_keeps w (Assign number) = sent_keeps w number assignment_request w.switch (λ unclear n. same_places_itself w.switch.connections n) refl
does_keeps w (Clear number) = sent_keeps w number clear_command (after_clear w.switch number) (λ unclear n. first_at_clear w.switch.connections number n unclear) (clear_peers w.switch.connections number)
does_keeps w (Dtap number sapi message) = by (is_layer_3 message) where
  by : (b : Bool) → Keeps w (unwrap_or (if b then sent_on w number (Transfer (dlci_for sapi) message) w.switch else None) w)
  by true = sent_keeps w number (Transfer (dlci_for sapi) message) w.switch (λ unclear n. same_places_itself w.switch.connections n) refl
  by false = keeps_itself w
