-- SPDX-License-Identifier: MIT OR Apache-2.0
-- The break of the switch's link can be put off: in another world the link is still up, and its
-- outbox had all that the controller put for it.
use Rattle.std.proofs.Common.{◌≡◌, ℕ, ◌+◌, ◌==◌, nat_eq, Bool, true, false, cond, if◌then◌else◌, List, [], ◌∷◌, ◌++◌, map, Option, Some, None}
use Rattle.std.proofs.Common.{refl, sym, ap, ◌∙◌, subst, append-nil, eqb-true, get_or, length, replicate, unwrap_or, add-one, inl, inr}
use Rattle.std.proofs.lemmas.Bool.{cases_Bool}
use Rattle.std.proofs.lemmas.List.{map-append}
use Rattle.std.specs.List.{filter}
use Rattle.std.specs.Option.{option_or}
use Rattle.conn_messages.specs.declared.out.Out.{Out}
use Rattle.conn_messages.specs.declared.parameters.TheConstants.{SWITCH_LINK}
use Rattle.controller_worker.specs.Steps.{frames_to}
use Rattle.ipa_framing.specs.declared.frame.Frame.{Frame}
use Rattle.ruled_relay.specs.declared.item.Item.{Item}
use Rattle.settings.specs.Parameters.{AreAllowed, Parameters}
use Rattle.world_laws.specs.Order.OctetEvents.{AreOctetEvents, IsOctetEvent}
use Rattle.world_laws.specs.Order.Openers.{first_served, served_by}
use Rattle.world_laws.proofs.Events.{snoc_actors}
use Rattle.world_model.specs.declared.event.Event.{Event}
use Rattle.world_model.specs.declared.event.Event.TheVariants.{BaseDown}
use Rattle.world_model.specs.declared.line.OutboxEntry.{OutboxEntry}
use Rattle.world_model.specs.Life.{actors_after, actors_after_all, event_after}
use Rattle.world_model.specs.Queues.{all_put, all_taken, outputs, taken, to_link}
use Rattle.world_model.specs.Relay.{broken}
use Rattle.world_model.specs.Steps.{all_outputs}
use Rattle.world_model.specs.Views.{sent}
use Rattle.world_model.specs.World.{Actors, Mobile, broken_link, is_up, new_actors, new_link, outbox_of}
use Rattle.world_model.proofs.Outboxes.{down_after, down_empty}
use Rattle.world_openers.specs.Initials.{initial_at, initial_of}
use Rattle.relay_order.proofs.DelayedAfter.{frames_append, sent_kept, silent}
use Rattle.relay_order.proofs.DelayedEvents.{Turned, breaks_switch, broken_in, turned, up_after}
use Rattle.relay_order.proofs.DelayedEvents.Turned.{both, handles, neither}
use Rattle.relay_order.proofs.DelayedHeld.{held, held_down, held_empty}

-- the events of another world, where the switch's link is still up
pub record Delayed (settings : Parameters) (events other : List Event) : Type 0 where
  pub octets : AreOctetEvents other
  pub up : is_up (actors_after_all (new_actors settings) other) SWITCH_LINK ≡ true
  -- the frames of its outbox's history are all that the first world's controller put for the link
  pub put : map (λ entry. entry.out.frame) (all_put SWITCH_LINK (new_actors settings) other)
      ≡ frames_to SWITCH_LINK (all_outputs (new_actors settings) events)
  pub taken : all_taken SWITCH_LINK (new_actors settings) other ≡ all_taken SWITCH_LINK (new_actors settings) events
  -- connections are the same mobiles', mobiles sent the same or less, and connected with the same
  pub names : (number mobile : ℕ) → first_served (new_actors settings) other number ≡ Some mobile
      → first_served (new_actors settings) events number ≡ Some mobile
  pub sent : (mobile : ℕ) (list : List (List ℕ)) → sent (actors_after_all (new_actors settings) other) mobile ≡ Some list
      → (more : List (List ℕ)) × (sent (actors_after_all (new_actors settings) events) mobile ≡ Some (list ++ more))
  pub connected : (mobile : ℕ) (initial : List ℕ) → initial_of (new_actors settings) other mobile ≡ Some initial
      → initial_of (new_actors settings) events mobile ≡ Some initial

-- ---- from any actors on

record Follows (w v : Actors) (events other : List Event) : Type 0 where
  octets : AreOctetEvents other
  up : is_up (actors_after_all w other) SWITCH_LINK ≡ true
  puts : map (λ entry. entry.out.frame) (all_put SWITCH_LINK w other) ≡ frames_to SWITCH_LINK (all_outputs v events)
  takes : all_taken SWITCH_LINK w other ≡ all_taken SWITCH_LINK v events
  names : (number mobile : ℕ) → first_served w other number ≡ Some mobile → first_served v events number ≡ Some mobile
  sends : (mobile : ℕ) (list : List (List ℕ)) → sent (actors_after_all w other) mobile ≡ Some list
      → (more : List (List ℕ)) × (sent (actors_after_all v events) mobile ≡ Some (list ++ more))
  connects : (mobile : ℕ) (initial : List ℕ) → initial_of w other mobile ≡ Some initial → initial_of v events mobile ≡ Some initial

-- ---- what is put

put_frames : (entries : List OutboxEntry) →
    map (λ entry. entry.out.frame) (to_link SWITCH_LINK entries) ≡ frames_to SWITCH_LINK (map (λ entry. entry.out) entries)
put_frames [] = refl
put_frames (entry ∷ entries) = by (put_frames entries) (nat_eq entry.out.to SWITCH_LINK) where
  by : map (λ (e : OutboxEntry). e.out.frame) (to_link SWITCH_LINK entries) ≡ frames_to SWITCH_LINK (map (λ e. e.out) entries)
      → (b : Bool) → map (λ (e : OutboxEntry). e.out.frame) (cond b (entry ∷ to_link SWITCH_LINK entries) (to_link SWITCH_LINK entries))
      ≡ map (λ (o : Out). o.frame) (cond b (entry.out ∷ filter (λ o. o.to == SWITCH_LINK) (map (λ e. e.out) entries)) (filter (λ o. o.to == SWITCH_LINK) (map (λ e. e.out) entries)))
  by others true = ap (λ (frames : List Frame). entry.out.frame ∷ frames) others
  by others false = others

both_put : (w v : Actors) (event : Event) (events other : List Event) → is_up w SWITCH_LINK ≡ true → outputs v event ≡ outputs w event
    → map (λ entry. entry.out.frame) (all_put SWITCH_LINK (actors_after w event) other) ≡ frames_to SWITCH_LINK (all_outputs (actors_after v event) events)
    → map (λ entry. entry.out.frame) (all_put SWITCH_LINK w (event ∷ other)) ≡ frames_to SWITCH_LINK (all_outputs v (event ∷ events))
both_put w v event events other up same later =
    ap (λ (b : Bool). map (λ (entry : OutboxEntry). entry.out.frame) ((if b then to_link SWITCH_LINK (outputs w event) else []) ++ all_put SWITCH_LINK (actors_after w event) other)) up
    ∙ map-append (λ (entry : OutboxEntry). entry.out.frame) (to_link SWITCH_LINK (outputs w event)) (all_put SWITCH_LINK (actors_after w event) other)
    ∙ ap (λ (frames : List Frame). map (λ (entry : OutboxEntry). entry.out.frame) (to_link SWITCH_LINK (outputs w event)) ++ frames) later
    ∙ ap (λ (frames : List Frame). frames ++ frames_to SWITCH_LINK (all_outputs (actors_after v event) events)) (put_frames (outputs w event))
    ∙ ap (λ (entries : List OutboxEntry). frames_to SWITCH_LINK (map (λ (entry : OutboxEntry). entry.out) entries) ++ frames_to SWITCH_LINK (all_outputs (actors_after v event) events)) (sym same)
    ∙ sym (frames_append (map (λ (entry : OutboxEntry). entry.out) (outputs v event)) (all_outputs (actors_after v event) events))

-- ---- what is found first

or_kept : {X : Type 0} (a b x y : Option X) (one : X) →
    b ≡ a →
    (x ≡ Some one → y ≡ Some one) →
    option_or a x ≡ Some one →
    option_or b y ≡ Some one
or_kept {X = X} None b x y one same later is = ap (λ (o : Option X). option_or o y) same ∙ later is
or_kept {X = X} (Some first) b x y one same later is = ap (λ (o : Option X). option_or o y) same ∙ is

first_found : (v : Actors) (events : List Event) (number : ℕ) (mobile : ℕ) →
    served_by v number ≡ Some mobile →
    first_served v events number ≡ Some mobile
first_found v [] number mobile is = is
first_found v (event ∷ events) number mobile is = ap (λ (o : Option ℕ). option_or o (first_served (actors_after v event) events number)) is

absorbed : (a x : Option ℕ) (mobile : ℕ) → ((one : ℕ) → a ≡ Some one → x ≡ Some one) → x ≡ Some mobile → option_or a x ≡ Some mobile
absorbed None x mobile first is = is
absorbed (Some one) x mobile first is = sym (first one refl) ∙ is

-- ---- an event in both worlds, or in the first alone

both_follow : (w v : Actors) (event : Event) (events other : List Event) → is_up w SWITCH_LINK ≡ true → outputs v event ≡ outputs w event
    → taken SWITCH_LINK w event ≡ taken SWITCH_LINK v event → ((mobile : ℕ) → initial_at v event mobile ≡ initial_at w event mobile)
    → ((number : ℕ) → served_by v number ≡ served_by w number) → IsOctetEvent event
    → Follows (actors_after w event) (actors_after v event) events other → Follows w v (event ∷ events) (event ∷ other)
both_follow w v event events other up same_puts same_takes same_opens same_serves octets later = record {
  octets = (octets, later.octets);
  up = later.up;
  puts = both_put w v event events other up same_puts later.puts;
  takes = ap (λ (entries : List OutboxEntry). entries ++ all_taken SWITCH_LINK (actors_after w event) other) same_takes
      ∙ ap (λ (entries : List OutboxEntry). taken SWITCH_LINK v event ++ entries) later.takes;
  names = λ number mobile is. or_kept (served_by w number) (served_by v number) (first_served (actors_after w event) other number) (first_served (actors_after v event) events number) mobile (same_serves number) (later.names number mobile) is;
  sends = later.sends;
  connects = λ mobile initial is. or_kept (initial_at w event mobile) (initial_at v event mobile) (initial_of (actors_after w event) other mobile) (initial_of (actors_after v event) events mobile) initial (same_opens mobile) (later.connects mobile initial) is;
}

alone_follow : (w v : Actors) (event : Event) (events other : List Event) → outputs v event ≡ [] → taken SWITCH_LINK v event ≡ []
    → ((mobile : ℕ) → initial_at v event mobile ≡ None) → ((number : ℕ) → served_by (actors_after v event) number ≡ served_by v number)
    → Follows w (actors_after v event) events other → Follows w v (event ∷ events) other
alone_follow w v event events other no_puts no_takes no_opens same_serves later = record {
  octets = later.octets;
  up = later.up;
  puts = later.puts ∙ ap (λ (entries : List OutboxEntry). frames_to SWITCH_LINK (map (λ (entry : OutboxEntry). entry.out) entries ++ all_outputs (actors_after v event) events)) (sym no_puts);
  takes = later.takes ∙ ap (λ (entries : List OutboxEntry). entries ++ all_taken SWITCH_LINK (actors_after v event) events) (sym no_takes);
  names = λ number mobile is.
      absorbed (served_by v number) (first_served (actors_after v event) events number) mobile
      (λ one had. first_found (actors_after v event) events number one (same_serves number ∙ had)) (later.names number mobile is);
  sends = later.sends;
  connects = λ mobile initial is. ap (λ (o : Option (List ℕ)). option_or o (initial_of (actors_after v event) events mobile)) (no_opens mobile) ∙ later.connects mobile initial is;
}

-- the other world ends
ends_follow : (w v : Actors) (events : List Event) → is_up w SWITCH_LINK ≡ true → frames_to SWITCH_LINK (all_outputs v events) ≡ []
    → all_taken SWITCH_LINK v events ≡ [] → ((number : ℕ) → served_by v number ≡ served_by w number) → v.mobiles ≡ w.mobiles → Follows w v events []
ends_follow w v events up no_puts no_takes same_serves same_mobiles = record {
  octets = tt;
  up = up;
  puts = sym no_puts;
  takes = sym no_takes;
  names = λ number mobile is. first_found v events number mobile (same_serves number ∙ is);
  sends = λ mobile list is. sent_kept v events mobile list (ap (λ (mobiles : List Mobile). sent (record v { mobiles = mobiles }) mobile) same_mobiles ∙ is);
  connects = λ mobile initial is. never is;
} where
  never : {X : Type 0} {P : Type 0} {x : X} → None ≡ Some x → P
  never is = absurd cc

-- ---- once the link broke

none_taken : (v : Actors) (events : List Event) →
    is_up v SWITCH_LINK ≡ false →
    outbox_of v SWITCH_LINK ≡ [] →
    all_taken SWITCH_LINK v events ≡ []
none_taken v [] down empty = refl
none_taken v (event ∷ events) down empty =
    let one = down_empty SWITCH_LINK v event down empty in
    ap (λ (entries : List OutboxEntry). entries ++ all_taken SWITCH_LINK (actors_after v event) events) one.0
    ∙ none_taken (actors_after v event) events (down_after SWITCH_LINK v event down) one.1

-- the first world is the other with its link broken, which the controller has still to handle
FollowBroken : Parameters → List Event → Type 0
FollowBroken settings events =
    (done : List Event) (w : Actors) (front back : List Item) → w.inbox ≡ front ++ back → is_up w SWITCH_LINK ≡ true
    → held (broken_in front back) w ≡ actors_after_all (new_actors settings) done → AreOctetEvents events
    → (other : List Event) × Follows w (held (broken_in front back) w) events other

one_done : (settings : Parameters) (done : List Event) (v u : Actors) (event : Event) → v ≡ actors_after_all (new_actors settings) done → actors_after v event ≡ u
    → u ≡ actors_after_all (new_actors settings) (done ++ event ∷ [])
one_done settings done v u event is next = sym next ∙ ap (λ (x : Actors). actors_after x event) is ∙ sym (snoc_actors (new_actors settings) done event)

broken_none : (settings : Parameters) → FollowBroken settings []
unfolding FollowBroken
broken_none settings done w front back inbox up is octets = ([], ends_follow w (held (broken_in front back) w) [] up refl refl (λ number. refl) refl)

broken_step : (settings : Parameters) →
    AreAllowed settings →
    (event : Event) (events : List Event) →
    FollowBroken settings events →
    FollowBroken settings (event ∷ events)
unfolding FollowBroken
broken_step settings allowed event events later done w front back inbox up is octets = by (turned front back w event inbox) where
  v : Actors
  v = held (broken_in front back) w

  by : Turned front back w event → (other : List Event) × Follows w v (event ∷ events) other
  by (both now next v_is now_inbox no_break same) =
      let rest = later (done ++ event ∷ []) (actors_after w event) now next now_inbox (up_after w event no_break up) (one_done settings done v (held (broken_in now next) (actors_after w event)) event is v_is) octets.1 in (
        event ∷ rest.0,
        both_follow w v event events rest.0 up same.puts (same.takes ∙ sym (down_empty SWITCH_LINK v event (held_down (broken_in front back) w) (held_empty (broken_in front back) w)).0) same.opens (λ number. refl) octets.0
            (subst (λ (u : Actors). Follows (actors_after w event) u events rest.0) (sym v_is) rest.1),
      )
  by (neither v_is nothing) =
      let rest = later (done ++ event ∷ []) w front back inbox up (one_done settings done v v event is v_is) octets.1 in (
        rest.0,
        alone_follow w v event events rest.0 nothing.puts (down_empty SWITCH_LINK v event (held_down (broken_in front back) w) (held_empty (broken_in front back) w)).0 nothing.opens (λ number. ap (λ (u : Actors). served_by u number) v_is)
            (subst (λ (u : Actors). Follows w u events rest.0) (sym v_is) rest.1),
      )
  by (handles is_handle no_front) = (
    [],
    ends_follow w v (event ∷ events) up
        (ap (λ (e : Event). frames_to SWITCH_LINK (all_outputs v (e ∷ events))) is_handle
        ∙ silent settings done v back events allowed is (ap (λ (items : List Item). broken_in items back) no_front))
        (none_taken v (event ∷ events) (held_down (broken_in front back) w) (held_empty (broken_in front back) w)) (λ number. refl) refl,
  )

follow_broken : (settings : Parameters) → AreAllowed settings → (events : List Event) → FollowBroken settings events
follow_broken settings allowed [] = broken_none settings
follow_broken settings allowed (event ∷ events) = broken_step settings allowed event events (follow_broken settings allowed events)

-- ---- while the link is up

FollowUp : Parameters → List Event → Type 0
FollowUp settings events =
    (done : List Event) (w : Actors) → is_up w SWITCH_LINK ≡ true → w ≡ actors_after_all (new_actors settings) done → AreOctetEvents events
    → (other : List Event) × Follows w w events other

broke : (w : Actors) (source : ℕ) →
    source ≡ SWITCH_LINK →
    is_up w SWITCH_LINK ≡ true →
    actors_after w (BaseDown source) ≡ held (broken_in w.inbox []) w
unfolding event_after
broke w source is up =
    ap (λ (n : ℕ). actors_after w (BaseDown n)) is
    ∙ ap (λ (b : Bool). unwrap_or (if b then Some (broken SWITCH_LINK w) else None) w) up

up_none : (settings : Parameters) → FollowUp settings []
unfolding FollowUp
up_none settings done w up is octets = ([], ends_follow w w [] up refl refl (λ number. refl) refl)

up_both : (settings : Parameters) (event : Event) (events : List Event) →
    breaks_switch event ≡ false →
    FollowUp settings events →
    FollowUp settings (event ∷ events)
unfolding FollowUp
up_both settings event events no_break later done w up is octets =
    let rest = later (done ++ event ∷ []) (actors_after w event) (up_after w event no_break up) (one_done settings done w (actors_after w event) event is refl) octets.1 in
    (event ∷ rest.0, both_follow w w event events rest.0 up refl refl (λ mobile. refl) (λ number. refl) octets.0 rest.1)

up_breaks : (settings : Parameters) →
    AreAllowed settings →
    (source : ℕ) (events : List Event) →
    source ≡ SWITCH_LINK →
    FollowUp settings (BaseDown source ∷ events)
unfolding FollowUp FollowBroken
up_breaks settings allowed source events own done w up is octets =
    let v_is : actors_after w (BaseDown source) ≡ held (broken_in w.inbox []) w = broke w source own up in
    let rest = follow_broken settings allowed events (done ++ BaseDown source ∷ []) w w.inbox [] (sym (append-nil w.inbox)) up (one_done settings done w (held (broken_in w.inbox []) w) (BaseDown source) is v_is) octets.1 in (
      rest.0,
      alone_follow w w (BaseDown source) events rest.0 refl refl (λ mobile. refl) (λ number. ap (λ (u : Actors). served_by u number) v_is)
          (subst (λ (u : Actors). Follows w u events rest.0) (sym v_is) rest.1),
    )

up_step : (settings : Parameters) →
    AreAllowed settings →
    (event : Event) (events : List Event) →
    FollowUp settings events →
    FollowUp settings (event ∷ events)
up_step settings allowed (BaseDown source) events later =
    elim (cases_Bool (source == SWITCH_LINK)) [
      | inl own ↦ up_breaks settings allowed source events (eqb-true source SWITCH_LINK own)
      | inr other ↦ up_both settings (BaseDown source) events other later
    ]
up_step settings allowed event events later = up_both settings event events refl later

follow_up : (settings : Parameters) → AreAllowed settings → (events : List Event) → FollowUp settings events
follow_up settings allowed [] = up_none settings
follow_up settings allowed (event ∷ events) = up_step settings allowed event events (follow_up settings allowed events)

-- ---- from the beginning on

new_up : (cells : ℕ) → (get_or (replicate (cells + 1) new_link) SWITCH_LINK broken_link).up ≡ true
new_up cells = rw add-one refl

of_follows : (settings : Parameters) (events other : List Event) →
    Follows (new_actors settings) (new_actors settings) events other →
    Delayed settings events other
of_follows settings events other f = record {
  octets = f.octets;
  up = f.up;
  put = f.puts;
  taken = f.takes;
  names = f.names;
  sent = f.sends;
  connected = f.connects;
}

pub delayed : (settings : Parameters) (events : List Event) →
    AreAllowed settings →
    AreOctetEvents events →
    (other : List Event) × Delayed settings events other
unfolding FollowUp
delayed settings events allowed octets =
    let all = follow_up settings allowed events [] (new_actors settings) (new_up (length settings.cells)) refl octets in
    (all.0, of_follows settings events all.0 all.1)
