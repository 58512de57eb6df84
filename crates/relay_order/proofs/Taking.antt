-- SPDX-License-Identifier: MIT OR Apache-2.0
-- Events after which the switch has taken all that was put for it, and each first part of that.
use Rattle.std.proofs.Common.{◌≡◌, ◌⊎◌, ℕ, zero, suc, ◌+◌, ◌==◌, ◌≤◌, Bool, true, false, if◌then◌else◌, List, [], ◌∷◌, ◌++◌, length, map, Option, Some, None, refl, sym, ap, ◌∙◌, append_assoc, arith, inl, inr, ⊎_elim, unwrap_or, is_some, length-append}
use Rattle.std.specs.Option.{option_or}
use Rattle.bssmap_codec.specs.declared.sccp.Sccp.{Sccp}
use Rattle.conn_messages.specs.declared.parameters.TheConstants.{SWITCH_LINK}
use Rattle.controller_worker.specs.Steps.{frames_to}
use Rattle.ipa_framing.specs.declared.frame.Frame.{Frame}
use Rattle.relay_order.proofs.Delayed.{Delayed}
use Rattle.relay_order.proofs.Parts.{SentMore, or_more}
use Rattle.settings.specs.Parameters.{Parameters}
use Rattle.world_laws.specs.Order.OctetEvents.{AreOctetEvents}
use Rattle.world_laws.specs.Order.Openers.{first_served, served_by}
use Rattle.world_model.specs.declared.event.Event.{Event}
use Rattle.world_model.specs.declared.event.Event.TheVariants.{BaseTakes, SwitchTakes}
use Rattle.world_model.specs.declared.line.OutboxEntry.{OutboxEntry}
use Rattle.world_model.specs.Life.{actors_after, actors_after_all, event_after}
use Rattle.world_model.specs.Queues.{all_put, all_taken, first_of, taken}
use Rattle.world_model.specs.Steps.{all_outputs}
use Rattle.world_model.specs.SwitchSide.{sccp_in, switch_took, switch_took_first}
use Rattle.world_model.specs.Views.{sent}
use Rattle.world_model.specs.World.{Actors, Link, is_up, link_of, new_actors, outbox_of, with_outbox}
use Rattle.world_model.proofs.Outboxes.{KeepsQueues-new, changed_link}
use Rattle.world_openers.specs.Initials.{initial_at, initial_of}

abbrev pub frames_of : List OutboxEntry → List Frame
frames_of entries = map (λ (entry : OutboxEntry). entry.out.frame) entries

-- ---- the switch takes as often

abbrev pub takes : {X : Type 0} → List X → List Event
takes [] = []
takes (x ∷ xs) = SwitchTakes ∷ takes xs

abbrev having_taken : Actors → OutboxEntry → List OutboxEntry → Actors
having_taken w first others = switch_took (sccp_in first.out.frame) (with_outbox SWITCH_LINK others w)

next_is : (w : Actors) (first : OutboxEntry) (others : List OutboxEntry) → is_up w SWITCH_LINK ≡ true → outbox_of w SWITCH_LINK ≡ first ∷ others
    → event_after w SwitchTakes ≡ Some (having_taken w first others)
unfolding event_after
next_is w first others up is =
    ap (λ (b : Bool). if b then switch_took_first (outbox_of w SWITCH_LINK) w else None) up
    ∙ ap (λ (entries : List OutboxEntry). switch_took_first entries w) is

taken_is : (w : Actors) (first : OutboxEntry) (others : List OutboxEntry) → is_up w SWITCH_LINK ≡ true → outbox_of w SWITCH_LINK ≡ first ∷ others
    → taken SWITCH_LINK w SwitchTakes ≡ first ∷ []
taken_is w first others up is =
    ap (λ (o : Option Actors). if is_some o then first_of (outbox_of w SWITCH_LINK) else []) (next_is w first others up is)
    ∙ ap first_of is

link_kept : (o : Option Sccp) (w : Actors) → (switch_took o w).links ≡ w.links
link_kept None w = refl
link_kept (Some message) w = refl

link_then : (w : Actors) (first : OutboxEntry) (others : List OutboxEntry) → is_up w SWITCH_LINK ≡ true
    → link_of (having_taken w first others) SWITCH_LINK ≡ record { up = true; outbox = others }
link_then w first others up =
    ap (λ (links : List Link). link_of (record w { links = links }) SWITCH_LINK) (link_kept (sccp_in first.out.frame) (with_outbox SWITCH_LINK others w))
    ∙ changed_link w.links SWITCH_LINK (record (link_of w SWITCH_LINK) { outbox = others }) up
    ∙ ap (λ (b : Bool). record { up = b; outbox = others }) up

served_kept : (o : Option Sccp) (w : Actors) (others : List OutboxEntry) (number : ℕ) →
    served_by (switch_took o (with_outbox SWITCH_LINK others w)) number ≡ served_by w number
served_kept None w others number = refl
served_kept (Some message) w others number = refl

sent_kept : (o : Option Sccp) (w : Actors) (others : List OutboxEntry) (mobile : ℕ) →
    sent (switch_took o (with_outbox SWITCH_LINK others w)) mobile ≡ sent w mobile
sent_kept None w others mobile = refl
sent_kept (Some message) w others mobile = refl

-- what such events make of a world whose outbox begins with these entries
pub record TakesThem (w : Actors) (entries : List OutboxEntry) : Type 0 where
  pub them : all_taken SWITCH_LINK w (takes entries) ≡ entries
  pub served : (number : ℕ) → first_served w (takes entries) number ≡ served_by w number
  pub same : (mobile : ℕ) → sent (actors_after_all w (takes entries)) mobile ≡ sent w mobile
  pub none : (mobile : ℕ) → initial_of w (takes entries) mobile ≡ None

or_same : (a b : Option ℕ) → b ≡ a → option_or a b ≡ a
or_same None b is = is
or_same (Some x) b is = refl

pub takes_them : (w : Actors) (entries : List OutboxEntry) →
    is_up w SWITCH_LINK ≡ true →
    outbox_of w SWITCH_LINK ≡ entries →
    TakesThem w entries
takes_them w [] up is = record { them = refl; served = λ number. refl; same = λ mobile. refl; none = λ mobile. refl }
takes_them w (first ∷ others) up is =
    let v : Actors = having_taken w first others in
    let next : actors_after w SwitchTakes ≡ v = ap (λ (o : Option Actors). unwrap_or o w) (next_is w first others up is) in
    let link = link_then w first others up in
    let later : TakesThem v others = takes_them v others (ap (λ (l : Link). l.up) link) (ap (λ (l : Link). l.outbox) link) in
    record {
      them =
          ap (λ (entries : List OutboxEntry). entries ++ all_taken SWITCH_LINK (actors_after w SwitchTakes) (takes others)) (taken_is w first others up is)
          ∙ ap (λ (u : Actors). first ∷ all_taken SWITCH_LINK u (takes others)) next
          ∙ ap (λ (entries : List OutboxEntry). first ∷ entries) later.them;
      served = λ number.
          or_same (served_by w number) (first_served (actors_after w SwitchTakes) (takes others) number)
          (ap (λ (u : Actors). first_served u (takes others) number) next ∙ later.served number ∙ served_kept (sccp_in first.out.frame) w others number);
      same = λ mobile.
          ap (λ (u : Actors). sent (actors_after_all u (takes others)) mobile) next ∙ later.same mobile ∙ sent_kept (sccp_in first.out.frame) w others mobile;
      none = λ mobile. ap (λ (u : Actors). initial_of u (takes others) mobile) next ∙ later.none mobile;
    }

-- ---- events behind events

pub after_both : (w : Actors) (xs ys : List Event) → actors_after_all w (xs ++ ys) ≡ actors_after_all (actors_after_all w xs) ys
after_both w [] ys = refl
after_both w (x ∷ xs) ys = after_both (actors_after w x) xs ys

pub taken_both : (w : Actors) (xs ys : List Event) →
    all_taken SWITCH_LINK w (xs ++ ys) ≡ all_taken SWITCH_LINK w xs ++ all_taken SWITCH_LINK (actors_after_all w xs) ys
taken_both w [] ys = refl
taken_both w (x ∷ xs) ys =
    ap (λ (entries : List OutboxEntry). taken SWITCH_LINK w x ++ entries) (taken_both (actors_after w x) xs ys)
    ∙ sym (append_assoc (taken SWITCH_LINK w x) (all_taken SWITCH_LINK (actors_after w x) xs) (all_taken SWITCH_LINK (actors_after_all (actors_after w x) xs) ys))

served_before : (w : Actors) (xs ys : List Event) (number mobile : ℕ) → first_served (actors_after_all w xs) ys number ≡ served_by (actors_after_all w xs) number
    → first_served w (xs ++ ys) number ≡ Some mobile → first_served w xs number ≡ Some mobile
served_before w [] ys number mobile none is = sym none ∙ is
served_before w (x ∷ xs) ys number mobile none is =
    or_more (served_by w number) (first_served (actors_after w x) (xs ++ ys) number) (first_served (actors_after w x) xs number) mobile
    (served_before (actors_after w x) xs ys number mobile none) is

connected_before : (w : Actors) (xs ys : List Event) (mobile : ℕ) (initial : List ℕ) → initial_of (actors_after_all w xs) ys mobile ≡ None
    → initial_of w (xs ++ ys) mobile ≡ Some initial → initial_of w xs mobile ≡ Some initial
connected_before w [] ys mobile initial none is = absurd (cc (sym none ∙ is))
connected_before w (x ∷ xs) ys mobile initial none is =
    or_more (initial_at w x mobile) (initial_of (actors_after w x) (xs ++ ys) mobile) (initial_of (actors_after w x) xs mobile) initial
    (connected_before (actors_after w x) xs ys mobile initial none) is

octets_takes : {X : Type 0} (xs : List X) → AreOctetEvents (takes xs)
octets_takes [] = tt
octets_takes (x ∷ xs) = (tt, octets_takes xs)

octets_both : (xs ys : List Event) → AreOctetEvents xs → AreOctetEvents ys → AreOctetEvents (xs ++ ys)
octets_both [] ys front back = back
octets_both (x ∷ xs) ys front back = (front.0, octets_both xs ys front.1 back)

pub octets_first : (xs ys : List Event) → AreOctetEvents (xs ++ ys) → AreOctetEvents xs
octets_first [] ys all = tt
octets_first (x ∷ xs) ys all = (all.0, octets_first xs ys all.1)

-- ---- all of it

-- The switch took all that the controller of other events put for it; connections are the same
-- mobiles', which sent the same or less, and connected with the same.
pub record Carries (settings : Parameters) (events whole : List Event) : Type 0 where
  pub octets : AreOctetEvents whole
  pub all : frames_of (all_taken SWITCH_LINK (new_actors settings) whole) ≡ frames_to SWITCH_LINK (all_outputs (new_actors settings) events)
  pub names : (number mobile : ℕ) →
      first_served (new_actors settings) whole number ≡ Some mobile →
      first_served (new_actors settings) events number ≡ Some mobile
  pub sent : (mobile : ℕ) (list : List (List ℕ)) → sent (actors_after_all (new_actors settings) whole) mobile ≡ Some list
      → SentMore (actors_after_all (new_actors settings) events) mobile list
  pub connected : (mobile : ℕ) (initial : List ℕ) →
      initial_of (new_actors settings) whole mobile ≡ Some initial →
      initial_of (new_actors settings) events mobile ≡ Some initial

pub carries : (settings : Parameters) (events other : List Event) →
    Delayed settings events other →
    (whole : List Event) × Carries settings events whole
carries settings events other delayed =
    let begin : Actors = new_actors settings in
    let w : Actors = actors_after_all begin other in
    let rest : List OutboxEntry = outbox_of w SWITCH_LINK in
    let last : TakesThem w rest = takes_them w rest delayed.up refl in
    let put : all_put SWITCH_LINK begin other ≡ all_taken SWITCH_LINK begin other ++ rest = (KeepsQueues-new settings other).left SWITCH_LINK delayed.up in (
      other ++ takes rest,
      record {
        octets = octets_both other (takes rest) delayed.octets (octets_takes rest);
        all =
            ap frames_of
            (taken_both begin other (takes rest)
            ∙ ap (λ (entries : List OutboxEntry). all_taken SWITCH_LINK begin other ++ entries) last.them
            ∙ sym put)
            ∙ delayed.put;
        names = λ number mobile is. delayed.names number mobile (served_before begin other (takes rest) number mobile (last.served number) is);
        sent = λ mobile list is.
            delayed.sent mobile list
            (sym (last.same mobile) ∙ ap (λ (u : Actors). sent u mobile) (sym (after_both begin other (takes rest))) ∙ is);
        connected = λ mobile initial is. delayed.connected mobile initial (connected_before begin other (takes rest) mobile initial (last.none mobile) is);
      },
    )

-- ---- a first part of it

one_if : (b c : Bool) (entries : List OutboxEntry)
    → ((if b then (if c then first_of entries else []) else []) ≡ []) ⊎ ((entry : OutboxEntry) × ((if b then (if c then first_of entries else []) else []) ≡ entry ∷ []))
one_if false c entries = inl refl
one_if true false entries = inl refl
one_if true true [] = inl refl
one_if true true (entry ∷ entries) = inr (entry, refl)

pub one_taken : (w : Actors) (event : Event) →
    (taken SWITCH_LINK w event ≡ []) ⊎ ((entry : OutboxEntry) × (taken SWITCH_LINK w event ≡ entry ∷ []))
one_taken w (BaseTakes station) = one_if (station == SWITCH_LINK) (is_some (event_after w (BaseTakes station))) (outbox_of w SWITCH_LINK)
one_taken w SwitchTakes = one_if true (is_some (event_after w SwitchTakes)) (outbox_of w SWITCH_LINK)
one_taken w _ = inl refl

pub record Part (w : Actors) (events : List Event) (count : ℕ) : Type 0 where
  pub first : List Event
  pub rest : List Event
  pub split : first ++ rest ≡ events
  pub taken : length (all_taken SWITCH_LINK w first) ≡ count

more_part : (w : Actors) (event : Event) (events : List Event) (count total : ℕ) (entries : List OutboxEntry) → length entries + count ≡ total → taken SWITCH_LINK w event ≡ entries → Part (actors_after w event) events count
    → Part w (event ∷ events) total
more_part w event events count total entries sum is part = record {
  first = event ∷ part.first;
  rest = part.rest;
  split = ap (λ (xs : List Event). event ∷ xs) part.split;
  taken =
      length-append (taken SWITCH_LINK w event) (all_taken SWITCH_LINK (actors_after w event) part.first)
      ∙ ap (λ (n : ℕ). length (taken SWITCH_LINK w event) + n) part.taken
      ∙ ap (λ (entries : List OutboxEntry). length entries + count) is ∙ sum;
}

left_of : (w : Actors) (event : Event) (events : List Event) (count total : ℕ) (entries : List OutboxEntry) → length entries + count ≡ total → taken SWITCH_LINK w event ≡ entries
    → total ≤ length (all_taken SWITCH_LINK w (event ∷ events)) → count ≤ length (all_taken SWITCH_LINK (actors_after w event) events)
left_of w event events count total entries sum is le =
    let both : length (all_taken SWITCH_LINK w (event ∷ events)) ≡ length (taken SWITCH_LINK w event) + length (all_taken SWITCH_LINK (actors_after w event) events) =
    length-append (taken SWITCH_LINK w event) (all_taken SWITCH_LINK (actors_after w event) events) in
    let size : length (taken SWITCH_LINK w event) ≡ length entries = ap length is in
    omega (arith, sum, le, both, size)

pub part_of : (w : Actors) (events : List Event) (count : ℕ) → count ≤ length (all_taken SWITCH_LINK w events) → Part w events count
part_of w events zero le = record { first = []; rest = events; split = refl; taken = refl }
part_of w [] (suc count) le = absurd (omega (arith, le))
part_of w (event ∷ events) (suc count) le =
    ⊎_elim
    (λ (is : taken SWITCH_LINK w event ≡ []). more_part w event events (suc count) (suc count) [] (omega arith) is (part_of (actors_after w event) events (suc count) (left_of w event events (suc count) (suc count) [] (omega arith) is le)))
    (λ (h : (entry : OutboxEntry) × (taken SWITCH_LINK w event ≡ entry ∷ [])).
    more_part w event events count (suc count) (h.0 ∷ []) (omega arith) h.1 (part_of (actors_after w event) events count (left_of w event events count (suc count) (h.0 ∷ []) (omega arith) h.1 le)))
    (one_taken w event)
