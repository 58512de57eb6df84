-- SPDX-License-Identifier: MIT OR Apache-2.0
-- The outbox of a link gives what was put there, in order, until the link breaks.
use Rattle.world_model.proofs.Prelude.{◌≡◌, ◌≢◌, ℕ, suc, zero, ◌==◌, ◌&&◌, not, nat_eq, Bool, true, false, cond, if◌then◌else◌, List, []}
use Rattle.world_model.proofs.Prelude.{◌∷◌, ◌++◌, ◌+◌, fold, map, unwrap_or, is_some, get_or, set, length, replicate, Option, Some, None}
use Rattle.world_model.proofs.Prelude.{refl, sym, ap, ◌∙◌, subst, append_assoc, inl, inr, cases_Bool, eqb-true, eqb-false, eq-eqb}
use Rattle.world_model.proofs.Prelude.{append-nil, filter-append, Out, SWITCH_LINK, Turn, take, tick, after_take_down, Item, Parameters}
use Rattle.world_model.proofs.Prelude.{get_or-set_other, IsPrefix, Event, BaseTakes, BasePush, Handle, SwitchTakes, SwitchDoes, Tick}
use Rattle.world_model.proofs.Prelude.{BaseDown, OutboxEntry, Tenure, actors_after, actors_after_all, first_of, outputs_at, outputs}
use Rattle.world_model.proofs.Prelude.{to_link, put, taken, all_put, all_taken, KeepsQueues, after_base_push, entry_of, joined_by}
use Rattle.world_model.proofs.Prelude.{with_turn, target_in, handled, without_made, broken, after_break, after_base_takes, sccp_in}
use Rattle.world_model.proofs.Prelude.{after_switch_takes, after_switch_does, Actors, Link, new_actors, new_link, is_up, broken_link}
use Rattle.world_model.proofs.Prelude.{outbox_of, with_outbox, base_of, with_base}
use Rattle.world_model.specs.Life.{event_after}
use Rattle.world_model.proofs.Inboxes.{inbox-all, sources_all}
use Rattle.world_model.specs.World.{link_of, with_link}
use Rattle.world_model.proofs.Leads.{OfTaken, FromAir, switch_takes_leads, switch_took-leads, push_leads, does_leads, after_taken, and_right}
use Rattle.world_model.proofs.Leads.{aerial_leads, taking_leads}
use Rattle.world_model.proofs.OwnerPuts.{entry_out}

-- ---- links in a list

-- a link that is up is there to be changed
pub changed_link : (links : List Link) (number : ℕ) (link : Link) →
    (get_or links number broken_link).up ≡ true →
    get_or (set links number link) number broken_link ≡ link
changed_link [] number link up = absurd cc
changed_link (first ∷ links) zero link up = refl
changed_link (first ∷ links) (suc number) link up = changed_link links number link up

pub other_link : (w : Actors) (number other : ℕ) (link : Link) → number ≢ other → link_of (with_link other link w) number ≡ link_of w number
other_link w number other link differs = get_or-set_other w.links other number link broken_link differs

-- ---- what an event does to a link

-- The link stays up or down: the outbox before, and then the entries put, are the entries taken,
-- and then the outbox after. Or the link breaks.
pub data Step (link : ℕ) (w : Actors) (event : Event) (v : Actors) : Type 0 where
  kept_order : is_up v link ≡ is_up w link →
      outbox_of w link ++ put link w event ≡ taken link w event ++ outbox_of v link →
      Step link w event v
  breaks : link_of v link ≡ broken_link → put link w event ≡ [] → taken link w event ≡ [] → Step link w event v

-- no link changes
abbrev Remains : Actors → Actors → Type 0
Remains w v = v.links ≡ w.links

nothing_put : (link : ℕ) (w : Actors) (event : Event) → outputs w event ≡ [] → put link w event ≡ []
nothing_put link w event none = by_link (is_up w link) where
  by_link : (b : Bool) → (if b then to_link link (outputs w event) else []) ≡ []
  by_link true = ap (to_link link) none
  by_link false = refl

quiet : (link : ℕ) (w : Actors) (event : Event) (v : Actors) →
    outputs w event ≡ [] →
    taken link w event ≡ [] →
    Remains w v →
    Step link w event v
quiet link w event v none nobody same =
    kept_order (ap (λ (links : List Link). (get_or links link broken_link).up) same)
    (ap (λ (entries : List OutboxEntry). outbox_of w link ++ entries) (nothing_put link w event none)
    ∙ append-nil (outbox_of w link)
    ∙ ap (λ (links : List Link). (get_or links link broken_link).outbox) (sym same)
    ∙ ap (λ (entries : List OutboxEntry). entries ++ outbox_of v link) (sym nobody))

quietly : (link : ℕ) (w : Actors) (event : Event) (o : Option Actors) →
    outputs w event ≡ [] →
    taken link w event ≡ [] →
    OfTaken (Remains w) o →
    Step link w event (unwrap_or o w)
quietly link w event o none nobody leads = quiet link w event (unwrap_or o w) none nobody (after_taken (Remains w) o w leads refl)

-- ---- outputs

-- one more output: only the link that it is sent to has it, if that is up
record Joins (link : ℕ) (target : Option Tenure) (w : Actors) (out : Out) (v : Actors) : Type 0 where
  up : is_up v link ≡ is_up w link
  outbox : outbox_of v link ≡ outbox_of w link ++ (if is_up w link then to_link link (entry_of target out ∷ []) else [])

one_to_link : (link : ℕ) (target : Option Tenure) (out : Out) (b : Bool) →
    nat_eq out.to link ≡ b →
    to_link link (entry_of target out ∷ []) ≡ (if b then entry_of target out ∷ [] else [])
one_to_link link target out b is =
    ap (λ (o : Out). cond (nat_eq o.to link) (entry_of target out ∷ []) []) (entry_out target out) ∙ ap (λ (t : Bool). cond t (entry_of target out ∷ []) []) is

none_joins : (link : ℕ) (w : Actors) (b : Bool) → outbox_of w link ≡ outbox_of w link ++ (if b then [] else [])
none_joins link w true = sym (append-nil (outbox_of w link))
none_joins link w false = sym (append-nil (outbox_of w link))

joins : (link : ℕ) (target : Option Tenure) (w : Actors) (out : Out) → Joins link target w out (joined_by target w out)
joins link target w out =
    elim (cases_Bool (nat_eq out.to link)) [
      | inl same ↦ here (eqb-true out.to link same) (is_up w out.to) refl
      | inr other ↦ elsewhere other (is_up w out.to)
    ] where
      here : out.to ≡ link →
          (b : Bool) →
          is_up w out.to ≡ b →
          Joins link target w out (if b then with_outbox out.to (outbox_of w out.to ++ entry_of target out ∷ []) w else w)
      here is true up =
          let there : get_or (set w.links out.to (record (link_of w out.to) { outbox = outbox_of w out.to ++ entry_of target out ∷ [] })) out.to broken_link ≡ record (link_of w out.to) { outbox = outbox_of w out.to ++ entry_of target out ∷ [] } = changed_link w.links out.to (record (link_of w out.to) { outbox = outbox_of w out.to ++ entry_of target out ∷ [] }) up in
          subst (λ (n : ℕ). Joins n target w out (with_outbox out.to (outbox_of w out.to ++ entry_of target out ∷ []) w)) is (record {
            up = ap (λ (l : Link). l.up) there;
            outbox = ap (λ (l : Link). l.outbox) there
                ∙ ap (λ (entries : List OutboxEntry). outbox_of w out.to ++ entries) (sym (ap (λ (b : Bool). if b then to_link out.to (entry_of target out ∷ []) else []) up ∙ one_to_link out.to target out true (eq-eqb out.to out.to refl)));
          })
      here is false down =
          subst (λ (n : ℕ). Joins n target w out w) is (record {
            up = refl;
            outbox = sym (ap (λ (b : Bool). outbox_of w out.to ++ (if b then to_link out.to (entry_of target out ∷ []) else [])) down ∙ append-nil (outbox_of w out.to));
          })

      elsewhere : nat_eq out.to link ≡ false →
          (b : Bool) →
          Joins link target w out (if b then with_outbox out.to (outbox_of w out.to ++ entry_of target out ∷ []) w else w)
      elsewhere other true =
          let same : link_of (with_outbox out.to (outbox_of w out.to ++ entry_of target out ∷ []) w) link ≡ link_of w link = other_link w link out.to (record (link_of w out.to) { outbox = outbox_of w out.to ++ entry_of target out ∷ [] }) (λ is. eqb-false out.to link other (sym is)) in
          record {
            up = ap (λ (l : Link). l.up) same;
            outbox = ap (λ (l : Link). l.outbox) same ∙ none_joins link w (is_up w link) ∙ ap (λ (entries : List OutboxEntry). outbox_of w link ++ (if is_up w link then entries else [])) (sym (one_to_link link target out false other));
          }
      elsewhere other false = record {
        up = refl;
        outbox = none_joins link w (is_up w link) ∙ ap (λ (entries : List OutboxEntry). outbox_of w link ++ (if is_up w link then entries else [])) (sym (one_to_link link target out false other));
      }

-- all outputs of a step
pub record AllJoin (link : ℕ) (target : Option Tenure) (w : Actors) (outs : List Out) (v : Actors) : Type 0 where
  pub up : is_up v link ≡ is_up w link
  pub outbox : outbox_of v link ≡ outbox_of w link ++ (if is_up w link then to_link link (map (entry_of target) outs) else [])

both : (b : Bool) (link : ℕ) (first : OutboxEntry) (others : List OutboxEntry) →
    (if b then to_link link (first ∷ []) else []) ++ (if b then to_link link others else []) ≡ (if b then to_link link (first ∷ others) else [])
both true link first others = sym (filter-append (λ entry. entry.out.to == link) (first ∷ []) others)
both false link first others = refl

pub all_join : (link : ℕ) (target : Option Tenure) (outs : List Out) (w : Actors) →
    AllJoin link target w outs (fold (joined_by target) w outs)
all_join link target [] w = record { up = refl; outbox = none_joins link w (is_up w link) }
all_join link target (out ∷ outs) w =
    let one : Joins link target w out (joined_by target w out) = joins link target w out in
    let others : AllJoin link target (joined_by target w out) outs (fold (joined_by target) (joined_by target w out) outs) = all_join link target outs (joined_by target w out) in
    record {
      up = others.up ∙ one.up;
      outbox = others.outbox
          ∙ ap (λ (b : Bool). outbox_of (joined_by target w out) link ++ (if b then to_link link (map (entry_of target) outs) else [])) one.up
          ∙ ap (λ (entries : List OutboxEntry). entries ++ (if is_up w link then to_link link (map (entry_of target) outs) else [])) one.outbox
          ∙ append_assoc (outbox_of w link) (if is_up w link then to_link link (entry_of target out ∷ []) else []) (if is_up w link then to_link link (map (entry_of target) outs) else [])
          ∙ ap (λ (entries : List OutboxEntry). outbox_of w link ++ entries) (both (is_up w link) link (entry_of target out) (map (entry_of target) outs));
    }

turn_keeps_order : (link : ℕ) (w : Actors) (event : Event) (target : Option Tenure) (t : Turn) (u : Actors) →
    Remains w u →
    outputs w event ≡ map (entry_of target) t.outs →
    taken link w event ≡ [] →
    Step link w event (with_turn target t u)
turn_keeps_order link w event target t u same puts nobody =
    let all : AllJoin link target (record u { controller = t.next }) t.outs (with_turn target t u) = all_join link target t.outs (record u { controller = t.next }) in
    let same_link : link_of u link ≡ link_of w link = ap (λ (links : List Link). get_or links link broken_link) same in
    kept_order (all.up ∙ ap (λ (l : Link). l.up) same_link)
    (ap (λ (entries : List OutboxEntry). outbox_of w link ++ (if is_up w link then to_link link entries else [])) puts
    ∙ ap (λ (l : Link). l.outbox ++ (if l.up then to_link link (map (entry_of target) t.outs) else [])) (sym same_link)
    ∙ sym all.outbox
    ∙ ap (λ (entries : List OutboxEntry). entries ++ outbox_of (with_turn target t u) link) (sym nobody))

handle_step : (link : ℕ) (w : Actors) (items : List Item) → w.inbox ≡ items → Step link w Handle (unwrap_or (handled items w) w)
handle_step link w [] is = quiet link w Handle w (ap (outputs_at w) is) refl refl
handle_step link w (item ∷ items) is =
    turn_keeps_order link w Handle (target_in w item.source item.what) (take item w.controller) (record w { inbox = items }) refl (ap (outputs_at w) is) refl

-- ---- what is taken

-- the first entry of a link that is up is taken
record Popped (link : ℕ) (w v : Actors) : Type 0 where
  first : OutboxEntry
  others : List OutboxEntry
  up : is_up w link ≡ true
  pending : outbox_of w link ≡ first ∷ others
  links : Remains (with_outbox link others w) v

popped_step : (link other : ℕ) (w : Actors) (event : Event) (v : Actors) →
    outputs w event ≡ [] →
    taken link w event ≡ (if other == link then first_of (outbox_of w link) else []) →
    Popped other w v →
    Step link w event v
popped_step link other w event v none takes h =
    elim (cases_Bool (nat_eq other link)) [
      | inl same ↦ here (eqb-true other link same) (takes ∙ ap (λ (b : Bool). if b then first_of (outbox_of w link) else []) same)
      | inr differs ↦ elsewhere differs (takes ∙ ap (λ (b : Bool). if b then first_of (outbox_of w link) else []) differs)
    ] where
      now_there : get_or v.links other broken_link ≡ record (link_of w other) { outbox = h.others }
      now_there = ap (λ (links : List Link). get_or links other broken_link) h.links ∙ changed_link w.links other (record (link_of w other) { outbox = h.others }) h.up

      here : other ≡ link → taken link w event ≡ first_of (outbox_of w link) → Step link w event v
      here is takes_here =
          let now : link_of v link ≡ record (link_of w link) { outbox = h.others } = subst (λ (n : ℕ). link_of v n ≡ record (link_of w n) { outbox = h.others }) is now_there in
          let pending : outbox_of w link ≡ h.first ∷ h.others = subst (λ (n : ℕ). outbox_of w n ≡ h.first ∷ h.others) is h.pending in
          kept_order (ap (λ (l : Link). l.up) now)
          (ap (λ (entries : List OutboxEntry). outbox_of w link ++ entries) (nothing_put link w event none)
          ∙ append-nil (outbox_of w link)
          ∙ pending
          ∙ ap (λ (entries : List OutboxEntry). h.first ∷ entries) (sym (ap (λ (l : Link). l.outbox) now))
          ∙ ap (λ (entries : List OutboxEntry). first_of entries ++ outbox_of v link) (sym pending)
          ∙ ap (λ (entries : List OutboxEntry). entries ++ outbox_of v link) (sym takes_here))

      elsewhere : nat_eq other link ≡ false → taken link w event ≡ [] → Step link w event v
      elsewhere differs nobody =
          let same : link_of v link ≡ link_of w link = ap (λ (links : List Link). get_or links link broken_link) h.links ∙ other_link w link other (record (link_of w other) { outbox = h.others }) (λ is. eqb-false other link differs (sym is)) in
          kept_order (ap (λ (l : Link). l.up) same)
          (ap (λ (entries : List OutboxEntry). outbox_of w link ++ entries) (nothing_put link w event none)
          ∙ append-nil (outbox_of w link)
          ∙ ap (λ (l : Link). l.outbox) (sym same)
          ∙ ap (λ (entries : List OutboxEntry). entries ++ outbox_of v link) (sym nobody))

pub no_entries : (b : Bool) (entries : List OutboxEntry) → (if b then (if false then entries else []) else []) ≡ []
no_entries true entries = refl
no_entries false entries = refl

takes_step : (link other : ℕ) (w : Actors) (event : Event) (o : Option Actors) →
    outputs w event ≡ [] →
    taken link w event ≡ (if other == link then (if is_some o then first_of (outbox_of w link) else []) else []) →
    OfTaken (Popped other w) o →
    Step link w event (unwrap_or o w)
unfolding OfTaken
takes_step link other w event None none takes h = quiet link w event w none (takes ∙ no_entries (other == link) (first_of (outbox_of w link))) refl
takes_step link other w event (Some v) none takes h = popped_step link other w event v none takes h

base_takes_popped : (w : Actors) (station : ℕ) → OfTaken (Popped station w) (after_base_takes w station)
base_takes_popped w station = taking_leads (Popped station w) w station (λ first others up pending mobiles stations.
    record { first = first; others = others; up = and_right (not (station == SWITCH_LINK)) (is_up w station) up; pending = pending; links = refl })

switch_takes_popped : (w : Actors) → OfTaken (Popped SWITCH_LINK w) (after_switch_takes w)
switch_takes_popped w = switch_takes_leads (Popped SWITCH_LINK w) w (λ first others up pending.
    switch_took-leads (Popped SWITCH_LINK w) (with_outbox SWITCH_LINK others w) (sccp_in first.out.frame)
    (record { first = first; others = others; up = up; pending = pending; links = refl })
    (λ next made. record { first = first; others = others; up = up; pending = pending; links = refl }))

-- ---- breaks

without_made_remains : (source : ℕ) (w : Actors) → Remains w (without_made source w)
without_made_remains source w = by_source (source == SWITCH_LINK) where
  by_source : (b : Bool) → Remains w (if b then record w { switch_made = [] } else with_base source (after_take_down (base_of w source)) w)
  by_source true = refl
  by_source false = refl

broken_step : (link source : ℕ) (w : Actors) → is_up w source ≡ true → Step link w (BaseDown source) (broken source w)
broken_step link source w up =
    elim (cases_Bool (nat_eq source link)) [
      | inl same ↦ breaks
          (ap (λ (links : List Link). get_or links link broken_link) links
          ∙ subst (λ (n : ℕ). get_or (set w.links source broken_link) n broken_link ≡ broken_link) (eqb-true source link same) (changed_link w.links source broken_link up))
          (nothing_put link w (BaseDown source) refl) refl
      | inr differs ↦
          let same : link_of (broken source w) link ≡ link_of w link =
          ap (λ (links : List Link). get_or links link broken_link) links ∙ other_link w link source broken_link (λ is. eqb-false source link differs (sym is)) in
          kept_order (ap (λ (l : Link). l.up) same)
          (ap (λ (entries : List OutboxEntry). outbox_of w link ++ entries) (nothing_put link w (BaseDown source) refl)
          ∙ append-nil (outbox_of w link) ∙ ap (λ (l : Link). l.outbox) (sym same))
    ] where
      links : (broken source w).links ≡ set w.links source broken_link
      links = without_made_remains source (with_link source broken_link w)

break_step : (link source : ℕ) (w : Actors) → Step link w (BaseDown source) (unwrap_or (after_break w source) w)
break_step link source w = by_link (is_up w source) refl where
  by_link : (b : Bool) → is_up w source ≡ b → Step link w (BaseDown source) (unwrap_or (if b then Some (broken source w) else None) w)
  by_link true up = broken_step link source w up
  by_link false down = quiet link w (BaseDown source) w refl refl refl

-- ---- each event

pub step : (link : ℕ) (w : Actors) (event : Event) → Step link w event (actors_after w event)
unfolding event_after FromAir
step link w (BaseTakes station) = takes_step link station w (BaseTakes station) (after_base_takes w station) refl refl (base_takes_popped w station)
step link w (BasePush source) = quietly link w (BasePush source) (after_base_push w source) refl refl (push_leads (Remains w) w source (λ first others. refl) (λ message _. refl))
step link w Handle = handle_step link w w.inbox refl
step link w SwitchTakes = takes_step link SWITCH_LINK w SwitchTakes (after_switch_takes w) refl refl (switch_takes_popped w)
step link w (SwitchDoes action) = quietly link w (SwitchDoes action) (after_switch_does w action) refl refl (does_leads (Remains w) w action (λ next made. refl))
step link w (Tick ms) = turn_keeps_order link w (Tick ms) None (tick ms w.controller) w refl refl refl
step link w (BaseDown source) = break_step link source w
step link w event = quietly link w event (event_after w event) refl refl (aerial_leads (Remains w) w event refl (λ mobiles stations. refl))

-- ---- a link that is down remains down, and nothing is put there

abbrev IsDown : ℕ → Actors → Type 0
IsDown link w = is_up w link ≡ false

down_by : {link : ℕ} {w v : Actors} {event : Event} → Step link w event v → IsDown link w → IsDown link v
down_by (kept_order same all) down = same ∙ down
down_by (breaks broken nothing nobody) down = ap (λ (l : Link). l.up) broken

down_puts : (link : ℕ) (w : Actors) (event : Event) → IsDown link w → put link w event ≡ []
down_puts link w event down = ap (λ (b : Bool). if b then to_link link (outputs w event) else []) down

down_puts_all : (link : ℕ) (w : Actors) (events : List Event) → IsDown link w → all_put link w events ≡ []
down_puts_all link w [] down = refl
down_puts_all link w (event ∷ events) down =
    ap (λ (entries : List OutboxEntry). entries ++ all_put link (actors_after w event) events) (down_puts link w event down)
    ∙ down_puts_all link (actors_after w event) events (down_by (step link w event) down)

down_remains : (link : ℕ) (w : Actors) (events : List Event) → IsDown link w → IsDown link (actors_after_all w events)
down_remains link w [] down = down
down_remains link w (event ∷ events) down = down_remains link (actors_after w event) events (down_by (step link w event) down)

pub down_after : (link : ℕ) (w : Actors) (event : Event) → is_up w link ≡ false → is_up (actors_after w event) link ≡ false
down_after link w event down = down_by (step link w event) down

front_empty : {X : Type 0} (xs ys : List X) → xs ++ ys ≡ [] → xs ≡ []
front_empty [] ys is = refl
front_empty (x ∷ xs) ys is = absurd cc

-- nothing is taken of a link that is down and has nothing, and it has nothing then
pub both_empty : {X : Type 0} (xs ys : List X) → [] ≡ xs ++ ys → (xs ≡ []) × (ys ≡ [])
both_empty [] ys is = (refl, sym is)
both_empty (x ∷ xs) ys is = absurd cc

empty_by : {link : ℕ} {w v : Actors} {event : Event} →
    Step link w event v →
    IsDown link w →
    outbox_of w link ≡ [] →
    (taken link w event ≡ []) × (outbox_of v link ≡ [])
empty_by {link} {w} {v} {event} (kept_order same all) down none =
    both_empty (taken link w event) (outbox_of v link) (sym (sym all ∙ ap (λ (entries : List OutboxEntry). entries ++ put link w event) none ∙ down_puts link w event down))
empty_by (breaks broken nothing nobody) down none = (nobody, ap (λ (l : Link). l.outbox) broken)

pub down_empty : (link : ℕ) (w : Actors) (event : Event) →
    is_up w link ≡ false →
    outbox_of w link ≡ [] →
    (taken link w event ≡ []) × (outbox_of (actors_after w event) link ≡ [])
down_empty link w event down none = empty_by (step link w event) down none

-- a link that is down has nothing
emptied_by : {link : ℕ} {w v : Actors} {event : Event} →
    Step link w event v →
    (is_up w link ≡ false → outbox_of w link ≡ []) →
    is_up v link ≡ false →
    outbox_of v link ≡ []
emptied_by {link} {w} {v} {event} (kept_order same all) none down = (empty_by {link = link} {w = w} {v = v} {event = event} (kept_order same all) (sym same ∙ down) (none (sym same ∙ down))).1
emptied_by (breaks broken nothing nobody) none down = ap (λ (l : Link). l.outbox) broken

pub down_outbox : (link : ℕ) (w : Actors) (event : Event) →
    (is_up w link ≡ false → outbox_of w link ≡ []) →
    is_up (actors_after w event) link ≡ false →
    outbox_of (actors_after w event) link ≡ []
down_outbox link w event none down = emptied_by (step link w event) none down

-- ---- all events

-- what is taken is the beginning of what is in the outbox and what is put
begins_by : (link : ℕ) (w : Actors) (event : Event) (events : List Event) →
    Step link w event (actors_after w event) →
    IsPrefix (all_taken link (actors_after w event) events) (outbox_of (actors_after w event) link ++ all_put link (actors_after w event) events) →
    IsPrefix (all_taken link w (event ∷ events)) (outbox_of w link ++ all_put link w (event ∷ events))
begins_by link w event events (kept_order same all) (rest, is) = (
  rest,
  append_assoc (taken link w event) (all_taken link (actors_after w event) events) rest
      ∙ ap (λ (entries : List OutboxEntry). taken link w event ++ entries) is
      ∙ sym (append_assoc (taken link w event) (outbox_of (actors_after w event) link) (all_put link (actors_after w event) events))
      ∙ ap (λ (entries : List OutboxEntry). entries ++ all_put link (actors_after w event) events) (sym all)
      ∙ append_assoc (outbox_of w link) (put link w event) (all_put link (actors_after w event) events),
)
begins_by link w event events (breaks broken nothing nobody) (rest, is) =
    let down : IsDown link (actors_after w event) = ap (λ (l : Link). l.up) broken in
    let none : all_put link (actors_after w event) events ≡ [] = down_puts_all link (actors_after w event) events down in
    let empty : all_taken link (actors_after w event) events ++ rest ≡ [] =
    is ∙ ap (λ (l : Link). l.outbox ++ all_put link (actors_after w event) events) broken ∙ none in (
      outbox_of w link ++ all_put link w (event ∷ events),
      ap (λ (entries : List OutboxEntry). (entries ++ all_taken link (actors_after w event) events) ++ (outbox_of w link ++ all_put link w (event ∷ events))) nobody
          ∙ ap (λ (entries : List OutboxEntry). entries ++ (outbox_of w link ++ all_put link w (event ∷ events))) (front_empty (all_taken link (actors_after w event) events) rest empty),
    )

begins_all : (link : ℕ) (w : Actors) (events : List Event) → IsPrefix (all_taken link w events) (outbox_of w link ++ all_put link w events)
begins_all link w [] = (outbox_of w link, sym (append-nil (outbox_of w link)))
begins_all link w (event ∷ events) = begins_by link w event events (step link w event) (begins_all link (actors_after w event) events)

-- while the link is up, the rest is left
Left : ℕ → Actors → List Event → Type 0
Left link w events = is_up (actors_after_all w events) link ≡ true → outbox_of w link ++ all_put link w events ≡ all_taken link w events ++ outbox_of (actors_after_all w events) link

left_by : (link : ℕ) (w : Actors) (event : Event) (events : List Event) →
    Step link w event (actors_after w event) →
    Left link (actors_after w event) events →
    Left link w (event ∷ events)
unfolding Left
left_by link w event events (kept_order same all) left up =
    sym (append_assoc (outbox_of w link) (put link w event) (all_put link (actors_after w event) events))
    ∙ ap (λ (entries : List OutboxEntry). entries ++ all_put link (actors_after w event) events) all
    ∙ append_assoc (taken link w event) (outbox_of (actors_after w event) link) (all_put link (actors_after w event) events)
    ∙ ap (λ (entries : List OutboxEntry). taken link w event ++ entries) (left up)
    ∙ sym (append_assoc (taken link w event) (all_taken link (actors_after w event) events) (outbox_of (actors_after_all (actors_after w event) events) link))
left_by link w event events (breaks broken nothing nobody) left up = absurd (false_true (sym (down_remains link (actors_after w event) events (ap (λ (l : Link). l.up) broken)) ∙ up)) where
  false_true : false ≡ true → ⊥
  false_true is = absurd cc

left_all : (link : ℕ) (w : Actors) (events : List Event) → Left link w events
unfolding Left
left_all link w [] up = append-nil (outbox_of w link)
left_all link w (event ∷ events) up = left_by link w event events (step link w event) (left_all link (actors_after w event) events) up

pub outboxes_all : (link : ℕ) (w : Actors) (events : List Event) →
    outbox_of w link ≡ [] →
    IsPrefix (all_taken link w events) (all_put link w events)
outboxes_all link w events empty =
    subst (λ (entries : List OutboxEntry). IsPrefix (all_taken link w events) (entries ++ all_put link w events)) empty (begins_all link w events)

pub rest_all : (link : ℕ) (w : Actors) (events : List Event) →
    outbox_of w link ≡ [] →
    is_up (actors_after_all w events) link ≡ true →
    all_put link w events ≡ all_taken link w events ++ outbox_of (actors_after_all w events) link
unfolding Left
rest_all link w events empty up = ap (λ (entries : List OutboxEntry). entries ++ all_put link w events) (sym empty) ∙ left_all link w events up

pub new_outbox : (count number : ℕ) → (get_or (replicate count new_link) number broken_link).outbox ≡ []
new_outbox zero number = refl
new_outbox (suc count) zero = refl
new_outbox (suc count) (suc number) = new_outbox count number

pub KeepsQueues-new : (settings : Parameters) (events : List Event) → KeepsQueues (new_actors settings) events
KeepsQueues-new settings events = record {
  inbox = inbox-all (new_actors settings) events;
  sources = λ source. sources_all source (new_actors settings) events refl;
  outboxes = λ link. outboxes_all link (new_actors settings) events (new_outbox (length settings.cells + 1) link);
  left = λ link. rest_all link (new_actors settings) events (new_outbox (length settings.cells + 1) link);
}
