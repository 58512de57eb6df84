-- SPDX-License-Identifier: MIT OR Apache-2.0
-- A world whose links all break, and whose controller then handles its whole inbox: no link is up,
-- and nothing is left.
use Rattle.std.proofs.Common.{◌≡◌, ◌≢◌, ℕ, zero, suc, ◌+◌, ◌≤◌, ◌<◌, ◌==◌, nat_eq, Bool, true, false, if◌then◌else◌, List, [], ◌∷◌, ◌++◌, get_or, set, Some, None, unwrap_or, refl, sym, ap, ◌∙◌, subst, inl, inr, arith, append-nil}
use Rattle.std.proofs.lemmas.Bool.{cases_Bool, eqb-true, eqb-false}
use Rattle.conn_messages.specs.declared.parameters.TheConstants.{SWITCH_LINK}
use Rattle.controller_model.specs.Life.{take, tick}
use Rattle.link_model.specs.Base.{after_take_down}
use Rattle.ruled_relay.specs.declared.item.Item.{Item}
use Rattle.world_laws.specs.Order.OctetEvents.{AreOctetEvents}
use Rattle.world_laws.proofs.Owners.Making.{plain_quiet}
use Rattle.world_model.specs.declared.event.Event.{Event}
use Rattle.world_model.specs.declared.event.Event.TheVariants.{BaseDown, BasePush, Connect, Handle, Tick}
use Rattle.world_model.specs.Life.{actors_after, actors_after_all, event_after}
use Rattle.world_model.specs.Mobiles.{after_connecting}
use Rattle.world_model.specs.Queues.{first_of}
use Rattle.world_model.specs.Relay.{after_base_push, after_handle, broken, target_in}
use Rattle.world_model.specs.World.{Actors, Link, base_of, broken_link, is_up, with_base, with_link}
use Rattle.world_model.proofs.Inboxes.{inbox_keeps_order}
use Rattle.world_model.proofs.Leads.{after_taken, connect_leads, handle_leads, push_leads}
use Rattle.world_model.proofs.Outboxes.{all_join, changed_link, down_after, other_link}

-- ---- a link remains up or down at every event but a break

abbrev pub is_break : Event → Bool
is_break (BaseDown source) = true
is_break event = false

pub up_same : (n : ℕ) (w : Actors) (event : Event) → is_break event ≡ false → is_up (actors_after w event) n ≡ is_up w n
unfolding event_after
up_same n w (Connect number station initial accepts) is =
    after_taken (λ (v : Actors). is_up v n ≡ is_up w n) (after_connecting w number station initial accepts) w
    (connect_leads (λ (v : Actors). is_up v n ≡ is_up w n) w number station initial accepts (λ may. refl)) refl
up_same n w (BasePush source) is =
    after_taken (λ (v : Actors). is_up v n ≡ is_up w n) (after_base_push w source) w
    (push_leads (λ (v : Actors). is_up v n ≡ is_up w n) w source (λ first others. refl) (λ message _. refl)) refl
up_same n w Handle is =
    after_taken (λ (v : Actors). is_up v n ≡ is_up w n) (after_handle w) w
    (handle_leads (λ (v : Actors). is_up v n ≡ is_up w n) w (λ item items _.
    (all_join n (target_in w item.source item.what) (take item w.controller).outs (record w { inbox = items; controller = (take item w.controller).next })).up)) refl
up_same n w (Tick ms) is = (all_join n None (tick ms w.controller).outs (record w { controller = (tick ms w.controller).next })).up
up_same n w (BaseDown source) is = absurd cc
up_same n w event is = (plain_quiet w event refl).links n

-- ---- a break

broken_links : (source : ℕ) (w : Actors) → (broken source w).links ≡ set w.links source broken_link
broken_links source w = by (source == SWITCH_LINK) (with_link source broken_link w) where
  by : (b : Bool) (u : Actors) →
      (if b then record u { switch_made = [] } else with_base source (after_take_down (base_of u source)) u).links ≡ u.links
  by true u = refl
  by false u = refl

-- the link that breaks is down then
pub broken_now : (n : ℕ) (w : Actors) → is_up (actors_after w (BaseDown n)) n ≡ false
unfolding event_after
broken_now n w = by (is_up w n) refl where
  by : (b : Bool) → is_up w n ≡ b → is_up (unwrap_or (if b then Some (broken n w) else None) w) n ≡ false
  by true up =
      ap (λ (links : List Link). (get_or links n broken_link).up) (broken_links n w)
      ∙ ap (λ (l : Link). l.up) (changed_link w.links n broken_link up)
  by false down = down

-- other links are up or down as before
pub broken_else : (n source : ℕ) (w : Actors) → nat_eq source n ≡ false → is_up (actors_after w (BaseDown source)) n ≡ is_up w n
unfolding event_after
broken_else n source w differs = by (is_up w source) where
  by : (b : Bool) → is_up (unwrap_or (if b then Some (broken source w) else None) w) n ≡ is_up w n
  by true =
      ap (λ (links : List Link). (get_or links n broken_link).up) (broken_links source w)
      ∙ ap (λ (l : Link). l.up) (other_link w n source broken_link (λ is. eqb-false source n differs (sym is)))
  by false = refl

-- ---- all links break, one after the other

-- of so many links, from this one on
abbrev pub breaks_from : ℕ → ℕ → List Event
breaks_from first zero = []
breaks_from first (suc count) = BaseDown first ∷ breaks_from (suc first) count

pub down_all : (n : ℕ) (w : Actors) (events : List Event) → is_up w n ≡ false → is_up (actors_after_all w events) n ≡ false
down_all n w [] down = down
down_all n w (event ∷ events) down = down_all n (actors_after w event) events (down_after n w event down)

pub all_broken : (count first n : ℕ) (w : Actors) →
    first ≤ n →
    n < first + count →
    is_up (actors_after_all w (breaks_from first count)) n ≡ false
all_broken zero first n w from below = absurd (omega arith)
all_broken (suc count) first n w from below = elim (cases_Bool (nat_eq first n)) [
  | inl same ↦ down_all n (actors_after w (BaseDown first)) (breaks_from (suc first) count)
      (subst (λ (k : ℕ). is_up (actors_after w (BaseDown k)) n ≡ false) (sym (eqb-true first n same)) (broken_now n w))
  | inr other ↦
      let differs : first ≢ n = eqb-false first n other in
      all_broken count (suc first) n (actors_after w (BaseDown first)) (omega arith) (omega arith)
]

-- ---- the inbox is handled

abbrev pub handles : List Item → List Event
handles [] = []
handles (item ∷ items) = Handle ∷ handles items

handled_first : (w : Actors) (item : Item) (items : List Item) → w.inbox ≡ item ∷ items → (actors_after w Handle).inbox ≡ items
handled_first w item items pending = tails (sym pending ∙ sym (append-nil w.inbox) ∙ inbox_keeps_order w Handle ∙ ap (λ (xs : List Item). first_of xs ++ (actors_after w Handle).inbox) pending) where
  tails : {xs : List Item} → item ∷ items ≡ item ∷ xs → xs ≡ items
  tails same = cc

pub all_handled : (items : List Item) (w : Actors) → w.inbox ≡ items → (actors_after_all w (handles items)).inbox ≡ []
all_handled [] w pending = pending
all_handled (item ∷ items) w pending = all_handled items (actors_after w Handle) (handled_first w item items pending)

-- ---- these events are of octets

pub octet_breaks : (first count : ℕ) → AreOctetEvents (breaks_from first count)
octet_breaks first zero = tt
octet_breaks first (suc count) = (tt, octet_breaks (suc first) count)

pub octet_handles : (items : List Item) → AreOctetEvents (handles items)
octet_handles [] = tt
octet_handles (item ∷ items) = (tt, octet_handles items)
