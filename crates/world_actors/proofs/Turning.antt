-- SPDX-License-Identifier: MIT OR Apache-2.0
-- The controller's outputs join the outboxes, and nothing else of the world changes.
use Rattle.world_actors.proofs.Prelude.{◌≡◌, ℕ, Bool, true, false, if◌then◌else◌, List, [], ◌∷◌, ◌++◌, Option, Some, None, Result, Ok, Err}
use Rattle.world_actors.proofs.Prelude.{OnOk, OnErr, IsSome, refl, sym, ap, ◌∙◌, subst, Memory, Tenure, behind_first, first_in, Takes}
use Rattle.world_actors.proofs.Prelude.{Actors, outbox_of, some_same}
use Rattle.std.proofs.Common.{fold}
use Rattle.conn_messages.specs.declared.out.Out.{Out}
use Rattle.controller_model.specs.Controller.{Turn}
use Rattle.controller_model.specs.Life.{take, tick}
use Rattle.ruled_relay.specs.declared.item.Item.{Item}
use Rattle.world_model.specs.Relay.{after_handle, after_tick, entry_of, handled, joined_by, target_in, with_turn}
use Rattle.world_model.specs.World.{is_up, with_outbox}
use Rattle.world_actors.specs.Relay.{handling, ticking}
use Rattle.world_actors.specs.RelayState.{RelayState}
use Rattle.world_actors.specs.Handling.{after_item}
use Rattle.world_actors.specs.Links.{all_joined_in, joined_in, outbox_in, with_outbox_in}

joined_is : (target : Option Tenure) (w : Actors) (out : Out) → joined_by target w out ≡ record w { links = joined_in target w.links out }
joined_is target w out = by_link (is_up w out.to) where
  by_link : (b : Bool) → (if b then with_outbox out.to (outbox_of w out.to ++ entry_of target out ∷ []) w else w)
      ≡ record w { links = if b then with_outbox_in out.to (outbox_in w.links out.to ++ entry_of target out ∷ []) w.links else w.links }
  by_link true = refl
  by_link false = refl

all_joined : (target : Option Tenure) (w : Actors) (outs : List Out) →
    fold (joined_by target) w outs ≡ record w { links = all_joined_in target w.links outs }
all_joined target w [] = refl
all_joined target w (out ∷ outs) =
    ap (λ (v : Actors). fold (joined_by target) v outs) (joined_is target w out) ∙ all_joined target (record w { links = joined_in target w.links out }) outs

pub turn_is : (target : Option Tenure) (t : Turn) (w : Actors) →
    with_turn target t w ≡ record w { controller = t.next; links = all_joined_in target w.links t.outs }
turn_is target t w = all_joined target (record w { controller = t.next }) t.outs

-- ---- the relay of a world

abbrev pub relay_of : Actors → RelayState
relay_of w = record { inbox = w.inbox; controller = w.controller; links = w.links }

abbrev pub with_relay : Actors → RelayState → Actors
with_relay w r = record w { inbox = r.inbox; controller = r.controller; links = r.links }

pub tick_puts : {X : Type 0} (r : Result X Memory) (w : Actors) (ms : ℕ) (new : RelayState) →
    OnOk r (new ≡ ticking ms (relay_of w)) →
    OnOk r (after_tick w ms ≡ Some (with_relay w new))
tick_puts (Err memory) w ms new is = tt
tick_puts (Ok x) w ms new is = ap (λ (v : Actors). Some v) (turn_is None (tick ms w.controller) w ∙ sym (ap (with_relay w) is))

-- ---- the first item is handled

pub item_puts : {X : Type 0} (r : Result X Memory) (w : Actors) (item : Item) (target : Option Tenure) (new : RelayState) → target ≡ target_in w item.source item.what
    → OnOk r (new ≡ handling target item (relay_of w)) → OnOk r (with_relay w new ≡ after_item item w)
item_puts (Err memory) w item target new aims is = tt
item_puts (Ok x) w item target new aims is =
    ap (with_relay w) is ∙ ap (λ (t : Option Tenure). with_relay w (handling t item (relay_of w))) aims ∙ sym (turn_is (target_in w item.source item.what) (take item w.controller) w)

-- where there is one
pub handle_is : (w : Actors) (item : Item) →
    first_in w.inbox ≡ Some item →
    after_handle w ≡ Some (after_item item (record w { inbox = behind_first w.inbox }))
handle_is w item first = by_items w.inbox refl first where
  by_items : (items : List Item) →
      w.inbox ≡ items →
      first_in items ≡ Some item →
      handled items w ≡ Some (after_item item (record w { inbox = behind_first items }))
  by_items [] are h = absurd cc
  by_items (i ∷ others) are h = ap (λ (j : Item). handled (j ∷ others) w) (some_same h)

pub handle_not : (w : Actors) → first_in w.inbox ≡ None → after_handle w ≡ None
handle_not w none = by_items w.inbox none where
  by_items : (items : List Item) → first_in items ≡ None → handled items w ≡ None
  by_items [] h = refl
  by_items (i ∷ others) h = absurd cc

pub handle_idle : (w : Actors) (new : RelayState) →
    first_in w.inbox ≡ None →
    new ≡ record (relay_of w) { inbox = behind_first w.inbox } →
    Takes w (after_handle w) false (with_relay w new)
handle_idle w new none is = subst (λ (o : Option Actors). Takes w o false (with_relay w new)) (sym (handle_not w none)) (refl, ap (with_relay w) is ∙ empty w.inbox refl none) where
  empty : (items : List Item) → w.inbox ≡ items → first_in items ≡ None → record w { inbox = behind_first w.inbox } ≡ w
  empty [] are h = ap (λ (items : List Item). record w { inbox = behind_first items }) are ∙ ap (λ (items : List Item). record w { inbox = items }) (sym are)
  empty (i ∷ others) are h = absurd cc

pub handle_done : (w : Actors) (item : Item) (mid : RelayState) (v : Actors) → first_in w.inbox ≡ Some item → mid ≡ record (relay_of w) { inbox = behind_first w.inbox }
    → v ≡ after_item item (with_relay w mid) → Takes w (after_handle w) true v
handle_done w item mid v first left is =
    subst (λ (o : Option Actors). Takes w o true v) (sym (handle_is w item first)) (refl, is ∙ ap (λ (r : RelayState). after_item item (with_relay w r)) left)

pub handle_wants : {X : Type 0} (r : Result X Memory) (v w : Actors) (item : Item) →
    w ≡ v →
    first_in w.inbox ≡ Some item →
    OnErr r (IsSome (after_handle v))
handle_wants (Ok x) v w item is first = tt
handle_wants (Err memory) v w item is first = subst (λ (o : Option Actors). IsSome o) (sym (ap after_handle (sym is) ∙ handle_is w item first)) refl
