-- SPDX-License-Identifier: MIT OR Apache-2.0
-- How the mobile's messages move along the line-up: from a channel over the controller to the
-- switch.
use Rattle.std.specs.Prelude.{◌≡◌, ℕ, true, false, List, [], ◌∷◌, ◌++◌}
use Rattle.world_laws.specs.Prelude.{is_flow_message}
use Rattle.world_laws.specs.LineUp.Places.{Item, LineTenure, LineUp, with_items, holding, emptied}
use Rattle.world_laws.specs.LineUp.Places.Item.{brought}

pub data RelayStep : LineUp → LineUp → Type 0 where
  -- when no old channel drains, a message of the serving channel is relayed
  relays_serving : (l : LineUp) (t : LineTenure) (x : List ℕ) (items : List Item) →
      RelayStep (record l {
        is_confirmed =
            true;
        old = [];
        serving = with_items t (brought x ∷ items);
      })
      (record l {
        is_confirmed =
            true;
        old = [];
        serving = with_items t items;
        out = l.out ++ x ∷ [];
      })
  -- before CC, a message of the serving channel is held
  holds_before_confirm : (l : LineUp) (t : LineTenure) (x : List ℕ) (items : List Item) →
      RelayStep (record l {
        is_confirmed =
            false;
        old = [];
        serving = with_items t (brought x ∷ items);
      })
      (record l { is_confirmed = false; old = []; serving = holding t x items })
  -- while an old channel drains, a message of the serving channel is held
  holds_serving : (l : LineUp) (oldest : LineTenure) (others : List LineTenure) (t : LineTenure)
      (x : List ℕ)
      (items : List Item) →
      RelayStep (record l { old = oldest ∷ others; serving = with_items t (brought x ∷ items) })
      (record l { old = oldest ∷ others; serving = holding t x items })
  -- a message of the oldest channel is relayed
  relays_oldest : (l : LineUp) (t : LineTenure) (others : List LineTenure) (x : List ℕ)
      (items : List Item) →
      RelayStep (record l {
        old =
            with_items t (brought x ∷ items) ∷ others;
      }) (record l {
        old = with_items t items
            ∷ others;
        out = l.out ++ x ∷ [];
      })
  -- a message of another old channel is held
  holds_old : (l : LineUp) (oldest : LineTenure) (before : List LineTenure) (t : LineTenure)
      (after : List LineTenure) (x : List ℕ) (items : List Item) →
      RelayStep (record l { old = oldest ∷ (before ++ with_items t (brought x ∷ items) ∷ after) })
      (record l { old = oldest ∷ (before ++ holding t x items ∷ after) })
  -- a message that isn't of the flow may be dropped
  ignores_serving : (l : LineUp) (t : LineTenure) (x : List ℕ) (items : List Item)
      → is_flow_message x ≡ false →
      RelayStep (record l {
        serving =
            with_items t (brought x ∷ items);
      }) (record l { serving = with_items t items })
  ignores_old : (l : LineUp) (before : List LineTenure) (t : LineTenure) (after : List LineTenure)
      (x : List ℕ)
      (items : List Item) → is_flow_message x ≡ false →
      RelayStep (record l {
        old =
            before ++ with_items t (brought x ∷ items) ∷ after;
      }) (record l {
        old = before
            ++ with_items t items ∷ after;
      })
  ignores_target : (l : LineUp) (t : LineTenure) (x : List ℕ) (items : List Item)
      → is_flow_message x ≡ false →
      RelayStep (record l {
        target =
            with_items t (brought x ∷ items);
      }) (record l { target = with_items t items })
  -- CC is received: the messages held are relayed
  confirms : (l : LineUp) (t : LineTenure) →
      RelayStep (record l {
        is_confirmed =
            false;
        old = [];
        serving = t;
      }) (record l {
        is_confirmed = true;
        old = [];
        serving = emptied t;
        out = l.out ++ t.hold;
      })
  -- the switch takes the first message of its outbox
  switch_takes : (l : LineUp) (x : List ℕ) (out : List (List ℕ)) →
      RelayStep (record l { out = x ∷ out }) (record l { out = out; taken = l.taken ++ x ∷ [] })
