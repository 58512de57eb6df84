-- SPDX-License-Identifier: MIT OR Apache-2.0
-- How the channels of a connection change their roles: at ASSIGNMENT and HANDOVER, and when old
-- channels end.
use Rattle.std.specs.Prelude.{◌≡◌, ℕ, true, false, List, [], ◌∷◌, ◌++◌}
use Rattle.world_laws.specs.Prelude.{is_control}
use Rattle.world_laws.specs.LineUp.Places.{Item, LineTenure, Seat, LineUp, fresh, with_items}
use Rattle.world_laws.specs.LineUp.Places.{emptied}
use Rattle.world_laws.specs.LineUp.Places.Item.{brought, released}
use Rattle.world_laws.specs.LineUp.Places.Seat.{on_serving, on_target, moving, gone}

-- The mobile's seat once the target became the serving channel.
abbrev pub after_complete : Seat → Seat
after_complete on_target = on_serving
after_complete on_serving = on_serving
after_complete moving = moving
after_complete gone = gone

-- The tenure once its RF CHANNEL RELEASE ACK was taken.
abbrev pub done : LineTenure → LineTenure
done t = record t { items = []; is_done = true }

-- The tenure of a channel from which nothing is still to arrive.
abbrev pub ended : List (List ℕ) → LineTenure
ended hold = record { hold = hold; items = []; is_lost = false; is_done = true }

-- The line-up while no change of channel is under way and the connection request was put.
abbrev pub at_rest : LineUp → LineUp
at_rest l = record l { is_opening = false; is_changing = false }

-- The line-up once the COMMAND of a change is on its way to the mobile.
abbrev pub commanded : LineUp → LineUp
commanded l = record l { is_opening = false; is_changing = true; commands = 1 }

abbrev pub with_old : LineUp → List LineTenure → LineUp
with_old l tenures = record l { old = tenures }

pub data ChangeStep : LineUp → LineUp → Type 0 where
  -- the COMMAND is put, once the connection request was put
  commands : (l : LineUp) →
      ChangeStep (at_rest l) (commanded l)
  -- COMPLETE arrives from the target: the target becomes the serving channel, and the channel that
  -- served becomes the youngest old channel
  completes : (l : LineUp) (t : LineTenure) (x : List ℕ) (items : List Item) → is_control x ≡ true →
      ChangeStep (record l {
        is_changing =
            true;
        is_confirmed = true;
        target = with_items t (brought x ∷ items);
      })
      (record l {
        is_changing = false;
        is_confirmed = true;
        seat = after_complete l.seat;
        old = l.old ++ l.serving ∷ [];
        serving = with_items t items;
        target = fresh;
      })
  -- FAILURE arrives from the serving channel: the target is given up
  reverts : (l : LineUp) (t : LineTenure) (x : List ℕ) (items : List Item) → is_control x ≡ true →
      ChangeStep (record l { is_changing = true; serving = with_items t (brought x ∷ items) })
      (record l { is_changing = false; serving = with_items t items; target = fresh })
  -- the station of an old channel releases the channel: its RF CHANNEL RELEASE ACK is last on its
  -- way up
  is_released : (l : LineUp) (before : List LineTenure) (t : LineTenure) (after : List LineTenure)
      → t.is_lost ≡ false →
      ChangeStep (with_old l (before ++ t ∷ after))
      (with_old l (before ++ with_items t (t.items ++ released ∷ []) ∷ after))
  -- the controller takes the RF CHANNEL RELEASE ACK of an old channel
  releases : (l : LineUp) (before : List LineTenure) (t : LineTenure) (after : List LineTenure) →
      ChangeStep (with_old l (before ++ with_items t (released ∷ []) ∷ after))
      (with_old l (before ++ done t ∷ after))
  -- the oldest old channel ended and leaves: the messages held of the next old channel are relayed
  leaves_to_old : (l : LineUp) (hold : List (List ℕ)) (next : LineTenure) (others : List LineTenure)
      →
      ChangeStep (record l { is_confirmed = true; old = ended hold ∷ next ∷ others })
      (record l { is_confirmed = true; old = emptied next ∷ others; out = l.out ++ next.hold })
  -- the only old channel ended and leaves: the messages held of the serving channel are relayed
  leaves_to_serving : (l : LineUp) (hold : List (List ℕ)) →
      ChangeStep (record l { is_confirmed = true; old = ended hold ∷ [] })
      (record l {
        is_confirmed =
            true;
        old = [];
        serving = emptied l.serving;
        out = l.out ++ l.serving.hold;
      })
