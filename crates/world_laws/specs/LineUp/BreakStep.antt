-- SPDX-License-Identifier: MIT OR Apache-2.0
-- The break of a station's link: of the items on their way up from a channel, the last ones are
-- dropped, and nothing follows those that remain. The break of a target's link before the mobile
-- arrived on the target needs no step.
use Rattle.std.specs.Prelude.{true, false, List, ◌∷◌, ◌++◌}
use Rattle.world_laws.specs.LineUp.Places.{Item, LineTenure, LineUp, with_items}
use Rattle.world_laws.specs.LineUp.Places.Seat.{on_target}
use Rattle.world_laws.specs.LineUp.Alive.{IsHereOrGone}

-- The tenure of a channel from which only these items will still arrive.
abbrev pub lost : LineTenure → List Item → LineTenure
lost t items = record t { items = items; is_lost = true }

pub data BreakStep : LineUp → LineUp → Type 0 where
  breaks_serving : (l : LineUp) (t : LineTenure) (items dropped : List Item) →
      BreakStep (record l {
        serving =
            with_items t (items ++ dropped);
      }) (record l {
        serving = lost t items;
        is_intact = false;
      })
  breaks_target : (l : LineUp) (t : LineTenure) (items dropped : List Item)
      → IsHereOrGone on_target l.seat →
      BreakStep (record l {
        target =
            with_items t (items ++ dropped);
      }) (record l { target = lost t items; is_intact = false })
  breaks_old : (l : LineUp) (before : List LineTenure) (t : LineTenure) (after : List LineTenure)
      (items dropped : List Item) →
      BreakStep (record l {
        old =
            before ++ with_items t (items ++ dropped) ∷ after;
      }) (record l {
        old = before
            ++ lost t items ∷ after;
        is_intact = false;
      })
