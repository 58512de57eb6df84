-- SPDX-License-Identifier: MIT OR Apache-2.0
-- How the line-up begins.
use Rattle.std.specs.Prelude.{ℕ, true, false, List, [], ◌∷◌}
use Rattle.world_laws.specs.Prelude.{DataLinkState}
use Rattle.world_laws.specs.LineUp.Places.{Item, LineUp, fresh, with_items}
use Rattle.world_laws.specs.LineUp.Places.Seat.{on_serving}

-- The line-up of a connection once its initial message arrived: CR waits for the switch with the
-- initial message, and `items` are on their way up after the initial message.
abbrev pub opened : List (List ℕ) → DataLinkState → List ℕ → List Item → LineUp
opened sent link initial items = record {
  sent = sent;
  link = link;
  seat = on_serving;
  is_intact = true;
  is_opening = false;
  commands = 0;
  is_changing = false;
  is_confirmed = false;
  old = [];
  serving = with_items fresh items;
  target = fresh;
  out = initial ∷ [];
  taken = [];
}
