-- SPDX-License-Identifier: MIT OR Apache-2.0
-- The links of the stations whose channels a connection uses are up. Nothing of a source arrives
-- after the end of the source's link.
use Rattle.std.specs.Prelude.{◌≡◌, ◌≢◌, ℕ, true, false, List, [], ◌∷◌}
use Rattle.std.specs.List.{AllByRecursion}
use Rattle.world_laws.specs.Prelude.{SWITCH_LINK, Connection, used_channels, hears, Item}
use Rattle.world_laws.specs.Prelude.{AreAllowed, Parameters, Event}
use Rattle.world_laws.specs.Prelude.{Actors, base_of, is_up}
use Rattle.world_laws.specs.Runs.{world}
use Rattle.ruled_relay.specs.declared.item.What.TheVariants as whats
use Rattle.world_model.specs.Queues.{of_source}
use Rattle.world_laws.specs.OthersFrame.{IsHad}

-- ---- the links that an open connection uses

-- The controller has these links as up: that of the switch, and those of the stations whose
-- channels the connection uses.
pub record LinksAreUp (w : Actors) (s : Connection) : Type 0 where
  pub switch : hears w.controller SWITCH_LINK ≡ true
  pub stations : AllByRecursion (λ c. hears w.controller c.station ≡ true) (used_channels s)

-- Whatever events happened, the controller has the links that an open connection uses as up.
-- Assumes: allowed settings.
abbrev pub LinksOfChannelsAreUp : Parameters → List Event → Type 0
LinksOfChannelsAreUp settings events =
    (s : Connection) → AreAllowed settings → IsHad (world settings events) s
    → LinksAreUp (world settings events) s

-- ---- the end of a link

abbrev pub down_of : ℕ → Item
down_of source = record { source = source; what = whats.Down }

-- No item of the source follows the end of the source's link.
abbrev pub EndsWithDown : ℕ → List Item → Type 0
EndsWithDown source [] = Unit {0}
EndsWithDown source (item ∷ items) =
    (item ≡ down_of source → of_source source items ≡ []) × EndsWithDown source items

-- The link of a source ends once: conditions on the items of the source in the inbox, and on the
-- messages that the source made.
pub record EndsOnce (w : Actors) (source : ℕ) : Type 0 where
  -- the end of the link is the last item of the source in the inbox; while the link is up, the
  -- inbox has no such item
  pub last : EndsWithDown source w.inbox
  pub none_yet : is_up w source ≡ true → AllByRecursion (λ item. item ≢ down_of source) w.inbox
  -- while the link is down, no message that the source made waits
  pub switch_made : source ≡ SWITCH_LINK → is_up w source ≡ false → w.switch_made ≡ []
  pub station_made : source ≢ SWITCH_LINK → is_up w source ≡ false
      → (base_of w source).messages ≡ []
  -- once the controller learned that the link broke, the link is down, and the inbox has no item of
  -- the source
  pub broke : hears w.controller source ≡ false → is_up w source ≡ false
  pub over : hears w.controller source ≡ false → of_source source w.inbox ≡ []

-- Whatever events happened, the link of the switch and of each station ends once.
abbrev pub LinksEndOnce : Parameters → List Event → Type 0
LinksEndOnce settings events = (source : ℕ) → EndsOnce (world settings events) source
