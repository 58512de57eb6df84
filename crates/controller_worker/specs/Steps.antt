-- SPDX-License-Identifier: MIT OR Apache-2.0
-- Views of a list of steps: the items of each source, the time that passes, and the frames that are
-- put for each link.
use Rattle.std.specs.Prelude.{ℕ, ◌+◌, ◌<◌, ◌==◌, List, [], ◌∷◌, map}
use Rattle.std.specs.List.{AllByRecursion, filter}
use Rattle.conn_messages.specs.declared.out.Out.{Out}
use Rattle.controller_model.specs.declared.step.Step.{Step}
use Rattle.controller_model.specs.declared.step.Step.TheVariants.{Take, Tick}
use Rattle.controller_model.specs.Controller.{Controller, Turn, each}
use Rattle.controller_model.specs.Life as words
use Rattle.ipa_framing.specs.declared.frame.Frame.{Frame}
use Rattle.ruled_relay.specs.declared.item.Item.{Item}
use Rattle.ruled_relay.specs.declared.item.What.{What}

abbrev pub items_of : List Step → List Item
items_of [] = []
items_of (Take item ∷ steps) = item ∷ items_of steps
items_of (Tick ms ∷ steps) = items_of steps

-- the source of each item is a link; there are this many links
abbrev pub AreOfLinks : ℕ → List Step → Type 0
AreOfLinks links steps = AllByRecursion (λ item. item.source < links) (items_of steps)

-- the milliseconds that all ticks of the steps pass on
abbrev pub ticked : List Step → ℕ
ticked [] = 0
ticked (Take item ∷ steps) = ticked steps
ticked (Tick ms ∷ steps) = ms + ticked steps

-- the contents of the items that one source gave
abbrev pub whats_of : ℕ → List Item → List What
whats_of source items = map (λ item. item.what) (filter (λ item. item.source == source) items)

-- the frames among the outputs that are for one link
abbrev pub frames_to : ℕ → List Out → List Frame
frames_to link outs = map (λ out. out.frame) (filter (λ out. out.to == link) outs)

-- the turn of a controller over steps: all outputs of the steps, and the controller after the steps
abbrev pub over : Controller → List Step → Turn
over start steps = each words.step start steps
