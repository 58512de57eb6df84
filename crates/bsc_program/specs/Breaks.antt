-- SPDX-License-Identifier: MIT OR Apache-2.0
-- The lines for a script and a source: one for each place at which the source's link may break.
use Rattle.std.specs.Prelude.{ℕ, zero, suc, ◌+◌, ◌-◌, ◌^◌, List, [], ◌++◌, length}
use Rattle.std.specs.Prelude.{codes, decimal}
use Rattle.std.specs.Prelude.{Option, Some, None, unwrap_or}
use Rattle.world_model.specs.declared.event.Event.{Event}
use Rattle.world.specs.declared.world.Scene.{Scene}
use Rattle.world.specs.Views.{sent_list, accepted_list}
use Rattle.world.specs.World.{after_all, broken}
use Rattle.world.specs.WorldState.{WorldState}

-- a step of `count_from`; a number without a list ends the count
abbrev pub count_with : Option (List (List ℕ)) → ℕ → ℕ
count_with None others = 0
count_with (Some messages) others = length messages + others

-- The number of messages in the lists from `number` on, up to the first number without a list. The
-- last argument is the largest number of lists that are counted.
unfoldable pub count_from : (ℕ → Option (List (List ℕ))) → ℕ → ℕ → ℕ
count_from list number zero = 0
count_from list number (suc most) = count_with (list number) (count_from list (number + 1) most)

-- the number of messages in the lists with the numbers 1 to `n`; a missing list counts as empty
unfoldable pub count_to : (ℕ → Option (List (List ℕ))) → ℕ → ℕ
count_to list zero = 0
count_to list (suc n) = count_to list n + length (unwrap_or (list (suc n)) [])

-- the number of messages that the switch accepted on its connections, from connection 1 up to the
-- first number without a connection
abbrev pub accepted_by_all : Scene → ℕ
accepted_by_all scene = count_from (accepted_list scene) 1 (2 ^ 32 - 1)

-- the number of flow messages that all mobiles sent
abbrev pub sent_by_all : Scene → ℕ
sent_by_all scene = count_to (sent_list scene) 255

-- the line for a break at a place
abbrev pub break_line : ℕ → Scene → List ℕ
break_line place scene =
    codes "break " ++ decimal place
    ++ codes " accepted " ++ decimal (accepted_by_all scene)
    ++ codes " sent " ++ decimal (sent_by_all scene) ++ codes "\n"

-- the texts of the numbers below a bound, in order
unfoldable pub texts_below : (ℕ → List ℕ) → ℕ → List ℕ
texts_below text zero = []
texts_below text (suc n) = texts_below text n ++ text n

-- the world after the events, if the link of `source` breaks at `place`
abbrev pub broken_world : WorldState → List Event → ℕ → ℕ → WorldState
broken_world begin events source place = after_all begin (broken events place source)

-- the lines for the breaks at all places, from before the first event to after the last
abbrev pub break_lines : WorldState → List Event → ℕ → List ℕ
break_lines begin events source = texts_below
    (λ place. break_line place (broken_world begin events source place).scene)
    (length events + 1)
