-- SPDX-License-Identifier: MIT OR Apache-2.0
-- The counts of messages in a world in which a link breaks, the line that shows these counts, and
-- the places of a break for which more messages are accepted than sent.
use Rattle.std.specs.Prelude.{ℕ, zero, suc, ◌+◌, List, ◌++◌, codes, decimal, length, take}
use Rattle.std.specs.Prelude.{Option, Some, None, nat_le, if◌then◌else◌}
use Rattle.world_model.specs.declared.event.Event.{Event}
use Rattle.world.specs.declared.world.Scene.{Scene}
use Rattle.world.specs.World.{after_all}
use Rattle.world.specs.WorldState.{WorldState}
use Rattle.bsc_program.specs.declared.breaks.Counts.{Counts}
use Rattle.bsc_program.specs.Breaks.{accepted_by_all, broken_world, sent_by_all}

abbrev pub counts_of : Scene → Counts
counts_of scene = record { accepted = accepted_by_all scene; sent = sent_by_all scene }

-- the counts after all events, if the link of `source` breaks at `place`
abbrev pub broken_counts : WorldState → List Event → ℕ → ℕ → Counts
broken_counts begin events source place =
    counts_of (broken_world begin events source place).scene

-- the world after the events before `place`, if no link breaks
abbrev pub unbroken_world : WorldState → List Event → ℕ → WorldState
unbroken_world begin events place = after_all begin (take place events)

-- `place`, if the switch accepted more messages than the mobiles sent, by these counts
abbrev pub excess_at : ℕ → Counts → Option ℕ
excess_at place counts = if nat_le counts.accepted counts.sent then None else Some place

-- the place that was found before, or `next` if no place was found
abbrev pub first_of : Option ℕ → Option ℕ → Option ℕ
first_of (Some place) next = Some place
first_of None next = next

-- the first place below a bound whose counts have more accepted than sent messages
unfoldable pub excess_below : (ℕ → Counts) → ℕ → Option ℕ
excess_below counts zero = None
excess_below counts (suc n) = first_of (excess_below counts n) (excess_at n (counts n))

-- the first place of a break for which more messages are accepted than sent; the places are those
-- from before the first event to after the last
abbrev pub first_excess : WorldState → List Event → ℕ → Option ℕ
first_excess begin events source =
    excess_below (broken_counts begin events source) (length events + 1)

abbrev pub counted_line : ℕ → Counts → List ℕ
counted_line place counts =
    codes "break " ++ decimal place
    ++ codes " accepted " ++ decimal counts.accepted
    ++ codes " sent " ++ decimal counts.sent ++ codes "\n"
