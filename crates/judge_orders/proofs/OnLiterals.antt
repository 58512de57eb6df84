-- SPDX-License-Identifier: MIT OR Apache-2.0
-- What is unfolded where literal frames are judged.
use Rattle.judge_orders.specs.Steps.{after, after_hole, beginnings, begun_apart, ended_by, gives_again, waits_on}

unfoldable pub on_literals : Unit {0}
unfolding after after_hole beginnings begun_apart ended_by gives_again waits_on
on_literals = tt
