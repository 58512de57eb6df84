-- SPDX-License-Identifier: MIT OR Apache-2.0
use Rattle.world_actors.proofs.Prelude.{◌≡◌}
use Rattle.std.proofs.Common.{replicate}
use Rattle.world_model.specs.World.{new_link}
use Rattle.world_actors.proofs.links.Links.new.Given as goal

abbrev pub invariant-loop : goal.invariant-loop
invariant-loop l = l.links.items ≡ replicate l.counter new_link
