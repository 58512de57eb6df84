-- SPDX-License-Identifier: MIT OR Apache-2.0
use Rattle.world_ends.proofs.Index.{none_yet}
use Rattle.world_ends.proofs.mobiles.Mobiles.new.Goals as goal

pub invariant_of-result : goal.invariant_of-result
invariant_of-result c = rw (c.no_places.ensures, c.new.ensures.items) none_yet
