-- SPDX-License-Identifier: MIT OR Apache-2.0
use Rattle.world_model.specs.Queues.{made_items}
use Rattle.world_trace.specs.declared.crossing.Passage.TheVariants.{Made}
use Rattle.world_trace.specs.Crossings.{up}
use Rattle.connection_notes.proofs.Walking.{walk_more}
use Rattle.world_trace.proofs.made.note_source.Goals as goal

pub loop-place-preserved : goal.loop-place-preserved
loop-place-preserved c = walk_more (up Made) c.loop-place.crossings.items c.note_made.new.crossings.items _
    (made_items c.args.network.now c.args.source) c.loop-place.place c.loop-place.invariant c.in_ok-note_made.ensures
