-- SPDX-License-Identifier: MIT OR Apache-2.0
use Rattle.world_model.specs.World.{outbox_of}
use Rattle.world_trace.proofs.Noting.{entries_more}
use Rattle.world_trace.proofs.sent.note_entries.Goals as goal

pub loop-place-preserved : goal.loop-place-preserved
loop-place-preserved c = entries_more c.loop-place.crossings.items c.note_entry.new.crossings.items _ (outbox_of c.args.network.now c.args.link) c.loop-place.place c.loop-place.invariant c.in_ok-note_entry.ensures
