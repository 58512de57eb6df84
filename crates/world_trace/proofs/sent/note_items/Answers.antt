-- SPDX-License-Identifier: MIT OR Apache-2.0
use Rattle.world_trace.proofs.Noting.{items_more}
use Rattle.world_trace.proofs.sent.note_items.Goals as goal

pub loop-place-preserved : goal.loop-place-preserved
loop-place-preserved c = items_more c.loop-place.crossings.items c.note_item.new.crossings.items _ c.args.network.now.inbox c.loop-place.place c.loop-place.invariant c.in_ok-note_item.ensures
