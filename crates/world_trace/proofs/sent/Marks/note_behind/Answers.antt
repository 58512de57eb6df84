-- SPDX-License-Identifier: MIT OR Apache-2.0
use Rattle.std.proofs.Common.{◌<◌, arith, drop, length}
use Rattle.std.proofs.lemmas.List.{get_or_read}
use Rattle.std.specs.List.{flat_map}
use Rattle.world_trace.specs.declared.crossing.Passage.TheVariants.{Sent}
use Rattle.world_trace.specs.Crossings.{up}
use Rattle.world_trace.proofs.Noting.{below_more}
use Rattle.world_trace.proofs.sent.Marks.note_behind.Goals as goal

pub loop-link-preserved : goal.loop-link-preserved
loop-link-preserved c =
    let marks = c.args.self.now.outboxes in
    let within : c.loop-link.link < length marks.items = omega (arith, marks.ok.0) in
    below_more c.args.crossings.now.items c.loop-link.crossings.items c.note_entries.new.crossings.items (flat_map (up Sent) (drop c.args.self.now.inbox c.args.network.now.inbox)) marks.items c.args.network.now c.loop-link.link c.index.result.now
    c.loop-link.invariant (get_or_read marks.items _ _ within c.index.ensures 0) c.in_ok-note_entries.ensures
