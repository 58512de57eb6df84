-- SPDX-License-Identifier: MIT OR Apache-2.0
use Rattle.std.proofs.Common.{◌<◌, arith, length}
use Rattle.std.proofs.lemmas.List.{get_or_read}
use Rattle.world_trace.proofs.Making.{behind_more}
use Rattle.world_trace.proofs.made.Makings.note_behind.Goals as goal

pub loop-source-preserved : goal.loop-source-preserved
loop-source-preserved c =
    let counts = c.args.self.now.counts in
    let within : c.loop-source.source < length counts.items = omega (arith, counts.ok.0) in
    behind_more c.args.crossings.now.items c.loop-source.crossings.items c.note_source.new.crossings.items counts.items c.args.network.now
    c.loop-source.source c.index-count.result.now c.loop-source.invariant (get_or_read counts.items _ _ within c.index-count.ensures 0)
    c.in_ok-note_source.ensures
