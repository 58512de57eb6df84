-- SPDX-License-Identifier: MIT OR Apache-2.0
use Rattle.std.proofs.Common.{◌∙◌, arith}
use Rattle.controller_model.specs.Controller.{Entry}
use Rattle.connection_notes.specs.Sights.{sight_of}
use Rattle.connection_notes.proofs.Walking.{map_more}
use Rattle.world_trace.proofs.sight.sights.Goals as goal

pub loop-place-preserved : goal.loop-place-preserved
loop-place-preserved c =
    let now = c.loop-place in
    let seen = c.note_sight.ensures in
    record {
      seen = map_more (λ (e : Entry). sight_of e.connection) now.sights.items c.note_sight.new.sights.items _
          c.args.network.now.controller.entries now.place now.invariant.seen seen.items;
      within = omega (arith, now.invariant.within, seen.len);
      room = seen.capacity ∙ now.invariant.room;
    }
