-- SPDX-License-Identifier: MIT OR Apache-2.0
use Rattle.std.proofs.Common.{option_to_list}
use Rattle.world_trace.proofs.Crosses.{crossings_are}
use Rattle.world_trace.proofs.event_trace.pass.Goals as goal

pub returns-clause-crossings : goal.returns-clause-crossings
returns-clause-crossings c =
    crossings_are c.args.network.now c.args.event.now c.in_ok-taken.taken c.step.new.self c.in_ok-marks.marks (option_to_list c.in_ok-first.first) c.in_ok-crossings.crossings.items c.note_behind.new.crossings.items c.in_ok-taken.ensures.ok
    c.in_ok-marks.ensures c.in_ok-first.ensures c.in_ok-crossings.ensures c.in_ok-note_behind.ensures
