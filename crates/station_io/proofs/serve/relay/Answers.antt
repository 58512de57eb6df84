-- SPDX-License-Identifier: MIT OR Apache-2.0
use Rattle.station_io.proofs.Relaying.{has_ended}
use Rattle.station_io.proofs.serve.relay.Goals as goal

pub returns-clause-ended : goal.returns-clause-ended
returns-clause-ended g c =
    let p = c.in_ok-readings.field-0 in
    let d = c.in_ok-done.done in
    let done = c.in_ok-done.ensures in
    has_ended g.I.Read.remaining g.O.Write.contents g.G.Gate.refused c.args.alloc c.args.limit c.args.links.items p.readings.items p.writings.items
    (record { alloc = c.args.alloc; controller = c.args.controller; desk = p.desk; putters = p.putters; marks = p.marks; clock = c.args.clock }) d.read.items d.written.items d.called
    c.in_ok-readings.ensures.workers done.read done.written done.called
