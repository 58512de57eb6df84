-- SPDX-License-Identifier: MIT OR Apache-2.0
use Rattle.std.proofs.Common.{List, Option, ◌∙◌, map, arith, sym, subst}
use Rattle.link_workers.specs.declared.fault.IoFault.{IoFault}
use Rattle.station_io.specs.declared.link.Link.{Link}
use Rattle.station_io.specs.Given.{all_given}
use Rattle.station_io.specs.Links.{Relays, ended_view, link_view}
use Rattle.station_io.specs.Octets.{PassesOctets}
use Rattle.station_io.proofs.Octets.{octets_pass}
use Rattle.station_io.proofs.Relaying.{relays, same_outboxes, same_queues, size_putters, size_read, size_written}
use Rattle.station_io.proofs.serve.serve_links.Goals as goal

pub give_back-requires-clause-room : goal.give_back-requires-clause-room
give_back-requires-clause-room g c =
    let room = c.in_ok-room.ensures.room in
    let d = c.in_ok-room.done in
    let size = size_read g.I.Read.remaining g.O.Write.contents g.G.Gate.refused c.args.controller c.args.alloc c.args.limit c.args.links.items d.read.items d.written.items d.called.desk d.called.putters.items
    c.in_ok-room.ensures.ended in
    (room.0, room.1, omega (arith, d.read.ok.0, c.args.links.ok.0, size, room.2), omega (arith, d.read.ok.0, c.args.links.ok.0, size, room.3))

pub give_back-requires-clause-count : goal.give_back-requires-clause-count
give_back-requires-clause-count g c =
    let d = c.in_ok-room.done in
    let read = size_read g.I.Read.remaining g.O.Write.contents g.G.Gate.refused c.args.controller c.args.alloc c.args.limit c.args.links.items d.read.items d.written.items d.called.desk d.called.putters.items
    c.in_ok-room.ensures.ended in
    let written = size_written g.I.Read.remaining g.O.Write.contents g.G.Gate.refused c.args.controller c.args.alloc c.args.limit c.args.links.items d.read.items d.written.items d.called.desk d.called.putters.items
    c.in_ok-room.ensures.ended in
    let putters = size_putters g.I.Read.remaining g.O.Write.contents g.G.Gate.refused c.args.controller c.args.alloc c.args.limit c.args.links.items d.read.items d.written.items d.called.desk d.called.putters.items
    c.in_ok-room.ensures.ended in
    (d.written.ok.0 ∙ written ∙ sym read ∙ sym d.read.ok.0, d.called.putters.ok.0 ∙ putters ∙ sym read ∙ sym d.read.ok.0)

pub give_back-requires-clause-inbox : goal.give_back-requires-clause-inbox
give_back-requires-clause-inbox g c =
    let d = c.in_ok-room.done in
    same_queues g.I.Read.remaining g.O.Write.contents g.G.Gate.refused c.args.controller c.args.alloc c.args.limit c.args.links.items d.read.items d.written.items d.called.desk d.called.putters.items
    c.in_ok-room.ensures.ended

pub give_back-requires-clause-outboxes : goal.give_back-requires-clause-outboxes
give_back-requires-clause-outboxes g c =
    let d = c.in_ok-room.done in
    same_outboxes g.I.Read.remaining g.O.Write.contents g.G.Gate.refused c.args.controller c.args.alloc c.args.limit c.args.links.items d.read.items d.written.items d.called.desk d.called.putters.items
    c.in_ok-room.ensures.ended

pub returns-clause-links : goal.returns-clause-links
returns-clause-links g c =
    let d = c.in_ok-room.done in
    let back = c.give_back.ensures in
    subst (λ (bs : List (Link g.row.I.Denot g.row.O.Denot g.row.G.Denot × Option IoFault)). Relays c.args.controller c.args.limit
    (map (link_view g.I.Read.remaining g.O.Write.contents g.G.Gate.refused) c.args.links.items) (map (ended_view g.I.Read.remaining g.O.Write.contents g.G.Gate.refused) bs)) (sym back.back)
    (relays g.I.Read.remaining g.O.Write.contents g.G.Gate.refused c.args.controller c.args.alloc c.args.limit c.args.links.items d.read.items d.written.items d.called.desk d.called.putters.items
    c.in_ok-room.ensures.ended back.inbox.0 back.outboxes back.inbox.1)

pub returns-clause-octets : goal.returns-clause-octets
returns-clause-octets g c =
    let d = c.in_ok-room.done in
    let back = c.give_back.ensures in
    let before = map (link_view g.I.Read.remaining g.O.Write.contents g.G.Gate.refused) c.args.links.items in
    let view = ended_view g.I.Read.remaining g.O.Write.contents g.G.Gate.refused in
    subst (λ (bs : List (Link g.row.I.Denot g.row.O.Denot g.row.G.Denot × Option IoFault)). PassesOctets c.args.controller before (map view bs)) (sym back.back)
    (octets_pass c.args.controller c.args.limit before (map view (all_given d.read.items d.written.items d.called.putters.items))
    (relays g.I.Read.remaining g.O.Write.contents g.G.Gate.refused c.args.controller c.args.alloc c.args.limit c.args.links.items d.read.items d.written.items d.called.desk d.called.putters.items
    c.in_ok-room.ensures.ended back.inbox.0 back.outboxes back.inbox.1))
