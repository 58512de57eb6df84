-- SPDX-License-Identifier: MIT OR Apache-2.0
use Rattle.std.proofs.Common.{subst, sym}
use Rattle.link_workers.specs.Reading.{PutsDown, Serves}
use Rattle.link_workers.proofs.Letting.{all_after}
use Rattle.link_workers.proofs.Reading.{is_reported, serves}
use Rattle.link_workers.proofs.reader.serve_link_reader.Goals as goal

pub returns-clause-serves : goal.returns-clause-serves
returns-clause-serves g c =
    let before = g.G.Gate.refused c.put_all.new.gated.gate in
    let after = g.G.Gate.refused c.put_down-fault.new.gated.gate in
    let down = subst (λ limit. PutsDown limit before after c.put_all.new.gated.pass c.put_down-fault.new.gated.pass c.fault_of-fault.result c.put_down-fault.result) c.put_all.ensures.same c.put_down-fault.ensures.puts in
    subst (λ end. Serves (g.I.Read.remaining c.args.reader) end c.args.limit (g.G.Gate.refused c.args.gate) after c.args.pass c.put_down-fault.new.gated.pass c.put_down-fault.result) (sym c.tell.ensures.same)
    (serves _ _ c.args.limit _ _ _ c.args.pass c.put_all.new.gated.pass c.put_down-fault.new.gated.pass c.put_all.result c.fault_of-fault.result c.put_down-fault.result c.put_all.ensures.puts c.fault_of-fault.ensures down)

pub returns-clause-told : goal.returns-clause-told
returns-clause-told g c =
    is_reported _ _ _ c.put_all.new.gated.pass c.put_down-fault.new.gated.pass c.fault_of-fault.result c.put_down-fault.result (g.I.LinkReader.told c.tell.new.reader) c.tell.ensures.told c.put_down-fault.ensures.puts

pub returns-clause-asked : goal.returns-clause-asked
returns-clause-asked g c = all_after c.put_down-fault.result _ _ _ c.args.pass c.put_all.new.gated.pass c.put_down-fault.new.gated.pass c.put_all.ensures.each c.put_down-fault.ensures.asked
