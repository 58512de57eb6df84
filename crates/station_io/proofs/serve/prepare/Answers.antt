-- SPDX-License-Identifier: MIT OR Apache-2.0
use Rattle.std.proofs.Common.{◌∙◌, subst}
use Rattle.station_io.specs.Work.{AreNewOutboxes, AreNewQueues}
use Rattle.station_io.proofs.serve.prepare.Goals as goal

pub returns-clause-workers : goal.returns-clause-workers
returns-clause-workers g c =
    let links = c.args.links in
    let made = c.in_ok-desk.field-0 in
    let works = c.in_ok-readings in
    let count = c.len-count.ensures ∙ links.ok.0 in record {
      passes = made.passes.items;
      takers = made.takers.items;
      inbox = subst (λ n. AreNewQueues n made.desk made.passes.items) count c.in_ok-desk.ensures.inbox;
      outboxes = subst (λ n. AreNewOutboxes n made.putters.items made.takers.items) count c.in_ok-desk.ensures.outboxes;
      readers = works.ensures.readings;
      writers = works.ensures.writings;
    }
