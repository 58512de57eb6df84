-- SPDX-License-Identifier: MIT OR Apache-2.0
use Rattle.std.proofs.Common.{ap, sym, ◌∙◌}
use Rattle.run_record.specs.Reading.{first_difference}
use Rattle.run_record.proofs.Judged.{judged_other, judged_same, ne_differ, ne_same}
use Rattle.run_record.proofs.record_reader.RecordReader.judge.Goals as goal

pub returns-then-ne-clause-next : goal.returns-then-ne-clause-next
returns-then-ne-clause-next c =
    let octets = c.args.octets.now in
    let shown = c.as_slice.result.now in
    judged_other c.args.self.now.writer.place octets c.new-written.result.items c.entry.new.out.items shown
    c.in_ok-seen.seen c.first_difference-at.result c.in_ok-seen.ensures c.new-written.ensures.items c.in_ok-entry.ensures.octets
    c.as_slice.ensures.value (ne_differ octets shown c.ne.result c.ne.ensures c.if-ne.true)
    (c.first_difference-at.ensures ∙ ap (first_difference octets) (c.as_slice-then-ne.ensures.value ∙ sym c.as_slice.ensures.value))

pub returns-clause-next : goal.returns-clause-next
returns-clause-next c =
    let octets = c.args.octets.now in
    let shown = c.as_slice.result.now in
    judged_same c.args.self.now.writer.place octets c.new-written.result.items c.entry.new.out.items shown
    c.in_ok-seen.seen c.in_ok-seen.ensures c.new-written.ensures.items c.in_ok-entry.ensures.octets
    c.as_slice.ensures.value (ne_same octets shown c.ne.result c.ne.ensures c.if-ne.false)
