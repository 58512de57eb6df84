-- SPDX-License-Identifier: MIT OR Apache-2.0
use Rattle.std.proofs.lemmas.Result.{on_ok_weaker}
use Rattle.dtap_codec.specs.Number.{count_of}
use Rattle.trace_program.proofs.Tracing.{event_written}
use Rattle.trace_program.proofs.lines.write_event.Goals as goal

pub returns-clause-text : goal.returns-clause-text
returns-clause-text g c =
    let trace = c.args.trace.now in
    on_ok_weaker c.write_notes.result
    (event_written (count_of c.args.modulus) c.args.number c.args.line.now trace.refusal trace.fate trace.crossings.items trace.made.items
    trace.notes.items c.as_slice-crossings.result.now c.as_slice.result.now c.as_slice-2.result.now (g.W.Write.contents c.args.output.now)
    (g.W.Write.contents c.write_event_line.new.output) (g.W.Write.contents c.write_crossings.new.output)
    (g.W.Write.contents c.write_crossings-2.new.output) (g.W.Write.contents c.write_notes.new.output)
    c.as_slice-crossings.ensures.value c.as_slice.ensures.value c.as_slice-2.ensures.value
    c.in_ok-write_event_line.ensures.text c.in_ok-write_crossings.ensures.text c.in_ok-write_crossings-2.ensures.text)
    c.write_notes.ensures.text
