-- SPDX-License-Identifier: MIT OR Apache-2.0
use Rattle.std.proofs.Common.{◌≡◌, ◌+◌, ◌++◌, drop, ap, ◌∙◌}
use Rattle.conn_messages.specs.declared.out.Out.{Out}
use Rattle.record_steps.specs.Runs.{put_entry}
use Rattle.run_record.specs.declared.entry.Stamp.{Stamp}
use Rattle.run_record.specs.declared.place.Place.{Place}
use Rattle.run_record.specs.Record.{behind, moved, record_of, records_of}
use Rattle.step_recorder.specs.Writing.{WriterState, put_entries, put_of}
use Rattle.step_recorder.proofs.Lists.{octets_more, place_more}
use Rattle.step_recorder.proofs.step_writer.StepWriter.put_all.Goals as goal

pub loop-one-preserved : goal.loop-one-preserved
loop-one-preserved c =
    let stamp = c.args.self.now.stamp in
    let place = c.loop-one.self.place in
    let puts = c.args.puts.now in
    let n = c.loop-one.one-index in
    let x = c.one-item.result in
    let before = c.loop-one.out.items in
    let after = c.put.new.out.items in
    let moves : c.put.new.self.place ≡ moved place (put_entry stamp (put_of x)).entry = ap (λ (w : WriterState). w.place) c.in_ok-put.ensures.state in
    let written : after ≡ before ++ record_of place (put_entry stamp (put_of x)) =
    c.in_ok-put.ensures.octets ∙ ap (λ (s : Stamp). before ++ record_of place (put_entry s (put_of x))) c.loop-one.invariant.stamp in
    record {
      octets = ap (λ (p : Place). after ++ records_of p (put_entries stamp (drop (n + 1) puts))) moves
          ∙ octets_more (λ (out : Out). put_entry stamp (put_of out)) puts n x place before after _ c.loop-one-test.true c.one-item.is c.loop-one.invariant.octets written;
      place = ap (λ (p : Place). behind p (put_entries stamp (drop (n + 1) puts))) moves
          ∙ place_more (λ (out : Out). put_entry stamp (put_of out)) puts n x place _ c.loop-one-test.true c.one-item.is c.loop-one.invariant.place;
      stamp = ap (λ (w : WriterState). w.stamp) c.in_ok-put.ensures.state ∙ c.loop-one.invariant.stamp;
    }
