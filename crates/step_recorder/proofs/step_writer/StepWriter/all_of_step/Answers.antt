-- SPDX-License-Identifier: MIT OR Apache-2.0
use Rattle.std.proofs.Common.{◌≡◌, ◌++◌, ap, ◌∙◌, subst, List}
use Rattle.std.specs.Prelude.{OnOk}
use Rattle.std.proofs.lemmas.Result.{on_ok_weaker}
use Rattle.record_steps.specs.Runs.{stamped, step_entry}
use Rattle.run_record.specs.declared.entry.Stamped.{Stamped}
use Rattle.run_record.specs.Record.{behind, moved, records_of}
use Rattle.step_recorder.specs.Writing.{WriterState, put_entries, state_behind}
use Rattle.step_recorder.proofs.Lists.{puts_fused, step_written}
use Rattle.step_recorder.proofs.step_writer.StepWriter.all_of_step.Goals as goal

pub returns-clause-octets : goal.returns-clause-octets
returns-clause-octets c =
    let s = c.args.self.now in
    let puts = c.args.puts.now in
    let first = stamped s.stamp (step_entry c.args.step.now) in
    let mid = c.taken.new.out.items in
    let given : OnOk c.put_all.result (c.put_all.new.out.items ≡ mid ++ records_of (moved s.place first.entry) (put_entries s.stamp puts)) =
    subst (λ (w : WriterState). OnOk c.put_all.result (c.put_all.new.out.items ≡ mid ++ records_of w.place (put_entries w.stamp puts))) c.in_ok-taken.ensures.state c.put_all.ensures.octets in
    on_ok_weaker c.put_all.result (step_written s.place s.stamp first puts c.args.out.now.items mid c.put_all.new.out.items c.in_ok-taken.ensures.octets) given

pub returns-clause-state : goal.returns-clause-state
returns-clause-state c =
    let s = c.args.self.now in
    let puts = c.args.puts.now in
    let first = stamped s.stamp (step_entry c.args.step.now) in
    let given : OnOk c.put_all.result (c.put_all.new.self ≡ state_behind (moved s.place first.entry) s.stamp (put_entries s.stamp puts)) =
    subst (λ (w : WriterState). OnOk c.put_all.result (c.put_all.new.self ≡ record w { place = behind w.place (put_entries w.stamp puts) })) c.in_ok-taken.ensures.state c.put_all.ensures.state in
    on_ok_weaker c.put_all.result (λ is. is ∙ ap (λ (entries : List Stamped). state_behind (moved s.place first.entry) s.stamp entries) (puts_fused s.stamp puts)) given
