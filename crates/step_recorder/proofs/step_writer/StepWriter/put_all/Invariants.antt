-- SPDX-License-Identifier: MIT OR Apache-2.0
use Rattle.std.proofs.Common.{◌≡◌, ◌++◌, drop}
use Rattle.run_record.specs.Record.{behind, records_of}
use Rattle.step_recorder.specs.Writing.{put_entries}
use Rattle.step_recorder.proofs.step_writer.StepWriter.put_all.Given as goal

-- what is written, with the frames that are left, is what was there with all frames
abbrev pub invariant-loop-one : goal.invariant-loop-one
invariant-loop-one l = record {
  octets : l.out.items ++ records_of l.self.place (put_entries l.fn.self.stamp (drop l.one-index l.puts))
      ≡ l.fn.out.items ++ records_of l.fn.self.place (put_entries l.fn.self.stamp l.puts);
  place : behind l.self.place (put_entries l.fn.self.stamp (drop l.one-index l.puts)) ≡ behind l.fn.self.place (put_entries l.fn.self.stamp l.puts);
  stamp : l.self.stamp ≡ l.fn.self.stamp;
}
