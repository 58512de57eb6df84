-- SPDX-License-Identifier: MIT OR Apache-2.0
use Rattle.std.proofs.Common.{◌≡◌, ◌++◌, drop}
use Rattle.frame_pictures.specs.Capture.{file_header}
use Rattle.run_record.specs.Reads.{beginning}
use Rattle.run_record.specs.Record.{behind, records_of}
use Rattle.step_recorder.specs.Writing.{head_entries, later}
use Rattle.step_recorder.proofs.step_writer.StepWriter.begin.Given as goal

-- what is written, with the pieces that are left, is the file's header with all pieces
abbrev pub invariant-loop-piece : goal.invariant-loop-piece
invariant-loop-piece l = record {
  octets : l.out.items ++ records_of l.self.place (head_entries (later l.fn.self.stamp l.fn.now) (drop l.piece-index l.pieces))
      ≡ l.fn.out.items ++ file_header ++ records_of beginning (head_entries (later l.fn.self.stamp l.fn.now) l.pieces);
  place : behind l.self.place (head_entries (later l.fn.self.stamp l.fn.now) (drop l.piece-index l.pieces))
      ≡ behind beginning (head_entries (later l.fn.self.stamp l.fn.now) l.pieces);
  stamp : l.self.stamp ≡ later l.fn.self.stamp l.fn.now;
}
