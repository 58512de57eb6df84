-- SPDX-License-Identifier: MIT OR Apache-2.0
use Rattle.std.proofs.Common.{◌≡◌, ◌++◌, drop, take}
use Rattle.frame_pictures.specs.Capture.{capture_of, records_behind}
use Rattle.frame_pictures.specs.NextNumbers.{AreNext}
use Rattle.frame_pictures.proofs.capture_file.capture.Given as goal

-- the octets so far and the records of the remaining frames make the whole file; the numbers are
-- the next ones after the frames so far
abbrev pub invariant-loop-frame : goal.invariant-loop-frame
invariant-loop-frame l = record {
  carries_on : l.file.items ++ records_behind (take l.frame-index l.frames) (drop l.frame-index l.frames) ≡ capture_of l.frames;
  numbers : AreNext (take l.frame-index l.frames) l.numbers.items;
}
