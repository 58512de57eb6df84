-- SPDX-License-Identifier: MIT OR Apache-2.0
use Rattle.std.proofs.Common.{◌≡◌, ◌<◌, ◌∙◌, Some, ap, arith, length, slice_get, sym, take}
use Rattle.std.proofs.lemmas.Option.{slice_get-get_or}
use Rattle.frame_pictures.specs.Capture.{capture_of}
use Rattle.frame_pictures.specs.NextNumbers.{AreNext}
use Rattle.frame_pictures.proofs.Recording.{place_more, record_is, record_more}
use Rattle.frame_pictures.proofs.capture_file.capture.Goals as goal

pub loop-frame-preserved : goal.loop-frame-preserved
loop-frame-preserved c =
    let frames = c.args.frames.now in
    let place = c.loop-frame.frame-index in
    let this = c.frame-item.result in
    let before = take place frames in
    let within : place < length frames = omega (arith, c.loop-frame-test.true) in
    let got : slice_get frames place ≡ Some this = slice_get-get_or frames place this within ∙ ap Some (sym c.frame-item.is) in
    let kept : AreNext before c.as_slice.result.now = rw c.as_slice.ensures.value c.loop-frame.invariant.numbers in
    record {
      carries_on = record_more frames place this c.loop-frame.file.items c.write_record.new.file.items (capture_of frames) got c.loop-frame.invariant.carries_on
          (record_is before this c.as_slice.result.now c.loop-frame.file.items c.write_record.new.file.items kept c.in_ok-write_record.ensures);
      numbers = place_more frames place this c.loop-frame.numbers.items c.count.new.numbers.items got c.loop-frame.invariant.numbers c.in_ok-count.ensures;
    }
