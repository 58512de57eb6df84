-- SPDX-License-Identifier: MIT OR Apache-2.0
use Rattle.std.proofs.Common.{◌≡◌, ℕ, ◌+◌, List, ◌++◌, drop, ap, ◌∙◌}
use Rattle.record_steps.specs.Runs.{stamped}
use Rattle.run_record.specs.declared.entry.Entry.TheVariants.{Head}
use Rattle.run_record.specs.declared.entry.Stamp.{Stamp}
use Rattle.run_record.specs.declared.place.Place.{Place}
use Rattle.run_record.specs.Record.{behind, moved, record_of, records_of}
use Rattle.step_recorder.specs.Writing.{WriterState, head_entries, later}
use Rattle.step_recorder.proofs.Lists.{octets_more, place_more}
use Rattle.step_recorder.proofs.step_writer.StepWriter.begin.Goals as goal

pub loop-piece-preserved : goal.loop-piece-preserved
loop-piece-preserved c =
    let stamp = later c.args.self.now.stamp c.args.now in
    let place = c.loop-piece.self.place in
    let pieces = c.args.pieces.now in
    let n = c.loop-piece.piece-index in
    let x = c.piece-item.result in
    let before = c.loop-piece.out.items in
    let after = c.head.new.out.items in
    let moves : c.head.new.self.place ≡ moved place (Head x) = ap (λ (w : WriterState). w.place) c.in_ok-head.ensures.state in
    let written : after ≡ before ++ record_of place (stamped stamp (Head x)) =
    c.in_ok-head.ensures.octets ∙ ap (λ (s : Stamp). before ++ record_of place (stamped s (Head x))) c.loop-piece.invariant.stamp in
    record {
      octets = ap (λ (p : Place). after ++ records_of p (head_entries stamp (drop (n + 1) pieces))) moves
          ∙ octets_more (λ (piece : List ℕ). stamped stamp (Head piece)) pieces n x place before after _ c.loop-piece-test.true c.piece-item.is c.loop-piece.invariant.octets written;
      place = ap (λ (p : Place). behind p (head_entries stamp (drop (n + 1) pieces))) moves
          ∙ place_more (λ (piece : List ℕ). stamped stamp (Head piece)) pieces n x place _ c.loop-piece-test.true c.piece-item.is c.loop-piece.invariant.place;
      stamp = ap (λ (w : WriterState). w.stamp) c.in_ok-head.ensures.state ∙ c.loop-piece.invariant.stamp;
    }
