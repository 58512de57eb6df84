-- SPDX-License-Identifier: MIT OR Apache-2.0
use Rattle.std.proofs.Common.{◌≡◌, [], ◌∷◌, ◌++◌, ◌∙◌, rules}
use Rattle.trace_pictures.proofs.Numbering.{none_numbered, number_more, numbers_more}
use Rattle.trace_pictures.proofs.charting.chart_events.Goals as goal

pub loop-event-init : goal.loop-event-init
loop-event-init c = record {
  seen = search rules;
  count = search rules;
  numbers = none_numbered c.new-charted.result.items (search rules);
}

pub loop-event-preserved : goal.loop-event-preserved
loop-event-preserved c =
    let counted = number_more c.loop-event.event-index c.loop-event.number _ c.loop-event.invariant.count c.saturating_add-number.ensures in
    let grown : c.push.new.self.items ≡ c.loop-event.charted.items ++ c.in_ok-drawn.drawn ∷ [] = search rules in
    record {
      seen = c.in_ok-trace.ensures.seen;
      count = counted;
      numbers = numbers_more c.loop-event.event-index c.in_ok-drawn.drawn c.loop-event.charted.items c.push.new.self.items
          c.loop-event.invariant.numbers (c.in_ok-drawn.ensures.number ∙ counted) grown;
    }
