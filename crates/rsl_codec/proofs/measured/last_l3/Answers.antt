-- SPDX-License-Identifier: MIT OR Apache-2.0
use Rattle.std.proofs.Common.{refl}
use Rattle.rsl_codec.proofs.WrittenOrder.{last_is}
use Rattle.rsl_codec.proofs.AnswersInOrder.{begins_or_stops, stops_after}
use Rattle.rsl_codec.proofs.measured.last_l3.Goals.{in_default-via-in-Some+else-stops, in_default-via-in-None+else-stops-2}
use Rattle.rsl_codec.proofs.measured.last_l3.Goals as goal

pub returns-in-Some-clause-are : goal.returns-in-Some-clause-are
returns-in-Some-clause-are c = last_is _ _ _ c.in-Some.ensures.is c.in-Some.ensures.size (c.if-stops.ensures.0 refl)

pub returns-in_default-clause-answers : goal.returns-in_default-clause-answers
returns-in_default-clause-answers c = λ l3 are.
    elim c.in_default.branch [
      | in_default-via-in-Some+else-stops w ↦ stops_after _ _ _ w.in-Some.ensures.is l3 are w.if-stops.ensures.1
      | in_default-via-in-None+else-stops-2 w ↦ begins_or_stops _ w.in-None.ensures.answers l3 are w.if-stops-2.ensures.1
    ]
