-- SPDX-License-Identifier: MIT OR Apache-2.0
-- What the controller did by one order, and which of the two orders the report takes.
use Rattle.std.specs.Prelude.{◌&&◌, Bool, true, false, if◌then◌else◌}
use Rattle.std.specs.Option.{is_some}
use Rattle.run_judge.specs.ConnectionState.{ConnectionState}
use Rattle.run_judge.specs.Flow.{is_in_order}
use Rattle.judge_orders.specs.declared.finding.Finding.{Finding}
use Rattle.judge_orders.specs.declared.finding.Finding.TheVariants.{Faulty, InOrder, NotJudged}
use Rattle.judge_orders.specs.declared.judged.Fit.{Fit}
use Rattle.judge_orders.specs.declared.judged.Fit.TheVariants.{Both, Neither, One}

abbrev pub keeps_order : ConnectionState → Bool
keeps_order c =
    is_in_order c.up.zero.order && (is_in_order c.up.three.order
    && (is_in_order c.down.zero.order && is_in_order c.down.three.order))

abbrev pub finding_of : ConnectionState → Finding
finding_of c =
    if keeps_order c then (if is_some c.unjudged then NotJudged else InOrder) else Faulty

-- The finding of two connections: the worse of their two findings.
abbrev pub worse : Finding → Finding → Finding
worse Faulty other = Faulty
worse NotJudged Faulty = Faulty
worse NotJudged other = NotJudged
worse InOrder other = other

-- The orders that fit.
abbrev pub fit_of : Finding → Finding → Fit
fit_of Faulty Faulty = Neither
fit_of Faulty second = One
fit_of first Faulty = One
fit_of first second = Both

-- Whether the report takes the second order. This is so in two cases: only by the first order the
-- controller did something wrong; or it did nothing wrong by either order, and only the second
-- order has a part that isn't judged.
abbrev pub takes_second : Finding → Finding → Bool
takes_second Faulty Faulty = false
takes_second Faulty second = true
takes_second InOrder NotJudged = true
takes_second first second = false
