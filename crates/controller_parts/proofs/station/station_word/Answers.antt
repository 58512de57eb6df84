-- SPDX-License-Identifier: MIT OR Apache-2.0
use Rattle.controller_parts.proofs.Words.{measured_carried, measured_comes, measured_is}
use Rattle.controller_parts.proofs.station.station_word.Goals as goal

pub returns-in-Some-clause-word : goal.returns-in-Some-clause-word
returns-in-Some-clause-word c = measured_is c.args.station _ _ _ _ _ c.in-Some.ensures.reads c.measured_word.ensures.word

pub returns-in-Some-clause-carried : goal.returns-in-Some-clause-carried
returns-in-Some-clause-carried c = measured_carried c.args.station _ _ _ _ c.requires c.measured_word.ensures.word

pub returns-in-Some-clause-comes : goal.returns-in-Some-clause-comes
returns-in-Some-clause-comes c = measured_comes c.args.station _ _ _ _ c.requires c.measured_word.ensures.word
