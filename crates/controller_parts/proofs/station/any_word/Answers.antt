-- SPDX-License-Identifier: MIT OR Apache-2.0
use Rattle.controller_parts.proofs.Words.{station_carried, station_comes}
use Rattle.controller_parts.proofs.station.any_word.Goals as goal

pub returns-in-Ok-clause-carried : goal.returns-in-Ok-clause-carried
returns-in-Ok-clause-carried c = station_carried c.args.station c.args.body.now _ _ c.requires c.in-Ok.ensures.found c.rsl_word.ensures.word

pub returns-in-Ok-clause-comes : goal.returns-in-Ok-clause-comes
returns-in-Ok-clause-comes c = station_comes c.args.station c.args.body.now _ _ c.requires c.in-Ok.ensures.found c.rsl_word.ensures.word
