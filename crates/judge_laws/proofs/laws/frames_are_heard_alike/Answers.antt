-- SPDX-License-Identifier: MIT OR Apache-2.0
use Rattle.judge_laws.proofs.Hears.{station_matches, switch_matches}
use Rattle.judge_laws.proofs.laws.frames_are_heard_alike.Goals as goal

pub returns-clause-station : goal.returns-clause-station
returns-clause-station c = station_matches

pub returns-clause-switch : goal.returns-clause-switch
returns-clause-switch c = switch_matches
