-- SPDX-License-Identifier: MIT OR Apache-2.0
-- The definitions of `run_judge` under their own names again, so that proofs can leave them folded.
use Rattle.std.specs.Prelude.{ℕ, Bool, List, Option}
use Rattle.run_judge.specs.declared.apart.Pair.{Pair}
use Rattle.run_judge.specs.declared.said.Said.{Said}
use Rattle.run_judge.specs.declared.said.StationChannel.{StationChannel}
use Rattle.run_judge.specs.Apart as apart
use Rattle.run_judge.specs.ConnectionState.{ConnectionState}
use Rattle.run_judge.specs.Judging as judging
use Rattle.run_judge.specs.Judging.{Judging}

unfoldable pub after : ℕ → Said → Judging → Judging
after frame said j = judging.after frame said j

unfoldable pub ended_by : Said → Judging → Option ConnectionState
ended_by said j = judging.ended_by said j

unfoldable pub after_hole : ℕ → Judging → Judging
after_hole frame j = judging.after_hole frame j

unfoldable pub beginnings : ℕ → List ℕ → Judging → Option Pair
beginnings source message j = apart.beginnings source message j

unfoldable pub begun_apart : Pair → ℕ → ℕ → Judging → Judging
begun_apart pair source frame j = apart.begun_apart pair.one pair.other source frame j

unfoldable pub waits_on : StationChannel → List ℕ → Judging → Bool
waits_on at message j = apart.waits_on at message j

unfoldable pub gives_again : Said → Judging → Bool
gives_again said j = apart.gives_again said j
