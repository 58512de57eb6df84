-- SPDX-License-Identifier: MIT OR Apache-2.0
-- A connection with its final verdict.
use Rattle.std.specs.Prelude.{None}
use Rattle.judge_orders.specs.declared.judged.Judged.{Judged}
use Rattle.run_judge.specs.ConnectionState.{ConnectionState}

-- a connection for which no orders were tried
abbrev pub alone : ConnectionState → Judged
alone c = record { connection = c; fit = None }
