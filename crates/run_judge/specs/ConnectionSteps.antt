-- SPDX-License-Identifier: MIT OR Apache-2.0
-- How a frame changes its connection.
use Rattle.std.specs.Prelude.{ℕ}
use Rattle.run_judge.specs.declared.connection.Told.{Told}
use Rattle.run_judge.specs.declared.connection.Told.TheVariants as tells
use Rattle.run_judge.specs.Connection.{brought, cleared, commanded, completed, failed, handed}
use Rattle.run_judge.specs.Connection.{managed, passed_up, rejected_down, released, sent_down}
use Rattle.run_judge.specs.Connection.{unjudged_from}
use Rattle.run_judge.specs.ConnectionState.{ConnectionState}

-- The connection after what the frame tells, if taking that needs no allocation; else unchanged.
abbrev pub noted_by : ℕ → Told → ConnectionState → ConnectionState
noted_by frame (tells.Failed at change) c = failed at change c
noted_by frame (tells.Released at) c = released at c
noted_by frame (tells.Commanded to change) c = commanded to change c
noted_by frame tells.RejectedDown c = rejected_down frame c
noted_by frame tells.Cleared c = cleared frame c
noted_by frame tells.Managed c = managed frame c
noted_by frame (tells.Unjudged reason) c = unjudged_from reason frame c
noted_by frame told c = c

-- The connection after what the frame of this number tells; N(SD) is modulo m.
abbrev pub made_by : ℕ → ℕ → Told → ConnectionState → ConnectionState
made_by m frame (tells.Brought at sapi message) c = brought at sapi message frame c
made_by m frame (tells.Completed at change) c = completed at change c
made_by m frame (tells.Handed at sapi message) c = handed at sapi message frame c
made_by m frame (tells.PassedUp sapi message) c = passed_up m sapi message frame c
made_by m frame (tells.SentDown sapi message) c = sent_down sapi message frame c
made_by m frame told c = noted_by frame told c
