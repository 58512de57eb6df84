-- SPDX-License-Identifier: MIT OR Apache-2.0
use Rattle.world_model.proofs.Living.{FollowsTable-new, RunsByTable-new}
use Rattle.world_model.proofs.laws.controller_lives_by_its_table.Goals as goal

pub returns-clause-lives : goal.returns-clause-lives
returns-clause-lives c = FollowsTable-new

pub returns-clause-runs : goal.returns-clause-runs
returns-clause-runs c = RunsByTable-new
