-- SPDX-License-Identifier: MIT OR Apache-2.0
use Rattle.run_record.proofs.Beginnings.{begins}
use Rattle.run_record.proofs.laws.what_was_cut_is_read_so_far.Goals as goal

pub returns : goal.returns
returns c = begins
