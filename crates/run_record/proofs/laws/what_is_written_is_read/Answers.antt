-- SPDX-License-Identifier: MIT OR Apache-2.0
use Rattle.run_record.proofs.Written.{file_is_read}
use Rattle.run_record.proofs.laws.what_is_written_is_read.Goals as goal

pub returns : goal.returns
returns c = file_is_read
