-- SPDX-License-Identifier: MIT OR Apache-2.0
use Rattle.std.proofs.Common.{codes}
use Rattle.program_io.specs.Beginnings.{begins_all}
use Rattle.program_base.proofs.Decoding.{begins_before, begins_flushed, begins_last}
use Rattle.program_base.proofs.decode_command.print_all.Goals as goal

pub returns-in_err-put-in-Err-TooLong-clause-begun : goal.returns-in_err-put-in-Err-TooLong-clause-begun
returns-in_err-put-in-Err-TooLong-clause-begun g c = begins_last g.L.FrameLine.line _ _ _ _ _ (c.in-Err-TooLong.ensures.long (cc c.in-Err-TooLong.field-0-is)) c.in_err-put-in-Err-TooLong.ensures

pub returns-in_err-flush-in-Err-TooLong-clause-begun : goal.returns-in_err-flush-in-Err-TooLong-clause-begun
returns-in_err-flush-in-Err-TooLong-clause-begun g c =
    begins_flushed g.L.FrameLine.line _ _ _ _ _ (begins_last g.L.FrameLine.line (codes "fault F1\n") _ _ _ _ (c.in-Err-TooLong.ensures.long (cc c.in-Err-TooLong.field-0-is)) (begins_all _ _ _ c.in_ok-put-in-Err-TooLong.ensures)) c.in_err-flush-in-Err-TooLong.ensures.bytes

pub returns-in_err-flush-in_default-clause-begun : goal.returns-in_err-flush-in_default-clause-begun
returns-in_err-flush-in_default-clause-begun g c = begins_before g.L.FrameLine.line _ _ _ _ _ c.print_stream.ensures.begun c.in_err-flush-in_default.ensures.bytes

pub returns-in_ok-flush-in-Err-TooLong-clause-begun : goal.returns-in_ok-flush-in-Err-TooLong-clause-begun
returns-in_ok-flush-in-Err-TooLong-clause-begun g c =
    begins_flushed g.L.FrameLine.line _ _ _ _ _ (begins_last g.L.FrameLine.line (codes "fault F1\n") _ _ _ _ (c.in-Err-TooLong.ensures.long (cc c.in-Err-TooLong.field-0-is)) (begins_all _ _ _ c.in_ok-put-in-Err-TooLong.ensures)) c.in_ok-flush-in-Err-TooLong.ensures.bytes

pub returns-in_ok-flush-in_default-clause-begun : goal.returns-in_ok-flush-in_default-clause-begun
returns-in_ok-flush-in_default-clause-begun g c = begins_before g.L.FrameLine.line _ _ _ _ _ c.print_stream.ensures.begun c.in_ok-flush-in_default.ensures.bytes
