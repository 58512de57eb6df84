-- SPDX-License-Identifier: MIT OR Apache-2.0
use Rattle.program_io.proofs.Lists.{all_of}
use Rattle.program_base.proofs.Scripts.{no_feed, reads_all, reads_more, reads_none, refuses_at}
use Rattle.program_io.proofs.Ends.{said_of}
use Rattle.std.proofs.Common.{◌≡◌, ◌++◌, refl, rules}
use Rattle.program_base.proofs.whole_script.ScriptSink.take.Goals as goal

pub loop-end-init : goal.loop-end-init
loop-end-init c = reads_none c.args.self.now c.args.piece.now

pub loop-end-preserved : goal.loop-end-preserved
loop-end-preserved c =
    reads_more c.args.self.now c.loop-end.self c.end_line.new.self c.args.piece.now c.loop-end.rest.now _ c.in-Some.end c.loop-end.invariant c.in-Some.ensures c.in_ok-end_line.ensures.line c.in_ok-end_line.ensures.started
    (all_of c.loop-end.rest.now _ _ refl)

pub returns-clause-taken : goal.returns-clause-taken
returns-clause-taken c =
    let grown : c.extend_from_slice.new.self.items ≡ c.loop-end.self.started.items ++ c.loop-end.rest.now = search rules in
    reads_all c.args.self.now c.loop-end.self _ c.args.piece.now c.loop-end.rest.now c.loop-end.invariant (no_feed c.loop-end.rest.now c.in_default.ensures) grown refl refl refl

pub returns-in_err-end_line-clause-refused : goal.returns-in_err-end_line-clause-refused
returns-in_err-end_line-clause-refused c =
    said_of c.from_residual.result _ _ c.from_residual.ensures.1
    (λ failure was n is. refuses_at c.args.self.now c.loop-end.self c.args.piece.now c.loop-end.rest.now c.in-Some.end n c.loop-end.invariant c.in-Some.ensures (c.in_err-end_line.ensures.bad n (cc (was, is))))
