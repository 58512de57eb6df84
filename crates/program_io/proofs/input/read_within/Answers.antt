-- SPDX-License-Identifier: MIT OR Apache-2.0
use Rattle.std.proofs.Common.{rules, subst, sym}
use Rattle.program_io.proofs.Feeding.{TakesSome, refuses_more, takes_kept, takes_more}
use Rattle.program_io.proofs.input.read_within.Goals.{in-Ok+in_default, in-Err}
use Rattle.program_io.proofs.input.read_within.Goals as goal

pub returns-in-Err-take : goal.returns-in-Err-take
returns-in-Err-take g c =
    refuses_more g.S.Sink.takes g.S.Sink.refuses g.met.S.Sink.refuses_later (g.R.Read.remaining c.args.input.now) (g.R.Read.remaining c.loop.input) (g.R.Read.remaining c.read.new.input)
    c.args.sink.now c.loop.sink c.take.new.self _ c.in-Err-take.fault c.loop.invariant.1 c.in-Ok.ensures.octets.0 c.in-Err-take.ensures.refused

pub loop-preserved : goal.loop-preserved
loop-preserved g c =
    let start = g.R.Read.remaining c.args.input.now in
    let now = g.R.Read.remaining c.loop.input in
    let later = g.R.Read.remaining c.read.new.input in
    let some : TakesSome g.S.Sink.takes start later c.args.sink.now c.match-read.sink =
    elim c.match-read.branch [
      | in-Ok+in_default w ↦
          subst (TakesSome g.S.Sink.takes start later c.args.sink.now) (sym w.sink-is)
          (takes_more g.S.Sink.takes g.met.S.Sink.takes_both start now later c.args.sink.now c.loop.sink w.take.new.self _ c.loop.invariant.1 w.in-Ok.ensures.octets.0 w.in_default.ensures.taken)
      | in-Err w ↦
          subst (TakesSome g.S.Sink.takes start later c.args.sink.now) (sym w.sink-is)
          (takes_kept g.S.Sink.takes start now later c.args.sink.now c.loop.sink c.loop.invariant.1 w.in-Err.ensures.octets)
    ]
    in
    (search rules, some, search rules)
