-- SPDX-License-Identifier: MIT OR Apache-2.0
use Rattle.std.proofs.Common.{Some, None}
use Rattle.link_workers.specs.declared.fault.IoFault.TheVariants.{WriteFailed}
use Rattle.link_workers.proofs.Gathering.{delivers_all, delivers_as, delivers_dropped, delivers_ended, delivers_unflushed, is_false, is_true}
use Rattle.link_workers.proofs.writer.serve_writer.Goals.{in-Ok+in-Ok-flushed, in-Ok+in-Err-flushed, in-Err+then-not-broken, in-Err+else-not-broken}
use Rattle.link_workers.proofs.writer.serve_writer.Goals as goal

pub returns : goal.returns
returns g c =
    let old = g.O.Write.contents c.args.writer in
    let mid = g.O.Write.contents c.write_lines-written.new.writer in
    let new = g.O.Write.contents c.flush-flushed.new.self in
    let taken = c.write_lines-written.new.taker in
    elim c.match-written.branch [
      | in-Ok+in-Ok-flushed w ↦
          delivers_as old new c.args.taker taken c.match-written.taker None c.match-written.fault w.taker-is w.fault-is (delivers_all old mid new c.args.taker taken w.in-Ok.field-0 w.in-Ok.ensures c.flush-flushed.ensures.bytes)
      | in-Ok+in-Err-flushed w ↦
          delivers_as old new c.args.taker taken c.match-written.taker (Some WriteFailed) c.match-written.fault w.taker-is w.fault-is
          (delivers_unflushed old mid new c.args.taker taken w.in-Ok.field-0 w.in-Ok.ensures c.flush-flushed.ensures.bytes)
      | in-Err+then-not-broken w ↦
          delivers_as old new c.args.taker w.drop_lines.new.taker c.match-written.taker (Some w.in-Err.broken.fault) c.match-written.fault w.taker-is w.fault-is
          (delivers_dropped old mid new c.args.taker taken w.drop_lines.new.taker w.in-Err.broken w.in-Err.ensures (is_false w.in-Err.broken.at_end w.if-not-broken.true) c.flush-flushed.ensures.bytes w.drop_lines.ensures)
      | in-Err+else-not-broken w ↦
          delivers_as old new c.args.taker taken c.match-written.taker (Some w.in-Err.broken.fault) c.match-written.fault w.taker-is w.fault-is
          (delivers_ended old mid new c.args.taker taken w.in-Err.broken w.in-Err.ensures (is_true w.in-Err.broken.at_end w.if-not-broken.false) c.flush-flushed.ensures.bytes)
    ]
