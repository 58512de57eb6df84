-- SPDX-License-Identifier: MIT OR Apache-2.0
use Rattle.std.proofs.Common.{◌<◌, ◌≤◌, length, refl, rules}
use Rattle.program_io.proofs.Lists.{all_of}
use Rattle.program_io.proofs.Putting.{at_once_behind}
use Rattle.program_io.proofs.output.put_at_once.Goals as goal

pub returns-in-Ok-2-clause-puts : goal.returns-in-Ok-2-clause-puts
returns-in-Ok-2-clause-puts g c =
    let some : 0 < c.in-Ok.count = search rules in
    let within : c.in-Ok.count ≤ length c.args.octets.now = search rules in
    at_once_behind c.put_behind.result c.in-Ok.count (g.W.Write.contents c.args.output.now) (g.W.Write.contents c.write.new.self)
    (g.W.Write.contents c.put_behind.new.output) c.args.octets.now _ some within (all_of c.args.octets.now c.in-Ok.count _ refl)
    c.in-Ok.ensures.bytes c.put_behind.ensures.ok c.put_behind.ensures.err
