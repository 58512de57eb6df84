-- SPDX-License-Identifier: MIT OR Apache-2.0
use Rattle.std.proofs.Common.{◌≡◌, sym, ◌∙◌}
use Rattle.program_io.proofs.Putting.{puts_rest}
use Rattle.program_io.proofs.output.put_joined.Goals.{in_default-via-in_default, in_default-via-in-Ok+else-taken-octets}
use Rattle.program_io.proofs.output.put_joined.Goals as goal

pub returns-in_default : goal.returns-in_default
returns-in_default g c =
    let is : c.in_default.first ≡ c.write-first.result = elim c.in_default.branch [
      | in_default-via-in-Ok+else-taken-octets w ↦ w.first-is ∙ sym w.in-Ok.is
      | in_default-via-in_default w ↦ w.first-is
    ] in
    puts_rest c.write-first.result c.in_default.first c.put_parts.result (g.W.Write.contents c.args.output.now)
    (g.W.Write.contents c.write-first.new.self) (g.W.Write.contents c.put_parts.new.output) c.args.octets.now is c.write-first.ensures.bytes
    c.put_parts.ensures.ok c.put_parts.ensures.err
