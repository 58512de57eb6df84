-- SPDX-License-Identifier: MIT OR Apache-2.0
use Rattle.std.proofs.Common.{◌≡◌, ◌++◌, codes, rules, subst, ◌∙◌}
use Rattle.std.specs.Prelude.{decimal}
use Rattle.std.specs.Io.KnownBytes.{Appends}
use Rattle.program_io.specs.Beginnings.{begins_none}
use Rattle.program_io.specs.Output.{AppendsBeginning}
use Rattle.program_base.proofs.Decoding.{no_rest, rest_is, rest_text}
use Rattle.program_io.proofs.Putting.{puts_failed}
use Rattle.program_base.proofs.decode_command.print_rest.Goals as goal

pub returns-in_err-line : goal.returns-in_err-line
returns-in_err-line g c = puts_failed c.from_residual.result _ _ _ _ c.from_residual.ensures.1 (begins_none _ _)

pub returns-in_err-put : goal.returns-in_err-put
returns-in_err-put g c =
    let line : c.as_bytes.result.now ≡ codes "rest " ++ decimal c.rest-rest.result ++ codes "\n" = search rules in
    puts_failed c.from_residual-in_err-put.result _ _ _ _ c.from_residual-in_err-put.ensures.1
    (subst (AppendsBeginning (g.W.Write.contents c.args.output.now) (g.W.Write.contents c.put.new.output))
    (line ∙ rest_text c.args.framer.now.octets c.rest-rest.result (rest_is c.args.framer.now.octets c.rest-rest.result c.requires c.rest-rest.ensures) c.if-rest-gt0.true)
    c.in_err-put.ensures)

pub returns-in_ok-put : goal.returns-in_ok-put
returns-in_ok-put g c =
    let line : c.as_bytes.result.now ≡ codes "rest " ++ decimal c.rest-rest.result ++ codes "\n" = search rules in
    subst (Appends (g.W.Write.contents c.args.output.now) (g.W.Write.contents c.put.new.output))
    (line ∙ rest_text c.args.framer.now.octets c.rest-rest.result (rest_is c.args.framer.now.octets c.rest-rest.result c.requires c.rest-rest.ensures) c.if-rest-gt0.true)
    c.in_ok-put.ensures

pub returns-else-rest-gt0 : goal.returns-else-rest-gt0
returns-else-rest-gt0 g c =
    no_rest c.args.framer.now.octets c.rest-rest.result (g.W.Write.contents c.args.output.now) (rest_is c.args.framer.now.octets c.rest-rest.result c.requires c.rest-rest.ensures) c.if-rest-gt0.false
