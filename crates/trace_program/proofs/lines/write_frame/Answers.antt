-- SPDX-License-Identifier: MIT OR Apache-2.0
use Rattle.std.proofs.Common.{◌++◌, [], ℕ, Bool, if◌then◌else◌, ap, subst, codes}
use Rattle.std.specs.Io.KnownBytes.{Appends}
use Rattle.std.proofs.lemmas.Result.{on_ok_weaker}
use Rattle.dtap_codec.specs.Number.{count_of}
use Rattle.frame_words.specs.Fields.{fields_text}
use Rattle.frame_words.specs.MessageName.{message_name}
use Rattle.frame_words.specs.Numbered.{number_field, number_in_frame}
use Rattle.hex.specs.Hex.{encode_lower}
use Rattle.trace_program.specs.TraceLines.{fate_text, number_said, passage_text}
use Rattle.trace_program.proofs.Tracing.{frame_written}
use Rattle.trace_program.proofs.lines.write_frame.Goals as goal

pub returns-clause-text : goal.returns-clause-text
returns-clause-text g c =
    let crossing = c.args.crossing.now in
    let m : ℕ = count_of c.args.modulus in
    let written = subst (λ (b : Bool). Appends (g.W.Write.contents c.args.output.now) (g.W.Write.contents c.write_said.new.output)
    (message_name crossing.frame ++ (c.tab_passage-word.result.now ++ fields_text crossing.frame
    ++ (if b then number_field (number_in_frame m crossing.frame) else [])))) c.is_uplink-is_numbered.ensures c.in_ok-write_said.ensures.text in
    on_ok_weaker c.write_digits_line.result
    (frame_written (message_name crossing.frame) (codes "\t" ++ passage_text crossing.passage) c.tab_passage-word.result.now
    (fields_text crossing.frame) (number_said m crossing) (fate_text c.args.fate) c.fate_tab.result.now
    (encode_lower crossing.frame.body) (encode_lower c.as_slice-body.result.now) (g.W.Write.contents c.args.output.now)
    (g.W.Write.contents c.write_said.new.output) (g.W.Write.contents c.write_digits_line.new.output)
    written c.tab_passage-word.ensures c.fate_tab.ensures (ap encode_lower c.as_slice-body.ensures))
    c.write_digits_line.ensures.text
