-- SPDX-License-Identifier: MIT OR Apache-2.0
use Rattle.std.proofs.Common.{◌≡◌, [], rules, sym}
use Rattle.program_base.specs.Decoded.{Begins, Decodes, RefusesWith}
use Rattle.program_base.proofs.Decoding.{begins_among, begins_rest, decodes_all, names_stop, reads_keep, refused_among, stops_first, stops_unread}
use Rattle.program_io.specs.Beginnings.{begins_all}
use Rattle.program_io.proofs.Ends.{error_as}
use Rattle.program_base.specs.declared.decode_command.Stop.TheVariants.{TooLong}
use Rattle.program_base.specs.contracts.decode_command.NamerSink.TheImpl as namer
use Rattle.program_base.proofs.decode_command.print_stream.Goals as goal

pub returns-in_err-read-clause-long : goal.returns-in_err-read-clause-long
returns-in_err-read-clause-long g c = λ is.
    let old = g.W.Write.contents c.new-namer.result.output.now in
    let new = g.W.Write.contents c.read_all-read.new.sink.output.now in
    let sink = namer.ghosts g.row.L g.row.W g.L.FrameLine g.L.FrameLine-dict g.W.Write g.W.Write-dict in
    let name : c.read_all-read.new.sink.output.ghost_name ≡ _ =
    reads_keep sink.takes sink.refuses _ _ _ c.new-namer.result c.read_all-read.new.sink _ _ c.read_all-read.ensures (λ octets takes. takes.0) (λ octets stop refuses. refuses.0) in
    let some = stops_unread g.L.FrameLine.line sink.takes sink.refuses _ _ _ c.new-namer.result c.read_all-read.new.sink old new c.in_err-read.field-0.0 c.in_err-read.ensures
    (λ octets failure takes. names_stop g.L.FrameLine.line c.new-namer.result.framer _ octets failure old new c.new-namer.ensures.framer takes.1)
    (λ octets stop refuses. stops_first g.L.FrameLine.line c.new-namer.result.framer octets stop old new c.new-namer.ensures.framer refuses.1)
    in
    let stop = error_as c.from_residual-in_err-read.result _ TooLong c.from_residual-in_err-read.ensures.1 is in
    let refuses : RefusesWith g.L.FrameLine.line [] (g.R.Read.remaining c.args.input.now) old new = refused_among g.L.FrameLine.line _ _ some.0 _ old new some.1 some.2 (sym stop) in
    let same = c.new-namer.ensures.output in search rules

pub returns-in_err-read-clause-begun : goal.returns-in_err-read-clause-begun
returns-in_err-read-clause-begun g c =
    let old = g.W.Write.contents c.new-namer.result.output.now in
    let new = g.W.Write.contents c.read_all-read.new.sink.output.now in
    let sink = namer.ghosts g.row.L g.row.W g.L.FrameLine g.L.FrameLine-dict g.W.Write g.W.Write-dict in
    let name : c.read_all-read.new.sink.output.ghost_name ≡ _ =
    reads_keep sink.takes sink.refuses _ _ _ c.new-namer.result c.read_all-read.new.sink _ _ c.read_all-read.ensures (λ octets takes. takes.0) (λ octets stop refuses. refuses.0) in
    let some = stops_unread g.L.FrameLine.line sink.takes sink.refuses _ _ _ c.new-namer.result c.read_all-read.new.sink old new c.in_err-read.field-0.0 c.in_err-read.ensures
    (λ octets failure takes. names_stop g.L.FrameLine.line c.new-namer.result.framer _ octets failure old new c.new-namer.ensures.framer takes.1)
    (λ octets stop refuses. stops_first g.L.FrameLine.line c.new-namer.result.framer octets stop old new c.new-namer.ensures.framer refuses.1)
    in
    let begun : Begins g.L.FrameLine.line [] (g.R.Read.remaining c.args.input.now) old new = begins_among g.L.FrameLine.line [] _ _ some.0 _ old new some.1 some.2 in
    let same = c.new-namer.ensures.output in search rules

pub returns-in_err-print_rest-clause-begun : goal.returns-in_err-print_rest-clause-begun
returns-in_err-print_rest-clause-begun g c =
    let old = g.W.Write.contents c.new-namer.result.output.now in
    let new = g.W.Write.contents c.print_rest.new.output in
    let some = c.in_ok-read.ensures in
    let name = some.2.0 in
    let begun : Begins g.L.FrameLine.line [] (g.R.Read.remaining c.args.input.now) old new =
    begins_rest g.L.FrameLine.line [] _ _ some.0 c.new-namer.result.framer _ old _ new c.new-namer.ensures.framer some.1 some.3 some.2.1 c.in_err-print_rest.ensures in
    let same = c.new-namer.ensures.output in search rules

pub returns-clause-printed : goal.returns-clause-printed
returns-clause-printed g c =
    let old = g.W.Write.contents c.new-namer.result.output.now in
    let new = g.W.Write.contents c.print_rest.new.output in
    let some = c.in_ok-read.ensures in
    let name = some.2.0 in
    let decodes : Decodes g.L.FrameLine.line (g.R.Read.remaining c.args.input.now) old new =
    decodes_all g.L.FrameLine.line _ _ some.0 c.new-namer.result.framer _ old _ new c.new-namer.ensures.framer some.1 some.3 some.2.1 c.in_ok-print_rest.ensures in
    let same = c.new-namer.ensures.output in search rules

pub returns-clause-begun : goal.returns-clause-begun
returns-clause-begun g c =
    let old = g.W.Write.contents c.new-namer.result.output.now in
    let new = g.W.Write.contents c.print_rest.new.output in
    let some = c.in_ok-read.ensures in
    let name = some.2.0 in
    let begun : Begins g.L.FrameLine.line [] (g.R.Read.remaining c.args.input.now) old new =
    begins_rest g.L.FrameLine.line [] _ _ some.0 c.new-namer.result.framer _ old _ new c.new-namer.ensures.framer some.1 some.3 some.2.1 (begins_all _ new _ c.in_ok-print_rest.ensures) in
    let same = c.new-namer.ensures.output in search rules
