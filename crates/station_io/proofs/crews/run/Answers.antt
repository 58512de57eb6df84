-- SPDX-License-Identifier: MIT OR Apache-2.0
use Rattle.std.proofs.Common.{◌≡◌, List, ◌++◌, ◌∙◌, ap, subst}
use Rattle.station_io.specs.declared.work.Reading.{Reading}
use Rattle.station_io.specs.declared.work.Writing.{Writing}
use Rattle.station_io.specs.Done.{AreRead, AreWritten}
use Rattle.station_io.proofs.Calling.{called}
use Rattle.station_io.proofs.crews.run.Goals as goal

pub returns-in-Some-clause-read : goal.returns-in-Some-clause-read
returns-in-Some-clause-read g c =
    let works = c.args.works.readings.items in
    subst (λ (ws : List (Reading g.row.I.Denot g.row.G.Denot)). AreRead g.I.Read.remaining g.G.Gate.refused ws c.in-Some.done.read.items)
    (c.in-Ok.ensures.readers ∙ ap (λ (l : List (Reading g.row.I.Denot g.row.G.Denot)). l ++ works) c.requires.crews.0) c.in-Some.ensures.read

pub returns-in-Some-clause-written : goal.returns-in-Some-clause-written
returns-in-Some-clause-written g c =
    let works = c.args.works.writings.items in
    subst (λ (ws : List (Writing g.row.O.Denot)). AreWritten g.O.Write.contents ws c.in-Some.done.written.items)
    (c.in-Ok.ensures.writers ∙ ap (λ (l : List (Writing g.row.O.Denot)). l ++ works) c.requires.crews.1) c.in-Some.ensures.written

pub returns-in-Some-clause-called : goal.returns-in-Some-clause-called
returns-in-Some-clause-called g c =
    let calling = c.args.works.calling in
    called calling c.work-called.result c.in-Some.done.called c.in-Some.ensures.called c.work-called.ensures
