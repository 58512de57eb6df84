-- SPDX-License-Identifier: MIT OR Apache-2.0
-- An entry of another frequency doesn't name the cell, and one of this frequency has no greater level.
use Rattle.std.proofs.Common.{◌<◌, ℕ, Option, get_or, sym, subst, arith}
use Rattle.std.proofs.lemmas.Bool.{leb-false}
use Rattle.dtap_codec.specs.declared.report.Report.{Report}
use Rattle.ho_decision.specs.Measure.{level_at}
use Rattle.ho_decision.proofs.TooWeak.{level_within}
use Rattle.ho_decision.proofs.heard.Heard.has_level.Goals as goal

pub returns-else-place-ge-NUMBERS : goal.returns-else-place-ge-NUMBERS
returns-else-place-ge-NUMBERS c =
    λ reports heard weak bsic k d within.
    let r : Report = get_or reports k d in
    subst (λ (o : Option ℕ). level_at o bsic r < c.args.level) (sym c.in-Some.is)
    (let most = level_within c.in-Some.place bsic c.args.self.now.greatest r (heard k d within) in
    omega (arith, most, leb-false c.args.level c.from.result weak, c.from.ensures))
