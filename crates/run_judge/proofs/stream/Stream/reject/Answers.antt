-- SPDX-License-Identifier: MIT OR Apache-2.0
use Rattle.std.proofs.Common.{List, ap, map, subst, sym, ◌∙◌}
use Rattle.run_judge.specs.declared.flow.Due.{Due}
use Rattle.run_judge.specs.Dues.{NoneAbove}
use Rattle.run_judge.specs.Flow.{optional}
use Rattle.run_judge.proofs.Dues.{above-optional}
use Rattle.run_judge.proofs.stream.Stream.reject.Goals as goal

pub invariant_of-self : goal.invariant_of-self
invariant_of-self c =
    let P : List Due → Type 0 = λ l. NoneAbove c.self.inside.highest l in
    subst P
    (sym (c.make_contiguous.ensures.writes_back c.make_optional.new.due (c.make_optional.auto.due ∙ c.make_contiguous.ensures.len)
    ∙ c.make_optional.ensures ∙ ap (λ l. map optional l) c.make_contiguous.ensures.value))
    (above-optional c.self.inside.highest c.self.inside.due.items c.self.invariant)
