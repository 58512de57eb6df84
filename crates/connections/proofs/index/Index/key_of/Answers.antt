-- SPDX-License-Identifier: MIT OR Apache-2.0
use Rattle.std.proofs.Common.{◌==◌, ap, ◌∙◌}
use Rattle.std.specs.Map.{lookup}
use Rattle.connections.specs.Index.{IndexState}
use Rattle.connections.proofs.index.Index.key_of.Goals as goal

pub returns : goal.returns
returns c =
    c.copied.ensures ∙ c.get.ensures.value ∙ c.self.invariant.1 c.args.number
    ∙ ap (λ (i : IndexState). lookup (λ k. c.args.number == k) i.entries) c.self.view_is
