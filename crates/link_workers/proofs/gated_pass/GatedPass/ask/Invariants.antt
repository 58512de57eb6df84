-- SPDX-License-Identifier: MIT OR Apache-2.0
use Rattle.std.proofs.Common.{◌≡◌, ◌+◌}
use Rattle.link_workers.specs.Gates.{HasLet}
use Rattle.link_workers.proofs.gated_pass.GatedPass.ask.Given as goal

-- Each turn so far was a refusal.
abbrev pub invariant-loop : goal.invariant-loop
invariant-loop g l =
    (l.self.pass ≡ l.initial.self.pass) × (l.self.limit ≡ l.initial.self.limit) × (l.end ≡ l.initial.self.limit)
    × (g.G.Gate.refused l.self.gate ≡ g.G.Gate.refused l.initial.self.gate + l.counter)
    × HasLet (g.G.Gate.passed l.initial.self.gate) (g.G.Gate.passed l.self.gate) 0
