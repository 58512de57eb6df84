-- SPDX-License-Identifier: MIT OR Apache-2.0
use Rattle.std.proofs.Common.{sym, subst}
use Rattle.std.specs.Option.{ForSome, option_copied}
use Rattle.connections.specs.Entries.{IsKept}
use Rattle.connections.proofs.Rising.{find_kept}
use Rattle.connections.proofs.connections.Connections.get.Goals as goal

pub returns-clause-kept : goal.returns-clause-kept
returns-clause-kept c =
    subst (λ v. ForSome (option_copied c.get.result) (IsKept v.settings)) c.self.view_is
    (subst (λ o. ForSome o (IsKept c.self.inside.cells)) (sym c.get.ensures) (find_kept c.self.inside.cells c.args.number c.self.inside.table c.self.invariant))
