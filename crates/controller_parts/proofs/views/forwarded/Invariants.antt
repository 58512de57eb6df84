-- SPDX-License-Identifier: MIT OR Apache-2.0
use Rattle.std.proofs.Common.{◌≡◌, ◌++◌, drop}
use Rattle.controller_model.specs.Views as views
use Rattle.controller_parts.proofs.views.forwarded.Given as goal

abbrev pub invariant-loop-out : goal.invariant-loop-out
invariant-loop-out l = l.list.items ++ views.forwarded (drop l.out-index l.out-items) l.conn ≡ views.forwarded l.out-items l.conn
