-- SPDX-License-Identifier: MIT OR Apache-2.0
use Rattle.settings.proofs.Turns.{EachChannel}
use Rattle.settings.proofs.channels.copy_channels.Given as goal

abbrev pub invariant-loop-value : goal.invariant-loop-value
invariant-loop-value l = EachChannel l.values l.value-index l.channels.items
