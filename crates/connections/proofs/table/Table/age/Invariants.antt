-- SPDX-License-Identifier: MIT OR Apache-2.0
use Rattle.std.proofs.Common.{◌≡◌}
use Rattle.connections.proofs.Settled.{IsAged}
use Rattle.connections.proofs.table.Table.age.Given as goal

abbrev pub invariant-loop-key : goal.invariant-loop-key
invariant-loop-key l = record {
  aged : IsAged l.ms l.key l.initial.self-inside.slots.slots l.self-inside.slots.slots;
  index : l.self-inside.index ≡ l.initial.self-inside.index;
}
