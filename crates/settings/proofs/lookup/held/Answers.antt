-- SPDX-License-Identifier: MIT OR Apache-2.0
-- A look-up by the key's name.
use Rattle.toml.proofs.Views.{table_get}
use Rattle.settings.proofs.lookup.held.Goals as goal

pub returns : goal.returns
returns c = rw (← c.name.ensures) (table_get c.get.result c.name.result.now c.args.table.now.entries c.get.ensures.value)
