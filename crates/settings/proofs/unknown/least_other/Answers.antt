-- SPDX-License-Identifier: MIT OR Apache-2.0
use Rattle.std.proofs.Common.{option_map, string_bytes, ap, ◌∙◌}
use Rattle.settings.proofs.Least.{least_first}
use Rattle.settings.proofs.unknown.least_other.Goals as goal

pub returns : goal.returns
returns c = ap (option_map string_bytes) c.first_other.ensures.first ∙ least_first c.args.known.now c.args.table.now.entries c.first_other.ensures.ordered
