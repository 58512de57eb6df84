-- SPDX-License-Identifier: MIT OR Apache-2.0
use Rattle.std.proofs.Common.{rules, sym}
use Rattle.std.proofs.lemmas.List.{set_past}
use Rattle.controller_parts.proofs.channels.LinkChannels.set.Goals as goal

pub returns-else-number-lt-CHANNEL_NUMBERS : goal.returns-else-number-lt-CHANNEL_NUMBERS
returns-else-number-lt-CHANNEL_NUMBERS c = sym (set_past c.args.self.now c.args.number c.args.state (search rules))
