-- SPDX-License-Identifier: MIT OR Apache-2.0
use Rattle.std.proofs.Common.{sym, ◌∙◌}
use Rattle.world_ends.proofs.Activating.{by_body}
use Rattle.world_ends.proofs.activations.activated_channel.Goals as goal

pub returns : goal.returns
returns c = c.channel_by_elements.ensures ∙ by_body c.args.body.now (sym c.breaks_off.ensures ∙ c.if-breaks_off.false)
