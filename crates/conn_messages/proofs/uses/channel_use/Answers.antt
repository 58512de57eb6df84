-- SPDX-License-Identifier: MIT OR Apache-2.0
use Rattle.std.proofs.Common.{◌∙◌, ap}
use Rattle.conn_messages.specs.UseOctets as words
use Rattle.conn_messages.proofs.UseReadings.{is_use_by}
use Rattle.conn_messages.proofs.uses.channel_use.Goals as goal

pub returns : goal.returns
returns c = record {
  octets = c.use_in.ensures ∙ ap (words.use_in c.args.out.now.to c.args.out.now.frame.stream) c.as_slice.ensures;
  message = λ number message lawful is.
      c.use_in.ensures ∙ ap (words.use_in c.args.out.now.to c.args.out.now.frame.stream) c.as_slice.ensures ∙ ap words.use_of is ∙ is_use_by number message lawful;
}
