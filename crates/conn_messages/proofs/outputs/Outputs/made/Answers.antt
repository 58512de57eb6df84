-- SPDX-License-Identifier: MIT OR Apache-2.0
use Rattle.std.proofs.Common.{◌≡◌, rules, subst, sym, get_or}
use Rattle.conn_messages.specs.Out.{out_of}
use Rattle.conn_messages.specs.OutputsState.{IsSendable}
use Rattle.conn_messages.proofs.Sizes.{out_fits_at}
use Rattle.conn_messages.proofs.outputs.Outputs.made.Goals as goal

pub push-requires : goal.push-requires
push-requires c =
    let messages = c.as_slice-message-items.result.now in
    let here : c.message-item.result ≡ get_or messages c.loop-message.message-index c.message-item.result = search rules in
    let fits = out_fits_at c.args.number messages c.loop-message.message-index c.message-item.result (search rules) c.as_slice-message-items.ensures.sound in
    subst IsSendable (sym c.in_ok-out.ensures) (subst (λ message. IsSendable (out_of c.args.number message)) (sym here) fits)
