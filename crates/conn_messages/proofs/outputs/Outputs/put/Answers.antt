-- SPDX-License-Identifier: MIT OR Apache-2.0
use Rattle.std.proofs.Common.{subst, sym}
use Rattle.conn_messages.specs.OutputsState.{IsSendable}
use Rattle.conn_messages.proofs.Sizes.{out_fits}
use Rattle.conn_messages.proofs.outputs.Outputs.put.Goals as goal

pub push-requires : goal.push-requires
push-requires c = subst IsSendable (sym c.in_ok-out.ensures) (out_fits c.args.number c.args.message.now c.requires.writable)
