-- SPDX-License-Identifier: MIT OR Apache-2.0
use Rattle.conn_messages.proofs.Sizes.{out_fits}
use Rattle.conn_messages.proofs.laws.message_fits_its_frame.Goals as goal

pub returns : goal.returns
returns c = out_fits
