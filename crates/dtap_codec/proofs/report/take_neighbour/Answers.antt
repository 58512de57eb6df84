-- SPDX-License-Identifier: MIT OR Apache-2.0
-- The three fields are read in turn.
use Rattle.dtap_codec.proofs.Fields.{Begin-append}
use Rattle.dtap_codec.proofs.report.take_neighbour.Goals as goal

pub returns : goal.returns
returns c = Begin-append c.take-rxlev.ensures (Begin-append c.take-bcch_freq.ensures c.take-bsic.ensures)
