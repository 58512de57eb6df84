-- SPDX-License-Identifier: MIT OR Apache-2.0
use Rattle.bssmap_codec.proofs.Sccps.{sccp_again}
use Rattle.bssmap_codec.proofs.SccpTexts.{sccp_written}
use Rattle.bssmap_codec.proofs.sccp.sccp_text_is_read.Goals as goal

pub returns-clause-text : goal.returns-clause-text
returns-clause-text c = sccp_written

pub returns-clause-read : goal.returns-clause-read
returns-clause-read c = λ message more has fits. sccp_again _ message (sccp_written message more has fits)
