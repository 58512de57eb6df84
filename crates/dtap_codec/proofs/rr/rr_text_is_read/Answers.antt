-- SPDX-License-Identifier: MIT OR Apache-2.0
use Rattle.dtap_codec.proofs.RrGrammar.{rr_again, rr_text_ok}
use Rattle.dtap_codec.proofs.rr.rr_text_is_read.Goals as goal

pub returns-clause-text : goal.returns-clause-text
returns-clause-text c = rr_text_ok

pub returns-clause-read : goal.returns-clause-read
returns-clause-read c = λ message fits. rr_again _ message (rr_text_ok message fits)
