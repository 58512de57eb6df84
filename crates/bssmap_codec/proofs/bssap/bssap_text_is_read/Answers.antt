-- SPDX-License-Identifier: MIT OR Apache-2.0
use Rattle.bssmap_codec.proofs.Bssaps.{bssap_again}
use Rattle.bssmap_codec.proofs.BssapTexts.{bssap_written, size_is}
use Rattle.bssmap_codec.proofs.bssap.bssap_text_is_read.Goals as goal

pub returns-clause-text : goal.returns-clause-text
returns-clause-text c = bssap_written

pub returns-clause-read : goal.returns-clause-read
returns-clause-read c = λ message more has fits. bssap_again _ message (bssap_written message more has fits)

pub returns-clause-size : goal.returns-clause-size
returns-clause-size c = size_is
