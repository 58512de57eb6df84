-- SPDX-License-Identifier: MIT OR Apache-2.0
use Rattle.rsl_codec.proofs.Messages.{text_is_read, rsl_text_is_text}
use Rattle.rsl_codec.proofs.rsl.rsl_text_is_read.Goals as goal

pub returns-clause-text : goal.returns-clause-text
returns-clause-text c = rsl_text_is_text

pub returns-clause-read : goal.returns-clause-read
returns-clause-read c = λ v octets text. text_is_read octets v text
