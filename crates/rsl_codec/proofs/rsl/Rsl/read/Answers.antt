-- SPDX-License-Identifier: MIT OR Apache-2.0
use Rattle.std.proofs.Common.{arith}
use Rattle.octets.proofs.Steps.{found_by, only_by, refused_by}
use Rattle.rsl_codec.proofs.Causes.{refuses_rsl}
use Rattle.rsl_codec.proofs.Messages.{read_is_text, text_is_read}
use Rattle.rsl_codec.proofs.rsl.Rsl.read.Goals as goal

pub returns-clause-found : goal.returns-clause-found
returns-clause-found c = found_by _ _ _ _ (λ v is. read_is_text _ v (λ i. omega (arith, c.type_inv.octets i)) is) c.read_all.ensures

pub returns-clause-only : goal.returns-clause-only
returns-clause-only c = λ v text. only_by _ _ _ v (text_is_read _ v text) c.read_all.ensures

pub returns-clause-refused : goal.returns-clause-refused
returns-clause-refused c = refused_by _ _ _ c.read_all.ensures

pub returns-clause-fault : goal.returns-clause-fault
returns-clause-fault c = refuses_rsl _ _ (λ i. omega (arith, c.type_inv.octets i)) c.read_all.ensures
