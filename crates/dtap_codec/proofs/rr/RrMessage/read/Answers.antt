-- SPDX-License-Identifier: MIT OR Apache-2.0
use Rattle.std.proofs.Common.{arith}
use Rattle.octets.proofs.Steps.{found_by, only_by, refused_by}
use Rattle.dtap_codec.specs.Rr.{IsRr}
use Rattle.dtap_codec.proofs.RrEndings.{fault_by}
use Rattle.dtap_codec.proofs.RrGrammar.{rr_ok, rr_again}
use Rattle.dtap_codec.proofs.rr.RrMessage.read.Goals as goal

pub returns-clause-found : goal.returns-clause-found
returns-clause-found c = found_by _ _ _ (IsRr c.args.octets.now) (λ message. rr_ok _ message (λ i. omega (arith, c.type_inv.octets i))) c.read_message.ensures

pub returns-clause-only : goal.returns-clause-only
returns-clause-only c = λ message is. only_by _ _ _ message (rr_again _ message is) c.read_message.ensures

pub returns-clause-refused : goal.returns-clause-refused
returns-clause-refused c = refused_by _ _ _ c.read_message.ensures

pub returns-clause-fault : goal.returns-clause-fault
returns-clause-fault c = fault_by _ _ (λ i. omega (arith, c.type_inv.octets i)) c.read_message.ensures
