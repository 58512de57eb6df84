-- SPDX-License-Identifier: MIT OR Apache-2.0
use Rattle.std.proofs.Common.{arith}
use Rattle.bssmap_codec.specs.Sccp.{IsSccp}
use Rattle.octets.proofs.Steps.{found_by, only_by, refused_by}
use Rattle.bssmap_codec.proofs.SccpCauses.{refuses_sccp}
use Rattle.bssmap_codec.proofs.Sccps.{sccp_ok, sccp_again}
use Rattle.bssmap_codec.proofs.sccp.read_sccp.Goals as goal

pub returns-clause-found : goal.returns-clause-found
returns-clause-found c = found_by _ _ _ (IsSccp c.args.octets.now) (λ message. sccp_ok _ message (λ i. omega (arith, c.type_inv.octets i))) c.read.ensures

pub returns-clause-only : goal.returns-clause-only
returns-clause-only c = λ message is. only_by _ _ _ message (sccp_again _ message is) c.read.ensures

pub returns-clause-refused : goal.returns-clause-refused
returns-clause-refused c = refused_by _ _ _ c.read.ensures

pub returns-clause-fault : goal.returns-clause-fault
returns-clause-fault c = refuses_sccp _ _ (λ i. omega (arith, c.type_inv.octets i)) c.read.ensures
