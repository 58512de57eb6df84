-- SPDX-License-Identifier: MIT OR Apache-2.0
use Rattle.std.proofs.Common.{rules, arith}
use Rattle.link_sockets.proofs.Naming.{AreNamed-push_of}
use Rattle.link_sockets.proofs.open.OpenedLinks.add_station.Goals as goal

pub returns-clause-names : goal.returns-clause-names
returns-clause-names g c = grind (rules, arith, AreNamed-push_of)
