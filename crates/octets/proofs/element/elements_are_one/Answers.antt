-- SPDX-License-Identifier: MIT OR Apache-2.0
use Rattle.octets.proofs.Fields.{found_sized}
use Rattle.octets.proofs.Grammar.{walk_found, walk_only}
use Rattle.octets.proofs.element.elements_are_one.Goals as goal

pub returns-clause-found : goal.returns-clause-found
returns-clause-found c = walk_found

pub returns-clause-only : goal.returns-clause-only
returns-clause-only c = walk_only

pub returns-clause-sized : goal.returns-clause-sized
returns-clause-sized c = found_sized
