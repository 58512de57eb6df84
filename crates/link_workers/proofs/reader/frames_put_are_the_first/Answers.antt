-- SPDX-License-Identifier: MIT OR Apache-2.0
use Rattle.link_workers.proofs.Found.{found_all, found_first}
use Rattle.link_workers.proofs.reader.frames_put_are_the_first.Goals as goal

pub returns-clause-first : goal.returns-clause-first
returns-clause-first c = found_first

pub returns-clause-whole : goal.returns-clause-whole
returns-clause-whole c = found_all
