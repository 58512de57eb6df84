-- SPDX-License-Identifier: MIT OR Apache-2.0
use Rattle.station_io.proofs.Octets.{all_are_written, cuts_are_alike, merged_again, octets_are_put}
use Rattle.station_io.proofs.laws.octets_in_decide_octets_out.Goals as goal

pub returns-clause-put : goal.returns-clause-put
returns-clause-put c = octets_are_put

pub returns-clause-pieces : goal.returns-clause-pieces
returns-clause-pieces c = cuts_are_alike

pub returns-clause-written : goal.returns-clause-written
returns-clause-written c = all_are_written

pub returns-clause-order : goal.returns-clause-order
returns-clause-order c = merged_again
