-- SPDX-License-Identifier: MIT OR Apache-2.0
use Rattle.ruled_relay.proofs.Refused.{all_counted, all_kept}
use Rattle.ruled_relay.proofs.outbox.refusals_are_those_of_all_puts.Goals as goal

pub returns-clause-refusals : goal.returns-clause-refusals
returns-clause-refusals c = all_counted

pub returns-clause-lines : goal.returns-clause-lines
returns-clause-lines c = all_kept
