-- SPDX-License-Identifier: MIT OR Apache-2.0
use Rattle.nsd_filter.proofs.Accepting.{accepted_list_from-rise, progress_from-rise}
use Rattle.nsd_filter.proofs.laws.accepts_in_order.Goals as goal

pub returns-clause-accepted : goal.returns-clause-accepted
returns-clause-accepted c m sent messages k two rise = accepted_list_from-rise two rise

pub returns-clause-no_gap : goal.returns-clause-no_gap
returns-clause-no_gap c m sent messages k two rise gap = let whole = progress_from-rise two rise in cc
