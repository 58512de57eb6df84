-- SPDX-License-Identifier: MIT OR Apache-2.0
use Rattle.std.proofs.Common.{◌≡◌, ◌<◌, ◌^◌, sum_by, rules, tests, arith}
use Rattle.std.proofs.lemmas.Iterator.{YieldsList-from_map}
use Rattle.std.proofs.lemmas.Iterator.Consumers.{YieldsList-at, YieldsList-from_deque, sum_by_from_yields_List, fits_by_from_yields_list}
use Rattle.hold_queue.specs.ChainState.{tenure_count, tenures_count}
use Rattle.hold_queue.proofs.Chains.{tenures_count_is_sum}
use Rattle.hold_queue.proofs.chain.Chain.len.Goals as goal

pub sum-requires-clause-fits : goal.sum-requires-clause-fits
sum-requires-clause-fits c =
    let fits : sum_by tenure_count c.self.inside.tenures.items < 2 ^ 64 = omega (arith, c.self.invariant, tenures_count_is_sum c.self.inside.tenures.items) in
    fits_by_from_yields_list _ _ c.map.result _ (YieldsList-from_map _ tenure_count (YieldsList-at c.map.ensures.source (YieldsList-from_deque _ c.iter.ensures.rest)) c.map.ensures.closure (λ x r q k. search (rules, tests))) fits

counted : (c : goal.After-sum) → c.sum.result ≡ tenures_count c.self.inside.tenures.items
counted c = rw tenures_count_is_sum (sum_by_from_yields_List _ _ c.map.result _ c.sum.ensures.ran (YieldsList-from_map _ tenure_count (YieldsList-at c.map.ensures.source (YieldsList-from_deque _ c.iter.ensures.rest)) c.map.ensures.closure (λ x r q k. search (rules, tests))))

pub returns-clause-count : goal.returns-clause-count
returns-clause-count c = rw (← c.self.view_is) (counted c)

pub returns-clause-within : goal.returns-clause-within
returns-clause-within c = rw (← c.self.view_is) (omega (arith, counted c, c.self.invariant))
