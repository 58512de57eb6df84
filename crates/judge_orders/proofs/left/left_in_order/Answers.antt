-- SPDX-License-Identifier: MIT OR Apache-2.0
use Rattle.std.proofs.Common.{List, refl, rules, subst}
use Rattle.std.specs.List.Sorted.{IsPermutation}
use Rattle.std.proofs.lemmas.List.Sorted.{IsNonDecreasingBy-from_sort_by_key}
use Rattle.run_judge.specs.ConnectionState.{ConnectionState}
use Rattle.judge_orders.proofs.left.left_in_order.Goals as goal

pub returns : goal.returns
returns c = record {
  entries = c.args.judge.connections.entries;
  once = c.in_ok-left.ensures.references;
  each = λ reference. refl;
  all = subst (λ (xs : List ConnectionState). IsPermutation xs c.sort_by_key.new.self.items) c.in_ok-left.ensures.left
      c.in_ok-sort_by_key.ensures.permutation;
  by_number = IsNonDecreasingBy-from_sort_by_key (λ (k : ConnectionState). k.number) _ c.in_ok-sort_by_key.ensures.sorted
      (λ a r q k. search rules);
}
