-- SPDX-License-Identifier: MIT OR Apache-2.0
use Rattle.std.proofs.Common.{◌≡◌, ap, ◌∙◌, Some, codes, subst}
use Rattle.std.specs.Prelude.{IsSomeAnd}
use Rattle.clap.specs.Words.{new_rule}
use Rattle.clap.specs.declared.builder.arg.Arg.{Arg}
use Rattle.clap.specs.declared.builder.range.ValueRange.{ValueRange}
use Rattle.program_base.proofs.Commanding.{none_or_one, rule_with_missing}
use Rattle.program_base.proofs.tools.chart_option.Goals as goal

pub returns-clause-rule : goal.returns-clause-rule
returns-clause-rule c =
    let given : IsSomeAnd c.num_args.result.num_vals (λ r. r ≡ record { start_inclusive = 0; end_inclusive = 1 }) =
    subst (λ (range : ValueRange). IsSomeAnd c.num_args.result.num_vals (λ r. r ≡ range))
    (none_or_one c.new.result.start c.new.result.end c.new.ensures.start c.new.ensures.end) c.num_args.ensures.1 in
    rule_with_missing c.option.result c.num_args.result c.default_missing_value.result (record { start_inclusive = 0; end_inclusive = 1 }) _
    (record (new_rule (codes "chart")) { long = Some (codes "chart") }) c.num_args.ensures.0 given c.default_missing_value.ensures c.option.ensures.rule

pub returns-clause-local : goal.returns-clause-local
returns-clause-local c =
    ap (λ (a : Arg). a.global) c.default_missing_value.ensures ∙ ap (λ (a : Arg). a.global) c.num_args.ensures.0 ∙ c.option.ensures.local
