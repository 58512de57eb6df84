-- SPDX-License-Identifier: MIT OR Apache-2.0
use Rattle.std.proofs.Common.{◌≤◌, ℕ, List, length, slice_get, ap, sym, ◌∙◌, arith}
use Rattle.std.specs.Map.{values_of}
use Rattle.indexmap.specs.IndexMap.{set_value_at, with_value_at}
use Rattle.run_judge.specs.declared.connection.Reason.TheVariants as reasons
use Rattle.run_judge.specs.declared.judge.Judge.{Judge}
use Rattle.run_judge.specs.Connection.{unjudged_from}
use Rattle.run_judge.specs.ConnectionState.{ConnectionState}
use Rattle.run_judge.specs.JudgeState.{entries_at, shown}
use Rattle.run_judge.proofs.JudgeLemmas.{entries_at-unjudged, unjudged_first-more, unjudged_first-past}
use Rattle.run_judge.proofs.judge.Judge.miss.Goals as goal
use Rattle.run_judge.proofs.judge.Judge.miss.Goals.{in-Some, in_default}

pub loop-index-preserved : goal.loop-index-preserved
loop-index-preserved c =
    let first : List (ℕ × ConnectionState) = c.args.self.now.connections.entries in
    let index : ℕ = c.loop-index.index in
    let es : List (ℕ × ConnectionState) = c.loop-index.self.connections.entries in
    let so_far = c.loop-index.invariant.entries in
    elim c.match-get_index_mut.branch [
      | in-Some w ↦ record {
        entries =
            ap (λ (j : Judge). j.connections.entries) w.self-is
            ∙ ap (λ (d : ConnectionState). set_value_at es index d) w.unjudge.ensures
            ∙ ap (λ (now : List (ℕ × ConnectionState)). set_value_at now index (unjudged_from reasons.Hole c.args.frame w.in-Some.connection.now)) so_far
            ∙ unjudged_first-more c.args.frame index first w.in-Some.connection.now
            (w.in-Some.ensures.value ∙ ap (λ (now : List (ℕ × ConnectionState)). slice_get (values_of now) index) so_far);
        rest =
            w.self-is
            ∙ ap (λ (j : Judge). record j { connections = with_value_at c.loop-index.self.connections index w.unjudge.new.self }) c.loop-index.invariant.rest
            ∙ ap (λ (j : Judge). record c.args.self.now { connections = j.connections }) (sym w.self-is);
      }
      | in_default w ↦ record {
        entries =
            ap (λ (j : Judge). j.connections.entries) w.self-is ∙ so_far
            ∙ unjudged_first-past c.args.frame index first
            (w.in_default.ensures.value ∙ ap (λ (now : List (ℕ × ConnectionState)). slice_get (values_of now) index) so_far);
        rest =
            w.self-is ∙ c.loop-index.invariant.rest
            ∙ ap (λ (j : Judge). record c.args.self.now { connections = j.connections }) (sym w.self-is);
      }
    ]

pub returns : goal.returns
returns c =
    let es : List (ℕ × ConnectionState) = c.args.self.now.connections.entries in
    let past : length es ≤ c.loop-index.index = omega (arith, c.len-index-end.ensures.len, c.loop-index-test.false) in
    let all = ap entries_at c.loop-index.invariant.entries ∙ entries_at-unjudged c.args.frame c.loop-index.index es past in
    ap shown c.loop-index.invariant.rest ∙ (λ i. record (shown c.args.self.now) { connections = all i })
