-- SPDX-License-Identifier: MIT OR Apache-2.0
use Rattle.std.proofs.Common.{◌≡◌, List, ap, sym, ◌∙◌}
use Rattle.std.proofs.lemmas.Result.{on_ok_weaker}
use Rattle.run_judge.specs.declared.connection.Reason.TheVariants as reasons
use Rattle.run_judge.specs.declared.said.StationChannel.{StationChannel}
use Rattle.run_judge.specs.Channels.{opened_channels}
use Rattle.run_judge.specs.Judging.{begun_at, begun_nowhere, begun_on}
use Rattle.run_judge.specs.JudgeState.{shown}
use Rattle.run_judge.proofs.JudgeLemmas.{begun_on_one, begun_on_several}
use Rattle.run_judge.proofs.judge.Judge.begin.Goals as goal

pub returns-in-len1 : goal.returns-in-len1
returns-in-len1 c =
    let j = shown c.args.self.now in
    let same : c.as_slice-2.result.now ≡ opened_channels c.args.message c.args.self.now.channels =
    c.as_slice-2.ensures.value ∙ c.in_ok-opened.ensures ∙ ap (λ m. opened_channels m c.args.self.now.channels) c.as_slice.ensures in
    on_ok_weaker c.begin_at.result (λ (done : shown c.begin_at.new.self ≡ begun_at _ c.args.source c.args.frame j).
    done
    ∙ sym (begun_on_one c.as_slice-2.result.now c.args.source c.args.message c.args.frame j _ c.in-len1.len_at_least c.in-len1.len_below)
    ∙ ap (λ (channels : List StationChannel). begun_on channels c.args.source c.args.message c.args.frame j) same) c.begin_at.ensures

pub returns-in_default : goal.returns-in_default
returns-in_default c =
    let j = shown c.args.self.now in
    let same : c.as_slice-2.result.now ≡ opened_channels c.args.message c.args.self.now.channels =
    c.as_slice-2.ensures.value ∙ c.in_ok-opened.ensures ∙ ap (λ m. opened_channels m c.args.self.now.channels) c.as_slice.ensures in
    on_ok_weaker c.begin_nowhere-in_default.result (λ (done : shown c.begin_nowhere-in_default.new.self ≡ begun_nowhere reasons.TwoBeginnings c.args.source c.args.message c.args.frame j).
    done
    ∙ sym (begun_on_several c.as_slice-2.result.now c.args.source c.args.message c.args.frame j c.in_default.len_at_least)
    ∙ ap (λ (channels : List StationChannel). begun_on channels c.args.source c.args.message c.args.frame j) same) c.begin_nowhere-in_default.ensures
