-- SPDX-License-Identifier: MIT OR Apache-2.0
use Rattle.std.proofs.Common.{◌≡◌, ap, ◌∙◌}
use Rattle.std.proofs.lemmas.Result.{on_ok_weaker}
use Rattle.run_judge.specs.declared.channels.ChannelView.TheVariants as views
use Rattle.run_judge.specs.Channels.{early_before, with_view}
use Rattle.run_judge.specs.OpeningState.{OpeningState}
use Rattle.run_judge.proofs.ChannelLemmas.{with_view-twice}
use Rattle.run_judge.proofs.channels.Channels.open.Goals as goal

pub returns : goal.returns
returns c =
    let o : OpeningState = record { message = c.args.message; frame = c.args.frame; early = c.into_early.result.items } in
    let early = c.into_early.ensures ∙ ap early_before c.in_ok-view.ensures.old in
    on_ok_weaker c.set.result (λ (done : c.set.new.self ≡ with_view c.args.at (views.Opened o) c.replace.new.self).
    done
    ∙ ap (with_view c.args.at (views.Opened o)) c.in_ok-view.ensures.new
    ∙ with_view-twice c.args.at views.Unknown (views.Opened o) c.args.self.now
    ∙ (λ i. with_view c.args.at (views.Opened (record { message = c.args.message; frame = c.args.frame; early = early i })) c.args.self.now)) c.set.ensures
