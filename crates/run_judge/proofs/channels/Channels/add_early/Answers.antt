-- SPDX-License-Identifier: MIT OR Apache-2.0
use Rattle.std.proofs.Common.{◌≡◌, ap, ◌∙◌}
use Rattle.std.proofs.lemmas.Result.{on_ok_weaker}
use Rattle.run_judge.specs.declared.channels.ChannelView.{ChannelView}
use Rattle.run_judge.specs.declared.channels.ChannelView.TheVariants as views
use Rattle.run_judge.specs.Channels.{early_in, with_view}
use Rattle.run_judge.proofs.ChannelLemmas.{with_view-twice}
use Rattle.run_judge.proofs.channels.Channels.add_early.Goals as goal

pub returns : goal.returns
returns c = on_ok_weaker c.set.result (λ (done : c.set.new.self ≡ with_view c.args.at c.add_early.new.self c.replace.new.self).
    done
    ∙ ap (with_view c.args.at c.add_early.new.self) c.in_ok-view.ensures.new
    ∙ with_view-twice c.args.at views.Unknown c.add_early.new.self c.args.self.now
    ∙ ap (λ (v : ChannelView). with_view c.args.at v c.args.self.now)
    (c.in_ok-add_early.ensures ∙ ap (early_in c.args.early) c.in_ok-view.ensures.old)) c.set.ensures
