-- SPDX-License-Identifier: MIT OR Apache-2.0
use Rattle.std.proofs.Common.{◌≡◌, List, ap, ◌∙◌}
use Rattle.std.proofs.lemmas.Result.{on_ok_weaker}
use Rattle.dtap_codec.specs.Number.{count_of}
use Rattle.run_judge.specs.declared.channels.ChannelView.{ChannelView}
use Rattle.run_judge.specs.declared.channels.ChannelView.TheVariants as views
use Rattle.run_judge.specs.Channels.{asked_in, opening_in}
use Rattle.run_judge.specs.Connection.{opened_connection}
use Rattle.run_judge.specs.ConnectionState.{ConnectionState}
use Rattle.run_judge.specs.Judging.{with_channel, with_new}
use Rattle.run_judge.specs.JudgeState.{shown}
use Rattle.run_judge.proofs.judge.Judge.begin_at.Goals as goal

pub returns : goal.returns
returns c =
    let j = shown c.args.self.now in
    on_ok_weaker c.keep.result (λ (done : shown c.keep.new.self ≡ with_new c.args.source c.in_ok-connection.connection (record j { channels = c.replace.new.self })).
    done
    ∙ ap (λ (channels : List (List ChannelView)). with_new c.args.source c.in_ok-connection.connection (record j { channels = channels })) c.in_ok-replace.ensures.new
    ∙ ap (λ (d : ConnectionState). with_new c.args.source d (with_channel c.args.at (views.Owned c.args.source c.args.self.now.begun) j))
    (c.in_ok-connection.ensures
    ∙ ap (opened_connection (count_of c.args.self.now.modulus) c.args.self.now.begun c.args.source c.args.at)
    (c.asked_in-asked.ensures ∙ ap (asked_in c.args.frame) (c.into_opening-opening.ensures ∙ ap opening_in c.in_ok-replace.ensures.old)))) c.keep.ensures
