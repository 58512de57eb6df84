-- SPDX-License-Identifier: MIT OR Apache-2.0
use Rattle.std.proofs.Common.{◌≡◌, List, ap, ◌∙◌}
use Rattle.std.proofs.lemmas.Result.{on_ok_weaker}
use Rattle.dtap_codec.specs.Number.{count_of}
use Rattle.run_judge.specs.declared.channels.Early.{Early}
use Rattle.run_judge.specs.Connection.{new_connection, unjudged_from}
use Rattle.run_judge.specs.ConnectionState.{ConnectionState}
use Rattle.run_judge.specs.Judging.{nowhere, with_new}
use Rattle.run_judge.specs.JudgeState.{shown}
use Rattle.run_judge.proofs.judge.Judge.begin_nowhere.Goals as goal

pub returns : goal.returns
returns c =
    let j = shown c.args.self.now in
    on_ok_weaker c.keep.result (λ (done : shown c.keep.new.self ≡ with_new c.args.source c.unjudge.new.self j).
    done
    ∙ ap (λ (d : ConnectionState). with_new c.args.source d j)
    (c.unjudge.ensures
    ∙ ap (unjudged_from c.args.reason c.args.frame) (c.in_ok-connection.ensures
    ∙ ap (λ (es : List Early). new_connection (count_of c.args.self.now.modulus) c.args.self.now.begun c.args.source nowhere (record { message = c.args.message; frame = c.args.frame; early = es })) c.new.ensures.items))) c.keep.ensures
