-- SPDX-License-Identifier: MIT OR Apache-2.0
use Rattle.std.proofs.Common.{◌≡◌, ◌++◌, [], ◌∷◌, ◌≤◌, ◌<◌, List, slice_set, length, length-append, sym, ap, ◌∙◌, arith}
use Rattle.run_judge.specs.declared.channels.ChannelView.{ChannelView}
use Rattle.run_judge.specs.declared.channels.ChannelView.TheVariants as views
use Rattle.run_judge.specs.Channels.{put_at, view_of}
use Rattle.run_judge.proofs.ChannelLemmas.{put_at-longer, put_at-within, unwrap_or-longer, unwrap_or-within}
use Rattle.run_judge.proofs.channels.StationViews.replace.Goals as goal

pub loop-self-preserved : goal.loop-self-preserved
loop-self-preserved c =
    let xs : List ChannelView = c.loop-self.self-inside.views.items in
    let longer : c.push.new.self.items ≡ xs ++ views.Unknown ∷ [] = c.in_ok-push.ensures.items in
    let short : length xs ≤ c.args.number = omega arith in
    record {
      same = λ v. ap (put_at c.args.number views.Unknown v) longer ∙ put_at-longer c.args.number views.Unknown v xs short ∙ c.loop-self.invariant.same v;
      view = ap (λ ys. view_of ys c.args.number) longer ∙ unwrap_or-longer xs c.args.number views.Unknown ∙ c.loop-self.invariant.view;
      given = c.loop-self.invariant.given;
      short = omega (arith, ap length longer, length-append xs (views.Unknown ∷ []), c.ranges.number.fits);
    }

pub returns-clause-old : goal.returns-clause-old
returns-clause-old c =
    let xs : List ChannelView = c.loop-self.self-inside.views.items in
    let within : c.args.number < length xs = omega arith in
    c.replace.ensures.value ∙ c.index_mut.ensures.value
    ∙ sym (unwrap_or-within xs c.args.number views.Unknown c.index_mut.result.now within)
    ∙ c.loop-self.invariant.view ∙ ap (λ ys. view_of ys c.args.number) c.self.view_is

pub returns-clause-new : goal.returns-clause-new
returns-clause-new c =
    let xs : List ChannelView = c.loop-self.self-inside.views.items in
    let within : c.args.number < length xs = omega arith in
    ap (λ v. slice_set xs c.args.number v) (c.replace.ensures.after ∙ c.loop-self.invariant.given)
    ∙ sym (put_at-within c.args.number views.Unknown c.args.view xs within)
    ∙ c.loop-self.invariant.same c.args.view ∙ ap (put_at c.args.number views.Unknown c.args.view) c.self.view_is
