-- SPDX-License-Identifier: MIT OR Apache-2.0
use Rattle.std.proofs.Common.{◌≡◌, ◌++◌, [], ◌∷◌, ◌≤◌, ◌<◌, List, slice_set, length, length-append, sym, subst, ap, ◌∙◌, arith}
use Rattle.std.specs.Prelude.{IfOk}
use Rattle.std.proofs.lemmas.Result.{on_ok_weaker}
use Rattle.run_judge.specs.declared.channels.ChannelView.{ChannelView}
use Rattle.run_judge.specs.declared.channels.ChannelView.TheVariants as views
use Rattle.run_judge.specs.Channels.{put_at, view_of, views_of}
use Rattle.run_judge.proofs.ChannelLemmas.{put_at-longer, put_at-within, unwrap_or-longer, unwrap_or-within}
use Rattle.run_judge.proofs.channels.Channels.replace.Goals as goal

pub loop-self-preserved : goal.loop-self-preserved
loop-self-preserved c =
    let xs : List (List ChannelView) = c.loop-self.self-inside.stations.items in
    let longer : c.push.new.self.items ≡ xs ++ [] ∷ [] = c.in_ok-push.ensures.items ∙ ap (λ (vs : List ChannelView). xs ++ vs ∷ []) c.new.ensures.items in
    let short : length xs ≤ c.args.at.station = omega arith in
    record {
      same = λ v. ap (put_at c.args.at.station [] v) longer ∙ put_at-longer c.args.at.station [] v xs short ∙ c.loop-self.invariant.same v;
      views = ap (λ ys. views_of ys c.args.at.station) longer ∙ unwrap_or-longer xs c.args.at.station [] ∙ c.loop-self.invariant.views;
      given = c.loop-self.invariant.given;
      short = omega (arith, ap length longer, length-append xs ([] ∷ []));
    }

pub returns-clause-old : goal.returns-clause-old
returns-clause-old c =
    let xs : List (List ChannelView) = c.loop-self.self-inside.stations.items in
    let within : c.args.at.station < length xs = omega arith in
    let then_views : c.index_mut.result.now ≡ views_of c.args.self.now c.args.at.station =
    c.index_mut.ensures.value ∙ sym (unwrap_or-within xs c.args.at.station [] c.index_mut.result.now within)
    ∙ c.loop-self.invariant.views ∙ ap (λ (ys : List (List ChannelView)). views_of ys c.args.at.station) c.self.view_is in
    subst (λ (vs : List ChannelView). IfOk c.replace.result (λ old. old ≡ view_of vs c.args.at.number)) then_views c.replace.ensures.old

pub returns-clause-new : goal.returns-clause-new
returns-clause-new c =
    let xs : List (List ChannelView) = c.loop-self.self-inside.stations.items in
    let within : c.args.at.station < length xs = omega arith in
    let then_views : c.index_mut.result.now ≡ views_of c.args.self.now c.args.at.station =
    c.index_mut.ensures.value ∙ sym (unwrap_or-within xs c.args.at.station [] c.index_mut.result.now within)
    ∙ c.loop-self.invariant.views ∙ ap (λ (ys : List (List ChannelView)). views_of ys c.args.at.station) c.self.view_is in
    on_ok_weaker c.replace.result (λ (done : c.replace.new.self ≡ put_at c.args.at.number views.Unknown _ c.index_mut.result.now).
    ap (slice_set xs c.args.at.station) done
    ∙ ap (λ (v : ChannelView). slice_set xs c.args.at.station (put_at c.args.at.number views.Unknown v c.index_mut.result.now)) c.loop-self.invariant.given
    ∙ sym (put_at-within c.args.at.station [] (put_at c.args.at.number views.Unknown c.args.view c.index_mut.result.now) xs within)
    ∙ c.loop-self.invariant.same (put_at c.args.at.number views.Unknown c.args.view c.index_mut.result.now)
    ∙ ap (put_at c.args.at.station [] (put_at c.args.at.number views.Unknown c.args.view c.index_mut.result.now)) c.self.view_is
    ∙ ap (λ (vs : List ChannelView). put_at c.args.at.station [] (put_at c.args.at.number views.Unknown c.args.view vs) c.args.self.now) then_views) c.replace.ensures.new
