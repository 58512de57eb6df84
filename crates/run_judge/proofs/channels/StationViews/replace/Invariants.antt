-- SPDX-License-Identifier: MIT OR Apache-2.0
use Rattle.std.proofs.Common.{◌≡◌, ◌+◌, ◌-◌, ◌≤◌, length, vec_len}
use Rattle.run_judge.specs.declared.channels.ChannelView.{ChannelView}
use Rattle.run_judge.specs.declared.channels.ChannelView.TheVariants as views
use Rattle.run_judge.specs.Channels.{put_at, view_of}
use Rattle.run_judge.proofs.channels.StationViews.replace.Given as goal

abbrev pub invariant-loop-self : goal.invariant-loop-self
invariant-loop-self l = record {
  same : (v : ChannelView) →
      put_at l.place views.Unknown v l.self-inside.views.items ≡ put_at l.place views.Unknown v l.initial.self-inside.views.items;
  view : view_of l.self-inside.views.items l.place ≡ view_of l.initial.self-inside.views.items l.place;
  given : l.view ≡ l.initial.view;
  short : length l.self-inside.views.items ≤ 256;
}

abbrev pub decreases-loop-self : goal.decreases-loop-self
decreases-loop-self l = l.place + 1 - vec_len l.self-inside.views
