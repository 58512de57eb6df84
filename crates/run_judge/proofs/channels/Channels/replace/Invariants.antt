-- SPDX-License-Identifier: MIT OR Apache-2.0
use Rattle.std.proofs.Common.{◌≡◌, ◌+◌, ◌-◌, ◌≤◌, List, [], length, vec_len}
use Rattle.run_judge.specs.declared.channels.ChannelView.{ChannelView}
use Rattle.run_judge.specs.Channels.{put_at, views_of}
use Rattle.run_judge.proofs.channels.Channels.replace.Given as goal

abbrev pub invariant-loop-self : goal.invariant-loop-self
invariant-loop-self l = record {
  same : (vs : List ChannelView) →
      put_at l.station [] vs l.self-inside.stations.items ≡ put_at l.station [] vs l.initial.self-inside.stations.items;
  views : views_of l.self-inside.stations.items l.station ≡ views_of l.initial.self-inside.stations.items l.station;
  given : l.view ≡ l.initial.view;
  short : length l.self-inside.stations.items ≤ 65536;
}

abbrev pub decreases-loop-self : goal.decreases-loop-self
decreases-loop-self l = l.station + 1 - vec_len l.self-inside.stations
