-- SPDX-License-Identifier: MIT OR Apache-2.0
-- The effect of frames on the channels, found from the octets of the frames.
use Rattle.std.specs.Prelude.{ℕ, List, fold, count_by}
use Rattle.conn_messages.specs.declared.out.Out.{Out}
use Rattle.conn_messages.specs.UseOctets.{use_of}
use Rattle.controller_model.specs.declared.channel_state.ChannelState.{ChannelState}
use Rattle.controller_model.specs.Controller.{after_use}
use Rattle.controller_model.specs.Life.{begins_handover}

abbrev pub after_out : ℕ → List (List ChannelState) → Out → List (List ChannelState)
after_out number channels out = after_use number channels (use_of out)

abbrev pub channels_by : ℕ → List (List ChannelState) → List Out → List (List ChannelState)
channels_by number channels outs = fold (after_out number) channels outs

abbrev pub handovers_by : List Out → ℕ
handovers_by outs = count_by (λ out. begins_handover (use_of out)) outs
