-- SPDX-License-Identifier: MIT OR Apache-2.0
-- Frames have the same effect on the channels as their messages.
use Rattle.std.proofs.Common.{◌≡◌, ℕ, ◌+◌, if◌then◌else◌, List, [], ◌∷◌, fold, count_by, refl, ap, ◌∙◌}
use Rattle.std.specs.List.{AllByRecursion}
use Rattle.conn_messages.specs.declared.message.Message.{Message}
use Rattle.conn_messages.specs.ChannelUse.{use_by}
use Rattle.conn_messages.specs.Out.{IsLawfulMessage, outs_of}
use Rattle.conn_messages.specs.UseOctets.{use_of}
use Rattle.conn_messages.proofs.UseReadings.{is_use_by}
use Rattle.controller_model.specs.declared.channel_state.ChannelState.{ChannelState}
use Rattle.controller_model.specs.Controller.{after_use, channels_after}
use Rattle.controller_model.specs.Life.{begins_handover}
use Rattle.controller_parts.specs.Following.{channels_by, handovers_by}

pub channels_follow : (number : ℕ) (messages : List Message) (channels : List (List ChannelState)) → AllByRecursion IsLawfulMessage messages
    → channels_by number channels (outs_of number messages) ≡ fold (channels_after number) channels messages
channels_follow number [] channels lawful = refl
channels_follow number (m ∷ ms) channels lawful =
    ap (λ used. channels_by number (after_use number channels used) (outs_of number ms)) (is_use_by number m lawful.0)
    ∙ channels_follow number ms (channels_after number channels m) lawful.1

begun : (number start : ℕ) (messages : List Message) → AllByRecursion IsLawfulMessage messages
    → fold (λ n out. n + (if begins_handover (use_of out) then 1 else 0)) start (outs_of number messages)
    ≡ fold (λ n m. n + (if begins_handover (use_by m) then 1 else 0)) start messages
begun number start [] lawful = refl
begun number start (m ∷ ms) lawful =
    ap (λ used. fold (λ n out. n + (if begins_handover (use_of out) then 1 else 0)) (start + (if begins_handover used then 1 else 0)) (outs_of number ms)) (is_use_by number m lawful.0)
    ∙ begun number (start + (if begins_handover (use_by m) then 1 else 0)) ms lawful.1

pub handovers_follow : (number : ℕ) (messages : List Message) → AllByRecursion IsLawfulMessage messages
    → handovers_by (outs_of number messages) ≡ count_by (λ m. begins_handover (use_by m)) messages
handovers_follow number messages lawful = begun number 0 messages lawful
