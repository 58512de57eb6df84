-- SPDX-License-Identifier: MIT OR Apache-2.0
-- Lemmas: what the frames say that the controller puts.
use Rattle.std.proofs.Common.{◌≡◌, ℕ, ◌<◌, ◌^◌, ◌==◌, List, [], ◌∷◌, Option, refl, ap, ◌∙◌}
use Rattle.std.proofs.lemmas.Bool.{cond-false, eqb-true, false_from_ne_true}
use Rattle.std.specs.List.{AllByRecursion}
use Rattle.std.specs.Prelude.{map, Ok}
use Rattle.conn_messages.specs.declared.message.Message.{Message}
use Rattle.conn_messages.specs.declared.message.Message.TheVariants.{Station, Data, ReleaseComplete, Request}
use Rattle.conn_messages.specs.declared.parameters.TheConstants.{SWITCH_LINK}
use Rattle.conn_messages.specs.Out.{IsSound, out_of, outs_of}
use Rattle.conn_messages.proofs.Readings.{message_again}
use Rattle.rsl_codec.specs.declared.rsl.Rsl.{Rsl}
use Rattle.rsl_codec.specs.declared.rsl.Rsl.TheVariants as rsl
use Rattle.rsl_codec.specs.RslText.{rsl_text}
use Rattle.run_judge.specs.declared.said.Said.TheVariants as says
use Rattle.run_judge.specs.Reading.{channel_at, passed, requested, said_to_station, said_to_switch}
use Rattle.judge_laws.specs.Saying.{put_says}
use Rattle.judge_laws.specs.Saying.{IsOnLink, ShowsReference, said_of, said_to}

says_to : (station : ℕ) (message : Rsl) →
    ShowsReference message →
    said_to_station station (rsl_text message) (Ok message) ≡ said_to station message
says_to station (rsl.ChannelActivation a) shows = ap (λ (o : Option ℕ). says.Activates (channel_at station a.channel) o) shows
says_to station message shows = refl

pub message_says : (n : ℕ) (m : Message) → n < 2 ^ 24 → IsSound m → IsOnLink m → put_says (out_of n m) ≡ said_of n m
unfolding out_of
message_says n (Station station message) three sound there =
    cond-false (station == SWITCH_LINK) _ _ (false_from_ne_true _ (λ same. there.0 (eqb-true station SWITCH_LINK same)))
    ∙ ap (said_to_station station (rsl_text message)) (message_again n (Station station message) three sound.0 sound.1)
    ∙ says_to station message there.1
message_says n (Request message) three sound there =
    let read = message_again n (Request message) three sound.0 sound.1 in
    ap said_to_switch read.1 ∙ ap (requested n) read.2
message_says n (Data destination message) three sound there =
    let read = message_again n (Data destination message) three sound.0 sound.1 in
    ap said_to_switch read.1 ∙ ap (passed destination) read.2
message_says n (ReleaseComplete destination) three sound there = ap said_to_switch (message_again n (ReleaseComplete destination) three sound.0 sound.1)

pub messages_say : (n : ℕ) (ms : List Message) →
    n < 2 ^ 24 →
    AllByRecursion IsSound ms →
    AllByRecursion IsOnLink ms →
    map put_says (outs_of n ms) ≡ map (said_of n) ms
messages_say n [] three sound there = refl
messages_say n (m ∷ ms) three sound there =
    let first = message_says n m three sound.0 there.0 in
    let rest = messages_say n ms three sound.1 there.1 in
    cc
