-- SPDX-License-Identifier: MIT OR Apache-2.0
-- A frame keeps the line-up of the connection that it says an input to.
use Rattle.world_laws.proofs.Prelude.{◌≡◌, ◌≢◌, ℕ, not, false, List, [], ◌∷◌, Option, Some, option_map, ap, ◌∙◌, AllByRecursion}
use Rattle.world_laws.proofs.Prelude.{option_and_then, IsLayer3, Channel, SWITCH_LINK, AllByRecursion-filter, Input, Preparing, Changing}
use Rattle.world_laws.proofs.Prelude.{State, Live, Connection, undone, used_channels, connection_of, ChannelState, Free, InUse, Releasing}
use Rattle.world_laws.proofs.Prelude.{Word, Controller, Entry, channel_state, entry_of, holder, place_of, is_control, Parameters, Event}
use Rattle.world_laws.proofs.Prelude.{Actors, messages_in, acknowledgements_up, NoneReleases, ReleasesLast, coming_up, going_down}
use Rattle.world_laws.proofs.Prelude.{awaited_in, FramesKeepLineUps, commanded_target, is_ended, IsSaidTo, on_channel, on_connection}
use Rattle.world_laws.proofs.Prelude.{AreInOrder, NoneOn, EndsLast, AreLayer3, texts_of}
use Rattle.conn_rules.specs.Streams.{target_in}
use Rattle.world_laws.specs.LineUp.Places.{Item}
use Rattle.world_laws.proofs.Acknowledged.{all_acks_show_end_new}
use Rattle.world_laws.proofs.Apart.{all_both}
use Rattle.world_laws.proofs.Framing.{all_left, all_right}
use Rattle.world_laws.proofs.OwnFrameLaw.{frame_is_handled_new}
use Rattle.world_laws.proofs.OwnHandled.{handle_keeps_line_ups_new}
use Rattle.world_laws.proofs.Quiet.{all_of}
use Rattle.world_laws.proofs.ValidConnections.{connections_are_valid_new}
use Rattle.world_laws.proofs.Whole.{messages_are_whole_new}
use Rattle.world_laws.proofs.Events.{world}

-- ---- it is one of the controller's connections

held_there : (c : Controller) (state : ChannelState) (e : Entry) →
    option_and_then (entry_of c) (holder state) ≡ Some e →
    (n : ℕ) × (entry_of c n ≡ Some e)
held_there c Free e found = absurd cc
held_there c (InUse n) e found = (n, found)
held_there c (Releasing n) e found = (n, found)

there_by : (c : Controller) (n : ℕ) (e : Entry) (s : Connection) → entry_of c n ≡ Some e → e.connection ≡ s → connection_of c n ≡ Some s
there_by c n e s found is = ap (option_map (λ (x : Entry). x.connection)) found ∙ ap (λ (x : Connection). let o : Option Connection = Some x in o) is

said_there : {c : Controller} {word : Word} {s : Connection} {input : Input} {offer : Option Channel} →
    IsSaidTo c word s input offer →
    (n : ℕ) × (connection_of c n ≡ Some s)
said_there {c} {s = s} (on_channel at input e word_is found is) = let held = held_there c (channel_state c at) e found in (held.0, there_by c held.0 e s held.1 is)
said_there {c} {s = s} (on_connection number input e word_is found is) = (number, there_by c number e s found is)

-- ---- its channels

whole_texts : (items : List Item) → AreLayer3 (messages_in items) → AreLayer3 (texts_of items)
whole_texts items whole = AllByRecursion-filter IsLayer3 (λ message. not (is_control message)) (messages_in items) whole

-- no COMMAND is on its way on a target, whether the mobile is commanded there or not
none_on_any_target : (w : Actors) (state : State) →
    NoneOn w (commanded_target state) →
    AllByRecursion (λ c. going_down w (place_of c) ≡ []) (awaited_in state) →
    AllByRecursion (λ c. going_down w (place_of c) ≡ []) (target_in state)
none_on_any_target w (Live reference (Changing target)) none awaited = (none, tt)
none_on_any_target w (Live reference (Preparing target)) none awaited = awaited
none_on_any_target w _ none awaited = tt

pub frames_keep_line_ups_new : (settings : Parameters) (events : List Event) → FramesKeepLineUps settings events
frames_keep_line_ups_new settings events mobile s item items input offer r pending addressed ready read lined =
    let w : Actors = world settings events in
    let there = said_there addressed.said in
    let handled = frame_is_handled_new w item s input offer r addressed in
    let placed = lined.lined.placed in
    let tells = all_acks_show_end_new settings events in
    let order : AreInOrder w s input = record {
      valid = connections_are_valid_new settings events there.0 s there.1;
      switch_up = ready.switch_up;
      old_end = all_both (λ c. c.station ≢ SWITCH_LINK) (λ c. ReleasesLast (acknowledgements_up w (place_of c))) (λ c. EndsLast (coming_up w (place_of c))) (undone s.draining) (λ c is releases. (tells (place_of c) is).last releases)
          (all_left (λ c. c.station ≢ SWITCH_LINK) (undone s.draining) (s.serving ∷ target_in s.state) placed) ready.old_end;
      others_continue = all_both (λ c. c.station ≢ SWITCH_LINK) (λ c. NoneReleases (acknowledgements_up w (place_of c))) (λ c. is_ended (coming_up w (place_of c)) ≡ false) (s.serving ∷ target_in s.state) (λ c is releases. (tells (place_of c) is).none releases)
          (all_right (λ c. c.station ≢ SWITCH_LINK) (undone s.draining) (s.serving ∷ target_in s.state) placed) ready.others_continue;
      silent = ready.silent;
      uncommanded = none_on_any_target w s.state lined.lined.none_on_target ready.uncommanded;
      whole = all_of (λ c. AreLayer3 (texts_of (coming_up w (place_of c)))) (used_channels s) (λ c. whole_texts (coming_up w (place_of c)) (messages_are_whole_new settings events (place_of c)));
    } in
    handle_keeps_line_ups_new settings events mobile s item items input offer r handled.0 pending handled.1 order read lined
