-- SPDX-License-Identifier: MIT OR Apache-2.0
-- The line-up of a connection in worlds of literal events: an assignment, with a message on its way
-- on each channel.
use Rattle.world_laws.proofs.Prelude.{◌≡◌, ℕ, Bool, true, false, List, [], ◌∷◌, ◌++◌, map, replicate, Option, Some, None, option_map, refl}
use Rattle.world_laws.proofs.Prelude.{ap, arith, option_and_then, new_controller, place_at, entry_of, usual_settings, empty_tenure}
use Rattle.world_laws.proofs.Prelude.{RfChannelReleaseAck, On, station_item, data_indication, Connected, Zero, Three, Out, Active}
use Rattle.world_laws.proofs.Prelude.{Draining, Live, Connection, new_connection, Carries, next, Open, ChannelTenure, Empty, Reached}
use Rattle.world_laws.proofs.Prelude.{Connect, Upper, AirUp, AirAck, AirDown, Move, Arrive, BaseTakes, BasePush, Handle, SwitchTakes}
use Rattle.world_laws.proofs.Prelude.{SwitchDoes, BaseDown, Assign, Clear, Actors, Mobile, World, mobile_of, new_link, new_spot, new_world}
use Rattle.world_laws.proofs.Prelude.{outbox_of, opened, after_all, rise_over, again, Alive, remains, sound, LineUp, controls_in, fresh}
use Rattle.world_laws.proofs.Prelude.{line, released, on_serving, on_target, moving, coming_up, HasEnded, going_down, taken_of, line_up}
use Rattle.world_laws.proofs.Prelude.{LinedUp, Sits, is_beside_relay, carried_for, IsForOthers}
use Rattle.octets.proofs.Hex.{hex}
use Rattle.mobile_end.specs.declared.mobile_end.Place.TheVariants.{OnChannel}
use Rattle.world_laws.specs.LineUp.Alive.Follows.{carries_on}
use Rattle.world_laws.specs.LineUp.Alive.ChangePhase.{rests}
use Rattle.world_laws.proofs.LineUp.Ordering.{is_in_order_alive}
use Rattle.world_laws.specs.LineUp.Places.{Seat, LineTenure}
use Rattle.world_laws.specs.LineUp.Places.Item.{brought}
use Rattle.world_model.proofs.Worlds.{on_literals}
use Rattle.controller_model.specs.Views.{forwarded}
use Rattle.world_laws.specs.Seated.Remembers.{nothing}
use Rattle.world_laws.specs.Seated.Sits.{unchanged}
use Rattle.world_laws.proofs.Ending.{ended_are_in_order_new}
use Rattle.world_laws.proofs.Usual.{channel}

-- of a mobile and a connection of these numbers
abbrev line_up_of : World → ℕ → ℕ → Option LineUp
line_up_of w mobile number = option_and_then (λ p. option_map (λ e. line_up w.actors p e.connection) (entry_of w.actors.controller number)) (mobile_of w.actors mobile)

-- the second message is in the air, the third waits behind it, and nothing is missing
abbrev second_in_air : Seat → Bool → List LineTenure → LineTenure → LineTenure → List (List ℕ) → List (List ℕ) → LineUp
second_in_air seat changing old serving target out taken = record {
  sent = (hex "05 24 71") ∷ (hex "03 05") ∷ (hex "03 0f") ∷ [];
  link = record { waiting = (hex "03 8f") ∷ []; air = Reached (hex "03 45") };
  seat = seat;
  is_intact = true;
  is_opening = false;
  commands = 0;
  is_changing = changing;
  is_confirmed = true;
  old = old;
  serving = serving;
  target = target;
  out = out;
  taken = taken;
}

-- a message is with the station and not acknowledged; the next waits
abbrev sending : World
sending = after_all opened (Upper 1 Zero (hex "03 05") ∷ AirUp 1 Zero ∷ Upper 1 Zero (hex "03 0f") ∷ Upper 1 Three (hex "09 01") ∷ AirUp 1 Three ∷ [])

sending_is : line_up_of sending 1 1 ≡ Some (second_in_air on_serving false []
    (record { hold = []; items = brought (hex "03 45") ∷ []; is_lost = false; is_done = false }) fresh [] ((hex "05 24 71") ∷ []))
unfolding on_literals
sending_is = refl

-- a mobile that was called arrived on its channel with a PAGING RESPONSE, which its station then
-- makes an ESTABLISH INDICATION of
abbrev answering : World
answering = after_all (new_world usual_settings) (Connect 1 1 (hex "06 27 00") true ∷ BasePush 1 ∷ Handle ∷ BaseTakes 1 ∷ BasePush 1 ∷ Handle ∷ BaseTakes 1 ∷ AirUp 1 Zero ∷ [])

-- it is still to open, though that message of radio resource management is on its way
answering_opens : option_map (λ l. l.is_opening) (line_up_of answering 1 1) ≡ Some true
unfolding on_literals
answering_opens = refl

answering_brings : option_map (λ l. controls_in l.serving.items) (line_up_of answering 1 1) ≡ Some 1
unfolding on_literals
answering_brings = refl

-- and none is behind it once the controller put CR
answered_opened : option_map (λ l. l.is_opening) (line_up_of (after_all answering (BasePush 1 ∷ Handle ∷ [])) 1 1) ≡ Some false
unfolding on_literals
answered_opened = refl

answered_brings : option_map (λ l. controls_in l.serving.items) (line_up_of (after_all answering (BasePush 1 ∷ Handle ∷ [])) 1 1) ≡ Some 0
unfolding on_literals
answered_brings = refl

-- the second message waits for the switch, and the COMMAND for the station
abbrev at_command : World
at_command = after_all sending (SwitchDoes (Assign 1) ∷ BasePush 0 ∷ Handle ∷ BaseTakes 1 ∷ BasePush 1 ∷ Handle ∷ BasePush 1 ∷ BasePush 1 ∷ Handle ∷ Handle ∷ BasePush 1 ∷ Handle ∷ [])

line_up_at_command : option_map (λ l. l.out) (line_up_of at_command 1 1) ≡ Some ((hex "03 45") ∷ [])
unfolding on_literals
line_up_at_command = refl

commands_at_command : option_map (λ l. l.commands) (line_up_of at_command 1 1) ≡ Some 1
unfolding on_literals
commands_at_command = refl

changes_at_command : option_map (λ l. l.is_changing) (line_up_of at_command 1 1) ≡ Some true
unfolding on_literals
changes_at_command = refl

down_at_command : map (λ a. a.message) (going_down (at_command).actors (place_at 1 0x41)) ≡ (hex "06 2e 0a 20 14 00") ∷ []
unfolding on_literals
down_at_command = refl

leads_at_command : map (λ a. a.target) (going_down (at_command).actors (place_at 1 0x41)) ≡ Some (record { at = place_at 1 0x0a; number = 1 }) ∷ []
unfolding on_literals
leads_at_command = refl

none_down_elsewhere : going_down (at_command).actors (place_at 1 0x0a) ≡ []
unfolding on_literals
none_down_elsewhere = refl

-- from the outbox into the air, and from there into the mobile's memory
into_the_air : map (λ a. a.target) (going_down (after_all at_command (BaseTakes 1 ∷ [])).actors (place_at 1 0x41)) ≡ Some (record { at = place_at 1 0x0a; number = 1 }) ∷ []
unfolding on_literals
into_the_air = refl

still_one : option_map (λ l. l.commands) (line_up_of (after_all at_command (BaseTakes 1 ∷ AirDown 1 ∷ [])) 1 1) ≡ Some 1
unfolding on_literals
still_one = refl

-- it follows, and arrives on the target: COMPLETE, and the message that wasn't acknowledged
abbrev come : World
come = after_all at_command (BaseTakes 1 ∷ AirDown 1 ∷ Move 1 ∷ Arrive 1 ∷ AirUp 1 Zero ∷ AirAck 1 Zero ∷ AirUp 1 Zero ∷ BasePush 1 ∷ BasePush 1 ∷ [])

come_is : line_up_of come 1 1 ≡ Some (second_in_air on_target true [] fresh
    (record { hold = []; items = brought (hex "06 29 00") ∷ brought (hex "03 45") ∷ []; is_lost = false; is_done = false })
    ((hex "03 45") ∷ []) ((hex "05 24 71") ∷ []))
unfolding on_literals
come_is = refl

come_line : option_map line (line_up_of come 1 1) ≡ Some ((hex "05 24 71") ∷ (hex "03 45") ∷ (hex "03 45") ∷ [])
unfolding on_literals
come_line = refl

-- the target serves: the message is held while the old channel, whose RF CHANNEL RELEASE ACK is on
-- its way, drains
abbrev draining : World
draining = after_all come (Handle ∷ Handle ∷ BasePush 1 ∷ Handle ∷ SwitchTakes ∷ BaseTakes 1 ∷ BasePush 1 ∷ [])

draining_is : line_up_of draining 1 1 ≡ Some (second_in_air on_serving false (record { hold = []; items = released ∷ []; is_lost = false; is_done = false } ∷ [])
    (record { hold = (hex "03 45") ∷ []; items = []; is_lost = false; is_done = false }) fresh [] ((hex "05 24 71") ∷ (hex "03 45") ∷ []))
unfolding on_literals
draining_is = refl

-- where the station's link breaks, an old channel whose RF CHANNEL RELEASE ACK is in the inbox
-- lacks nothing, the serving one may
broken_serving : option_map (λ l. map (λ t. t.is_lost) l.old) (line_up_of (after_all draining (BaseDown 1 ∷ [])) 1 1) ≡ Some (false ∷ [])
unfolding on_literals
broken_serving = refl

serving_may_lack : option_map (λ l. l.serving.is_lost) (line_up_of (after_all draining (BaseDown 1 ∷ [])) 1 1) ≡ Some true
unfolding on_literals
serving_may_lack = refl

not_intact : option_map (λ l. l.is_intact) (line_up_of (after_all draining (BaseDown 1 ∷ [])) 1 1) ≡ Some false
unfolding on_literals
not_intact = refl

-- before its RF CHANNEL RELEASE ACK was made the old one may lack something too
broken_old : option_map (λ l. map (λ t. t.is_lost) l.old) (line_up_of (after_all come (Handle ∷ Handle ∷ BaseDown 1 ∷ [])) 1 1) ≡ Some (true ∷ [])
unfolding on_literals
broken_old = refl

-- a target that the mobile didn't arrive on does no harm
target_not_reached : option_map (λ l. l.seat) (line_up_of (after_all at_command (BaseTakes 1 ∷ AirDown 1 ∷ Move 1 ∷ [])) 1 1) ≡ Some moving
unfolding on_literals
target_not_reached = refl

-- what is on its way is of its own channel
of_another_channel : coming_up (come).actors (place_at 1 0x41) ≡ []
unfolding on_literals
of_another_channel = refl

of_another_station : coming_up (come).actors (place_at 2 0x0a) ≡ []
unfolding on_literals
of_another_station = refl

-- ---- events in which the relay takes no part

beside : map is_beside_relay (Upper 1 Zero [] ∷ AirUp 1 Zero ∷ Move 1 ∷ BasePush 0 ∷ SwitchDoes (Clear 1) ∷ BaseTakes 1 ∷ Handle ∷ SwitchTakes ∷ BaseDown 1 ∷ []) ≡ true ∷ true ∷ true ∷ true ∷ true ∷ false ∷ false ∷ false ∷ false ∷ []
beside = refl

-- ---- the switch takes

carries_its_own : map (λ entry. carried_for 1 entry.out) (outbox_of (at_command).actors 0) ≡ ((hex "03 45") ∷ []) ∷ ((hex "09 01") ∷ []) ∷ []
unfolding on_literals forwarded
carries_its_own = refl

carries_of_no_other : map (λ entry. carried_for 2 entry.out) (outbox_of (at_command).actors 0) ≡ [] ∷ [] ∷ []
unfolding on_literals forwarded
carries_of_no_other = refl

took_before : taken_of (at_command).actors 1 ≡ (hex "05 24 71") ∷ []
unfolding on_literals forwarded
took_before = refl

takes_what_it_carries : taken_of (after_all at_command (SwitchTakes ∷ [])).actors 1 ≡ (hex "05 24 71") ∷ (hex "03 45") ∷ []
unfolding on_literals forwarded
takes_what_it_carries = refl

takes_of_no_other : taken_of (after_all at_command (SwitchTakes ∷ [])).actors 2 ≡ []
unfolding on_literals forwarded
takes_of_no_other = refl

-- ---- a connection and its mobile, lined up

-- The first two of the messages sent were taken. The second is held once more, the third waits in
-- the inbox, the station made the fourth, which is in the air, and the fifth waits.
abbrev spread : World
spread = after_all draining (AirAck 1 Zero ∷ AirUp 1 Zero ∷ BasePush 1 ∷ AirAck 1 Zero ∷ Upper 1 Zero (hex "03 10") ∷ Upper 1 Zero (hex "03 11") ∷ AirUp 1 Zero ∷ [])

abbrev spread_sent : List (List ℕ)
spread_sent = (hex "05 24 71") ∷ (hex "03 05") ∷ (hex "03 0f") ∷ (hex "03 10") ∷ (hex "03 11") ∷ []

at_0 : Carries 4 spread_sent 0 (hex "05 24 71")
at_0 = record { message = hex "05 24 71"; is_sent = refl; is_clear = record { is_flow = refl; cleared = refl }; carries = refl }

at_1 : Carries 4 spread_sent 1 (hex "03 45")
at_1 = record { message = hex "03 05"; is_sent = refl; is_clear = record { is_flow = refl; cleared = refl }; carries = refl }

at_2 : Carries 4 spread_sent 2 (hex "03 8f")
at_2 = record { message = hex "03 0f"; is_sent = refl; is_clear = record { is_flow = refl; cleared = refl }; carries = refl }

at_3 : Carries 4 spread_sent 3 (hex "03 d0")
at_3 = record { message = hex "03 10"; is_sent = refl; is_clear = record { is_flow = refl; cleared = refl }; carries = refl }

at_4 : Carries 4 spread_sent 4 (hex "03 11")
at_4 = record { message = hex "03 11"; is_sent = refl; is_clear = record { is_flow = refl; cleared = refl }; carries = refl }

-- its line-up, where the switch took these
abbrev spread_line_up : List (List ℕ) → LineUp
spread_line_up taken = record (second_in_air on_serving false (record { hold = []; items = released ∷ []; is_lost = false; is_done = false } ∷ [])
    (record { hold = (hex "03 45") ∷ []; items = brought (hex "03 8f") ∷ brought (hex "03 d0") ∷ []; is_lost = false; is_done = false })
    fresh [] taken) { sent = spread_sent; link = record { waiting = (hex "03 11") ∷ []; air = Reached (hex "03 d0") } }

spread_is_alive : Alive 4 (spread_line_up ((hex "05 24 71") ∷ (hex "03 45") ∷ []))
spread_is_alive = record {
  follows = carries_on (record {
    now = next at_0 (next at_1 (again refl at_1 (next at_2 (next at_3 (next at_4 (rise_over 5))))));
    anew = next at_0 (next at_1 (again refl at_1 (next at_2 (next at_3 (again refl at_3 (next at_4 (rise_over 5)))))));
  });
  first = refl;
  phase = rests remains refl;
  condition = sound;
  bare = refl;
}

-- where the switch took the third message without the second
skipping_is_not_alive : Alive 4 (spread_line_up ((hex "05 24 71") ∷ (hex "03 8f") ∷ [])) → ⊥
skipping_is_not_alive alive = let order = (is_in_order_alive (omega arith) alive).no_gap in cc

spread_is : line_up_of spread 1 1 ≡ Some (spread_line_up ((hex "05 24 71") ∷ (hex "03 45") ∷ []))
unfolding on_literals
spread_is = refl

-- the same as plain lists: connection 1, whose channel is 0A of station 1, and 41 before it
abbrev connection : Connection
connection = record (new_connection 1 (channel 1 0x0a) (record { access = 7; frame = 0 }) 0) {
  state = Live 0x800001 Draining;
  draining = record { channel = channel 1 0x41; is_done = false } ∷ [];
  up = record { limit = 32; tenures = empty_tenure ∷ record { zero = (hex "03 45") ∷ []; three = [] } ∷ [] };
}

-- in this tenure of the channel
abbrev mobile_in : ℕ → Mobile
mobile_in tenure = record {
  number = 1;
  end = record {
    modulus = 4;
    stage = Connected;
    place = OnChannel;
    sent = spread_sent;
    zero = record { waiting = (hex "03 11") ∷ []; air = Reached (hex "03 d0") };
    three = record { waiting = []; air = Empty };
  };
  accepts_sapi_three = true;
  seat = On (record { at = place_at 1 0x0a; number = tenure }) None;
  opens = false;
  received = [];
}

abbrev actors : List (List ℕ) → Actors
actors taken = record {
  modulus = 4;
  mobiles = mobile_in 3 ∷ [];
  stations = record {
    base = record { station = 1; active = hex "41 0a"; messages = data_indication 0x0a Zero (hex "03 d0") ∷ [] };
    spots = replicate 0x0a new_spot ++ record { tenure = 3; sapi_three_up = false; air = []; reports = 0 } ∷ [];
  } ∷ [];
  switch = record { modulus = 4; connections = record { peer = 1; number = 0x800001; stage = Open; reception = record { modulus = 4; taken = taken } } ∷ [] };
  switch_made = [];
  inbox = station_item 1 (RfChannelReleaseAck 0x41) ∷ station_item 1 (data_indication 0x0a Zero (hex "03 8f")) ∷ [];
  controller = new_controller usual_settings;
  links = new_link ∷ new_link ∷ [];
}

is_lined_up : LinedUp 4 (actors ((hex "05 24 71") ∷ (hex "03 45") ∷ [])) (mobile_in 3) connection
unfolding on_literals forwarded
is_lined_up = record {
  alive = spread_is_alive;
  sits = unchanged refl nothing;
  led = tt;
  none_on_target = tt;
  apart = ((refl, tt), (tt, tt));
  placed = ((λ h. absurd cc), ((λ h. absurd cc), tt));
}

skipping_is_not_lined_up : LinedUp 4 (actors ((hex "05 24 71") ∷ (hex "03 8f") ∷ [])) (mobile_in 3) connection → ⊥
unfolding on_literals forwarded
skipping_is_not_lined_up h = skipping_is_not_alive h.alive

-- nor is it in another tenure of its channel
in_another_tenure : LinedUp 4 (actors ((hex "05 24 71") ∷ (hex "03 45") ∷ [])) (mobile_in 4) connection → ⊥
unfolding on_literals forwarded
in_another_tenure h = no_seat h.sits where
  no_seat : Sits (actors ((hex "05 24 71") ∷ (hex "03 45") ∷ [])) (channel 1 0x0a) None (On (record { at = place_at 1 0x0a; number = 4 }) None) →
      ⊥
  no_seat (unchanged is remembers) = let number = ap (λ (t : ChannelTenure). t.number) is in absurd cc

-- ---- outputs that are another connection's: of connection 1, whose channel is 0A of station 1

abbrev one : Connection
one = record (new_connection 1 (channel 1 0x0a) (record { access = 7; frame = 0 }) 0) { state = Live 0x800001 Active }

-- DTAP of a connection, for the switch
abbrev dtap_of : ℕ → Out
dtap_of number = record { to = 0; conn = number; frame = record { stream = 0xfd; body = hex "06 80 00 01 00 01 05 01 00 02 03 45" } }

-- an ASSIGNMENT COMMAND on a channel of a station
abbrev command_on : ℕ → ℕ → Out
command_on station channel = record { to = station; conn = 2; frame = record { stream = 0x00; body = 0x03 ∷ 0x01 ∷ 0x01 ∷ channel ∷ 0x02 ∷ 0x00 ∷ 0x0b ∷ 0x00 ∷ 0x06 ∷ 0x06 ∷ 0x2e ∷ 0x0a ∷ 0x20 ∷ 0x14 ∷ 0x00 ∷ [] } }

abbrev leads_to : Option ChannelTenure
leads_to = Some (record { at = place_at 1 0x0b; number = 2 })

dtap_of_another : IsForOthers leads_to one (dtap_of 2)
unfolding on_literals forwarded
dtap_of_another = record { carries = refl; leads = ((λ h. absurd cc), tt) }

dtap_of_its_own : IsForOthers leads_to one (dtap_of 1) → ⊥
unfolding on_literals forwarded
dtap_of_its_own h = let carried = h.carries in absurd cc

command_on_its_channel : IsForOthers leads_to one (command_on 1 0x0a) → ⊥
unfolding on_literals forwarded
command_on_its_channel h = let led = h.leads.0 refl in absurd cc

command_that_leads_nowhere : IsForOthers None one (command_on 1 0x0a)
unfolding on_literals forwarded
command_that_leads_nowhere = record { carries = refl; leads = ((λ h. refl), tt) }

command_on_another_channel : IsForOthers leads_to one (command_on 1 0x41)
unfolding on_literals forwarded
command_on_another_channel = record { carries = refl; leads = ((λ h. refl), tt) }

command_at_another_station : IsForOthers leads_to one (command_on 2 0x0a)
unfolding on_literals forwarded
command_at_another_station = record { carries = refl; leads = ((λ h. absurd cc), tt) }

-- ---- a connection that closed

-- where the switch took the third message without the second, it isn't in order
skipping_is_out_of_order : HasEnded 4 (actors ((hex "05 24 71") ∷ (hex "03 8f") ∷ [])) 1 1 → ⊥
unfolding on_literals forwarded
skipping_is_out_of_order ended = let order = (ended_are_in_order_new 4 (actors ((hex "05 24 71") ∷ (hex "03 8f") ∷ [])) 1 1 (omega arith) ended).no_gap in cc
