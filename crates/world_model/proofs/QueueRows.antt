-- SPDX-License-Identifier: MIT OR Apache-2.0
-- The queues of the relay, breaks of links, and the switch.
use Rattle.world_model.proofs.Prelude.{◌≡◌, true, false, [], ◌∷◌, map, replicate, Some, None, refl, place_at, usual_settings, Zero, Three}
use Rattle.world_model.proofs.Prelude.{Parameters, eager_settings, Upper, Connect, AirUp, AirAck, AirDown, Move, Touch, Arrive, BaseTakes}
use Rattle.world_model.proofs.Prelude.{BasePush, Handle, SwitchTakes, SwitchDoes, Tick, BaseDown, Report, Assign, Clear, Dtap, World}
use Rattle.world_model.proofs.Prelude.{new_world, with_outbox, outbox_of}
use Rattle.octets.proofs.Hex.{hex}
use Rattle.world_model.specs.Views.{sent, taken, accepted, unnumbered, progress_of}
use Rattle.world_model.proofs.Worlds.{on_literals, after_all, bodies, made_bodies, takes}
use Rattle.world_model.proofs.Rows.{opened, opened_eager}
use Rattle.bssmap_codec.specs.SccpText.{sccp_text}
use Rattle.ruled_relay.specs.declared.item.What.TheVariants.{Down}

queues_are_empty : map (takes (new_world usual_settings)) (BasePush 0 ∷ BasePush 1 ∷ BasePush 2 ∷ BasePush 3 ∷ Handle ∷ SwitchTakes ∷ []) ≡ false ∷ false ∷ false ∷ false ∷ false ∷ false ∷ []
unfolding on_literals
queues_are_empty = refl

-- the inbox has the items of all sources, in the order in which they arrived
abbrev pub two_ask : World
two_ask = after_all (new_world usual_settings) (Connect 1 1 (hex "05 24 71") true ∷ Connect 2 2 (hex "05 24 71") true ∷ Connect 3 1 (hex "05 24 71") true ∷ BasePush 2 ∷ BasePush 1 ∷ [])

inbox_in_order : map (λ item. item.source) (two_ask).actors.inbox ≡ 2 ∷ 1 ∷ []
unfolding on_literals
inbox_in_order = refl

others_wait : made_bodies two_ask 1 ≡ (hex "0c 13 01 88 13 03 00 00 11 00") ∷ []
unfolding on_literals
others_wait = refl

each_has_its_own : map (takes two_ask) (BasePush 0 ∷ BasePush 1 ∷ BasePush 2 ∷ Handle ∷ []) ≡ false ∷ true ∷ false ∷ true ∷ []
unfolding on_literals
each_has_its_own = refl

first_is_handled : bodies (after_all two_ask (Handle ∷ [])) 2 ≡ (hex "08 21 01 41 03 00 06 04 00 03 01 00") ∷ []
unfolding on_literals
first_is_handled = refl

second_is_not : bodies (after_all two_ask (Handle ∷ [])) 1 ≡ []
unfolding on_literals
second_is_not = refl

next_waits : map (λ item. item.source) ((after_all two_ask (Handle ∷ []))).actors.inbox ≡ 1 ∷ []
unfolding on_literals
next_waits = refl

-- time passes for the controller
abbrev pub unanswered : World
unanswered = after_all (new_world usual_settings) (Connect 1 1 (hex "05 24 71") true ∷ BasePush 1 ∷ Handle ∷ Tick 2999 ∷ [])

not_yet : bodies unanswered 1 ≡ (hex "08 21 01 41 03 00 06 04 00 03 01 00") ∷ []
unfolding on_literals
not_yet = refl

then_it_expires : bodies (after_all unanswered (Tick 1 ∷ [])) 1 ≡ (hex "08 21 01 41 03 00 06 04 00 03 01 00") ∷ (hex "08 2e 01 41") ∷ []
unfolding on_literals
then_it_expires = refl

time_always_passes : map (takes (new_world usual_settings)) (Tick 0 ∷ Tick 4294967295 ∷ []) ≡ true ∷ true ∷ []
unfolding on_literals
time_always_passes = refl

-- a command of the controller leads to the channel whose activation was acknowledged, and no other
-- message leads anywhere
command_leads_to_target : map (λ entry. entry.target) (outbox_of ((after_all opened_eager (Report 1 (hex "14 14 00 57 02 40 00 00 00 00 00 00 00 00 00 00") ∷ BasePush 1 ∷ Handle ∷ BaseTakes 2 ∷ BasePush 2 ∷ Handle ∷ []))).actors 1) ≡ Some (record { at = place_at 2 0x41; number = 1 }) ∷ []
unfolding on_literals
command_leads_to_target = refl

text_leads_nowhere : map (λ entry. entry.target) (outbox_of ((after_all opened (SwitchDoes (Dtap 1 Zero (hex "06 2e 0a 20 14 00")) ∷ BasePush 0 ∷ Handle ∷ []))).actors 1) ≡ None ∷ []
unfolding on_literals
text_leads_nowhere = refl

assignment_leads_nowhere : map (λ entry. entry.target) (outbox_of ((after_all (new_world usual_settings) (Connect 1 1 (hex "05 24 71") true ∷ BasePush 1 ∷ Handle ∷ BaseTakes 1 ∷ BasePush 1 ∷ Handle ∷ []))).actors 1) ≡ None ∷ []
unfolding on_literals
assignment_leads_nowhere = refl

-- a break drops what was made and what the outbox has; what is in the inbox remains
abbrev pub busy : World
busy = after_all opened (Upper 1 Zero (hex "03 05") ∷ AirUp 1 Zero ∷ Connect 2 1 (hex "05 24 72") true ∷ Connect 3 2 (hex "05 24 71") true ∷ BasePush 2 ∷ Handle ∷ SwitchDoes (Dtap 1 Zero (hex "83 02")) ∷ BasePush 0 ∷ Handle ∷ SwitchDoes (Dtap 1 Zero (hex "83 03")) ∷ BasePush 1 ∷ [])

has_made : made_bodies busy 1 ≡ (hex "0c 13 01 88 13 02 00 00 11 00") ∷ []
unfolding on_literals
has_made = refl

has_put : bodies busy 1 ≡ (hex "03 01 01 41 02 00 0b 00 02 83 02") ∷ []
unfolding on_literals
has_put = refl

abbrev pub station_broken : World
station_broken = after_all busy (BaseDown 1 ∷ [])

made_is_dropped : made_bodies station_broken 1 ≡ []
unfolding on_literals
made_is_dropped = refl

outbox_is_dropped : bodies station_broken 1 ≡ []
unfolding on_literals
outbox_is_dropped = refl

other_outbox_remains : bodies station_broken 2 ≡ (hex "08 21 01 41 03 00 06 04 00 03 01 00") ∷ []
unfolding on_literals
other_outbox_remains = refl

end_comes_last : map (λ item. item.source) (station_broken).actors.inbox ≡ 1 ∷ 1 ∷ []
unfolding on_literals
end_comes_last = refl

end_is_put : (((after_all busy (Handle ∷ BaseDown 1 ∷ []))).actors).inbox ≡ record { source = 1; what = Down } ∷ []
unfolding on_literals
end_is_put = refl

breaks_once : map (takes station_broken) (BaseDown 0 ∷ BaseDown 1 ∷ BaseDown 2 ∷ BaseDown 3 ∷ BaseTakes 1 ∷ BasePush 0 ∷ BasePush 1 ∷ Handle ∷ SwitchDoes (Assign 1) ∷ []) ≡ true ∷ false ∷ true ∷ false ∷ false ∷ true ∷ false ∷ true ∷ true ∷ []
unfolding on_literals
breaks_once = refl

relays_what_came_before : bodies (after_all station_broken (Handle ∷ [])) 0 ≡ (hex "06 80 00 01 00 01 05 01 00 02 03 45") ∷ []
unfolding on_literals
relays_what_came_before = refl

then_it_ends : bodies (after_all station_broken (Handle ∷ Handle ∷ [])) 0 ≡ (hex "06 80 00 01 00 01 05 01 00 02 03 45") ∷ (hex "06 80 00 01 00 01 06 00 04 22 04 01 20") ∷ []
unfolding on_literals
then_it_ends = refl

no_output_joins : bodies (after_all station_broken (Handle ∷ Handle ∷ BasePush 0 ∷ Handle ∷ Tick 5000 ∷ [])) 1 ≡ []
unfolding on_literals
no_output_joins = refl

no_output_joins_before_it_is_handled : bodies (after_all (new_world usual_settings) (Connect 1 1 (hex "05 24 71") true ∷ BasePush 1 ∷ BaseDown 1 ∷ Handle ∷ [])) 1 ≡ []
unfolding on_literals
no_output_joins_before_it_is_handled = refl

abbrev pub switch_broken : World
switch_broken = after_all station_broken (Handle ∷ BaseDown 0 ∷ [])

switch_outbox_is_dropped : bodies switch_broken 0 ≡ []
unfolding on_literals
switch_outbox_is_dropped = refl

switch_is_silent : map (takes switch_broken) (BasePush 0 ∷ SwitchTakes ∷ SwitchDoes (Assign 1) ∷ SwitchDoes (Clear 1) ∷ SwitchDoes (Dtap 1 Zero (hex "83 02")) ∷ BaseDown 0 ∷ []) ≡ false ∷ false ∷ false ∷ false ∷ false ∷ false ∷ []
unfolding on_literals
switch_is_silent = refl

switch_keeps_its_lists : taken (switch_broken).actors 1 ≡ Some ((hex "05 24 71") ∷ [])
unfolding on_literals
switch_keeps_its_lists = refl

-- the switch acts on its open connections
switch_does : map (takes opened) (SwitchDoes (Assign 1) ∷ SwitchDoes (Clear 1) ∷ SwitchDoes (Dtap 1 Zero (hex "83 02")) ∷ SwitchDoes (Dtap 1 Three (hex "09 02")) ∷ SwitchDoes (Assign 0) ∷ SwitchDoes (Assign 2) ∷ SwitchDoes (Clear 2) ∷ SwitchDoes (Dtap 2 Zero (hex "83 02")) ∷ []) ≡ true ∷ true ∷ true ∷ true ∷ false ∷ false ∷ false ∷ false ∷ []
unfolding on_literals
switch_does = refl

sends_1_to_251 : map (λ message. takes opened (SwitchDoes (Dtap 1 Zero message))) ([] ∷ (0x83 ∷ []) ∷ replicate 251 0x83 ∷ replicate 252 0x83 ∷ []) ≡ false ∷ true ∷ true ∷ false ∷ []
unfolding on_literals
sends_1_to_251 = refl

switch_makes : map sccp_text ((after_all opened (SwitchDoes (Assign 1) ∷ SwitchDoes (Dtap 1 Three (hex "09 02")) ∷ SwitchDoes (Clear 1) ∷ []))).actors.switch_made ≡ (hex "06 00 00 01 00 01 08 00 06 01 0b 03 01 08 01") ∷ (hex "06 00 00 01 00 01 05 01 03 02 09 02") ∷ (hex "06 00 00 01 00 01 06 00 04 20 04 01 09") ∷ []
unfolding on_literals
switch_makes = refl

not_after_a_clear : map (takes (after_all opened (SwitchDoes (Clear 1) ∷ []))) (SwitchDoes (Assign 1) ∷ SwitchDoes (Clear 1) ∷ SwitchDoes (Dtap 1 Zero (hex "83 02")) ∷ []) ≡ false ∷ false ∷ false ∷ []
unfolding on_literals
not_after_a_clear = refl

takes_what_is_not_read : taken ((after_all (record opened { actors = with_outbox 0 (record { out = record { to = 0; conn = 1; frame = record { stream = 253; body = (hex "06 80 00 01 00 01 ff 01 00 02 03 45") } }; target = None } ∷ []) (opened).actors }) (SwitchTakes ∷ []))).actors 1 ≡ Some ((hex "05 24 71") ∷ [])
unfolding on_literals
takes_what_is_not_read = refl

takes_other_streams_too : taken ((after_all (record opened { actors = with_outbox 0 (record { out = record { to = 0; conn = 1; frame = record { stream = 254; body = (hex "06 80 00 01 00 01 05 01 00 02 03 45") } }; target = None } ∷ []) (opened).actors }) (SwitchTakes ∷ []))).actors 1 ≡ Some ((hex "05 24 71") ∷ [])
unfolding on_literals
takes_other_streams_too = refl

takes_dtap : taken ((after_all (record opened { actors = with_outbox 0 (record { out = record { to = 0; conn = 1; frame = record { stream = 253; body = (hex "06 80 00 01 00 01 05 01 00 02 03 45") } }; target = None } ∷ []) (opened).actors }) (SwitchTakes ∷ []))).actors 1 ≡ Some ((hex "05 24 71") ∷ (hex "03 45") ∷ [])
unfolding on_literals
takes_dtap = refl

-- how far a flow has advanced, and how many events were not taken
progresses : progress_of (opened).actors 1 ≡ Some (Some 1)
unfolding on_literals
progresses = refl

counts : ((after_all opened (Handle ∷ AirUp 9 Zero ∷ Tick 0 ∷ BasePush 2 ∷ []))).not_taken ≡ 3
unfolding on_literals
counts = refl

counts_no_further : (after_all (record (new_world usual_settings) { not_taken = 18446744073709551614 }) (Handle ∷ Handle ∷ Handle ∷ [])).not_taken ≡ 18446744073709551615
unfolding on_literals
counts_no_further = refl

leaves_the_actors : ((after_all opened (Handle ∷ []))).actors.inbox ≡ []
unfolding on_literals
leaves_the_actors = refl

-- numbers modulo 2
abbrev release98_settings : Parameters
release98_settings = record eager_settings { network = record { mcc = eager_settings.network.mcc; mnc = eager_settings.network.mnc; release98 = true } }

abbrev pub modulo_2 : World
modulo_2 = after_all (new_world release98_settings) (Connect 1 1 (hex "05 24 71") true ∷ BasePush 1 ∷ Handle ∷ BaseTakes 1 ∷ BasePush 1 ∷ Handle ∷ BaseTakes 1 ∷ AirUp 1 Zero ∷ BasePush 1 ∷ Handle ∷ SwitchTakes ∷ AirAck 1 Zero ∷ BasePush 0 ∷ Handle ∷ Report 1 (hex "14 14 00 57 02 40 00 00 00 00 00 00 00 00 00 00") ∷ BasePush 1 ∷ Handle ∷ BaseTakes 2 ∷ BasePush 2 ∷ Handle ∷ Upper 1 Zero (hex "03 05") ∷ AirUp 1 Zero ∷ AirAck 1 Zero ∷ Upper 1 Zero (hex "03 0f") ∷ BaseTakes 1 ∷ AirDown 1 ∷ Move 1 ∷ Touch 1 ∷ Arrive 1 ∷ AirUp 1 Zero ∷ AirAck 1 Zero ∷ AirUp 1 Zero ∷ BasePush 2 ∷ Handle ∷ BasePush 2 ∷ Handle ∷ BasePush 2 ∷ Handle ∷ BasePush 2 ∷ Handle ∷ BasePush 1 ∷ Handle ∷ BaseTakes 1 ∷ BasePush 1 ∷ Handle ∷ SwitchTakes ∷ SwitchTakes ∷ SwitchTakes ∷ [])

modulo_2_sent : sent (modulo_2).actors 1 ≡ Some ((hex "05 24 71") ∷ (hex "03 05") ∷ (hex "03 0f") ∷ [])
unfolding on_literals
modulo_2_sent = refl

modulo_2_taken : taken (modulo_2).actors 1 ≡ Some ((hex "05 24 71") ∷ (hex "03 45") ∷ (hex "03 0f") ∷ [])
unfolding on_literals
modulo_2_taken = refl

modulo_2_accepted : accepted (modulo_2).actors 1 ≡ Some ((hex "05 24 71") ∷ (hex "03 05") ∷ (hex "03 0f") ∷ [])
unfolding on_literals
modulo_2_accepted = refl

modulo_2_unnumbered : unnumbered (modulo_2).actors 1 ≡ Some ([])
unfolding on_literals
modulo_2_unnumbered = refl

modulo_2_not_taken : (modulo_2).not_taken ≡ 0
unfolding on_literals
modulo_2_not_taken = refl
