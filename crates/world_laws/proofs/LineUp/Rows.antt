-- SPDX-License-Identifier: MIT OR Apache-2.0
-- Definitions at literal line-ups.
use Rattle.world_laws.proofs.Prelude.{◌≡◌, ℕ, ◌+◌, ◌≤◌, true, false, Some, List, [], ◌∷◌, refl, arith, Carries, next, Empty, Given, Reached}
use Rattle.world_laws.proofs.Prelude.{DataLinkState, again, accepted_list, progress, LineUp, fresh, messages_in, part_of, parts_of, line}
use Rattle.world_laws.proofs.Prelude.{controls_of, controls_in, texts_in, released, on_serving, on_target, moving, Alive, rises, remains}
use Rattle.world_laws.proofs.Prelude.{sound, lost_serving, arriving, breaks_target, by_mobile, by_relaying, by_change, by_break, none}
use Rattle.world_laws.proofs.Prelude.{first}
use Rattle.octets.proofs.Hex.{hex}
use Rattle.dtap_codec.specs.Places.Rise.{over}
use Rattle.world_laws.specs.LineUp.Places.{LineTenure}
use Rattle.world_laws.specs.LineUp.Places.Item.{brought}
use Rattle.world_laws.specs.LineUp.Alive.{ChangePhase}
use Rattle.world_laws.specs.LineUp.Alive.Follows.{carries_on}
use Rattle.world_laws.specs.LineUp.Alive.ChangePhase.{opens, rests, arrives as has_arrived}
use Rattle.world_laws.specs.LineUp.Opening.{opened}
use Rattle.world_laws.specs.LineUp.MobileStep.MobileStep.{taken_on_serving, taken_on_target, acknowledged, follows_command, arrives}
use Rattle.world_laws.specs.LineUp.MobileStep.MobileStep.{returns}
use Rattle.world_laws.specs.LineUp.RelayStep.RelayStep.{relays_serving, holds_serving, relays_oldest, confirms}
use Rattle.world_laws.specs.LineUp.ChangeStep.ChangeStep.{commands, completes, reverts, is_released, releases, leaves_to_serving}
use Rattle.world_laws.specs.LineUp.Steps.{Steps}
use Rattle.world_laws.proofs.LineUp.Ordering.{is_in_order_alive}
use Rattle.world_laws.proofs.Usual.{paging_response, opening_sent}

-- what the upper layers sent, and each message with its number modulo 4
abbrev sent : List (List ℕ)
sent = (hex "05 24") ∷ (hex "03 05") ∷ (hex "03 06") ∷ (hex "03 07") ∷ []

abbrev m0 : List ℕ
m0 = hex "05 24"

abbrev m1 : List ℕ
m1 = hex "03 45"

abbrev m2 : List ℕ
m2 = hex "03 86"

abbrev m3 : List ℕ
m3 = hex "03 c7"

abbrev complete : List ℕ
complete = hex "06 2c 00"

abbrev short_message : List ℕ
short_message = hex "09 01"

-- ---- parts

messages : messages_in (brought m1 ∷ released ∷ brought m2 ∷ []) ≡ m1 ∷ m2 ∷ []
messages = refl

part : part_of (record { hold = m0 ∷ short_message ∷ []; items = brought complete ∷ brought m1 ∷ released ∷ []; is_lost = false; is_done = false }) ≡ m0 ∷ m1 ∷ []
part = refl

abbrev holds : List (List ℕ) → LineTenure
holds messages = record { hold = messages; items = []; is_lost = false; is_done = true }

abbrev breaks_with : List (List ℕ) → LineTenure
breaks_with messages = record { hold = messages; items = []; is_lost = true; is_done = false }

parts : parts_of (holds (m0 ∷ []) ∷ holds [] ∷ holds (m1 ∷ m2 ∷ []) ∷ []) ≡ m0 ∷ m1 ∷ m2 ∷ []
parts = refl

parts_behind_break : parts_of (holds (m0 ∷ []) ∷ breaks_with (m1 ∷ []) ∷ holds (m2 ∷ []) ∷ []) ≡ m0 ∷ m1 ∷ []
parts_behind_break = refl

counts : (controls_of (complete ∷ m0 ∷ complete ∷ []) ≡ 2) × (controls_in (brought m0 ∷ brought complete ∷ released ∷ []) ≡ 1) × (texts_in (brought complete ∷ brought m0 ∷ released ∷ brought m1 ∷ []) ≡ 2)
counts = (refl, refl, refl)

count_of_answer : (controls_of (paging_response ∷ m0 ∷ []) ≡ 1) × (controls_in (brought paging_response ∷ released ∷ []) ≡ 1)
count_of_answer = (refl, refl)

-- ---- a line-up in the middle of a handover: message 2 was taken on the old channel, and is sent
-- again on the new one

abbrev in_handover : LineUp
in_handover = record {
  sent = sent;
  link = record { waiting = m3 ∷ []; air = Reached m2 };
  seat = on_target;
  is_intact = true;
  is_opening = false;
  commands = 0;
  is_changing = true;
  is_confirmed = true;
  old = record { hold = []; items = brought m1 ∷ released ∷ []; is_lost = false; is_done = false } ∷ [];
  serving = record { hold = []; items = brought m2 ∷ []; is_lost = false; is_done = false };
  target = record { hold = []; items = brought complete ∷ brought m2 ∷ []; is_lost = false; is_done = false };
  out = m0 ∷ short_message ∷ [];
  taken = [];
}

line_in_handover : line in_handover ≡ m0 ∷ m1 ∷ m2 ∷ m2 ∷ []
line_in_handover = refl

coming_in_handover : arriving in_handover ≡ m0 ∷ m1 ∷ m2 ∷ m2 ∷ []
coming_in_handover = refl

at_0 : Carries 4 sent 0 m0
at_0 = record { message = hex "05 24"; is_sent = refl; is_clear = record { is_flow = refl; cleared = refl }; carries = refl }

at_1 : Carries 4 sent 1 m1
at_1 = record { message = hex "03 05"; is_sent = refl; is_clear = record { is_flow = refl; cleared = refl }; carries = refl }

at_2 : Carries 4 sent 2 m2
at_2 = record { message = hex "03 06"; is_sent = refl; is_clear = record { is_flow = refl; cleared = refl }; carries = refl }

at_3 : Carries 4 sent 3 m3
at_3 = record { message = hex "03 07"; is_sent = refl; is_clear = record { is_flow = refl; cleared = refl }; carries = refl }

-- message 2 once more, since it wasn't acknowledged, and then message 3
handover_is_alive : Alive 4 in_handover
handover_is_alive = record {
  follows = carries_on (record {
    now = next at_0 (next at_1 (next at_2 (again refl at_2 (next at_3 (over 4)))));
    anew = next at_0 (next at_1 (next at_2 (again refl at_2 (again refl at_2 (next at_3 (over 4))))));
  });
  first = refl;
  phase = has_arrived remains refl (omega arith);
  condition = sound;
  bare = refl;
}

-- where the serving channel is lost, what arrived of the target isn't on the line
abbrev in_break : LineUp
in_break = record in_handover { serving = record { hold = []; items = []; is_lost = true; is_done = false }; is_intact = false }

line_in_break : line in_break ≡ m0 ∷ m1 ∷ []
line_in_break = refl

break_is_alive : Alive 4 in_break
break_is_alive = record { follows = rises 2 (next at_0 (next at_1 (over 2))); first = refl; phase = has_arrived remains refl (omega arith); condition = lost_serving; bare = refl }

-- ---- before the connection request: the initial message is still to arrive, and is a PAGING
-- RESPONSE

abbrev to_open : LineUp
to_open = record {
  sent = sent;
  link = record { waiting = paging_response ∷ m0 ∷ m1 ∷ m2 ∷ m3 ∷ []; air = Empty };
  seat = on_serving;
  is_intact = true;
  is_opening = true;
  commands = 0;
  is_changing = false;
  is_confirmed = false;
  old = [];
  serving = fresh;
  target = fresh;
  out = [];
  taken = [];
}

to_open_is_alive : Alive 4 to_open
to_open_is_alive = record {
  follows = carries_on (record {
    now = next at_0 (next at_1 (next at_2 (next at_3 (over 4))));
    anew = next at_0 (next at_1 (next at_2 (next at_3 (over 4))));
  });
  first = λ confirmed. refl;
  phase = opens remains refl;
  condition = sound;
  bare = refl;
}

-- it may be on its way up too
abbrev brought_answer : LineUp
brought_answer = record to_open { link = record { waiting = m0 ∷ m1 ∷ m2 ∷ m3 ∷ []; air = Reached paging_response }; serving = record fresh { items = brought paging_response ∷ [] } }

answer_is_taken : Steps 4 (record to_open { link = record { waiting = m0 ∷ m1 ∷ m2 ∷ m3 ∷ []; air = Given paging_response } }) brought_answer
answer_is_taken = first (by_mobile (taken_on_serving (record to_open { link = record { waiting = m0 ∷ m1 ∷ m2 ∷ m3 ∷ []; air = Given paging_response } }) paging_response refl refl)) (none brought_answer)

-- but behind the connection request no message like it is left, on its way up or in the link
none_is_left : {serving link : ℕ} → 1 ≤ serving + link → ChangePhase false false 0 on_serving serving 0 0 link → ⊥
none_is_left some (rests here zero) = absurd (omega arith)

left_on_its_way : Alive 4 (record brought_answer { is_opening = false }) → ⊥
left_on_its_way alive = none_is_left (omega arith) alive.phase

left_in_the_link : Alive 4 (record to_open { is_opening = false }) → ⊥
left_in_the_link alive = none_is_left (omega arith) alive.phase

-- and while it is still to arrive no COMMAND is on its way
none_is_commanded : Alive 4 (record to_open { commands = 1 }) → ⊥
none_is_commanded alive = by alive.phase where
  by : ChangePhase true false 1 on_serving 0 0 0 1 → ⊥
  by (opens here zero) = absurd (omega arith)

-- ---- line-ups that aren't sound: the switch took what the filter judges a gap

abbrev with_taken : List (List ℕ) → LineUp
with_taken taken = record in_handover { taken = taken; out = [] }

gap_of_two : Alive 4 (with_taken (m0 ∷ m2 ∷ [])) → ⊥
gap_of_two alive = let order = (is_in_order_alive (omega arith) alive).no_gap in cc

-- from the last but one on it is no repeat
two_back : Alive 4 (with_taken (m0 ∷ m1 ∷ m2 ∷ m1 ∷ [])) → ⊥
two_back alive = let order = (is_in_order_alive (omega arith) alive).no_gap in cc

swapped : Alive 4 (with_taken (m1 ∷ m0 ∷ [])) → ⊥
swapped alive = let order = (is_in_order_alive (omega arith) alive).no_gap in cc

-- ---- a run: an initial message, CC, a handover on which message 1 is sent again, and the old
-- channel's end

abbrev no_more : DataLinkState
no_more = record { waiting = []; air = Reached m1 }

abbrev start : LineUp
start = opened opening_sent (record { waiting = m1 ∷ []; air = Reached m0 }) m0 []

abbrev was_acknowledged : LineUp
was_acknowledged = record start { link = record { waiting = m1 ∷ []; air = Empty } }

abbrev was_confirmed : LineUp
was_confirmed = record was_acknowledged { is_confirmed = true }

abbrev was_commanded : LineUp
was_commanded = record was_confirmed { is_changing = true; commands = 1 }

abbrev was_taken : LineUp
was_taken = record was_commanded { link = no_more; serving = record fresh { items = brought m1 ∷ [] } }

abbrev has_left : LineUp
has_left = record was_taken { seat = moving; commands = 0 }

abbrev is_there : LineUp
is_there = record has_left { seat = on_target; link = record { waiting = m1 ∷ []; air = Given complete } }

abbrev brought_complete : LineUp
brought_complete = record is_there { link = record { waiting = m1 ∷ []; air = Reached complete }; target = record fresh { items = brought complete ∷ [] } }

abbrev brought_again : LineUp
brought_again = record brought_complete { link = no_more; target = record fresh { items = brought complete ∷ brought m1 ∷ [] } }

abbrev completed : LineUp
completed = record brought_again {
  seat = on_serving;
  is_changing = false;
  old = record fresh { items = brought m1 ∷ [] } ∷ [];
  serving = record fresh { items = brought m1 ∷ [] };
  target = fresh;
}

abbrev was_held : LineUp
was_held = record completed { serving = record fresh { hold = m1 ∷ [] } }

abbrev was_relayed : LineUp
was_relayed = record was_held { old = fresh ∷ []; out = m0 ∷ m1 ∷ [] }

abbrev last : LineUp
last = record was_relayed { old = []; serving = fresh; out = m0 ∷ m1 ∷ m1 ∷ [] }

run : Steps 4 start last
run =
    first (by_mobile (acknowledged start)) (first (by_relaying (confirms was_acknowledged fresh)) (first (by_change (commands was_confirmed))
    (first (by_mobile (taken_on_serving was_commanded m1 refl refl)) (first (by_mobile (follows_command was_taken)) (first (by_mobile (arrives has_left complete refl))
    (first (by_mobile (taken_on_target is_there complete refl refl)) (first (by_mobile (acknowledged brought_complete))
    (first (by_mobile (taken_on_target (record brought_complete { link = record { waiting = m1 ∷ []; air = Empty } }) m1 refl refl))
    (first (by_change (completes brought_again fresh complete (brought m1 ∷ []) refl))
    (first (by_relaying (holds_serving completed (record fresh { items = brought m1 ∷ [] }) [] fresh m1 []))
    (first (by_relaying (relays_oldest was_held fresh [] m1 [])) (first (by_change (is_released was_relayed [] fresh [] refl))
    (first (by_change (releases was_relayed [] fresh [])) (first (by_change (leaves_to_serving was_relayed [])) (none last)))))))))))))))

-- the switch accepts both messages, once
accepted : (accepted_list 4 last.out ≡ opening_sent) × (progress 4 last.out ≡ Some 2)
accepted = (refl, refl)

-- ---- the mobile returns: FAILURE arrives behind what was taken before it left, and the same
-- message once more behind that

abbrev failure : List ℕ
failure = hex "06 28 6f"

abbrev has_returned : LineUp
has_returned = record has_left { seat = on_serving; link = record { waiting = m1 ∷ []; air = Given failure } }

abbrev brought_failure : LineUp
brought_failure = record has_returned { link = record { waiting = m1 ∷ []; air = Reached failure }; serving = record fresh { items = brought m1 ∷ brought failure ∷ [] } }

abbrev was_relayed_before : LineUp
was_relayed_before = record brought_failure { serving = record fresh { items = brought failure ∷ [] }; out = m0 ∷ m1 ∷ [] }

abbrev reverted : LineUp
reverted = record was_relayed_before { is_changing = false; serving = fresh }

run_back : Steps 4 has_left reverted
run_back =
    first (by_mobile (returns has_left failure refl)) (first (by_mobile (taken_on_serving has_returned failure refl refl))
    (first (by_relaying (relays_serving brought_failure fresh m1 (brought failure ∷ []))) (first (by_change (reverts was_relayed_before fresh failure [] refl)) (none reverted))))

-- ---- the target's link breaks: COMPLETE was put in the inbox before, the message behind it wasn't

abbrev target_broke : LineUp
target_broke = record brought_again { target = record fresh { items = brought complete ∷ []; is_lost = true }; is_intact = false }

break_of_target : Steps 4 brought_again target_broke
break_of_target = first (by_break (breaks_target brought_again fresh (brought complete ∷ []) (brought m1 ∷ []) remains)) (none target_broke)

-- then the old channel's message is still on the line, and the one that was dropped isn't
line_of_target_broke : (line brought_again ≡ m0 ∷ m1 ∷ m1 ∷ []) × (line target_broke ≡ m0 ∷ m1 ∷ [])
line_of_target_broke = (refl, refl)
