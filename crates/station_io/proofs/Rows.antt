-- SPDX-License-Identifier: MIT OR Apache-2.0
-- The definitions at literal links. Devices and gates are here just their octets and counts.
use Rattle.std.proofs.Common.{◌≡◌, ℕ, zero, suc, ◌+◌, Bool, true, false, List, [], ◌∷◌, ◌++◌, length, replicate, ◌≤◌, Option, Some, None, refl, sym, ap, ◌∙◌, subst, append_assoc, arith, length-append}
use Rattle.octets.proofs.Hex.{hex}
use mathlib.Core.Option.{some, some-injective, some-ne-none}
use lib.ListN.{get_elem?}
use Rattle.std.specs.declared.alloc.Global.{Global}
use Rattle.atomic_table.specs.Seated.{TableId}
use Rattle.controller_worker.specs.Moves.{AreOther, IsRefused, IsSent, Move, Part, takes, ticks, adds, refuses, frames_in, parts_of, refusals_in, taken_of, turn_at}
use Rattle.controller_worker.specs.Steps.{AreOfLinks, whats_of}
use Rattle.controller_model.specs.declared.step.Step.{Step}
use Rattle.controller_model.specs.declared.step.Step.TheVariants.{Take, Tick}
use Rattle.controller_model.specs.Controller.{Controller, new_controller}
use Rattle.controller_model.proofs.Lives.{usual_settings}
use Rattle.controller_model.proofs.OnLiterals.{on_literals}
use Rattle.ipa_framing.specs.declared.frame.Frame.{Frame}
use Rattle.link_workers.specs.declared.fault.IoFault.{IoFault}
use Rattle.link_workers.specs.declared.fault.IoFault.TheVariants.{FrameFault, GateShut, GivenUp, Memory, ReadFailed, WriteFailed}
use Rattle.link_workers.specs.Reading.{Ends, frames_text, given}
use Rattle.link_workers.specs.Writing.{WritesFrames}
use Rattle.ruled_relay.specs.declared.item.Item.{Item}
use Rattle.ruled_relay.specs.declared.item.What.{What}
use Rattle.ruled_relay.specs.declared.item.What.TheVariants as whats
use Rattle.ruled_relay.specs.declared.outbox.Line.{Line}
use Rattle.ruled_relay.specs.declared.outbox.Line.TheVariants as marks
use Rattle.ruled_relay.specs.Ends.{EndView}
use Rattle.ruled_relay.specs.Inbox.{PassView}
use Rattle.ruled_relay.specs.Outbox.{PutterView, TakerView}
use Rattle.ruled_relay.specs.Row.{EachAt}
use Rattle.ruled_relay.specs.Rule.{taking}
use Rattle.station_io.specs.declared.link.Link.{Link}
use Rattle.link_workers.specs.declared.reader.HasRead.{HasRead}
use Rattle.link_workers.specs.declared.writer.HasWritten.{HasWritten}
use Rattle.station_io.specs.Calls.{Calls, HasEnd}
use Rattle.station_io.specs.Done.{AreRead, AreWritten}
use Rattle.station_io.specs.Given.{Follows, HasRoom, all_given, given_back}
use Rattle.station_io.specs.Links.{HasCarried, Ended, LinkView, Relays, ended_view, fault_of, link_view}
use Rattle.station_io.specs.Pairs.{paired}
use Rattle.station_io.specs.Work.{AreNewOutboxes, AreNewQueues, readings, writings}

abbrev frame : ℕ → ℕ → Frame
frame stream octet = record { stream = stream; body = octet ∷ [] }

abbrev ping : Frame
ping = frame 0xfe 0x00

abbrev pong : Frame
pong = frame 0xfe 0x01

abbrev ping_octets : List ℕ
ping_octets = hex "00 01 fe 00"

abbrev pong_octets : List ℕ
pong_octets = hex "00 01 fe 01"

-- ---- which fault a link is given back with

fault_of_reader_first : fault_of (Some GateShut) (Some WriteFailed) true ≡ Some GateShut
fault_of_reader_first = refl

fault_of_writer_next : fault_of None (Some WriteFailed) true ≡ Some WriteFailed
fault_of_writer_next = refl

given_up_last : fault_of None None true ≡ Some GivenUp
given_up_last = refl

no_fault : fault_of None None false ≡ None
no_fault = refl

-- ---- lists side by side

pairs : paired (λ (x y : ℕ). x ∷ y ∷ []) (1 ∷ 2 ∷ []) (10 ∷ 20 ∷ []) ≡ (1 ∷ 10 ∷ []) ∷ (2 ∷ 20 ∷ []) ∷ []
pairs = refl

shorter_on_the_left : paired (λ (x y : ℕ). x ∷ y ∷ []) (1 ∷ []) (10 ∷ 20 ∷ []) ≡ (1 ∷ 10 ∷ []) ∷ []
shorter_on_the_left = refl

shorter_on_the_right : paired (λ (x y : ℕ). x ∷ y ∷ []) (1 ∷ 2 ∷ []) (10 ∷ []) ≡ (1 ∷ 10 ∷ []) ∷ []
shorter_on_the_right = refl

-- ---- what was written

writes_all : WritesFrames None (pong ∷ []) (Some (0x01 ∷ [])) (Some (hex "01 00 01 fe 01"))
writes_all = ((omega arith, tt), refl)

appended : (frames : List Frame) (old new : List ℕ) → WritesFrames None frames (Some old) (Some new) → new ≡ old ++ frames_text frames
appended frames old new writes = writes.1

writes_less_without_a_cause : WritesFrames None (pong ∷ []) (Some (0x01 ∷ [])) (Some (hex "01 00")) → ⊥
writes_less_without_a_cause bad = omega (arith, ap length (appended (pong ∷ []) (0x01 ∷ []) (hex "01 00") bad))

-- a writer ends by its device, for want of memory, or at a frame that is too long
gate_is_none_of_a_writer : WritesFrames (Some GateShut) (pong ∷ []) (Some []) (Some []) → ⊥
gate_is_none_of_a_writer bad = bad.0

no_frame_is_too_long : WritesFrames (Some FrameFault) (pong ∷ []) (Some []) (Some []) → ⊥
no_frame_is_too_long bad = bad.0 (omega arith, tt)

writes_less_after_a_fault : WritesFrames (Some WriteFailed) (pong ∷ []) (Some (0x01 ∷ [])) (Some (hex "01 00 01"))
writes_less_after_a_fault = (tt, (hex "00 01", hex "fe 01", refl, refl))

writes_the_second_alone : WritesFrames (Some WriteFailed) (pong ∷ []) (Some []) (Some (0x01 ∷ [])) → ⊥
writes_the_second_alone bad =
    let part = bad.1 in
    let first : 0x01 ∷ [] ≡ part.0 = part.3 in
    let whole : hex "00 01 fe 01" ≡ 0x01 ∷ part.1 = part.2 ∙ ap (λ l. l ++ part.1) (sym first) in
    absurd (cc whole)

-- ---- one link over moves of the call worker

abbrev start : Controller
start = new_controller usual_settings

abbrev ping_item : Item
ping_item = record { source = 1; what = whats.Frame ping }

abbrev down_item : ℕ → Item
down_item source = record { source = source; what = whats.Down }

-- the station asks whether somebody is there, and closes its link; then so does the switch
abbrev moves_of_both : List Move
moves_of_both = takes ping_item ∷ ticks 250 ∷ takes (down_item 1) ∷ takes (down_item 0) ∷ []

abbrev steps_of_both : List Step
steps_of_both = Take ping_item ∷ Tick 250 ∷ Take (down_item 1) ∷ Take (down_item 0) ∷ []

abbrev link : List ℕ → List ℕ → ℕ → LinkView
link unread written refused = record { unread = Some unread; written = Some written; refused = refused }

abbrev ended : LinkView → Option IoFault → Ended
ended l fault = record { link = l; fault = fault }

view_of_a_link : link_view {I = List ℕ} {O = List ℕ} {G = ℕ} (λ i. Some i) (λ o. Some o) (λ g. g) (record { reader = 1 ∷ []; writer = 2 ∷ []; gate = 3 }) ≡ link (1 ∷ []) (2 ∷ []) 3
view_of_a_link = refl

view_of_an_ended_link : ended_view {I = List ℕ} {O = List ℕ} {G = ℕ} (λ i. Some i) (λ o. Some o) (λ g. g) (record { reader = 1 ∷ []; writer = 2 ∷ []; gate = 3 }, Some GivenUp)
    ≡ ended (link (1 ∷ []) (2 ∷ []) 3) (Some GivenUp)
view_of_an_ended_link = refl

pong_for_station : frames_in (parts_of 1 start moves_of_both) ≡ pong ∷ []
unfolding on_literals
pong_for_station = refl

none_for_switch : frames_in (parts_of 0 start moves_of_both) ≡ []
unfolding on_literals
none_for_switch = refl

taken_not_added : (item : Item) (number : ℕ) → takes item ≡ adds number → ⊥
taken_not_added item number e = cc

time_not_added : (ms number : ℕ) → ticks ms ≡ adds number → ⊥
time_not_added ms number e = cc

none_added : (number : ℕ) → AreOther number (parts_of number start moves_of_both)
none_added number = (taken_not_added ping_item number, (time_not_added 250 number, (taken_not_added (down_item 1) number, (taken_not_added (down_item 0) number, tt))))

station_is_answered : HasCarried start moves_of_both 1 1 (link ping_octets [] 0) (link [] pong_octets 0) None
station_is_answered = record {
  reading = None;
  writing = None;
  given_up = false;
  why = refl;
  octets = ping_octets;
  frames = ping ∷ [];
  rest = [];
  read = refl;
  parts = record { whole = refl; each = (omega arith, tt) };
  ends = (tt, refl);
  asks = refl;
  items = refl;
  sent = pong ∷ [];
  which = (sym pong_for_station, none_added 1);
  writes = ((omega arith, tt), refl);
}

switch_closes : HasCarried start moves_of_both 1 0 (link [] [] 0) (link [] [] 0) None
switch_closes = record {
  reading = None;
  writing = None;
  given_up = false;
  why = refl;
  octets = [];
  frames = [];
  rest = [];
  read = refl;
  parts = record { whole = refl; each = tt };
  ends = (tt, refl);
  asks = refl;
  items = refl;
  sent = [];
  which = (sym none_for_switch, none_added 0);
  writes = (tt, refl);
}

-- its outbox refuses the answer, so often and once more
abbrev refusal : Part
refusal = record { move = refuses 1; frames = [] }

abbrev refused_moves : ℕ → List Move
refused_moves n = replicate n (refuses 1) ++ refuses 1 ∷ adds 1 ∷ takes (down_item 1) ∷ []

abbrev refused_parts : ℕ → List Part
refused_parts n = record { move = takes ping_item; frames = pong ∷ [] } ∷ (replicate n refusal ++ refusal ∷ [])

parts_again : (n : ℕ) (c : Controller) (moves : List Move) →
    parts_of 1 c (replicate n (refuses 1) ++ moves) ≡ replicate n refusal ++ parts_of 1 c moves
parts_again zero c moves = refl
parts_again (suc n) c moves = ap (λ (ps : List Part). refusal ∷ ps) (parts_again n c moves)

taken_again : (n : ℕ) (moves : List Move) → taken_of (replicate n (refuses 1) ++ moves) ≡ taken_of moves
taken_again zero moves = refl
taken_again (suc n) moves = taken_again n moves

refused_again : (n : ℕ) (parts : List Part) → refusals_in 1 (replicate n refusal ++ parts) ≡ n + refusals_in 1 parts
refused_again zero parts = omega arith
refused_again (suc n) parts =
    let one : refusals_in 1 (replicate (suc n) refusal ++ parts) ≡ suc (refusals_in 1 (replicate n refusal ++ parts)) = refl in
    let h = refused_again n parts in omega arith

refusal_not_added : (at number : ℕ) → refuses at ≡ adds number → ⊥
refusal_not_added at number e = cc

none_added_again : (n : ℕ) (parts : List Part) → AreOther 1 parts → AreOther 1 (replicate n refusal ++ parts)
none_added_again zero parts other = other
none_added_again (suc n) parts other = (refusal_not_added 1 1, none_added_again n parts other)

is_refused : (n : ℕ) → 1000 ≤ n + 1 → IsRefused 1 (refused_parts n) []
is_refused n often = record {
  earlier = record { move = takes ping_item; frames = pong ∷ [] } ∷ replicate n refusal;
  last = refusal;
  others = [];
  whole = refl;
  refusal = refl;
  elsewhere = tt;
  often = let c = refused_again n (refusal ∷ []) in omega arith;
  refused = pong;
  rest = frames_in (replicate n refusal);
  frames = refl;
}

-- the outbox was given up, and the `Down` that was added is the next move; its own waited behind
is_sent : (n : ℕ) → 1000 ≤ n + 1 → IsSent true true 1 (parts_of 1 start (takes ping_item ∷ refused_moves n)) []
unfolding on_literals
is_sent n often = (
  refused_parts n,
  record { move = adds 1; frames = [] },
  record { move = takes (down_item 1); frames = [] } ∷ [],
  ap (λ (ps : List Part). record { move = takes ping_item; frames = pong ∷ [] } ∷ ps)
      (parts_again n (turn_at start (takes ping_item)).next (refuses 1 ∷ adds 1 ∷ takes (down_item 1) ∷ [])
      ∙ sym (append_assoc (replicate n refusal) (refusal ∷ []) (record { move = adds 1; frames = [] } ∷ record { move = takes (down_item 1); frames = [] } ∷ []))),
  is_refused n often,
  refl,
  (taken_not_added ping_item 1, none_added_again n (refusal ∷ []) (refusal_not_added 1 1, tt)),
  (taken_not_added (down_item 1) 1, tt),
)

given_up_at_once : HasCarried start (takes ping_item ∷ refused_moves 999) 1 1 (link ping_octets [] 0) (link [] [] 0) (Some GivenUp)
given_up_at_once = record {
  reading = None;
  writing = None;
  given_up = true;
  why = refl;
  octets = ping_octets;
  frames = ping ∷ [];
  rest = [];
  read = refl;
  parts = record { whole = refl; each = (omega arith, tt) };
  ends = (tt, refl);
  asks = refl;
  items = ap (λ (items : List Item). whats_of 1 (ping_item ∷ items)) (taken_again 999 (refuses 1 ∷ adds 1 ∷ takes (down_item 1) ∷ []));
  sent = [];
  which = is_sent 999 (omega arith);
  writes = (tt, refl);
}

-- where there is no fault there was none of the reader, the writer and the outbox
abbrev IsWell : Option IoFault → Option IoFault → Bool → Type 0
IsWell reading writing given_up = (reading ≡ None) × (writing ≡ None) × (given_up ≡ false)

is_well : (reading writing : Option IoFault) (given_up : Bool) → None ≡ fault_of reading writing given_up → IsWell reading writing given_up
is_well (Some reading) writing given_up e = absurd (cc e)
is_well None (Some writing) given_up e = absurd (cc e)
is_well None None true e = absurd (cc e)
is_well None None false e = (refl, refl, refl)

-- what was sent and written at a link without a fault
well_sent : (given_up : Bool) (number : ℕ) (parts : List Part) (sent : List Frame) →
    given_up ≡ false →
    IsSent given_up given_up number parts sent →
    sent ≡ frames_in parts
well_sent false number parts sent well which = which.0
well_sent true number parts sent well which = absurd (cc well)

well_written : (reading writing : Option IoFault) (given_up : Bool) (sent : List Frame) (old new : List ℕ) → IsWell reading writing given_up
    → WritesFrames writing sent (Some old) (Some new) → new ≡ old ++ frames_text sent
well_written reading (Some writing) given_up sent old new well writes = absurd (cc well.1)
well_written reading None given_up sent old new well writes = appended sent old new writes

-- the answer was sent to another link
other_link_is_answered : HasCarried start moves_of_both 1 0 (link [] [] 0) (link [] pong_octets 0) None → ⊥
other_link_is_answered c =
    let well = is_well c.reading c.writing c.given_up c.why in
    let sent : c.sent ≡ [] = well_sent c.given_up 0 (parts_of 0 start moves_of_both) c.sent well.2 c.which ∙ none_for_switch in
    let w = well_written c.reading c.writing c.given_up c.sent [] pong_octets well c.writes ∙ ap frames_text sent in
    omega (arith, ap length w)

station_is_left_alone : HasCarried start moves_of_both 1 1 (link ping_octets [] 0) (link [] [] 0) None → ⊥
station_is_left_alone c =
    let well = is_well c.reading c.writing c.given_up c.why in
    let sent : c.sent ≡ pong ∷ [] = well_sent c.given_up 1 (parts_of 1 start moves_of_both) c.sent well.2 c.which ∙ pong_for_station in
    let w = well_written c.reading c.writing c.given_up c.sent [] [] well c.writes ∙ ap frames_text sent in
    omega (arith, ap length w)

-- nothing was taken of the link, not even its `Down`
down_is_left_out : HasCarried start (takes (down_item 0) ∷ []) 1 1 (link [] [] 0) (link [] [] 0) None → ⊥
down_is_left_out c = omega (arith, ap length c.items, length-append (given c.frames) (whats.Down ∷ []))

-- ---- all links

abbrev links_of_both : List LinkView
links_of_both = link [] [] 0 ∷ link ping_octets [] 0 ∷ []

abbrev ended_both : List Ended
ended_both = ended (link [] [] 0) None ∷ ended (link [] pong_octets 0) None ∷ []

abbrev ComesTo : ℕ → LinkView → Ended → Type 0
ComesTo number old now = HasCarried start moves_of_both 1 number old now.link now.fault

each_comes : (number : ℕ) (old : LinkView) (now : Ended) →
    get_elem? links_of_both number ≡ some old →
    get_elem? ended_both number ≡ some now →
    ComesTo number old now
each_comes zero old now e h =
    let a : link [] [] 0 ≡ old = some-injective (link [] [] 0) old e in
    let b : ended (link [] [] 0) None ≡ now = some-injective (ended (link [] [] 0) None) now h in
    subst (λ (y : LinkView × Ended). ComesTo 0 y.0 y.1) (λ i. (a i, b i)) switch_closes
each_comes (suc zero) old now e h =
    let a : link ping_octets [] 0 ≡ old = some-injective (link ping_octets [] 0) old e in
    let b : ended (link [] pong_octets 0) None ≡ now = some-injective (ended (link [] pong_octets 0) None) now h in
    subst (λ (y : LinkView × Ended). ComesTo 1 y.0 y.1) (λ i. (a i, b i)) station_is_answered
each_comes (suc (suc number)) old now e h = absurd (some-ne-none old (sym e))

both_are_relayed : Relays start 1 links_of_both ended_both
both_are_relayed = (refl, (steps_of_both, (omega arith, (omega arith, (omega arith, tt))), moves_of_both, refl, each_comes))

-- the second link's item is in the steps of two links, and not in those of one
of_two_links : AreOfLinks 2 (Take ping_item ∷ Tick 250 ∷ Take (down_item 0) ∷ [])
of_two_links = (omega arith, (omega arith, tt))

of_no_link : AreOfLinks 1 (Take (down_item 0) ∷ Tick 250 ∷ Take ping_item ∷ []) → ⊥
of_no_link bad = omega (arith, bad.1.0)

one_link_is_lost : Relays start 1 links_of_both (ended (link [] [] 0) None ∷ []) → ⊥
one_link_is_lost bad = omega (arith, bad.0)

is_unread : (reading : Option IoFault) (rest : List ℕ) → reading ≡ None → Ends reading rest (Some ping_octets) → ⊥
is_unread (Some reading) rest none ends = absurd (cc none)
is_unread None rest none ends = omega (arith, ap length ends.1)

-- octets that nobody has read, and no fault
octets_are_left : Relays start 1 (link ping_octets [] 0 ∷ []) (ended (link ping_octets [] 0) None ∷ []) → ⊥
octets_are_left bad =
    let c = bad.1.4 0 (link ping_octets [] 0) (ended (link ping_octets [] 0) None) refl refl in
    is_unread c.reading c.rest (is_well c.reading c.writing c.given_up c.why).0 c.ends

-- ---- what the threads are given

abbrev devices : ℕ → Link ℕ ℕ ℕ
devices n = record { reader = n; writer = n + 1; gate = n + 2 }

abbrev pass : TableId → ℕ → List What → PassView
pass queue source put = record { queue = queue; capacity = 8; source = source; put = put }

abbrev taker : TableId → List Line → TakerView
taker queue taken = record { queue = queue; capacity = 8; taken = taken }

abbrev putter : TableId → List Line → ℕ → PutterView
putter queue put refusals = record { queue = queue; capacity = 8; put = put; refused = 0; refusals = refusals }

abbrev end_at : TableId → List What → EndView What
end_at queue taken = record { queue = queue; capacity = 8; seen = taking taken }

readings_of_two : (alloc : Global) (a b : TableId) → readings alloc 5 (devices 10 ∷ devices 20 ∷ []) (pass a 0 [] ∷ pass b 1 [] ∷ [])
    ≡ record { alloc = alloc; reader = 10; gate = 12; pass = pass a 0 []; limit = 5 } ∷ record { alloc = alloc; reader = 20; gate = 22; pass = pass b 1 []; limit = 5 } ∷ []
readings_of_two alloc a b = refl

writings_of_two : (alloc : Global) (a b : TableId) → writings alloc (devices 10 ∷ devices 20 ∷ []) (taker a [] ∷ taker b [] ∷ [])
    ≡ record { alloc = alloc; writer = 11; taker = taker a [] } ∷ record { alloc = alloc; writer = 21; taker = taker b [] } ∷ []
writings_of_two alloc a b = refl

-- ---- new queues

exchanged_outboxes : (a b : TableId) → AreNewOutboxes 2 (putter a [] 0 ∷ putter b [] 0 ∷ []) (taker b [] ∷ taker a [] ∷ []) → a ≡ b
exchanged_outboxes a b bad = let e : a ∷ b ∷ [] ≡ b ∷ a ∷ [] = bad.4 in cc e

used_outbox : (a : TableId) → AreNewOutboxes 1 (putter a (marks.End ∷ []) 0 ∷ []) (taker a [] ∷ []) → ⊥
used_outbox a bad = omega (arith, ap length (bad.2 0 (putter a (marks.End ∷ []) 0) refl).0)

one_outbox_for_two : (a : TableId) → AreNewOutboxes 2 (putter a [] 0 ∷ []) (taker a [] ∷ []) → ⊥
one_outbox_for_two a bad = omega (arith, bad.0)

exchanged_queues : (a b : TableId) → AreNewQueues 2 (end_at a [] ∷ end_at b [] ∷ []) (pass b 0 [] ∷ pass a 1 [] ∷ []) → a ≡ b
exchanged_queues a b bad = let e : a ∷ b ∷ [] ≡ b ∷ a ∷ [] = bad.4 in cc e

used_queue : (a : TableId) → AreNewQueues 1 (end_at a [] ∷ []) (pass a 0 (whats.Down ∷ []) ∷ []) → ⊥
used_queue a bad = omega (arith, ap length (bad.3 0 (pass a 0 (whats.Down ∷ [])) refl))

-- ---- what the threads give back

abbrev has_read : TableId → ℕ → Option IoFault → HasRead ℕ ℕ
has_read queue n fault = record { reader = n; gate = n + 2; pass = pass queue 0 (whats.Down ∷ []); fault = fault }

abbrev has_written : TableId → ℕ → Option IoFault → HasWritten ℕ
has_written queue n fault = record { writer = n + 1; taker = taker queue (marks.End ∷ []); fault = fault }

gives_back : (a b : TableId) → given_back (has_read a 10 None) (has_written b 10 None) (putter b (marks.End ∷ []) 999) ≡ (devices 10, None)
gives_back a b = refl

gives_back_given_up : (a b : TableId) →
    given_back (has_read a 10 None) (has_written b 10 None) (putter b (marks.End ∷ []) 1000) ≡ (devices 10, Some GivenUp)
gives_back_given_up a b = refl

gives_back_faults : (a b : TableId) →
    given_back (has_read a 10 (Some ReadFailed)) (has_written b 10 (Some WriteFailed)) (putter b (marks.End ∷ []) 1000) ≡ (devices 10, Some ReadFailed)
gives_back_faults a b = refl

gives_back_two : (a b : TableId) → all_given (has_read a 10 None ∷ has_read b 20 (Some GateShut) ∷ []) (has_written a 10 (Some WriteFailed) ∷ has_written b 20 None ∷ []) (putter a [] 0 ∷ putter b [] 0 ∷ [])
    ≡ (devices 10, Some WriteFailed) ∷ (devices 20, Some GateShut) ∷ []
gives_back_two a b = refl

room_for_two : HasRoom {A = ℕ} {B = ℕ} 2 [] 2 [] 3
room_for_two = (refl, refl, omega arith, omega arith)

room_for_one : HasRoom {A = ℕ} {B = ℕ} 2 [] 2 [] 1 → ⊥
room_for_one bad = omega (arith, bad.3)

room_that_is_used : HasRoom {A = ℕ} {B = ℕ} 1 (7 ∷ []) 2 [] 2 → ⊥
room_that_is_used bad = omega (arith, ap length bad.0)

follows_what_was_put : (a : TableId) → Follows (has_written a 10 None) (putter a (marks.End ∷ marks.Frame ping ∷ []) 0)
follows_what_was_put a = (marks.Frame ping ∷ [], refl)

takes_what_nobody_put : (a : TableId) → Follows (has_written a 10 None) (putter a [] 0) → ⊥
takes_what_nobody_put a bad = let e : [] ≡ marks.End ∷ bad.0 = bad.1 in absurd (cc e)

one_reader_is_missing : (alloc : Global) (a : TableId) →
    AreRead {I = ℕ} {G = ℕ} (λ i. None) (λ g. g) (record { alloc = alloc; reader = 10; gate = 12; pass = pass a 0 []; limit = 5 } ∷ []) [] →
    ⊥
one_reader_is_missing alloc a bad = omega (arith, bad.0)

one_writer_is_missing : (alloc : Global) (a : TableId) →
    AreWritten {O = ℕ} (λ o. None) (record { alloc = alloc; writer = 11; taker = taker a [] } ∷ []) [] →
    ⊥
one_writer_is_missing alloc a bad = omega (arith, bad.0)

-- ---- a run of the call worker

has_end : (a : TableId) → EachAt (putter a (marks.Frame ping ∷ marks.End ∷ []) 0 ∷ []) (λ number p. HasEnd p)
has_end a zero p here = subst (λ (q : PutterView). HasEnd q) (some-injective (putter a (marks.Frame ping ∷ marks.End ∷ []) 0) p here) (marks.Frame ping ∷ [], refl)
has_end a (suc number) p here = absurd (some-ne-none p (sym here))

-- a fault says nothing of what was taken
fault_behind_end : (a : TableId) →
    Calls start (end_at a [] ∷ []) (putter a [] 0 ∷ []) (Some Memory) [] (putter a (marks.Frame ping ∷ marks.End ∷ []) 0 ∷ [])
fault_behind_end a = (refl, refl, has_end a)

fault_without_end : (a : TableId) → Calls start [] (putter a [] 0 ∷ []) (Some Memory) [] (putter a [] 0 ∷ []) → ⊥
fault_without_end a bad =
    let last = bad.2 0 (putter a [] 0) refl in
    omega (arith, ap length last.1, length-append last.0 (marks.End ∷ []))

fault_loses_an_outbox : (a : TableId) → Calls start [] (putter a [] 0 ∷ []) (Some Memory) [] [] → ⊥
fault_loses_an_outbox a bad = omega (arith, bad.1)

another_fault : Calls start [] [] (Some ReadFailed) [] [] → ⊥
another_fault bad = let e : ReadFailed ≡ Memory = bad.0 in absurd (cc e)

no_links : Calls start [] [] None [] []
no_links = record { moves = []; taken = (refl, λ at e h. absurd (some-ne-none e (sym h))); count = refl; of_links = tt; links = λ at p h. absurd (some-ne-none p (sym h)) }

one_outbox_is_lost : (a : TableId) → Calls start [] (putter a [] 0 ∷ []) None [] [] → ⊥
one_outbox_is_lost a bad = omega (arith, bad.count)

-- it ended, and took no `Down` of the link
ends_before_down : (a b : TableId) →
    Calls start (end_at a [] ∷ []) (putter b [] 0 ∷ []) None (end_at a [] ∷ []) (putter b (marks.End ∷ []) 0 ∷ []) →
    ⊥
ends_before_down a b bad =
    let t = bad.taken.1 0 (end_at a []) refl in
    let d : end_at a [] ≡ t.0 = some-injective (end_at a []) t.0 t.1 in
    let down = (bad.links 0 (putter b (marks.End ∷ []) 0) refl).2.down refl in
    omega (arith, ap length (t.2 ∙ ap (λ (e : EndView What). e.seen.taken ++ whats_of 0 (taken_of bad.moves)) (sym d)), ap length down.2, length-append down.0 (whats.Down ∷ down.1))
