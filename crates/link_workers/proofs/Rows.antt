-- SPDX-License-Identifier: MIT OR Apache-2.0
-- Checks the definitions on literal values: what a reader puts and a writer writes of the frame
-- PING, and what the test switch replies.
use Rattle.std.proofs.Common.{◌≡◌, ℕ, ◌^◌, List, [], ◌∷◌, ◌++◌, replicate, true, false, Some, None, Ok, refl, arith}
use Rattle.std.specs.Prelude.{◌≢◌}
use Rattle.octets.proofs.Hex.{hex}
use Rattle.ipa_framing.specs.declared.frame.Frame.{Frame}
use Rattle.ipa_framing.specs.declared.fault.FrameFault.TheVariants as framing
use Rattle.bssmap_codec.specs.declared.fault.InterfaceFault.TheVariants as interface
use Rattle.bssmap_codec.specs.declared.sccp.Sccp.TheVariants.{ConnectionRequest, ReleaseComplete}
use Rattle.msc_end.specs.SwitchState.{SwitchState}
use Rattle.ruled_relay.specs.declared.item.What.TheVariants.{Frame as GivenFrame, Down}
use Rattle.ruled_relay.specs.declared.outbox.Line.TheVariants.{Frame as FrameLine, End}
use Rattle.ruled_relay.specs.Inbox.{PassView}
use Rattle.ruled_relay.specs.Outbox.{TakerView}
use Rattle.std.specs.IoError.{error_kind}
use Rattle.std.specs.declared.io.ErrorKind.TheVariants.{WouldBlock}
use Rattle.std.specs.declared.io.Error.{Error}
use Rattle.link_workers.specs.declared.fault.IoFault.TheVariants.{ReadFailed, WriteFailed, FrameFault, Memory, GateShut, GivenUp}
use Rattle.link_workers.specs.declared.link_reads.TheConstants.{MOST_READS}
use Rattle.link_workers.specs.declared.link_reads.LinkReads.{LinkReads}
use Rattle.link_workers.specs.declared.unread.UnreadLink.TheVariants.{Endless, Refused}
use Rattle.link_workers.specs.declared.writing.Wrote.TheVariants.{Octets, Interrupted}
use Rattle.link_workers.specs.Faults.{fault_of_frame, fault_of_reply}
use Rattle.link_workers.specs.Gates.{HasLet, LetsAll}
use Rattle.link_workers.specs.Unread.{IsUnread, fault_for}
use Rattle.link_workers.specs.Reading.{AsksGate, Ends, IsReported, Parts, Serves, after_letting, frames_text, given, having_put, shutting}
use Rattle.link_workers.specs.Writing.{Delivers, IsWriterFault, WritesOnce, end_if, having_taken, lines}
use Rattle.link_workers.specs.Switching.{Stops, WritesReplies, after_all, all_replies, message_in, messages, replies_text}

abbrev frame : ℕ → List ℕ → Frame
frame stream body = record { stream = stream; body = body }

abbrev ping : Frame
ping = frame 0xfe (0x00 ∷ [])

abbrev ping_octets : List ℕ
ping_octets = hex "00 01 fe 00"

-- ---- a reader

frames_of_two : frames_text (ping ∷ frame 0x00 (hex "07 08") ∷ []) ≡ hex "00 01 fe 00 00 02 00 07 08"
frames_of_two = refl

given_of_two : given (ping ∷ frame 0x00 [] ∷ []) ≡ GivenFrame ping ∷ GivenFrame (frame 0x00 []) ∷ []
given_of_two = refl

a_frame_and_a_rest : Parts (hex "00 01 fe 00 00") (ping ∷ []) (0x00 ∷ [])
a_frame_and_a_rest = record { whole = refl; each = (omega arith, tt) }

-- a gate that counted 3 items has let 2 more through, and not 1
two_more_let : HasLet (Some 3) (Some 5) 2
two_more_let = refl

one_more_let : HasLet (Some 3) (Some 4) 2 → ⊥
one_more_let bad = omega (arith, bad)

counts_no_more : HasLet (Some 3) None 2
counts_no_more = tt

-- a frame and `Down` were put, each let through
each_let : (p : PassView) → LetsAll (Some ReadFailed) (Some 0) (Some 2) p (having_put p (GivenFrame ping ∷ Down ∷ []))
each_let p = (GivenFrame ping ∷ Down ∷ [], refl, refl)

-- the gate remained shut at `Down`
down_unasked : (p : PassView) → LetsAll (Some GateShut) (Some 0) (Some 1) p (having_put p (GivenFrame ping ∷ Down ∷ []))
down_unasked p = (GivenFrame ping ∷ [], refl, refl)

-- a device learns of every fault but a gate that remained shut; of a link that ended it
-- learns nothing that is said here
reported_fault : IsReported (Some FrameFault) (Some FrameFault)
reported_fault = refl

not_reported : IsReported (Some ReadFailed) None → ⊥
not_reported bad = absurd (cc bad)

reported_another : IsReported (Some Memory) (Some FrameFault) → ⊥
reported_another bad = absurd (cc bad)

gate_remained_shut : IsReported (Some GateShut) None
gate_remained_shut = tt

at_its_end : IsReported None None
at_its_end = tt

put_behind : (p : PassView) → (having_put p (Down ∷ [])).put ≡ p.put ++ Down ∷ []
put_behind p = refl

refusals_before : after_letting 5 [] ≡ 5
refusals_before = refl

refusals_after : after_letting 5 (ping ∷ []) ≡ 0
refusals_after = refl

-- refused five times before, and three times in this call
shut_at_once : AsksGate (Some GateShut) 3 [] 5 8
shut_at_once = refl

-- refused five times before, let through, and then refused three times
shut_after_one : AsksGate (Some GateShut) 3 (ping ∷ []) 5 3
shut_after_one = refl

not_often_enough : AsksGate (Some GateShut) 3 (ping ∷ []) 5 2 → ⊥
not_often_enough bad = omega (arith, bad)

let_through : AsksGate (Some ReadFailed) 3 [] 5 0
let_through = refl

not_asked : AsksGate None 3 [] 5 5 → ⊥
not_asked bad = omega (arith, bad)

shut_counts : shutting 3 GateShut ∷ shutting 3 ReadFailed ∷ shutting 3 Memory ∷ [] ≡ 3 ∷ 0 ∷ 0 ∷ []
shut_counts = refl

ends_well : Ends None (0x00 ∷ []) (Some [])
ends_well = (tt, refl)

ends_unread : Ends None (0x00 ∷ []) (Some (0x07 ∷ [])) → ⊥
ends_unread bad = absurd (cc bad.1)

ends_whole_frame_left : Ends (Some ReadFailed) ping_octets (Some []) → ⊥
ends_whole_frame_left bad = omega (arith, bad.1)

ends_too_long : Ends (Some FrameFault) (hex "08 01") (Some (0x07 ∷ []))
ends_too_long = omega arith

ends_longest : Ends (Some FrameFault) (hex "08 00") (Some (0x07 ∷ [])) → ⊥
ends_longest bad = omega (arith, bad)

no_reader_gives_up : Ends (Some GivenUp) [] (Some []) → ⊥
no_reader_gives_up bad = bad

-- a read that fails after a whole frame
fails_after_a_frame : (p : PassView) →
    Serves (Some ping_octets) (Some []) 10000 0 0 p (having_put p (GivenFrame ping ∷ Down ∷ [])) (Some ReadFailed)
fails_after_a_frame p = record { octets = ping_octets; frames = ping ∷ []; rest = []; read = refl; parts = record { whole = refl; each = (omega arith, tt) }; ends = tt; put = refl; asks = refl }

reads : MOST_READS ≡ 2 ^ 40
reads = refl

abbrev sixteen_reads : LinkReads
sixteen_reads = record { made = 16 }

sixteen_are_too_few : IsUnread (Endless sixteen_reads) → ⊥
sixteen_are_too_few bad = omega (arith, bad)

abbrev all_but_one : LinkReads
all_but_one = record { made = 1099511627775 }

one_too_few : IsUnread (Endless all_but_one) → ⊥
one_too_few bad = omega (arith, bad)

refusal_is_no_failed_read : IsUnread (Refused ReadFailed) → ⊥
refusal_is_no_failed_read bad = bad refl

faults_of_unread : fault_for (Endless sixteen_reads) ∷ fault_for (Refused Memory) ∷ [] ≡ ReadFailed ∷ Memory ∷ []
faults_of_unread = refl

-- a gate that always refuses, with a limit of 3
remains_shut : (p : PassView) → Serves (Some ping_octets) (Some []) 3 0 3 p (having_put p (Down ∷ [])) (Some GateShut)
remains_shut p = record { octets = ping_octets; frames = []; rest = ping_octets; read = refl; parts = record { whole = refl; each = tt }; ends = tt; put = refl; asks = refl }

-- ---- a writer

lines_of_two : lines (ping ∷ frame 0x00 [] ∷ []) ≡ FrameLine ping ∷ FrameLine (frame 0x00 []) ∷ []
lines_of_two = refl

taken_behind : (t : TakerView) → (having_taken t (End ∷ [])).taken ≡ t.taken ++ End ∷ []
taken_behind t = refl

marks : end_if true ++ end_if false ≡ End ∷ []
marks = refl

longest_is_no_fault : IsWriterFault FrameFault (frame 0x00 (replicate 2048 0x33) ∷ []) → ⊥
longest_is_no_fault bad = bad (omega arith, tt)

longer_is_a_fault : IsWriterFault FrameFault (ping ∷ frame 0x00 (replicate 2049 0x33) ∷ [])
longer_is_a_fault = λ all. omega (arith, all.1.0)

no_writer_reads : IsWriterFault ReadFailed (ping ∷ []) → ⊥
no_writer_reads bad = bad

takes_one : WritesOnce (Some []) (Some (0x07 ∷ [])) (hex "07 08") (Ok (Octets 1))
takes_one = (omega arith, omega arith, refl)

-- a write that waited too long has failed
timed_out : (error : Error) → error_kind error ≡ WouldBlock → WritesOnce (Some []) (Some []) (hex "07 08") (Ok (Interrupted error)) → ⊥
timed_out error is bad = cc (is, bad.0)

takes_none : WritesOnce (Some []) (Some []) (hex "07 08") (Ok (Octets 0)) → ⊥
takes_none bad = omega (arith, bad.0)

-- a device that takes one octet at a time, and fails at its fourth write
three_octets_taken : (t : TakerView) →
    Delivers (Some []) (Some (hex "00 01 fe")) t (having_taken t (FrameLine ping ∷ End ∷ [])) (Some WriteFailed)
three_octets_taken t = record { frames = ping ∷ []; takes = refl; writes = (tt, (hex "00 01 fe", 0x00 ∷ [], refl, refl)) }

all_octets_taken : (t : TakerView) →
    Delivers (Some (0x07 ∷ [])) (Some (0x07 ∷ ping_octets)) t (having_taken t (FrameLine ping ∷ End ∷ [])) None
all_octets_taken t = record { frames = ping ∷ []; takes = refl; writes = ((omega arith, tt), refl) }

-- ---- faults of the layers below

framing_faults : fault_of_frame framing.TooLong ∷ fault_of_frame framing.Memory ∷ [] ≡ FrameFault ∷ Memory ∷ []
framing_faults = refl

reply_faults : fault_of_reply interface.TooLong ∷ fault_of_reply interface.Memory ∷ [] ≡ FrameFault ∷ Memory ∷ []
reply_faults = refl

-- ---- the switch that tests use

abbrev new_switch : SwitchState
new_switch = record { modulus = 4; connections = [] }

no_message_of_another_stream : message_in ping ≡ None
no_message_of_another_stream = refl

no_messages : messages (ping ∷ frame 0x00 (0x01 ∷ []) ∷ []) ≡ []
no_messages = refl

-- connection confirm: the first connection is 800001
confirms : replies_text (all_replies new_switch (ConnectionRequest 1 None ∷ [])) ≡ hex "00 09 fd 02 00 00 01 80 00 01 02 00"
confirms = refl

-- the second request meets the switch as the first left it
confirms_two : replies_text (all_replies new_switch (ConnectionRequest 1 None ∷ ReleaseComplete 1 2 ∷ ConnectionRequest 5 None ∷ []))
    ≡ hex "00 09 fd 02 00 00 01 80 00 01 02 00 00 09 fd 02 00 00 05 80 00 02 02 00"
confirms_two = refl

after_two : (after_all new_switch (ConnectionRequest 1 None ∷ ConnectionRequest 5 None ∷ [])).connections ≢ []
after_two bad = absurd (cc bad)

stops_unread : Stops None [] (Some (0x07 ∷ [])) → ⊥
stops_unread bad = absurd (cc bad.1)

stops_shut : Stops (Some GateShut) [] (Some []) → ⊥
stops_shut bad = bad

begins_with_a_fault : WritesReplies (Some WriteFailed) (ReleaseComplete 1 2 ∷ []) (Some []) (Some (hex "00 07"))
begins_with_a_fault = (hex "00 07", hex "fd 05 00 00 01 00 00 02", refl, refl)

whole_without_a_write_that_failed : WritesReplies (Some ReadFailed) (ReleaseComplete 1 2 ∷ []) (Some []) (Some (hex "00 07")) → ⊥
whole_without_a_write_that_failed bad = absurd (cc bad)
