-- SPDX-License-Identifier: MIT OR Apache-2.0
-- Rows: the definitions on literal octets, by RFC 791, RFC 768, RFC 9293 and the pcap format.
use Rattle.std.proofs.Common.{◌≡◌, ℕ, List, [], ◌∷◌, ◌++◌, take, refl}
use Rattle.octets.proofs.Hex.{hex}
use Rattle.ipa_framing.specs.Front.{frame}
use Rattle.ruled_relay.specs.declared.item.What.TheVariants as what
use Rattle.run_record.specs.declared.entry.Entry.{Entry}
use Rattle.run_record.specs.declared.entry.Entry.TheVariants.{Head, Took, Passed, Put, Lost}
use Rattle.run_record.specs.declared.entry.Stamped.{Stamped}
use Rattle.run_record.specs.declared.next.Fault.TheVariants as faults
use Rattle.run_record.specs.declared.next.Next.TheVariants.{Cut, End, Read, Wrong}
use Rattle.run_record.specs.declared.next.Opening.TheVariants as openings
use Rattle.run_record.specs.Reading.{next_of, opening_of}
use Rattle.run_record.specs.Record.{moved}
use Rattle.run_record.specs.Reads.{beginning, file_of}

-- 0x65000000 seconds and seven microseconds
abbrev at_time : Entry → Stamped
at_time entry = record { stamp = record { seconds = 0x65000000; microseconds = 7 }; entry = entry }

abbrev head : Entry
head = Head (hex "62 73 63 20 31")

abbrev asked : Entry
asked = Took 1 (what.Frame (frame 0x00 (hex "0c 13 01 88 13 7f 01 02 11 05")))

abbrev sent : Entry
sent = Put 0 (frame 0xfd (hex "01 00 00 01 02 02 42 0f 00"))

abbrev tick : Entry
tick = Passed 70000

abbrev broken : Entry
broken = Took 1 what.Down

-- ---- each packet, with its time and its lengths

abbrev time : List ℕ
time = hex "65 00 00 00 00 00 00 07"

abbrev head_octets : List ℕ
head_octets = time ++ hex "00 00 00 22 00 00 00 22"
    ++ hex "45 00 00 22 00 00 40 00 40 11 26 ca 0a 00 00 01 0a 00 00 01"
    ++ hex "c0 00 c0 00 00 0e 00 00 01 62 73 63 20 31"

-- a frame of 13 octets from the station of the first cell
abbrev asked_octets : List ℕ
asked_octets = time ++ hex "00 00 00 35 00 00 00 35"
    ++ hex "45 00 00 35 00 01 40 00 40 06 25 c1 0a 00 01 01 0a 00 00 01"
    ++ hex "c0 00 0b bb 00 00 00 01 00 00 00 01 50 18 ff ff 00 00 00 00"
    ++ hex "00 0a 00 0c 13 01 88 13 7f 01 02 11 05"

-- a frame of 12 octets to the switch
abbrev sent_octets : List ℕ
sent_octets = time ++ hex "00 00 00 34 00 00 00 34"
    ++ hex "45 00 00 34 00 02 40 00 40 06 26 c0 0a 00 00 01 0a 00 00 02"
    ++ hex "c0 00 13 88 00 00 00 01 00 00 00 01 50 18 ff ff 00 00 00 00"
    ++ hex "00 09 fd 01 00 00 01 02 02 42 0f 00"

-- 70,000 milliseconds
abbrev tick_octets : List ℕ
tick_octets = time ++ hex "00 00 00 21 00 00 00 21"
    ++ hex "45 00 00 21 00 03 40 00 40 11 26 c8 0a 00 00 01 0a 00 00 01"
    ++ hex "c0 00 c0 00 00 0d 00 00 02 00 01 11 70"

-- FIN of the station, behind its 13 octets
abbrev broken_octets : List ℕ
broken_octets = time ++ hex "00 00 00 28 00 00 00 28"
    ++ hex "45 00 00 28 00 04 40 00 40 06 25 cb 0a 00 01 01 0a 00 00 01"
    ++ hex "c0 00 0b bb 00 00 00 0e 00 00 00 01 50 11 ff ff 00 00 00 00"

-- the next frame, behind the FIN
abbrev again_octets : List ℕ
again_octets = time ++ hex "00 00 00 35 00 00 00 35"
    ++ hex "45 00 00 35 00 05 40 00 40 06 25 bd 0a 00 01 01 0a 00 00 01"
    ++ hex "c0 00 0b bb 00 00 00 0f 00 00 00 01 50 18 ff ff 00 00 00 00"
    ++ hex "00 0a 00 0c 13 01 88 13 7f 01 02 11 05"

abbrev lost_octets : List ℕ
lost_octets = time ++ hex "00 00 00 1d 00 00 00 1d"
    ++ hex "45 00 00 1d 00 06 40 00 40 11 26 c9 0a 00 00 01 0a 00 00 01"
    ++ hex "c0 00 c0 00 00 09 00 00 03"

a_file : file_of (at_time head ∷ at_time asked ∷ at_time sent ∷ at_time tick ∷ at_time broken ∷ at_time asked ∷ at_time Lost ∷ [])
    ≡ hex "a1 b2 c3 d4 00 02 00 04 00 00 00 00 00 00 00 00 00 00 ff ff 00 00 00 65"
    ++ (head_octets ++ (asked_octets ++ (sent_octets ++ (tick_octets ++ (broken_octets ++ (again_octets ++ (lost_octets ++ [])))))))
a_file = refl

-- ---- what is read

reads_head : next_of beginning (head_octets ++ asked_octets) ≡ Read (at_time head) 50
reads_head = refl

reads_asked : next_of (moved beginning head) asked_octets ≡ Read (at_time asked) 69
reads_asked = refl

reads_sent : next_of (moved (moved beginning head) asked) sent_octets ≡ Read (at_time sent) 68
reads_sent = refl

reads_tick : next_of (record beginning { packets = 3 }) tick_octets ≡ Read (at_time tick) 49
reads_tick = refl

reads_broken : next_of (record (moved beginning asked) { packets = 4 }) broken_octets ≡ Read (at_time broken) 56
reads_broken = refl

reads_lost : next_of (record beginning { packets = 6 }) lost_octets ≡ Read (at_time Lost) 45
reads_lost = refl

-- ---- what isn't

ends : next_of beginning [] ≡ End
ends = refl

cuts : next_of beginning (take 1 head_octets) ∷ next_of beginning (take 15 head_octets) ∷ next_of beginning (take 16 head_octets)
    ∷ next_of beginning (take 49 head_octets) ∷ [] ≡ Cut ∷ Cut ∷ Cut ∷ Cut ∷ []
cuts = refl

-- exchanged packets: the second octet of which packet it is differs first, 16 + 5 octets behind the
-- time's first
exchanged : next_of beginning asked_octets ≡ Wrong (faults.Octet 21)
exchanged = refl

-- the same octets of a tick in the place of another packet
exchanged_tick : next_of beginning tick_octets ≡ Wrong (faults.Octet 21)
exchanged_tick = refl

-- a number that isn't the next: the break in place of the frame before it
wrong_number : next_of (record beginning { packets = 4 }) broken_octets ≡ Wrong (faults.Octet 43)
wrong_number = refl

-- a wrong checksum: 12 + 10 octets behind the lengths
wrong_checksum : next_of beginning (time ++ hex "00 00 00 1d 00 00 00 1d"
    ++ hex "45 00 00 1d 00 00 40 00 40 11 26 ff 0a 00 00 01 0a 00 00 01"
    ++ hex "c0 00 c0 00 00 09 00 00 03") ≡ Wrong (faults.Octet 27)
wrong_checksum = refl

-- FF in a port
wrong_port : next_of beginning (time ++ hex "00 00 00 1d 00 00 00 1d"
    ++ hex "45 00 00 1d 00 00 40 00 40 11 26 cf 0a 00 00 01 0a 00 00 01"
    ++ hex "ff 00 c0 00 00 09 00 00 03") ≡ Wrong (faults.Octet 36)
wrong_port = refl

-- FF as the kind of a datagram: it seems to be Lost, which has kind 3
wrong_kind : next_of beginning (time ++ hex "00 00 00 1d 00 00 00 1d"
    ++ hex "45 00 00 1d 00 00 40 00 40 11 26 cf 0a 00 00 01 0a 00 00 01"
    ++ hex "c0 00 c0 00 00 09 00 00 ff") ≡ Wrong (faults.Octet 44)
wrong_kind = refl

-- FF in one of the lengths, in both, and one more than the largest
wrong_lengths : next_of beginning (time ++ hex "00 00 00 ff 00 00 00 1d") ∷ next_of beginning (time ++ hex "ff 00 00 1d ff 00 00 1d")
    ∷ next_of beginning (time ++ hex "00 00 80 1e 00 00 80 1e") ∷ next_of beginning (time ++ hex "00 00 80 1d 00 00 80 1d") ∷ []
    ≡ Wrong faults.Length ∷ Wrong faults.Length ∷ Wrong faults.Length ∷ Cut ∷ []
wrong_lengths = refl

opened : opening_of [] ∷ opening_of (hex "a1 b2") ∷ opening_of (hex "d4 c3")
    ∷ opening_of (hex "a1 b2 c3 d4 00 02 00 04 00 00 00 00 00 00 00 00 00 00 ff ff 00 00 00 65 ff")
    ∷ opening_of (hex "a1 b2 c3 d4 00 02 00 04 00 00 00 00 00 00 00 00 00 00 ff ff 00 00 00 01") ∷ []
    ≡ openings.Cut ∷ openings.Cut ∷ openings.Other ∷ openings.Record ∷ openings.Other ∷ []
opened = refl
