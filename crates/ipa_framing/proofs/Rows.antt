-- SPDX-License-Identifier: MIT OR Apache-2.0
-- The definitions at literal octets: frames of each stream, and bodies at the limit of 2048 octets.
use Rattle.std.proofs.Common.{◌≡◌, ℕ, List, [], ◌∷◌, ◌++◌, ◌≤◌, replicate, true, false, Some, None, Ok, Err, inl, inr, refl, sym, ap, arith}
use Rattle.octets.proofs.Hex.{hex}
use Rattle.ipa_framing.specs.declared.streams.TheConstants.{CCM_STREAM, OML_STREAM, PING, PONG, RSL_STREAM, SCCP_STREAM}
use Rattle.ipa_framing.specs.declared.fault.FrameFault.TheVariants.{TooLong, Memory}
use Rattle.ipa_framing.specs.Frame.{frame_text, write_fault, IsPartial, IsTooLong, Splits}
use Rattle.ipa_framing.specs.Framer.{FramerState, new_framer, Feeds, Takes, Run, feed, next, octets_of, frames_of}
use Rattle.ipa_framing.specs.Front.{frame, front_of}

-- ---- streams, and the messages of the link's own management

streams : RSL_STREAM ∷ SCCP_STREAM ∷ CCM_STREAM ∷ OML_STREAM ∷ [] ≡ hex "00 fd fe ff"
streams = refl

ping_and_pong : PING ∷ PONG ∷ [] ≡ hex "00 01"
ping_and_pong = refl

-- ---- the octets of a frame

ping : frame_text (frame 0xfe (hex "00")) ≡ hex "00 01 fe 00"
ping = refl

empty_body : frame_text (frame 0x00 []) ≡ hex "00 00 00"
empty_body = refl

relayed : frame_text (frame 0xfd (hex "06 80 00 01 00 01 05 01 00 02 03 45")) ≡
    hex "00 0c fd 06 80 00 01 00 01 05 01 00 02 03 45"
relayed = refl

-- the high octet of the length is first
long_body : frame_text (frame 0xff (replicate 258 0x33)) ≡ hex "01 02 ff" ++ replicate 258 0x33
long_body = refl

longest : frame_text (frame 0x00 (replicate 2048 0x33)) ≡ hex "08 00 00" ++ replicate 2048 0x33
longest = refl

longest_is_written : write_fault (frame 0x00 (replicate 2048 0x33)) ≡ None
longest_is_written = refl

longer_is_refused : write_fault (frame 0x00 (replicate 2049 0x33)) ≡ Some TooLong
longer_is_refused = refl

-- ---- frames that were started, and those that are too long

no_octet : IsPartial []
no_octet = tt

half_a_length : IsPartial (hex "08")
half_a_length = tt

body_missing : IsPartial (hex "00 01 fe")
body_missing = (omega arith, omega arith)

longest_started : IsPartial (hex "08 00")
longest_started = (omega arith, omega arith)

whole_is_not_partial : IsPartial (hex "00 01 fe 00") → ⊥
whole_is_not_partial partial = omega (arith, partial.1)

longer : IsTooLong (hex "08 01")
longer = omega arith

longest_is_not_too_long : IsTooLong (hex "08 00") → ⊥
longest_is_not_too_long long = omega (arith, long)

longer_is_not_partial : IsPartial (hex "08 01") → ⊥
longer_is_not_partial partial = omega (arith, partial.0)

-- ---- streams

two_frames_and_a_rest : Splits (hex "00 00 00 00 01 fe 00 00 0b fd") (frame 0x00 [] ∷ frame 0xfe (hex "00") ∷ []) (hex "00 0b fd")
two_frames_and_a_rest = record {
  whole = refl;
  each = (omega arith, (omega arith, tt));
  stops = inl (omega arith, omega arith);
}

longest_and_one_longer : Splits (hex "08 00 00" ++ replicate 2048 0x33 ++ hex "08 01") (frame 0x00 (replicate 2048 0x33) ∷ []) (hex "08 01")
longest_and_one_longer = record { whole = refl; each = (omega arith, tt); stops = inr (omega arith) }

-- ---- the front of octets

front_is_ping : front_of (hex "00 01 fe 00 07") ≡ Ok (Some (0xfe, hex "00", hex "07"))
front_is_ping = refl

front_is_longest : front_of (hex "08 00 fd" ++ replicate 2048 0x33 ++ hex "07") ≡ Ok (Some (0xfd, replicate 2048 0x33, hex "07"))
front_is_longest = refl

front_is_longer : front_of (hex "08 01") ≡ Err TooLong
front_is_longer = refl

front_is_started : front_of (hex "00 02 fe 00") ≡ Ok None
front_is_started = refl

-- ---- calls

abbrev holding : List ℕ → FramerState
holding octets = record { octets = octets; failed = false }

abbrev failed : List ℕ → FramerState
failed octets = record { octets = octets; failed = true }

piece_taken : Feeds {X = Unit {0}} (holding (hex "00 01")) (hex "fe 00") (Ok tt) (holding (hex "00 01 fe 00"))
piece_taken = (refl, refl)

piece_refused : Feeds {X = Unit {0}} (failed (hex "08 01")) (hex "00") (Err TooLong) (failed (hex "08 01"))
piece_refused = (refl, refl)

ping_taken : Takes (holding (hex "00 01 fe 00 07")) (Ok (Some (frame 0xfe (hex "00")))) (holding (hex "07"))
ping_taken = ((omega arith, refl), refl)

nothing_taken : Takes (holding (hex "00 01 fe")) (Ok None) (holding (hex "00 01 fe"))
nothing_taken = ((omega arith, omega arith), refl)

longer_met : Takes (holding (hex "08 01")) (Err TooLong) (failed (hex "08 01"))
longer_met = (omega arith, refl)

longer_met_again : Takes (failed (hex "08 01")) (Err TooLong) (failed (hex "08 01"))
longer_met_again = (omega arith, refl)

memory_ran_out : Takes (holding (hex "00 00 00 07")) (Err Memory) (holding (hex "00 00 00 07"))
memory_ran_out = ((frame 0x00 [], hex "07", (omega arith, refl)), refl)

-- ---- what calls don't answer

pieces_exchanged : Feeds {X = Unit {0}} (holding (hex "00")) (hex "01") (Ok tt) (holding (hex "01 00")) → ⊥
pieces_exchanged is = let same : hex "01 00" ≡ hex "00 01" = ap (λ (held : FramerState). held.octets) is.1 in absurd (cc same)

piece_dropped : Feeds {X = Unit {0}} (holding (hex "00")) (hex "01") (Ok tt) (holding (hex "00")) → ⊥
piece_dropped is = let same : hex "00" ≡ hex "00 01" = ap (λ (held : FramerState). held.octets) is.1 in absurd (cc same)

taken_after_a_failure : Feeds {X = Unit {0}} (failed (hex "08 01")) (hex "00") (Ok tt) (failed (hex "08 01 00")) → ⊥
taken_after_a_failure is = absurd (cc is.0)

refused_without_failure : Feeds {X = Unit {0}} (holding (hex "08")) (hex "01") (Err TooLong) (holding (hex "08")) → ⊥
refused_without_failure is = absurd (cc is.0)

taken_without_memory : Feeds {X = Unit {0}} (holding (hex "00")) (hex "01") (Err Memory) (holding (hex "00 01")) → ⊥
taken_without_memory is = let same : hex "00 01" ≡ hex "00" = ap (λ (held : FramerState). held.octets) is.1 in absurd (cc same)

memory_after_a_failure : Feeds {X = Unit {0}} (failed (hex "08 01")) (hex "00") (Err Memory) (failed (hex "08 01")) → ⊥
memory_after_a_failure is = absurd (cc is.0)

another_stream : Takes (holding (hex "00 01 fe 00 07")) (Ok (Some (frame 0x00 (hex "00")))) (holding (hex "07")) → ⊥
another_stream is = absurd (cc is.0.1)

another_body : Takes (holding (hex "00 01 fe 00 07")) (Ok (Some (frame 0xfe (hex "07")))) (holding (hex "07")) → ⊥
another_body is = absurd (cc is.0.1)

longer_body : Takes (holding (hex "00 01 fe 00 07")) (Ok (Some (frame 0xfe (hex "00 07")))) (holding []) → ⊥
longer_body is = absurd (cc is.0.1)

rest_dropped : Takes (holding (hex "00 01 fe 00 07")) (Ok (Some (frame 0xfe (hex "00")))) (holding []) → ⊥
rest_dropped is = absurd (cc is.0.1)

frame_left : Takes (holding (hex "00 01 fe 00")) (Ok (Some (frame 0xfe (hex "00")))) (holding (hex "00 01 fe 00")) → ⊥
frame_left is = absurd (cc is.0.1)

frame_that_fails : Takes (holding (hex "00 01 fe 00")) (Ok (Some (frame 0xfe (hex "00")))) (failed []) → ⊥
frame_that_fails is = absurd (cc is.1)

frame_of_2049 : Takes (holding (hex "08 01 00" ++ replicate 2049 0x33)) (Ok (Some (frame 0x00 (replicate 2049 0x33)))) (holding []) → ⊥
frame_of_2049 is = let size : 2049 ≤ 2048 = is.0.0 in omega (arith, size)

waits_for_a_whole_frame : Takes (holding (hex "00 01 fe 00")) (Ok None) (holding (hex "00 01 fe 00")) → ⊥
waits_for_a_whole_frame is = omega (arith, is.0.1)

waits_for_one_that_is_too_long : Takes (holding (hex "08 01")) (Ok None) (holding (hex "08 01")) → ⊥
waits_for_one_that_is_too_long is = omega (arith, is.0.0)

start_dropped : Takes (holding (hex "00 01 fe")) (Ok None) (holding []) → ⊥
start_dropped is = let same : hex "00 01 fe" ≡ [] = ap (λ (held : FramerState). held.octets) (sym is.1) in absurd (cc same)

fails_at_the_longest : Takes (holding (hex "08 00")) (Err TooLong) (failed (hex "08 00")) → ⊥
fails_at_the_longest is = omega (arith, is.0)

fails_before_the_length : Takes (holding (hex "08")) (Err TooLong) (failed (hex "08")) → ⊥
fails_before_the_length is = is.0

fails_once : Takes (holding (hex "08 01")) (Err TooLong) (holding (hex "08 01")) → ⊥
fails_once is = let same : false ≡ true = ap (λ (held : FramerState). held.failed) is.1 in absurd (cc same)

memory_for_nothing : Takes (holding []) (Err Memory) (holding []) → ⊥
memory_for_nothing is = absurd (cc is.0.2.1)

-- only the length of a frame is there
memory_for_a_start : Takes (holding (hex "00 00")) (Err Memory) (holding (hex "00 00")) → ⊥
memory_for_a_start is = absurd (cc is.0.2.1)

frame_dropped : Takes (holding (hex "00 00 00")) (Err Memory) (holding []) → ⊥
frame_dropped is = let same : hex "00 00 00" ≡ [] = ap (λ (held : FramerState). held.octets) (sym is.1) in absurd (cc same)

-- a frame in two pieces, and behind it the length of one that is too long
cut_in_two : Run new_framer
    (feed (hex "00 01 fe") (Ok tt) ∷ next (Ok None) ∷ feed (hex "00 08 01") (Ok tt)
    ∷ next (Ok (Some (frame 0xfe (hex "00")))) ∷ next (Err TooLong) ∷ [])
    (failed (hex "08 01"))
cut_in_two = (
  holding (hex "00 01 fe"),
  (refl, refl),
  (
    holding (hex "00 01 fe"),
    ((omega arith, omega arith), refl),
    (
      holding (hex "00 01 fe 00 08 01"),
      (refl, refl),
      (
        holding (hex "08 01"),
        ((omega arith, refl), refl),
        (
          failed (hex "08 01"),
          (omega arith, refl),
          refl,
        ),
      ),
    ),
  ),
)

-- a frame of which one octet arrives at a time
cut_after_each_octet : Run new_framer
    (feed (hex "00") (Ok tt) ∷ next (Ok None) ∷ feed (hex "01") (Ok tt) ∷ next (Ok None) ∷ feed (hex "fe") (Ok tt) ∷ next (Ok None)
    ∷ feed (hex "00") (Ok tt) ∷ next (Ok (Some (frame 0xfe (hex "00")))) ∷ next (Ok None) ∷ [])
    (holding [])
cut_after_each_octet = (
  holding (hex "00"),
  (refl, refl),
  (
    holding (hex "00"),
    (tt, refl),
    (
      holding (hex "00 01"),
      (refl, refl),
      (
        holding (hex "00 01"),
        ((omega arith, omega arith), refl),
        (
          holding (hex "00 01 fe"),
          (refl, refl),
          (
            holding (hex "00 01 fe"),
            ((omega arith, omega arith), refl),
            (
              holding (hex "00 01 fe 00"),
              (refl, refl),
              (
                holding [],
                ((omega arith, refl), refl),
                (
                  holding [],
                  (tt, refl),
                  refl,
                ),
              ),
            ),
          ),
        ),
      ),
    ),
  ),
)

octets_of_calls : octets_of (feed (hex "00 01") (Ok tt) ∷ feed (hex "05") (Err Memory) ∷ next (Ok None)
    ∷ feed (hex "fe 00") (Ok tt) ∷ [])
    ≡ hex "00 01 fe 00"
octets_of_calls = refl

frames_of_calls : frames_of (next (Ok None) ∷ next (Ok (Some (frame 0xfe (hex "00")))) ∷ next (Err TooLong)
    ∷ next (Ok (Some (frame 0x00 []))) ∷ [])
    ≡ frame 0xfe (hex "00") ∷ frame 0x00 [] ∷ []
frames_of_calls = refl
