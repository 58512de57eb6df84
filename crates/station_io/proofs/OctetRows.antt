-- SPDX-License-Identifier: MIT OR Apache-2.0
-- The definitions from octets in to octets out, at literal octets: two links, the second of which
-- sends PING.
use Rattle.std.proofs.Common.{◌≡◌, ℕ, zero, suc, ◌+◌, ◌≤◌, Bool, true, false, List, [], ◌∷◌, ◌++◌, length, Ok, Some, refl, ap, arith, inl, length-append}
use Rattle.octets.proofs.Hex.{hex}
use Rattle.controller_model.specs.declared.step.Step.{Step}
use Rattle.controller_model.specs.declared.step.Step.TheVariants.{Take, Tick}
use Rattle.controller_model.specs.Controller.{new_controller}
use Rattle.controller_model.proofs.Lives.{usual_settings}
use Rattle.controller_model.proofs.OnLiterals.{on_literals}
use Rattle.ipa_framing.specs.declared.frame.Frame.{Frame}
use Rattle.ipa_framing.specs.Framer.{FramerState, feed, next, new_framer}
use Rattle.ipa_framing.specs.Front.{frame}
use Rattle.ruled_relay.specs.declared.item.What.{What}
use Rattle.ruled_relay.specs.declared.item.What.TheVariants as whats
use Rattle.station_io.specs.Octets.{AreFirstOf, AreWithDown, Came, Next, TakesWhole, came_in, ended_behind, frames_in, item_of, items_in, merged, octets_put, order_of, time}

abbrev ping : Frame
ping = frame 0xfe (hex "00")

-- ---- the frames of octets

no_frames : frames_in [] ≡ []
no_frames = refl

two_frames_and_a_start : frames_in (hex "00 01 fe 00 00 00 00 00 02 fe 01") ≡ ping ∷ frame 0x00 [] ∷ []
two_frames_and_a_start = refl

frame_before_a_long_one : frames_in (hex "00 01 fe 00 08 01 00") ≡ ping ∷ []
frame_before_a_long_one = refl

-- ---- a framer that gave all that was whole, of octets in two pieces

abbrev held : List ℕ → FramerState
held octets = record { octets = octets; failed = false }

in_two_pieces : TakesWhole (feed (hex "00") (Ok tt) ∷ feed (hex "01 fe 00") (Ok tt) ∷ next (Ok (Some ping)) ∷ [])
in_two_pieces = (
  new_framer,
  (held (hex "00"), (refl, refl), (held (hex "00 01 fe 00"), (refl, refl), (new_framer, ((omega arith, refl), refl), refl))),
  inl tt,
)

-- ---- merged

abbrev came : Came
came zero = items_in []
came (suc link) = items_in (hex "00 01 fe 00")

abbrev pinged : List Next
pinged = item_of 1 ∷ time 250 ∷ item_of 0 ∷ item_of 1 ∷ []

abbrev of_down : ℕ → Step
of_down source = Take (record { source = source; what = whats.Down })

abbrev of_ping : Step
of_ping = Take (record { source = 1; what = whats.Frame ping })

steps_in_order : merged pinged came ≡ of_ping ∷ Tick 250 ∷ of_down 0 ∷ of_down 1 ∷ []
steps_in_order = refl

-- behind the last item of a link nothing arrives from it
no_item_is_left : merged (item_of 0 ∷ item_of 0 ∷ item_of 1 ∷ []) came ≡ of_down 0 ∷ of_ping ∷ []
no_item_is_left = refl

order_again : order_of (of_ping ∷ Tick 250 ∷ of_down 0 ∷ of_down 1 ∷ []) ≡ pinged
order_again = refl

came_again : came_in (of_ping ∷ Tick 250 ∷ of_down 0 ∷ of_down 1 ∷ []) 1 ≡ whats.Frame ping ∷ whats.Down ∷ []
came_again = refl

-- ---- octets out

pong_is_put : octets_put (new_controller usual_settings) pinged came 1 ≡ hex "00 01 fe 01"
unfolding on_literals
pong_is_put = refl

nothing_for_the_switch : octets_put (new_controller usual_settings) pinged came 0 ≡ []
unfolding on_literals
nothing_for_the_switch = refl

-- ---- the first of what arrived

abbrev ping_item : What
ping_item = whats.Frame ping

first_of_two : AreFirstOf (hex "00 01 fe 00 00 01 fe 00") (ping_item ∷ whats.Down ∷ [])
first_of_two = (ping ∷ [], ping ∷ [], false, refl, refl)

-- its outbox was given up before its frame was taken
down_came_first : AreFirstOf (hex "00 01 fe 00") (whats.Down ∷ ping_item ∷ whats.Down ∷ [])
down_came_first = (ping ∷ [], [], true, refl, ([], ping_item ∷ whats.Down ∷ [], refl, refl))

one_more_at_most : (added : Bool) (taken came : List What) → AreWithDown added taken came → length came ≤ length taken + 1
one_more_at_most false taken came is = omega (arith, ap length is)
one_more_at_most true taken came is = omega (arith, ap length is.2, ap length is.3, length-append is.0 is.1, length-append is.0 (whats.Down ∷ is.1))

none_of_none : (frames more : List Frame) → [] ≡ frames ++ more → frames ≡ []
none_of_none [] more is = refl
none_of_none (f ∷ frames) more is = absurd (cc is)

-- a `Down` is added once
added_twice : AreFirstOf [] (whats.Down ∷ whats.Down ∷ whats.Down ∷ []) → ⊥
added_twice bad =
    let none = none_of_none bad.0 bad.1 bad.3 in
    let most = one_more_at_most bad.2 (ended_behind bad.0) (whats.Down ∷ whats.Down ∷ whats.Down ∷ []) bad.4 in
    omega (arith, most, ap (λ (fs : List Frame). length (ended_behind fs)) none)
