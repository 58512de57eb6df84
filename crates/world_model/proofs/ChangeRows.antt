-- SPDX-License-Identifier: MIT OR Apache-2.0
-- Changes of the channel, and the break of a station while its channel drains.
use Rattle.world_model.proofs.Prelude.{◌≡◌, [], ◌∷◌, Some, refl, Zero, Upper, AirUp, AirAck, AirDown, Move, Touch, Arrive, Return}
use Rattle.world_model.proofs.Prelude.{BaseTakes, BasePush, Handle, SwitchTakes, SwitchDoes, BaseDown, Report, Assign, Dtap, World}
use Rattle.octets.proofs.Hex.{hex}
use Rattle.world_model.specs.Views.{sent, received, taken, accepted, unnumbered}
use Rattle.world_model.proofs.Worlds.{on_literals, after_all, bodies}
use Rattle.world_model.proofs.Rows.{opened, opened_eager}

-- an assignment; the message that was not acknowledged arrives again
abbrev pub assigned_twice : World
assigned_twice = after_all opened (Upper 1 Zero (hex "03 05") ∷ AirUp 1 Zero ∷ BasePush 1 ∷ Handle ∷ SwitchDoes (Assign 1) ∷ BasePush 0 ∷ Handle ∷ BaseTakes 1 ∷ BasePush 1 ∷ Handle ∷ BaseTakes 1 ∷ AirDown 1 ∷ Move 1 ∷ Arrive 1 ∷ BasePush 1 ∷ Handle ∷ AirUp 1 Zero ∷ BasePush 1 ∷ Handle ∷ AirAck 1 Zero ∷ AirUp 1 Zero ∷ BasePush 1 ∷ Handle ∷ BaseTakes 1 ∷ BasePush 1 ∷ Handle ∷ SwitchTakes ∷ SwitchTakes ∷ SwitchTakes ∷ [])

assignment_sent : sent (assigned_twice).actors 1 ≡ Some ((hex "05 24 71") ∷ (hex "03 05") ∷ [])
unfolding on_literals
assignment_sent = refl

assignment_received : received (assigned_twice).actors 1 ≡ Some ([])
unfolding on_literals
assignment_received = refl

assignment_taken : taken (assigned_twice).actors 1 ≡ Some ((hex "05 24 71") ∷ (hex "03 45") ∷ (hex "03 45") ∷ [])
unfolding on_literals
assignment_taken = refl

assignment_accepted : accepted (assigned_twice).actors 1 ≡ Some ((hex "05 24 71") ∷ (hex "03 05") ∷ [])
unfolding on_literals
assignment_accepted = refl

assignment_unnumbered : unnumbered (assigned_twice).actors 1 ≡ Some ([])
unfolding on_literals
assignment_unnumbered = refl

assignment_not_taken : (assigned_twice).not_taken ≡ 0
unfolding on_literals
assignment_not_taken = refl

-- two handovers; the message that was never acknowledged arrives three times
abbrev pub handed_over_twice : World
handed_over_twice = after_all opened_eager (Upper 1 Zero (hex "03 05") ∷ AirUp 1 Zero ∷ BasePush 1 ∷ Handle ∷ Report 1 (hex "14 14 00 57 02 40 00 00 00 00 00 00 00 00 00 00") ∷ BasePush 1 ∷ Handle ∷ BaseTakes 2 ∷ BasePush 2 ∷ Handle ∷ BaseTakes 1 ∷ AirDown 1 ∷ Move 1 ∷ Arrive 1 ∷ BasePush 2 ∷ Handle ∷ AirUp 1 Zero ∷ BasePush 2 ∷ Handle ∷ AirAck 1 Zero ∷ AirUp 1 Zero ∷ BasePush 2 ∷ Handle ∷ BaseTakes 1 ∷ BasePush 1 ∷ Handle ∷ Report 1 (hex "14 14 00 57 01 20 00 00 00 00 00 00 00 00 00 00") ∷ BasePush 2 ∷ Handle ∷ BaseTakes 1 ∷ BasePush 1 ∷ Handle ∷ BaseTakes 2 ∷ AirDown 1 ∷ Move 1 ∷ Arrive 1 ∷ BasePush 1 ∷ Handle ∷ AirUp 1 Zero ∷ BasePush 1 ∷ Handle ∷ AirAck 1 Zero ∷ AirUp 1 Zero ∷ BasePush 1 ∷ Handle ∷ BaseTakes 2 ∷ BasePush 2 ∷ Handle ∷ SwitchTakes ∷ SwitchTakes ∷ SwitchTakes ∷ SwitchTakes ∷ SwitchTakes ∷ SwitchTakes ∷ SwitchTakes ∷ SwitchTakes ∷ SwitchTakes ∷ SwitchTakes ∷ SwitchTakes ∷ SwitchTakes ∷ SwitchTakes ∷ SwitchTakes ∷ SwitchTakes ∷ SwitchTakes ∷ SwitchTakes ∷ SwitchTakes ∷ SwitchTakes ∷ SwitchTakes ∷ [])

two_handovers_sent : sent (handed_over_twice).actors 1 ≡ Some ((hex "05 24 71") ∷ (hex "03 05") ∷ [])
unfolding on_literals
two_handovers_sent = refl

two_handovers_taken : taken (handed_over_twice).actors 1 ≡ Some ((hex "05 24 71") ∷ (hex "03 45") ∷ (hex "03 45") ∷ (hex "03 45") ∷ [])
unfolding on_literals
two_handovers_taken = refl

two_handovers_accepted : accepted (handed_over_twice).actors 1 ≡ Some ((hex "05 24 71") ∷ (hex "03 05") ∷ [])
unfolding on_literals
two_handovers_accepted = refl

-- a mobile returns from a handover; what was held for it is sent down
abbrev pub returned : World
returned = after_all opened_eager (Report 1 (hex "14 14 00 57 02 40 00 00 00 00 00 00 00 00 00 00") ∷ BasePush 1 ∷ Handle ∷ BaseTakes 2 ∷ BasePush 2 ∷ Handle ∷ Upper 1 Zero (hex "03 05") ∷ AirUp 1 Zero ∷ BasePush 1 ∷ Handle ∷ SwitchDoes (Dtap 1 Zero (hex "83 02")) ∷ BasePush 0 ∷ Handle ∷ BaseTakes 1 ∷ AirDown 1 ∷ Move 1 ∷ Return 1 ∷ BasePush 1 ∷ Handle ∷ AirUp 1 Zero ∷ BasePush 1 ∷ Handle ∷ AirAck 1 Zero ∷ AirUp 1 Zero ∷ BasePush 1 ∷ Handle ∷ SwitchTakes ∷ SwitchTakes ∷ BaseTakes 1 ∷ AirDown 1 ∷ [])

return_sent : sent (returned).actors 1 ≡ Some ((hex "05 24 71") ∷ (hex "03 05") ∷ [])
unfolding on_literals
return_sent = refl

return_received : received (returned).actors 1 ≡ Some ((hex "83 02") ∷ [])
unfolding on_literals
return_received = refl

return_taken : taken (returned).actors 1 ≡ Some ((hex "05 24 71") ∷ (hex "03 45") ∷ (hex "03 45") ∷ [])
unfolding on_literals
return_taken = refl

return_accepted : accepted (returned).actors 1 ≡ Some ((hex "05 24 71") ∷ (hex "03 05") ∷ [])
unfolding on_literals
return_accepted = refl

return_not_taken : (returned).not_taken ≡ 0
unfolding on_literals
return_not_taken = refl

-- a handover; what the old channel still has is first
abbrev pub four_of_the_target : World
four_of_the_target = after_all opened_eager (Report 1 (hex "14 14 00 57 02 40 00 00 00 00 00 00 00 00 00 00") ∷ BasePush 1 ∷ Handle ∷ BaseTakes 2 ∷ BasePush 2 ∷ Handle ∷ Upper 1 Zero (hex "03 05") ∷ AirUp 1 Zero ∷ AirAck 1 Zero ∷ Upper 1 Zero (hex "03 0f") ∷ BaseTakes 1 ∷ AirDown 1 ∷ Move 1 ∷ Touch 1 ∷ Arrive 1 ∷ AirUp 1 Zero ∷ AirAck 1 Zero ∷ AirUp 1 Zero ∷ BasePush 2 ∷ Handle ∷ BasePush 2 ∷ Handle ∷ BasePush 2 ∷ Handle ∷ BasePush 2 ∷ Handle ∷ [])

abbrev pub handed_over : World
handed_over = after_all four_of_the_target (BasePush 1 ∷ Handle ∷ BaseTakes 1 ∷ BasePush 1 ∷ Handle ∷ SwitchTakes ∷ SwitchTakes ∷ SwitchTakes ∷ [])

handover_sent : sent (handed_over).actors 1 ≡ Some ((hex "05 24 71") ∷ (hex "03 05") ∷ (hex "03 0f") ∷ [])
unfolding on_literals
handover_sent = refl

handover_taken : taken (handed_over).actors 1 ≡ Some ((hex "05 24 71") ∷ (hex "03 45") ∷ (hex "03 8f") ∷ [])
unfolding on_literals
handover_taken = refl

handover_accepted : accepted (handed_over).actors 1 ≡ Some ((hex "05 24 71") ∷ (hex "03 05") ∷ (hex "03 0f") ∷ [])
unfolding on_literals
handover_accepted = refl

handover_not_taken : (handed_over).not_taken ≡ 0
unfolding on_literals
handover_not_taken = refl

-- HANDOVER DETECTION, and the ESTABLISH INDICATION on the target
controller_looks_at_no_detection : (handed_over).actors.controller.ignored ≡ 2
unfolding on_literals
controller_looks_at_no_detection = refl

-- the old station breaks while it still has a message
abbrev pub broken : World
broken = after_all four_of_the_target (BaseDown 1 ∷ Handle ∷ [])

break_clears : bodies broken 0 ≡ (hex "06 80 00 01 00 01 10 00 0e 17 04 01 0c 05 08 00 00 f1 10 00 01 00 02") ∷ (hex "06 80 00 01 00 01 06 00 04 22 04 01 20") ∷ []
unfolding on_literals
break_clears = refl

break_releases : bodies broken 2 ≡ (hex "03 01 01 41 02 00 0b 00 03 06 0d 01") ∷ (hex "08 2e 01 41") ∷ []
unfolding on_literals
break_releases = refl

abbrev pub broken_then_cleared : World
broken_then_cleared = after_all broken (SwitchTakes ∷ SwitchTakes ∷ BasePush 0 ∷ Handle ∷ SwitchTakes ∷ BasePush 0 ∷ Handle ∷ SwitchTakes ∷ [])

break_sent : sent (broken_then_cleared).actors 1 ≡ Some ((hex "05 24 71") ∷ (hex "03 05") ∷ (hex "03 0f") ∷ [])
unfolding on_literals
break_sent = refl

break_taken : taken (broken_then_cleared).actors 1 ≡ Some ((hex "05 24 71") ∷ [])
unfolding on_literals
break_taken = refl

break_accepted : accepted (broken_then_cleared).actors 1 ≡ Some ((hex "05 24 71") ∷ [])
unfolding on_literals
break_accepted = refl

break_not_taken : (broken_then_cleared).not_taken ≡ 0
unfolding on_literals
break_not_taken = refl
