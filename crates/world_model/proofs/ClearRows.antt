-- SPDX-License-Identifier: MIT OR Apache-2.0
-- A clear during a handover, and requests that wait for its end.
use Rattle.world_model.proofs.Prelude.{◌≡◌, true, [], ◌∷◌, Some, refl, Zero, Active, Draining, Live, state_of, Upper, Connect, AirUp}
use Rattle.world_model.proofs.Prelude.{AirAck, AirDown, Move, Arrive, BaseTakes, BasePush, Handle, SwitchTakes, SwitchDoes, Report, Assign}
use Rattle.world_model.proofs.Prelude.{Clear, World}
use Rattle.octets.proofs.Hex.{hex}
use Rattle.world_model.proofs.Worlds.{on_literals, after_all, bodies}
use Rattle.world_model.proofs.Rows.{opened_eager}

-- HANDOVER COMMAND was put, from 41 of station 1 to 41 of station 2
abbrev pub handing_over : World
handing_over = after_all opened_eager (Report 1 (hex "14 14 00 57 02 40 00 00 00 00 00 00 00 00 00 00") ∷ BasePush 1 ∷ Handle ∷ BaseTakes 2 ∷ BasePush 2 ∷ Handle ∷ [])

command_is_put : bodies handing_over 1 ≡ (hex "03 01 01 41 02 00 0b 00 09 06 2b 12 1e 41 40 1e 00 00") ∷ []
unfolding on_literals
command_is_put = refl

abbrev pub cleared : World
cleared = after_all handing_over (SwitchDoes (Clear 1) ∷ BasePush 0 ∷ Handle ∷ [])

clear_releases_serving : bodies cleared 1 ≡ (hex "03 01 01 41 02 00 0b 00 09 06 2b 12 1e 41 40 1e 00 00") ∷ (hex "03 01 01 41 02 00 0b 00 03 06 0d 00") ∷ (hex "08 2e 01 41") ∷ []
unfolding on_literals
clear_releases_serving = refl

clear_releases_target : bodies cleared 2 ≡ (hex "08 2e 01 41") ∷ []
unfolding on_literals
clear_releases_target = refl

clear_completes : bodies cleared 0 ≡ (hex "06 80 00 01 00 01 03 00 01 21") ∷ []
unfolding on_literals
clear_completes = refl

-- what the mobile brings on either channel is too late
abbrev pub late_indications : World
late_indications = after_all cleared (Upper 1 Zero (hex "03 05") ∷ AirUp 1 Zero ∷ BasePush 1 ∷ Handle ∷ BaseTakes 1 ∷ AirDown 1 ∷ Move 1 ∷ Arrive 1 ∷ AirUp 1 Zero ∷ BasePush 2 ∷ Handle ∷ BasePush 2 ∷ Handle ∷ [])

late_indications_lead_nowhere : bodies late_indications 0 ≡ (hex "06 80 00 01 00 01 03 00 01 21") ∷ []
unfolding on_literals
late_indications_lead_nowhere = refl

late_indications_not_taken : (late_indications).not_taken ≡ 0
unfolding on_literals
late_indications_not_taken = refl

release_is_complete : bodies (after_all late_indications (SwitchTakes ∷ BasePush 0 ∷ Handle ∷ [])) 0 ≡ (hex "05 80 00 01 00 00 01") ∷ []
unfolding on_literals
release_is_complete = refl

-- an ASSIGNMENT REQUEST waits, a second one is refused
abbrev pub waiting : World
waiting = after_all handing_over (SwitchDoes (Assign 1) ∷ BasePush 0 ∷ Handle ∷ [])

request_waits : bodies waiting 0 ≡ []
unfolding on_literals
request_waits = refl

abbrev pub waiting_once : World
waiting_once = after_all waiting (SwitchDoes (Assign 1) ∷ BasePush 0 ∷ Handle ∷ SwitchTakes ∷ [])

second_request_is_refused : bodies (after_all waiting (SwitchDoes (Assign 1) ∷ BasePush 0 ∷ Handle ∷ [])) 0 ≡ (hex "06 80 00 01 00 01 06 00 04 03 04 01 60") ∷ []
unfolding on_literals
second_request_is_refused = refl

-- the request begins at the HANDOVER COMPLETE
abbrev pub begins_at_once : World
begins_at_once = after_all waiting_once (BaseTakes 1 ∷ AirDown 1 ∷ Move 1 ∷ Arrive 1 ∷ AirUp 1 Zero ∷ BasePush 2 ∷ Handle ∷ BasePush 2 ∷ Handle ∷ [])

handover_performed : bodies begins_at_once 0 ≡ (hex "06 80 00 01 00 01 10 00 0e 17 04 01 0c 05 08 00 00 f1 10 00 01 00 02") ∷ []
unfolding on_literals
handover_performed = refl

old_channel_released : bodies begins_at_once 1 ≡ (hex "08 2e 01 41") ∷ []
unfolding on_literals
old_channel_released = refl

request_begins : bodies begins_at_once 2 ≡ (hex "08 21 01 0a 03 01 06 04 00 01 08 01") ∷ []
unfolding on_literals
request_begins = refl

old_channel_done : bodies (after_all begins_at_once (SwitchTakes ∷ BaseTakes 1 ∷ BasePush 1 ∷ Handle ∷ [])) 0 ≡ []
unfolding on_literals
old_channel_done = refl

-- another connection has the only TCH
abbrev pub without_tch : World
without_tch = after_all opened_eager (Connect 2 2 (hex "05 24 72") true ∷ BasePush 2 ∷ Handle ∷ BaseTakes 2 ∷ BasePush 2 ∷ Handle ∷ BaseTakes 2 ∷ AirUp 2 Zero ∷ BasePush 2 ∷ Handle ∷ SwitchTakes ∷ AirAck 2 Zero ∷ BasePush 0 ∷ Handle ∷ SwitchDoes (Assign 2) ∷ BasePush 0 ∷ Handle ∷ BaseTakes 2 ∷ BasePush 2 ∷ Handle ∷ BaseTakes 2 ∷ AirDown 2 ∷ Move 2 ∷ Arrive 2 ∷ AirUp 2 Zero ∷ BasePush 2 ∷ Handle ∷ BasePush 2 ∷ Handle ∷ BaseTakes 2 ∷ BasePush 2 ∷ Handle ∷ SwitchTakes ∷ Report 1 (hex "14 14 00 57 02 40 00 00 00 00 00 00 00 00 00 00") ∷ BasePush 1 ∷ Handle ∷ BaseTakes 2 ∷ BasePush 2 ∷ Handle ∷ SwitchDoes (Assign 1) ∷ BasePush 0 ∷ Handle ∷ BaseTakes 1 ∷ AirDown 1 ∷ Move 1 ∷ Arrive 1 ∷ AirUp 1 Zero ∷ BasePush 2 ∷ Handle ∷ BasePush 2 ∷ Handle ∷ [])

request_finds_none : bodies without_tch 0 ≡ (hex "06 80 00 01 00 01 10 00 0e 17 04 01 0c 05 08 00 00 f1 10 00 01 00 02") ∷ (hex "06 80 00 01 00 01 06 00 04 03 04 01 21") ∷ []
unfolding on_literals
request_finds_none = refl

nothing_begins : bodies without_tch 2 ≡ []
unfolding on_literals
nothing_begins = refl

drains : state_of (without_tch).actors.controller 1 ≡ Some (Live 0x800001 Draining)
unfolding on_literals
drains = refl

is_active_again : state_of ((after_all without_tch (BaseTakes 1 ∷ BasePush 1 ∷ Handle ∷ []))).actors.controller 1 ≡ Some (Live 0x800001 Active)
unfolding on_literals
is_active_again = refl

without_tch_not_taken : (without_tch).not_taken ≡ 0
unfolding on_literals
without_tch_not_taken = refl
