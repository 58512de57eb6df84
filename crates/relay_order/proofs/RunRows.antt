-- SPDX-License-Identifier: MIT OR Apache-2.0
-- A run of one mobile on one channel, as octets on the links of the switch and of two stations. The
-- network of these events explains it, but neither of two runs of another order.
use Rattle.std.proofs.Common.{◌≡◌, ℕ, zero, suc, ◌≤◌, ◌<◌, true, false, List, [], ◌∷◌, ◌++◌, refl, ap, arith, Some, None, take, if◌then◌else◌, ◌==◌, ◌*◌, ◌+◌}
use Rattle.octets.proofs.Hex.{hex}
use Rattle.controller_model.proofs.Lives.{usual_settings}
use Rattle.controller_model.specs.Controller.{new_controller}
use Rattle.controller_model.specs.declared.step.Step.{Step}
use Rattle.controller_model.specs.declared.step.Step.TheVariants.{Take}
use Rattle.dtap_codec.specs.declared.sapi.Sapi.TheVariants.{Zero}
use Rattle.ipa_framing.specs.declared.frame.Frame.{Frame}
use Rattle.octets.specs.Lists.{IsPrefix}
use Rattle.link_workers.specs.Reading.{frames_text}
use Rattle.relay_order.specs.Explains.{frames_given, frames_taken}
use Rattle.relay_order.specs.Order.{IsBeginningOfSent, mobile_of}
use Rattle.relay_order.specs.Run.{IsRun, Run, steps_of_run}
use Rattle.relay_order.specs.Switch.{switch_given}
use Rattle.ruled_relay.specs.declared.item.What.{What}
use Rattle.ruled_relay.specs.declared.item.What.TheVariants as whats
use Rattle.station_io.specs.Octets.{AreFirstOf, Came, item_of, octets_put}
use Rattle.world_model.specs.declared.event.Event.{Event}
use Rattle.world_model.specs.declared.event.Event.TheVariants.{AirAck, AirUp, BaseDown, BasePush, BaseTakes, Connect, Handle, SwitchTakes}
use Rattle.world_model.specs.Life.{actors_after_all}
use Rattle.world_model.specs.Steps.{all_steps}
use Rattle.world_model.specs.Views.{sent}
use Rattle.world_model.specs.World.{new_actors}
use Rattle.world_model.proofs.Worlds.{on_literals}

-- mobile 1 asks station 1 for a channel, up to the switch's CC; then the links of station 1, of the switch and of station 2 break
abbrev pub one_mobile : List Event
one_mobile =
    Connect 1 1 (hex "05 24 71") true ∷ BasePush 1 ∷ Handle ∷ BaseTakes 1 ∷ BasePush 1 ∷ Handle ∷ BaseTakes 1 ∷ AirUp 1 Zero ∷ BasePush 1 ∷ Handle
    ∷ SwitchTakes ∷ AirAck 1 Zero ∷ BasePush 0 ∷ Handle ∷ BaseDown 1 ∷ Handle ∷ BaseDown 0 ∷ Handle ∷ BaseDown 2 ∷ Handle ∷ []

-- CHANNEL REQUIRED, CHANNEL ACTIVATION ACK, ESTABLISH INDICATION
abbrev required : List ℕ
required = hex "00 0a 00 0c 13 01 88 13 01 00 00 11 00"

abbrev activated : List ℕ
activated = hex "00 07 00 08 22 01 41 08 00 00"

abbrev established : List ℕ
established = hex "00 0c 00 02 06 01 41 02 00 0b 00 03 05 24 71"

-- CC
abbrev pub confirmed : List ℕ
confirmed = hex "00 09 fd 02 00 00 01 80 00 01 02 00"

-- CHANNEL ACTIVATION, IMMEDIATE ASSIGN COMMAND
abbrev pub to_station_1 : List ℕ
to_station_1 = hex "00 0c 00 08 21 01 41 03 00 06 04 00 03 01 00" ++ hex "00 1d 00 0c 16 01 90 2b 17 2d 06 3f 00 41 20 14 01 00 00 00 00 2b 2b 2b 2b 2b 2b 2b 2b 2b 2b 2b"

-- CR, CLEAR REQUEST
abbrev pub clear_request : List ℕ
clear_request = hex "00 0d fd 06 80 00 01 00 01 06 00 04 22 04 01 20"

abbrev pub to_switch : List ℕ
to_switch = hex "00 1f fd 01 00 00 01 02 02 04 02 42 fe 0f 12 00 10 57 05 08 00 00 f1 10 00 01 00 01 17 03 05 24 71 00" ++ clear_request

abbrev read_of_one : ℕ → List ℕ
read_of_one zero = confirmed
read_of_one (suc zero) = required ++ activated ++ established
read_of_one _ = []

abbrev written_of_one : ℕ → List ℕ
written_of_one zero = to_switch
written_of_one (suc zero) = to_station_1
written_of_one _ = []

abbrev rsl : List ℕ → What
rsl body = whats.Frame (record { stream = 0; body = body })

abbrev came_of_one : Came
came_of_one zero = whats.Frame (record { stream = 0xfd; body = hex "02 00 00 01 80 00 01 02 00" }) ∷ whats.Down ∷ []
came_of_one (suc zero) = rsl (hex "0c 13 01 88 13 01 00 00 11 00") ∷ rsl (hex "08 22 01 41 08 00 00") ∷ rsl (hex "02 06 01 41 02 00 0b 00 03 05 24 71") ∷ whats.Down ∷ []
came_of_one (suc (suc zero)) = whats.Down ∷ []
came_of_one _ = []

abbrev pub one_run : Run
one_run = record {
  read = read_of_one;
  written = written_of_one;
  came = came_of_one;
  order = item_of 1 ∷ item_of 1 ∷ item_of 1 ∷ item_of 0 ∷ item_of 1 ∷ item_of 0 ∷ item_of 2 ∷ [];
}

abbrev frames_of_one : ℕ → List Frame
frames_of_one zero = record { stream = 0xfd; body = hex "02 00 00 01 80 00 01 02 00" } ∷ []
frames_of_one (suc zero) = record { stream = 0; body = hex "0c 13 01 88 13 01 00 00 11 00" } ∷ record { stream = 0; body = hex "08 22 01 41 08 00 00" } ∷ record { stream = 0; body = hex "02 06 01 41 02 00 0b 00 03 05 24 71" } ∷ []
frames_of_one _ = []

first_of_one : (link : ℕ) → link < 3 → AreFirstOf (read_of_one link) (came_of_one link)
first_of_one zero less = (frames_of_one 0, [], false, refl, refl)
first_of_one (suc zero) less = (frames_of_one 1, [], false, refl, refl)
first_of_one (suc (suc zero)) less = ([], [], false, refl, refl)
first_of_one (suc (suc (suc link))) less = absurd (omega (arith, less))

others_of_one : (link : ℕ) → 3 ≤ link → came_of_one link ≡ []
others_of_one zero past = absurd (omega (arith, past))
others_of_one (suc zero) past = absurd (omega (arith, past))
others_of_one (suc (suc zero)) past = absurd (omega (arith, past))
others_of_one (suc (suc (suc link))) past = refl

part_of_one : (link : ℕ) →
    link < 3 →
    IsPrefix (written_of_one link) (octets_put (new_controller usual_settings) one_run.order came_of_one link)
unfolding on_literals
part_of_one zero less = ([], refl)
part_of_one (suc zero) less = ([], refl)
part_of_one (suc (suc zero)) less = ([], refl)
part_of_one (suc (suc (suc link))) less = absurd (omega (arith, less))

nothing_past_one : (link : ℕ) → 3 ≤ link → written_of_one link ≡ []
nothing_past_one zero past = absurd (omega (arith, past))
nothing_past_one (suc zero) past = absurd (omega (arith, past))
nothing_past_one (suc (suc link)) past = refl

one_is_a_run : IsRun usual_settings 3 one_run
one_is_a_run = record { first = first_of_one; others = others_of_one; part = part_of_one; no_others = nothing_past_one }

-- ---- it is explained

steps_of_one : all_steps (new_actors usual_settings) one_mobile ≡ steps_of_run one_run
unfolding on_literals
steps_of_one = refl

gave_of_one : (link : ℕ) → IsPrefix (read_of_one link) (frames_text (frames_given usual_settings one_mobile link))
unfolding on_literals
gave_of_one zero = ([], refl)
gave_of_one (suc zero) = ([], refl)
gave_of_one (suc (suc link)) = (frames_text (frames_given usual_settings one_mobile (suc (suc link))), refl)

-- the switch took CR, and not the CLEAR REQUEST; station 1 took both of its frames
took_of_one : (link : ℕ) → link < 3 → IsPrefix (frames_text (frames_taken usual_settings one_mobile link)) (written_of_one link)
unfolding on_literals
took_of_one zero less = (clear_request, refl)
took_of_one (suc zero) less = ([], refl)
took_of_one (suc (suc zero)) less = ([], refl)
took_of_one (suc (suc (suc link))) less = absurd (omega (arith, less))

-- the source of the first step and the second octet of its frame, as one number
abbrev octet_in : ℕ → List ℕ → ℕ
octet_in source (first ∷ second ∷ rest) = 256 * source + second
octet_in source _ = 0

abbrev octets_in : ℕ → What → ℕ
octets_in source (whats.Frame frame) = octet_in source frame.body
octets_in source whats.Down = 0

abbrev first_octets : List Step → ℕ
first_octets (Take item ∷ steps) = octets_in item.source item.what
first_octets _ = 0

-- where the frames of station 1 came in another order, these events don't explain it
abbrev swapped : Run
swapped = record one_run {
  came = λ link. if link == 1
      then rsl (hex "08 22 01 41 08 00 00") ∷ rsl (hex "0c 13 01 88 13 01 00 00 11 00") ∷ rsl (hex "02 06 01 41 02 00 0b 00 03 05 24 71") ∷ whats.Down ∷ []
      else came_of_one link;
}

swapped_is_another : all_steps (new_actors usual_settings) one_mobile ≡ steps_of_run swapped → ⊥
unfolding on_literals
swapped_is_another is = let seen : 256 * 1 + 0x13 ≡ 256 * 1 + 0x22 = ap (λ (steps : List Step). first_octets steps) is in absurd (omega (arith, seen))

-- nor where the link of station 2 ended first
sooner_is_another : all_steps (new_actors usual_settings) one_mobile ≡ steps_of_run (record one_run { order = item_of 2 ∷ item_of 1 ∷ item_of 1 ∷ item_of 1 ∷ item_of 0 ∷ item_of 1 ∷ item_of 0 ∷ [] }) →
    ⊥
unfolding on_literals
sooner_is_another is = let seen : 256 * 1 + 0x13 ≡ 0 = ap (λ (steps : List Step). first_octets steps) is in absurd (omega (arith, seen))

-- ---- whose connection it is

owner_of_one : mobile_of usual_settings one_mobile (switch_given 4 to_switch) 1 ≡ Some 1
unfolding on_literals
owner_of_one = refl

nobodys : mobile_of usual_settings one_mobile (switch_given 4 to_switch) 2 ≡ None
unfolding on_literals
nobodys = refl

-- before CR is whole there is no connection
nobodys_yet : mobile_of usual_settings one_mobile (switch_given 4 (take 33 to_switch)) 1 ≡ None
unfolding on_literals
nobodys_yet = refl

pub sent_by_one : sent (actors_after_all (new_actors usual_settings) one_mobile) 1 ≡ Some (hex "05 24 71" ∷ [])
unfolding on_literals
sent_by_one = refl

-- what is accepted is a beginning of that
begins_what_was_sent : IsBeginningOfSent usual_settings one_mobile (Some 1) (hex "05 24 71" ∷ [])
begins_what_was_sent = record { mobile = 1; owned = refl; sent_list = hex "05 24 71" ∷ []; is_sent = sent_by_one; is_prefix = ([], refl) }

begins_with_nothing : IsBeginningOfSent usual_settings one_mobile (Some 1) []
begins_with_nothing = record { mobile = 1; owned = refl; sent_list = hex "05 24 71" ∷ []; is_sent = sent_by_one; is_prefix = (hex "05 24 71" ∷ [], refl) }

nothing_of_nobody : IsBeginningOfSent usual_settings one_mobile None [] → ⊥
nothing_of_nobody of = absurd (cc (of.owned))
