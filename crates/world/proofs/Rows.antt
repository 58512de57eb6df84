-- SPDX-License-Identifier: MIT OR Apache-2.0
-- Definitions against literal events, of the fixed world.
use Rattle.std.proofs.Common.{◌≡◌, List, [], ◌∷◌, ◌++◌, map, replicate, true, Option, Some, None, option_map, refl}
use Rattle.octets.proofs.Hex.{hex}
use Rattle.dtap_codec.specs.Number.{count_of}
use Rattle.dtap_codec.specs.declared.number.Modulus.TheVariants.{Two}
use Rattle.dtap_codec.specs.declared.sapi.Sapi.TheVariants.{Zero, Three}
use Rattle.world_model.specs.declared.event.Event.{Event}
use Rattle.world_model.specs.declared.event.Event.TheVariants.{Upper, Connect, AirUp, AirAck, AirDown, AirDownLost, Move, Touch, Arrive, Return, BaseTakes, BasePush, Handle, SwitchTakes, SwitchDoes, Tick, BaseDown, Report}
use Rattle.world_model.specs.declared.event.SwitchAction.TheVariants.{Assign}
use Rattle.world.specs.declared.fixed.TheConstants.{FIXED_CONNECTION, FIXED_MOBILE}
use Rattle.mobile_end.specs.MobileState.{MobileState}
use Rattle.world.specs.declared.world.Scene.{Scene}
use Rattle.world.specs.declared.world.Scene.TheVariants.{Fixed, Controlled}
use Rattle.world.specs.Views.{accepted_list, progress_in, received_list, sent_list, taken_list, unnumbered_list}
use Rattle.world.specs.World.{after_all, fixed_world}
use Rattle.world.specs.WorldState.{WorldState}

-- ---- the fixed world

its_mobile : FIXED_MOBILE ≡ 1
its_mobile = refl

its_connection : FIXED_CONNECTION ≡ 1
its_connection = refl

abbrev relayed : List Event
relayed = AirUp 1 Zero ∷ AirAck 1 Zero ∷ SwitchTakes ∷ []

abbrev three_messages : WorldState
three_messages =
    after_all (fixed_world 4)
    (Upper 1 Zero (hex "05 24 71") ∷ Upper 1 Zero (hex "03 05") ∷ Upper 1 Zero (hex "03 0f") ∷ (relayed ++ relayed ++ relayed))

three_sent : sent_list three_messages.scene 1 ≡ Some ((hex "05 24 71") ∷ (hex "03 05") ∷ (hex "03 0f") ∷ [])
three_sent = refl

three_received : received_list three_messages.scene 1 ≡ Some []
three_received = refl

three_taken : taken_list three_messages.scene 1 ≡ Some ((hex "05 24 71") ∷ (hex "03 45") ∷ (hex "03 8f") ∷ [])
three_taken = refl

three_accepted : accepted_list three_messages.scene 1 ≡ Some ((hex "05 24 71") ∷ (hex "03 05") ∷ (hex "03 0f") ∷ [])
three_accepted = refl

three_unnumbered : unnumbered_list three_messages.scene 1 ≡ Some []
three_unnumbered = refl

three_progress : progress_in three_messages.scene 1 ≡ Some (Some 3)
three_progress = refl

all_taken : three_messages.not_taken ≡ 0
all_taken = refl

nobody_else : (sent_list three_messages.scene 2 ∷ received_list three_messages.scene 2 ∷ taken_list three_messages.scene 2 ∷ accepted_list three_messages.scene 2 ∷ unnumbered_list three_messages.scene 2 ∷ []) ≡ None ∷ None ∷ None ∷ None ∷ None ∷ []
nobody_else = refl

-- a message without a number is taken, and not accepted; the numbers begin again after four
abbrev others : WorldState
others =
    after_all (fixed_world 4)
    (Upper 1 Zero (hex "0c 01") ∷ Upper 1 Zero (hex "03 01") ∷ Upper 1 Zero (hex "03 02") ∷ Upper 1 Zero (hex "03 03") ∷ Upper 1 Zero (hex "03 04") ∷ Upper 1 Zero (hex "03 05")
    ∷ (relayed ++ relayed ++ relayed ++ relayed ++ relayed ++ relayed))

others_taken : taken_list others.scene 1 ≡ Some ((hex "0c 01") ∷ (hex "03 01") ∷ (hex "03 42") ∷ (hex "03 83") ∷ (hex "03 c4") ∷ (hex "03 05") ∷ [])
others_taken = refl

others_unnumbered : unnumbered_list others.scene 1 ≡ Some ((hex "0c 01") ∷ [])
others_unnumbered = refl

others_sent : sent_list others.scene 1 ≡ Some ((hex "03 01") ∷ (hex "03 02") ∷ (hex "03 03") ∷ (hex "03 04") ∷ (hex "03 05") ∷ [])
others_sent = refl

others_accepted : accepted_list others.scene 1 ≡ Some ((hex "03 01") ∷ (hex "03 02") ∷ (hex "03 03") ∷ (hex "03 04") ∷ (hex "03 05") ∷ [])
others_accepted = refl

-- modulo 2: six times the same message
abbrev one_relayed : List Event
one_relayed = Upper 1 Zero (hex "03 01") ∷ relayed

abbrev six_of_two : WorldState
six_of_two =
    after_all (fixed_world (count_of Two)) (one_relayed ++ one_relayed ++ one_relayed ++ one_relayed ++ one_relayed ++ one_relayed)

six_of_two_taken : taken_list six_of_two.scene 1 ≡ Some ((hex "03 01") ∷ (hex "03 41") ∷ (hex "03 01") ∷ (hex "03 41") ∷ (hex "03 01") ∷ (hex "03 41") ∷ [])
six_of_two_taken = refl

six_of_two_accepted : accepted_list six_of_two.scene 1 ≡ Some (replicate 6 (hex "03 01"))
six_of_two_accepted = refl

six_of_two_sent : sent_list six_of_two.scene 1 ≡ Some (replicate 6 (hex "03 01"))
six_of_two_sent = refl

six_of_two_acts : six_of_two.not_taken ≡ 0
six_of_two_acts = refl

-- what no actor can take is counted: an acknowledgement of nothing, an empty outbox, a number in a
-- message, SAPI 3 in the air, another mobile, and each other kind
abbrev untaken : WorldState
untaken =
    after_all (fixed_world 4)
    (AirAck 1 Zero ∷ SwitchTakes ∷ Upper 1 Zero (hex "03 45") ∷ AirUp 1 Three ∷ AirAck 1 Three ∷ Upper 2 Zero (hex "03 05") ∷ AirUp 1 Zero ∷ AirUp 2 Zero ∷ Connect 2 1 (hex "05 24") true ∷ AirDown 1 ∷ AirDownLost 1
    ∷ Move 1 ∷ Touch 1 ∷ Arrive 1 ∷ Return 1 ∷ BaseTakes 1 ∷ BasePush 0 ∷ Handle ∷ SwitchDoes (Assign 1) ∷ Tick 5 ∷ BaseDown 1 ∷ Report 1 (0x14 ∷ []) ∷ [])

not_taken : untaken.not_taken ≡ 22
not_taken = refl

-- a frame was taken from the fixed mobile, and its acknowledgement is the next: that of another
-- mobile isn't taken, whether its number is below or above, and leaves it to come
abbrev taken_from_the_air : List Event
taken_from_the_air = Upper 1 Zero (hex "03 05") ∷ Upper 1 Zero (hex "03 0f") ∷ AirUp 1 Zero ∷ []

acknowledged : map (λ (event : Event). (after_all (fixed_world 4) (taken_from_the_air ++ event ∷ [])).not_taken)
    (AirAck 1 Zero ∷ AirAck 2 Zero ∷ AirAck 0 Zero ∷ AirAck 255 Zero ∷ AirAck 1 Three ∷ []) ≡ 0 ∷ 1 ∷ 1 ∷ 1 ∷ 1 ∷ []
acknowledged = refl

acknowledgement_of_another : map (λ (event : Event). (after_all (fixed_world 4) (taken_from_the_air ++ event ∷ AirUp 1 Zero ∷ [])).not_taken)
    (AirAck 1 Zero ∷ AirAck 2 Zero ∷ []) ≡ 0 ∷ 2 ∷ []
acknowledgement_of_another = refl

-- a short message is taken on SAPI 3, where it waits, and none on SAPI 0; and the other way round
abbrev on_both_links : WorldState
on_both_links =
    after_all (fixed_world 4)
    (Upper 1 Three (hex "09 01") ∷ Upper 1 Zero (hex "03 05") ∷ Upper 1 Zero (hex "09 01") ∷ Upper 1 Three (hex "03 05") ∷ [])

abbrev mobile_of : Scene → Option MobileState
mobile_of (Fixed world) = Some world.mobile
mobile_of (Controlled w) = None

waits_on_three : option_map (λ mobile. mobile.three.waiting) (mobile_of on_both_links.scene) ≡ Some ((hex "09 01") ∷ [])
waits_on_three = refl

waits_on_zero : option_map (λ mobile. mobile.zero.waiting) (mobile_of on_both_links.scene) ≡ Some ((hex "03 05") ∷ [])
waits_on_zero = refl

short_message_is_not_sent : sent_list on_both_links.scene 1 ≡ Some ((hex "03 05") ∷ [])
short_message_is_not_sent = refl

two_not_taken : on_both_links.not_taken ≡ 2
two_not_taken = refl
