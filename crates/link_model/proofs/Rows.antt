-- SPDX-License-Identifier: MIT OR Apache-2.0
-- Definitions against literal values: an acknowledged link, and the end of base station 1.
use Rattle.std.proofs.Common.{◌≡◌, true, false, List, [], ◌∷◌, map, Some, None, Ok, Err, refl}
use Rattle.octets.proofs.Hex.{hex}
use Rattle.dtap_codec.specs.declared.sapi.Sapi.TheVariants.{Zero, Three}
use Rattle.link_model.specs.declared.air_link.Air.{Air}
use Rattle.link_model.specs.declared.air_link.Air.TheVariants.{Empty, Given, Reached}
use Rattle.link_model.specs.declared.fault.LinkFault.TheVariants.{NotActive, Busy}
use Rattle.link_model.specs.AirLink.{is_empty, give_answer, after_give, message_in, offered_message, after_reach, is_reached, after_ack}
use Rattle.link_model.specs.BaseState.{BaseState}
use Rattle.link_model.specs.Base.{new_base, is_active, refusal_of_activate, refusal_unless_active, is_told, first_message, after_take_down}
use Rattle.link_model.specs.BaseCalls.{BaseCall, after_calls, messages_made, messages_given}
use Rattle.link_model.specs.BaseCalls.BaseCall.{activates, establishes, brings_up, releases, tells, gives_next}
use Rattle.link_model.specs.Message.{link_on}
use Rattle.rsl_codec.specs.declared.rsl.Rsl.{Rsl}
use Rattle.rsl_codec.specs.declared.rsl.Rsl.TheVariants as messages

-- ---- an acknowledged link: empty, with a message given to it, and with one that reached the station

abbrev airs : List Air
airs = Empty ∷ Given (hex "0a") ∷ Reached (hex "0b") ∷ []

empties : map is_empty airs ≡ true ∷ false ∷ false ∷ []
empties = refl

give_answers : map (λ air. give_answer air (hex "0c")) airs ≡ Ok tt ∷ Err (hex "0c") ∷ Err (hex "0c") ∷ []
give_answers = refl

gives : map (λ air. after_give air (hex "0c")) airs ≡ Given (hex "0c") ∷ Given (hex "0a") ∷ Reached (hex "0b") ∷ []
gives = refl

in_air : map message_in airs ≡ None ∷ Some (hex "0a") ∷ Some (hex "0b") ∷ []
in_air = refl

offers : map offered_message airs ≡ None ∷ Some (hex "0a") ∷ None ∷ []
offers = refl

reaches : map after_reach airs ≡ Empty ∷ Reached (hex "0a") ∷ Reached (hex "0b") ∷ []
reaches = refl

reached_ones : map is_reached airs ≡ false ∷ false ∷ true ∷ []
reached_ones = refl

acks : map after_ack airs ≡ Empty ∷ Given (hex "0a") ∷ Empty ∷ []
acks = refl

-- ---- a life of a link: a second message is handed back, and the first acknowledged only once the station took it, which it does once

abbrev first_given : Air
first_given = after_give Empty (hex "03 05")

abbrev second_handed_back : Air
second_handed_back = after_give first_given (hex "03 0f")

abbrev acknowledged_early : Air
acknowledged_early = after_ack second_handed_back

abbrev reached_once : Air
reached_once = after_reach acknowledged_early

abbrev reached_twice : Air
reached_twice = after_reach reached_once

abbrev acknowledged : Air
acknowledged = after_ack reached_twice

its_answers : (give_answer Empty (hex "03 05") ≡ Ok tt) × (give_answer first_given (hex "03 0f") ≡ Err (hex "03 0f")) ×
    (is_reached second_handed_back ≡ false) × (offered_message acknowledged_early ≡ Some (hex "03 05"))
    × (offered_message reached_once ≡ None) ×
    (is_reached reached_twice ≡ true) × (message_in acknowledged ≡ None)
its_answers = (refl, refl, refl, refl, refl, refl, refl)

-- ---- links: SAPI 3 takes the SACCH of a TCH, 08 to 1F, and the main link of an SDCCH, 20 to 7F

links : map (λ channel. link_on channel Three) (hex "08 0f 10 1f 20 27 3a 3f 40 7f") ≡
    hex "43 43 43 43 03 03 03 03 03 03"
links = refl

main_links : map (λ channel. link_on channel Zero) (hex "1f 20") ≡ hex "00 00"
main_links = refl

-- ---- a base station end

abbrev busy : BaseState
busy = record { station = 1; active = hex "41 0a"; messages = messages.RfChannelReleaseAck 0x20 ∷ messages.RfChannelReleaseAck 0x21 ∷ [] }

new_one : new_base 1 ≡ record { station = 1; active = []; messages = [] }
new_one = refl

active_ones : map (is_active busy.active) (hex "41 0a 40") ≡ true ∷ true ∷ false ∷ []
active_ones = refl

activate_refusals : map (refusal_of_activate busy) (hex "41 40") ≡ Some Busy ∷ None ∷ []
activate_refusals = refl

other_refusals : map (refusal_unless_active busy) (hex "41 40") ≡ None ∷ Some NotActive ∷ []
other_refusals = refl

first_one : first_message busy ≡ Some (messages.RfChannelReleaseAck 0x20)
first_one = refl

no_first_one : first_message (new_base 1) ≡ None
no_first_one = refl

down : after_take_down busy ≡ record { station = 1; active = hex "41 0a"; messages = [] }
down = refl

-- ---- a life: refused calls change nothing, and each other call makes its message

abbrev confirm : Rsl
confirm = messages.EstablishConfirm (record { channel = 0x0a; link = 0x43 })

abbrev life : List BaseCall
life =
    brings_up 0x0a Zero (hex "05") ∷ activates 0x0a ∷ activates 0x0a ∷ establishes 0x0a Zero (Some (hex "05 24"))
    ∷ establishes 0x41 Zero None ∷ establishes 0x0a Three None ∷ brings_up 0x0a Three (hex "09 01") ∷ tells confirm
    ∷ tells (messages.RfChannelRelease 0x0a) ∷ gives_next ∷ activates 0x41 ∷ releases 0x0a ∷ releases 0x7f ∷ gives_next ∷ []

life_messages : messages_made (new_base 1) life ≡
    messages.ChannelActivationAck (record { channel = 0x0a; frame = Some (record { 0 = 0 }) })
    ∷ messages.EstablishIndication (record { channel = 0x0a; link = 0x00; l3 = Some (hex "05 24") })
    ∷ messages.EstablishIndication (record { channel = 0x0a; link = 0x43; l3 = None })
    ∷ messages.DataIndication (record { channel = 0x0a; link = 0x43; l3 = hex "09 01" })
    ∷ messages.EstablishConfirm (record { channel = 0x0a; link = 0x43 })
    ∷ messages.ChannelActivationAck (record { channel = 0x41; frame = Some (record { 0 = 0 }) })
    ∷ messages.RfChannelReleaseAck 0x0a ∷ messages.RfChannelReleaseAck 0x7f ∷ []
life_messages = refl

life_given : messages_given (new_base 1) life ≡
    messages.ChannelActivationAck (record { channel = 0x0a; frame = Some (record { 0 = 0 }) })
    ∷ messages.EstablishIndication (record { channel = 0x0a; link = 0x00; l3 = Some (hex "05 24") }) ∷ []
life_given = refl

life_end : after_calls (new_base 1) life ≡ record {
  station = 1;
  active = hex "41";
  messages =
      messages.EstablishIndication (record { channel = 0x0a; link = 0x43; l3 = None })
      ∷ messages.DataIndication (record { channel = 0x0a; link = 0x43; l3 = hex "09 01" })
      ∷ messages.EstablishConfirm (record { channel = 0x0a; link = 0x43 })
      ∷ messages.ChannelActivationAck (record { channel = 0x41; frame = Some (record { 0 = 0 }) })
      ∷ messages.RfChannelReleaseAck 0x0a ∷ messages.RfChannelReleaseAck 0x7f ∷ [];
}
life_end = refl

-- ---- the first life of a station's end: nothing is brought up on a channel that isn't active, and
-- none is activated twice

abbrev first_calls : List BaseCall
first_calls = brings_up 0x41 Zero (hex "03 05") ∷ activates 0x41 ∷ activates 0x41 ∷ releases 0x41 ∷ gives_next ∷ gives_next
    ∷ gives_next ∷ []

its_refusals : (refusal_unless_active (new_base 1) 0x41 ≡ Some NotActive) × (refusal_of_activate (new_base 1) 0x41 ≡ None) ×
    (refusal_of_activate (after_calls (new_base 1) (brings_up 0x41 Zero (hex "03 05") ∷ activates 0x41 ∷ [])) 0x41 ≡ Some Busy)
its_refusals = (refl, refl, refl)

its_messages : messages_given (new_base 1) first_calls ≡
    messages.ChannelActivationAck (record { channel = 0x41; frame = Some (record { 0 = 0 }) }) ∷ messages.RfChannelReleaseAck 0x41 ∷ []
its_messages = refl

nothing_is_left : after_calls (new_base 1) first_calls ≡ new_base 1
nothing_is_left = refl

-- ---- what `tell` makes: CHANNEL REQUIRED, HANDOVER DETECTION, MEASUREMENT RESULT, ESTABLISH CONFIRM, RELEASE INDICATION

told_ones : map is_told
    (messages.ChannelRequired (record { channel = 0x88; reference = record { access = 1; frame = 0 }; access_delay = record { 0 = 0 } })
    ∷ messages.HandoverDetection (record { channel = 0x41; access_delay = None })
    ∷ messages.MeasurementResult (record { channel = 0x41; number = record { 0 = 0 }; uplink = None; bs_power = None; l1 = None; l3 = None })
    ∷ confirm ∷ messages.ReleaseIndication (record { channel = 0x41; link = 0x00 }) ∷ [])
    ≡ true ∷ true ∷ true ∷ true ∷ true ∷ []
told_ones = refl

untold_ones : map is_told
    (messages.DataIndication (record { channel = 0x41; link = 0x00; l3 = hex "05" })
    ∷ messages.EstablishIndication (record { channel = 0x41; link = 0x00; l3 = None })
    ∷ messages.ChannelActivationAck (record { channel = 0x41; frame = None }) ∷ messages.RfChannelReleaseAck 0x41 ∷ messages.ReleaseConfirm (record { channel = 0x41; link = 0x00 }) ∷ [])
    ≡ false ∷ false ∷ false ∷ false ∷ false ∷ []
untold_ones = refl
