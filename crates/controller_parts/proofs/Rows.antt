-- SPDX-License-Identifier: MIT OR Apache-2.0
-- Rows: the words that literal frames are read as, and their effect on channels.
use Rattle.std.proofs.Common.{Bool, true, false, [], Some, None, refl, sym, replicate, arith, true≢false, ◌≡◌, ℕ, List, ◌∷◌, map}
use Rattle.octets.proofs.Hex.{hex}
use Rattle.conn_messages.specs.declared.out.Out.{Out}
use Rattle.controller_model.specs.Controller.{place_at, free_channels, state_in}
use Rattle.controller_model.specs.declared.channel_state.ChannelState.{ChannelState}
use Rattle.controller_model.specs.declared.channel_state.ChannelState.TheVariants.{Free, InUse, Releasing}
use Rattle.controller_model.specs.declared.word.Word.TheVariants.{Nothing, Ping, Asks, OnChannel, Reports, OnConnection}
use Rattle.controller_parts.specs.Following.{channels_by, handovers_by}
use Rattle.controller_model.specs.Reading.{word_of}
use Rattle.controller_parts.specs.Words.{IsFromSource, IsCarriedWord, IsReadableFrame, SaysSomething}
use Rattle.controller_model.proofs.OnLiterals.{on_literals}
use Rattle.bssmap_codec.specs.declared.fault.InterfaceFault.TheVariants as interface
use Rattle.ipa_framing.specs.declared.frame.Frame.{Frame}
use Rattle.rsl_codec.specs.declared.fault.RslFault.TheVariants as radio
use Rattle.dtap_codec.specs.declared.report.Report.{Report}
use Rattle.dtap_codec.specs.declared.sapi.Sapi.TheVariants.{Zero}
use Rattle.conn_rules.specs.declared.input.Input.TheVariants as inputs

-- ---- what holds of each word that a frame is read as

-- on its own channel alone
of_its_station : IsFromSource 2 (OnChannel (place_at 2 0x41) (inputs.ReleaseAck (place_at 2 0x41)))
of_its_station = (refl, λ e. omega (arith, e))

of_another_station : IsFromSource 2 (OnChannel (place_at 1 0x41) (inputs.ReleaseAck (place_at 1 0x41))) → ⊥
of_another_station h = omega (arith, h.0)

-- the switch has no channel, and asks for none
of_the_switch : IsFromSource 0 (OnChannel (place_at 0 0x41) (inputs.ReleaseAck (place_at 0 0x41))) → ⊥
of_the_switch h = h.1 refl

asked_by_a_station : IsFromSource 1 (Asks (record { access = 0x7f; frame = 0x0102 }) 5)
asked_by_a_station e = omega (arith, e)

asked_by_the_switch : IsFromSource 0 (Asks (record { access = 0x7f; frame = 0x0102 }) 5) → ⊥
asked_by_the_switch h = h refl

-- a station knows no connection
connection_of_the_switch : IsFromSource 0 (OnConnection 1 inputs.ClearCommand)
connection_of_the_switch = refl

connection_of_a_station : IsFromSource 1 (OnConnection 1 inputs.ClearCommand) → ⊥
connection_of_a_station h = omega (arith, h)

-- 1 to 251 octets
no_octet : IsCarriedWord (OnConnection 1 (inputs.Downlink Zero [])) → ⊥
no_octet h = omega (arith, h.0)

most_octets : IsCarriedWord (OnConnection 1 (inputs.Downlink Zero (replicate 251 5)))
most_octets = (omega arith, omega arith)

too_many_octets : IsCarriedWord (OnConnection 1 (inputs.Downlink Zero (replicate 252 5))) → ⊥
too_many_octets h = omega (arith, h.1)

empty_on_a_channel : IsCarriedWord (OnChannel (place_at 1 0x41) (inputs.Dtap (place_at 1 0x41) Zero [])) → ⊥
empty_on_a_channel h = omega (arith, h.0)

established_with_none : IsCarriedWord (OnChannel (place_at 1 0x41) (inputs.EstablishIndication (place_at 1 0x41) Zero None))
established_with_none = tt

established_with_too_many : IsCarriedWord (OnChannel (place_at 1 0x41) (inputs.EstablishIndication (place_at 1 0x41) Zero (Some (replicate 252 5)))) →
    ⊥
established_with_too_many h = omega (arith, h.1)

-- a report is valid, and of the station that spoke
abbrev report : Bool → Report
report valid = record { ba_used = 0; dtx_used = false; rxlev_full = 1; valid = valid; rxlev_sub = 2; rxqual_full = 3; rxqual_sub = 4; no_ncell = 0; entries = [] }

valid_report : IsCarriedWord (Reports (place_at 1 0x41) 5 (report true))
valid_report = refl

no_invalid_report : IsCarriedWord (Reports (place_at 1 0x41) 5 (report false)) → ⊥
no_invalid_report h = true≢false (sym h)

report_of_its_station : IsFromSource 1 (Reports (place_at 1 0x41) 5 (report true))
report_of_its_station = (refl, λ e. omega (arith, e))

report_of_another_station : IsFromSource 2 (Reports (place_at 1 0x41) 5 (report true)) → ⊥
report_of_another_station h = omega (arith, h.0)

report_of_the_switch : IsFromSource 0 (Reports (place_at 0 0x41) 5 (report true)) → ⊥
report_of_the_switch h = h.1 refl

-- whoever asks whether this end is there
asked_by_either : IsFromSource 0 Ping × IsFromSource 1 Ping
asked_by_either = (tt, tt)

-- ---- frames that may want memory

abbrev frame : ℕ → List ℕ → Frame
frame stream body = record { stream = stream; body = body }

-- RF CHANNEL RELEASE ACK of 41
readable_rsl : IsReadableFrame 1 (frame 0x00 (hex "08 33 01 41"))
unfolding on_literals
readable_rsl = tt

-- without a channel number
refused_rsl : IsReadableFrame 1 (frame 0x00 (hex "08 33")) → ⊥
unfolding on_literals
refused_rsl h = let same : radio.MissingElement 0x01 ≡ radio.Memory = h in cc

-- the type alone
short_rsl : IsReadableFrame 1 (frame 0x00 (hex "08")) → ⊥
unfolding on_literals
short_rsl h = let same : radio.Short ≡ radio.Memory = h in cc

rsl_of_the_switch : IsReadableFrame 0 (frame 0x00 (hex "08 33 01 41")) → ⊥
rsl_of_the_switch h = h

-- CREF
readable_sccp : IsReadableFrame 0 (frame 0xfd (hex "03 00 00 01 00 00"))
unfolding on_literals
readable_sccp = tt

refused_sccp : IsReadableFrame 0 (frame 0xfd (hex "03 00 00")) → ⊥
unfolding on_literals
refused_sccp h = let same : interface.Short ≡ interface.Memory = h in cc

sccp_of_a_station : IsReadableFrame 1 (frame 0xfd (hex "03 00 00 01 00 00")) → ⊥
sccp_of_a_station h = h

-- DT1 with CLEAR COMMAND, whose cause is 09
readable_data : IsReadableFrame 0 (frame 0xfd (hex "06 00 00 01 00 01 06 00 04 20 04 01 09"))
unfolding on_literals
readable_data = tt

-- the same without its cause
refused_data : IsReadableFrame 0 (frame 0xfd (hex "06 00 00 01 00 01 03 00 01 20")) → ⊥
unfolding on_literals
refused_data h = let same : interface.MissingElement 0x04 ≡ interface.Memory = h in cc

-- what a link's own management says is looked at without memory
ping_is_other : IsReadableFrame 1 (frame 0xfe (hex "00")) → ⊥
ping_is_other h = h

other_stream : IsReadableFrame 1 (frame 0x01 (hex "08 33 01 41")) → ⊥
other_stream h = h

-- ---- words that say something

nothing_is_said : SaysSomething Nothing → ⊥
nothing_is_said h = h

something_is_said : SaysSomething Ping × SaysSomething (Asks (record { access = 0x7f; frame = 0x0102 }) 5)
    × SaysSomething (OnChannel (place_at 1 0x41) (inputs.ReleaseAck (place_at 1 0x41)))
    × SaysSomething (Reports (place_at 1 0x41) 5 (report true)) × SaysSomething (OnConnection 1 inputs.ClearCommand)
something_is_said = (tt, tt, tt, tt, tt)

-- RF CHANNEL RELEASE ACK of 41; the same without a channel number
release_is_said : SaysSomething (word_of 1 (frame 0x00 (hex "08 33 01 41")))
unfolding on_literals
release_is_said = tt

refused_rsl_says_nothing : SaysSomething (word_of 1 (frame 0x00 (hex "08 33"))) → ⊥
unfolding on_literals
refused_rsl_says_nothing h = h

-- CREF; PING of a station, and PONG
refusal_is_said : SaysSomething (word_of 0 (frame 0xfd (hex "03 00 00 01 00 00")))
unfolding on_literals
refusal_is_said = tt

ping_is_said : SaysSomething (word_of 1 (frame 0xfe (hex "00")))
unfolding on_literals
ping_is_said = tt

pong_says_nothing : SaysSomething (word_of 1 (frame 0xfe (hex "01"))) → ⊥
unfolding on_literals
pong_says_nothing h = h

-- ---- channels: two links of stations behind the switch's, which has no channels

abbrev to_station : ℕ → List ℕ → Out
to_station station body = record { to = station; conn = 7; frame = record { stream = 0x00; body = body } }

abbrev all_free : List (List ChannelState)
all_free = free_channels ∷ free_channels ∷ free_channels ∷ []

-- 41 and 0A of station 1, 41 of station 2
abbrev states : List (List ChannelState) → List ChannelState
states channels = map (state_in channels) (place_at 1 0x41 ∷ place_at 1 0x0a ∷ place_at 2 0x41 ∷ [])

-- CHANNEL ACTIVATION of 41 for access, of 0A for an assignment, of 41 for a handover
abbrev access : Out
access = to_station 1 (hex "08 21 01 41 03 00 06 04 00 03 01 00")

abbrev assignment : Out
assignment = to_station 1 (hex "08 21 01 0a 03 01 06 04 00 01 08 01")

abbrev handover : Out
handover = to_station 2 (hex "08 21 01 41 03 02 06 04 00 03 01 00 09 00")

-- RF CHANNEL RELEASE of 41
abbrev release : ℕ → Out
release station = to_station station (hex "08 2e 01 41")

-- DATA REQUEST on 41, and a frame to the switch whose octets are those of a release
abbrev relayed : Out
relayed = to_station 1 (hex "03 01 01 41 02 00 0b 00 02 83 02")

abbrev to_switch : Out
to_switch = record { to = 0; conn = 7; frame = record { stream = 0xfd; body = hex "08 2e 01 41" } }

is_in_use : states (channels_by 7 all_free (access ∷ [])) ≡ InUse 7 ∷ Free ∷ Free ∷ []
is_in_use = refl

is_in_use_for_each_change : states (channels_by 7 all_free (access ∷ assignment ∷ handover ∷ [])) ≡ InUse 7 ∷ InUse 7 ∷ InUse 7 ∷ []
is_in_use_for_each_change = refl

is_releasing : states (channels_by 7 all_free (access ∷ handover ∷ release 1 ∷ [])) ≡ Releasing 7 ∷ Free ∷ InUse 7 ∷ []
is_releasing = refl

is_releasing_at_its_station : states (channels_by 7 all_free (access ∷ handover ∷ release 2 ∷ [])) ≡ InUse 7 ∷ Free ∷ Releasing 7 ∷ []
is_releasing_at_its_station = refl

-- the last one decides
is_in_use_again : states (channels_by 9 all_free (release 1 ∷ access ∷ [])) ≡ InUse 9 ∷ Free ∷ Free ∷ []
is_in_use_again = refl

is_left : states (channels_by 7 all_free (relayed ∷ to_switch ∷ [])) ≡ Free ∷ Free ∷ Free ∷ []
is_left = refl

-- only activation type 02 begins a handover
counts_handovers : handovers_by (access ∷ handover ∷ assignment ∷ handover ∷ release 2 ∷ relayed ∷ to_switch ∷ []) ≡ 2
counts_handovers = refl

counts_none : handovers_by (access ∷ assignment ∷ release 1 ∷ []) ≡ 0
counts_none = refl
