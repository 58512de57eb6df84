-- SPDX-License-Identifier: MIT OR Apache-2.0
-- Other connections after a step that puts messages for one, and whom messages name, at literal
-- values.
use Rattle.controller_model.proofs.Prelude.{◌≡◌, ℕ, true, false, List, [], ◌∷◌, map, replicate, set, Option, Some, None, refl, sym, ap, hex}
use Rattle.controller_model.proofs.Prelude.{arith, Handover, Place, Message, Station, Out, outs_of, channel_release}
use Rattle.controller_model.proofs.Prelude.{immediate_assign_command, rf_channel_release, Asked, Active, Changing, Closed, Live}
use Rattle.controller_model.proofs.Prelude.{WaitActivation, WaitEstablish, Connection, ArePutOn, Report, RequestReference, slice_index}
use Rattle.controller_model.proofs.Prelude.{uses_of, FrameLeaves, IsLeft, Names, NamesItsMobile, NamesOf, SameRequest, KeepsToChannels}
use Rattle.controller_model.proofs.Prelude.{used_by, ChannelState, Free, InUse, Releasing, Step, Asks, Nothing, OnChannel, OnConnection}
use Rattle.controller_model.proofs.Prelude.{Ping, Reports, Controller, Entry, free_channels, new_controller, place_at, turn, new_averages}
use Rattle.controller_model.proofs.Prelude.{pong, step, concerned, ImmediateAssignCommand}
use Rattle.conn_rules.specs.declared.input.Input.TheVariants as inputs
use Rattle.controller_model.proofs.LifeLaws.UsedRows.{channel, connection}
use Rattle.controller_model.proofs.Lives.{down, from_station, usual_settings}
use Rattle.controller_model.proofs.OnLiterals.{on_literals}

abbrev pub entry : Connection → Entry
entry s = record { connection = s; averages = new_averages usual_settings s.serving }

-- connection 7 serves on 41 of station 1, another on 49
abbrev pub own : Connection
own = record (connection (Live 5 Active)) { draining = [] }

abbrev pub other : Connection
other = record own { number = 8; serving = channel 1 0x49 }

-- these channels of station 1 are in a state
abbrev pub with_channels : List ChannelState → List Connection → Controller
with_channels channels connections = record (new_controller usual_settings) { channels = free_channels ∷ channels ∷ free_channels ∷ []; entries = map entry connections; next_number = 9 }

-- 41 is in use by 7, 49 by 8; 0A is releasing by 7, 09 by 8
abbrev pub channels : List ChannelState
channels = set (set (set (set free_channels 0x41 (InUse 7)) 0x49 (InUse 8)) 0x0a (Releasing 7)) 0x09 (Releasing 8)

abbrev pub busy : Controller
busy = with_channels channels (own ∷ other ∷ [])

abbrev no_report : Report
no_report = record { ba_used = 0; dtx_used = false; rxlev_full = 0; valid = true; rxlev_sub = 0; rxqual_full = 0; rxqual_sub = 0; no_ncell = 0; entries = [] }

abbrev pub out_for : ℕ → Out
out_for number = record { to = 1; conn = number; frame = record { stream = 0x00; body = 1 ∷ [] } }

-- ---- what is left of a connection

abbrev waited_of : Option Entry → ℕ
waited_of None = 0
waited_of (Some e) = e.connection.waited

-- the number of its last report
abbrev report_of : Option Entry → ℕ
report_of None = 0
report_of (Some e) = e.averages.number

left_by_what_is_put_for_others : IsLeft 7 busy (turn (out_for 8 ∷ pong 1 ∷ []) (record busy { ignored = 1; entries = map entry (own ∷ []) }))
left_by_what_is_put_for_others = record { entry = refl; outs = refl; using = λ at. (λ same. same, λ same. same); releasing = λ at. (λ same. same, λ same. same) }

not_of_a_removed_connection : IsLeft 7 busy (turn [] (with_channels channels (other ∷ []))) → ⊥
not_of_a_removed_connection left = absurd (cc left.entry)

not_where_its_time_passes : IsLeft 7 busy (turn [] (with_channels channels (record own { waited = 1 } ∷ other ∷ []))) → ⊥
not_where_its_time_passes left = absurd (omega (arith, ap waited_of left.entry))

not_where_its_averages_change : IsLeft 7 busy (turn [] (record busy { entries = record (entry own) { averages = record (new_averages usual_settings (channel 1 0x41)) { number = 1 } } ∷ entry other ∷ [] })) →
    ⊥
not_where_its_averages_change left = absurd (omega (arith, ap report_of left.entry))

not_where_a_frame_is_put : IsLeft 7 busy (turn (out_for 8 ∷ out_for 7 ∷ []) busy) → ⊥
not_where_a_frame_is_put left = absurd (cc left.outs)

not_where_its_channel_is_freed : IsLeft 7 busy (turn [] (with_channels (set channels 0x41 Free) (own ∷ other ∷ []))) → ⊥
not_where_its_channel_is_freed left = absurd (cc ((left.using (place_at 1 0x41)).1 refl))

not_where_another_channel_is_its_own : IsLeft 7 busy (turn [] (with_channels (set channels 0x49 (InUse 7)) (own ∷ other ∷ []))) → ⊥
not_where_another_channel_is_its_own left = absurd (cc ((left.using (place_at 1 0x49)).0 refl))

not_where_its_old_channel_is_freed : IsLeft 7 busy (turn [] (with_channels (set channels 0x0a Free) (own ∷ other ∷ []))) → ⊥
not_where_its_old_channel_is_freed left = absurd (cc ((left.releasing (place_at 1 0x0a)).1 refl))

not_where_another_is_releasing : IsLeft 7 busy (turn [] (with_channels (set channels 0x09 (Releasing 7)) (own ∷ other ∷ []))) → ⊥
not_where_another_is_releasing left = absurd (cc ((left.releasing (place_at 1 0x09)).0 refl))

-- ---- whom a frame concerns: the connection that has the channel or had it, the next one, that of its number

concerns_who_has_the_channel : concerned busy (OnChannel (place_at 1 0x49) (inputs.ReleaseAck (place_at 1 0x49))) ≡ Some 8
concerns_who_has_the_channel = refl

concerns_who_releases_it : concerned busy (OnChannel (place_at 1 0x0a) (inputs.ReleaseAck (place_at 1 0x0a))) ≡ Some 7
concerns_who_releases_it = refl

concerns_nobody_on_a_free_channel : concerned busy (OnChannel (place_at 2 0x41) (inputs.ReleaseAck (place_at 2 0x41))) ≡ None
concerns_nobody_on_a_free_channel = refl

-- the channel of the report counts
concerns_who_is_measured : concerned busy (Reports (place_at 1 0x41) 8 no_report) ≡ Some 7
concerns_who_is_measured = refl

concerns_the_next : concerned busy (Asks (record { access = 0x7f; frame = 0x0102 }) 8) ≡ Some 9
concerns_the_next = refl

-- also where there is none
concerns_its_number : concerned busy (OnConnection 6 inputs.ClearCommand) ≡ Some 6
concerns_its_number = refl

concerns_nobody : map (concerned busy) (Nothing ∷ Ping ∷ []) ≡ None ∷ None ∷ []
concerns_nobody = refl

-- ---- a frame leaves all that it doesn't concern: RF CHANNEL RELEASE ACK of 0A, which 7 released

abbrev released : ℕ → List ℕ
released number = 0x08 ∷ 0x33 ∷ 0x01 ∷ number ∷ []

leaves_other : FrameLeaves 8 busy 1 (record { stream = 0x00; body = released 0x0a }) →
    IsLeft 8 busy (step busy (from_station 1 (released 0x0a)))
unfolding on_literals
leaves_other leaves = leaves (λ same. absurd (cc same))

says_nothing_of_its_own : FrameLeaves 7 busy 1 (record { stream = 0x00; body = released 0x0a })
unfolding on_literals
says_nothing_of_its_own differs = absurd (differs refl)

-- ---- the channels of a connection

abbrev places : List Place
places = place_at 1 0x41 ∷ place_at 2 0x43 ∷ place_at 3 0x42 ∷ place_at 2 0x41 ∷ place_at 1 0x43 ∷ []

-- it serves on 41 of station 1, its target is 43 of station 2, and 42 of station 3 drains
of_a_change : map (used_by (Some (connection (Live 5 (Changing (record { change = Handover; channel = channel 2 0x43 })))))) places ≡ true ∷ true ∷ false ∷ false ∷ false ∷ []
of_a_change = refl

once_it_is_closed : map (used_by (Some (connection (Closed (Asked 5))))) places ≡ replicate 5 false
once_it_is_closed = refl

of_none : map (used_by None) places ≡ replicate 5 false
of_none = refl

-- the break of the switch's link ends it
abbrev ends : List Message
ends = channel_release (channel 1 0x41) 1 ∷ rf_channel_release (channel 1 0x41) ∷ []

ends_on_its_channel : KeepsToChannels 7 busy (down 0)
unfolding on_literals
ends_on_its_channel = record { put = ends; outs = refl; placed = (refl, (refl, tt)) }

-- what is put is all that it puts for this connection
puts_its_frames : (keeps : KeepsToChannels 7 busy (down 0)) → outs_of 7 keeps.put ≡
    record { to = 1; conn = 7; frame = record { stream = 0x00; body = hex "03 01 01 41 02 00 0b 00 03 06 0d 01" } }
    ∷ record { to = 1; conn = 7; frame = record { stream = 0x00; body = hex "08 2e 01 41" } } ∷ []
unfolding on_literals
puts_its_frames keeps = sym keeps.outs

-- its channels are those from before the step, after which it isn't there
on_those_before : (keeps : KeepsToChannels 7 busy (down 0)) → ArePutOn (uses_of (channel 1 0x41 ∷ [])) keeps.put
on_those_before keeps = keeps.placed

-- ---- whom an IMMEDIATE ASSIGNMENT names: the mobile of this request, and this channel

abbrev request : RequestReference
request = record { access = 0x0b; frame = 0x0203 }

-- an octet of its layer 3 message
abbrev octet_of : ℕ → Message → ℕ
octet_of i (Station station (ImmediateAssignCommand a)) = slice_index a.information i
octet_of i _ = 0

abbrev station_of : Message → ℕ
station_of (Station station m) = station
station_of _ = 0

names_its_mobile : Names (channel 1 0x41) request (immediate_assign_command (channel 1 0x41) request 5)
names_its_mobile = (5, refl)

not_another_mobile : Names (channel 1 0x41) request (immediate_assign_command (channel 1 0x41) (record { access = 0x0c; frame = 0x0203 }) 5) →
    ⊥
not_another_mobile names = absurd (omega (arith, ap (octet_of 7) names.1))

not_of_another_frame : Names (channel 1 0x41) request (immediate_assign_command (channel 1 0x41) (record { access = 0x0b; frame = 0x0302 }) 5) →
    ⊥
not_of_another_frame names = absurd (omega (arith, ap (octet_of 8) names.1))

not_another_channel : Names (channel 1 0x41) request (immediate_assign_command (channel 1 0x49) request 5) → ⊥
not_another_channel names = absurd (omega (arith, ap (octet_of 4) names.1))

not_at_another_station : Names (channel 1 0x41) request (immediate_assign_command (channel 2 0x41) request 5) → ⊥
not_at_another_station names = absurd (omega (arith, ap station_of names.1))

names_nobody_else_by : Names (channel 1 0x41) request (rf_channel_release (channel 2 0x49))
names_nobody_else_by = tt

-- of a connection: its serving channel and its request, 0B in the frame 3
by_its_connection : NamesOf (Some own) (rf_channel_release (channel 1 0x49) ∷ immediate_assign_command (channel 1 0x41) (record { access = 0x0b; frame = 3 }) 63 ∷ [])
by_its_connection = (tt, ((63, refl), tt))

not_by_another : NamesOf (Some own) (rf_channel_release (channel 1 0x49) ∷ immediate_assign_command (channel 1 0x49) (record { access = 0x0b; frame = 3 }) 63 ∷ []) →
    ⊥
not_by_another names = absurd (omega (arith, ap (octet_of 4) names.1.0.1))

-- where there is none, nobody is named
not_by_none : NamesOf None (immediate_assign_command (channel 1 0x41) request 5 ∷ []) → ⊥
not_by_none names = absurd (omega (arith, ap (octet_of 4) (names.0 (channel 1 0x49) request).1))

ends_without_connection : NamesOf None ends
ends_without_connection = (λ c r. tt, (λ c r. tt, tt))

-- ---- the request remains the same

remains_the_same : SameRequest (Some own) (Some other)
remains_the_same = refl

not_with_another_octet : SameRequest (Some own) (Some (record own { request = record { access = 0x0c; frame = 3 } })) → ⊥
not_with_another_octet same = absurd (omega (arith, ap (λ (r : RequestReference). r.access) same))

not_in_another_frame : SameRequest (Some own) (Some (record own { request = record { access = 0x0b; frame = 4 } })) → ⊥
not_in_another_frame same = absurd (omega (arith, ap (λ (r : RequestReference). r.frame) same))

begins : SameRequest None (Some own)
begins = tt

removed_alike : SameRequest (Some own) None
removed_alike = tt

-- ---- what a step puts: RF CHANNEL ACTIVATION ACK of 41, for which 7 waits

abbrev waiting : Controller
waiting = with_channels channels (record own { state = WaitActivation } ∷ other ∷ [])

abbrev acknowledges : Step
acknowledges = from_station 1 (hex "08 22 01 41 08 00 00")

names_the_one_that_asked : NamesItsMobile 7 waiting acknowledges
unfolding on_literals
names_the_one_that_asked = record { put = immediate_assign_command (channel 1 0x41) (record { access = 0x0b; frame = 3 }) 2 ∷ []; outs = refl; names = ((2, refl), tt); keeps_request = refl }

puts_one_frame : (named : NamesItsMobile 7 waiting acknowledges) → outs_of 7 named.put ≡
    record { to = 1; conn = 7; frame = record { stream = 0x00; body = hex "0c 16 01 90 2b 17 2d 06 3f 00 41 20 14 0b 00 03 02 00 2b 2b 2b 2b 2b 2b 2b 2b 2b 2b 2b" } } ∷ []
unfolding on_literals
puts_one_frame named = sym named.outs

-- of the connection before the step, after which it isn't there
names_by_what_was : (named : NamesItsMobile 7 busy (down 0)) → NamesOf (Some own) named.put
names_by_what_was named = named.names

-- the request before and after the step
keeps_the_request : (named : NamesItsMobile 7 waiting acknowledges) → SameRequest (Some own) (Some (record own { state = WaitEstablish }))
unfolding on_literals
keeps_the_request named = named.keeps_request
