-- SPDX-License-Identifier: MIT OR Apache-2.0
-- What a step does to one connection, at literal values.
use Rattle.controller_model.proofs.Prelude.{◌≡◌, true, false, [], ◌∷◌, Some, None, refl, sym, arith, true≢false, Message, access_activation, hex}
use Rattle.controller_model.proofs.Prelude.{handing, rf_channel_release, Input, Complete, Active, Closed, Live, Removed, WaitActivation}
use Rattle.controller_model.proofs.Prelude.{Connection, new_connection, Zero, Acts, FitsNone, IsAged, IsBrought, kept, passed, ages}
use Rattle.controller_model.proofs.Prelude.{takes_row}
use Rattle.controller_model.proofs.Prelude.{opens, rests, breaks, of_frame, nothing, passes, reports}
use Rattle.conn_rules.specs.declared.input.Input.TheVariants as inputs
use Rattle.conn_rules.specs.Table.{row_of}
use Rattle.controller_model.proofs.LifeLaws.OwnRows.{own}
use Rattle.controller_model.proofs.LifeLaws.UsedRows.{channel, connection}

-- ---- a connection that is removed isn't kept

none_when_removed : kept (connection Removed) ≡ None
none_when_removed = refl

remains_when_cleared : kept (connection (Closed Complete)) ≡ Some (connection (Closed Complete))
remains_when_cleared = refl

remains_before_access : kept (connection WaitActivation) ≡ Some (connection WaitActivation)
remains_before_access = refl

-- ---- the input of a row: what a frame or a break brings, a move by a report, a timer

by_a_frame : IsBrought (of_frame (inputs.Released 5)) (inputs.Released 5)
by_a_frame = refl

by_no_other_frame : IsBrought (of_frame inputs.ClearCommand) inputs.ConnectionRefused → ⊥
by_no_other_frame is = absurd (cc is)

by_a_report : IsBrought reports inputs.Move
by_a_report = refl

by_no_timer_of_a_report : IsBrought reports inputs.Expiry → ⊥
by_no_timer_of_a_report is = absurd (cc is)

by_a_break : IsBrought (breaks inputs.SwitchDown) inputs.SwitchDown
by_a_break = refl

by_no_other_break : IsBrought (breaks (inputs.StationDown 1)) inputs.SwitchDown → ⊥
by_no_other_break is = absurd (cc is)

by_the_timer : IsBrought passes inputs.Expiry
by_the_timer = tt

by_the_drain_time : IsBrought passes inputs.DrainExpiry
by_the_drain_time = tt

by_no_clear_of_time : IsBrought passes inputs.ClearCommand → ⊥
by_no_clear_of_time is = is

by_nothing : IsBrought nothing inputs.Expiry → ⊥
by_nothing is = is

-- ---- time

abbrev draining : Connection
draining = connection (Live 5 Active)

passes_for_both_timers : passed draining 7 ≡ record draining { waited = 7; drained = 7 }
passes_for_both_timers = refl

aged_by_nothing : IsAged own own
aged_by_nothing = ([], refl)

aged_twice : IsAged draining (record draining { waited = 12; drained = 12 })
aged_twice = (5 ∷ 7 ∷ [], refl)

-- ---- no row fits

-- Active knows no CREF, whatever is offered
misses : FitsNone (of_frame inputs.ConnectionRefused) (Some own)
unfolding row_of
misses = (None, refl)

misses_a_break : FitsNone (breaks (inputs.StationDown 2)) (Some own)
unfolding row_of
misses_a_break = (None, refl)

fits : FitsNone (of_frame inputs.ClearCommand) (Some own) → ⊥
unfolding row_of
fits none = absurd (cc none.1)

fits_a_break : FitsNone (breaks (inputs.StationDown 1)) (Some own) → ⊥
unfolding row_of
fits_a_break none = absurd (cc none.1)

-- ---- one row at most

abbrev hands : Message
hands = handing (channel 1 0x41) Zero (hex "05 08")

abbrev downlink : Input
downlink = inputs.Downlink Zero (hex "05 08")

does_a_row : Acts 7 9 true (of_frame downlink) (Some own) (hands ∷ []) (Some own)
unfolding row_of
does_a_row = takes_row own own downlink None (record { outs = hands ∷ []; next = own }) refl ([], refl) refl refl refl refl

begins : Acts 9 9 true nothing None (access_activation (channel 1 0x41) ∷ []) (Some (new_connection 9 (channel 1 0x41) (record { access = 0x0b; frame = 3 }) 2))
begins = opens refl refl (channel 1 0x41) (record { access = 0x0b; frame = 3 }) 2 refl refl refl refl

-- nothing is put where nothing is brought
puts_nothing : Acts 7 9 true nothing (Some own) (rf_channel_release (channel 1 0x41) ∷ []) (Some own) → ⊥
puts_nothing (rests put after none) = absurd (cc put)
puts_nothing (ages old s is before aged put after) = absurd (cc put)
puts_nothing (opens next up c request delay is before put after) = absurd (cc before)
puts_nothing (takes_row old s input offer r before aged is row put after) = is

-- nor does anything change
changes_nothing : Acts 7 9 true nothing (Some own) [] None → ⊥
changes_nothing (rests put after none) = absurd (cc after)
changes_nothing (ages old s is before aged put after) = absurd (cc is)
changes_nothing (opens next up c request delay is before put after) = absurd (cc before)
changes_nothing (takes_row old s input offer r before aged is row put after) = is

-- the next one begins, and no other
not_another : Acts 8 9 true nothing None (access_activation (channel 1 0x41) ∷ []) (Some own) → ⊥
not_another (rests put after none) = absurd (cc put)
not_another (ages old s is before aged put after) = absurd (cc put)
not_another (opens next up c request delay is before put after) = absurd (omega (arith, next))
not_another (takes_row old s input offer r before aged is row put after) = is

-- while the link of the switch is up
not_while_it_is_down : Acts 9 9 false nothing None (access_activation (channel 1 0x41) ∷ []) (Some own) → ⊥
not_while_it_is_down (rests put after none) = absurd (cc put)
not_while_it_is_down (ages old s is before aged put after) = absurd (cc put)
not_while_it_is_down (opens next up c request delay is before put after) = true≢false (sym up)
not_while_it_is_down (takes_row old s input offer r before aged is row put after) = is
