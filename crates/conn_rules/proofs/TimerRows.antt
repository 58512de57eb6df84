-- SPDX-License-Identifier: MIT OR Apache-2.0
-- Timers and the waiting request against literal rows.
use Rattle.conn_rules.proofs.Prelude.{◌≡◌, ℕ, true, false, List, [], ◌∷◌, Some, None, refl, Assignment, Zero, hex, Connection}
use Rattle.conn_rules.specs.declared.input.Input.TheVariants as inputs
use Rattle.conn_rules.specs.Table.{row_of}
use Rattle.conn_rules.specs.Timers.{after_pass}
use Rattle.conn_rules.proofs.Lives.{active, Turn, turn, after, cell_1, on_1, on_2, request, changing, preparing, handed_over, two_drain, three_drain, unconfirmed}

-- so many milliseconds in the state, and so many for which the oldest drains
abbrev at : ℕ → ℕ → Connection → Connection
at waited drained s = record s { waited = waited; drained = drained }

abbrev waited_after : Connection → List Turn → ℕ
waited_after s turns = (after s turns).waited

abbrev drained_after : Connection → List Turn → ℕ
drained_after s turns = (after s turns).drained

a_state_begins_at_0 : waited_after (at 4000 0 preparing) (turn (inputs.ActivationAck (on_1 0x0a)) None ∷ []) ≡ 0
unfolding row_of
a_state_begins_at_0 = refl

what_leaves_the_state_leaves_its_timer : waited_after (at 4000 0 preparing) (turn (inputs.Dtap (on_1 0x41) Zero (hex "03 45")) None ∷ [])
    ≡ 4000
unfolding row_of
what_leaves_the_state_leaves_its_timer = refl

rest_begins_at_0 : waited_after (at 4000 0 changing) (turn (inputs.Failure (on_1 0x41) Assignment (record { 0 = 3 })) None ∷ []) ≡ 0
unfolding row_of
rest_begins_at_0 = refl

confirmed_begins_at_0 : waited_after (at 4000 0 unconfirmed) (turn (inputs.ConnectionConfirm 0x800001) None ∷ []) ≡ 0
unfolding row_of
confirmed_begins_at_0 = refl

draining_begins_at_0 : waited_after (at 4000 0 changing) (turn (inputs.Complete (on_1 0x0a) Assignment (record { 0 = 0 })) None ∷ []) ≡ 0
unfolding row_of
draining_begins_at_0 = refl

drain_time_begins_at_0 : drained_after (at 4000 0 changing) (turn (inputs.Complete (on_1 0x0a) Assignment (record { 0 = 0 })) None ∷ []) ≡ 0
unfolding row_of
drain_time_begins_at_0 = refl

a_begin_leaves_the_drain_time : drained_after (at 700 1500 two_drain) (turn request (Some (cell_1 0x0a)) ∷ []) ≡ 1500
unfolding row_of
a_begin_leaves_the_drain_time = refl

a_refusal_leaves_the_drain_time : drained_after (at 700 1500 two_drain) (turn request (Some (cell_1 0x0a)) ∷ turn (inputs.ActivationNack (on_1 0x0a)) None ∷ []) ≡ 1500
unfolding row_of
a_refusal_leaves_the_drain_time = refl

another_change_leaves_the_drain_time : drained_after (at 700 1500 two_drain) (turn request (Some (cell_1 0x0a)) ∷ turn (inputs.ActivationAck (on_1 0x0a)) None ∷ turn (inputs.Complete (on_1 0x0a) Assignment (record { 0 = 0 })) None ∷ []) ≡ 1500
unfolding row_of
another_change_leaves_the_drain_time = refl

a_done_channel_leaves_the_drain_time : drained_after (at 700 1500 two_drain) (turn (inputs.ReleaseAck (on_2 0x41)) None ∷ []) ≡ 1500
unfolding row_of
a_done_channel_leaves_the_drain_time = refl

another_oldest_begins_the_drain_time : drained_after (at 700 1500 two_drain) (turn (inputs.ReleaseAck (on_1 0x41)) None ∷ []) ≡ 0
unfolding row_of
another_oldest_begins_the_drain_time = refl

a_release_in_draining_leaves_the_timer : waited_after (at 700 1500 two_drain) (turn (inputs.ReleaseAck (on_1 0x41)) None ∷ []) ≡ 700
unfolding row_of
a_release_in_draining_leaves_the_timer = refl

the_last_release_enters_active : waited_after (at 700 1500 handed_over) (turn (inputs.ReleaseAck (on_1 0x41)) None ∷ []) ≡ 0
unfolding row_of
the_last_release_enters_active = refl

without_old_channels_no_drain_time : drained_after (at 700 1500 handed_over) (turn (inputs.ReleaseAck (on_1 0x41)) None ∷ []) ≡ 0
unfolding row_of
without_old_channels_no_drain_time = refl

a_clear_ends_the_timer : waited_after (at 700 1500 two_drain) (turn (inputs.ClearCommand) None ∷ []) ≡ 0
unfolding row_of
a_clear_ends_the_timer = refl

a_clear_ends_the_drain_time : drained_after (at 700 1500 two_drain) (turn (inputs.ClearCommand) None ∷ []) ≡ 0
unfolding row_of
a_clear_ends_the_drain_time = refl

-- ---- time passes

passes : after_pass 250 (at 700 1500 two_drain) ≡ at 950 1750 two_drain
unfolding row_of
passes = refl

passes_while_none_drains : after_pass 250 (at 700 0 active) ≡ at 950 0 active
unfolding row_of
passes_while_none_drains = refl

-- a timer stops at the greatest number of 64 bits
saturates_at_most : after_pass 2 (at 18446744073709551614 18446744073709551615 two_drain) ≡ at 18446744073709551615 18446744073709551615 two_drain
unfolding row_of
saturates_at_most = refl

reaches_the_greatest : after_pass 1 (at 18446744073709551614 18446744073709551613 two_drain) ≡ at 18446744073709551615 18446744073709551614 two_drain
unfolding row_of
reaches_the_greatest = refl

-- ---- the waiting request

waits_in_preparing : (after preparing (turn request None ∷ [])).waits ≡ true
unfolding row_of
waits_in_preparing = refl

waits_no_more_once_it_began : (after preparing (turn request None ∷ turn (inputs.ActivationAck (on_1 0x0a)) None ∷ turn (inputs.Complete (on_1 0x0a) Assignment (record { 0 = 0 })) (Some (cell_1 0x49)) ∷ [])).waits ≡ false
unfolding row_of
waits_no_more_once_it_began = refl

waits_no_more_once_it_was_answered : (after preparing (turn request None ∷ turn (inputs.ActivationAck (on_1 0x0a)) None ∷ turn (inputs.Complete (on_1 0x0a) Assignment (record { 0 = 0 })) None ∷ [])).waits ≡ false
unfolding row_of
waits_no_more_once_it_was_answered = refl

waits_while_three_drain : (after three_drain (turn request None ∷ [])).waits ≡ true
unfolding row_of
waits_while_three_drain = refl

waits_no_more_after_a_clear : (after three_drain (turn request None ∷ turn (inputs.ClearCommand) None ∷ [])).waits ≡ false
unfolding row_of
waits_no_more_after_a_clear = refl

begins_at_once_in_draining : (after two_drain (turn request None ∷ [])).waits ≡ false
unfolding row_of
begins_at_once_in_draining = refl
