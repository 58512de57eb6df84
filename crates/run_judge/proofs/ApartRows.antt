-- SPDX-License-Identifier: MIT OR Apache-2.0
-- Rows: judging apart, if two channels have the same initial message.
use Rattle.std.proofs.Common.{◌≡◌, ℕ, false, true, [], ◌∷◌, Option, Some, None, map, option_map, refl}
use Rattle.dtap_codec.specs.declared.sapi.Sapi.TheVariants.{Zero}
use Rattle.run_judge.specs.declared.channels.ChannelView.TheVariants as views
use Rattle.run_judge.specs.declared.flow.Order.TheVariants.{InOrder}
use Rattle.run_judge.specs.declared.said.Said.TheVariants as says
use Rattle.run_judge.specs.declared.said.StationChannel.{StationChannel}
use Rattle.run_judge.specs.Apart.{beginnings, begun_apart, gives_again, pair_of, waits_on}
use Rattle.run_judge.specs.Channels.{view_at}
use Rattle.run_judge.specs.Flow.{passed_in}
use Rattle.run_judge.specs.Judging.{Judging}
use Rattle.run_judge.specs.Message.{message_in}
use Rattle.run_judge.proofs.Lives.{at, due, first, initial, life, one, second, two}

abbrev third : StationChannel
third = at 3 8

-- two mobiles send the same initial message, of which the second sends one more, and a third mobile
-- another one; the switch is asked
abbrev asked_for_two : Judging
asked_for_two = life (says.Establishes first initial ∷ says.Establishes third two ∷ says.Establishes second initial
    ∷ says.Brings second Zero one ∷ says.Requests 7 initial ∷ [])

-- ---- whether there are two

two_beginnings : beginnings 7 initial asked_for_two ≡ Some (pair_of first second)
two_beginnings = refl

-- of a connection that isn't there, or began on one channel, or on none
none_of_another : beginnings 8 initial asked_for_two ≡ None
none_of_another = refl

one_beginning : beginnings 7 initial (life (says.Establishes first initial ∷ says.Requests 7 initial ∷ [])) ≡ None
one_beginning = refl

no_beginning : beginnings 7 initial (life (says.Requests 7 initial ∷ [])) ≡ None
no_beginning = refl

three_beginnings : beginnings 7 initial (life (says.Establishes first initial ∷ says.Establishes second initial
    ∷ says.Establishes third initial ∷ says.Requests 7 initial ∷ [])) ≡ None
three_beginnings = refl

waiting : waits_on first initial asked_for_two ≡ true
waiting = refl

waiting_with_another : waits_on third initial asked_for_two ≡ false
waiting_with_another = refl

waiting_no_more : waits_on first initial (begun_apart first second 7 5 asked_for_two) ≡ false
waiting_no_more = refl

-- ---- the connection began on one of them

abbrev connection_in : Judging → Option (ℕ × StationChannel)
connection_in j = option_map (λ c. (c.number, c.serving.at)) (j.connections 7)

began_on_the_first : connection_in (begun_apart first second 7 5 asked_for_two) ≡ Some (1, first)
began_on_the_first = refl

began_on_the_second : connection_in (begun_apart second first 7 5 asked_for_two) ≡ Some (1, second)
began_on_the_second = refl

-- with what came there
came_behind : option_map (λ c. c.up.zero.order) ((begun_apart second first 7 5 asked_for_two).connections 7)
    ≡ Some (InOrder (record { due = due 0 one 4 ∷ []; passed = passed_in 0 5 initial ∷ []; reached = 0 }))
came_behind = refl

came_on_the_other : view_at (begun_apart first second 7 5 asked_for_two).channels second
    ≡ views.Opened (record { message = initial; frame = 3; early = record { sapi = Zero; message = one; frame = 4; is_optional = false } ∷ [] })
came_on_the_other = refl

-- and nothing else is known
came_elsewhere : view_at (begun_apart first second 7 5 asked_for_two).channels third ≡ views.Unknown
came_elsewhere = refl

-- ---- the switch's references

abbrev with_two : Judging
with_two = life (says.Requests 7 initial ∷ says.Requests 8 initial ∷ says.Confirms 7 90 ∷ [])

given_again : map (λ said. gives_again said with_two) (says.Confirms 8 90 ∷ says.Confirms 8 91 ∷ says.Confirms 9 90
    ∷ says.Confirms 7 90 ∷ says.Ends 8 ∷ []) ≡ true ∷ false ∷ false ∷ false ∷ false ∷ []
given_again = refl

-- ---- messages

messages : map message_in (says.Establishes first one ∷ says.Brings first Zero two ∷ says.Hands first Zero one
    ∷ says.Requests 7 two ∷ says.Passes 90 Zero one ∷ says.Transfers 7 Zero two ∷ says.Ends 7 ∷ [])
    ≡ one ∷ two ∷ one ∷ two ∷ one ∷ two ∷ [] ∷ []
messages = refl
