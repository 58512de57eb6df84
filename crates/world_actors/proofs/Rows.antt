-- SPDX-License-Identifier: MIT OR Apache-2.0
-- The channels where mobiles can act, and the lines that stations can take, in worlds of literal
-- events. Mobile 1 is on channel 41 of station 1, in its first tenure.
use Rattle.world_actors.proofs.Prelude.{◌≡◌, ℕ, true, false, [], ◌∷◌, Some, None, refl, place_at, On, Moving, Gone}
use Rattle.world_actors.proofs.Prelude.{Tenure, Actors}
use Rattle.octets.proofs.Hex.{hex}
use Rattle.conn_messages.specs.declared.channel.Change.TheVariants.{Handover}
use Rattle.world_model.specs.declared.event.Event.TheVariants.{BaseDown, Connect}
use Rattle.world_model.specs.declared.seat.Command.{Command}
use Rattle.world_model.specs.World.{new_spot, with_spot}
use Rattle.world_model.proofs.Rows.{opened}
use Rattle.world_model.proofs.Worlds.{on_literals, after_all}
use Rattle.world_actors.specs.Seats.{is_asking, is_asking_by, is_new_by, moving_from, opens_by, reached_by, reached_from, commanded_from}
use Rattle.world_actors.specs.Taking.{can_take, is_spent}

abbrev first : Tenure
first = record { at = place_at 1 0x41; number = 1 }

abbrev command : Command
command = record { change = Handover; target = record { at = place_at 2 0x0a; number = 3 } }

-- ---- the channel where a mobile acts

reached : reached_by (opened).actors 1 ≡ Some first
unfolding on_literals
reached = refl

no_such_mobile : reached_by (opened).actors 2 ≡ None
unfolding on_literals
no_such_mobile = refl

-- not in another tenure, nor where the link of its station is down
another_tenure : reached_from (opened).actors (On (record { at = place_at 1 0x41; number = 2 }) None) ≡ None
unfolding on_literals
another_tenure = refl

broken : reached_by (after_all opened (BaseDown 1 ∷ [])).actors 1 ≡ None
unfolding on_literals
broken = refl

-- ---- where it may leave, or left

commanded_on_the_air : commanded_from (opened).actors (On first (Some command)) ≡ Some (record { from = first; command = command })
unfolding on_literals
commanded_on_the_air = refl

commanded_nowhere : commanded_from (opened).actors (On first None) ≡ None
unfolding on_literals
commanded_nowhere = refl

moving : moving_from (Moving first command) ≡ Some (record { from = first; command = command })
moving = refl

on_its_channel : moving_from (On first (Some command)) ≡ None
on_its_channel = refl

-- ---- new, asking, and opening

nobody : is_new_by (opened).actors 0 ≡ false
unfolding on_literals
nobody = refl

known : is_new_by (opened).actors 1 ≡ false
unfolding on_literals
known = refl

unknown : is_new_by (opened).actors 2 ≡ true
unfolding on_literals
unknown = refl

asks : is_asking_by (after_all opened (Connect 2 1 (hex "05 24 71") true ∷ [])).actors 2 ≡ true
unfolding on_literals
asks = refl

is_assigned : is_asking_by (opened).actors 1 ≡ false
unfolding on_literals
is_assigned = refl

gone : is_asking Gone ≡ false
gone = refl

opens : opens_by (after_all opened (Connect 2 1 (hex "05 24 71") true ∷ [])).actors 2 ≡ true
unfolding on_literals
opens = refl

opened_before : opens_by (opened).actors 1 ≡ false
unfolding on_literals
opened_before = refl

-- ---- what a station can take

not_spent : is_spent (opened).actors 1 (Some 0x41) ≡ false
unfolding on_literals
not_spent = refl

-- both sides of the last number of a tenure
abbrev in_tenure : ℕ → Actors
in_tenure number = with_spot (place_at 1 0x0a) (record new_spot { tenure = number }) (opened).actors

last_but_one : is_spent (in_tenure 18446744073709551614) 1 (Some 0x0a) ≡ false
unfolding on_literals
last_but_one = refl

last : is_spent (in_tenure 18446744073709551615) 1 (Some 0x0a) ≡ true
unfolding on_literals
last = refl

another_channel : is_spent (in_tenure 18446744073709551615) 1 (Some 0x41) ≡ false
unfolding on_literals
another_channel = refl

activates_nothing : is_spent (opened).actors 1 None ≡ false
unfolding on_literals
activates_nothing = refl

no_line : can_take (opened).actors 1 None ≡ false
unfolding on_literals
no_line = refl
