-- SPDX-License-Identifier: MIT OR Apache-2.0
-- A connection that ends while a message of it waits for the switch.
use Rattle.world_laws.proofs.Prelude.{◌≡◌, [], ◌∷◌, map, refl, Zero, Three, Carries, next, Upper, AirUp, AirAck, BasePush}
use Rattle.world_laws.proofs.Prelude.{BaseDown, Handle, SwitchTakes, put, World, opened, after_all, flow, HasEnded, PutsNoMore, taken_of}
use Rattle.world_laws.proofs.Prelude.{waiting_of, carried_for}
use Rattle.octets.proofs.Hex.{hex}
use Rattle.dtap_codec.specs.Places.Rise.{over}
use Rattle.controller_model.specs.Views.{forwarded}
use Rattle.world_model.proofs.Worlds.{on_literals}

-- the second message of the mobile waits for the switch, which took the first
abbrev waiting : World
waiting = after_all opened (Upper 1 Zero (hex "03 05") ∷ AirUp 1 Zero ∷ Upper 1 Three (hex "09 01") ∷ AirUp 1 Three ∷ BasePush 1 ∷ Handle ∷ BasePush 1 ∷ Handle ∷ BasePush 1 ∷ Handle ∷ [])

taken : flow (taken_of (waiting).actors 1) ≡ (hex "05 24 71") ∷ []
unfolding on_literals forwarded
taken = refl

-- a short message behind it is none of the flow
waits : waiting_of (waiting).actors 1 ≡ (hex "03 45") ∷ (hex "09 01") ∷ []
unfolding on_literals forwarded
waits = refl

waits_of_the_flow : flow (waiting_of (waiting).actors 1) ≡ (hex "03 45") ∷ []
unfolding on_literals forwarded
waits_of_the_flow = refl

first : Carries 4 ((hex "05 24 71") ∷ (hex "03 05") ∷ []) 0 (hex "05 24 71")
first = record { message = hex "05 24 71"; is_sent = refl; is_clear = record { is_flow = refl; cleared = refl }; carries = refl }

second : Carries 4 ((hex "05 24 71") ∷ (hex "03 05") ∷ []) 1 (hex "03 45")
second = record { message = hex "03 05"; is_sent = refl; is_clear = record { is_flow = refl; cleared = refl }; carries = refl }

-- both are the first that it sent
ends_in_order : HasEnded 4 (waiting).actors 1 1
unfolding on_literals forwarded
ends_in_order = record { one = _; found = refl; in_order = (2, next first (next second (over 2))) }

-- ---- what the switch takes, and what the controller puts

as_it_was_put : taken_of (after_all waiting (SwitchTakes ∷ [])).actors 1 ≡ (hex "05 24 71") ∷ (hex "03 45") ∷ []
unfolding on_literals forwarded
as_it_was_put = refl

no_more_at_a_break : PutsNoMore (waiting).actors 1 (BaseDown 1)
unfolding on_literals forwarded
no_more_at_a_break = tt

-- one more is put where its message is handled
one_more : map (λ entry. carried_for 1 entry.out) (put 0 (after_all waiting (Upper 1 Zero (hex "03 0f") ∷ AirAck 1 Zero ∷ AirUp 1 Zero ∷ BasePush 1 ∷ [])).actors Handle) ≡ ((hex "03 8f") ∷ []) ∷ []
unfolding on_literals forwarded
one_more = refl

-- but not while the link of the switch is down
none_at_a_broken_link : put 0 (after_all waiting (Upper 1 Zero (hex "03 0f") ∷ AirAck 1 Zero ∷ AirUp 1 Zero ∷ BasePush 1 ∷ BaseDown 0 ∷ [])).actors Handle ≡ []
unfolding on_literals forwarded
none_at_a_broken_link = refl
