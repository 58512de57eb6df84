-- SPDX-License-Identifier: MIT OR Apache-2.0
-- What the names of connections say, at literal values.
use Rattle.world_laws.proofs.Prelude.{◌≡◌, ℕ, true, false, [], ◌∷◌, refl, ap, arith, ConnectionConfirm, connection_of, OnConnection}
use Rattle.world_laws.proofs.Prelude.{usual_settings, Zero, Clearing, Open, Upper, Connect, AirUp, BaseTakes, BasePush, BaseDown, Handle}
use Rattle.world_laws.proofs.Prelude.{SwitchTakes, SwitchDoes, Clear, Actors, World, new_world, outbox_of, opened, after_all, same_Some}
use Rattle.world_laws.proofs.Prelude.{IsUnknownForGood, IsOver, ArePeers, HasNotAsked, IsUnknownToSwitch}
use Rattle.octets.proofs.Hex.{hex}
use Rattle.conn_rules.specs.declared.input.Input.TheVariants as inputs
use Rattle.controller_model.specs.Views.{forwarded}
use Rattle.msc_end.specs.declared.connection.Connection.{Connection}
use Rattle.world_model.proofs.Worlds.{on_literals}
use Rattle.world_laws.specs.References.Agree.{AsksOnce, ConfirmsBy, ConfirmsIn, Knows, Only, Runs, IsFirstAt, reads_of}
use Rattle.world_laws.specs.References.Naming.{waits, named, cleared, reach_of}
use Rattle.world_laws.specs.References.Reads.{asks, carries, clears, tells, nothing, odd}

-- ---- how far a connection is

-- its channel is to be activated
abbrev begun : World
begun = after_all (new_world usual_settings) (Connect 1 1 (hex "05 24 71") true ∷ BasePush 1 ∷ Handle ∷ [])

-- the initial message is on its way to the controller
abbrev initial : World
initial = after_all begun (BaseTakes 1 ∷ BasePush 1 ∷ Handle ∷ BaseTakes 1 ∷ AirUp 1 Zero ∷ BasePush 1 ∷ [])

-- CR waits for the switch; the switch took it; CC is in the inbox
abbrev asking : World
asking = after_all initial (Handle ∷ [])

abbrev asked : World
asked = after_all asking (SwitchTakes ∷ BasePush 0 ∷ [])

has_not_asked : HasNotAsked (begun).actors 1
unfolding on_literals
has_not_asked = record { own = _; there = refl; is_early = tt }

unheard_of_before : IsUnknownToSwitch (initial).actors 1
unfolding on_literals forwarded
unheard_of_before = record { none_taken = refl; none_waits = refl }

it_asks : reads_of 1 (outbox_of (asking).actors 0) ≡ asks 1 (hex "05 24 71") ∷ []
unfolding on_literals
it_asks = refl

not_of_another : reads_of 2 (outbox_of (asking).actors 0) ≡ []
unfolding on_literals
not_of_another = refl

it_waits : reach_of (connection_of (asked).actors.controller 1) ≡ waits
unfolding on_literals
it_waits = refl

it_is_named : reach_of (connection_of (opened).actors.controller 1) ≡ named 0x800001
unfolding on_literals
it_is_named = refl

whereabouts_first : (c : Connection) × IsFirstAt 1 0 c (asked).actors.switch.connections
unfolding on_literals
whereabouts_first = (_, (refl, refl))

-- a message of the mobile, and CLEAR COMPLETE
abbrev speaking : World
speaking = after_all opened (Upper 1 Zero (hex "03 05") ∷ AirUp 1 Zero ∷ BasePush 1 ∷ Handle ∷ [])

abbrev clearing : World
clearing = after_all speaking (SwitchDoes (Clear 1) ∷ BasePush 0 ∷ Handle ∷ [])

it_carries_and_clears : reads_of 1 (outbox_of (clearing).actors 0) ≡ carries 0x800001 (hex "03 45") ∷ clears 0x800001 ∷ []
unfolding on_literals
it_carries_and_clears = refl

it_is_cleared : reach_of (connection_of (clearing).actors.controller 1) ≡ cleared
unfolding on_literals
it_is_cleared = refl

it_is_over : IsOver (clearing).actors 1
unfolding on_literals
it_is_over = record { past = omega arith; closed = λ there. there }

-- the link of the switch breaks before CR is put
abbrev cut_off : World
cut_off = after_all initial (BaseDown 0 ∷ Handle ∷ [])

it_is_unheard : IsUnknownForGood (cut_off).actors 1
unfolding on_literals forwarded
it_is_unheard = record { past = omega arith; none_taken = refl; none_waits = refl; unconfirmed = tt }

-- ---- what waits for the switch

asks_behind_nothing : AsksOnce 7 (nothing ∷ asks 7 (0x05 ∷ []) ∷ nothing ∷ [])
asks_behind_nothing = (refl, (tt, tt))

not_twice : AsksOnce 7 (asks 7 (0x05 ∷ []) ∷ asks 7 (0x05 ∷ []) ∷ []) → ⊥
not_twice once = once.1.0

not_for_another : AsksOnce 7 (asks 8 (0x05 ∷ []) ∷ []) → ⊥
not_for_another once = absurd (omega (arith, once.0))

not_with_what_is_odd : AsksOnce 7 (odd ∷ asks 7 (0x05 ∷ []) ∷ []) → ⊥
not_with_what_is_odd once = once

runs_to_the_clear : Runs 5 false (carries 5 (0x03 ∷ []) ∷ tells 5 ∷ clears 5 ∷ nothing ∷ []) true
runs_to_the_clear = ((refl, refl), ((refl, refl), ((refl, refl), (tt, refl))))

none_behind_a_clear : Runs 5 false (clears 5 ∷ carries 5 (0x03 ∷ []) ∷ []) true → ⊥
none_behind_a_clear runs = absurd cc

not_to_another : Runs 5 false (carries 6 (0x03 ∷ []) ∷ []) false → ⊥
not_to_another runs = absurd (omega (arith, runs.0.1))

no_second_request : Runs 5 false (asks 7 (0x05 ∷ []) ∷ []) false → ⊥
no_second_request runs = runs.0

-- ---- CC on its way

confirms_with_its_reference : ConfirmsBy (Only 0x800001) 7 (ConnectionConfirm 7 0x800001)
confirms_with_its_reference = (omega arith, omega arith, λ own. refl)

not_with_another : ConfirmsBy (Only 0x800001) 7 (ConnectionConfirm 7 0x800002) → ⊥
not_with_another confirms = absurd (omega (arith, confirms.2 refl))

another_with_any : ConfirmsBy (Only 0x800001) 7 (ConnectionConfirm 8 0x800002)
another_with_any = (omega arith, omega arith, λ own. absurd (omega (arith, own)))

comes_with_its_reference : ConfirmsIn (Only 0x800001) 7 (OnConnection 7 (inputs.ConnectionConfirm 0x800002)) → ⊥
comes_with_its_reference confirms = absurd (omega (arith, confirms refl))

-- ---- the switch's connections

abbrev of_peer : ℕ → Connection
of_peer number = record { peer = number; stage = Open; reception = record { modulus = 4; taken = [] }; number = 0x800001 }

first_behind_another : IsFirstAt 7 1 (of_peer 7) (of_peer 8 ∷ of_peer 7 ∷ [])
first_behind_another = ((λ same. absurd (omega (arith, same))), (refl, refl))

not_behind_its_own : IsFirstAt 7 1 (of_peer 7) (of_peer 7 ∷ of_peer 7 ∷ []) → ⊥
not_behind_its_own first_at = first_at.0 refl

-- a second one of its peer isn't the one of its peer
abbrev twice : Actors
twice = record (asked).actors { switch = record { modulus = 4; connections = of_peer 7 ∷ record { peer = 7; stage = Clearing; reception = record { modulus = 4; taken = [] }; number = 0x800002 } ∷ [] } }

not_two_of_a_peer : ArePeers twice → ⊥
not_two_of_a_peer are =
    let numbers : 0x800001 ≡ 0x800002 = ap (λ (c : Connection). c.number) (same_Some _ _ (are 2 _ refl).1) in
    absurd (omega (arith, numbers))

not_of_no_number : ArePeers (record (asked).actors { switch = record { modulus = 4; connections = of_peer 0 ∷ [] } }) → ⊥
not_of_no_number are = absurd (omega (arith, (are 1 _ refl).0))

knows_its_reference : Knows 5 false (named 5)
knows_its_reference = (refl, refl)

knows_no_other : Knows 5 false (named 6) → ⊥
knows_no_other knows = absurd (omega (arith, knows.0))

-- CLEAR COMPLETE isn't on its way while it knows the reference
not_once_cleared : Knows 5 true (named 5) → ⊥
not_once_cleared knows = absurd cc
