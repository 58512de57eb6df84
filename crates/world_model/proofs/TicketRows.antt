-- SPDX-License-Identifier: MIT OR Apache-2.0
-- Who sends in which tenure, and what stations take of it, at literal events.
use Rattle.world_model.proofs.Prelude.{◌≡◌, ℕ, ◌==◌, if◌then◌else◌, true, List, [], ◌∷◌, ◌++◌, Some, None, refl, arith, Assignment}
use Rattle.world_model.proofs.Prelude.{place_at, usual_settings, Zero, Event, Connect, AirUp, BaseTakes, BasePush, Handle, BaseDown, Asking}
use Rattle.world_model.proofs.Prelude.{On, Moving, Gone, Tenure, IsBy, LeadsBy, SitsBy, TakesFirstBy, on_seat, senders, actors_after_all}
use Rattle.world_model.proofs.Prelude.{Actors, new_actors, outbox_of}
use Rattle.octets.proofs.Hex.{hex}
use Rattle.world_model.proofs.Worlds.{on_literals}

begin : Actors
begin = new_actors usual_settings

tenure : ℕ → ℕ → Tenure
tenure channel number = record { at = place_at 1 channel; number = number }

-- two mobiles ask for channels of the first cell; the first one sends before it is assigned its
-- channel, and once it is
abbrev asking : List Event
asking = Connect 1 1 (hex "05 24 71") true ∷ Connect 2 1 (hex "05 24 72") true ∷ AirUp 1 Zero ∷ BasePush 1 ∷ Handle ∷ BasePush 1 ∷ Handle ∷ BaseTakes 1 ∷ BaseTakes 1 ∷ BasePush 1 ∷ Handle ∷ BasePush 1 ∷ Handle ∷ []

nobody_sends : senders begin asking ≡ []
unfolding on_literals begin
nobody_sends = refl

each_sends : senders begin (asking ++ BaseTakes 1 ∷ AirUp 1 Zero ∷ AirUp 2 Zero ∷ BaseTakes 1 ∷ AirUp 2 Zero ∷ AirUp 3 Zero ∷ [])
    ≡ record { mobile = 1; tenure = tenure 0x41 1 } ∷ record { mobile = 2; tenure = tenure 0x49 1 } ∷ []
unfolding on_literals begin tenure
each_sends = refl

-- ---- the mobile that sends is on the tenure

on_channel : on_seat 4 (On (tenure 0x41 2) None) ≡ record { mobile = 4; tenure = tenure 0x41 2 } ∷ []
on_channel = refl

on_the_way : on_seat 4 (Moving (tenure 0x41 2) (record { change = Assignment; target = tenure 0x09 1 })) ≡ []
on_the_way = refl

not_yet : on_seat 4 Asking ≡ []
not_yet = refl

no_more : on_seat 4 Gone ≡ []
no_more = refl

-- ---- what a station takes

at_command : Actors
at_command = actors_after_all begin asking

-- the IMMEDIATE ASSIGNMENT of channel 41 names mobile 1, and its tenure is the first
agrees : IsBy (λ t. if t.at.number == 0x41 then t.number else 0) at_command (BaseTakes 1)
unfolding on_literals begin at_command
agrees = λ up. refl

names_another : TakesFirstBy (λ t. 2) at_command 1 (outbox_of at_command 1) → ⊥
unfolding on_literals begin at_command
names_another is = cc

-- where the link is down it takes nothing
takes_nothing : IsBy (λ t. 2) (actors_after_all at_command (BaseDown 1 ∷ [])) (BaseTakes 1)
unfolding on_literals begin at_command
takes_nothing = λ up. absurd cc

-- a command agrees where its target is of the mobile to which it is handed
leads : LeadsBy (λ t. t.at.number) (tenure 0x41 3) (Some (tenure 0x41 5))
unfolding tenure
leads = refl

leads_another : LeadsBy (λ t. t.at.number) (tenure 0x41 3) (Some (tenure 0x0a 3)) → ⊥
unfolding tenure
leads_another is = cc

leads_nowhere : LeadsBy (λ t. t.at.number) (tenure 0x41 3) None
leads_nowhere = tt

sits : SitsBy (λ t. t.number) 7 (On (tenure 0x41 7) (Some (record { change = Assignment; target = tenure 0x0a 7 })))
unfolding tenure
sits = (refl, refl)

commanded_to_wrong_tenure : SitsBy (λ t. t.number) 7 (On (tenure 0x41 7) (Some (record { change = Assignment; target = tenure 0x0a 8 }))) →
    ⊥
unfolding tenure
commanded_to_wrong_tenure (own, other) = absurd (omega (arith, other))
